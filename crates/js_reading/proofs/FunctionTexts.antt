-- Functions, their parameters, and classes that stand in a text are read, from what is read of their parts.
use Rattle.std.proofs.Common.{◌≡◌, true, false, List, [], ◌∷◌, codes}
use Rattle.std.specs.Str.{IsUtf8}
use Rattle.js_term.specs.Term.{Text, Term, absent}
use Rattle.js_term.specs.declared.kind.Kind.{Kind}
use Rattle.js_syntax.specs.Nodes.{function_node, class_node}
use Rattle.js_syntax.specs.Tokens.{word, sign}
use Rattle.js_syntax.specs.Spelling as spell
use Rattle.js_syntax.specs.Spelling.{Async, Star, Naming}
use Rattle.js_reading.specs.Reading.{sees}
use Rattle.js_reading.proofs.TokensThere.{Seen, see_sign, see_word, sees_by, on_line}
use Rattle.js_reading.proofs.TokensEnd.{lexeme_sees}
use Rattle.js_reading.proofs.Claims.{FunctionOpens, plain_function, async_function, IsReadFunction, IsReadClass}
use Rattle.js_reading.proofs.Functions.{IsReadStar, no_star_read, star_read, IsReadNaming, Nameless, before_sign, unnamed_read, named_read, IsReadParameter, IsReadParameters, last_parameter_read, trailing_parameter_read, and_parameter_read, IsReadFormals, IsReadBody, function_read}
use Rattle.js_reading.proofs.Classes.{IsReadHeritage, IsReadElements, class_read}

-- ---- marks and names

pub async_utf8 : {async a b : Text} → Async async a b → IsUtf8 a → IsUtf8 b
async_utf8 spell.no_async u = u
async_utf8 (spell.with_async tok line) u = let x = see_word tok u in x.utf8

pub star_utf8 : {s a b : Text} → Star s a b → IsUtf8 a → IsUtf8 b
star_utf8 spell.no_star u = u
star_utf8 (spell.with_star tok) u = let x = see_sign tok u in x.utf8

pub naming_utf8 : {id : Term} {a b : Text} → Naming id a b → IsUtf8 a → IsUtf8 b
naming_utf8 spell.unnamed u = u
naming_utf8 (spell.named free tok) u = let x = see_word tok u in x.utf8

pub star_found : {s a b : Text} → Star s a b → IsUtf8 a → sees (codes "*") b ≡ false → IsReadStar s a b
star_found spell.no_star u h = no_star_read u h
star_found (spell.with_star tok) u h = star_read (see_sign tok u)

pub naming_found : {id : Term} {a b : Text} → Naming id a b → IsUtf8 a → Nameless b → IsReadNaming id a b
naming_found spell.unnamed u h = unnamed_read u h
naming_found (spell.named free tok) u h = named_read free (see_word tok u)

-- no star stands before a name
naming_no_star : {id : Term} {a b : Text} → Naming id a b → IsUtf8 a → sees (codes "*") b ≡ false → sees (codes "*") a ≡ false
naming_no_star spell.unnamed u h = h
naming_no_star (spell.named free tok) u h = sees_by (codes "*") (see_word tok u)

-- ---- functions

function_opens : {async a b c : Text} → Async async a b → IsUtf8 a → Seen (word (codes "function")) b c → FunctionOpens async a c
function_opens spell.no_async u x = plain_function x
function_opens (spell.with_async tok line) u x = async_function (see_word tok u) (on_line _ line) x

pub function_text : {k : Kind} {async s : Text} {id ps t : Term} {a b c d e f g : Text} → Async async a b → IsUtf8 a → Seen (word (codes "function")) b c → Star s c d → Naming id d e → IsReadFormals true ps e f → IsReadBody t f g → IsReadFunction k (function_node k async s id ps t) a g
function_text {k} {d = d} {e = e} mark u x star id ps t =
    let v = star_utf8 star x.utf8 in
    let h = ps.opens in
    function_read k (function_opens mark u x) (star_found star x.utf8 (naming_no_star id v (lexeme_sees (codes "*") e _ h))) (naming_found id v (before_sign h)) ps t

-- ---- parameters

-- a list of parameters, whichever way it goes on
pub record IsReadParameterList (ps : List Term) (a b : Text) : Type 0 where
  pub utf8 : IsUtf8 b
  pub alone : IsReadParameters ps absent false a b
  pub trailing : (c : Text) → Seen (sign (codes ",")) b c → IsReadParameters ps absent true a c
  pub before : (r : Term) (c d : Text) → Seen (sign (codes ",")) b c → IsReadParameters [] r false c d → IsReadParameters ps r false a d

pub last_parameter : {p : Term} {a b : Text} → IsReadParameter p a b → IsReadParameterList (p ∷ []) a b
last_parameter x = record {
  utf8 = x.utf8;
  alone = last_parameter_read x;
  trailing = λ c tok. trailing_parameter_read x tok;
  before = λ r c d tok rest. and_parameter_read x tok rest;
}

pub and_parameter : {p : Term} {ps : List Term} {a b c d : Text} → IsReadParameter p a b → Seen (sign (codes ",")) b c → IsReadParameterList ps c d → IsReadParameterList (p ∷ ps) a d
and_parameter x tok rest = record {
  utf8 = rest.utf8;
  alone = and_parameter_read x tok rest.alone;
  trailing = λ c tok'. and_parameter_read x tok (rest.trailing c tok');
  before = λ r c d tok' rest'. and_parameter_read x tok (rest.before r c d tok' rest');
}

-- ---- classes

pub class_text : {k : Kind} {id h : Term} {es : List Term} {a b c d e f g : Text} → Seen (word (codes "class")) a b → Naming id b c → IsReadHeritage h c d → Seen (sign (codes "{")) d e → IsReadElements es e f g → IsReadClass k (class_node k id h es) a g
class_text {k} x id y opens z = class_read k x (naming_found id x.utf8 y.nameless) y opens z
