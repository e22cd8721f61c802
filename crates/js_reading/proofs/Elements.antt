-- Elements of classes that stand in a text behind `static`, `async`, `*`, `get` or `set` are read.
use Rattle.std.proofs.Common.{◌≡◌, ◌≤◌, ◌<◌, ℕ, suc, Bool, true, false, ◌&&◌, ◌||◌, [], length, Some, refl, ◌∙◌, ap, arith, codes}
use Rattle.std.proofs.lemmas.Bool.{and_left, or_left}
use Rattle.std.specs.Str.{IsUtf8}
use Rattle.js_term.specs.Term.{Text, Term, depth}
use Rattle.js_syntax.specs.Nodes.{method_node}
use Rattle.js_syntax.specs.Tokens.{Lexeme, word, sign}
use Rattle.js_syntax.specs.Spelling as spell
use Rattle.js_syntax.specs.Spelling.{Static}
use Rattle.js_syntax.specs.Edges.{is_constructor}
use Rattle.js_tokens.specs.Next.{lexeme, after}
use Rattle.js_reading.specs.declared.goal.Goal.{Goal}
use Rattle.js_reading.specs.Reading.{Found, Reading, is_sign, is_word, sees, sees_word, begins_key_by, begins_key_at}
use Rattle.js_reading.specs.Literals.{modifies_method, modifies_element, is_accessor, takes_comma, element_function, word_element, marked_element, static_element, class_element}
use Rattle.js_reading.specs.Read.{read}
use Rattle.js_reading.proofs.TokensThere.{Seen, see_word, sees_word_by}
use Rattle.js_reading.proofs.Templating.{IsReadMemberKey}
use Rattle.js_reading.proofs.Functions.{IsReadStar, IsReadMethod}
use Rattle.js_reading.proofs.Classes.{begins_element, follows_element, IsReadElement}
use Rattle.js_reading.proofs.Properties.{not_accessor}
use Rattle.js_reading.proofs.Each.{no_sign_by}

-- an element behind `static`, or where it is not static
pub record IsReadMarked (static : Text) (e : Term) (a b : Text) : Type 0 where
  pub utf8 : IsUtf8 b
  pub shorter : length b < length a
  pub begun : begins_element (lexeme a) ≡ true
  pub no_static : static ≡ [] → sees_word (codes "static") a && modifies_element (after a) ≡ false
  pub reads : (limit : ℕ) → depth e ≤ limit → follows_element (lexeme b) ≡ true → marked_element (read limit) static a ≡ Some (e, b)

begun_modifies : (a : Text) → begins_element (lexeme a) ≡ true → modifies_element a ≡ true
unfolding modifies_element begins_key_at sees
begun_modifies a h = or_left (begins_key_by (lexeme a) || is_sign (codes "*") (lexeme a)) _ h

static_there : {e : Term} {a b c : Text} → Seen (word (codes "static")) a b → IsReadMarked (codes "static") e b c → (limit : ℕ) → depth e ≤ limit → follows_element (lexeme c) ≡ true → class_element (read limit) a ≡ Some (e, c)
unfolding class_element static_element
static_there {b = b} tok x limit fits h = rw (sees_word_by (codes "static") tok, tok.after_is, begun_modifies b x.begun, no_sign_by begins_element (codes "{") b x.begun refl, x.reads limit fits h)

pub static_element_read : {e : Term} {a b c : Text} → Seen (word (codes "static")) a b → IsReadMarked (codes "static") e b c → IsReadElement e a c
static_element_read tok x = record {
  utf8 = x.utf8;
  shorter = let s1 = tok.shorter in let s2 = x.shorter in omega arith;
  begun = ap begins_element tok.lexeme_is;
  reads = λ limit fits h. static_there tok x limit fits h;
}

plain_there : {e : Term} {a b : Text} → IsReadMarked [] e a b → (limit : ℕ) → depth e ≤ limit → follows_element (lexeme b) ≡ true → class_element (read limit) a ≡ Some (e, b)
unfolding class_element
plain_there x limit fits h = rw (x.no_static refl, x.reads limit fits h)

pub plain_element_read : {e : Term} {a b : Text} → IsReadMarked [] e a b → IsReadElement e a b
plain_element_read x = record { utf8 = x.utf8; shorter = x.shorter; begun = x.begun; reads = λ limit fits h. plain_there x limit fits h }

pub static_utf8 : {static a b : Text} → Static static a b → IsUtf8 a → IsUtf8 b
static_utf8 spell.no_static u = u
static_utf8 (spell.with_static tok) u = let x = see_word tok u in x.utf8

pub element_read : {static : Text} {e : Term} {a b c : Text} → Static static a b → IsUtf8 a → IsReadMarked static e b c → IsReadElement e a c
element_read spell.no_static u x = plain_element_read x
element_read (spell.with_static tok) u x = static_element_read (see_word tok u) x

-- ---- methods and accessors behind a mark

-- a token that is not the word `static`
other_word : {l : Lexeme} {a b : Text} → Seen l a b → is_word (codes "static") (Some l) ≡ false → sees_word (codes "static") a && modifies_element (after a) ≡ false
other_word tok h = and_left _ _ (sees_word_by (codes "static") tok ∙ h)

function_there : (kind static : Text) (t : Bool) (async s : Text) {computed : Bool} {k f : Term} {a b c : Text} → is_constructor static computed k ≡ false → IsReadMemberKey computed k a b → IsReadMethod t async s f b c → (limit : ℕ) → depth k ≤ limit → depth f ≤ suc limit →
    element_function (read limit) kind static t async s a ≡ Some (method_node kind computed static k f, c)
unfolding element_function
function_there kind static t async s h x y limit fits fits' = rw (x.reads limit fits, y.reads limit fits', h)

generator_there : (sub : Goal → Text → Reading Found) (static : Text) {a b : Text} → Seen (sign (codes "*")) a b → marked_element sub static a ≡ element_function sub (codes "method") static true [] (codes "*") b
unfolding marked_element
generator_there sub static tok = rw (tok.lexeme_is, tok.after_is)

pub generator_element_read : (static : Text) {computed : Bool} {k f : Term} {a b c d : Text} → is_constructor static computed k ≡ false → Seen (sign (codes "*")) a b → IsReadMemberKey computed k b c → IsReadMethod true [] (codes "*") f c d → IsReadMarked static (method_node (codes "method") computed static k f) a d
generator_element_read static h tok x y = record {
  utf8 = y.utf8;
  shorter = let s1 = tok.shorter in let s2 = x.shorter in let s3 = y.shorter in omega arith;
  begun = ap begins_element tok.lexeme_is;
  no_static = λ s. other_word tok refl;
  reads = λ limit fits h'. generator_there (read limit) static tok ∙ function_there (codes "method") static true [] (codes "*") h x y limit (omega arith) (omega arith);
}

async_there : (sub : Goal → Text → Reading Found) (static : Text) {s a b c : Text} → Seen (word (codes "async")) a b → modifies_method b ≡ true → IsReadStar s b c → marked_element sub static a ≡ element_function sub (codes "method") static true (codes "async") s c
unfolding marked_element word_element
async_there sub static tok h x = rw (tok.lexeme_is, tok.after_is, h, x.reads)

pub async_element_read : (static : Text) {s : Text} {computed : Bool} {k f : Term} {a b c d e : Text} → is_constructor static computed k ≡ false → Seen (word (codes "async")) a b → modifies_method b ≡ true → IsReadStar s b c → IsReadMemberKey computed k c d → IsReadMethod true (codes "async") s f d e →
    IsReadMarked static (method_node (codes "method") computed static k f) a e
async_element_read static {s} h tok is star x y = record {
  utf8 = y.utf8;
  shorter = let s1 = tok.shorter in let s2 = x.shorter in let s3 = y.shorter in let s4 = star.short in omega arith;
  begun = ap begins_element tok.lexeme_is;
  no_static = λ s. other_word tok refl;
  reads = λ limit fits h'. async_there (read limit) static tok is star ∙ function_there (codes "method") static true (codes "async") s h x y limit (omega arith) (omega arith);
}

accessor_there : (sub : Goal → Text → Reading Found) (static : Text) {x a b : Text} → is_accessor x ≡ true → Seen (word x) a b → begins_key_by (lexeme b) ≡ true → marked_element sub static a ≡ element_function sub x static (takes_comma x) [] [] b
unfolding marked_element word_element begins_key_at
accessor_there sub static {x} h tok is = rw (tok.lexeme_is, tok.after_is, not_accessor (codes "async") x refl h, h, is)

pub accessor_element_read : (static : Text) {kind : Text} {computed : Bool} {k f : Term} {a b c d : Text} → is_constructor static computed k ≡ false → is_accessor kind ≡ true → Seen (word kind) a b → IsReadMemberKey computed k b c → IsReadMethod (takes_comma kind) [] [] f c d →
    IsReadMarked static (method_node kind computed static k f) a d
accessor_element_read static {kind} h is tok x y = record {
  utf8 = y.utf8;
  shorter = let s1 = tok.shorter in let s2 = x.shorter in let s3 = y.shorter in omega arith;
  begun = ap begins_element tok.lexeme_is;
  no_static = λ s. other_word tok (not_accessor (codes "static") kind refl is);
  reads = λ limit fits h'. accessor_there (read limit) static is tok x.begins ∙ function_there kind static (takes_comma kind) [] [] h x y limit (omega arith) (omega arith);
}
