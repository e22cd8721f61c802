-- Declarations that are exported, and what is exported by default, are read.
use Rattle.std.proofs.Common.{◌≡◌, ◌≤◌, ◌<◌, ℕ, Bool, true, false, not, ◌&&◌, ◌||◌, [], ◌∷◌, length, Option, Some, None, refl, sym, ◌∙◌, ap, arith, codes}
use Rattle.std.specs.Str.{IsUtf8}
use Rattle.std.proofs.lemmas.Bool.{false≢true, not-true, and_left, and_right, or_parts}
use Rattle.js_term.specs.Term.{Text, is_text, Term, depth}
use Rattle.js_term.specs.declared.kind.Kind.{Kind}
use Rattle.js_term.specs.Node.{export_declaration_of}
use Rattle.js_syntax.specs.Nodes.{of_part}
use Rattle.js_syntax.specs.Tokens.{Lexeme, word, private_name, number, big_integer, string, regexp, no_substitution, template_head, template_middle, template_tail, sign}
use Rattle.js_syntax.specs.Edges.{Edge, begins_with_definition, edge}
use Rattle.js_syntax.specs.Spelling as spell
use Rattle.js_syntax.specs.Spelling.{Declaration, Semicolon}
use Rattle.js_syntax.proofs.Fronts.{among}
use Rattle.js_tokens.specs.Next.{lexeme, after}
use Rattle.js_reading.specs.declared.goal.Goal.{Goal}
use Rattle.js_reading.specs.Reading.{Found, Reading, ◌>>=◌, is_sign, is_word, sees, sees_word, same_line, at_end, goes_on_at, left_out}
use Rattle.js_reading.specs.Functions.{function}
use Rattle.js_reading.specs.Literals.{class}
use Rattle.js_reading.specs.Statements.{begins_async_function, word_statement, statement}
use Rattle.js_reading.specs.Modules.{default_expression, default_by, default, exported_declaration, export_item, module_item}
use Rattle.js_reading.specs.Read.{read}
use Rattle.js_reading.proofs.Each.{word_is}
use Rattle.js_reading.proofs.TokensThere.{Seen, see_word, sees_word_by, on_line}
use Rattle.js_reading.proofs.TokensEnd.{end_none, some_none, Ended, by_sign, by_stop, ended, semicolon_read, semicolon_utf8, semicolon_short}
use Rattle.js_reading.proofs.Opens.{begins_definition, async_definition}
use Rattle.js_reading.proofs.Joining.{Joined, no_definition_there}
use Rattle.js_reading.proofs.Climbs.{right_read}
use Rattle.js_reading.proofs.Listings.{StandsRead}
use Rattle.js_reading.proofs.Claims.{FunctionOpens, plain_function, async_function, IsReadFunction, IsReadClass}
use Rattle.js_reading.proofs.Ending.{behind_semicolon}
use Rattle.js_reading.proofs.StatementStarts.{IsReadStatement}
use Rattle.js_reading.proofs.ImportsRead.{export_there}
use Rattle.js_reading.proofs.ItemStarts.{ItemFollows, export_follows, IsReadItem, word_item}

-- ---- declarations

-- behind `export` a declaration is read as elsewhere
declaration_there : (sub : Goal → Text → Reading Found) {d : Term} {a b : Text} → Declaration d a b → IsUtf8 a → export_item sub a ≡ (statement sub a >>= λ t c. Some (export_declaration_of t, c))
unfolding export_item exported_declaration statement word_statement
declaration_there sub (spell.variables (spell.declarators {kind = kind} is w ds) end) u =
    let x = see_word w u in
    let no_default = not-true (is_text kind (codes "default")) (among (λ t. not (is_text t (codes "default"))) (codes "var" ∷ codes "let" ∷ codes "const" ∷ []) kind refl is) in
    rw (x.lexeme_is, no_default, is)
declaration_there sub (spell.function_declaration named (spell.function spell.no_async w s id ps t)) u = let x = see_word w u in rw (x.lexeme_is)
declaration_there sub (spell.function_declaration named (spell.function (spell.with_async tok line) w s id ps t)) u =
    let x = see_word tok u in
    let y = see_word w x.utf8 in
    rw (x.lexeme_is, async_definition x (on_line _ line) y)
declaration_there sub (spell.class_declaration named (spell.class w id h x es y)) u = let x = see_word w u in rw (x.lexeme_is)

exported_there : {d : Term} {a b c : Text} → Seen (word (codes "export")) a b → Declaration d b c → IsReadStatement d b c → (limit : ℕ) → depth d ≤ limit → ItemFollows c → module_item (read limit) a ≡ Some (export_declaration_of d, c)
exported_there tok s r limit fits k = export_there (read limit) tok ∙ declaration_there (read limit) s tok.utf8 ∙ rw (r.reads limit (omega arith) k.follows (and_left _ _ k.no_else))

pub export_declaration_item : {d : Term} {a b c : Text} → Seen (word (codes "export")) a b → Declaration d b c → IsReadStatement d b c → IsReadItem (export_declaration_of d) a c
export_declaration_item tok s r = word_item tok (export_follows tok) r.utf8 (let k = r.shorter in omega arith) (λ limit fits k. exported_there tok s r limit (omega arith) k)

-- ---- what is exported by default

pub record IsReadDefault (d : Term) (a b : Text) : Type 0 where
  pub utf8 : IsUtf8 b
  pub shorter : length b < length a
  pub reads : (limit : ℕ) → depth d ≤ limit → default_by (read limit) (lexeme a) a ≡ Some (d, b)

function_by : (sub : Goal → Text → Reading Found) {async a b : Text} → FunctionOpens async a b → default_by sub (lexeme a) a ≡ function sub Kind.FunctionDeclaration async b
function_by sub (plain_function tok) = rw (tok.lexeme_is, tok.after_is)
function_by sub (async_function tok line tok') = rw (tok.lexeme_is, async_definition tok line tok', tok.after_is, tok'.after_is)

pub function_default : {f : Term} {a b : Text} → IsReadFunction Kind.FunctionDeclaration f a b → IsReadDefault f a b
function_default r = record { utf8 = r.utf8; shorter = r.shorter; reads = λ limit fits. function_by (read limit) r.opens ∙ r.reads limit (omega arith) }

class_by : (sub : Goal → Text → Reading Found) {a b : Text} → Seen (word (codes "class")) a b → default_by sub (lexeme a) a ≡ class sub Kind.ClassDeclaration b
class_by sub tok = rw (tok.lexeme_is, tok.after_is)

pub class_default : {c : Term} {a b : Text} → IsReadClass Kind.ClassDeclaration c a b → IsReadDefault c a b
class_default r = record { utf8 = r.utf8; shorter = r.shorter; reads = λ limit fits. class_by (read limit) r.opens ∙ r.reads limit (omega arith) }

-- where no definition begins, an expression is read
expression_by : (sub : Goal → Text → Reading Found) (a : Text) → begins_definition a ≡ false → default_by sub (lexeme a) a ≡ default_expression sub a
unfolding sees_word
expression_by sub a h = go (lexeme a) h
  where
    go : (o : Option Lexeme) → (is_word (codes "function") o || (is_word (codes "class") o || (is_word (codes "async") o && begins_async_function (after a)))) ≡ false → default_by sub o a ≡ default_expression sub a
    go (Some (word x)) h =
        let (f, rest) = or_parts (is_text x (codes "function")) _ h in
        let (c, y) = or_parts (is_text x (codes "class")) _ rest in
        rw (f, y, c)
    go None h = refl
    go (Some (private_name x)) h = refl
    go (Some (number x)) h = refl
    go (Some (big_integer x)) h = refl
    go (Some (string x v)) h = refl
    go (Some (regexp x v)) h = refl
    go (Some (no_substitution x)) h = refl
    go (Some (template_head x)) h = refl
    go (Some (template_middle x)) h = refl
    go (Some (template_tail x)) h = refl
    go (Some (sign x)) h = refl

-- behind the expression stands no `function` on the same line
seen_as_word : (x a : Text) → sees_word x a ≡ true → lexeme a ≡ Some (word x)
unfolding sees_word
seen_as_word x a h = word_is x (lexeme a) h

function_broken : (e : Edge) (a : Text) → lexeme a ≡ Some (word (codes "function")) → left_out e a ≡ true → same_line a ≡ false
unfolding left_out sees
function_broken e a is h = go (at_end a) (same_line a) _ refl refl (sym (ap (λ o. is_sign (codes "}") o || at_end a || (not (same_line a) && not (goes_on_at e o))) is) ∙ h)
  where
    go : (end line on : Bool) → at_end a ≡ end → same_line a ≡ line → (end || (not line && on)) ≡ true → same_line a ≡ false
    go true line on e l h = absurd (some_none (word (codes "function")) (sym (end_none a e) ∙ is))
    go false true on e l h = absurd (false≢true h)
    go false false on e l h = l

no_function_behind : {e : Edge} {a b : Text} → Ended e a b → begins_async_function a ≡ false
unfolding begins_async_function
no_function_behind {a = a} (by_sign x) = and_right (same_line a) _ (sees_word_by (codes "function") x)
no_function_behind {e} {a = a} (by_stop same s) = go (sees_word (codes "function") a) refl
  where
    go : (t : Bool) → sees_word (codes "function") a ≡ t → (same_line a && sees_word (codes "function") a) ≡ false
    go false h = and_right (same_line a) _ h
    go true h = and_left _ (sees_word (codes "function") a) (function_broken e a (seen_as_word (codes "function") a h) s.left)

expression_there : {n : ℕ} {e : Term} {a b c : Text} → StandsRead true n e a b → Semicolon (edge e) b c → (limit : ℕ) → depth e ≤ limit → default_expression (read limit) a ≡ Some (e, c)
unfolding default_expression
expression_there x end limit fits = let r = x.read in let k = behind_semicolon x.utf8 r.ends (ended end x.utf8) in rw (right_read r limit fits k.keeps, semicolon_read end x.utf8)

pub expression_default : {n : ℕ} {e : Term} {a b c : Text} → begins_with_definition e ≡ false → Joined e a b → StandsRead true n e a b → Semicolon (edge e) b c → IsReadDefault e a c
expression_default {a = a} free j x end = let r = x.read in record {
  utf8 = semicolon_utf8 end x.utf8;
  shorter = let s = r.shorter in let k = semicolon_short end x.utf8 in omega arith;
  reads = λ limit fits. expression_by (read limit) a (no_definition_there j free (no_function_behind (ended end x.utf8))) ∙ expression_there x end limit fits;
}

default_there : (sub : Goal → Text → Reading Found) {d : Term} {a b c e : Text} → Seen (word (codes "export")) a b → Seen (word (codes "default")) b c → default_by sub (lexeme c) c ≡ Some (d, e) → module_item sub a ≡ Some (of_part Kind.ExportDefaultDeclaration d, e)
unfolding export_item default
default_there sub tok tok' is = export_there sub tok ∙ rw (tok'.lexeme_is, tok'.after_is, is)

pub export_default_item : {d : Term} {a b c e : Text} → Seen (word (codes "export")) a b → Seen (word (codes "default")) b c → IsReadDefault d c e → IsReadItem (of_part Kind.ExportDefaultDeclaration d) a e
export_default_item tok tok' r = word_item tok (export_follows tok) r.utf8 (let s = tok'.shorter in let k = r.shorter in omega arith) (λ limit fits k. default_there (read limit) tok tok' (r.reads limit (omega arith)))
