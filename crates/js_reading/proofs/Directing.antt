-- Where no directive stands, no statement is a string token alone (11.2.1).
use Rattle.std.proofs.Common.{◌≡◌, ℕ, Bool, false, List, Some, None, refl, sym, subst, ◌∙◌}
use Rattle.std.specs.Str.{IsUtf8}
use Rattle.js_term.specs.Term.{Text, Term}
use Rattle.js_term.specs.Node.{string_of}
use Rattle.js_syntax.specs.Tokens.{string, Token}
use Rattle.js_syntax.specs.Edges.{has_kind, is_string_kind, is_string_statement, begins_with_string, full, edge}
use Rattle.js_syntax.specs.Spelling.{Stands, Expression, Semicolon, Statement, Statements}
use Rattle.js_syntax.specs.Spelling as spell
use Rattle.js_tokens.specs.Next.{lexeme, after}
use Rattle.js_reading.specs.Functions.{directive_by}
use Rattle.js_reading.proofs.TokensThere.{see}
use Rattle.js_reading.proofs.TokensEnd.{semicolon_read}

data StringOr (e : Term) (a b : Text) : Type 0 where
  other : has_kind is_string_kind e ≡ false → StringOr e a b
  a_string : (raw v : Text) → e ≡ string_of v → Token a (string raw v) b → StringOr e a b

string_stands : {i : Bool} {n : ℕ} {e : Term} {a b : Text} → Stands i n e a b → StringOr e a b
string_stands (spell.identifier free tok) = other refl
string_stands (spell.this_expression w) = other refl
string_stands (spell.null_literal w) = other refl
string_stands (spell.boolean v w) = other refl
string_stands (spell.numeric w) = other refl
string_stands (spell.bigint w) = other refl
string_stands (spell.string_literal {raw} {v} tok) = a_string raw v refl tok
string_stands (spell.regexp_literal w) = other refl
string_stands (spell.template t) = other refl
string_stands (spell.array y g z) = other refl
string_stands (spell.object y g z) = other refl
string_stands (spell.function_expression (spell.function p w s id ps t)) = other refl
string_stands (spell.class_expression (spell.class w id q y es z)) = other refl
string_stands (spell.parenthesized y e z) = other refl
string_stands (spell.import_meta w y z) = other refl
string_stands (spell.new_target w y z) = other refl
string_stands (spell.member q o (spell.static_access d w)) = other refl
string_stands (spell.member q o (spell.computed_access d y e z)) = other refl
string_stands (spell.member q o (spell.private_access d w)) = other refl
string_stands (spell.super_member w (spell.static_access d v) p) = other refl
string_stands (spell.super_member w (spell.computed_access d y e z) p) = other refl
string_stands (spell.super_member w (spell.private_access d v) p) = other refl
string_stands (spell.tagged q t y) = other refl
string_stands (spell.construction w q f es) = other refl
string_stands (spell.bare_construction (spell.new_member w q f)) = other refl
string_stands (spell.bare_construction (spell.new_new w f)) = other refl
string_stands (spell.call q f es) = other refl
string_stands (spell.super_call w es) = other refl
string_stands (spell.import_call w y e o z) = other refl
string_stands (spell.chain s) = other refl
string_stands (spell.update_behind p q t l y) = other refl
string_stands (spell.update_before p q y t) = other refl
string_stands (spell.unary p q y e) = other refl
string_stands (spell.await_expression p w e) = other refl
string_stands (spell.exponentiation p q l y r) = other refl
string_stands (spell.binary p q s t l y r) = other refl
string_stands (spell.private_in p w y r) = other refl
string_stands (spell.conjunction p q l y r) = other refl
string_stands (spell.disjunction p q l y r) = other refl
string_stands (spell.coalescing p q l y r) = other refl
string_stands (spell.conditional p t y e z f) = other refl
string_stands (spell.assignment p q t y e) = other refl
string_stands (spell.arrow ps l y t) = other refl
string_stands (spell.bare_yield w) = other refl
string_stands (spell.yielding w l e) = other refl
string_stands (spell.delegating w l y e) = other refl

directive_there : {raw v a b c : Text} → Token a (string raw v) b → IsUtf8 a → Semicolon full b c → directive_by (lexeme a) (after a) ≡ Some (raw, c)
directive_there {raw} {v} tok u end = let x = see tok u refl in rw (x.lexeme_is, x.after_is, semicolon_read end x.utf8) refl

string_alone : {e : Term} {a b c : Text} → StringOr e a b → IsUtf8 a → Semicolon (edge e) b c → directive_by (lexeme a) (after a) ≡ None → has_kind is_string_kind e ≡ false
string_alone (other h) u end none' = h
string_alone {b = b} {c = c} (a_string raw v is tok) u end none' =
    let there = directive_there tok u (subst (λ (z : Term). Semicolon (edge z) b c) is end) in
    absurd (let bad : None ≡ Some (raw, c) = sym none' ∙ there in cc)

pub no_string : {s : Term} {a b : Text} → Statement s a b → IsUtf8 a → directive_by (lexeme a) (after a) ≡ None → is_string_statement s ≡ false
no_string (spell.block_statement (spell.block x ss y)) u h = refl
no_string (spell.declaration (spell.variables (spell.declarators is w ds) end)) u h = refl
no_string (spell.declaration (spell.function_declaration n (spell.function p w s id ps t))) u h = refl
no_string (spell.declaration (spell.class_declaration n (spell.class w id q y es z))) u h = refl
no_string (spell.empty_statement tok) u h = refl
no_string (spell.expression_statement free (spell.single s) end) u h = string_alone (string_stands s) u end h
no_string (spell.expression_statement free (spell.sequence q l) end) u h = refl
no_string (spell.if_statement w x e y s) u h = refl
no_string (spell.if_else q w x e y s v t) u h = refl
no_string (spell.do_while w s v x e y end) u h = refl
no_string (spell.while_statement w x e y s) u h = refl
no_string (spell.for_statement w x p q r s t v y) u h = refl
no_string (spell.for_in w x l v e y s) u h = refl
no_string (spell.for_of_statement q w x l v e y s) u h = refl
no_string (spell.for_await w v x l z e y s) u h = refl
no_string (spell.continue_statement w l end) u h = refl
no_string (spell.break_statement w l end) u h = refl
no_string (spell.bare_return w end) u h = refl
no_string (spell.return_statement w l e end) u h = refl
no_string (spell.switch_statement q w x e y z cs v) u h = refl
no_string (spell.labeled q w x s) u h = refl
no_string (spell.throw_statement w l e end) u h = refl
no_string (spell.try_statement q w s p f) u h = refl
no_string (spell.debugger w end) u h = refl

pub apart : (a b : Text) (ss : List Term) → IsUtf8 a → directive_by (lexeme a) (after a) ≡ None → Statements ss a b → begins_with_string ss ≡ false
apart a b ss u h spell.no_statements = refl
apart a b ss u h (spell.next_statement s rest) = no_string s u h
