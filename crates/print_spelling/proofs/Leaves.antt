-- Expressions without parts, and those in parentheses (ECMAScript 13.2).
use Rattle.std.proofs.Common.{◌≡◌, refl, sym, subst, ℕ, [], ◌∷◌, ◌++◌, Bool, true, false, not, ◌&&◌, ◌||◌, nat_eq}
use Rattle.std.specs.Prelude.{codes}
use Rattle.std.proofs.lemmas.Bool.{and_parts, not-true, ne_eqb, false≢true}
use Rattle.js_term.specs.Term.{Text, is_text, node, none, more}
use Rattle.js_term.specs.declared.kind.Kind.{Kind}
use Rattle.js_term.specs.Lexeme.{is_reserved}
use Rattle.js_term.specs.Node.{truth, boolean_of}
use Rattle.js_syntax.specs.Lexical.{is_name, is_regexp_body, are_regexp_flags, in_order}
use Rattle.js_syntax.specs.Texts.{is_free_name}
use Rattle.js_syntax.specs.Tokens.{Token, regexp, is_regexp}
use Rattle.js_syntax.specs.Spelling.{identifier, this_expression, null_literal, boolean, numeric, bigint, string_literal, regexp_literal, parenthesized, import_meta, new_target, binding}
use Rattle.print_layout.specs.Needs.{needs}
use Rattle.print_spelling.proofs.Openings.{is_opening, name_opening, number_opening, bigint_opening}
use Rattle.print_spelling.proofs.Tokens.{differ, same_text, or_by, Lead, flush, led, stops, token_of, opening_gap, stop_part, word_at, name_at, number_at, bigint_at, string_at, sign_at, left_parenthesis, right_parenthesis}
use Rattle.print_spelling.proofs.Claims.{Expr, ExpressionRule, Rule, ends_stop, open_ends, opens_at, of_stands}
use Rattle.print_spelling.proofs.Placed.{in_place}

-- a name that is not reserved
pub free_parts : (x : Text) → is_free_name x ≡ true → (is_name x ≡ true) × (is_reserved x ≡ false)
free_parts x h = let both = and_parts (is_name x) (not (is_reserved x)) h in (both.0, not-true (is_reserved x) both.1)

pub identifier_rule : ExpressionRule Kind.Identifier
identifier_rule (x ∷ []) none m c i n =
    let n = free_parts x m.spoken.0 in of_stands (λ g rest e. identifier n.1 (name_at g n.0 (ends_stop rest true e))) (opens_at (λ rest. name_opening x rest n.0))
identifier_rule texts ts m c i n = differ (sym m.counted)

pub this_rule : ExpressionRule Kind.ThisExpression
this_rule [] none m c i n = of_stands (λ g rest e. this_expression (word_at g (codes "this") refl refl (ends_stop rest true e))) (opens_at (λ rest. refl))
this_rule texts ts m c i n = differ (sym m.counted)

pub null_rule : ExpressionRule Kind.NullLiteral
null_rule [] none m c i n = of_stands (λ g rest e. null_literal (word_at g (codes "null") refl refl (ends_stop rest true e))) (opens_at (λ rest. refl))
null_rule texts ts m c i n = differ (sym m.counted)

boolean_is : (i : Bool) (v : Bool) → Expr i (boolean_of v) (λ rest. truth v ++ rest)
boolean_is i true = of_stands (λ g rest e. boolean true (word_at g (codes "true") refl refl (ends_stop rest true e))) (opens_at (λ rest. refl))
boolean_is i false = of_stands (λ g rest e. boolean false (word_at g (codes "false") refl refl (ends_stop rest true e))) (opens_at (λ rest. refl))

pub boolean_rule : ExpressionRule Kind.BooleanLiteral
boolean_rule (x ∷ []) none m c i n =
    let by : (v : Bool) → is_text x (truth v) ≡ true → Expr i (node Kind.BooleanLiteral (x ∷ []) none) (λ rest. x ++ rest) = λ v e. subst (λ z. Expr i (node Kind.BooleanLiteral (z ∷ []) none) (λ rest. z ++ rest)) (sym (same_text x (truth v) e)) (boolean_is i v) in
    or_by (is_text x (codes "true")) (is_text x (codes "false") || false) (by true) (λ e. or_by (is_text x (codes "false")) false (by false) (λ e. differ (sym e)) e) m.spoken.0
boolean_rule texts ts m c i n = differ (sym m.counted)

pub number_rule : ExpressionRule Kind.NumericLiteral
number_rule (x ∷ []) none m c i n = of_stands (λ g rest e. numeric (number_at g m.spoken.0 (ends_stop rest false e) (open_ends rest e))) (opens_at (λ rest. number_opening x rest m.spoken.0))
number_rule texts ts m c i n = differ (sym m.counted)

pub bigint_rule : ExpressionRule Kind.BigIntLiteral
bigint_rule (x ∷ []) none m c i n = of_stands (λ g rest e. bigint (bigint_at g m.spoken.0 (ends_stop rest true e))) (opens_at (λ rest. bigint_opening x rest m.spoken.0))
bigint_rule texts ts m c i n = differ (sym m.counted)

pub string_rule : ExpressionRule Kind.StringLiteral
string_rule (x ∷ []) none m c i n = of_stands (λ g rest e. string_literal (string_at g)) (opens_at (λ rest. refl))
string_rule texts ts m c i n = differ (sym m.counted)

-- a pattern between slashes begins no comment
other_front : (d c : ℕ) (cs : Text) → (is_regexp_body (d ∷ cs) ≡ true → ⊥) → is_regexp_body (c ∷ cs) ≡ true → nat_eq d c ≡ false
other_front d c cs refused e = ne_eqb d c (λ same. refused (subst (λ x. is_regexp_body (x ∷ cs) ≡ true) (sym same) e))

pattern_opening : (pattern rest : Text) → is_regexp_body pattern ≡ true → is_opening (47 ∷ (pattern ++ rest)) ≡ true
pattern_opening [] rest e = differ (sym e)
pattern_opening (c ∷ cs) rest e = rw (other_front 47 c cs false≢true e, other_front 42 c cs false≢true e) refl

regexp_at : (g : Lead) (x y rest : Text) → is_regexp_body x ≡ true → are_regexp_flags y && is_text (in_order y) y ≡ true → stops rest ≡ true → Token (led g (47 ∷ (x ++ 47 ∷ (y ++ rest)))) (regexp x y) rest
regexp_at g x y rest b f s =
    let both = and_parts (are_regexp_flags y) (is_text (in_order y) y) f in
    subst (λ z. Token (led g (47 ∷ (x ++ 47 ∷ (y ++ rest)))) (regexp x z) rest) (same_text (in_order y) y both.1)
    (token_of g (opening_gap (47 ∷ (x ++ 47 ∷ (y ++ rest))) (pattern_opening x (47 ∷ (y ++ rest)) b)) (is_regexp y b both.0 (stop_part rest s)))

pub regexp_rule : ExpressionRule Kind.RegExpLiteral
regexp_rule (x ∷ y ∷ []) none m c i n =
    of_stands (λ g rest e. regexp_literal (regexp_at g x y rest m.spoken.0 m.spoken.1.0 (ends_stop rest true e))) (opens_at (λ rest. pattern_opening x (47 ∷ (y ++ rest)) m.spoken.0))
regexp_rule texts ts m c i n = differ (sym m.counted)

pub meta_rule : ExpressionRule Kind.ImportMeta
meta_rule [] none m c i n =
    of_stands (λ g rest e. import_meta (word_at g (codes "import") refl refl refl) (sign_at flush (codes ".") refl refl) (word_at flush (codes "meta") refl refl (ends_stop rest true e))) (opens_at (λ rest. refl))
meta_rule texts ts m c i n = differ (sym m.counted)

pub target_rule : ExpressionRule Kind.NewTarget
target_rule [] none m c i n =
    of_stands (λ g rest e. new_target (word_at g (codes "new") refl refl refl) (sign_at flush (codes ".") refl refl) (word_at flush (codes "target") refl refl (ends_stop rest true e))) (opens_at (λ rest. refl))
target_rule texts ts m c i n = differ (sym m.counted)

pub parenthesized_rule : ExpressionRule Kind.ParenthesizedExpression
parenthesized_rule [] (more t none) m c i n =
    let p = in_place true (needs Kind.ParenthesizedExpression [] 0) t m.placed.0 c.0 in
    of_stands (λ g rest e. parenthesized (left_parenthesis g) (p.expr.expression flush refl) (right_parenthesis flush)) (opens_at (λ rest. refl))
parenthesized_rule texts ts m c i n = differ (sym m.counted)

-- names that are bound
pub binding_rule : Rule Kind.BindingIdentifier
binding_rule mode (x ∷ []) none m c g rest e = let n = free_parts x m.spoken.0 in binding n.1 (name_at g n.0 e)
binding_rule mode texts ts m c g rest e = differ (sym m.counted)
