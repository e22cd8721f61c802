-- What the tables of operators say, and what a token that goes on asks for.
use Rattle.std.proofs.Common.{◌≡◌, ◌≤◌, ℕ, Bool, true, false, not, ◌&&◌, ◌||◌, if◌then◌else◌, nat_eq, nat_le, List, [], ◌∷◌, Option, Some, refl, sym, subst, arith, codes}
use Rattle.std.specs.List.{list_all}
use Rattle.std.proofs.lemmas.Bool.{leb-true, and_parts, eqb-true}
use Rattle.js_term.specs.Term.{Text, is_text, Term}
use Rattle.js_term.specs.declared.kind.Kind.{Kind}
use Rattle.js_term.specs.Lexeme.{is_one_of}
use Rattle.js_syntax.specs.Parts.{is_node}
use Rattle.js_syntax.specs.Texts.{assignment_operators, logical_operators}
use Rattle.js_syntax.specs.Tokens.{Lexeme, sign, signs, Lexed, is_punctuator, Token}
use Rattle.js_syntax.specs.Edges.{operator_levels, level_among, binary_level, is_update}
use Rattle.js_syntax.specs.Spelling.{Stands, BareNew}
use Rattle.js_syntax.specs.Spelling as spell
use Rattle.js_syntax.proofs.Fronts.{same_text, among}
use Rattle.js_reading.specs.Operators.{binds, word_binds, gives, sign_gives, needs, sign_needs, suits, goes_on_by}
use Rattle.js_reading.proofs.Each.{or_cases}

-- ---- what a token that goes on asks for

pub record Going (i : Bool) (least n : ℕ) (o : Option Lexeme) (line : Bool) : Type 0 where
  pub binds_two : 2 ≤ binds i o
  pub low : least ≤ gives i n o
  pub high : needs i o ≤ n
  pub suited : suits n o line ≡ true

pub going : (i : Bool) (least n : ℕ) (o : Option Lexeme) (line : Bool) → goes_on_by i least n o line ≡ true → Going i least n o line
going i least n o line h =
    let (x, suited) = and_parts (nat_le 2 (binds i o) && nat_le least (gives i n o) && nat_le (needs i o) n) (suits n o line) h in
    let (y, high) = and_parts (nat_le 2 (binds i o) && nat_le least (gives i n o)) (nat_le (needs i o) n) x in
    let (two', low) = and_parts (nat_le 2 (binds i o)) (nat_le least (gives i n o)) y in
    record { binds_two = leb-true _ _ two'; low = leb-true _ _ low; high = leb-true _ _ high; suited = suited }

-- ---- binary operators

-- whether the tables agree on an operator of the level
abbrev agree : ℕ → Text → ℕ → Bool
agree n op k = nat_eq (sign_gives n op) k && nat_eq (sign_needs op) k

abbrev rows_agree : ℕ → List (List Text × ℕ) → Bool
rows_agree n [] = true
rows_agree n ((ops, k) ∷ rows) = list_all (λ op. agree n op k) ops && rows_agree n rows

among_rows : (n : ℕ) (rows : List (List Text × ℕ)) (s : Text) (k : ℕ) → rows_agree n rows ≡ true → level_among s rows ≡ Some k → agree n s k ≡ true
among_rows n [] s k h e = absurd (cc)
among_rows n ((ops, m) ∷ rows) s k h e = go (λ f. among_rows n rows s k both.1 f) (is_one_of s ops) refl e
  where
    both : (list_all (λ op. agree n op m) ops ≡ true) × (rows_agree n rows ≡ true)
    both = and_parts (list_all (λ op. agree n op m) ops) (rows_agree n rows) h

    here : is_one_of s ops ≡ true → m ≡ k → agree n s k ≡ true
    here is same = rw (sym same) (among (λ op. agree n op m) ops s both.0 is)

    go : (level_among s rows ≡ Some k → agree n s k ≡ true) → (b : Bool) → is_one_of s ops ≡ b → (if b then Some m else level_among s rows) ≡ Some k → agree n s k ≡ true
    go again true is e = here is (cc)
    go again false is e = again e

pub binary_agrees : (n : ℕ) (s : Text) (k : ℕ) → binary_level s ≡ Some k → (sign_gives n s ≡ k) × (sign_needs s ≡ k)
binary_agrees n s k e =
    let (x, y) = and_parts (nat_eq (sign_gives n s) k) (nat_eq (sign_needs s) k) (among_rows n operator_levels s k refl e) in
    (eqb-true _ _ x, eqb-true _ _ y)

-- ---- cases

pub update_cases : (P : Text → Type 0) (s : Text) → is_update s ≡ true → P (codes "++") → P (codes "--") → P s
update_cases P s h p q = or_cases (is_text s (codes "++")) (is_text s (codes "--") || false) h
    (λ e. subst P (sym (same_text s (codes "++") e)) p)
    (λ h. or_cases (is_text s (codes "--")) false h (λ e. subst P (sym (same_text s (codes "--") e)) q) (λ e. absurd (cc)))

pub logical_cases : (P : Text → Type 0) (s : Text) → is_one_of s logical_operators ≡ true → P (codes "??") → P (codes "||") → P (codes "&&") → P s
logical_cases P s h p q r = or_cases (is_text s (codes "??")) (is_text s (codes "||") || (is_text s (codes "&&") || false)) h
    (λ e. subst P (sym (same_text s (codes "??") e)) p)
    (λ h. or_cases (is_text s (codes "||")) (is_text s (codes "&&") || false) h (λ e. subst P (sym (same_text s (codes "||") e)) q)
    (λ h. or_cases (is_text s (codes "&&")) false h (λ e. subst P (sym (same_text s (codes "&&") e)) r) (λ e. absurd (cc))))

pub assignment_gives : (n : ℕ) (s : Text) → is_one_of s assignment_operators ≡ true → sign_gives n s ≡ 2
assignment_gives n s h = eqb-true _ _ (among (λ op. nat_eq (sign_gives n op) 2) assignment_operators s refl h)

-- a word that goes on is `in`, where it may stand, or `instanceof`
pub word_cases : (P : Bool → Text → Type 0) (i : Bool) (x : Text) → 2 ≤ word_binds i x → P true (codes "in") → ((i : Bool) → P i (codes "instanceof")) → P i x
word_cases P i x h p q = go (is_text x (codes "in")) refl h
  where
    instance' : (k : Bool) → is_text x (codes "instanceof") ≡ k → 2 ≤ (if k then 11 else 0) → P i x
    instance' true e h = subst (λ (z : Text). P i z) (sym (same_text x (codes "instanceof") e)) (q i)
    instance' false e h = absurd (omega arith)

    in' : (j : Bool) → 2 ≤ (if j then 11 else 0) → P j (codes "in")
    in' true h = p
    in' false h = absurd (omega arith)

    go : (k : Bool) → is_text x (codes "in") ≡ k → 2 ≤ (if k then (if i then 11 else 0) else if is_text x (codes "instanceof") then 11 else 0) → P i x
    go true e h = subst (λ (z : Text). P i z) (sym (same_text x (codes "in") e)) (in' i h)
    go false e h = instance' (is_text x (codes "instanceof")) refl h

-- no sign is the word `in`
pub sign_is_not_in : {a b : Text} {s : Text} → Token a (sign s) b → not (is_text s (codes "in")) ≡ true
sign_is_not_in t = go t.lexed
  where
    go : {m b : Text} {s : Text} → Lexed (sign s) m b → not (is_text s (codes "in")) ≡ true
    go (is_punctuator {s} e opens longest) = among (λ x. not (is_text x (codes "in"))) signs s refl e

-- ---- a `new` without arguments

pub bare_of : {i : Bool} {n : ℕ} {e : Term} {a b : Text} → Stands i n e a b → is_node Kind.NewExpression e ≡ true → nat_le 20 n ≡ false → BareNew i e a b
bare_of (spell.identifier free tok) h k = absurd (cc)
bare_of (spell.this_expression w) h k = absurd (cc)
bare_of (spell.null_literal w) h k = absurd (cc)
bare_of (spell.boolean v w) h k = absurd (cc)
bare_of (spell.numeric w) h k = absurd (cc)
bare_of (spell.bigint w) h k = absurd (cc)
bare_of (spell.string_literal w) h k = absurd (cc)
bare_of (spell.regexp_literal w) h k = absurd (cc)
bare_of (spell.template t) h k = absurd (cc)
bare_of (spell.array y g z) h k = absurd (cc)
bare_of (spell.object y g z) h k = absurd (cc)
bare_of (spell.function_expression (spell.function p w s id ps t)) h k = absurd (cc)
bare_of (spell.class_expression (spell.class w id q y es z)) h k = absurd (cc)
bare_of (spell.parenthesized y e z) h k = absurd (cc)
bare_of (spell.import_meta w y z) h k = absurd (cc)
bare_of (spell.new_target w y z) h k = absurd (cc)
bare_of (spell.member q o (spell.static_access d w)) h k = absurd (cc)
bare_of (spell.member q o (spell.computed_access d y e z)) h k = absurd (cc)
bare_of (spell.member q o (spell.private_access d w)) h k = absurd (cc)
bare_of (spell.super_member w (spell.static_access d v) p) h k = absurd (cc)
bare_of (spell.super_member w (spell.computed_access d y e z) p) h k = absurd (cc)
bare_of (spell.super_member w (spell.private_access d v) p) h k = absurd (cc)
bare_of (spell.tagged q t y) h k = absurd (cc)
bare_of (spell.construction w q f es) h k = absurd (cc)
bare_of (spell.bare_construction s) h k = s
bare_of (spell.call q f es) h k = absurd (cc)
bare_of (spell.super_call w es) h k = absurd (cc)
bare_of (spell.import_call w y e o z) h k = absurd (cc)
bare_of (spell.chain s) h k = absurd (cc)
bare_of (spell.update_behind p q t l y) h k = absurd (cc)
bare_of (spell.update_before p q y t) h k = absurd (cc)
bare_of (spell.unary p q y e) h k = absurd (cc)
bare_of (spell.await_expression p w e) h k = absurd (cc)
bare_of (spell.exponentiation p q l y r) h k = absurd (cc)
bare_of (spell.binary p q s t l y r) h k = absurd (cc)
bare_of (spell.private_in p w y r) h k = absurd (cc)
bare_of (spell.conjunction p q l y r) h k = absurd (cc)
bare_of (spell.disjunction p q l y r) h k = absurd (cc)
bare_of (spell.coalescing p q l y r) h k = absurd (cc)
bare_of (spell.conditional p t y e z f) h k = absurd (cc)
bare_of (spell.assignment p q t y e) h k = absurd (cc)
bare_of (spell.arrow ps l y t) h k = absurd (cc)
bare_of (spell.bare_yield w) h k = absurd (cc)
bare_of (spell.yielding w l e) h k = absurd (cc)
bare_of (spell.delegating w l y e) h k = absurd (cc)
