-- What stands behind an expression that ends a statement.
use Rattle.std.proofs.Common.{◌≡◌, ◌≤◌, ℕ, Bool, true, false, not, ◌&&◌, ◌||◌, if◌then◌else◌, nat_le, [], ◌∷◌, Option, Some, None, refl, sym, subst, ◌∙◌, ap, arith, codes}
use Rattle.std.specs.Str.{IsUtf8}
use Rattle.std.proofs.lemmas.Bool.{false≢true, not-true, le-leb, leb-true, leb-false, and_parts}
use Rattle.js_term.specs.Term.{Text, is_text, Term, depth}
use Rattle.js_term.specs.Lexeme.{is_one_of}
use Rattle.js_syntax.proofs.Fronts.{among}
use Rattle.js_syntax.specs.Tokens.{signs, Lexeme, word, private_name, number, big_integer, string, no_substitution, template_head, sign, regexp, template_middle, template_tail}
use Rattle.js_syntax.specs.Edges.{Edge, full, updated, loose, edge, goes_on_with, is_access, is_operator, is_update}
use Rattle.js_syntax.specs.Spelling.{Semicolon}
use Rattle.js_tokens.specs.Next.{lexeme}
use Rattle.js_reading.specs.Reading.{sees, sees_word, same_line, at_end, arrow_here, goes_on_at, left_out}
use Rattle.js_reading.specs.Operators.{binds, sign_binds, word_binds}
use Rattle.js_reading.specs.Expressions.{ends_operand}
use Rattle.js_reading.proofs.Each.{there, is_end as at_its_end}
use Rattle.js_reading.proofs.Operations.{is_sign_text}
use Rattle.js_reading.proofs.TokensThere.{sees_by}
use Rattle.js_reading.specs.Parts.{expression}
use Rattle.js_reading.specs.Read.{read}
use Rattle.js_reading.proofs.Listings.{IsReadExpression}
use Rattle.js_reading.proofs.TokensEnd.{Ended, by_sign, by_stop, ended, end_lexeme, no_lexeme, lexeme_sees}
use Rattle.js_reading.proofs.Lists.{is_end, sees_sign, ending_end}
use Rattle.js_reading.proofs.Follows.{holds, either_case, sign_row, tightness, tightness_by, takes_name, broken, Ends, is_full, is_updated, is_loose, end_holds, free_holds, is_access_at, end_operand}

-- nothing is taken on another line but by what goes on
not_here : (a : Text) → same_line a ≡ false → takes_name a ≡ false
unfolding takes_name arrow_here
not_here a h = rw h (go (sees (codes "=>") a))
  where
    go : (p : Bool) → (p && false || false) ≡ false
    go true = refl
    go false = refl

-- what goes on with no expression behind a line end takes none of it, or is a call or a member
data Calm (b : Text) : Type 0 where
  calm_low : tightness true b ≤ 1 → Calm b
  calm_access : is_access_at (lexeme b) ≡ true → Calm b

abbrev is_operator_at : Option Lexeme → Bool
is_operator_at None = false
is_operator_at (Some l) = is_operator l

tight_low : (b : Text) (line : Bool) → takes_name b ≡ false → broken (lexeme b) (same_line b) ≡ line → (line ≡ false → binds true (lexeme b) ≤ 1) → Calm b
unfolding tightness
tight_low b true n e h = calm_low (rw (n, e) (omega arith))
tight_low b false n e h = calm_low (rw (n, e) (h refl))

word_low : (x : Text) → is_operator (word x) ≡ false → word_binds true x ≤ 1
word_low x h = go (is_text x (codes "in")) (is_text x (codes "instanceof")) h
  where
    go : (p q : Bool) → (p || (q || false)) ≡ false → (if p then 11 else if q then 11 else 0) ≤ 1
    go true q h = absurd (cc)
    go false true h = absurd (cc)
    go false false h = omega arith

-- a sign that takes something is an operator, begins a call or a member, or is an update
abbrev is_word_sign : Text → Bool
is_word_sign s = is_one_of s (codes "in" ∷ codes "instanceof" ∷ [])

sign_cases : (s : Text) → 1 ≤ sign_binds s → is_operator (sign s) || is_access (sign s) || is_update s || is_word_sign s ≡ true
sign_cases s h = sign_row (λ t n. is_operator (sign t) || is_access (sign t) || is_update t || is_word_sign t) s refl h

-- no sign is a word
no_word_sign : (b : Text) (s : Text) → IsUtf8 b → lexeme b ≡ Some (sign s) → is_word_sign s ≡ false
no_word_sign b s u is = let t = there b u (sign s) is in not-true _ (among (λ t. not (is_word_sign t)) signs s refl (is_sign_text t.token))

sign_calm : (b : Text) (s : Text) → IsUtf8 b → lexeme b ≡ Some (sign s) → same_line b ≡ false → is_operator (sign s) ≡ false → Calm b
sign_calm b s v is line h = go (is_access (sign s)) (is_update s) refl refl
  where
    broken_is : (k : Bool) → is_update s ≡ k → broken (lexeme b) (same_line b) ≡ k
    broken_is k e = rw (is, line, e) (both k)
      where
        both : (k : Bool) → (k && true) ≡ k
        both true = refl
        both false = refl

    none : is_access (sign s) ≡ false → is_update s ≡ false → binds true (lexeme b) ≤ 1
    none a u = rw is (small (nat_le 1 (sign_binds s)) refl)
      where
        small : (k : Bool) → nat_le 1 (sign_binds s) ≡ k → sign_binds s ≤ 1
        small true e = absurd (let c = sign_cases s (leb-true 1 (sign_binds s) e) in let w = no_word_sign b s v is in let bad : false ≡ true = rw (h, a, u, w) at c in false≢true bad)
        small false e = let z = leb-false 1 (sign_binds s) e in omega arith

    go : (k l : Bool) → is_access (sign s) ≡ k → is_update s ≡ l → Calm b
    go true l e f = calm_access (rw is e)
    go false true e f = tight_low b true (not_here b line) (broken_is true f) (λ x. absurd (cc))
    go false false e f = tight_low b false (not_here b line) (broken_is false f) (λ x. none e f)

newline_calm : (b : Text) → IsUtf8 b → same_line b ≡ false → is_operator_at (lexeme b) ≡ false → Calm b
newline_calm b v line h = go (lexeme b) refl h
  where
    quiet : (o : Option Lexeme) → lexeme b ≡ o → broken o (same_line b) ≡ false → binds true o ≤ 1 → Calm b
    quiet o is e low = tight_low b false (not_here b line) (rw is e) (λ x. rw is low)

    go : (o : Option Lexeme) → lexeme b ≡ o → is_operator_at o ≡ false → Calm b
    go (Some (sign s)) is h = sign_calm b s v is line h
    go (Some (no_substitution x)) is h = calm_access (rw is refl)
    go (Some (template_head x)) is h = calm_access (rw is refl)
    go (Some (word x)) is h = quiet _ is refl (word_low x h)
    go None is h = quiet _ is refl (omega arith)
    go (Some (private_name x)) is h = quiet _ is refl (omega arith)
    go (Some (number x)) is h = quiet _ is refl (omega arith)
    go (Some (big_integer x)) is h = quiet _ is refl (omega arith)
    go (Some (string x v)) is h = quiet _ is refl (omega arith)
    go (Some (regexp x v)) is h = quiet _ is refl (omega arith)
    go (Some (template_middle x)) is h = quiet _ is refl (omega arith)
    go (Some (template_tail x)) is h = quiet _ is refl (omega arith)

-- What stands behind an expression at the end of a statement leaves it as it is.
pub record Behind (x : Edge) (b : Text) : Type 0 where
  pub keeps : holds true x 1 b ≡ true
  pub no_comma : sees (codes ",") b ≡ false

or_parts : (p q : Bool) → (p || q) ≡ false → (p ≡ false) × (q ≡ false)
or_parts true q h = absurd (cc)
or_parts false q h = (refl, h)

no_access : (x : Edge) (b : Text) → x ≡ full → goes_on_at x (lexeme b) ≡ false → is_access_at (lexeme b) ≡ false
no_access x b e h = go (lexeme b) (subst (λ y. goes_on_at y (lexeme b) ≡ false) e h)
  where
    go : (o : Option Lexeme) → goes_on_at full o ≡ false → is_access_at o ≡ false
    go None h = refl
    go (Some l) h = (or_parts (is_operator l) (is_access l) h).1

operator_free : (x : Edge) (o : Option Lexeme) → x ≡ full → goes_on_at x o ≡ false → is_operator_at o ≡ false
operator_free x None e h = refl
operator_free x (Some l) e h = (or_parts (is_operator l) (is_access l) (subst (λ y. goes_on_at y (Some l) ≡ false) e h)).0

updated_free : (x : Edge) (o : Option Lexeme) → x ≡ updated → goes_on_at x o ≡ false → is_operator_at o ≡ false
updated_free x None e h = refl
updated_free x (Some l) e h = subst (λ y. goes_on_at y (Some l) ≡ false) e h

or_left' : (p q : Bool) → p ≡ true → (p || q) ≡ true
or_left' true q h = refl
or_left' false q h = absurd (cc)

or_right' : (p q : Bool) → q ≡ true → (p || q) ≡ true
or_right' true q h = refl
or_right' false q h = h

holds_full : (x : Edge) (b : Text) → x ≡ full → tightness true b ≤ 1 → holds true x 1 b ≡ true
unfolding holds
holds_full x b e h = subst (λ y. holds true y 1 b ≡ true) (sym e) (le-leb (tightness true b) 1 h)

holds_updated : (x : Edge) (b : Text) → x ≡ updated → Calm b → holds true x 1 b ≡ true
unfolding holds
holds_updated x b e (calm_low h) = subst (λ y. holds true y 1 b ≡ true) (sym e) (or_left' (nat_le (tightness true b) 1) (is_access_at (lexeme b)) (le-leb (tightness true b) 1 h))
holds_updated x b e (calm_access h) = subst (λ y. holds true y 1 b ≡ true) (sym e) (or_right' (nat_le (tightness true b) 1) (is_access_at (lexeme b)) h)

holds_loose : (x : Edge) (b : Text) → x ≡ loose → ends_operand b ≡ true → holds true x 1 b ≡ true
unfolding holds
holds_loose x b e h = subst (λ y. holds true y 1 b ≡ true) (sym e) h

line_operand : (b : Text) → same_line b ≡ false → ends_operand b ≡ true
unfolding ends_operand
line_operand b h = rw (h) refl

newline_behind : {n : ℕ} (x : Edge) (b : Text) → IsUtf8 b → Ends n x → same_line b ≡ false → goes_on_at x (lexeme b) ≡ false → holds true x 1 b ≡ true
newline_behind x b u (is_full e) line h = go (newline_calm b u line (operator_free x (lexeme b) e h))
  where
    go : Calm b → holds true x 1 b ≡ true
    go (calm_low low) = holds_full x b e low
    go (calm_access a) = absurd (false≢true (sym (no_access x b e h) ∙ a))
newline_behind x b u (is_updated e top) line h = holds_updated x b e (newline_calm b u line (updated_free x (lexeme b) e h))
newline_behind x b u (is_loose e top) line h = holds_loose x b e (line_operand b line)

-- a comma goes on with an expression
comma_goes : {n : ℕ} (x : Edge) → Ends n x → goes_on_with x (sign (codes ",")) ≡ true
comma_goes x (is_full e) = subst (λ y. goes_on_with y (sign (codes ",")) ≡ true) (sym e) refl
comma_goes x (is_updated e top) = subst (λ y. goes_on_with y (sign (codes ",")) ≡ true) (sym e) refl
comma_goes x (is_loose e top) = subst (λ y. goes_on_with y (sign (codes ",")) ≡ true) (sym e) refl

no_comma_behind : {n : ℕ} (x : Edge) (b : Text) → Ends n x → goes_on_at x (lexeme b) ≡ false → sees (codes ",") b ≡ false
no_comma_behind x b ends h = go (sees (codes ",") b) refl
  where
    go : (k : Bool) → sees (codes ",") b ≡ k → sees (codes ",") b ≡ false
    go false e = e
    go true e = absurd (false≢true (sym h ∙ ap (goes_on_at x) (sees_sign (codes ",") b e) ∙ comma_goes x ends))

at_end_operand : (b : Text) → at_end b ≡ true → ends_operand b ≡ true
unfolding ends_operand
at_end_operand b h = rw h (go (not (same_line b)) _ _ _ _ _ _)
  where
    go : (p r s t v w x : Bool) → (p || true || r || s || t || v || w || x) ≡ true
    go true r s t v w x = refl
    go false r s t v w x = refl

-- where a semicolon stands or is left out, an operand ends
pub ended_operand : {x : Edge} {b c : Text} → Ended x b c → ends_operand b ≡ true
unfolding left_out
ended_operand {b = b} (by_sign t) = end_operand b (ap is_end t.lexeme_is)
ended_operand {b = b} (by_stop same st) = either_case (sees (codes "}") b || at_end b) _ st.left
    (λ h. either_case (sees (codes "}") b) (at_end b) h (λ is. end_operand b (ending_end (codes "}") b refl is)) (λ is. at_end_operand b is))
    (λ h. let (line, on) = and_parts (not (same_line b)) _ h in line_operand b (not-true _ line))

-- nothing is left, or a brace closes
end_behind : {n : ℕ} (x : Edge) (b : Text) → Ends n x → is_end (lexeme b) ≡ true → sees (codes ",") b ≡ false → Behind x b
end_behind x b ends h h' = record { keeps = end_holds true x 1 b h; no_comma = h' }

none_tight : (b : Text) → lexeme b ≡ None → tightness true b ≡ 0
unfolding tightness takes_name arrow_here sees sees_word
none_tight b h = rw h (go (same_line b))
  where
    go : (k : Bool) → tightness_by (false && k || k && (false || false)) false true 0 ≡ 0
    go true = refl
    go false = refl

stop_behind : {n : ℕ} (x : Edge) (b : Text) → IsUtf8 b → Ends n x → left_out x b ≡ true → Behind x b
unfolding left_out
stop_behind x b u ends h = either_case (sees (codes "}") b || at_end b) _ h
    (λ h. either_case (sees (codes "}") b) (at_end b) h
    (λ is. let l = sees_sign (codes "}") b is in end_behind x b ends (ap is_end l) (lexeme_sees (codes ",") b _ l))
    (λ is. let l = end_lexeme b (at_its_end b is) in record { keeps = free_holds true x 1 b (let z = none_tight b l in omega arith) (at_end_operand b is); no_comma = no_lexeme (codes ",") b l }))
    (λ h. let (line, on) = and_parts (not (same_line b)) (not (goes_on_at x (lexeme b))) h in
    let off = not-true _ on in
    record { keeps = newline_behind x b u ends (not-true _ line) off; no_comma = no_comma_behind x b ends off })

pub behind_semicolon : {n : ℕ} {x : Edge} {b c : Text} → IsUtf8 b → Ends n x → Ended x b c → Behind x b
behind_semicolon {x = x} {b = b} u ends (by_sign t) = end_behind x b ends (ap is_end t.lexeme_is) (sees_by (codes ",") t)
behind_semicolon {x = x} {b = b} u ends (by_stop same st) = stop_behind x b u ends st.left

-- An expression is read before the semicolon of its statement.
pub before_semicolon : {e : Term} {a b c : Text} → IsReadExpression true e a b → Semicolon (edge e) b c → (limit : ℕ) → depth e ≤ limit → expression (read limit) true a ≡ Some (e, b)
before_semicolon x end limit fits = let k = behind_semicolon x.utf8 x.ends (ended end x.utf8) in x.reads limit fits k.keeps k.no_comma
