-- The function of the sign at the front is the relation of the grammar.
use Rattle.std.proofs.Common.{◌≡◌, refl, ℕ, ◌≤◌, Bool, true, false, not, ◌&&◌, ◌||◌, if◌then◌else◌, List, [], ◌∷◌, ◌++◌, Option, None, Some, inl, inr, sym, ap, subst, arith}
use Rattle.std.specs.Prelude.{nat_eq, nat_lt, codes, length, is_some}
use Rattle.std.proofs.lemmas.Bool.{and_parts, or_cases, eqb-true, false≢true, ltb-false}
use Rattle.js_term.specs.Term.{Text}
use Rattle.js_term.specs.Lexeme.{is_digit, is_one_of}
use Rattle.js_syntax.specs.Lexical.{begins, first_passes, has_byte}
use Rattle.js_syntax.specs.Tokens.{signs, opens_with, is_longest}
use Rattle.js_syntax.proofs.Fronts.{among}
use Rattle.js_tokens.specs.Punctuators.{behind_less, behind_greater, behind_equals, behind_exclamation, behind_twice, behind_thrice, behind_once, behind_question, behind_point, point_digit, alone, pointed, punctuator_at}
use Rattle.js_tokens.proofs.Beginnings.{each_of, begins_split, begins_same}

-- ---- the longest sign is one

abbrev is_sign_of : Text → Text → Bool
is_sign_of s text = is_one_of s signs && (opens_with s text && is_longest s text)

pub record IsPunctuator (s text : Text) : Type 0 where
  pub is_one : is_one_of s signs ≡ true
  pub opens : opens_with s text ≡ true
  pub longest : is_longest s text ≡ true

is_sign : (s text : Text) → is_sign_of s text ≡ true → IsPunctuator s text
is_sign s text e =
    let parts = and_parts (is_one_of s signs) _ e in
    let more = and_parts (opens_with s text) _ parts.1 in
    record { is_one = parts.0; opens = more.0; longest = more.1 }

begins_of_sign : (s text : Text) → opens_with s text ≡ true → begins s text ≡ true
begins_of_sign s text e = (and_parts (begins s text) _ e).0

not_shorter : (s t text : Text) → is_longest s text ≡ true → is_one_of t signs ≡ true → opens_with t text ≡ true → length t ≤ length s
not_shorter s t text e is opens =
    let h : not (nat_lt (length s) (length t) && opens_with t text) ≡ true = among (λ t. not (nat_lt (length s) (length t) && opens_with t text)) signs t e is in
    go (nat_lt (length s) (length t)) refl (rw opens at h)
  where
    go : (b : Bool) → nat_lt (length s) (length t) ≡ b → not (b && true) ≡ true → length t ≤ length s
    go true is f = absurd (false≢true f)
    go false is f = ltb-false _ _ is

pub one_punctuator : (s t text : Text) → IsPunctuator s text → IsPunctuator t text → s ≡ t
one_punctuator s t text h k =
    let low = not_shorter s t text h.longest k.is_one k.opens in
    let high = not_shorter t s text k.longest h.is_one h.opens in
    let split = begins_split t text (begins_of_sign t text k.opens) in
    begins_same s t split.rest (subst (λ z. begins s z ≡ true) split.is (begins_of_sign s text h.opens)) (omega arith)

-- ---- what the function finds is the longest

record Each (text : Text) (found : Option Text) : Type 0 where
  holds : (s : Text) → found ≡ Some s → IsPunctuator s text

each_none : (text : Text) → Each text None
each_none text = record { holds = λ s e. absurd (cc) }

each_some : (s text : Text) → is_sign_of s text ≡ true → Each text (Some s)
each_some s text h = record { holds = λ t e. let same : s ≡ t = cc in subst (λ z. IsPunctuator z text) same (is_sign s text h) }

each_if : (text : Text) (b : Bool) (x y : Option Text) → (b ≡ true → Each text x) → (b ≡ false → Each text y) → Each text (if b then x else y)
each_if text true x y h k = h refl
each_if text false x y h k = k refl

at_byte : (P : ℕ → Type 0) (c d : ℕ) → nat_eq c d ≡ true → P d → P c
at_byte P c d e h = subst P (sym (eqb-true c d e)) h

-- by the tests of what is behind the first byte
equals : (s : Text) → is_sign_of (61 ∷ behind_equals s) (61 ∷ s) ≡ true
equals s = go (begins (codes "==") s) (begins (codes "=") s) (begins (codes ">") s) refl refl refl
  where
    go : (a b d : Bool) → (begins (codes "==") s) ≡ a → (begins (codes "=") s) ≡ b → (begins (codes ">") s) ≡ d → is_sign_of (61 ∷ (if a then codes "==" else if b then codes "=" else if d then codes ">" else [])) (61 ∷ s) ≡ true
    go true b d h0 h1 h2 = rw h0 refl
    go false true d h0 h1 h2 = rw (h0, h1) refl
    go false false true h0 h1 h2 = rw (h0, h2) refl
    go false false false h0 h1 h2 = rw (h0, h1, h2) refl

exclamation : (s : Text) → is_sign_of (33 ∷ behind_exclamation s) (33 ∷ s) ≡ true
exclamation s = go (begins (codes "==") s) (begins (codes "=") s) refl refl
  where
    go : (a b : Bool) → (begins (codes "==") s) ≡ a → (begins (codes "=") s) ≡ b → is_sign_of (33 ∷ (if a then codes "==" else if b then codes "=" else [])) (33 ∷ s) ≡ true
    go true b h0 h1 = rw h0 refl
    go false true h0 h1 = rw (h0, h1) refl
    go false false h0 h1 = rw (h0, h1) refl

plus : (s : Text) → is_sign_of (43 ∷ behind_twice 43 s) (43 ∷ s) ≡ true
plus s = go (begins (codes "+") s) (begins (codes "=") s) refl refl
  where
    go : (a b : Bool) → (begins (codes "+") s) ≡ a → (begins (codes "=") s) ≡ b → is_sign_of (43 ∷ (if a then codes "+" else if b then codes "=" else [])) (43 ∷ s) ≡ true
    go true b h0 h1 = rw h0 refl
    go false true h0 h1 = rw h1 refl
    go false false h0 h1 = rw (h0, h1) refl

minus : (s : Text) → is_sign_of (45 ∷ behind_twice 45 s) (45 ∷ s) ≡ true
minus s = go (begins (codes "-") s) (begins (codes "=") s) refl refl
  where
    go : (a b : Bool) → (begins (codes "-") s) ≡ a → (begins (codes "=") s) ≡ b → is_sign_of (45 ∷ (if a then codes "-" else if b then codes "=" else [])) (45 ∷ s) ≡ true
    go true b h0 h1 = rw h0 refl
    go false true h0 h1 = rw h1 refl
    go false false h0 h1 = rw (h0, h1) refl

ampersand : (s : Text) → is_sign_of (38 ∷ behind_thrice 38 s) (38 ∷ s) ≡ true
ampersand s = go (begins (codes "&=") s) (begins (codes "&") s) (begins (codes "=") s) refl refl refl
  where
    go : (a b d : Bool) → (begins (codes "&=") s) ≡ a → (begins (codes "&") s) ≡ b → (begins (codes "=") s) ≡ d → is_sign_of (38 ∷ (if a then codes "&=" else if b then codes "&" else if d then codes "=" else [])) (38 ∷ s) ≡ true
    go true b d h0 h1 h2 = rw h0 refl
    go false true d h0 h1 h2 = rw (h0, h1) refl
    go false false true h0 h1 h2 = rw (h0, h2) refl
    go false false false h0 h1 h2 = rw (h0, h1, h2) refl

bar : (s : Text) → is_sign_of (124 ∷ behind_thrice 124 s) (124 ∷ s) ≡ true
bar s = go (begins (codes "|=") s) (begins (codes "|") s) (begins (codes "=") s) refl refl refl
  where
    go : (a b d : Bool) → (begins (codes "|=") s) ≡ a → (begins (codes "|") s) ≡ b → (begins (codes "=") s) ≡ d → is_sign_of (124 ∷ (if a then codes "|=" else if b then codes "|" else if d then codes "=" else [])) (124 ∷ s) ≡ true
    go true b d h0 h1 h2 = rw h0 refl
    go false true d h0 h1 h2 = rw (h0, h1) refl
    go false false true h0 h1 h2 = rw (h0, h2) refl
    go false false false h0 h1 h2 = rw (h0, h1, h2) refl

star : (s : Text) → is_sign_of (42 ∷ behind_thrice 42 s) (42 ∷ s) ≡ true
star s = go (begins (codes "*=") s) (begins (codes "*") s) (begins (codes "=") s) refl refl refl
  where
    go : (a b d : Bool) → (begins (codes "*=") s) ≡ a → (begins (codes "*") s) ≡ b → (begins (codes "=") s) ≡ d → is_sign_of (42 ∷ (if a then codes "*=" else if b then codes "*" else if d then codes "=" else [])) (42 ∷ s) ≡ true
    go true b d h0 h1 h2 = rw h0 refl
    go false true d h0 h1 h2 = rw (h0, h1) refl
    go false false true h0 h1 h2 = rw (h0, h2) refl
    go false false false h0 h1 h2 = rw (h0, h1, h2) refl

slash : (s : Text) → is_sign_of (47 ∷ behind_once s) (47 ∷ s) ≡ true
slash s = go (begins (codes "=") s) refl
  where
    go : (a : Bool) → (begins (codes "=") s) ≡ a → is_sign_of (47 ∷ (if a then codes "=" else [])) (47 ∷ s) ≡ true
    go true h0 = rw h0 refl
    go false h0 = rw h0 refl

percent : (s : Text) → is_sign_of (37 ∷ behind_once s) (37 ∷ s) ≡ true
percent s = go (begins (codes "=") s) refl
  where
    go : (a : Bool) → (begins (codes "=") s) ≡ a → is_sign_of (37 ∷ (if a then codes "=" else [])) (37 ∷ s) ≡ true
    go true h0 = rw h0 refl
    go false h0 = rw h0 refl

caret : (s : Text) → is_sign_of (94 ∷ behind_once s) (94 ∷ s) ≡ true
caret s = go (begins (codes "=") s) refl
  where
    go : (a : Bool) → (begins (codes "=") s) ≡ a → is_sign_of (94 ∷ (if a then codes "=" else [])) (94 ∷ s) ≡ true
    go true h0 = rw h0 refl
    go false h0 = rw h0 refl

less : (s : Text) → is_sign_of (60 ∷ behind_less s) (60 ∷ s) ≡ true
less s = go (begins (codes "<=") s) (begins (codes "<") s) (begins (codes "=") s) refl refl refl
  where
    go : (a b d : Bool) → (begins (codes "<=") s) ≡ a → (begins (codes "<") s) ≡ b → (begins (codes "=") s) ≡ d → is_sign_of (60 ∷ (if a then codes "<=" else if b then codes "<" else if d then codes "=" else [])) (60 ∷ s) ≡ true
    go true b d h0 h1 h2 = rw h0 refl
    go false true d h0 h1 h2 = rw (h0, h1) refl
    go false false true h0 h1 h2 = rw (h0, h2) refl
    go false false false h0 h1 h2 = rw (h0, h1, h2) refl

greater : (s : Text) → is_sign_of (62 ∷ behind_greater s) (62 ∷ s) ≡ true
greater s = go (begins (codes ">>=") s) (begins (codes ">>") s) (begins (codes ">=") s) (begins (codes ">") s) (begins (codes "=") s) refl refl refl refl refl
  where
    go : (a b d e f : Bool) → (begins (codes ">>=") s) ≡ a → (begins (codes ">>") s) ≡ b → (begins (codes ">=") s) ≡ d → (begins (codes ">") s) ≡ e → (begins (codes "=") s) ≡ f → is_sign_of (62 ∷ (if a then codes ">>=" else if b then codes ">>" else if d then codes ">=" else if e then codes ">" else if f then codes "=" else [])) (62 ∷ s) ≡ true
    go true b d e f h0 h1 h2 h3 h4 = rw h0 refl
    go false true d e f h0 h1 h2 h3 h4 = rw (h0, h1) refl
    go false false true e f h0 h1 h2 h3 h4 = rw (h0, h2) refl
    go false false false true f h0 h1 h2 h3 h4 = rw (h0, h1, h2, h3) refl
    go false false false false true h0 h1 h2 h3 h4 = rw (h0, h1, h2, h4) refl
    go false false false false false h0 h1 h2 h3 h4 = rw (h0, h1, h2, h3, h4) refl

question : (s : Text) → is_sign_of (63 ∷ behind_question s) (63 ∷ s) ≡ true
question s = go (begins (codes "?=") s) (begins (codes "?") s) (begins (codes ".") s && not (point_digit s)) refl refl refl
  where
    go : (a b d : Bool) → (begins (codes "?=") s) ≡ a → (begins (codes "?") s) ≡ b → (begins (codes ".") s && not (point_digit s)) ≡ d → is_sign_of (63 ∷ (if a then codes "?=" else if b then codes "?" else if d then codes "." else [])) (63 ∷ s) ≡ true
    go true b d h0 h1 h2 = rw h0 refl
    go false true d h0 h1 h2 = rw (h0, h1) refl
    go false false true h0 h1 h2 = rw (h0, h2) refl
    go false false false h0 h1 h2 = rw (h0, h1, h2) refl

point : (s : Text) → Each (46 ∷ s) (pointed (behind_point s))
point s = go (begins (codes "..") s) (first_passes is_digit s) refl refl
  where
    go : (a b : Bool) → begins (codes "..") s ≡ a → first_passes is_digit s ≡ b → Each (46 ∷ s) (pointed (if a then Some (codes "..") else if b then None else Some []))
    go true b e f = each_some _ _ (rw e refl)
    go false true e f = each_none _
    go false false e f = each_some _ _ (rw (e, f) refl)

abbrev AllBytes : (ℕ → Type 0) → List ℕ → Type 0
AllBytes P [] = Unit {0}
AllBytes P (y ∷ ys) = P y × AllBytes P ys

each_byte : (P : ℕ → Type 0) (ys : List ℕ) (c : ℕ) → AllBytes P ys → has_byte ys c ≡ true → P c
each_byte P [] c all e = absurd (false≢true e)
each_byte P (y ∷ ys) c all e =
    elim (or_cases (nat_eq c y) (has_byte ys c) e) as (λ z. P c) [
      | inl same ↦ at_byte P c y same all.0
      | inr other ↦ each_byte P ys c all.1 other
    ]

two_bytes : (P : ℕ → Type 0) (c d e : ℕ) → P d → P e → (nat_eq c d || nat_eq c e) ≡ true → P c
two_bytes P c d e h k is = elim (or_cases (nat_eq c d) (nat_eq c e) is) as (λ z. P c) [ inl same ↦ at_byte P c d same h | inr same ↦ at_byte P c e same k ]

three_bytes : (P : ℕ → Type 0) (c d e f : ℕ) → P d → P e → P f → (nat_eq c d || (nat_eq c e || nat_eq c f)) ≡ true → P c
three_bytes P c d e f h k l is = elim (or_cases (nat_eq c d) (nat_eq c e || nat_eq c f) is) as (λ z. P c) [ inl same ↦ at_byte P c d same h | inr same ↦ two_bytes P c e f k l same ]

punctuator_each : (text : Text) → Each text (punctuator_at text)
punctuator_each [] = each_none []
punctuator_each (c ∷ s) =
    each_if (c ∷ s) (has_byte alone c) _ _ (λ h. each_some (c ∷ []) (c ∷ s) (each_byte (λ d. is_sign_of (d ∷ []) (d ∷ s) ≡ true) alone c (refl, (refl, (refl, (refl, (refl, (refl, (refl, (refl, (refl, (refl, tt)))))))))) h)) (λ n0.
    each_if (c ∷ s) (nat_eq c 46) _ _ (λ h. at_byte (λ d. Each (d ∷ s) (pointed (behind_point s))) c 46 h (point s)) (λ n1.
    each_if (c ∷ s) (nat_eq c 61) _ _ (λ h. each_some (c ∷ behind_equals s) (c ∷ s) (at_byte (λ d. is_sign_of (d ∷ behind_equals s) (d ∷ s) ≡ true) c 61 h (equals s))) (λ n2.
    each_if (c ∷ s) (nat_eq c 33) _ _ (λ h. each_some (c ∷ behind_exclamation s) (c ∷ s) (at_byte (λ d. is_sign_of (d ∷ behind_exclamation s) (d ∷ s) ≡ true) c 33 h (exclamation s))) (λ n3.
    each_if (c ∷ s) (nat_eq c 43 || nat_eq c 45) _ _ (λ h. each_some (c ∷ behind_twice c s) (c ∷ s) (two_bytes (λ d. is_sign_of (d ∷ behind_twice d s) (d ∷ s) ≡ true) c 43 45 (plus s) (minus s) h)) (λ n4.
    each_if (c ∷ s) (nat_eq c 38 || (nat_eq c 124 || nat_eq c 42)) _ _ (λ h. each_some (c ∷ behind_thrice c s) (c ∷ s) (three_bytes (λ d. is_sign_of (d ∷ behind_thrice d s) (d ∷ s) ≡ true) c 38 124 42 (ampersand s) (bar s) (star s) h)) (λ n5.
    each_if (c ∷ s) (nat_eq c 47 || (nat_eq c 37 || nat_eq c 94)) _ _ (λ h. each_some (c ∷ behind_once s) (c ∷ s) (three_bytes (λ d. is_sign_of (d ∷ behind_once s) (d ∷ s) ≡ true) c 47 37 94 (slash s) (percent s) (caret s) h)) (λ n6.
    each_if (c ∷ s) (nat_eq c 60) _ _ (λ h. each_some (c ∷ behind_less s) (c ∷ s) (at_byte (λ d. is_sign_of (d ∷ behind_less s) (d ∷ s) ≡ true) c 60 h (less s))) (λ n7.
    each_if (c ∷ s) (nat_eq c 62) _ _ (λ h. each_some (c ∷ behind_greater s) (c ∷ s) (at_byte (λ d. is_sign_of (d ∷ behind_greater s) (d ∷ s) ≡ true) c 62 h (greater s))) (λ n8.
    each_if (c ∷ s) (nat_eq c 63) _ _ (λ h. each_some (c ∷ behind_question s) (c ∷ s) (at_byte (λ d. is_sign_of (d ∷ behind_question s) (d ∷ s) ≡ true) c 63 h (question s))) (λ n9. each_none (c ∷ s)))))))))))

-- What is found is the longest sign that stands there.
pub punctuator_found : (text s : Text) → punctuator_at text ≡ Some s → IsPunctuator s text
punctuator_found text = (punctuator_each text).holds

-- ---- the longest sign is found

abbrev is_seen : Text → Type 0
is_seen s = (rest : Text) → opens_with s (s ++ rest) ≡ true → is_some (punctuator_at (s ++ rest)) ≡ true

sees_point : is_seen (codes ".")
sees_point rest e = go (begins (codes "..") rest) (first_passes is_digit rest) e
  where
    go : (a b : Bool) → not b ≡ true → is_some (pointed (if a then Some (codes "..") else if b then None else Some [])) ≡ true
    go true b f = refl
    go false true f = absurd (false≢true f)
    go false false f = refl

seen : (s : Text) → is_one_of s signs ≡ true → is_seen s
seen s e = each_of is_seen signs s ((λ rest f. refl), ((λ rest f. refl), ((λ rest f. refl), ((λ rest f. refl), ((λ rest f. refl), ((λ rest f. refl), (sees_point, ((λ rest f. refl), ((λ rest f. refl), ((λ rest f. refl), ((λ rest f. refl), ((λ rest f. refl), ((λ rest f. refl), ((λ rest f. refl), ((λ rest f. refl), ((λ rest f. refl), ((λ rest f. refl), ((λ rest f. refl), ((λ rest f. refl), ((λ rest f. refl), ((λ rest f. refl), ((λ rest f. refl), ((λ rest f. refl), ((λ rest f. refl), ((λ rest f. refl), ((λ rest f. refl), ((λ rest f. refl), ((λ rest f. refl), ((λ rest f. refl), ((λ rest f. refl), ((λ rest f. refl), ((λ rest f. refl), ((λ rest f. refl), ((λ rest f. refl), ((λ rest f. refl), ((λ rest f. refl), ((λ rest f. refl), ((λ rest f. refl), ((λ rest f. refl), ((λ rest f. refl), ((λ rest f. refl), ((λ rest f. refl), ((λ rest f. refl), ((λ rest f. refl), ((λ rest f. refl), ((λ rest f. refl), ((λ rest f. refl), ((λ rest f. refl), ((λ rest f. refl), ((λ rest f. refl), ((λ rest f. refl), ((λ rest f. refl), ((λ rest f. refl), ((λ rest f. refl), ((λ rest f. refl), ((λ rest f. refl), ((λ rest f. refl), tt))))))))))))))))))))))))))))))))))))))))))))))))))))))))) e

-- The longest sign that stands there is found.
pub punctuator_there : (s rest : Text) → IsPunctuator s (s ++ rest) → punctuator_at (s ++ rest) ≡ Some s
punctuator_there s rest h = go (punctuator_at (s ++ rest)) refl (seen s h.is_one rest h.opens)
  where
    go : (o : Option Text) → punctuator_at (s ++ rest) ≡ o → is_some o ≡ true → o ≡ Some s
    go None e f = absurd (false≢true f)
    go (Some t) e f = ap (λ z. Some z) (one_punctuator t s (s ++ rest) (punctuator_found (s ++ rest) t e) h)
