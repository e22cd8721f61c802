-- An expression that does not lead with a brace or `function` does not begin so in its text.
use Rattle.std.proofs.Common.{◌≡◌, refl, sym, ◌∙◌, ap, ℕ, List, [], ◌∷◌, ◌++◌, Bool, true, false, ◌||◌, not, nat_eq, nat_lt, ◌≤◌, arith, map, ◌⊎◌, inl, inr}
use Rattle.std.specs.Prelude.{codes}
use Rattle.std.specs.List.{list_all}
use Rattle.std.specs.Cmp.Lexicographic.{bytes_decides}
use Rattle.std.proofs.lemmas.Bool.{eqb-true, ltb-false, le-ltb}
use Rattle.js_term.specs.Term.{Text, is_text, Term}
use Rattle.js_term.specs.Lexeme.{whole, Token, word, number, string, sign, IsSpelled, is_name, is_number, is_string, is_mark, is_word, is_decimal, is_reserved, is_one_of, is_blank, is_start, is_part, is_digit, is_line_end, between, is_quote, goes_on, not_next, front, first_word, opens_otherwise}
use Rattle.js_term.specs.Spells.{Stands, identifier, boolean, numeric, string_literal, parenthesized, call, member, await_expression, array, object, Listed, last, and, joined}
use Rattle.js_print.specs.Layout.{leads}
use Rattle.js_print.proofs.Fit.{differ, and_left, and_right}

false_by : (b : Bool) → (b ≡ true → false ≡ true) → b ≡ false
false_by true f = sym (f refl)
false_by false f = refl

or_cases : (a b : Bool) → (a || b) ≡ true → (a ≡ true) ⊎ (b ≡ true)
or_cases true b h = inl refl
or_cases false b h = inr h

-- a test that no blank passes
pub blank_fails : (test : ℕ → Bool) → test 32 ≡ false → test 9 ≡ false → test 10 ≡ false → test 13 ≡ false → (c : ℕ) → test c ≡ true → is_blank c ≡ false
blank_fails test p q r s c h = false_by (is_blank c) (λ b. elim (or_cases (nat_eq c 32 || nat_eq c 9) (is_line_end c) b) [
  | inl x ↦ elim (or_cases (nat_eq c 32) (nat_eq c 9) x) [ inl e ↦ at 32 p e | inr e ↦ at 9 q e ]
  | inr x ↦ elim (or_cases (nat_eq c 10) (nat_eq c 13) x) [ inl e ↦ at 10 r e | inr e ↦ at 13 s e ]
])
  where
    at : (d : ℕ) → test d ≡ false → nat_eq c d ≡ true → false ≡ true
    at d f e = sym f ∙ ap test (sym (eqb-true c d e)) ∙ h

fails_at : (test : ℕ → Bool) (d c : ℕ) → test d ≡ false → test c ≡ true → nat_eq c d ≡ false
fails_at test d c f h = false_by (nat_eq c d) (λ e. sym f ∙ ap test (sym (eqb-true c d e)) ∙ h)

front_gap : (gap s : Text) → list_all is_blank gap ≡ true → front (gap ++ s) ≡ front s
front_gap [] s h = refl
front_gap (c ∷ cs) s h = rw (and_left (is_blank c) (list_all is_blank cs) h) (front_gap cs s (and_right (is_blank c) (list_all is_blank cs) h))

part_goes_on : (c : ℕ) → is_part c ≡ true → goes_on c ≡ true
part_goes_on c h = rw h refl

words_end : (x rest : Text) → list_all is_part x ≡ true → not_next goes_on rest ≡ true → first_word (x ++ rest) ≡ x
words_end [] [] h n = refl
words_end [] (c ∷ cs) h n = rw (not_false (goes_on c) n) refl
  where
    not_false : (b : Bool) → not b ≡ true → b ≡ false
    not_false true g = sym g
    not_false false g = refl
words_end (c ∷ cs) rest h n =
    rw (part_goes_on c (and_left (is_part c) (list_all is_part cs) h)) (ap (λ s. c ∷ s) (words_end cs rest (and_right (is_part c) (list_all is_part cs) h) n))

start_part : (c : ℕ) → is_start c ≡ true → is_part c ≡ true
start_part c h = rw h refl

text_same : (x y : Text) → is_text x y ≡ true → x ≡ y
text_same x y e = (bytes_decides x y).0 e

abbrev openers : List Text
openers = map codes ("function" ∷ "class" ∷ [])

-- a text whose first byte is no blank and no brace, by its first word
opens_by : (c : ℕ) (cs w : Text) → is_blank c ≡ false → nat_eq c 123 ≡ false → first_word (c ∷ cs) ≡ w → is_one_of w openers ≡ false → opens_otherwise (c ∷ cs) ≡ false
opens_by c cs w b n e o = rw (b, n, e) o

behind : (a gap s : Text) → a ≡ gap ++ s → list_all is_blank gap ≡ true → opens_otherwise s ≡ false → opens_otherwise a ≡ false
behind a gap s e b o = rw (e, front_gap gap s b) o

word_opens : (x rest : Text) → is_word x ≡ true → not_next goes_on rest ≡ true → is_one_of x openers ≡ false → opens_otherwise (x ++ rest) ≡ false
word_opens [] rest h n o = differ (sym h)
word_opens (c ∷ cs) rest h n o =
    let s : is_start c ≡ true = and_left (is_start c) (list_all is_part cs) h in
    let p : list_all is_part (c ∷ cs) ≡ true = rw (start_part c s) (and_right (is_start c) (list_all is_part cs) h) in
    opens_by c (cs ++ rest) (c ∷ cs) (blank_fails is_start refl refl refl refl c s) (fails_at is_start 123 c refl s) (words_end (c ∷ cs) rest p n) o

-- a first word that begins with a digit
digit_word : (c : ℕ) (cs : Text) → is_digit c ≡ true → is_one_of (c ∷ cs) openers ≡ false
digit_word c cs h = rw (fails_at is_digit 102 c refl h, fails_at is_digit 99 c refl h) refl

digit_opens : (c : ℕ) (cs : Text) → is_digit c ≡ true → opens_otherwise (c ∷ cs) ≡ false
digit_opens c cs h =
    let g : goes_on c ≡ true = rw h (by (is_start c) (nat_lt 127 c)) in
    opens_by c cs (c ∷ first_word cs) (blank_fails is_digit refl refl refl refl c h) (fails_at is_digit 123 c refl h) (rw g refl) (digit_word c (first_word cs) h)
  where
    by : (a b : Bool) → ((a || true) || b) ≡ true
    by true b = refl
    by false b = refl

not_true : (b : Bool) → not b ≡ true → b ≡ false
not_true true h = sym h
not_true false h = refl

pub tens_digit : (c : ℕ) → between 49 57 c ≡ true → is_digit c ≡ true
tens_digit c h =
    let low : 49 ≤ c = ltb-false c 49 (not_true (nat_lt c 49) (and_left (not (nat_lt c 49)) (not (nat_lt 57 c)) h)) in
    let lower : 48 ≤ c = omega arith in
    rw (le-ltb c 48 lower) (and_right (not (nat_lt c 49)) (not (nat_lt 57 c)) h)

number_opens : (x rest : Text) → is_decimal x ≡ true → opens_otherwise (x ++ rest) ≡ false
number_opens [] rest h = differ (sym h)
number_opens (c ∷ []) rest h = digit_opens c rest h
number_opens (c ∷ d ∷ cs) rest h = digit_opens c ((d ∷ cs) ++ rest) (tens_digit c (and_left (between 49 57 c) (list_all is_digit (d ∷ cs)) h))

quote_opens : (q : ℕ) (s : Text) → is_quote q ≡ true → opens_otherwise (q ∷ s) ≡ false
quote_opens q s h = elim (or_cases (nat_eq q 39) (nat_eq q 34) h) [ inl e ↦ rw (eqb-true q 39 e) refl | inr e ↦ rw (eqb-true q 34 e) refl ]

unreserved : (x : Text) → is_reserved x ≡ false → is_one_of x openers ≡ false
unreserved x r = false_by (is_one_of x openers) (λ h. elim (or_cases (is_text x (codes "function")) (is_text x (codes "class") || false) h) [
  | inl e ↦ sym r ∙ ap is_reserved (text_same x (codes "function") e)
  | inr e ↦ elim (or_cases (is_text x (codes "class")) false e) [ inl f ↦ sym r ∙ ap is_reserved (text_same x (codes "class") f) | inr f ↦ f ]
])

word_at : {x a b : Text} → Token whole a (word x) b → is_one_of x openers ≡ false → opens_otherwise a ≡ false
word_at {x} {a} {b} t o = by t.is_spelled t.whole_is
  where
    by : {s : Text} → IsSpelled whole (word x) s b → a ≡ t.gap ++ (s ++ b) → opens_otherwise a ≡ false
    by (is_name w n) e = behind a t.gap (x ++ b) e t.blank (word_opens x b w n o)

number_at : {x a b : Text} → Token whole a (number x) b → opens_otherwise a ≡ false
number_at {x} {a} {b} t = by t.is_spelled t.whole_is
  where
    by : {s : Text} → IsSpelled whole (number x) s b → a ≡ t.gap ++ (s ++ b) → opens_otherwise a ≡ false
    by (is_number w n) e = behind a t.gap (x ++ b) e t.blank (number_opens x b w)

string_at : {x a b : Text} → Token whole a (string x) b → opens_otherwise a ≡ false
string_at {x} {a} {b} t = by t.is_spelled t.whole_is
  where
    by : {s : Text} → IsSpelled whole (string x) s b → a ≡ t.gap ++ (s ++ b) → opens_otherwise a ≡ false
    by (is_string {quote = q} {spelled = s} w c) e = behind a t.gap (q ∷ ((s ++ q ∷ []) ++ b)) e t.blank (quote_opens q ((s ++ q ∷ []) ++ b) w)

sign_at : {c : ℕ} {a b : Text} → Token whole a (sign c) b → opens_otherwise (c ∷ b) ≡ false → opens_otherwise a ≡ false
sign_at {c} {a} {b} t o = by t.is_spelled t.whole_is
  where
    by : {s : Text} → IsSpelled whole (sign c) s b → a ≡ t.gap ++ (s ++ b) → opens_otherwise a ≡ false
    by (is_mark w) e = behind a t.gap (c ∷ b) e t.blank o

pub stands_opens : {u : Term} {a b : Text} → Stands whole u a b → leads u ≡ false → opens_otherwise a ≡ false
stands_opens (identifier {x = x} r t) h = word_at t (unreserved x r)
stands_opens (boolean true t) h = word_at t refl
stands_opens (boolean false t) h = word_at t refl
stands_opens (numeric t) h = number_at t
stands_opens (string_literal t) h = string_at t
stands_opens (parenthesized t es u) h = sign_at t refl
stands_opens (call l s t g u) h = stands_opens s h
stands_opens (member l s t u) h = stands_opens s h
stands_opens (await_expression l t s) h = word_at t refl
stands_opens (array t g u) h = sign_at t refl
stands_opens (object t g u) h = differ h

pub listed_opens : {es : List Term} {a b : Text} → Listed whole es a b → leads (joined es) ≡ false → opens_otherwise a ≡ false
listed_opens (last l s) h = stands_opens s h
listed_opens (and l s t (last k u)) h = stands_opens s h
listed_opens (and l s t (and k u v w)) h = stands_opens s h
