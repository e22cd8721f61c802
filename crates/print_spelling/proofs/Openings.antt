-- What the texts of names and numbers begin with: no gap, no `=` and no sign of a sum; and a point before a name.
use Rattle.std.proofs.Common.{◌≡◌, refl, ℕ, ◌<◌, ◌≤◌, zero, ◌+◌, ◌*◌, ◌-◌, Bool, true, false, not, ◌&&◌, ◌||◌, cond, inl, inr, List, [], ◌∷◌, ◌++◌, arith, sym, ap, subst, ◌∙◌}
use Rattle.std.specs.Prelude.{codes, nat_eq, Option, None, Some, option_map}
use Rattle.std.specs.List.{list_all}
use Rattle.std.specs.Str.{is_utf8, chars, chars_after, continuation_len, lead_bits}
use Rattle.std.proofs.lemmas.Bool.{and_parts, or_cases, not-true, eqb-true, cases_lt, false≢true, true≢false}
use Rattle.std.proofs.lemmas.Bool.Decides.{nat_tests}
use Rattle.unicode_ident.proofs.Computing.{unicode_ident}
use Rattle.js_chars.specs.Names.{is_identifier_start, is_identifier_name}
use Rattle.js_term.specs.Term.{Text}
use Rattle.js_term.specs.Lexeme.{between, is_digit, is_start, is_word, is_one_of}
use Rattle.js_syntax.specs.Lexical.{begins, begins_any, begins_gap, white_space, line_ends, is_ascii, is_name, up_to, onward, is_point, is_numeral, is_integer, is_radix_integer, is_mantissa, is_decimal_literal, is_e, are_digits, is_big_integer, without_last, passes}
use Rattle.js_syntax.specs.Tokens.{signs, opens_with, is_longest}
use Rattle.js_syntax.proofs.Ascii.{from_table}
use Rattle.js_syntax.proofs.Fronts.{name_start}

-- no gap and no `=`
abbrev pub is_fresh : Text → Bool
is_fresh text = not (begins (codes "=") text) && not (begins_gap text)

abbrev pub sum_signs : List Text
sum_signs = codes "+" ∷ codes "-" ∷ []

-- and no sign of a sum
abbrev pub is_opening : Text → Bool
is_opening text = is_fresh text && not (begins_any sum_signs text)

-- a point that begins no longer sign and no number
abbrev pub is_point_sign : Text → Bool
is_point_sign text = opens_with (codes ".") (46 ∷ text) && is_longest (codes ".") (46 ∷ text)

-- ---- names

start_opening : (c : ℕ) (rest : Text) → c < 128 → is_start c ≡ true → is_opening (c ∷ rest) ≡ true
start_opening c rest below e = from_table is_start (λ d. is_opening (d ∷ rest)) c refl below e

start_point : (c : ℕ) (rest : Text) → c < 128 → is_start c ≡ true → is_point_sign (c ∷ rest) ≡ true
start_point c rest below e = from_table is_start (λ d. is_point_sign (d ∷ rest)) c refl below e

-- A text of one byte of ASCII, or the two or three bytes of a character that begins no name.
abbrev two_bytes : ℕ → ℕ → ℕ
two_bytes p q = lead_bits p * 64 + (q - 128)

abbrev three_bytes : ℕ → ℕ → ℕ → ℕ
three_bytes p q r = two_bytes p q * 64 + (r - 128)

abbrev is_other : Text → Bool
is_other [] = false
is_other (p ∷ []) = is_ascii p
is_other (p ∷ q ∷ []) = is_ascii p || (nat_eq (continuation_len p) 1 && not (is_identifier_start (two_bytes p q)))
is_other (p ∷ q ∷ r ∷ []) = is_ascii p || (nat_eq (continuation_len p) 2 && not (is_identifier_start (three_bytes p q r)))
is_other (p ∷ q ∷ r ∷ s ∷ t) = is_ascii p

-- the first character of a name whose first byte leads some more
named_by : (v : ℕ) (x : Text) → is_identifier_name (chars_after zero v x) ≡ true → is_identifier_start v ≡ true
named_by v [] e = (and_parts (is_identifier_start v) true e).0
named_by v (b ∷ x) e = (and_parts (is_identifier_start v) _ e).0

-- a text's characters, as they are led by its first byte
chars_led : (p : ℕ) (x : Text) (k : ℕ) → continuation_len p ≡ k → is_identifier_name (chars (p ∷ x)) ≡ true → is_identifier_name (chars_after k (lead_bits p) x) ≡ true
unfolding chars
chars_led p x k e h = subst (λ n. is_identifier_name (chars_after n (lead_bits p) x) ≡ true) e h

two_not : (p q : ℕ) (cs rest : Text) → nat_eq (continuation_len p) 1 && not (is_identifier_start (two_bytes p q)) ≡ true → is_identifier_name (chars (p ∷ cs)) ≡ true → begins (q ∷ []) (cs ++ rest) ≡ true → ⊥
two_not p q [] rest o n e = false≢true (chars_led p [] 1 (eqb-true (continuation_len p) 1 (and_parts _ _ o).0) n)
two_not p q (d ∷ ds) rest o n e =
    let both = and_parts (nat_eq (continuation_len p) 1) (not (is_identifier_start (two_bytes p q))) o in
    let same : q ≡ d = eqb-true q d (and_parts (nat_eq q d) true e).0 in
    let led = chars_led p (d ∷ ds) 1 (eqb-true (continuation_len p) 1 both.0) n in
    let starts : is_identifier_start (two_bytes p q) ≡ true = named_by (two_bytes p q) ds (subst (λ z. is_identifier_name (chars_after zero (two_bytes p z) ds) ≡ true) (sym same) led) in
    true≢false (sym starts ∙ not-true _ both.1)

three_not : (p q r : ℕ) (cs rest : Text) → nat_eq (continuation_len p) 2 && not (is_identifier_start (three_bytes p q r)) ≡ true → is_identifier_name (chars (p ∷ cs)) ≡ true → begins (q ∷ r ∷ []) (cs ++ rest) ≡ true → ⊥
three_not p q r [] rest o n e = false≢true (chars_led p [] 2 (eqb-true (continuation_len p) 2 (and_parts _ _ o).0) n)
three_not p q r (d ∷ []) rest o n e = false≢true (chars_led p (d ∷ []) 2 (eqb-true (continuation_len p) 2 (and_parts _ _ o).0) n)
three_not p q r (d ∷ f ∷ ds) rest o n e =
    let both = and_parts (nat_eq (continuation_len p) 2) (not (is_identifier_start (three_bytes p q r))) o in
    let ends = and_parts (nat_eq q d) (nat_eq r f && true) e in
    let second : q ≡ d = eqb-true q d ends.0 in
    let third : r ≡ f = eqb-true r f (and_parts (nat_eq r f) true ends.1).0 in
    let led = chars_led p (d ∷ f ∷ ds) 2 (eqb-true (continuation_len p) 2 both.0) n in
    let by_third = subst (λ z. is_identifier_name (chars_after zero (three_bytes p d z) ds) ≡ true) (sym third) led in
    let starts : is_identifier_start (three_bytes p q r) ≡ true = named_by (three_bytes p q r) ds (subst (λ z. is_identifier_name (chars_after zero (three_bytes p z r) ds) ≡ true) (sym second) by_third) in
    true≢false (sym starts ∙ not-true _ both.1)

either_not : (p : ℕ) (b : Bool) → is_ascii p ≡ false → is_ascii p || b ≡ true → b ≡ true
either_not p b e h = sym (ap (λ a. a || b) e) ∙ h

-- a name whose first byte is none of ASCII begins with no such text
other_not : (w : Text) (c : ℕ) (cs rest : Text) → is_other w ≡ true → is_ascii c ≡ false → is_identifier_name (chars (c ∷ cs)) ≡ true → begins w (c ∷ (cs ++ rest)) ≡ false
other_not w c cs rest o high n = by w o (begins w (c ∷ (cs ++ rest))) refl
  where
    from : (p : ℕ) (b : Bool) → nat_eq p c && b ≡ true → p ≡ c
    from p b e = eqb-true p c (and_parts (nat_eq p c) b e).0

    low : (p : ℕ) → p ≡ c → is_ascii p ≡ false
    low p e = ap is_ascii e ∙ high

    named : (p : ℕ) → p ≡ c → is_identifier_name (chars (p ∷ cs)) ≡ true
    named p e = subst (λ z. is_identifier_name (chars (z ∷ cs)) ≡ true) (sym e) n

    ascii_not : (p : ℕ) → p ≡ c → is_ascii p ≡ true → ⊥
    ascii_not p e h = true≢false (sym h ∙ low p e)

    none : (w : Text) → is_other w ≡ true → begins w (c ∷ (cs ++ rest)) ≡ true → ⊥
    none [] o e = false≢true o
    none (p ∷ []) o e = ascii_not p (from p true e) o
    none (p ∷ q ∷ []) o e =
        let same = from p _ e in
        two_not p q cs rest (either_not p _ (low p same) o) (named p same) (and_parts (nat_eq p c) _ e).1
    none (p ∷ q ∷ r ∷ []) o e =
        let same = from p _ e in
        three_not p q r cs rest (either_not p _ (low p same) o) (named p same) (and_parts (nat_eq p c) _ e).1
    none (p ∷ q ∷ r ∷ s ∷ t) o e = ascii_not p (from p _ e) o

    by : (w : Text) → is_other w ≡ true → (b : Bool) → begins w (c ∷ (cs ++ rest)) ≡ b → b ≡ false
    by w o true e = absurd (none w o e)
    by w o false e = refl

others_not : (ws : List Text) (c : ℕ) (cs rest : Text) → list_all is_other ws ≡ true → is_ascii c ≡ false → is_identifier_name (chars (c ∷ cs)) ≡ true → begins_any ws (c ∷ (cs ++ rest)) ≡ false
others_not [] c cs rest o high n = refl
others_not (w ∷ ws) c cs rest o high n =
    let both = and_parts (is_other w) (list_all is_other ws) o in
    rw (other_not w c cs rest both.0 high n) (others_not ws c cs rest both.1 high n)

white_others : list_all is_other white_space ≡ true
unfolding unicode_ident
white_others = refl

line_others : list_all is_other line_ends ≡ true
unfolding unicode_ident
line_others = refl

other_opening : (c : ℕ) (cs rest : Text) → is_ascii c ≡ false → is_identifier_name (chars (c ∷ cs)) ≡ true → is_opening (c ∷ (cs ++ rest)) ≡ true
other_opening c cs rest high n =
    rw (others_not white_space c cs rest white_others high n, others_not line_ends c cs rest line_others high n, others_not (codes "//" ∷ codes "/*" ∷ []) c cs rest refl high n, others_not sum_signs c cs rest refl high n, other_not (codes "=") c cs rest refl high n) refl

high_point : (c : ℕ) (rest : Text) → 128 ≤ c → is_point_sign (c ∷ rest) ≡ true
high_point c rest h =
    let digit : is_digit c ≡ false = grind (arith, nat_tests) in
    let point : nat_eq 46 c ≡ false = grind (arith, nat_tests) in
    rw (digit, point) refl

-- a name's first byte begins a word, or its characters are a name
high_name : (c : ℕ) (cs : Text) → is_ascii c ≡ false → is_name (c ∷ cs) ≡ true → is_identifier_name (chars (c ∷ cs)) ≡ true
high_name c cs high e = (and_parts (is_utf8 (c ∷ cs)) _ (sym (ap (λ b. cond (b && list_all is_ascii cs) (is_word (c ∷ cs)) (is_utf8 (c ∷ cs) && is_identifier_name (chars (c ∷ cs)))) high) ∙ e)).1

-- a name begins its token, whatever stands behind it
pub name_opening : (x rest : Text) → is_name x ≡ true → is_opening (x ++ rest) ≡ true
name_opening [] rest e = absurd (false≢true e)
name_opening (c ∷ cs) rest e =
    elim (cases_lt c 128) as (λ z. is_opening (c ∷ (cs ++ rest)) ≡ true) [
      | inl below ↦ start_opening c (cs ++ rest) below (name_start c cs (list_all is_ascii (c ∷ cs)) below e)
      | inr above ↦ let high : is_ascii c ≡ false = grind (arith, nat_tests) in other_opening c cs rest high (high_name c cs high e)
    ]

-- a point before a name is a sign
pub name_after_point : (x rest : Text) → is_name x ≡ true → is_point_sign (x ++ rest) ≡ true
name_after_point [] rest e = absurd (false≢true e)
name_after_point (c ∷ cs) rest e =
    elim (cases_lt c 128) as (λ z. is_point_sign (c ∷ (cs ++ rest)) ≡ true) [
      | inl below ↦ start_point c (cs ++ rest) below (name_start c cs (list_all is_ascii (c ∷ cs)) below e)
      | inr above ↦ high_point c (cs ++ rest) above
    ]

-- ---- numbers: a digit or a point

abbrev pub begins_number : ℕ → Bool
begins_number c = is_digit c || is_point c

digit_begins : (c : ℕ) → is_digit c ≡ true → begins_number c ≡ true
digit_begins c e = rw e refl

is_begins : (c d : ℕ) → nat_eq c d ≡ true → begins_number d ≡ true → begins_number c ≡ true
is_begins c d e h = subst (λ x. begins_number x ≡ true) (sym (eqb-true c d e)) h

integer_begins : (c : ℕ) (cs : Text) → is_integer (c ∷ cs) ≡ true → begins_number c ≡ true
integer_begins c [] e = digit_begins c e
integer_begins c (d ∷ ds) e = let first = (and_parts (between 49 57 c) (are_digits is_digit (c ∷ d ∷ ds)) e).0 in digit_begins c (grind (arith, nat_tests))

radix_begins : (c : ℕ) (cs : Text) → is_radix_integer (c ∷ cs) ≡ true → begins_number c ≡ true
radix_begins c [] e = absurd (false≢true e)
radix_begins c (k ∷ ds) e = is_begins c 48 (and_parts _ _ e).0 refl

whole_begins : (c : ℕ) (cs ds : Text) → is_mantissa (c ∷ cs) ds ≡ true → begins_number c ≡ true
whole_begins c cs [] e = integer_begins c cs e
whole_begins c cs (p ∷ []) e = integer_begins c cs e
whole_begins c cs (p ∷ d ∷ ds) e = integer_begins c cs (and_parts _ _ e).0

point_begins : (c : ℕ) (cs : Text) (point : Bool) → is_point c ≡ point → is_mantissa (cond point [] (c ∷ up_to is_point cs)) (cond point (c ∷ cs) (onward is_point cs)) ≡ true → begins_number c ≡ true
point_begins c cs true is e = is_begins c 46 is refl
point_begins c cs false is e = whole_begins c (up_to is_point cs) (onward is_point cs) e

mantissa_begins : (c : ℕ) (cs : Text) (exponent : Bool) → is_mantissa (up_to is_point (cond exponent [] (c ∷ cs))) (onward is_point (cond exponent [] (c ∷ cs))) ≡ true → begins_number c ≡ true
mantissa_begins c cs true e = absurd (false≢true e)
mantissa_begins c cs false e = point_begins c cs (is_point c) refl e

numeral_begins : (c : ℕ) (cs : Text) → is_numeral (c ∷ cs) ≡ true → begins_number c ≡ true
numeral_begins c cs e =
    elim (or_cases (is_radix_integer (c ∷ cs)) (is_decimal_literal (c ∷ cs)) e) as (λ x. begins_number c ≡ true) [
      | inl radix ↦ radix_begins c cs radix
      | inr decimal ↦ mantissa_begins c (up_to is_e cs) (is_e c) (and_parts _ _ decimal).0
    ]

whole_number_begins : (c : ℕ) (y : Option Text) → passes (λ x. is_integer x || is_radix_integer x) (option_map (λ x. c ∷ x) y) ≡ true → begins_number c ≡ true
whole_number_begins c None e = absurd (false≢true e)
whole_number_begins c (Some y) e =
    elim (or_cases (is_integer (c ∷ y)) (is_radix_integer (c ∷ y)) e) as (λ x. begins_number c ≡ true) [
      | inl integer ↦ integer_begins c y integer
      | inr radix ↦ radix_begins c y radix
    ]

lone_n : (b : Bool) → passes (λ x. is_integer x || is_radix_integer x) (cond b (Some []) None) ≡ true → ⊥
lone_n true e = false≢true e
lone_n false e = false≢true e

bigint_begins : (c : ℕ) (cs : Text) → is_big_integer (c ∷ cs) ≡ true → begins_number c ≡ true
bigint_begins c [] e = absurd (lone_n (nat_eq c 110) e)
bigint_begins c (d ∷ ds) e = whole_number_begins c (without_last 110 (d ∷ ds)) e

begins_below : (c : ℕ) → begins_number c ≡ true → c < 128
begins_below c e = grind (arith, nat_tests)

front_opening : (c : ℕ) (rest : Text) → begins_number c ≡ true → is_opening (c ∷ rest) ≡ true
front_opening c rest e = from_table begins_number (λ d. is_opening (d ∷ rest)) c refl (begins_below c e) e

pub number_opening : (x rest : Text) → is_numeral x ≡ true → is_opening (x ++ rest) ≡ true
number_opening [] rest e = absurd (false≢true e)
number_opening (c ∷ cs) rest e = front_opening c (cs ++ rest) (numeral_begins c cs e)

pub bigint_opening : (x rest : Text) → is_big_integer x ≡ true → is_opening (x ++ rest) ≡ true
bigint_opening [] rest e = absurd (false≢true e)
bigint_opening (c ∷ cs) rest e = front_opening c (cs ++ rest) (bigint_begins c cs e)

-- ---- a `*` before a key

-- no gap, and a `*` before it is a sign
abbrev pub is_starred : Text → Bool
is_starred a = not (begins_gap a) && (is_one_of (codes "*") signs && (opens_with (codes "*") (42 ∷ a) && is_longest (codes "*") (42 ∷ a)))

high_starred : (c : ℕ) (cs rest : Text) → is_ascii c ≡ false → is_identifier_name (chars (c ∷ cs)) ≡ true → is_starred (c ∷ (cs ++ rest)) ≡ true
high_starred c cs rest high n =
    rw (others_not white_space c cs rest white_others high n, others_not line_ends c cs rest line_others high n, others_not (codes "//" ∷ codes "/*" ∷ []) c cs rest refl high n, other_not (codes "*") c cs rest refl high n, other_not (codes "=") c cs rest refl high n, other_not (codes "*=") c cs rest refl high n) refl

pub name_starred : (x rest : Text) → is_name x ≡ true → is_starred (x ++ rest) ≡ true
name_starred [] rest e = absurd (false≢true e)
name_starred (c ∷ cs) rest e =
    elim (cases_lt c 128) as (λ z. is_starred (c ∷ (cs ++ rest)) ≡ true) [
      | inl below ↦ from_table is_start (λ d. is_starred (d ∷ (cs ++ rest))) c refl below (name_start c cs (list_all is_ascii (c ∷ cs)) below e)
      | inr above ↦ let high : is_ascii c ≡ false = grind (arith, nat_tests) in high_starred c cs rest high (high_name c cs high e)
    ]

front_starred : (c : ℕ) (rest : Text) → begins_number c ≡ true → is_starred (c ∷ rest) ≡ true
front_starred c rest e = from_table begins_number (λ d. is_starred (d ∷ rest)) c refl (begins_below c e) e

pub number_starred : (x rest : Text) → is_numeral x ≡ true → is_starred (x ++ rest) ≡ true
number_starred [] rest e = absurd (false≢true e)
number_starred (c ∷ cs) rest e = front_starred c (cs ++ rest) (numeral_begins c cs e)

pub bigint_starred : (x rest : Text) → is_big_integer x ≡ true → is_starred (x ++ rest) ≡ true
bigint_starred [] rest e = absurd (false≢true e)
bigint_starred (c ∷ cs) rest e = front_starred c (cs ++ rest) (bigint_begins c cs e)
