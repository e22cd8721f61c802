-- Which bytes begin the first token of a module.
use Rattle.std.proofs.Common.{◌≡◌, refl, ℕ, ◌<◌, Bool, true, false, not, ◌&&◌, ◌||◌, cond, inl, inr, List, [], ◌∷◌, ◌++◌, Option, None, Some, arith, sym, ap, subst, ◌∙◌}
use Rattle.std.specs.Prelude.{codes, nat_eq, nat_lt, option_map}
use Rattle.std.specs.List.{list_all}
use Rattle.std.specs.Str.{is_utf8, chars}
use Rattle.std.proofs.lemmas.Bool.{and_parts, or_left, or_right, or_cases, lt-ltb, eqb-true, cases_lt, false≢true, true≢false}
use Rattle.std.proofs.lemmas.Bool.Decides.{nat_tests}
use Rattle.js_chars.specs.Names.{is_identifier_name}
use Rattle.js_term.specs.Term.{Text, is_text}
use Rattle.js_term.specs.Lexeme.{between, is_digit, is_start, is_part, goes_on, is_word, is_one_of}
use Rattle.js_syntax.specs.Lexical.{has_byte, are_digits, is_ascii, is_name, is_e, is_point, up_to, onward, is_numeral, is_decimal_literal, is_mantissa, is_integer, is_radix_integer, without_last, passes, is_big_integer}
use Rattle.js_syntax.specs.Tokens.{Lexeme, string, sign, signs, Lexed, is_private_name, is_number, is_bigint, is_string, is_regexp, is_no_substitution, is_head, is_middle, is_tail, is_punctuator}
use Rattle.js_syntax.specs.Tokens
use Rattle.js_syntax.proofs.Unicode.{start-ascii, chars_ascii}
use Rattle.js_syntax.proofs.First.{begins_item}

-- what begins an item, but for strings: bytes of names and numbers, and those of signs, templates and regular expressions
abbrev pub may_begin : ℕ → Bool
may_begin c = goes_on c || has_byte (codes ".`/#([{;+-~!") c

abbrev pub front_may : Text → Bool
front_may [] = false
front_may (c ∷ cs) = may_begin c

goes_may : (c : ℕ) → goes_on c ≡ true → may_begin c ≡ true
goes_may c e = or_left (goes_on c) _ e

-- ---- names

start_goes : (c : ℕ) → is_start c ≡ true → goes_on c ≡ true
start_goes c e = or_left (is_part c) _ (or_left (is_start c) _ e)

pub name_start : (c : ℕ) (cs : Text) (ascii : Bool) → c < 128 → cond ascii (is_word (c ∷ cs)) (is_utf8 (c ∷ cs) && is_identifier_name (chars (c ∷ cs))) ≡ true → is_start c ≡ true
name_start c cs true below e = (and_parts _ _ e).0
name_start c cs false below e =
    let name : is_identifier_name (c ∷ chars cs) ≡ true = ap is_identifier_name (sym (chars_ascii c cs (lt-ltb c 128 below))) ∙ (and_parts _ _ e).1 in
    sym (start-ascii c below) ∙ (and_parts _ _ name).0

name_goes : (c : ℕ) (cs : Text) → is_name (c ∷ cs) ≡ true → goes_on c ≡ true
name_goes c cs e =
    elim (cases_lt c 128) as (λ x. goes_on c ≡ true) [
      | inl below ↦ start_goes c (name_start c cs (list_all is_ascii (c ∷ cs)) below e)
      | inr above ↦ or_right (is_part c) (nat_lt 127 c) (lt-ltb 127 c (omega arith))
    ]

name_may : (x rest : Text) → is_name x ≡ true → front_may (x ++ rest) ≡ true
name_may [] rest e = absurd (false≢true e)
name_may (c ∷ cs) rest e = goes_may c (name_goes c cs e)

-- ---- numbers

is_may : (c d : ℕ) → nat_eq c d ≡ true → may_begin d ≡ true → may_begin c ≡ true
is_may c d e may = subst (λ x. may_begin x ≡ true) (sym (eqb-true c d e)) may

digit_may : (c : ℕ) → is_digit c ≡ true → may_begin c ≡ true
digit_may c e = goes_may c (or_left (is_part c) (nat_lt 127 c) (or_right (is_start c) (is_digit c) e))

integer_may : (c : ℕ) (cs : Text) → is_integer (c ∷ cs) ≡ true → may_begin c ≡ true
integer_may c [] e = digit_may c e
integer_may c (d ∷ ds) e = let first = (and_parts (between 49 57 c) (are_digits is_digit (c ∷ d ∷ ds)) e).0 in digit_may c (grind (arith, nat_tests))

radix_may : (c : ℕ) (cs : Text) → is_radix_integer (c ∷ cs) ≡ true → may_begin c ≡ true
radix_may c [] e = absurd (false≢true e)
radix_may c (k ∷ ds) e = is_may c 48 (and_parts _ _ e).0 refl

whole_may : (c : ℕ) (cs ds : Text) → is_mantissa (c ∷ cs) ds ≡ true → may_begin c ≡ true
whole_may c cs [] e = integer_may c cs e
whole_may c cs (p ∷ []) e = integer_may c cs e
whole_may c cs (p ∷ d ∷ ds) e = integer_may c cs (and_parts _ _ e).0

point_may : (c : ℕ) (cs : Text) (point : Bool) → is_point c ≡ point → is_mantissa (cond point [] (c ∷ up_to is_point cs)) (cond point (c ∷ cs) (onward is_point cs)) ≡ true → may_begin c ≡ true
point_may c cs true is e = is_may c 46 is refl
point_may c cs false is e = whole_may c (up_to is_point cs) (onward is_point cs) e

mantissa_may : (c : ℕ) (cs : Text) (exponent : Bool) → is_mantissa (up_to is_point (cond exponent [] (c ∷ cs))) (onward is_point (cond exponent [] (c ∷ cs))) ≡ true → may_begin c ≡ true
mantissa_may c cs true e = absurd (false≢true e)
mantissa_may c cs false e = point_may c cs (is_point c) refl e

whole_number_may : (c : ℕ) (y : Option Text) → passes (λ x. is_integer x || is_radix_integer x) (option_map (λ x. c ∷ x) y) ≡ true → may_begin c ≡ true
whole_number_may c None e = absurd (false≢true e)
whole_number_may c (Some y) e =
    elim (or_cases (is_integer (c ∷ y)) (is_radix_integer (c ∷ y)) e) as (λ x. may_begin c ≡ true) [
      | inl integer ↦ integer_may c y integer
      | inr radix ↦ radix_may c y radix
    ]

lone_n : (b : Bool) → passes (λ x. is_integer x || is_radix_integer x) (cond b (Some []) None) ≡ true → ⊥
lone_n true e = false≢true e
lone_n false e = false≢true e

numeral_may : (x rest : Text) → is_numeral x ≡ true → front_may (x ++ rest) ≡ true
numeral_may [] rest e = absurd (false≢true e)
numeral_may (c ∷ cs) rest e =
    elim (or_cases (is_radix_integer (c ∷ cs)) (is_decimal_literal (c ∷ cs)) e) as (λ x. may_begin c ≡ true) [
      | inl radix ↦ radix_may c cs radix
      | inr decimal ↦ mantissa_may c (up_to is_e cs) (is_e c) (and_parts _ _ decimal).0
    ]

bigint_may : (x rest : Text) → is_big_integer x ≡ true → front_may (x ++ rest) ≡ true
bigint_may [] rest e = absurd (false≢true e)
bigint_may (c ∷ []) rest e = absurd (lone_n (nat_eq c 110) e)
bigint_may (c ∷ d ∷ ds) rest e = whole_number_may c (without_last 110 (d ∷ ds)) e

-- ---- signs

pub same_text : (x y : Text) → is_text x y ≡ true → x ≡ y
same_text [] [] e = refl
same_text [] (d ∷ ds) e = absurd (false≢true e)
same_text (c ∷ cs) [] e = absurd (false≢true e)
same_text (c ∷ cs) (d ∷ ds) e =
    let both = and_parts (nat_eq c d) (is_text cs ds) e in
    let head = eqb-true c d both.0 in
    let tail = same_text cs ds both.1 in
    cc

-- what holds of each text of a list holds of one of them
pub among : (p : Text → Bool) (ys : List Text) (x : Text) → list_all p ys ≡ true → is_one_of x ys ≡ true → p x ≡ true
among p [] x all e = absurd (false≢true e)
among p (y ∷ ys) x all e =
    let both = and_parts (p y) (list_all p ys) all in
    elim (or_cases (is_text x y) (is_one_of x ys) e) as (λ c. p x ≡ true) [
      | inl same ↦ ap p (same_text x y same) ∙ both.0
      | inr other ↦ among p ys x both.1 other
    ]

pub implies : (a b : Bool) → not a || b ≡ true → a ≡ true → b ≡ true
implies true b e h = e
implies false b e h = absurd (false≢true h)

sign_may : (s rest : Text) → is_one_of s signs ≡ true → begins_item (sign s) ≡ true → front_may (s ++ rest) ≡ true
sign_may s rest e begins = implies _ _ (among (λ t. not (begins_item (sign t)) || front_may (t ++ rest)) signs s refl e) begins

abbrev pub is_string_token : Lexeme → Bool
is_string_token (string raw value) = true
is_string_token l = false

pub lexed_may : {l : Lexeme} {m rest : Text} → Lexed l m rest → begins_item l ≡ true → is_string_token l ≡ false → front_may m ≡ true
lexed_may (Tokens.is_word {x} {rest} e ends) b other = name_may x rest e
lexed_may (is_private_name e ends) b other = refl
lexed_may (is_number {x} {rest} e ends point) b other = numeral_may x rest e
lexed_may (is_bigint {x} {rest} e ends) b other = bigint_may x rest e
lexed_may (is_string {quote} s q d) b other = absurd (true≢false other)
lexed_may (is_regexp flags p f ends) b other = refl
lexed_may (is_no_substitution s e) b other = refl
lexed_may (is_head s e) b other = refl
lexed_may (is_middle s e) b other = absurd (false≢true b)
lexed_may (is_tail s e) b other = absurd (false≢true b)
lexed_may (is_punctuator {s} {rest} e opens longest) b other = sign_may s rest e b
