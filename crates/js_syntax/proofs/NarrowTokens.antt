-- Each token of a small module is one of the whole language.
use Rattle.std.proofs.Common.{◌≡◌, refl, sym, ap, ◌∙◌, subst, ℕ, [], ◌∷◌, ◌++◌, append_assoc, append-nil, codes, Bool, true, false, not, ◌||◌, if◌then◌else◌, nat_eq, arith}
use Rattle.std.proofs.lemmas.Bool.{and_parts, and_from, and_right, or_right, or_parts, or_from, not-true, not_from_false}
use Rattle.std.proofs.lemmas.Bool.Decides.{nat_tests}
use Rattle.std.specs.List.{list_all, list_any}
use Rattle.js_term.specs.Term.{Text}
use Rattle.js_term.specs.Lexeme.{Manner, between, is_line_end, is_blank, is_digit, is_start, is_part, goes_on, is_word, is_decimal, not_next, goes_on_number, is_quote, is_one_of, left_brace, right_brace, left_paren, right_paren, left_bracket, right_bracket, comma, semicolon, dot, colon, equals, same_line}
use Rattle.js_term.specs.Lexeme as small
use Rattle.js_syntax.specs.Lexical.{first_passes, are_digits, is_integer, up_to, onward, is_e, is_point, is_mantissa, is_exponent, is_radix_integer, is_decimal_literal, is_numeral}
use Rattle.js_syntax.specs.Tokens.{Gap, no_gap, Front, SameLine, AtEnd, Lexeme, signs, opens_with, is_longest, Lexed, Token, Word, Sign}
use Rattle.js_syntax.specs.Tokens as whole
use Rattle.js_syntax.proofs.Ascii.{ascii_name, ascii_end, ascii_end_of_number, front_of, token_of}
use Rattle.js_syntax.proofs.NarrowStrings.{characters_decoded}
use Rattle.js_syntax.proofs.NarrowBytes.{apart, is_front, is_opening, weaker, opening_front, spelled_first, no_gap_before, Opened, next_byte, word_opens}

-- ---- gaps

pub at_end_is : (a : Text) → small.AtEnd a → AtEnd a
at_end_is a h = record { line = list_any is_line_end a; front = subst (λ (z : Text). Front (list_any is_line_end a) z []) (append-nil a) (front_of a [] h refl) }

no_line : (gap z : Text) → list_all is_blank gap ≡ true → same_line (gap ++ z) ≡ true → list_any is_line_end gap ≡ false
no_line [] z h l = refl
no_line (c ∷ cs) z h l =
    let (one, more) = and_parts (is_blank c) (list_all is_blank cs) h in
    let (ends, rest) = and_parts (not (is_line_end c)) (not (is_blank c) || same_line (cs ++ z)) l in
    or_from (is_line_end c) _ (not-true (is_line_end c) ends) (no_line cs z more (behind (is_blank c) one rest))
  where
    behind : (b : Bool) → b ≡ true → (not b || same_line (cs ++ z)) ≡ true → same_line (cs ++ z) ≡ true
    behind true e r = r
    behind false e r = absurd (cc)

-- no line end stands before what begins an expression
pub same_line_is : (a : Text) → same_line a ≡ true → Opened is_opening a → SameLine a
same_line_is a h o =
    let none = no_line o.gap o.middle o.blank (ap same_line (sym o.whole_is) ∙ h) in
    let front = front_of o.gap o.middle o.blank (no_gap_before o.middle (weaker is_opening is_front o.middle opening_front o.begins)) in
    let here = subst (λ (z : Text). Front (list_any is_line_end o.gap) z o.middle) (sym o.whole_is) front in
    record { rest = o.middle; front = subst (λ (line : Bool). Front line a o.middle) none here }

-- ---- tokens

token_is : {m : Manner} {k : small.Lexeme} {l : Lexeme} {a b : Text} (t : small.Token m a k b) → Lexed l (t.spelled ++ b) b → Token a l b
token_is {l = l} {b = b} t x =
    let middle = t.spelled ++ b in
    subst (λ (z : Text). Token z l b) (sym t.whole_is) (token_of t.gap middle l b t.blank (no_gap_before middle (spelled_first t.is_spelled)) x)

-- what does not go on with a number

no_more_word : (rest : Text) → not_next goes_on_number rest ≡ true → not_next goes_on rest ≡ true
no_more_word [] h = refl
no_more_word (c ∷ cs) h = not_from_false (goes_on c) (or_parts (goes_on c) (nat_eq c 46) (not-true (goes_on_number c) h)).0

no_point : (rest : Text) → not_next goes_on_number rest ≡ true → first_passes is_point rest ≡ false
no_point [] h = refl
no_point (c ∷ cs) h = (or_parts (goes_on c) (nat_eq c 46) (not-true (goes_on_number c) h)).1

-- digits alone

up_to_all : (stop : ℕ → Bool) (x : Text) → ((c : ℕ) → is_digit c ≡ true → stop c ≡ false) → list_all is_digit x ≡ true → up_to stop x ≡ x
up_to_all stop [] f h = refl
up_to_all stop (c ∷ cs) f h = let (one, more) = and_parts (is_digit c) (list_all is_digit cs) h in rw (f c one) (ap (λ (z : Text). c ∷ z) (up_to_all stop cs f more))

onward_none : (stop : ℕ → Bool) (x : Text) → ((c : ℕ) → is_digit c ≡ true → stop c ≡ false) → list_all is_digit x ≡ true → onward stop x ≡ []
onward_none stop [] f h = refl
onward_none stop (c ∷ cs) f h = let (one, more) = and_parts (is_digit c) (list_all is_digit cs) h in rw (f c one) (onward_none stop cs f more)

digit_no_e : (c : ℕ) → is_digit c ≡ true → is_e c ≡ false
digit_no_e c h = grind (arith, nat_tests)

digit_no_point : (c : ℕ) → is_digit c ≡ true → is_point c ≡ false
digit_no_point c h = grind (arith, nat_tests)

digit_no_separator : (c : ℕ) → is_digit c ≡ true → nat_eq c 95 ≡ false
digit_no_separator c h = grind (arith, nat_tests)

digits_are : (c : ℕ) (cs : Text) → list_all is_digit (c ∷ cs) ≡ true → are_digits is_digit (c ∷ cs) ≡ true
digits_are c [] h = (and_parts (is_digit c) true h).0
digits_are c (d ∷ ds) h =
    let (one, more) = and_parts (is_digit c) (list_all is_digit (d ∷ ds)) h in
    and_from (is_digit c) _ one (if_false (nat_eq d 95) _ _ (digit_no_separator d (and_parts (is_digit d) (list_all is_digit ds) more).0) ∙ digits_are d ds more)
  where
    if_false : (b x y : Bool) → b ≡ false → (if b then x else y) ≡ y
    if_false true x y e = absurd (cc)
    if_false false x y e = refl

record Decimal (x : Text) : Type 0 where
  digits : list_all is_digit x ≡ true
  whole_number : is_integer x ≡ true

decimal : (x : Text) → is_decimal x ≡ true → Decimal x
decimal [] h = absurd (cc)
decimal (c ∷ []) h = record { digits = and_from (is_digit c) true h refl; whole_number = h }
decimal (c ∷ d ∷ ds) h =
    let (one, more) = and_parts (between 49 57 c) (list_all is_digit (d ∷ ds)) h in
    let first : is_digit c ≡ true = grind (arith, nat_tests) in
    let all = and_from (is_digit c) _ first more in
    record { digits = all; whole_number = and_from (between 49 57 c) _ one (digits_are c (d ∷ ds) all) }

decimal_numeral : (x : Text) → is_decimal x ≡ true → is_numeral x ≡ true
decimal_numeral x h =
    let d = decimal x h in
    let up = up_to_all is_e x digit_no_e d.digits in
    let on = onward_none is_e x digit_no_e d.digits in
    let whole_part : up_to is_point (up_to is_e x) ≡ x = ap (up_to is_point) up ∙ up_to_all is_point x digit_no_point d.digits in
    let fraction : onward is_point (up_to is_e x) ≡ [] = ap (onward is_point) up ∙ onward_none is_point x digit_no_point d.digits in
    or_right (is_radix_integer x) (is_decimal_literal x)
    (and_from (is_mantissa (up_to is_point (up_to is_e x)) (onward is_point (up_to is_e x))) (is_exponent (onward is_e x))
    ((λ i. is_mantissa (whole_part i) (fraction i)) ∙ d.whole_number)
    (ap is_exponent on))

pub word_is : {m : Manner} {x a b : Text} → small.Token m a (small.word x) b → Word x a b
word_is {m} {x} {a} {b} t = token_is t (by t.is_spelled)
  where
    by : {s : Text} → small.IsSpelled m (small.word x) s b → Lexed (whole.word x) (s ++ b) b
    by (small.is_name w n) = whole.is_word (ascii_name x w) (ascii_end b n)

pub number_is : {m : Manner} {x a b : Text} → small.Token m a (small.number x) b → Token a (whole.number x) b
number_is {m} {x} {a} {b} t = token_is t (by t.is_spelled)
  where
    by : {s : Text} → small.IsSpelled m (small.number x) s b → Lexed (whole.number x) (s ++ b) b
    by (small.is_number w n) = whole.is_number (decimal_numeral x w) (ascii_end_of_number b (no_more_word b n)) (and_right (is_integer x) _ (no_point b n))

-- a string as it is written
pub record StringToken (a value b : Text) : Type 0 where
  pub raw : Text
  pub token : Token a (whole.string raw value) b

record StringLexed (value z b : Text) : Type 0 where
  raw : Text
  lexed : Lexed (whole.string raw value) z b

pub string_is : {m : Manner} {v a b : Text} → small.Token m a (small.string v) b → StringToken a v b
string_is {m} {v} {a} {b} t = let x = by t.is_spelled in record { raw = x.raw; token = token_is t x.lexed }
  where
    by : {s : Text} → small.IsSpelled m (small.string v) s b → StringLexed v (s ++ b) b
    by (small.is_string {quote} {value} {spelled} q cs) = record {
      raw = quote ∷ (spelled ++ quote ∷ []);
      lexed = subst (λ (z : Text). Lexed (whole.string (quote ∷ (spelled ++ quote ∷ [])) v) (quote ∷ z) b) (sym (append_assoc spelled (quote ∷ []) b)) (whole.is_string spelled q (characters_decoded cs));
    }

-- ---- signs

sign_is : {m : Manner} {c : ℕ} {a b : Text} → small.Token m a (small.sign c) b → is_one_of (c ∷ []) signs ≡ true → opens_with (c ∷ []) (c ∷ b) ≡ true → is_longest (c ∷ []) (c ∷ b) ≡ true → Sign (c ∷ []) a b
sign_is {m} {c} {a} {b} t known opened longest = token_is t (by t.is_spelled)
  where
    by : {s : Text} → small.IsSpelled m (small.sign c) s b → Lexed (whole.sign (c ∷ [])) (s ++ b) b
    by (small.is_mark h) = whole.is_punctuator {s = c ∷ []} known opened longest

pub left_brace_is : {m : Manner} {a b : Text} → small.Token m a left_brace b → Sign (codes "{") a b
left_brace_is t = sign_is t refl refl refl

pub right_brace_is : {m : Manner} {a b : Text} → small.Token m a right_brace b → Sign (codes "}") a b
right_brace_is t = sign_is t refl refl refl

pub left_paren_is : {m : Manner} {a b : Text} → small.Token m a left_paren b → Sign (codes "(") a b
left_paren_is t = sign_is t refl refl refl

pub right_paren_is : {m : Manner} {a b : Text} → small.Token m a right_paren b → Sign (codes ")") a b
right_paren_is t = sign_is t refl refl refl

pub left_bracket_is : {m : Manner} {a b : Text} → small.Token m a left_bracket b → Sign (codes "[") a b
left_bracket_is t = sign_is t refl refl refl

pub right_bracket_is : {m : Manner} {a b : Text} → small.Token m a right_bracket b → Sign (codes "]") a b
right_bracket_is t = sign_is t refl refl refl

pub comma_is : {m : Manner} {a b : Text} → small.Token m a comma b → Sign (codes ",") a b
comma_is t = sign_is t refl refl refl

pub semicolon_is : {m : Manner} {a b : Text} → small.Token m a semicolon b → Sign (codes ";") a b
semicolon_is t = sign_is t refl refl refl

pub colon_is : {m : Manner} {a b : Text} → small.Token m a colon b → Sign (codes ":") a b
colon_is t = sign_is t refl refl refl

-- `=` before an expression is no `==` and no `=>`
equals_longest : (d : ℕ) (cs : Text) → (is_blank d || is_opening d) ≡ true → is_longest (codes "=") (61 ∷ d ∷ cs) ≡ true
equals_longest d cs h =
    let at = λ (k : ℕ) (f : (is_blank k || is_opening k) ≡ false). apart (λ (c : ℕ). is_blank c || is_opening c) k d f h in
    rw (at 61 refl, at 62 refl) refl

pub equals_is : {m : Manner} {a b : Text} → small.Token m a equals b → Opened is_opening b → Sign (codes "=") a b
equals_is {b = b} t o =
    let x = next_byte is_opening b o in
    sign_is t refl refl (ap (λ (z : Text). is_longest (codes "=") (61 ∷ z)) x.is ∙ equals_longest x.first x.behind x.passes)

-- `.` before a name begins no number, and is no `...`
dot_opens : (d : ℕ) (cs : Text) → (is_blank d || is_start d) ≡ true → opens_with (codes ".") (46 ∷ d ∷ cs) ≡ true
dot_opens d cs h = let none : is_digit d ≡ false = grind (arith, nat_tests) in ap not none

dot_longest : (d : ℕ) (cs : Text) → (is_blank d || is_start d) ≡ true → is_longest (codes ".") (46 ∷ d ∷ cs) ≡ true
dot_longest d cs h = rw (apart (λ (c : ℕ). is_blank c || is_start c) 46 d refl h) refl

pub dot_is : {m : Manner} {x a b c : Text} → small.Token m a dot b → small.Token m b (small.word x) c → Sign (codes ".") a b
dot_is {b = b} t w =
    let x = next_byte is_start b (word_opens w) in
    sign_is t refl (ap (λ (z : Text). opens_with (codes ".") (46 ∷ z)) x.is ∙ dot_opens x.first x.behind x.passes)
    (ap (λ (z : Text). is_longest (codes ".") (46 ∷ z)) x.is ∙ dot_longest x.first x.behind x.passes)
