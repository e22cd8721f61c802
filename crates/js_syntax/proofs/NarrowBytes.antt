-- With which bytes the tokens and the expressions of small modules begin.
use Rattle.std.proofs.Common.{◌≡◌, refl, ap, ◌∙◌, ℕ, List, [], ◌∷◌, ◌++◌, Bool, true, false, ◌||◌, nat_eq, arith}
use Rattle.std.proofs.lemmas.Bool.{and_parts, eqb-true, or_left, or_right, false_from_ne_true}
use Rattle.std.proofs.lemmas.Bool.Decides.{nat_tests}
use Rattle.std.specs.List.{list_all}
use Rattle.js_term.specs.Term.{Text, Term}
use Rattle.js_term.specs.Lexeme.{Manner, Lexeme, word, number, string, sign, IsSpelled, is_name, is_number, is_string, is_mark, Token, between, is_blank, is_start, is_part, is_digit, is_quote, is_sign, is_word, is_decimal}
use Rattle.js_term.specs.Spells.{Stands, identifier, boolean, numeric, string_literal, parenthesized, call, member, await_expression, array, object, Listed, last, and}
use Rattle.js_syntax.specs.Lexical.{begins_gap}

-- a byte that passes the test is none that does not
pub apart : (test : ℕ → Bool) (d c : ℕ) → test d ≡ false → test c ≡ true → nat_eq d c ≡ false
apart test d c f h = false_from_ne_true (nat_eq d c) (λ e. let same = ap test (eqb-true d c e) in absurd (cc))

-- the text begins with such a byte
pub record First (test : ℕ → Bool) (z : Text) : Type 0 where
  pub first : ℕ
  pub behind : Text
  pub is : z ≡ first ∷ behind
  pub passes : test first ≡ true

pub weaker : (p q : ℕ → Bool) (z : Text) → ((c : ℕ) → p c ≡ true → q c ≡ true) → First p z → First q z
weaker p q z f x = record { first = x.first; behind = x.behind; is = x.is; passes = f x.first x.passes }

-- the first bytes of all tokens, and of those that begin an expression
abbrev pub is_front : ℕ → Bool
is_front c = is_part c || (is_quote c || is_sign c)

abbrev pub is_opening : ℕ → Bool
is_opening c = is_part c || (is_quote c || (nat_eq c 40 || (nat_eq c 91 || nat_eq c 123)))

opening_sign : (c : ℕ) → (nat_eq c 40 || (nat_eq c 91 || nat_eq c 123)) ≡ true → is_sign c ≡ true
opening_sign c h = grind (arith, nat_tests)

pub opening_front : (c : ℕ) → is_opening c ≡ true → is_front c ≡ true
opening_front c h = go (is_part c) (is_quote c) h
  where
    go : (p q : Bool) → (p || (q || (nat_eq c 40 || (nat_eq c 91 || nat_eq c 123)))) ≡ true → (p || (q || is_sign c)) ≡ true
    go true q e = refl
    go false true e = refl
    go false false e = opening_sign c e

abbrev pub opens : Lexeme → Bool
opens (word x) = true
opens (number x) = true
opens (string x) = true
opens (sign c) = nat_eq c 40 || (nat_eq c 91 || nat_eq c 123)

pub word_first : (x rest : Text) → is_word x ≡ true → First is_start (x ++ rest)
word_first [] rest h = absurd (cc)
word_first (c ∷ cs) rest h = record { first = c; behind = cs ++ rest; is = refl; passes = (and_parts _ _ h).0 }

number_first : (x rest : Text) → is_decimal x ≡ true → First is_digit (x ++ rest)
number_first [] rest h = absurd (cc)
number_first (c ∷ []) rest h = record { first = c; behind = rest; is = refl; passes = h }
number_first (c ∷ d ∷ ds) rest h =
    let first : between 49 57 c ≡ true = (and_parts (between 49 57 c) (list_all is_digit (d ∷ ds)) h).0 in
    record { first = c; behind = (d ∷ ds) ++ rest; is = refl; passes = grind (arith, nat_tests) }

start_part : (c : ℕ) → is_start c ≡ true → is_part c ≡ true
start_part c h = or_left (is_start c) (is_digit c) h

digit_part : (c : ℕ) → is_digit c ≡ true → is_part c ≡ true
digit_part c h = or_right (is_start c) (is_digit c) h

part_front : (c : ℕ) → is_part c ≡ true → is_front c ≡ true
part_front c h = or_left (is_part c) _ h

part_opening : (c : ℕ) → is_part c ≡ true → is_opening c ≡ true
part_opening c h = or_left (is_part c) _ h

quote_opening : (c : ℕ) → is_quote c ≡ true → is_opening c ≡ true
quote_opening c h = or_right (is_part c) _ (or_left (is_quote c) _ h)

sign_opening : (c : ℕ) → opens (sign c) ≡ true → is_opening c ≡ true
sign_opening c h = or_right (is_part c) _ (or_right (is_quote c) _ h)

pub spelled_first : {m : Manner} {l : Lexeme} {s b : Text} → IsSpelled m l s b → First is_front (s ++ b)
spelled_first (is_name {x} {rest} w n) = weaker is_start is_front (x ++ rest) (λ c h. part_front c (start_part c h)) (word_first x rest w)
spelled_first (is_number {x} {rest} w n) = weaker is_digit is_front (x ++ rest) (λ c h. part_front c (digit_part c h)) (number_first x rest w)
spelled_first (is_string {quote} {value} {spelled} {rest} q cs) = record { first = quote; behind = (spelled ++ quote ∷ []) ++ rest; is = refl; passes = or_right (is_part quote) _ (or_left (is_quote quote) _ q) }
spelled_first (is_mark {c} {rest} h) = record { first = c; behind = rest; is = refl; passes = or_right (is_part c) _ (or_right (is_quote c) _ h) }

spelled_opens : {m : Manner} {l : Lexeme} {s b : Text} → IsSpelled m l s b → opens l ≡ true → First is_opening (s ++ b)
spelled_opens (is_name {x} {rest} w n) o = weaker is_start is_opening (x ++ rest) (λ c h. part_opening c (start_part c h)) (word_first x rest w)
spelled_opens (is_number {x} {rest} w n) o = weaker is_digit is_opening (x ++ rest) (λ c h. part_opening c (digit_part c h)) (number_first x rest w)
spelled_opens (is_string {quote} {value} {spelled} {rest} q cs) o = record { first = quote; behind = (spelled ++ quote ∷ []) ++ rest; is = refl; passes = quote_opening quote q }
spelled_opens (is_mark {c} {rest} h) o = record { first = c; behind = rest; is = refl; passes = sign_opening c o }

-- such bytes begin no gap
pub no_gap_at : (c : ℕ) (cs : Text) → is_front c ≡ true → begins_gap (c ∷ cs) ≡ false
no_gap_at c cs h =
    let at = λ (d : ℕ) (f : is_front d ≡ false). apart is_front d c f h in
    rw (at 9 refl, at 11 refl, at 12 refl, at 32 refl, at 194 refl, at 225 refl, at 226 refl, at 227 refl, at 239 refl, at 10 refl, at 13 refl, at 47 refl) refl

pub no_gap_before : (z : Text) → First is_front z → begins_gap z ≡ false
no_gap_before z x = ap begins_gap x.is ∙ no_gap_at x.first x.behind x.passes

-- Behind a gap the text begins so.
pub record Opened (test : ℕ → Bool) (a : Text) : Type 0 where
  pub gap : Text
  pub middle : Text
  pub whole_is : a ≡ gap ++ middle
  pub blank : list_all is_blank gap ≡ true
  pub begins : First test middle

-- the next byte, be it one of the gap
pub next_byte : (test : ℕ → Bool) (a : Text) → Opened test a → First (λ c. is_blank c || test c) a
next_byte test a o = go o.gap o.blank o.whole_is
  where
    go : (gap : Text) → list_all is_blank gap ≡ true → a ≡ gap ++ o.middle → First (λ c. is_blank c || test c) a
    go [] blank e = let x = o.begins in record { first = x.first; behind = x.behind; is = e ∙ x.is; passes = or_right (is_blank x.first) (test x.first) x.passes }
    go (c ∷ cs) blank e = record { first = c; behind = cs ++ o.middle; is = e; passes = or_left (is_blank c) (test c) (and_parts (is_blank c) (list_all is_blank cs) blank).0 }

token_opens : {m : Manner} {l : Lexeme} {a b : Text} → Token m a l b → opens l ≡ true → Opened is_opening a
token_opens {b = b} t o = record { gap = t.gap; middle = t.spelled ++ b; whole_is = t.whole_is; blank = t.blank; begins = spelled_opens t.is_spelled o }

spelled_start : {m : Manner} {x s b : Text} → IsSpelled m (word x) s b → First is_start (s ++ b)
spelled_start (is_name {x} {rest} w n) = word_first x rest w

pub word_opens : {m : Manner} {x a b : Text} → Token m a (word x) b → Opened is_start a
word_opens {b = b} t = record { gap = t.gap; middle = t.spelled ++ b; whole_is = t.whole_is; blank = t.blank; begins = spelled_start t.is_spelled }

-- how an expression begins
pub stands_opens : {m : Manner} {e : Term} {a b : Text} → Stands m e a b → Opened is_opening a
stands_opens (identifier r t) = token_opens t refl
stands_opens (boolean v t) = token_opens t refl
stands_opens (numeric t) = token_opens t refl
stands_opens (string_literal t) = token_opens t refl
stands_opens (parenthesized t es u) = token_opens t refl
stands_opens (call l s t g u) = stands_opens s
stands_opens (member l s t u) = stands_opens s
stands_opens (await_expression l t s) = token_opens t refl
stands_opens (array t g u) = token_opens t refl
stands_opens (object t g u) = token_opens t refl

pub listed_opens : {m : Manner} {es : List Term} {a b : Text} → Listed m es a b → Opened is_opening a
listed_opens (last l s) = stands_opens s
listed_opens (and l s t es) = stands_opens s
