-- Which tokens begin no statement but one of an expression.
use Rattle.std.proofs.Common.{◌≡◌, ℕ, Bool, true, false, ◌||◌, not, nat_eq, List, [], ◌∷◌, ◌++◌, map, refl, ap, ◌∙◌, codes, arith}
use Rattle.std.proofs.lemmas.Bool.{and_parts}
use Rattle.std.proofs.lemmas.Bool.Decides.{nat_tests}
use Rattle.std.specs.List.{list_all}
use Rattle.js_term.specs.Term.{Text, is_text}
use Rattle.js_term.specs.Lexeme.{narrow, Lexeme, word, number, string, Token, IsSpelled, is_start, is_part, is_digit, is_quote, is_word, is_decimal, goes_on, not_next, front, first_word, is_next, is_one_of, is_reserved, opens_otherwise}
use Rattle.js_term.specs.Lexeme as spec
use Rattle.js_lex.proofs.Laws.{token_front, text_is}

-- the words that begin another statement
abbrev others : List Text
others = map codes ("function" ∷ "class" ∷ [])

abbrev opens : Text → Bool
opens z = is_next 123 z || is_one_of (first_word z) others

word_front : (x rest : Text) → list_all is_part x ≡ true → not_next goes_on rest ≡ true → first_word (x ++ rest) ≡ x
word_front [] [] h stops = refl
word_front [] (c ∷ cs) h stops = go (goes_on c) refl stops
  where
    go : (b : Bool) → goes_on c ≡ b → not b ≡ true → first_word (c ∷ cs) ≡ []
    go true e h = absurd (cc)
    go false e h = rw e
word_front (c ∷ cs) rest h stops =
    let (one, more) = and_parts (is_part c) (list_all is_part cs) h in
    rw (one, word_front cs rest more stops)

start_part : (c : ℕ) (cs : Text) → is_start c ≡ true → list_all is_part cs ≡ true → list_all is_part (c ∷ cs) ≡ true
start_part c cs h all = rw h all

not_text : (x y : Text) → (x ≡ y → ⊥) → is_text x y ≡ false
not_text x y h = go (is_text x y) refl
  where
    go : (b : Bool) → is_text x y ≡ b → is_text x y ≡ false
    go true e = absurd (h (text_is x y e))
    go false e = e

unreserved_is : (x y : Text) → is_reserved x ≡ false → is_reserved y ≡ true → x ≡ y → ⊥
unreserved_is x y h h' e = let same = ap is_reserved e in cc

unreserved_other : (x : Text) → is_reserved x ≡ false → is_one_of x others ≡ false
unreserved_other x h =
    rw (
      not_text x (codes "function") (unreserved_is x (codes "function") h refl),
      not_text x (codes "class") (unreserved_is x (codes "class") h refl),
    )

word_opens : (x rest : Text) → is_word x ≡ true → not_next goes_on rest ≡ true → is_reserved x ≡ false → opens (x ++ rest) ≡ false
word_opens [] rest h stops free = absurd (cc)
word_opens (c ∷ cs) rest h stops free =
    let (begins, all) = and_parts (is_start c) (list_all is_part cs) h in
    let brace : nat_eq c 123 ≡ false = grind (arith, nat_tests) in
    let front = word_front (c ∷ cs) rest (start_part c cs begins all) stops in
    rw brace (ap (λ (w : Text). is_one_of w others) front ∙ unreserved_other (c ∷ cs) free)

digit_opens : (c : ℕ) (z : Text) → is_digit c ≡ true → opens (c ∷ z) ≡ false
digit_opens c z h =
    let brace : nat_eq c 123 ≡ false = grind (arith, nat_tests) in
    let f : nat_eq c 102 ≡ false = grind (arith, nat_tests) in
    let k : nat_eq c 99 ≡ false = grind (arith, nat_tests) in
    let part : goes_on c ≡ true = grind (arith, nat_tests) in
    rw (brace, part, f, k)

decimal_opens : (x rest : Text) → is_decimal x ≡ true → opens (x ++ rest) ≡ false
decimal_opens [] rest h = absurd (cc)
decimal_opens (c ∷ []) rest h = digit_opens c rest h
decimal_opens (c ∷ d ∷ ds) rest h =
    let (one, more) = and_parts _ (list_all is_digit (d ∷ ds)) h in
    digit_opens c ((d ∷ ds) ++ rest) (grind (arith, nat_tests))

quote_opens : (c : ℕ) (z : Text) → is_quote c ≡ true → opens (c ∷ z) ≡ false
quote_opens c z h =
    let brace : nat_eq c 123 ≡ false = grind (arith, nat_tests) in
    let part : goes_on c ≡ false = grind (arith, nat_tests) in
    rw (brace, part)

spelled_word : {x s b : Text} → IsSpelled narrow (word x) s b → is_reserved x ≡ false → opens (s ++ b) ≡ false
spelled_word (spec.is_name {x} {rest} h stops) free = word_opens x rest h stops free

spelled_number : {x s b : Text} → IsSpelled narrow (number x) s b → opens (s ++ b) ≡ false
spelled_number (spec.is_number {x} {rest} h stops) = decimal_opens x rest h

spelled_string : {x s b : Text} → IsSpelled narrow (string x) s b → opens (s ++ b) ≡ false
spelled_string (spec.is_string {quote} {value} {spelled} {rest} h cs) = quote_opens quote ((spelled ++ quote ∷ []) ++ rest) h

pub opens_word : {a b x : Text} → is_reserved x ≡ false → Token narrow a (word x) b → opens_otherwise a ≡ false
opens_word free t = ap opens (token_front t) ∙ spelled_word t.is_spelled free

pub opens_number : {a b x : Text} → Token narrow a (number x) b → opens_otherwise a ≡ false
opens_number t = ap opens (token_front t) ∙ spelled_number t.is_spelled

pub opens_string : {a b x : Text} → Token narrow a (string x) b → opens_otherwise a ≡ false
opens_string t = ap opens (token_front t) ∙ spelled_string t.is_spelled
