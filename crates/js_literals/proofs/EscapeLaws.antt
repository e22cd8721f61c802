-- The function of escapes is the definition's.
use Rattle.std.proofs.Common.{◌≡◌, refl, ℕ, ◌+◌, ◌*◌, ◌≤◌, ◌<◌, Bool, true, false, not, ◌&&◌, ◌||◌, if◌then◌else◌, [], ◌∷◌, ◌++◌, Option, Some, None, ap, sym, ◌∙◌, arith}
use Rattle.std.specs.Prelude.{nat_eq, nat_lt, option_map, is_some}
use Rattle.std.specs.Char.{encode_utf8}
use Rattle.std.proofs.lemmas.List.{append-nil}
use Rattle.std.proofs.lemmas.Str.{encode_ascii}
use Rattle.std.proofs.lemmas.Bool.{ltb-true, ltb-false, true≢false}
use Rattle.std.proofs.lemmas.Bool.Decides.{nat_tests}
use Rattle.js_term.specs.Term.{Text}
use Rattle.js_term.specs.Lexeme.{is_digit, is_plain}
use Rattle.js_syntax.specs.Lexical.{is_ascii, is_hex, hex_value, hex_two, hex_four, is_lead_surrogate, is_trail_surrogate, is_lead, joined_pair, pair_value, encoded, with_character, with_value, with_byte, single_escape, escape_value, no_digit, begins_any, line_ends, decoded, escaped, hexed, unicode, four, paired, braced, behind_return, behind_separator}
use Rattle.js_lexical.specs.Cursors.{with_rest, two_digits, four_digits, braced_digits}
use Rattle.js_lexical.proofs.Decoded.{too_large}
use Rattle.js_literals.specs.Escapes.{Reading, Unescaped, character, joined, surrogate_pair, line_feed, separator, unescaped}
use Rattle.js_literals.specs.Escapes as spec
use Rattle.js_literals.specs.Values.{value_from}

-- ---- characters

pub encoded_is : (c : ℕ) → encoded c ≡ encode_utf8 c
encoded_is c = go (is_ascii c) refl
  where
    go : (b : Bool) → nat_lt c 128 ≡ b → (if b then c ∷ [] else encode_utf8 c ++ []) ≡ encode_utf8 c
    go true e = sym (encode_ascii c (ltb-true c 128 e))
    go false e = append-nil (encode_utf8 c)

pub same : (r : Option Text) → option_map (λ x. [] ++ x) r ≡ r
same None = refl
same (Some x) = refl

with_is : (quote n : ℕ) (s : Text) → with_character n (decoded quote s) ≡ value_from quote (character (Some (n, s)))
with_is quote n s = go (is_lead_surrogate n || (is_trail_surrogate n || nat_lt 0x10FFFF n))
  where
    go : (b : Bool) → (if b then None else option_map (λ x. encoded n ++ x) (decoded quote s)) ≡ value_from quote (if b then None else Some (Some n, s))
    go true = refl
    go false = ap (λ t. option_map (λ x. t ++ x) (decoded quote s)) (encoded_is n)

value_is : (quote : ℕ) (n : Option ℕ) (s : Text) → with_value n (decoded quote s) ≡ value_from quote (character (with_rest n s))
value_is quote None s = refl
value_is quote (Some n) s = with_is quote n s

-- ---- the escapes

hex_is : (quote : ℕ) (s : Text) → hexed quote s ≡ value_from quote (character (two_digits s))
hex_is quote [] = refl
hex_is quote (a ∷ []) = refl
hex_is quote (a ∷ b ∷ s) = value_is quote (hex_two a b) s

short : (quote : ℕ) (b : Bool) → None ≡ value_from quote (character (if b then None else None))
short quote true = refl
short quote false = refl

pair_is : (quote n : ℕ) (s : Text) → paired quote (Some n) s ≡ value_from quote (character (surrogate_pair n s))
pair_is quote n [] = refl
pair_is quote n (k ∷ []) = refl
pair_is quote n (k ∷ u ∷ []) = short quote (nat_eq k 92 && nat_eq u 117)
pair_is quote n (k ∷ u ∷ a ∷ []) = short quote (nat_eq k 92 && nat_eq u 117)
pair_is quote n (k ∷ u ∷ a ∷ b ∷ []) = short quote (nat_eq k 92 && nat_eq u 117)
pair_is quote n (k ∷ u ∷ a ∷ b ∷ c ∷ []) = short quote (nat_eq k 92 && nat_eq u 117)
pair_is quote n (k ∷ u ∷ a ∷ b ∷ c ∷ d ∷ s) = go (nat_eq k 92 && nat_eq u 117) (hex_four a b c d)
  where
    trail : (m : ℕ) (t : Bool) → with_value (if t then Some (joined_pair n m) else None) (decoded quote s) ≡ value_from quote (character (if t then Some (joined_pair n m, s) else None))
    trail m true = with_is quote (joined_pair n m) s
    trail m false = refl

    go : (b : Bool) (h : Option ℕ) → (if b then with_value (pair_value (Some n) h) (decoded quote s) else None) ≡ value_from quote (character (if b then joined n (with_rest h s) else None))
    go true None = refl
    go true (Some m) = trail m (is_trail_surrogate m)
    go false h = refl

four_is : (quote a : ℕ) (s : Text) → four quote a s ≡ value_from quote (character (spec.paired (four_digits (a ∷ s))))
four_is quote a [] = refl
four_is quote a (b ∷ []) = refl
four_is quote a (b ∷ c ∷ []) = refl
four_is quote a (b ∷ c ∷ d ∷ s) = go (hex_four a b c d)
  where
    lead : (n : ℕ) (b : Bool) → (if b then paired quote (Some n) s else with_character n (decoded quote s)) ≡ value_from quote (character (if b then surrogate_pair n s else Some (n, s)))
    lead n true = pair_is quote n s
    lead n false = with_is quote n s

    go : (h : Option ℕ) → (if is_lead h then paired quote h s else with_value h (decoded quote s)) ≡ value_from quote (character (spec.paired (with_rest h s)))
    go None = refl
    go (Some n) = lead n (is_lead_surrogate n)

-- no digits behind a number mend it that is past the last character
none_large : (quote n : ℕ) (s : Text) → 0x10FFFF < n → braced quote true n s ≡ None
none_large quote n s h = none_of (braced quote true n s) (too_large quote n s h)
  where
    none_of : (r : Option Text) → is_some r ≡ false → r ≡ None
    none_of None e = refl
    none_of (Some x) e = absurd (true≢false e)

brace_is : (quote : ℕ) (some : Bool) (n : ℕ) (s : Text) → n ≤ 0x10FFFF → braced quote some n s ≡ value_from quote (character (braced_digits some n s))
brace_is quote some n [] h = refl
brace_is quote some n (c ∷ s) h = go (nat_eq c 125) some (is_hex c) (nat_lt 0x10FFFF (n * 16 + hex_value c)) refl (brace_is quote true (n * 16 + hex_value c) s)
  where
    go : (ends some digit past : Bool) → nat_lt 0x10FFFF (n * 16 + hex_value c) ≡ past → (n * 16 + hex_value c ≤ 0x10FFFF → braced quote true (n * 16 + hex_value c) s ≡ value_from quote (character (braced_digits true (n * 16 + hex_value c) s))) → (if ends then (if some then with_character n (decoded quote s) else None) else if digit then braced quote true (n * 16 + hex_value c) s else None) ≡ value_from quote (character (if ends then (if some then Some (n, s) else None) else if digit && not past then braced_digits true (n * 16 + hex_value c) s else None))
    go true true digit past e more = with_is quote n s
    go true false digit past e more = refl
    go false some true true e more = none_large quote _ s (ltb-true _ _ e)
    go false some true false e more = more (ltb-false _ _ e)
    go false some false past e more = refl

pick : (quote : ℕ) (b : Bool) (x y : Option Text) (p q : Unescaped) → x ≡ value_from quote p → y ≡ value_from quote q → (if b then x else y) ≡ value_from quote (if b then p else q)
pick quote true x y p q e f = e
pick quote false x y p q e f = f

pick_number : (quote : ℕ) (b : Bool) (x y : Option Text) (p q : Reading) → x ≡ value_from quote (character p) → y ≡ value_from quote (character q) → (if b then x else y) ≡ value_from quote (character (if b then p else q))
pick_number quote true x y p q e f = e
pick_number quote false x y p q e f = f

unicode_is : (quote : ℕ) (s : Text) → unicode quote s ≡ value_from quote (character (spec.unicode s))
unicode_is quote [] = refl
unicode_is quote (a ∷ s) = pick_number quote (nat_eq a 123) _ _ _ _ (brace_is quote false 0 s (omega arith)) (four_is quote a s)

zero_is : (quote : ℕ) (s : Text) → with_byte 0 (decoded quote s) ≡ value_from quote (Some (Some 0, s))
zero_is quote s = ap (λ t. option_map (λ x. t ++ x) (decoded quote s)) (sym (encode_ascii 0 (omega arith)))

return_is : (quote : ℕ) (s : Text) → behind_return quote s ≡ decoded quote (line_feed s)
return_is quote [] = refl
return_is quote (c ∷ s) = go (nat_eq c 10)
  where
    go : (b : Bool) → (if b then decoded quote s else decoded quote (c ∷ s)) ≡ decoded quote (if b then s else c ∷ s)
    go true = refl
    go false = refl

separator_is : (quote : ℕ) (s : Text) → behind_separator quote s ≡ value_from quote (separator s)
separator_is quote [] = refl
separator_is quote (a ∷ []) = refl
separator_is quote (a ∷ b ∷ s) = sym (same (decoded quote s))

ascii_escape : (c : ℕ) → c < 128 → escape_value (single_escape c) c < 128
ascii_escape c h = go (nat_eq c 98) (nat_eq c 116) (nat_eq c 110) (nat_eq c 118) (nat_eq c 102) (nat_eq c 114)
  where
    go : (a b d e f g : Bool) → escape_value (if a then Some 8 else if b then Some 9 else if d then Some 10 else if e then Some 11 else if f then Some 12 else if g then Some 13 else None) c < 128
    go true b d e f g = omega arith
    go false true d e f g = omega arith
    go false false true e f g = omega arith
    go false false false true f g = omega arith
    go false false false false true g = omega arith
    go false false false false false true = omega arith
    go false false false false false false = h

single_is : (quote c : ℕ) (s : Text) → c < 128 → with_byte (escape_value (single_escape c) c) (decoded quote s) ≡ value_from quote (Some (Some (escape_value (single_escape c) c), s))
single_is quote c s h = ap (λ t. option_map (λ x. t ++ x) (decoded quote s)) (sym (encode_ascii (escape_value (single_escape c) c) (ascii_escape c h)))

-- a byte that is not ASCII stands for itself
not_single : (c : ℕ) → 128 ≤ c → single_escape c ≡ None
not_single c h = grind (arith, nat_tests)

wide_plain : (quote c : ℕ) → quote < 128 → 128 ≤ c → (nat_eq c 92 ≡ false) × (is_plain quote c ≡ true)
wide_plain quote c q h = (grind (arith, nat_tests), grind (arith, nat_tests))

wide_is : (quote c : ℕ) (s : Text) → quote < 128 → 128 ≤ c → with_byte (escape_value (single_escape c) c) (decoded quote s) ≡ value_from quote (Some (None, c ∷ s))
wide_is quote c s q h =
    let plain = wide_plain quote c q h in
    ap (λ o. with_byte (escape_value o c) (decoded quote s)) (not_single c h)
    ∙ sym (same (decoded quote (c ∷ s)) ∙ ap (λ b. if b then escaped quote s else if is_plain quote c then with_byte c (decoded quote s) else None) plain.0 ∙ ap (λ b. if b then with_byte c (decoded quote s) else None) plain.1)

other_is : (quote c : ℕ) (s : Text) → quote < 128 → (b : Bool) → nat_lt c 128 ≡ b → with_byte (escape_value (single_escape c) c) (decoded quote s) ≡ value_from quote (if b then Some (Some (escape_value (single_escape c) c), s) else Some (None, c ∷ s))
other_is quote c s q true e = single_is quote c s (ltb-true _ _ e)
other_is quote c s q false e = wide_is quote c s q (ltb-false _ _ e)

digit_is : (quote : ℕ) (s : Text) (b : Bool) → (if b then with_byte 0 (decoded quote s) else None) ≡ value_from quote (if b then Some (Some 0, s) else None)
digit_is quote s true = zero_is quote s
digit_is quote s false = refl

pub escape_is : (quote : ℕ) (s : Text) → quote < 128 → escaped quote s ≡ value_from quote (unescaped s)
escape_is quote [] q = refl
escape_is quote (e ∷ s) q =
    pick quote (nat_eq e 117) _ _ _ _ (unicode_is quote s)
    (pick quote (nat_eq e 120) _ _ _ _ (hex_is quote s)
    (pick quote (is_digit e) _ _ _ _ (digit_is quote s (nat_eq e 48 && no_digit s))
    (pick quote (nat_eq e 10) _ _ _ _ (sym (same (decoded quote s)))
    (pick quote (nat_eq e 13) _ _ _ _ (return_is quote s ∙ sym (same (decoded quote (line_feed s))))
    (pick quote (begins_any line_ends (e ∷ s)) _ _ _ _ (separator_is quote s) (other_is quote e s q (is_ascii e) refl))))))
