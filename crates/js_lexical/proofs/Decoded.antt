-- The characters of a string have a value where the tests of `Strings` say so.
use Rattle.std.proofs.Common.{◌≡◌, refl, ℕ, ◌+◌, ◌*◌, ◌-◌, ◌≤◌, ◌<◌, Bool, true, false, not, ◌&&◌, ◌||◌, if◌then◌else◌, [], ◌∷◌, ◌++◌, length, take, drop, get_or, Option, Some, None, ap, sym, ◌∙◌, arith}
use Rattle.std.specs.Prelude.{nat_eq, nat_lt, is_some, option_map}
use Rattle.std.proofs.lemmas.List.{take_all}
use Rattle.std.proofs.lemmas.Bool.{ltb-true, ltb-false}
use Rattle.std.proofs.lemmas.Bool.Decides.{nat_tests}
use Rattle.js_term.specs.Term.{Text}
use Rattle.js_term.specs.Lexeme.{is_digit, is_plain}
use Rattle.js_syntax.specs.Lexical.{is_hex, hex_value, hex_two, hex_four, hex_pair, is_lead_surrogate, is_trail_surrogate, is_lead, joined_pair, pair_value, encoded, with_character, with_value, with_byte, no_digit, begins_any, line_ends, decoded, escaped, hexed, unicode, four, paired, braced, behind_return, behind_separator}
use Rattle.js_lexical.specs.Cursors.{passes_both, with_rest, braced_digits}
use Rattle.js_lexical.specs.Strings.{has_value, behind_number, hex_has_value, behind_trail, trail_has_value, behind_unit, unit_has_value, behind_brace, unicode_has_value, return_has_value, separator_has_value, escape_has_value}

-- ---- one case at a time

pick : (x y : Option Text) (p q b : Bool) → is_some x ≡ p → is_some y ≡ q → is_some (if b then x else y) ≡ (if b then p else q)
pick x y p q true e f = e
pick x y p q false e f = f

kept : (f : Text → Text) (r : Option Text) → is_some (option_map f r) ≡ is_some r
kept f None = refl
kept f (Some x) = refl

-- ---- characters

-- a surrogate by itself has no value, nor has a number past the last character
character : (n : ℕ) (r : Option Text) → n ≤ 0x10FFFF → is_some (with_character n r) ≡ (not (is_lead_surrogate n || is_trail_surrogate n) && is_some r)
character n r h = go (is_lead_surrogate n) (is_trail_surrogate n) (nat_lt 0x10FFFF n) refl
  where
    go : (lead trail past : Bool) → nat_lt 0x10FFFF n ≡ past → is_some (if lead || (trail || past) then None else option_map (λ x. encoded n ++ x) r) ≡ (not (lead || trail) && is_some r)
    go true trail past e = refl
    go false true past e = refl
    go false false true e = let large = ltb-true _ _ e in absurd (omega arith)
    go false false false e = kept _ r

other : (n : ℕ) (r : Option Text) → (is_lead_surrogate n || is_trail_surrogate n) ≡ false → n ≤ 0x10FFFF → is_some (with_character n r) ≡ is_some r
other n r e h = character n r h ∙ ap (λ b. not b && is_some r) e

hex_few : (c : ℕ) → is_hex c ≡ true → hex_value c < 16
hex_few c h = grind (arith, nat_tests)

small_other : (n : ℕ) → n < 256 → (is_lead_surrogate n || is_trail_surrogate n) ≡ false
small_other n h = grind (arith, nat_tests)

joined_few : (lead trail : ℕ) → is_lead_surrogate lead ≡ true → is_trail_surrogate trail ≡ true → (0x10000 ≤ joined_pair lead trail) × (joined_pair lead trail ≤ 0x10FFFF)
joined_few lead trail h k =
    let low : (0xD800 ≤ lead) × (lead ≤ 0xDBFF) = (grind (arith, nat_tests), grind (arith, nat_tests)) in
    let high : (0xDC00 ≤ trail) × (trail ≤ 0xDFFF) = (grind (arith, nat_tests), grind (arith, nat_tests)) in
    (omega arith, omega arith)

large_other : (n : ℕ) → 0x10000 ≤ n → (is_lead_surrogate n || is_trail_surrogate n) ≡ false
large_other n h = grind (arith, nat_tests)

-- ---- numbers

hex_two_few : (a b n : ℕ) → hex_two a b ≡ Some n → n < 256
hex_two_few a b n = go (is_hex a) (is_hex b) refl refl
  where
    go : (p q : Bool) → is_hex a ≡ p → is_hex b ≡ q → (if p && q then Some (hex_value a * 16 + hex_value b) else None) ≡ Some n → n < 256
    go true true e f is =
        let value : hex_value a * 16 + hex_value b ≡ n = cc in
        let few : hex_value a < 16 = hex_few a e in
        let few_too : hex_value b < 16 = hex_few b f in
        omega arith
    go true false e f is = absurd (cc)
    go false q e f is = absurd (cc)

hex_four_few : (a b c d n : ℕ) → hex_four a b c d ≡ Some n → n < 65536
hex_four_few a b c d n = go (hex_two a b) (hex_two c d) refl refl
  where
    go : (p q : Option ℕ) → hex_two a b ≡ p → hex_two c d ≡ q → hex_pair p q ≡ Some n → n < 65536
    go (Some x) (Some y) e f is =
        let value : x * 256 + y ≡ n = cc in
        let few = hex_two_few a b x e in
        let few_too = hex_two_few c d y f in
        omega arith
    go (Some x) None e f is = absurd (cc)
    go None (Some y) e f is = absurd (cc)
    go None None e f is = absurd (cc)

-- ---- the escapes

hex : (quote : ℕ) (x : Text) → is_some (hexed quote x) ≡ hex_has_value quote x
hex quote [] = refl
hex quote (a ∷ []) = refl
hex quote (a ∷ b ∷ s) = go (hex_two a b) refl
  where
    go : (h : Option ℕ) → hex_two a b ≡ h → is_some (with_value h (decoded quote s)) ≡ passes_both (behind_number quote) (with_rest h s)
    go None e = refl
    go (Some n) e = let few = hex_two_few a b n e in other n _ (small_other n few) (omega arith)

short : (p q : Bool) → (p && (q && false)) ≡ false
short true true = refl
short true false = refl
short false q = refl

trail : (quote n : ℕ) (x : Text) → is_lead_surrogate n ≡ true → is_some (paired quote (Some n) x) ≡ trail_has_value quote x
trail quote n [] h = refl
trail quote n (k ∷ []) h = refl
trail quote n (k ∷ u ∷ []) h = sym (short (nat_eq k 92) (nat_eq u 117))
trail quote n (k ∷ u ∷ a ∷ []) h = sym (short (nat_eq k 92) (nat_eq u 117))
trail quote n (k ∷ u ∷ a ∷ b ∷ []) h = sym (short (nat_eq k 92) (nat_eq u 117))
trail quote n (k ∷ u ∷ a ∷ b ∷ c ∷ []) h = sym (short (nat_eq k 92) (nat_eq u 117))
trail quote n (k ∷ u ∷ a ∷ b ∷ c ∷ d ∷ s) h = go (nat_eq k 92) (nat_eq u 117) (hex_four a b c d)
  where
    value : (m : ℕ) (b : Bool) → is_trail_surrogate m ≡ b → is_some (with_value (if b then Some (joined_pair n m) else None) (decoded quote s)) ≡ (b && has_value quote s)
    value m true e = let few = joined_few n m h e in other (joined_pair n m) _ (large_other _ few.0) few.1
    value m false e = refl

    go : (p q : Bool) (h : Option ℕ) → is_some (if p && q then with_value (pair_value (Some n) h) (decoded quote s) else None) ≡ (p && (q && passes_both (behind_trail quote) (with_rest h s)))
    go true true None = refl
    go true true (Some m) = value m (is_trail_surrogate m) refl
    go true false h = refl
    go false q h = refl

unit : (quote a : ℕ) (x : Text) → is_some (four quote a x) ≡ unit_has_value quote (a ∷ x)
unit quote a [] = refl
unit quote a (b ∷ []) = refl
unit quote a (b ∷ c ∷ []) = refl
unit quote a (b ∷ c ∷ d ∷ s) = go (hex_four a b c d) refl
  where
    value : (n : ℕ) (b : Bool) → n ≤ 0x10FFFF → is_lead_surrogate n ≡ b → is_some (if b then paired quote (Some n) s else with_character n (decoded quote s)) ≡ (if b then trail_has_value quote s else not (is_trail_surrogate n) && has_value quote s)
    value n true few e = trail quote n s e
    value n false few e = character n _ few ∙ ap (λ b. not (b || is_trail_surrogate n) && has_value quote s) e

    go : (h : Option ℕ) → hex_four a b c d ≡ h → is_some (if is_lead h then paired quote h s else with_value h (decoded quote s)) ≡ passes_both (behind_unit quote) (with_rest h s)
    go None e = refl
    go (Some n) e = let few = hex_four_few a b c d n e in value n (is_lead_surrogate n) (omega arith) refl

pub too_large : (quote n : ℕ) (x : Text) → 0x10FFFF < n → is_some (braced quote true n x) ≡ false
too_large quote n [] h = refl
too_large quote n (c ∷ s) h = go (nat_eq c 125) (is_hex c) (is_lead_surrogate n) (is_trail_surrogate n) (nat_lt 0x10FFFF n) refl (too_large quote (n * 16 + hex_value c) s (omega arith))
  where
    go : (ends digit lead tail past : Bool) → nat_lt 0x10FFFF n ≡ past → is_some (braced quote true (n * 16 + hex_value c) s) ≡ false → is_some (if ends then (if true then (if lead || (tail || past) then None else option_map (λ x. encoded n ++ x) (decoded quote s)) else None) else if digit then braced quote true (n * 16 + hex_value c) s else None) ≡ false
    go true digit true tail past e more = refl
    go true digit false true past e more = refl
    go true digit false false true e more = refl
    go true digit false false false e more = let small = ltb-false _ _ e in absurd (omega arith)
    go false true lead tail past e more = more
    go false false lead tail past e more = refl

brace : (quote : ℕ) (some : Bool) (n : ℕ) (x : Text) → n ≤ 0x10FFFF → is_some (braced quote some n x) ≡ passes_both (behind_brace quote) (braced_digits some n x)
brace quote some n [] h = refl
brace quote some n (c ∷ s) h = go (nat_eq c 125) some (is_hex c) (nat_lt 0x10FFFF (n * 16 + hex_value c)) refl (brace quote true (n * 16 + hex_value c) s)
  where
    go : (ends some digit past : Bool) → nat_lt 0x10FFFF (n * 16 + hex_value c) ≡ past → (n * 16 + hex_value c ≤ 0x10FFFF → is_some (braced quote true (n * 16 + hex_value c) s) ≡ passes_both (behind_brace quote) (braced_digits true (n * 16 + hex_value c) s)) → is_some (if ends then (if some then with_character n (decoded quote s) else None) else if digit then braced quote true (n * 16 + hex_value c) s else None) ≡ passes_both (behind_brace quote) (if ends then (if some then Some (n, s) else None) else if digit && not past then braced_digits true (n * 16 + hex_value c) s else None)
    go true true digit past e more = character n _ h
    go true false digit past e more = refl
    go false some true true e more = too_large quote _ s (ltb-true _ _ e)
    go false some true false e more = more (ltb-false _ _ e)
    go false some false past e more = refl

unicode_is : (quote : ℕ) (x : Text) → is_some (unicode quote x) ≡ unicode_has_value quote x
unicode_is quote [] = refl
unicode_is quote (a ∷ s) = pick _ _ _ _ (nat_eq a 123) (brace quote false 0 s (omega arith)) (unit quote a s)

zero_is : (quote : ℕ) (s : Text) (p q : Bool) → is_some (if p && q then with_byte 0 (decoded quote s) else None) ≡ (p && (q && has_value quote s))
zero_is quote s true true = kept _ (decoded quote s)
zero_is quote s true false = refl
zero_is quote s false q = refl

return_is : (quote : ℕ) (x : Text) → is_some (behind_return quote x) ≡ return_has_value quote x
return_is quote [] = refl
return_is quote (c ∷ s) = pick _ _ _ _ (nat_eq c 10) refl refl

separator_is : (quote : ℕ) (x : Text) → is_some (behind_separator quote x) ≡ separator_has_value quote x
separator_is quote [] = refl
separator_is quote (a ∷ []) = refl
separator_is quote (a ∷ b ∷ s) = refl

escape : (quote : ℕ) (x : Text) → is_some (escaped quote x) ≡ escape_has_value quote x
escape quote [] = refl
escape quote (e ∷ s) =
    pick _ _ _ _ (nat_eq e 117) (unicode_is quote s)
    (pick _ _ _ _ (nat_eq e 120) (hex quote s)
    (pick _ _ _ _ (is_digit e) (zero_is quote s (nat_eq e 48) (no_digit s))
    (pick _ _ _ _ (nat_eq e 10) refl
    (pick _ _ _ _ (nat_eq e 13) (return_is quote s)
    (pick _ _ _ _ (begins_any line_ends (e ∷ s)) (separator_is quote s) (kept _ (decoded quote s)))))))

plain : (quote c : ℕ) (s : Text) (b : Bool) → is_some (if b then with_byte c (decoded quote s) else None) ≡ (b && has_value quote s)
plain quote c s true = kept _ (decoded quote s)
plain quote c s false = refl

-- one character, and the rest
step : (quote c : ℕ) (s : Text) → has_value quote (c ∷ s) ≡ (if nat_eq c 92 then escape_has_value quote s else is_plain quote c && has_value quote s)
step quote c s = pick _ _ _ _ (nat_eq c 92) (escape quote s) (plain quote c s (is_plain quote c))

-- a text by its first byte
front : (quote : ℕ) (x : Text) → 1 ≤ length x → has_value quote x ≡ (if nat_eq (get_or x 0 0) 92 then escape_has_value quote (take (length x - 1) (drop 1 x)) else is_plain quote (get_or x 0 0) && has_value quote (take (length x - 1) (drop 1 x)))
front quote [] h = absurd (omega arith)
front quote (c ∷ s) h = step quote c s ∙ ap (λ t. if nat_eq c 92 then escape_has_value quote t else is_plain quote c && has_value quote t) (sym (take_all (length (c ∷ s) - 1) s (omega arith)))

pub backslash : (quote : ℕ) (x : Text) → 1 ≤ length x → get_or x 0 0 ≡ 92 → has_value quote x ≡ escape_has_value quote (take (length x - 1) (drop 1 x))
backslash quote x h e = front quote x h ∙ ap (λ c. if nat_eq c 92 then escape_has_value quote (take (length x - 1) (drop 1 x)) else is_plain quote c && has_value quote (take (length x - 1) (drop 1 x))) e

pub as_it_is : (quote : ℕ) (x : Text) → 1 ≤ length x → is_plain quote (get_or x 0 0) ≡ true → has_value quote x ≡ has_value quote (take (length x - 1) (drop 1 x))
as_it_is quote x h e =
    front quote x h ∙ go (nat_eq (get_or x 0 0) 92) (is_plain quote (get_or x 0 0)) (grind (arith, nat_tests)) e
  where
    go : (b p : Bool) → b ≡ false → p ≡ true → (if b then escape_has_value quote (take (length x - 1) (drop 1 x)) else p && has_value quote (take (length x - 1) (drop 1 x))) ≡ has_value quote (take (length x - 1) (drop 1 x))
    go true p f g = absurd (cc)
    go false true f g = refl
    go false false f g = absurd (cc)
