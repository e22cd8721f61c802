-- The escapes of templates, by the numbers in them.
use Rattle.std.proofs.Common.{◌≡◌, refl, ℕ, ◌+◌, ◌*◌, ◌≤◌, ◌<◌, Bool, true, false, not, ◌&&◌, if◌then◌else◌, [], ◌∷◌, Some, None, arith}
use Rattle.std.specs.Prelude.{nat_eq, nat_lt}
use Rattle.std.proofs.lemmas.Bool.{ltb-true, ltb-false}
use Rattle.js_term.specs.Term.{Text}
use Rattle.js_syntax.specs.Lexical.{is_hex, hex_value, hex_pair, has_sound_escapes, is_sound_hex, is_sound_unicode, is_sound_three, is_sound_braced}
use Rattle.js_lexical.specs.Cursors.{passes_both, with_rest, two_digits, four_digits, braced_digits, unicode_digits}

abbrev pub behind_is_sound : ℕ → Text → Bool
behind_is_sound n s = has_sound_escapes s

two : (p q : Bool) (v : ℕ) (s : Text) → (p && (q && has_sound_escapes s)) ≡ passes_both behind_is_sound (with_rest (if p && q then Some v else None) s)
two true true v s = refl
two true false v s = refl
two false q v s = refl

pub hex : (x : Text) → is_sound_hex x ≡ passes_both behind_is_sound (two_digits x)
hex [] = refl
hex (a ∷ []) = refl
hex (a ∷ b ∷ s) = two (is_hex a) (is_hex b) _ s

four : (p q r t : Bool) (v w : ℕ) (s : Text) → (p && (q && (r && (t && has_sound_escapes s)))) ≡ passes_both behind_is_sound (with_rest (hex_pair (if p && q then Some v else None) (if r && t then Some w else None)) s)
four true true true true v w s = refl
four true true true false v w s = refl
four true true false t v w s = refl
four true false true true v w s = refl
four true false true false v w s = refl
four true false false t v w s = refl
four false q true true v w s = refl
four false q true false v w s = refl
four false q false t v w s = refl

and_false : (b : Bool) → (b && false) ≡ false
and_false true = refl
and_false false = refl

unit : (a : ℕ) (s : Text) → (is_hex a && is_sound_three s) ≡ passes_both behind_is_sound (four_digits (a ∷ s))
unit a [] = and_false (is_hex a)
unit a (b ∷ []) = and_false (is_hex a)
unit a (b ∷ c ∷ []) = and_false (is_hex a)
unit a (b ∷ c ∷ d ∷ s) = four (is_hex a) (is_hex b) (is_hex c) (is_hex d) _ _ s

-- more digits behind one that is too large change nothing
too_large : (n : ℕ) (x : Text) → 0x10FFFF < n → is_sound_braced true n x ≡ false
too_large n [] h = refl
too_large n (c ∷ s) h = go (nat_eq c 125) (nat_lt 0x10FFFF n) (is_hex c) refl (too_large (n * 16 + hex_value c) s (omega arith))
  where
    go : (ends large digit : Bool) → nat_lt 0x10FFFF n ≡ large → is_sound_braced true (n * 16 + hex_value c) s ≡ false → (if ends then true && (not large && has_sound_escapes s) else digit && is_sound_braced true (n * 16 + hex_value c) s) ≡ false
    go true true digit e more = refl
    go true false digit e more = let small = ltb-false _ _ e in absurd (omega arith)
    go false large true e more = more
    go false large false e more = refl

braced : (some : Bool) (n : ℕ) (x : Text) → n ≤ 0x10FFFF → is_sound_braced some n x ≡ passes_both behind_is_sound (braced_digits some n x)
braced some n [] h = refl
braced some n (c ∷ s) h = go (nat_eq c 125) some (nat_lt 0x10FFFF n) (is_hex c) (nat_lt 0x10FFFF (n * 16 + hex_value c)) refl refl (braced true (n * 16 + hex_value c) s)
  where
    go : (ends some large digit past : Bool) → nat_lt 0x10FFFF n ≡ large → nat_lt 0x10FFFF (n * 16 + hex_value c) ≡ past → (n * 16 + hex_value c ≤ 0x10FFFF → is_sound_braced true (n * 16 + hex_value c) s ≡ passes_both behind_is_sound (braced_digits true (n * 16 + hex_value c) s)) → (if ends then some && (not large && has_sound_escapes s) else digit && is_sound_braced true (n * 16 + hex_value c) s) ≡ passes_both behind_is_sound (if ends then (if some then Some (n, s) else None) else if digit && not past then braced_digits true (n * 16 + hex_value c) s else None)
    go true true true digit past e f more = let large = ltb-true _ _ e in absurd (omega arith)
    go true true false digit past e f more = refl
    go true false large digit past e f more = refl
    go false some large true true e f more = too_large _ s (ltb-true _ _ f)
    go false some large true false e f more = more (ltb-false _ _ f)
    go false some large false past e f more = refl

unicode_more : (a : ℕ) (s : Text) (b : Bool) → (if b then is_sound_braced false 0 s else is_hex a && is_sound_three s) ≡ passes_both behind_is_sound (if b then braced_digits false 0 s else four_digits (a ∷ s))
unicode_more a s true = braced false 0 s (omega arith)
unicode_more a s false = unit a s

pub unicode : (x : Text) → is_sound_unicode x ≡ passes_both behind_is_sound (unicode_digits x)
unicode [] = refl
unicode (a ∷ s) = unicode_more a s (nat_eq a 123)
