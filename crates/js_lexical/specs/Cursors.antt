-- Words for what the code passes on: a text that is left, and a number that was read with the text behind it.
-- They stand between the code and the definitions of `js_syntax`, and need not be believed.
use Rattle.std.specs.Prelude.{ℕ, ◌+◌, ◌*◌, Option, None, Some, [], ◌∷◌, Bool, true, false, not, ◌&&◌, if◌then◌else◌, nat_eq, nat_lt}
use Rattle.std.specs.Borrow.{Bor}
use Rattle.js_term.specs.Term.{Text}
use Rattle.js_syntax.specs.Lexical.{is_hex, hex_value, hex_two, hex_four}
use Rattle.js_lexical.specs.declared.hex.Number.{Number}

-- the text that is left, if one is
abbrev pub left_in : Option (Bor Text) → Option Text
left_in None = None
left_in (Some rest) = Some rest.now

-- a number, and the text behind it
abbrev pub number_in : Option Number → Option (ℕ × Text)
number_in None = None
number_in (Some number) = Some (number.value, number.rest.now)

abbrev pub passes_both : (ℕ → Text → Bool) → Option (ℕ × Text) → Bool
passes_both test None = false
passes_both test (Some p) = test p.0 p.1

abbrev pub with_rest : Option ℕ → Text → Option (ℕ × Text)
with_rest None s = None
with_rest (Some n) s = Some (n, s)

-- what one digit is worth, if it is one
abbrev pub digit_value : ℕ → Option ℕ
digit_value c = if is_hex c then Some (hex_value c) else None

-- `HH` at the front of a text
abbrev pub two_digits : Text → Option (ℕ × Text)
two_digits (a ∷ b ∷ s) = with_rest (hex_two a b) s
two_digits s = None

-- `HHHH`
abbrev pub four_digits : Text → Option (ℕ × Text)
four_digits (a ∷ b ∷ c ∷ d ∷ s) = with_rest (hex_four a b c d) s
four_digits s = None

-- `H..}`, behind digits that are worth this, if there were some: no more than 0x10FFFF
abbrev pub braced_digits : Bool → ℕ → Text → Option (ℕ × Text)
braced_digits some n [] = None
braced_digits some n (c ∷ s) = if nat_eq c 125 then (if some then Some (n, s) else None) else if is_hex c && not (nat_lt 0x10FFFF (n * 16 + hex_value c)) then braced_digits true (n * 16 + hex_value c) s else None

-- what stands behind `\u`: `{H..}` or `HHHH`
abbrev pub unicode_digits : Text → Option (ℕ × Text)
unicode_digits [] = None
unicode_digits (a ∷ s) = if nat_eq a 123 then braced_digits false 0 s else four_digits (a ∷ s)
