-- What the enums of the code for numbers mean, between the code and the definitions of `js_syntax`.
use Rattle.std.specs.Prelude.{ℕ, Bool}
use Rattle.js_term.specs.Lexeme.{between, is_digit}
use Rattle.js_syntax.specs.Lexical.{is_hex, is_point, is_e}
use Rattle.js_lexical.specs.declared.digits.Radix.{Radix}
use Rattle.js_lexical.specs.declared.digits.Radix.TheVariants as radix
use Rattle.js_lexical.specs.declared.numbers.Mark.{Mark}
use Rattle.js_lexical.specs.declared.numbers.Mark.TheVariants as mark

abbrev pub is_digit_of : Radix → ℕ → Bool
is_digit_of radix.Decimal = is_digit
is_digit_of radix.Hexadecimal = is_hex
is_digit_of radix.Octal = between 48 55
is_digit_of radix.Binary = between 48 49

abbrev pub is_mark : Mark → ℕ → Bool
is_mark mark.Point = is_point
is_mark mark.Exponent = is_e
