use Rattle.std.proofs.Common.{◌≡◌, length}
use Rattle.js_syntax.specs.Lexical.{are_digits}
use Rattle.js_lexical.specs.Digits.{is_digit_of}
use Rattle.js_lexical.proofs.digits.are_digits.Given as goal

abbrev pub invariant-loop-bytes : goal.invariant-loop-bytes
invariant-loop-bytes l = are_digits (is_digit_of l.radix) l.bytes ≡ are_digits (is_digit_of l.radix) l.initial.bytes

abbrev pub decreases-loop-bytes : goal.decreases-loop-bytes
decreases-loop-bytes l = length l.bytes
