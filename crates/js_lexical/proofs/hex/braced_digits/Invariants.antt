use Rattle.std.proofs.Common.{◌≡◌, ◌≤◌, false, length}
use Rattle.js_lexical.specs.Cursors.{braced_digits}
use Rattle.js_lexical.proofs.hex.braced_digits.Given as goal

abbrev pub invariant-loop-bytes : goal.invariant-loop-bytes
invariant-loop-bytes l = record {
  same : braced_digits l.has_digit l.value l.bytes ≡ braced_digits false 0 l.initial.bytes;
  few : l.value ≤ 0x10FFFF;
  within : length l.bytes ≤ length l.initial.bytes;
}

abbrev pub decreases-loop-bytes : goal.decreases-loop-bytes
decreases-loop-bytes l = length l.bytes
