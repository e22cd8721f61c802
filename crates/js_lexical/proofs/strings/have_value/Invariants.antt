use Rattle.std.proofs.Common.{◌≡◌, length}
use Rattle.js_lexical.specs.Strings.{has_value}
use Rattle.js_lexical.proofs.strings.have_value.Given as goal

abbrev pub invariant-loop-bytes : goal.invariant-loop-bytes
invariant-loop-bytes l = has_value l.quote l.bytes ≡ has_value l.quote l.initial.bytes

abbrev pub decreases-loop-bytes : goal.decreases-loop-bytes
decreases-loop-bytes l = length l.bytes
