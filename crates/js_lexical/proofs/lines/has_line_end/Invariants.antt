use Rattle.std.proofs.Common.{◌≡◌, length}
use Rattle.js_syntax.specs.Lexical.{has_line_end}
use Rattle.js_lexical.proofs.lines.has_line_end.Given as goal

abbrev pub invariant-loop-bytes : goal.invariant-loop-bytes
invariant-loop-bytes l = has_line_end l.bytes ≡ has_line_end l.initial.bytes

abbrev pub decreases-loop-bytes : goal.decreases-loop-bytes
decreases-loop-bytes l = length l.bytes
