use Rattle.std.proofs.Common.{◌≡◌, length}
use Rattle.js_term.specs.Lexeme.{same_line}
use Rattle.js_lex.proofs.tokens.same_line.Given as goal

abbrev pub invariant-loop-bytes : goal.invariant-loop-bytes
invariant-loop-bytes l = same_line l.bytes ≡ same_line l.initial.bytes

abbrev pub decreases-loop-bytes : goal.decreases-loop-bytes
decreases-loop-bytes l = length l.bytes
