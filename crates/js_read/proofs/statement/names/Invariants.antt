use Rattle.std.proofs.Common.{◌≡◌, ◌-◌, [], length, map}
use Rattle.js_read.specs.Read.{separated, binding}
use Rattle.js_read.specs.Nests.{parameter_name}
use Rattle.js_read.proofs.statement.names.Given as goal

abbrev pub invariant-loop-turn : goal.invariant-loop-turn
invariant-loop-turn l = separated binding (length l.fn.tokens) [] l.fn.tokens ≡ separated binding (l._turn-end - l._turn) (map parameter_name l.found) l.tokens
