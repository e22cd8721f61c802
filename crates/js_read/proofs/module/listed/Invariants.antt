use Rattle.std.proofs.Common.{◌≡◌, ◌-◌, [], length, map}
use Rattle.small_tree.specs.TermOf.{specifier_term}
use Rattle.js_read.specs.Read.{separated, specifier}
use Rattle.js_read.proofs.module.listed.Given as goal

abbrev pub invariant-loop-turn : goal.invariant-loop-turn
invariant-loop-turn l = separated specifier (length l.fn.tokens) [] l.fn.tokens ≡ separated specifier (l._turn-end - l._turn) (map specifier_term l.found) l.tokens
