use Rattle.std.proofs.Common.{◌≡◌, ◌-◌, [], length, map}
use Rattle.small_tree.specs.TermOf.{statement_term}
use Rattle.js_read.specs.Read.{items}
use Rattle.js_read.proofs.module.items.Given as goal

abbrev pub invariant-loop-turn : goal.invariant-loop-turn
invariant-loop-turn l = items l.depth (length l.fn.tokens) [] l.fn.tokens ≡ items l.depth (l._turn-end - l._turn) (map statement_term l.found) l.tokens
