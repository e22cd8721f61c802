use Rattle.std.proofs.Common.{◌≡◌, length}
use Rattle.js_small.specs.Names.{declared_names}
use Rattle.js_small.proofs.repeats.are_declared_once.Given as goal
use Rattle.js_term.specs.Form.{is_distinct}

abbrev pub invariant-loop-items : goal.invariant-loop-items
invariant-loop-items l = is_distinct (declared_names l.items) ≡ is_distinct (declared_names l.initial.items)

abbrev pub decreases-loop-items : goal.decreases-loop-items
decreases-loop-items l = length l.items
