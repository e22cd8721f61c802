use Rattle.std.proofs.Common.{◌≡◌, drop}
use Rattle.js_term.specs.Form.{is_distinct}
use Rattle.js_small.specs.Seen.{has}
use Rattle.js_small.proofs.NamesKnown.{are_new}
use Rattle.js_small.proofs.sets.are_distinct.Given as goal

abbrev pub invariant-loop-item : goal.invariant-loop-item
invariant-loop-item l = is_distinct l.items ≡ are_new (has l.seen) (drop l.item-index l.items)
