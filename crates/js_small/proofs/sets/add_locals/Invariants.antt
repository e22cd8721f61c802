use Rattle.std.proofs.Common.{◌≡◌, ◌++◌, drop}
use Rattle.js_small.specs.Names.{local_names}
use Rattle.js_small.proofs.sets.add_locals.Given as goal

abbrev pub invariant-loop-item : goal.invariant-loop-item
invariant-loop-item l = l.out ++ local_names (drop l.item-index l.items) ≡ l.fn.out ++ local_names l.items
