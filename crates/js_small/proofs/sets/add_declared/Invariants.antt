use Rattle.std.proofs.Common.{◌≡◌, ◌++◌, drop}
use Rattle.js_small.specs.Names.{declared_names}
use Rattle.js_small.proofs.sets.add_declared.Given as goal

abbrev pub invariant-loop-item : goal.invariant-loop-item
invariant-loop-item l = l.out ++ declared_names (drop l.item-index l.items) ≡ l.fn.out ++ declared_names l.items
