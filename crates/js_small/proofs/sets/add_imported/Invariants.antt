use Rattle.std.proofs.Common.{◌≡◌, ◌++◌, drop}
use Rattle.js_small.specs.Names.{imported_names}
use Rattle.js_small.proofs.sets.add_imported.Given as goal

abbrev pub invariant-loop-item : goal.invariant-loop-item
invariant-loop-item l = l.out ++ imported_names (drop l.item-index l.items) ≡ l.fn.out ++ imported_names l.items
