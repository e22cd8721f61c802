use Rattle.std.proofs.Common.{◌≡◌, ◌++◌, drop}
use Rattle.js_small.specs.Names.{parameter_names}
use Rattle.js_small.proofs.sets.add_parameters.Given as goal

abbrev pub invariant-loop-item : goal.invariant-loop-item
invariant-loop-item l = l.out ++ parameter_names (drop l.item-index l.items) ≡ l.fn.out ++ parameter_names l.items
