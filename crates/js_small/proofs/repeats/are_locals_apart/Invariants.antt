use Rattle.std.proofs.Common.{◌≡◌, ◌++◌, length}
use Rattle.js_small.specs.Names.{apart, local_names, imported_names, declared_names}
use Rattle.js_small.proofs.repeats.are_locals_apart.Given as goal

abbrev pub invariant-loop-items : goal.invariant-loop-items
invariant-loop-items l = apart (local_names l.items) (imported_names l.imports ++ declared_names l.statements) ≡ apart (local_names l.initial.items) (imported_names l.imports ++ declared_names l.statements)

abbrev pub decreases-loop-items : goal.decreases-loop-items
decreases-loop-items l = length l.items
