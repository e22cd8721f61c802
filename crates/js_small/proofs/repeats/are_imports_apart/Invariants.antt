use Rattle.std.proofs.Common.{◌≡◌, length}
use Rattle.js_small.specs.Names.{apart, imported_names, declared_names}
use Rattle.js_small.proofs.repeats.are_imports_apart.Given as goal

abbrev pub invariant-loop-items : goal.invariant-loop-items
invariant-loop-items l = apart (imported_names l.items) (declared_names l.statements) ≡ apart (imported_names l.initial.items) (declared_names l.statements)

abbrev pub decreases-loop-items : goal.decreases-loop-items
decreases-loop-items l = length l.items
