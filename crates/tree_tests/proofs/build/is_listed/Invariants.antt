use Rattle.std.proofs.Common.{◌≡◌, drop}
use Rattle.tree_tests.specs.Names.{has}
use Rattle.tree_tests.proofs.build.is_listed.Given as goal

abbrev pub invariant-loop-one : goal.invariant-loop-one
invariant-loop-one l = has l.names l.name ≡ has (drop l.one-index l.names) l.name
