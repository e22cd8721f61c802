use Rattle.std.proofs.Common.{◌≡◌, drop}
use Rattle.tree_tests.specs.Hiding.{is_hidden}
use Rattle.tree_tests.proofs.hiding.is_hidden.Given as goal

abbrev pub invariant-loop-names : goal.invariant-loop-names
invariant-loop-names l = is_hidden l.scopes l.name ≡ is_hidden (drop l.names-index l.scopes) l.name
