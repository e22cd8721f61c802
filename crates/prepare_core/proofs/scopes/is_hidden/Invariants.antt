use Rattle.std.proofs.Common.{◌≡◌, drop}
use Rattle.prepare_core.specs.Names.{hidden}
use Rattle.prepare_core.proofs.scopes.is_hidden.Given as goal

abbrev pub invariant-loop-scope : goal.invariant-loop-scope
invariant-loop-scope l = hidden l.scopes l.name ≡ hidden (drop l.scope-index l.scopes) l.name
