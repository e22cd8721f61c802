use Rattle.std.proofs.Common.{take}
use Rattle.prepare_core.specs.Names.{IsScopeOf}
use Rattle.prepare_core.proofs.names.scope_of.Given as goal

abbrev pub invariant-loop-one : goal.invariant-loop-one
invariant-loop-one l = IsScopeOf l.scope.keys (take l.one-index l.names)
