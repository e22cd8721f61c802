use Rattle.std.proofs.Common.{◌≡◌}
use Rattle.js_scope.specs.Table.{ancestors, first_binding, outward}
use Rattle.js_scope.proofs.scoping.Scoping.find_binding.Given as goal

abbrev pub invariant-loop-scope : goal.invariant-loop-scope
invariant-loop-scope l =
    let it = l.scope-iterator in
    first_binding l.self.scopes (outward it.left it.scopes.now it.next) l.name ≡ first_binding l.self.scopes (ancestors l.self l.fn.scope) l.name
