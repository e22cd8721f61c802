use Rattle.std.proofs.Common.{◌≡◌}
use Rattle.js_syntax.specs.ModuleTree.{is_declared}
use Rattle.js_rules.specs.OuterSeen.{declared_names, terms_of}
use Rattle.js_rules.proofs.private.is_declared.Given as goal

-- what the classes that are left declare is what all of them declare
abbrev pub invariant-loop-rest : goal.invariant-loop-rest
invariant-loop-rest g l = is_declared l.name (declared_names (terms_of g.V.View.term l.rest)) ≡ is_declared l.name (declared_names (terms_of g.V.View.term l.initial.rest))
