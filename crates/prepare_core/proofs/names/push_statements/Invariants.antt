use Rattle.std.proofs.Common.{◌≡◌, ◌++◌, take, map}
use Rattle.js_term.specs.Term.{all}
use Rattle.js_term.specs.Scope.{declared_all}
use Rattle.small_tree.specs.TermOf.{statement_term}
use Rattle.prepare_core.proofs.names.push_statements.Given as goal

abbrev pub invariant-loop-one : goal.invariant-loop-one
invariant-loop-one l = l.out ≡ l.fn.out ++ declared_all (all (map statement_term (take l.one-index l.items)))
