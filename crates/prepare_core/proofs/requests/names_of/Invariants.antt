use Rattle.std.proofs.Common.{◌≡◌, take, map}
use Rattle.js_term.specs.Term.{all}
use Rattle.small_tree.specs.TermOf.{specifier_term}
use Rattle.module_model.specs.Meaning.{imported_by}
use Rattle.prepare_core.proofs.requests.names_of.Given as goal

abbrev pub invariant-loop-one : goal.invariant-loop-one
invariant-loop-one l = l.out ≡ imported_by (all (map specifier_term (take l.one-index l.items)))
