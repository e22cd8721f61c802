use Rattle.std.proofs.Common.{◌≡◌, take, map}
use Rattle.js_term.specs.Term.{all}
use Rattle.small_tree.specs.TermOf.{expression_term}
use Rattle.module_model.specs.Shape.{strings}
use Rattle.prepare_core.proofs.forms.names_array.Given as goal

abbrev pub invariant-loop-one : goal.invariant-loop-one
invariant-loop-one l = all (map expression_term l.elements) ≡ strings (take l.one-index l.imported)
