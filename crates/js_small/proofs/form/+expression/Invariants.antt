use Rattle.std.proofs.Common.{◌≡◌, drop, map}
use Rattle.js_term.specs.Term.{all}
use Rattle.js_term.specs.Form.{one, Sort}
use Rattle.small_tree.specs.TermOf.{expression_term}
use Rattle.js_small.specs.Small.{small_each}
use Rattle.js_small.proofs.form.+expression.Given as goal

abbrev pub invariant-are_expressions-loop-item : goal.invariant-are_expressions-loop-item
invariant-are_expressions-loop-item l =
    small_each (one Sort.expression) (all (map expression_term l.items)) ≡ small_each (one Sort.expression) (all (map expression_term (drop l.item-index l.items)))
