use Rattle.std.proofs.Common.{◌≡◌, drop, map}
use Rattle.js_term.specs.Term.{all}
use Rattle.js_term.specs.Form.{one, Sort}
use Rattle.small_tree.specs.TermOf.{specifier_term}
use Rattle.js_small.specs.Small.{small_each}
use Rattle.js_small.proofs.form.are_specifiers.Given as goal

abbrev pub invariant-loop-item : goal.invariant-loop-item
invariant-loop-item l =
    small_each (one Sort.specifier) (all (map specifier_term l.items)) ≡ small_each (one Sort.specifier) (all (map specifier_term (drop l.item-index l.items)))
