use Rattle.std.proofs.Common.{◌≡◌, drop, map}
use Rattle.js_term.specs.Term.{all}
use Rattle.js_term.specs.Form.{one, Sort}
use Rattle.small_tree.specs.TermOf.{statement_term}
use Rattle.js_small.specs.Small.{small_each}
use Rattle.js_small.proofs.small_by.are_items_by.Given as goal

abbrev pub invariant-loop-item : goal.invariant-loop-item
invariant-loop-item l =
    small_each (one Sort.item) (all (map statement_term l.items)) ≡ small_each (one Sort.item) (all (map statement_term (drop l.item-index l.items)))
