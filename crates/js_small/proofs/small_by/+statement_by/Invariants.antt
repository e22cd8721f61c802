use Rattle.std.proofs.Common.{◌≡◌, drop, map}
use Rattle.js_term.specs.Term.{all}
use Rattle.js_term.specs.Form.{one, Sort}
use Rattle.small_tree.specs.TermOf.{statement_term}
use Rattle.js_small.specs.Small.{small_each}
use Rattle.js_small.proofs.small_by.+statement_by.Given as goal

abbrev pub invariant-are_statements_by-loop-item : goal.invariant-are_statements_by-loop-item
invariant-are_statements_by-loop-item l =
    small_each (one Sort.statement) (all (map statement_term l.items)) ≡ small_each (one Sort.statement) (all (map statement_term (drop l.item-index l.items)))
