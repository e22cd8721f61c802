use Rattle.js_scope.proofs.Moving.{moved_by_steps}
use Rattle.js_scope.proofs.scoping.Scoping.move_binding_by_symbol_id.Goals as goal

pub returns-clause-moved : goal.returns-clause-moved
returns-clause-moved c =
    moved_by_steps _ _ _ _ _ _ _ _ _ _ _ _ c.symbol_name.ensures c.in_ok-name.ensures.cases c.in_ok-clone.ensures.cases c.as_str.ensures c.leaves-leaves.ensures c.in_ok-add_binding.ensures.set c.remove_binding_if.ensures
    c.set_symbol_scope_id.ensures
