use Rattle.std.proofs.Common.{◌≡◌, [], map, length}
use Rattle.js_term.specs.Term.{all, append}
use Rattle.small_tree.specs.TermOf.{statement_term}
use Rattle.std.specs.Vec.Iter.{into_iter_items, into_iter_len}
use Rattle.module_model.specs.Meaning.{all_kept}
use Rattle.prepare_core.specs.Carried.{carried_each}
use Rattle.prepare_core.specs.Names.{root_env}
use Rattle.prepare_core.proofs.kept.push_all_kept.Given as goal

-- what is made and what is still to be made of the rest is what is wanted of the whole
abbrev pub invariant-loop-one : goal.invariant-loop-one
invariant-loop-one l = record {
  same : l.scopes ≡ [];
  len : into_iter_len l.one-iterator ≡ length (into_iter_items l.one-iterator);
  terms : append (all (map statement_term l.out)) (carried_each (root_env l.imports) (all_kept (all (map statement_term (into_iter_items l.one-iterator))))) ≡ append (all (map statement_term l.fn.out)) (carried_each (root_env l.imports) (all_kept (all (map statement_term l.fn.body))));
}
