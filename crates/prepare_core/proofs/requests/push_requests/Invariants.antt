use Rattle.std.proofs.Common.{◌≡◌, take, map, length}
use Rattle.js_term.specs.Term.{all, append}
use Rattle.small_tree.specs.TermOf.{statement_term}
use Rattle.module_model.specs.Meaning.{requests}
use Rattle.module_model.specs.Run.{written_requests}
use Rattle.prepare_core.proofs.requests.push_requests.Given as goal

abbrev pub invariant-loop-one : goal.invariant-loop-one
invariant-loop-one l = record {
  terms : all (map statement_term l.out) ≡ append (all (map statement_term l.fn.out)) (written_requests 0 (requests (all (map statement_term (take l.one-index l.body)))));
  next : l.number ≡ length (requests (all (map statement_term (take l.one-index l.body))));
}
