use Rattle.std.proofs.Common.{refl, sym, arith, map, take}
use Rattle.std.proofs.lemmas.List.{length-take-le}
use Rattle.js_term.specs.Term.{all}
use Rattle.small_tree.specs.TermOf.{statement_term}
use Rattle.prepare_core.proofs.Brought.{number_next, requests_few}
use Rattle.prepare_core.proofs.Asked.{append_none, requests_next}
use Rattle.prepare_core.proofs.requests.push_requests.Goals as goal

pub loop-one-init : goal.loop-one-init
loop-one-init c = record { terms = sym (append_none (all (map statement_term c.args.out.now))); next = refl }

pub push_request-requires : goal.push_request-requires
push_request-requires c =
    omega (arith, requests_few (take c.loop-one.one-index c.args.body.now), length-take-le c.loop-one.one-index c.args.body.now (omega arith))

pub loop-one-preserved : goal.loop-one-preserved
loop-one-preserved c = record {
  terms = requests_next c.args.body.now c.loop-one.out c.push_request.new.out (all (map statement_term c.args.out.now)) c.loop-one.one-index c.loop-one.number c.one-item.result c.one-item.result (omega arith) c.one-item.is c.loop-one.invariant.next c.loop-one.invariant.terms c.in_ok-number.ensures.terms;
  next = number_next c.args.body.now c.loop-one.one-index c.loop-one.number c.in_ok-number.number c.one-item.result c.one-item.result (omega arith) c.one-item.is c.loop-one.invariant.next c.in_ok-number.ensures.next;
}
