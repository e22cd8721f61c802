use Rattle.small_tree.specs.TermOf.{statement_term}
use Rattle.prepare_core.proofs.Asked.{no_request, one_request}
use Rattle.prepare_core.proofs.requests.push_request.Goals as goal

pub returns-in-None-clause-terms : goal.returns-in-None-clause-terms
returns-in-None-clause-terms c = no_request _ c.args.number (statement_term c.args.s.now) c.in-None.ensures

pub returns-in_ok-push-in-Some-clause-terms : goal.returns-in_ok-push-in-Some-clause-terms
returns-in_ok-push-in-Some-clause-terms c =
    one_request c.args.out.now c.push.new.self c.args.s.now c.in_ok-request-in-Some.field-0 c.in-Some.n.now c.args.number c.in_ok-source-in-Some.source c.in_ok-imported-in-Some.imported
    c.in-Some.ensures c.in_ok-push-in-Some.ensures.ok c.in_ok-request-in-Some.ensures c.in_ok-source-in-Some.ensures.cases c.in_ok-imported-in-Some.ensures
