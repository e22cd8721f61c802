use Rattle.std.proofs.Common.{arith, take}
use Rattle.std.proofs.lemmas.List.{length-take-le}
use Rattle.prepare_core.proofs.Brought.{statements_next, number_next, requests_few}
use Rattle.prepare_core.proofs.imports.imports_of.Goals as goal

pub add_statement-requires : goal.add_statement-requires
add_statement-requires c =
    omega (arith, requests_few (take c.loop-one.one-index c.args.body.now), length-take-le c.loop-one.one-index c.args.body.now (omega arith))

pub loop-one-preserved : goal.loop-one-preserved
loop-one-preserved c = record {
  names = statements_next c.args.body.now c.loop-one.imports.entries c.add_statement.new.imports.entries c.loop-one.one-index c.loop-one.request c.one-item.result c.one-item.result (omega arith) c.one-item.is c.loop-one.invariant.number c.loop-one.invariant.names c.in_ok-request.ensures.names;
  number = number_next c.args.body.now c.loop-one.one-index c.loop-one.request c.in_ok-request.request c.one-item.result c.one-item.result (omega arith) c.one-item.is c.loop-one.invariant.number c.in_ok-request.ensures.next;
}
