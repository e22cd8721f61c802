use Rattle.std.proofs.Common.{arith}
use Rattle.prepare_core.proofs.Asked.{sources_next}
use Rattle.prepare_core.proofs.requests.sources.Goals as goal

pub loop-one-preserved : goal.loop-one-preserved
loop-one-preserved c =
    sources_next c.args.body.now c.loop-one.out.items c.push_source.new.out.items c.loop-one.one-index c.one-item.result c.one-item.result (omega arith) c.one-item.is c.loop-one.invariant c.in_ok-push_source.ensures
