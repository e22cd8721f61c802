use Rattle.std.proofs.Common.{arith}
use Rattle.prepare_core.proofs.Asked.{handed_next}
use Rattle.prepare_core.proofs.exports.exported.Goals as goal

pub loop-one-preserved : goal.loop-one-preserved
loop-one-preserved c =
    handed_next c.args.body.now c.loop-one.out c.push_exported.new.out c.loop-one.one-index c.one-item.result c.one-item.result (omega arith) c.one-item.is c.loop-one.invariant c.in_ok-push_exported.ensures
