use Rattle.std.proofs.Common.{◌∙◌, arith}
use Rattle.prepare_core.proofs.Look.{one_more_name}
use Rattle.prepare_core.proofs.names.scope_of.Goals as goal

pub loop-one-preserved : goal.loop-one-preserved
loop-one-preserved c =
    one_more_name c.loop-one.scope c.insert.new.self c.args.names.now c.loop-one.one-index c.one-item.result c.in_ok-clone.field-0
    c.loop-one.invariant (omega arith) (c.in_ok-clone.ensures.cases ∙ c.one-item.is) c.in_ok-insert.ensures.updates.0
