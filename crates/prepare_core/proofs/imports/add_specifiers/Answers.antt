use Rattle.std.proofs.Common.{arith}
use Rattle.prepare_core.proofs.Brought.{specifiers_next}
use Rattle.prepare_core.proofs.imports.add_specifiers.Goals as goal

pub loop-one-preserved : goal.loop-one-preserved
loop-one-preserved c =
    specifiers_next c.args.request _ c.args.items.now c.loop-one.imports.entries c.add_specifier.new.imports.entries c.loop-one.one-index c.one-item.result c.one-item.result (omega arith) c.one-item.is c.loop-one.invariant c.in_ok-add_specifier.ensures
