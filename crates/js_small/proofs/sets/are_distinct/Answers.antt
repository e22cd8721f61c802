use Rattle.std.proofs.Common.{◌∙◌, sym}
use Rattle.js_small.specs.Seen.{has}
use Rattle.js_small.proofs.NamesKnown.{next_known}
use Rattle.js_small.proofs.sets.are_distinct.Goals as goal

pub loop-item-preserved : goal.loop-item-preserved
loop-item-preserved c =
    let added = c.in_ok-insert.ensures in
    c.loop-item.invariant
    ∙ next_known (has c.loop-item.seen) (has c.insert.new.seen) c.args.items.now c.loop-item.item-index c.item-item.result c.loop-item-test.true c.item-item.is added.added (sym added.fresh ∙ c.if-not-branch.false)
