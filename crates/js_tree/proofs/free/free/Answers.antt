use Rattle.js_tree.proofs.free.free.Goals as goal

pub loop-part-smaller : goal.loop-part-smaller
loop-part-smaller c = c.in-Some.ensures
