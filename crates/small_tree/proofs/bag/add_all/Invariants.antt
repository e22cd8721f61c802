use Rattle.std.proofs.Common.{length}
use Rattle.small_tree.proofs.bag.add_all.Given as goal

abbrev pub decreases-loop-part : goal.decreases-loop-part
decreases-loop-part g l = length l.parts
