use Rattle.js_tree.specs.Weight.{left_to_free}
use Rattle.js_tree.proofs.free.free.Given as goal

abbrev pub decreases-loop-part : goal.decreases-loop-part
decreases-loop-part l = left_to_free l.next l.waiting
