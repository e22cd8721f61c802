use Rattle.std.proofs.Common.{◌≡◌}
use Rattle.js_tree.specs.declared.node.Node.{size-Node}
use Rattle.tree_rewrite.proofs.Seeing.{behind_parts}
use Rattle.tree_rewrite.proofs.visit.+visit_tree.Given as goal

abbrev pub decreases-visit_tree : goal.decreases-visit_tree
decreases-visit_tree g l = size-Node l.node.now

abbrev pub invariant-loop-k : goal.invariant-loop-k
invariant-loop-k g l = l.rules ≡ behind_parts g.V.Visit.enter g.V.Visit.inside g.V.Visit.leave l.place l.fn.rules l.node l.k
