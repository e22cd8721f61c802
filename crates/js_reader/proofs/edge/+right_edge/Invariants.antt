use Rattle.js_tree.specs.declared.node.Node.{size-Node}
use Rattle.js_reader.proofs.edge.+right_edge.Given as goal

abbrev pub decreases-right_edge : goal.decreases-right_edge
decreases-right_edge l = size-Node l.node.now
