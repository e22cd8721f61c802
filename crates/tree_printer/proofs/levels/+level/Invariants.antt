use Rattle.std.proofs.Common.{◌+◌, ◌*◌}
use denote.Param.Weighed.{most}
use Rattle.js_tree.specs.declared.node.Node.{size-Node}
use Rattle.tree_printer.proofs.levels.+level.Given as goal

abbrev pub decreases-level : goal.decreases-level
decreases-level l = 2 * size-Node l.node.now

abbrev pub decreases-first_level : goal.decreases-first_level
decreases-first_level l = 2 * most size-Node l.parts.now + 1
