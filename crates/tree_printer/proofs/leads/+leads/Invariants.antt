use Rattle.std.proofs.Common.{◌+◌, ◌*◌}
use denote.Param.Weighed.{most}
use Rattle.js_tree.specs.declared.node.Node.{size-Node}
use Rattle.tree_printer.proofs.leads.+leads.Given as goal

abbrev pub decreases-leads_in : goal.decreases-leads_in
decreases-leads_in l = 2 * size-Node l.part.now

abbrev pub decreases-leads_first : goal.decreases-leads_first
decreases-leads_first l = 2 * most size-Node l.parts.now + 1
