use Rattle.js_rules.specs.Seen.{size}
use Rattle.module_tree.proofs.jumps.+is_loop.Given as goal

abbrev pub decreases-is_loop : goal.decreases-is_loop
decreases-is_loop g l = size (g.V.View.term l.statement)
