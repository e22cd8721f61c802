use Rattle.std.proofs.Common.{Some, ap}
use Rattle.small_tree.specs.declared.expression.Expression.{Expression}
use Rattle.js_read.proofs.Trees.{return_seen}
use Rattle.js_read.proofs.nodes.returned.Goals as goal

pub returns : goal.returns
returns c = return_seen _ c.args.argument (ap (λ (e : Expression). Some e) c.in_ok-new.ensures)
