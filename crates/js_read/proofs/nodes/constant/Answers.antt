use Rattle.std.proofs.Common.{Some, ap, refl}
use Rattle.small_tree.specs.declared.expression.Expression.{Expression}
use Rattle.js_read.proofs.Trees.{constant_seen}
use Rattle.js_read.proofs.nodes.constant.Goals as goal

pub returns : goal.returns
returns c = constant_seen _ _ c.args.id c.args.init refl (rw (c.from_vec-declarations.ensures, c.in_ok-with_capacity.ensures.items) at c.in_ok-push.ensures.ok) refl (ap (λ (e : Expression). Some e) c.in_ok-init.ensures)
