use Rattle.std.proofs.Common.{false, refl, ap, arith}
use Rattle.js_term.specs.Term.{depth}
use Rattle.small_tree.specs.declared.expression.StaticMemberExpression.{StaticMemberExpression}
use Rattle.small_tree.specs.declared.expression.Expression.{Expression}
use Rattle.js_read.proofs.Trees.{member_seen}
use Rattle.js_read.proofs.found.member.Goals as goal

pub invariant_of-result : goal.invariant_of-result
invariant_of-result c =
    let n : StaticMemberExpression Expression = record { span = c.args.span; object = c.in_ok-object.object; property = c.args.property; optional = false } in
    let e = ap depth (member_seen n c.args.object.tree c.in_ok-object.ensures refl) in
    let d = c.args.object.deep in
    let some = c.args.object.some in
    record { deep = omega arith; some = omega arith }

pub returns-clause-tree : goal.returns-clause-tree
returns-clause-tree c = member_seen _ c.args.object.tree c.in_ok-object.ensures refl
