use Rattle.std.proofs.Common.{false, refl, ap, arith}
use Rattle.js_term.specs.Term.{depth}
use Rattle.small_tree.specs.declared.expression.CallExpression.{CallExpression}
use Rattle.small_tree.specs.declared.expression.Expression.{Expression}
use Rattle.js_read.proofs.Trees.{call_seen}
use Rattle.js_read.proofs.found.call.Goals as goal

pub invariant_of-result : goal.invariant_of-result
invariant_of-result c =
    let n : CallExpression Expression = record { span = c.args.span; callee = c.in_ok-callee.callee; arguments = c.args.arguments.items; optional = false } in
    let e = ap depth (call_seen n c.args.callee.tree c.in_ok-callee.ensures refl) in
    let d = c.args.callee.deep in
    let d' = c.args.arguments.deep in
    record { deep = omega arith; some = omega arith }

pub returns-clause-tree : goal.returns-clause-tree
returns-clause-tree c = call_seen _ c.args.callee.tree c.in_ok-callee.ensures refl
