use Rattle.std.proofs.Common.{◌≤◌, ◌∙◌, length, arith}
use Rattle.std.proofs.lemmas.List.{take_all}
use Rattle.std.proofs.lemmas.Result.{IfOk-weaker}
use Rattle.prepare_core.specs.Names.{names_env, root_env}
use Rattle.prepare_core.proofs.Carry.{function_inside}
use Rattle.prepare_core.proofs.Variants.{array_carried, call_carried, object_carried, sequence_carried, variables_declared, variables_carried, export_carried}
use Rattle.prepare_core.proofs.walk.+rewrite.Goals as goal

pub rewrite_expression-returns-in_ok-elements-in-ArrayExpression-clause-term : goal.rewrite_expression-returns-in_ok-elements-in-ArrayExpression-clause-term
rewrite_expression-returns-in_ok-elements-in-ArrayExpression-clause-term t c =
    let q = rw c.as_slice-in-ArrayExpression.ensures at c.in_ok-elements-in-ArrayExpression.ensures.terms in
    rw c.in-ArrayExpression.is (c.array.ensures ∙ array_carried (names_env c.args.imports.now c.args.scopes.now) c.in-ArrayExpression.n c.in_ok-elements-in-ArrayExpression.elements q)

pub rewrite_expression-returns-in_ok-arguments-in-CallExpression-clause-term : goal.rewrite_expression-returns-in_ok-arguments-in-CallExpression-clause-term
rewrite_expression-returns-in_ok-arguments-in-CallExpression-clause-term t c =
    let p = rw c.get-in-CallExpression.ensures at c.in_ok-callee-in-CallExpression.ensures.term in
    let q = rw (c.in_ok-callee-in-CallExpression.ensures.scopes, c.as_slice-in-CallExpression.ensures) at c.in_ok-arguments-in-CallExpression.ensures.terms in
    rw c.in-CallExpression.is
    (c.with_callee.ensures ∙ call_carried (names_env c.args.imports.now c.args.scopes.now) c.in-CallExpression.n c.in_ok-callee-in-CallExpression.callee c.in_ok-arguments-in-CallExpression.arguments p q)

pub rewrite_expression-returns-in_ok-properties-in-ObjectExpression-clause-term : goal.rewrite_expression-returns-in_ok-properties-in-ObjectExpression-clause-term
rewrite_expression-returns-in_ok-properties-in-ObjectExpression-clause-term t c =
    let q = rw c.as_slice-in-ObjectExpression.ensures at c.in_ok-properties-in-ObjectExpression.ensures.terms in
    rw c.in-ObjectExpression.is (c.object.ensures ∙ object_carried (names_env c.args.imports.now c.args.scopes.now) c.in-ObjectExpression.n c.in_ok-properties-in-ObjectExpression.properties q)

pub rewrite_expression-returns-in_ok-expressions-in-SequenceExpression-clause-term : goal.rewrite_expression-returns-in_ok-expressions-in-SequenceExpression-clause-term
rewrite_expression-returns-in_ok-expressions-in-SequenceExpression-clause-term t c =
    let q = rw c.as_slice-in-SequenceExpression.ensures at c.in_ok-expressions-in-SequenceExpression.ensures.terms in
    rw c.in-SequenceExpression.is (c.sequence.ensures ∙ sequence_carried (names_env c.args.imports.now c.args.scopes.now) c.in-SequenceExpression.n c.in_ok-expressions-in-SequenceExpression.expressions q)

pub rewrite_function-returns-clause-term : goal.rewrite_function-returns-clause-term
rewrite_function-returns-clause-term t c =
    let h : length c.as_slice-one-items.result.now ≤ c.loop-one.one-index = omega arith in
    let q = rw (take_all c.loop-one.one-index c.as_slice-one-items.result.now h, c.as_slice-one-items.ensures, c.in_ok-push.ensures.ok) at c.loop-one.invariant.terms in
    IfOk-weaker c.with_statements.result _ _
    (λ m e. e ∙ function_inside (root_env c.args.imports.now) c.args.scopes.now c.args.n.now c.in_ok-function_scope.field-0 c.loop-one.out c.in_ok-function_scope.ensures q)
    c.with_statements.ensures

pub rewrite_declaration-returns-in_ok-declarations-in-VariableDeclaration-clause-term : goal.rewrite_declaration-returns-in_ok-declarations-in-VariableDeclaration-clause-term
rewrite_declaration-returns-in_ok-declarations-in-VariableDeclaration-clause-term t c =
    let q = rw c.as_slice-items.ensures at c.in_ok-declarations-in-VariableDeclaration.ensures.terms in
    rw c.in-VariableDeclaration.is (variables_declared (names_env c.args.imports.now c.args.scopes.now) c.in-VariableDeclaration.n c.with_declarators.result c.with_declarators.ensures.kind (rw c.with_declarators.ensures.declarations q))

pub rewrite_statement-returns-in_ok-declarations-in-VariableDeclaration-clause-term : goal.rewrite_statement-returns-in_ok-declarations-in-VariableDeclaration-clause-term
rewrite_statement-returns-in_ok-declarations-in-VariableDeclaration-clause-term t c =
    let q = rw c.as_slice-items.ensures at c.in_ok-declarations-in-VariableDeclaration.ensures.terms in
    rw c.in-VariableDeclaration.is (variables_carried (names_env c.args.imports.now c.args.scopes.now) c.in-VariableDeclaration.n c.with_declarators.result c.with_declarators.ensures.kind (rw c.with_declarators.ensures.declarations q))

pub rewrite_statement-returns-in_ok-rewrite_declaration-in-ExportDeclaration-clause-term : goal.rewrite_statement-returns-in_ok-rewrite_declaration-in-ExportDeclaration-clause-term
rewrite_statement-returns-in_ok-rewrite_declaration-in-ExportDeclaration-clause-term t c =
    rw c.in-ExportDeclaration.is (export_carried (names_env c.args.imports.now c.args.scopes.now) c.in-ExportDeclaration.n _ c.in_ok-rewrite_declaration-in-ExportDeclaration.ensures.term)
