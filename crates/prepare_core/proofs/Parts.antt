-- The parts that the statements of a module play.
use Rattle.std.proofs.Common.{◌≡◌, refl, sym, ◌∙◌, ap, false}
use Rattle.js_term.specs.Scope.{role, is_request}
use Rattle.small_tree.specs.TermOf.{statement_term, declaration_term, function_word}
use Rattle.small_tree.specs.declared.expression.Expression.{Expression}
use Rattle.small_tree.specs.declared.function.Function.{Function}
use Rattle.small_tree.specs.declared.function.FunctionKind.{FunctionKind}
use Rattle.small_tree.specs.declared.function.FunctionKind.TheVariants as function_kind
use Rattle.small_tree.specs.declared.statement.ExpressionStatement.{ExpressionStatement}
use Rattle.small_tree.specs.declared.statement.ReturnStatement.{ReturnStatement}
use Rattle.small_tree.specs.declared.statement.VariableDeclaration.{VariableDeclaration}
use Rattle.small_tree.specs.declared.statement.VariableDeclarator.{VariableDeclarator}
use Rattle.small_tree.specs.declared.statement.Statement.TheVariants as statement
use Rattle.small_tree.specs.declared.module.Declaration.{Declaration}
use Rattle.small_tree.specs.declared.module.Declaration.TheVariants as declaration
use Rattle.small_tree.specs.declared.module.ImportDeclaration.{ImportDeclaration}
use Rattle.small_tree.specs.declared.module.ExportDeclaration.{ExportDeclaration}
use Rattle.small_tree.proofs.Levels.{d_VariableDeclaration, d_FunctionDeclaration, s_ExpressionStatement, s_ReturnStatement, s_VariableDeclaration, s_FunctionDeclaration, s_ImportDeclaration, s_ExportDeclaration, function_parts}
use Rattle.prepare_core.specs.Names.{is_import, is_export, is_export_role}

pub effect_no_import : (n : ExpressionStatement Expression) → is_import (statement_term (statement.ExpressionStatement n)) ≡ false
effect_no_import n = ap is_import (s_ExpressionStatement n)

pub return_no_import : (n : ReturnStatement Expression) → is_import (statement_term (statement.ReturnStatement n)) ≡ false
return_no_import n = ap is_import (s_ReturnStatement n)

pub variables_no_import : (n : VariableDeclaration VariableDeclarator) → is_import (statement_term (statement.VariableDeclaration n)) ≡ false
variables_no_import n = ap is_import (s_VariableDeclaration n)

pub function_no_import : (n : Function) → is_import (statement_term (statement.FunctionDeclaration n)) ≡ false
function_no_import n = ap is_import (s_FunctionDeclaration n ∙ function_parts n) ∙ by n.kind
  where
    by : (k : FunctionKind) → is_request (role (function_word k)) ≡ false
    by function_kind.FunctionDeclaration = refl
    by function_kind.FunctionExpression = refl

pub export_no_import : (n : ExportDeclaration Declaration) → is_import (statement_term (statement.ExportDeclaration n)) ≡ false
export_no_import n = ap is_import (s_ExportDeclaration n)

pub effect_no_export : (n : ExpressionStatement Expression) → is_export (statement_term (statement.ExpressionStatement n)) ≡ false
effect_no_export n = ap is_export (s_ExpressionStatement n)

pub return_no_export : (n : ReturnStatement Expression) → is_export (statement_term (statement.ReturnStatement n)) ≡ false
return_no_export n = ap is_export (s_ReturnStatement n)

pub variables_no_export : (n : VariableDeclaration VariableDeclarator) → is_export (statement_term (statement.VariableDeclaration n)) ≡ false
variables_no_export n = ap is_export (s_VariableDeclaration n)

pub function_no_export : (n : Function) → is_export (statement_term (statement.FunctionDeclaration n)) ≡ false
function_no_export n = ap is_export (s_FunctionDeclaration n ∙ function_parts n) ∙ by n.kind
  where
    by : (k : FunctionKind) → is_export_role (role (function_word k)) ≡ false
    by function_kind.FunctionDeclaration = refl
    by function_kind.FunctionExpression = refl

pub import_no_export : (n : ImportDeclaration) → is_export (statement_term (statement.ImportDeclaration n)) ≡ false
import_no_export n = ap is_export (s_ImportDeclaration n)

pub variables_statement : (n : VariableDeclaration VariableDeclarator) → statement_term (statement.VariableDeclaration n) ≡ declaration_term (declaration.VariableDeclaration n)
variables_statement n = s_VariableDeclaration n ∙ sym (d_VariableDeclaration n)

pub function_statement : (n : Function) → statement_term (statement.FunctionDeclaration n) ≡ declaration_term (declaration.FunctionDeclaration n)
function_statement n = s_FunctionDeclaration n ∙ sym (d_FunctionDeclaration n)
