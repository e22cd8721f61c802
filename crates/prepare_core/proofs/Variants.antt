-- Each variant of a node, carried from its carried parts.
use Rattle.std.proofs.Common.{◌≡◌, refl, ◌∙◌, ap, ℕ, List, Some, false, map}
use Rattle.js_term.specs.Term.{Text, Term, all}
use Rattle.js_term.specs.Node.{identifier_of, member_of, array_of, sequence_of, object_of}
use Rattle.js_term.specs.Scope.{role, Env, resolve, import_of}
use Rattle.small_tree.specs.TermOf.{expression_term, statement_term, declaration_term, declarator_term, property_term, function_word}
use Rattle.small_tree.specs.declared.id.IdentifierReference.{IdentifierReference}
use Rattle.small_tree.specs.declared.expression.BooleanLiteral.{BooleanLiteral}
use Rattle.small_tree.specs.declared.expression.NumericLiteral.{NumericLiteral}
use Rattle.small_tree.specs.declared.expression.StringLiteral.{StringLiteral}
use Rattle.small_tree.specs.declared.expression.CallExpression.{CallExpression}
use Rattle.small_tree.specs.declared.expression.StaticMemberExpression.{StaticMemberExpression}
use Rattle.small_tree.specs.declared.expression.SequenceExpression.{SequenceExpression}
use Rattle.small_tree.specs.declared.expression.AwaitExpression.{AwaitExpression}
use Rattle.small_tree.specs.declared.expression.ArrayExpression.{ArrayExpression}
use Rattle.small_tree.specs.declared.expression.ObjectProperty.{ObjectProperty}
use Rattle.small_tree.specs.declared.expression.ObjectExpression.{ObjectExpression}
use Rattle.small_tree.specs.declared.expression.ParenthesizedExpression.{ParenthesizedExpression}
use Rattle.small_tree.specs.declared.expression.Expression.{Expression}
use Rattle.small_tree.specs.declared.expression.Expression.TheVariants as expression
use Rattle.small_tree.specs.declared.function.Function.{Function}
use Rattle.small_tree.specs.declared.function.FunctionKind.{FunctionKind}
use Rattle.small_tree.specs.declared.function.FunctionKind.TheVariants as function_kind
use Rattle.small_tree.specs.declared.statement.VariableDeclaration.{VariableDeclaration}
use Rattle.small_tree.specs.declared.statement.VariableDeclarator.{VariableDeclarator}
use Rattle.small_tree.specs.declared.statement.Statement.TheVariants as statement
use Rattle.small_tree.specs.declared.module.Declaration.{Declaration}
use Rattle.small_tree.specs.declared.module.Declaration.TheVariants as declaration
use Rattle.small_tree.specs.declared.module.ExportDeclaration.{ExportDeclaration}
use Rattle.small_tree.proofs.Levels.{function_parts, e_BooleanLiteral, e_NumericLiteral, e_StringLiteral, e_Identifier, e_ArrayExpression, e_AwaitExpression, e_CallExpression, e_FunctionExpression, e_ObjectExpression, e_ParenthesizedExpression, e_SequenceExpression, e_StaticMemberExpression, d_VariableDeclaration, s_VariableDeclaration, s_ExportDeclaration}
use Rattle.module_model.specs.Resolved.{in_callee, is_reference, refers}
use Rattle.module_model.specs.Run.{written}
use Rattle.module_model.specs.Shape.{detached, import_name}
use Rattle.prepare_core.specs.Carried.{carried, property_with, call_with}
use Rattle.prepare_core.proofs.Carry.{each_carried}

-- references

pub identifier_carried : (env : Env) (n : IdentifierReference) → carried env (expression_term (expression.Identifier n)) ≡ written env n.name
identifier_carried env n = ap (carried env) (e_Identifier n)

pub import_written : (env : Env) (x : Text) (j : ℕ) (k : Text) → resolve env x ≡ import_of j (Some k) → written env x ≡ member_of (identifier_of (import_name j)) k
import_written env x j k e = rw e refl

pub import_called : (env : Env) (x : Text) (j : ℕ) (k : Text) → resolve env x ≡ import_of j (Some k) → in_callee (identifier_of x) (written env x) ≡ detached (member_of (identifier_of (import_name j)) k)
import_called env x j k e = rw e refl

pub plain_called : (env : Env) (x : Text) → written env x ≡ identifier_of x → in_callee (identifier_of x) (written env x) ≡ identifier_of x
plain_called env x e = rw e refl

-- callees

pub callee_reference : (env : Env) (n : IdentifierReference) → in_callee (expression_term (expression.Identifier n)) (carried env (expression_term (expression.Identifier n))) ≡ in_callee (identifier_of n.name) (written env n.name)
callee_reference env n = rw (e_Identifier n) refl

pub callee_other : (env : Env) (t : Term) → is_reference t ≡ false → in_callee t (carried env t) ≡ carried env t
callee_other env t h = rw h refl

pub no_boolean : (n : BooleanLiteral) → is_reference (expression_term (expression.BooleanLiteral n)) ≡ false
no_boolean n = ap is_reference (e_BooleanLiteral n)

pub no_number : (n : NumericLiteral) → is_reference (expression_term (expression.NumericLiteral n)) ≡ false
no_number n = ap is_reference (e_NumericLiteral n)

pub no_string : (n : StringLiteral) → is_reference (expression_term (expression.StringLiteral n)) ≡ false
no_string n = ap is_reference (e_StringLiteral n)

pub no_array : (n : ArrayExpression Expression) → is_reference (expression_term (expression.ArrayExpression n)) ≡ false
no_array n = ap is_reference (e_ArrayExpression n)

pub no_await : (n : AwaitExpression Expression) → is_reference (expression_term (expression.AwaitExpression n)) ≡ false
no_await n = ap is_reference (e_AwaitExpression n)

pub no_call : (n : CallExpression Expression) → is_reference (expression_term (expression.CallExpression n)) ≡ false
no_call n = ap is_reference (e_CallExpression n)

pub no_object : (n : ObjectExpression Expression) → is_reference (expression_term (expression.ObjectExpression n)) ≡ false
no_object n = ap is_reference (e_ObjectExpression n)

pub no_parenthesized : (n : ParenthesizedExpression Expression) → is_reference (expression_term (expression.ParenthesizedExpression n)) ≡ false
no_parenthesized n = ap is_reference (e_ParenthesizedExpression n)

pub no_sequence : (n : SequenceExpression Expression) → is_reference (expression_term (expression.SequenceExpression n)) ≡ false
no_sequence n = ap is_reference (e_SequenceExpression n)

pub no_member : (n : StaticMemberExpression Expression) → is_reference (expression_term (expression.StaticMemberExpression n)) ≡ false
no_member n = ap is_reference (e_StaticMemberExpression n)

pub no_function : (n : Function) → is_reference (expression_term (expression.FunctionExpression n)) ≡ false
no_function n = ap is_reference (e_FunctionExpression n ∙ function_parts n) ∙ by n.kind
  where
    by : (k : FunctionKind) → refers (role (function_word k)) ≡ false
    by function_kind.FunctionDeclaration = refl
    by function_kind.FunctionExpression = refl

-- expressions

pub boolean_kept : (env : Env) (n : BooleanLiteral) → carried env (expression_term (expression.BooleanLiteral n)) ≡ expression_term (expression.BooleanLiteral n)
boolean_kept env n = rw (e_BooleanLiteral n) refl

pub number_kept : (env : Env) (n : NumericLiteral) → carried env (expression_term (expression.NumericLiteral n)) ≡ expression_term (expression.NumericLiteral n)
number_kept env n = rw (e_NumericLiteral n) refl

pub string_kept : (env : Env) (n : StringLiteral) → carried env (expression_term (expression.StringLiteral n)) ≡ expression_term (expression.StringLiteral n)
string_kept env n = rw (e_StringLiteral n) refl

abbrev Each : Env → List Expression → List Expression → Type 0
Each env es fs = map expression_term fs ≡ map (λ e. carried env (expression_term e)) es

pub array_carried : (env : Env) (n : ArrayExpression Expression) (es : List Expression) → Each env n.elements es → array_of (all (map expression_term es)) ≡ carried env (expression_term (expression.ArrayExpression n))
array_carried env n es p = rw (e_ArrayExpression n, p, each_carried env expression_term n.elements) refl

pub sequence_carried : (env : Env) (n : SequenceExpression Expression) (es : List Expression) → Each env n.expressions es → sequence_of (all (map expression_term es)) ≡ carried env (expression_term (expression.SequenceExpression n))
sequence_carried env n es p = rw (e_SequenceExpression n, p, each_carried env expression_term n.expressions) refl

pub call_carried : (env : Env) (n : CallExpression Expression) (callee : Expression) (es : List Expression) → expression_term callee ≡ in_callee (expression_term n.callee) (carried env (expression_term n.callee)) → Each env n.arguments es → call_with n (expression_term callee) (all (map expression_term es)) ≡ carried env (expression_term (expression.CallExpression n))
call_carried env n callee es p q = rw (e_CallExpression n, p, q, each_carried env expression_term n.arguments) refl

pub object_carried : (env : Env) (n : ObjectExpression Expression) (ps : List (ObjectProperty Expression)) → map (property_term expression_term) ps ≡ map (λ p. carried env (property_term expression_term p)) n.properties → object_of (all (map (property_term expression_term) ps)) ≡ carried env (expression_term (expression.ObjectExpression n))
object_carried env n ps p = rw (e_ObjectExpression n, p, each_carried env (property_term expression_term) n.properties) refl

pub property_carried : (env : Env) (n : ObjectProperty Expression) → carried env (property_term expression_term n) ≡ property_with n (carried env (expression_term n.value))
property_carried env n = refl

-- declarations and statements

abbrev EachDeclarator : Env → List VariableDeclarator → List VariableDeclarator → Type 0
EachDeclarator env ds cs = map declarator_term cs ≡ map (λ d. carried env (declarator_term d)) ds

pub variables_declared : (env : Env) (n m : VariableDeclaration VariableDeclarator) → m.kind ≡ n.kind → EachDeclarator env n.declarations m.declarations → declaration_term (declaration.VariableDeclaration m) ≡ carried env (declaration_term (declaration.VariableDeclaration n))
variables_declared env n m k p = rw (d_VariableDeclaration m, d_VariableDeclaration n, k, p, each_carried env declarator_term n.declarations) refl

pub variables_carried : (env : Env) (n m : VariableDeclaration VariableDeclarator) → m.kind ≡ n.kind → EachDeclarator env n.declarations m.declarations → statement_term (statement.VariableDeclaration m) ≡ carried env (statement_term (statement.VariableDeclaration n))
variables_carried env n m k p = rw (s_VariableDeclaration m, s_VariableDeclaration n, k, p, each_carried env declarator_term n.declarations) refl

pub export_carried : (env : Env) (n m : ExportDeclaration Declaration) → declaration_term m.declaration ≡ carried env (declaration_term n.declaration) → statement_term (statement.ExportDeclaration m) ≡ carried env (statement_term (statement.ExportDeclaration n))
export_carried env n m p = rw (s_ExportDeclaration m, s_ExportDeclaration n, p) refl
