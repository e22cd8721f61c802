-- The terms of the nodes that the runner makes.
use Rattle.std.proofs.Common.{◌≡◌, refl, ◌∙◌, ap, List, [], ◌∷◌, Option, None, Some, false, map, ℕ, ◌++◌, ◌<◌, ◌+◌, take, length, get_or, add-one}
use Rattle.std.proofs.Math.Seq.{take-suc}
use Rattle.js_term.specs.Term.{Text, Term, more, append, all, one, maybe}
use Rattle.js_term.specs.Node.{identifier_of, string_of, member_of, call_of, boolean_of, object_of, array_of, await_of, method_of, return_of, const_of, statement_of, parenthesized_of, sequence_of, number_of}
use Rattle.small_tree.specs.TermOf.{expression_term, property_term, function_term, statement_term, declarator_term}
use Rattle.small_tree.specs.declared.id.Span.{Span}
use Rattle.small_tree.specs.declared.id.IdentifierReference.{IdentifierReference}
use Rattle.small_tree.specs.declared.id.IdentifierName.{IdentifierName}
use Rattle.small_tree.specs.declared.expression.StaticMemberExpression.{StaticMemberExpression}
use Rattle.small_tree.specs.declared.expression.BooleanLiteral.{BooleanLiteral}
use Rattle.small_tree.specs.declared.expression.StringLiteral.{StringLiteral}
use Rattle.small_tree.specs.declared.expression.NumericLiteral.{NumericLiteral}
use Rattle.small_tree.specs.declared.expression.CallExpression.{CallExpression}
use Rattle.small_tree.specs.declared.expression.ObjectProperty.{ObjectProperty}
use Rattle.small_tree.specs.declared.expression.Expression.{Expression}
use Rattle.small_tree.specs.declared.expression.Expression.TheVariants as expression
use Rattle.small_tree.specs.declared.id.BindingIdentifier.{BindingIdentifier}
use Rattle.small_tree.specs.declared.function.BindingPattern.TheVariants as binding_pattern
use Rattle.small_tree.specs.declared.function.FunctionKind.TheVariants as function_kind
use Rattle.small_tree.specs.declared.function.Function.{Function}
use Rattle.small_tree.specs.declared.statement.VariableDeclaration.{VariableDeclaration}
use Rattle.small_tree.specs.declared.statement.VariableDeclarationKind.TheVariants as variable_kind
use Rattle.small_tree.specs.declared.statement.Statement.{Statement}
use Rattle.small_tree.specs.declared.statement.Statement.TheVariants as statement
use Rattle.small_tree.specs.declared.statement.VariableDeclarator.{VariableDeclarator}
use Rattle.prepare_core.specs.Carried.{function_with, declarator_with, call_with, member_with}
use Rattle.std.specs.Prelude.{option_map}
use Rattle.small_tree.proofs.Levels.{e_ParenthesizedExpression, e_ArrayExpression, e_AwaitExpression, e_FunctionExpression, s_ReturnStatement, s_ExpressionStatement, s_VariableDeclaration, function_parts, declarator_parts, e_BooleanLiteral, e_NumericLiteral, e_StringLiteral, e_Identifier, e_CallExpression, e_ObjectExpression, e_SequenceExpression, e_StaticMemberExpression}
use Rattle.module_model.specs.Shape.{strings}

pub identifier_made : (n : IdentifierReference) → expression_term (expression.Identifier n) ≡ identifier_of n.name
identifier_made n = e_Identifier n

pub string_made : (n : StringLiteral) → expression_term (expression.StringLiteral n) ≡ string_of n.value
string_made n = e_StringLiteral n

pub true_made : (n : BooleanLiteral) → expression_term (expression.BooleanLiteral n) ≡ boolean_of n.value
true_made n = e_BooleanLiteral n

pub member_made : (span : Span) (object : Expression) (key : Text) → expression_term (expression.StaticMemberExpression (record { span = span; object = object; property = record { span = span; name = key }; optional = false })) ≡ member_of (expression_term object) key
member_made span object key = e_StaticMemberExpression (record { span = span; object = object; property = record { span = span; name = key }; optional = false })

pub call_made : (span : Span) (callee : Expression) (arguments : List Expression) → expression_term (expression.CallExpression (record { span = span; callee = callee; arguments = arguments; optional = false })) ≡ call_of (expression_term callee) (all (map expression_term arguments))
call_made span callee arguments = e_CallExpression (record { span = span; callee = callee; arguments = arguments; optional = false })

pub object_made : (span : Span) (properties : List (ObjectProperty Expression)) → expression_term (expression.ObjectExpression (record { span = span; properties = properties })) ≡ object_of (all (map (property_term expression_term) properties))
object_made span properties = e_ObjectExpression (record { span = span; properties = properties })

pub number_made : (n : NumericLiteral) → expression_term (expression.NumericLiteral n) ≡ number_of n.raw
number_made n = e_NumericLiteral n

pub function_made : (n m : Function) → m.kind ≡ n.kind → m.id ≡ n.id → m.is_async ≡ n.is_async → m.is_generator ≡ n.is_generator → m.params.items ≡ n.params.items → m.body.directives ≡ n.body.directives → function_term m ≡ function_with n (all (map statement_term m.body.statements))
function_made n m k i a g p d = rw (function_parts m, k, i, a, g, p, d) refl

pub declarator_made : (n m : VariableDeclarator) → m.id ≡ n.id → declarator_term m ≡ declarator_with n (maybe (option_map expression_term m.init))
declarator_made n m i = rw (declarator_parts m, i) refl

pub method_made : (m : Function) (s : Statement) (t : Term) → m.kind ≡ function_kind.FunctionExpression → m.id ≡ None → m.is_async ≡ false → m.is_generator ≡ false → m.params.items ≡ [] → m.body.directives ≡ [] → m.body.statements ≡ s ∷ [] → statement_term s ≡ t → function_term m ≡ method_of [] (one t)
method_made m s t k i a g p d e h = rw (function_parts m, k, i, a, g, p, d, e, h) refl

pub value_made : (n : Function) → expression_term (expression.FunctionExpression n) ≡ function_term n
value_made = e_FunctionExpression

pub effect_made : (span : Span) (e : Expression) → statement_term (statement.ExpressionStatement (record { span = span; expression = e })) ≡ statement_of (expression_term e)
effect_made span e = s_ExpressionStatement (record { span = span; expression = e })

pub array_made : (span : Span) (elements : List Expression) → expression_term (expression.ArrayExpression (record { span = span; elements = elements })) ≡ array_of (all (map expression_term elements))
array_made span elements = e_ArrayExpression (record { span = span; elements = elements })

pub await_made : (span : Span) (e : Expression) → expression_term (expression.AwaitExpression (record { span = span; argument = e })) ≡ await_of (expression_term e)
await_made span e = e_AwaitExpression (record { span = span; argument = e })

strings_append : (xs : List Text) (x : Text) → strings (xs ++ x ∷ []) ≡ append (strings xs) (one (string_of x))
strings_append [] x = refl
strings_append (y ∷ xs) x = ap (more (string_of y)) (strings_append xs x)

pub all_append : {A : Type 0} (f : A → Term) (xs : List A) (x : A) → all (map f (xs ++ x ∷ [])) ≡ append (all (map f xs)) (one (f x))
all_append f [] x = refl
all_append f (y ∷ xs) x = ap (more (f y)) (all_append f xs x)

pub strings_more : (names : List Text) (es : List Expression) (e : Expression) (i : ℕ) (d : Text) → all (map expression_term es) ≡ strings (take i names) → i < length names → expression_term e ≡ string_of (get_or names i d) → all (map expression_term (es ++ e ∷ [])) ≡ strings (take (i + 1) names)
strings_more names es e i d p h q = rw (add-one, take-suc names i d h, strings_append (take i names) (get_or names i d), all_append expression_term es e, p, q) refl

pub const_made : (n : VariableDeclaration VariableDeclarator) (m : VariableDeclarator) (b : BindingIdentifier) (value : Expression) → n.kind ≡ variable_kind.Const → n.declarations ≡ m ∷ [] → m.id ≡ binding_pattern.BindingIdentifier b → m.init ≡ Some value → statement_term (statement.VariableDeclaration n) ≡ const_of b.name (expression_term value)
const_made n m b value k d i e = rw (s_VariableDeclaration n, k, d) (rw (declarator_parts m, i, e) refl)

-- nodes with other parts

pub parenthesized_made : (span : Span) (e : Expression) → expression_term (expression.ParenthesizedExpression (record { span = span; expression = e })) ≡ parenthesized_of (expression_term e)
parenthesized_made span e = e_ParenthesizedExpression (record { span = span; expression = e })

pub sequence_made : (span : Span) (es : List Expression) → expression_term (expression.SequenceExpression (record { span = span; expressions = es })) ≡ sequence_of (all (map expression_term es))
sequence_made span es = e_SequenceExpression (record { span = span; expressions = es })

pub call_rebuilt : (n : CallExpression Expression) (callee : Expression) (es : List Expression) → expression_term (expression.CallExpression (record { span = n.span; callee = callee; arguments = es; optional = n.optional })) ≡ call_with n (expression_term callee) (all (map expression_term es))
call_rebuilt n callee es = e_CallExpression (record { span = n.span; callee = callee; arguments = es; optional = n.optional })

pub member_rebuilt : (n : StaticMemberExpression Expression) (object : Expression) (property : IdentifierName) → property.name ≡ n.property.name → expression_term (expression.StaticMemberExpression (record { span = n.span; object = object; property = property; optional = n.optional })) ≡ member_with n (expression_term object)
member_rebuilt n object property p = e_StaticMemberExpression (record { span = n.span; object = object; property = property; optional = n.optional }) ∙ rw p refl

pub return_made : (span : Span) (e : Option Expression) → statement_term (statement.ReturnStatement (record { span = span; argument = e })) ≡ return_of (maybe (option_map expression_term e))
return_made span e = s_ReturnStatement (record { span = span; argument = e })
