-- The term of a tree by its first level: one equation for each variant and each struct, so that nobody above names a
-- generated fold.
use Rattle.std.proofs.Common.{◌≡◌, refl, sym, subst, ap, ◌∙◌, List, [], ◌∷◌, Option, None, Some, map, codes}
use Rattle.std.specs.Prelude.{option_map}
use Rattle.js_term.specs.Term.{Text, Term, list, node, Terms, more, one, two, all, maybe, flag}
use Rattle.js_term.specs.declared.kind.Kind.{Kind}
use Rattle.js_term.specs.declared.kind.Kind.TheVariants as Kind
use Rattle.small_tree.specs.TermOf.{itself, reference_term, binding_term, string_term, number_term, boolean_term, pattern_term, parameters_term, import_term, variable_word, call_term, member_term, sequence_term, await_term, array_term, property_term, object_term, parenthesized_term, body_term, variables_term, return_term, effect_term, export_term, function_word, expression_level, declaration_level, statement_level, function_level, declarator_level, expression_step, declaration_step, statement_step, function_step, declarator_step, expression_term, declaration_term, statement_term, function_term, declarator_term}
use Rattle.small_tree.specs.declared.id.Span.{Span}
use Rattle.small_tree.specs.declared.id.IdentifierReference.{IdentifierReference}
use Rattle.small_tree.specs.declared.expression.BooleanLiteral.{BooleanLiteral}
use Rattle.small_tree.specs.declared.expression.NumericLiteral.{NumericLiteral}
use Rattle.small_tree.specs.declared.expression.StringLiteral.{StringLiteral}
use Rattle.small_tree.specs.declared.expression.CallExpression.{CallExpression}
use Rattle.small_tree.specs.declared.expression.StaticMemberExpression.{StaticMemberExpression}
use Rattle.small_tree.specs.declared.expression.SequenceExpression.{SequenceExpression}
use Rattle.small_tree.specs.declared.expression.AwaitExpression.{AwaitExpression}
use Rattle.small_tree.specs.declared.expression.ArrayExpression.{ArrayExpression}
use Rattle.small_tree.specs.declared.expression.ObjectProperty.{ObjectProperty}
use Rattle.small_tree.specs.declared.expression.ObjectExpression.{ObjectExpression}
use Rattle.small_tree.specs.declared.expression.ParenthesizedExpression.{ParenthesizedExpression}
use Rattle.small_tree.specs.declared.statement.ExpressionStatement.{ExpressionStatement}
use Rattle.small_tree.specs.declared.statement.ReturnStatement.{ReturnStatement}
use Rattle.small_tree.specs.declared.statement.VariableDeclaration.{VariableDeclaration}
use Rattle.small_tree.specs.declared.module.ImportDeclaration.{ImportDeclaration}
use Rattle.small_tree.specs.declared.module.ExportDeclaration.{ExportDeclaration}
use Rattle.small_tree.specs.declared.expression.Expression.{Expression, Expression-F, out-Expression, map-Expression, fold_out-Expression}
use Rattle.small_tree.specs.declared.module.Declaration.{Declaration, Declaration-F, out-Declaration, map-Declaration, fold_out-Declaration}
use Rattle.small_tree.specs.declared.statement.Statement.{Statement, Statement-F, out-Statement, map-Statement, fold_out-Statement}
use Rattle.small_tree.specs.declared.function.Function.{Function, Function-F, out-Function, map-Function, fold_out-Function}
use Rattle.small_tree.specs.declared.statement.VariableDeclarator.{VariableDeclarator, VariableDeclarator-F, out-VariableDeclarator, map-VariableDeclarator, fold_out-VariableDeclarator}
use Rattle.small_tree.specs.declared.expression.Expression.TheVariants as expression
use Rattle.small_tree.specs.declared.module.Declaration.TheVariants as declaration
use Rattle.small_tree.specs.declared.statement.Statement.TheVariants as statement

map_itself : (ts : List Term) → map itself ts ≡ ts
map_itself [] = refl
map_itself (t ∷ ts) = ap (λ us. t ∷ us) (map_itself ts)

map_seen : {A B : Type 0} (g : A → B) (h : B → Term) (k : A → Term) → ((a : A) → h (g a) ≡ k a) → (xs : List A) → map h (map g xs) ≡ map k xs
map_seen g h k same [] = refl
map_seen g h k same (x ∷ xs) = rw (same x, map_seen g h k same xs) refl

abbrev shown : ObjectProperty Expression → ObjectProperty Term
shown p = record { span = p.span; kind = p.kind; key = p.key; value = expression_term p.value; method = p.method; shorthand = p.shorthand; computed = p.computed }

expression_seen : (x : Expression-F Expression Declaration Statement Function VariableDeclarator) → expression_step (map-Expression Expression Declaration Statement Function VariableDeclarator Term Term Term Term Term expression_term declaration_term statement_term function_term declarator_term x) ≡ expression_level expression_term declaration_term statement_term function_term declarator_term x
expression_seen (Expression-F.BooleanLiteral n) = refl
expression_seen (Expression-F.NumericLiteral n) = refl
expression_seen (Expression-F.StringLiteral n) = refl
expression_seen (Expression-F.Identifier n) = refl
expression_seen (Expression-F.ArrayExpression n) = rw (map_itself (map expression_term n.elements)) refl
expression_seen (Expression-F.AwaitExpression n) = refl
expression_seen (Expression-F.CallExpression n) = rw (map_itself (map expression_term n.arguments)) refl
expression_seen (Expression-F.FunctionExpression n) = refl
expression_seen (Expression-F.ObjectExpression n) = ap (λ ts. node Kind.ObjectExpression [] (one (list (all ts)))) (map_seen shown (property_term itself) (property_term expression_term) (λ p. refl) n.properties)
expression_seen (Expression-F.ParenthesizedExpression n) = refl
expression_seen (Expression-F.SequenceExpression n) = rw (map_itself (map expression_term n.expressions)) refl
expression_seen (Expression-F.StaticMemberExpression n) = refl

variables_seen : (n : VariableDeclaration VariableDeclarator) → node Kind.VariableDeclaration (variable_word n.kind ∷ []) (one (list (all (map itself (map declarator_term n.declarations))))) ≡ variables_term declarator_term n
variables_seen n = rw (map_itself (map declarator_term n.declarations)) refl

declaration_seen : (x : Declaration-F Expression Declaration Statement Function VariableDeclarator) → declaration_step (map-Declaration Expression Declaration Statement Function VariableDeclarator Term Term Term Term Term expression_term declaration_term statement_term function_term declarator_term x) ≡ declaration_level expression_term declaration_term statement_term function_term declarator_term x
declaration_seen (Declaration-F.Declaration::VariableDeclaration n) = variables_seen n
declaration_seen (Declaration-F.Declaration::FunctionDeclaration n) = refl

return_seen : (span : Span) (argument : Option Expression) → statement_step (map-Statement Expression Declaration Statement Function VariableDeclarator Term Term Term Term Term expression_term declaration_term statement_term function_term declarator_term (Statement-F.ReturnStatement (record { span = span; argument = argument }))) ≡ return_term expression_term (record { span = span; argument = argument })
return_seen span None = refl
return_seen span (Some e) = refl

statement_seen : (x : Statement-F Expression Declaration Statement Function VariableDeclarator) → statement_step (map-Statement Expression Declaration Statement Function VariableDeclarator Term Term Term Term Term expression_term declaration_term statement_term function_term declarator_term x) ≡ statement_level expression_term declaration_term statement_term function_term declarator_term x
statement_seen (Statement-F.ExpressionStatement n) = refl
statement_seen (Statement-F.ReturnStatement n) = return_seen n.span n.argument
statement_seen (Statement-F.Statement::VariableDeclaration n) = variables_seen n
statement_seen (Statement-F.Statement::FunctionDeclaration n) = refl
statement_seen (Statement-F.ImportDeclaration n) = refl
statement_seen (Statement-F.ExportDeclaration n) = refl

function_seen : (x : Function-F Expression Declaration Statement Function VariableDeclarator) → function_step (map-Function Expression Declaration Statement Function VariableDeclarator Term Term Term Term Term expression_term declaration_term statement_term function_term declarator_term x) ≡ function_level expression_term declaration_term statement_term function_term declarator_term x
function_seen x = rw (map_itself (map statement_term x.body.statements)) refl

declarator_seen_by : (x : VariableDeclarator-F Expression Declaration Statement Function VariableDeclarator) (init : Option Expression) → x.init ≡ init → declarator_step (map-VariableDeclarator Expression Declaration Statement Function VariableDeclarator Term Term Term Term Term expression_term declaration_term statement_term function_term declarator_term x) ≡ declarator_level expression_term declaration_term statement_term function_term declarator_term x
declarator_seen_by x None e = rw e refl
declarator_seen_by x (Some i) e = rw e refl

declarator_seen : (x : VariableDeclarator-F Expression Declaration Statement Function VariableDeclarator) → declarator_step (map-VariableDeclarator Expression Declaration Statement Function VariableDeclarator Term Term Term Term Term expression_term declaration_term statement_term function_term declarator_term x) ≡ declarator_level expression_term declaration_term statement_term function_term declarator_term x
declarator_seen x = declarator_seen_by x x.init refl

expression_out : (x : Expression) → expression_term x ≡ expression_level expression_term declaration_term statement_term function_term declarator_term (out-Expression x)
expression_out x = fold_out-Expression Term Term Term Term Term expression_step declaration_step statement_step function_step declarator_step x ∙ expression_seen (out-Expression x)

declaration_out : (x : Declaration) → declaration_term x ≡ declaration_level expression_term declaration_term statement_term function_term declarator_term (out-Declaration x)
declaration_out x = fold_out-Declaration Term Term Term Term Term expression_step declaration_step statement_step function_step declarator_step x ∙ declaration_seen (out-Declaration x)

statement_out : (x : Statement) → statement_term x ≡ statement_level expression_term declaration_term statement_term function_term declarator_term (out-Statement x)
statement_out x = fold_out-Statement Term Term Term Term Term expression_step declaration_step statement_step function_step declarator_step x ∙ statement_seen (out-Statement x)

function_out : (x : Function) → function_term x ≡ function_level expression_term declaration_term statement_term function_term declarator_term (out-Function x)
function_out x = fold_out-Function Term Term Term Term Term expression_step declaration_step statement_step function_step declarator_step x ∙ function_seen (out-Function x)

declarator_out : (x : VariableDeclarator) → declarator_term x ≡ declarator_level expression_term declaration_term statement_term function_term declarator_term (out-VariableDeclarator x)
declarator_out x = fold_out-VariableDeclarator Term Term Term Term Term expression_step declaration_step statement_step function_step declarator_step x ∙ declarator_seen (out-VariableDeclarator x)

-- the term of each variant

pub e_BooleanLiteral : (n : BooleanLiteral) → expression_term (expression.BooleanLiteral n) ≡ boolean_term n
e_BooleanLiteral n = expression_out (expression.BooleanLiteral n) ∙ ap (expression_level expression_term declaration_term statement_term function_term declarator_term) (expression.outs-BooleanLiteral n)

pub e_NumericLiteral : (n : NumericLiteral) → expression_term (expression.NumericLiteral n) ≡ number_term n
e_NumericLiteral n = expression_out (expression.NumericLiteral n) ∙ ap (expression_level expression_term declaration_term statement_term function_term declarator_term) (expression.outs-NumericLiteral n)

pub e_StringLiteral : (n : StringLiteral) → expression_term (expression.StringLiteral n) ≡ string_term n
e_StringLiteral n = expression_out (expression.StringLiteral n) ∙ ap (expression_level expression_term declaration_term statement_term function_term declarator_term) (expression.outs-StringLiteral n)

pub e_Identifier : (n : IdentifierReference) → expression_term (expression.Identifier n) ≡ reference_term n
e_Identifier n = expression_out (expression.Identifier n) ∙ ap (expression_level expression_term declaration_term statement_term function_term declarator_term) (expression.outs-Identifier n)

pub e_ArrayExpression : (n : ArrayExpression Expression) → expression_term (expression.ArrayExpression n) ≡ array_term expression_term n
e_ArrayExpression n = expression_out (expression.ArrayExpression n) ∙ ap (expression_level expression_term declaration_term statement_term function_term declarator_term) (expression.outs-ArrayExpression n)

pub e_AwaitExpression : (n : AwaitExpression Expression) → expression_term (expression.AwaitExpression n) ≡ await_term expression_term n
e_AwaitExpression n = expression_out (expression.AwaitExpression n) ∙ ap (expression_level expression_term declaration_term statement_term function_term declarator_term) (expression.outs-AwaitExpression n)

pub e_CallExpression : (n : CallExpression Expression) → expression_term (expression.CallExpression n) ≡ call_term expression_term n
e_CallExpression n = expression_out (expression.CallExpression n) ∙ ap (expression_level expression_term declaration_term statement_term function_term declarator_term) (expression.outs-CallExpression n)

pub e_FunctionExpression : (n : Function) → expression_term (expression.FunctionExpression n) ≡ function_term n
e_FunctionExpression n = expression_out (expression.FunctionExpression n) ∙ ap (expression_level expression_term declaration_term statement_term function_term declarator_term) (expression.outs-FunctionExpression n)

pub e_ObjectExpression : (n : ObjectExpression Expression) → expression_term (expression.ObjectExpression n) ≡ object_term expression_term n
e_ObjectExpression n = expression_out (expression.ObjectExpression n) ∙ ap (expression_level expression_term declaration_term statement_term function_term declarator_term) (expression.outs-ObjectExpression n)

pub e_ParenthesizedExpression : (n : ParenthesizedExpression Expression) → expression_term (expression.ParenthesizedExpression n) ≡ parenthesized_term expression_term n
e_ParenthesizedExpression n = expression_out (expression.ParenthesizedExpression n) ∙ ap (expression_level expression_term declaration_term statement_term function_term declarator_term) (expression.outs-ParenthesizedExpression n)

pub e_SequenceExpression : (n : SequenceExpression Expression) → expression_term (expression.SequenceExpression n) ≡ sequence_term expression_term n
e_SequenceExpression n = expression_out (expression.SequenceExpression n) ∙ ap (expression_level expression_term declaration_term statement_term function_term declarator_term) (expression.outs-SequenceExpression n)

pub e_StaticMemberExpression : (n : StaticMemberExpression Expression) → expression_term (expression.StaticMemberExpression n) ≡ member_term expression_term n
e_StaticMemberExpression n = expression_out (expression.StaticMemberExpression n) ∙ ap (expression_level expression_term declaration_term statement_term function_term declarator_term) (expression.outs-StaticMemberExpression n)

pub d_VariableDeclaration : (n : VariableDeclaration VariableDeclarator) → declaration_term (declaration.VariableDeclaration n) ≡ variables_term declarator_term n
d_VariableDeclaration n = declaration_out (declaration.VariableDeclaration n) ∙ ap (declaration_level expression_term declaration_term statement_term function_term declarator_term) (declaration.outs-VariableDeclaration n)

pub d_FunctionDeclaration : (n : Function) → declaration_term (declaration.FunctionDeclaration n) ≡ function_term n
d_FunctionDeclaration n = declaration_out (declaration.FunctionDeclaration n) ∙ ap (declaration_level expression_term declaration_term statement_term function_term declarator_term) (declaration.outs-FunctionDeclaration n)

pub s_ExpressionStatement : (n : ExpressionStatement Expression) → statement_term (statement.ExpressionStatement n) ≡ effect_term expression_term n
s_ExpressionStatement n = statement_out (statement.ExpressionStatement n) ∙ ap (statement_level expression_term declaration_term statement_term function_term declarator_term) (statement.outs-ExpressionStatement n)

pub s_ReturnStatement : (n : ReturnStatement Expression) → statement_term (statement.ReturnStatement n) ≡ return_term expression_term n
s_ReturnStatement n = statement_out (statement.ReturnStatement n) ∙ ap (statement_level expression_term declaration_term statement_term function_term declarator_term) (statement.outs-ReturnStatement n)

pub s_VariableDeclaration : (n : VariableDeclaration VariableDeclarator) → statement_term (statement.VariableDeclaration n) ≡ variables_term declarator_term n
s_VariableDeclaration n = statement_out (statement.VariableDeclaration n) ∙ ap (statement_level expression_term declaration_term statement_term function_term declarator_term) (statement.outs-VariableDeclaration n)

pub s_FunctionDeclaration : (n : Function) → statement_term (statement.FunctionDeclaration n) ≡ function_term n
s_FunctionDeclaration n = statement_out (statement.FunctionDeclaration n) ∙ ap (statement_level expression_term declaration_term statement_term function_term declarator_term) (statement.outs-FunctionDeclaration n)

pub s_ImportDeclaration : (n : ImportDeclaration) → statement_term (statement.ImportDeclaration n) ≡ import_term n
s_ImportDeclaration n = statement_out (statement.ImportDeclaration n) ∙ ap (statement_level expression_term declaration_term statement_term function_term declarator_term) (statement.outs-ImportDeclaration n)

pub s_ExportDeclaration : (n : ExportDeclaration Declaration) → statement_term (statement.ExportDeclaration n) ≡ export_term declaration_term n
s_ExportDeclaration n = statement_out (statement.ExportDeclaration n) ∙ ap (statement_level expression_term declaration_term statement_term function_term declarator_term) (statement.outs-ExportDeclaration n)

pub function_parts : (n : Function) → function_term n ≡ node (function_word n.kind) (flag n.is_async (codes "async") ∷ flag n.is_generator (codes "*") ∷ []) (more (maybe (option_map binding_term n.id)) (two (parameters_term n.params) (body_term statement_term n.body)))
function_parts n = function_out n

pub declarator_parts : (n : VariableDeclarator) → declarator_term n ≡ node Kind.VariableDeclarator [] (two (pattern_term n.id) (maybe (option_map expression_term n.init)))
declarator_parts n = declarator_out n

-- every tree is a node: what holds of nodes holds of its term

function_node : (C : Term → Type 0) → ((k : Kind) (texts : List Text) (ts : Terms) → C (node k texts ts)) → (n : Function) → C (function_term n)
function_node C f n = subst C (sym (function_parts n)) (f (function_word n.kind) (flag n.is_async (codes "async") ∷ flag n.is_generator (codes "*") ∷ []) (more (maybe (option_map binding_term n.id)) (two (parameters_term n.params) (body_term statement_term n.body))))

expression_by : (C : Term → Type 0) → ((k : Kind) (texts : List Text) (ts : Terms) → C (node k texts ts)) → (x : Expression-F Expression Declaration Statement Function VariableDeclarator) → C (expression_level expression_term declaration_term statement_term function_term declarator_term x)
expression_by C f (Expression-F.BooleanLiteral n) = f _ _ _
expression_by C f (Expression-F.NumericLiteral n) = f _ _ _
expression_by C f (Expression-F.StringLiteral n) = f _ _ _
expression_by C f (Expression-F.Identifier n) = f _ _ _
expression_by C f (Expression-F.ArrayExpression n) = f _ _ _
expression_by C f (Expression-F.AwaitExpression n) = f _ _ _
expression_by C f (Expression-F.CallExpression n) = f _ _ _
expression_by C f (Expression-F.FunctionExpression n) = function_node C f n
expression_by C f (Expression-F.ObjectExpression n) = f _ _ _
expression_by C f (Expression-F.ParenthesizedExpression n) = f _ _ _
expression_by C f (Expression-F.SequenceExpression n) = f _ _ _
expression_by C f (Expression-F.StaticMemberExpression n) = f _ _ _

pub expression_node : (C : Term → Type 0) → ((k : Kind) (texts : List Text) (ts : Terms) → C (node k texts ts)) → (e : Expression) → C (expression_term e)
expression_node C f e = subst C (sym (expression_out e)) (expression_by C f (out-Expression e))

statement_by : (C : Term → Type 0) → ((k : Kind) (texts : List Text) (ts : Terms) → C (node k texts ts)) → (x : Statement-F Expression Declaration Statement Function VariableDeclarator) → C (statement_level expression_term declaration_term statement_term function_term declarator_term x)
statement_by C f (Statement-F.ExpressionStatement n) = f _ _ _
statement_by C f (Statement-F.ReturnStatement n) = f _ _ _
statement_by C f (Statement-F.Statement::VariableDeclaration n) = f _ _ _
statement_by C f (Statement-F.Statement::FunctionDeclaration n) = function_node C f n
statement_by C f (Statement-F.ImportDeclaration n) = f _ _ _
statement_by C f (Statement-F.ExportDeclaration n) = f _ _ _

pub statement_node : (C : Term → Type 0) → ((k : Kind) (texts : List Text) (ts : Terms) → C (node k texts ts)) → (s : Statement) → C (statement_term s)
statement_node C f s = subst C (sym (statement_out s)) (statement_by C f (out-Statement s))

declaration_by : (C : Term → Type 0) → ((k : Kind) (texts : List Text) (ts : Terms) → C (node k texts ts)) → (x : Declaration-F Expression Declaration Statement Function VariableDeclarator) → C (declaration_level expression_term declaration_term statement_term function_term declarator_term x)
declaration_by C f (Declaration-F.Declaration::VariableDeclaration n) = f _ _ _
declaration_by C f (Declaration-F.Declaration::FunctionDeclaration n) = function_node C f n

pub declaration_node : (C : Term → Type 0) → ((k : Kind) (texts : List Text) (ts : Terms) → C (node k texts ts)) → (d : Declaration) → C (declaration_term d)
declaration_node C f d = subst C (sym (declaration_out d)) (declaration_by C f (out-Declaration d))
