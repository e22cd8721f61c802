-- The term of each node: its kind, its texts and its kids, in the order of the node's fields.
use Rattle.std.specs.Prelude.{List, [], ◌∷◌, Option, None, Some, option_map, map, Bool, true, false, codes}
use Rattle.js_term.specs.Term.{Text, is_text, Term, absent, list, node, none, more, one, two, all, maybe, flag}
use Rattle.js_term.specs.declared.kind.Kind.{Kind}
use Rattle.js_term.specs.declared.kind.Kind.TheVariants as Kind
use Rattle.js_term.specs.Node.{truth}
use Rattle.small_tree.specs.declared.id.IdentifierName.{IdentifierName}
use Rattle.small_tree.specs.declared.id.IdentifierReference.{IdentifierReference}
use Rattle.small_tree.specs.declared.id.BindingIdentifier.{BindingIdentifier}
use Rattle.small_tree.specs.declared.expression.BooleanLiteral.{BooleanLiteral}
use Rattle.small_tree.specs.declared.expression.NumericLiteral.{NumericLiteral}
use Rattle.small_tree.specs.declared.expression.StringLiteral.{StringLiteral}
use Rattle.small_tree.specs.declared.expression.CallExpression.{CallExpression}
use Rattle.small_tree.specs.declared.expression.StaticMemberExpression.{StaticMemberExpression}
use Rattle.small_tree.specs.declared.expression.SequenceExpression.{SequenceExpression}
use Rattle.small_tree.specs.declared.expression.AwaitExpression.{AwaitExpression}
use Rattle.small_tree.specs.declared.expression.ArrayExpression.{ArrayExpression}
use Rattle.small_tree.specs.declared.expression.ObjectProperty.{ObjectProperty}
use Rattle.small_tree.specs.declared.expression.ObjectExpression.{ObjectExpression}
use Rattle.small_tree.specs.declared.expression.ParenthesizedExpression.{ParenthesizedExpression}
use Rattle.small_tree.specs.declared.expression.PropertyKind.{PropertyKind}
use Rattle.small_tree.specs.declared.function.Directive.{Directive}
use Rattle.small_tree.specs.declared.function.FunctionBody.{FunctionBody}
use Rattle.small_tree.specs.declared.function.BindingPattern.{BindingPattern}
use Rattle.small_tree.specs.declared.function.FormalParameter.{FormalParameter}
use Rattle.small_tree.specs.declared.function.FormalParameters.{FormalParameters}
use Rattle.small_tree.specs.declared.function.FunctionKind.{FunctionKind}
use Rattle.small_tree.specs.declared.statement.ExpressionStatement.{ExpressionStatement}
use Rattle.small_tree.specs.declared.statement.ReturnStatement.{ReturnStatement}
use Rattle.small_tree.specs.declared.statement.VariableDeclarationKind.{VariableDeclarationKind}
use Rattle.small_tree.specs.declared.statement.VariableDeclaration.{VariableDeclaration}
use Rattle.small_tree.specs.declared.module.ModuleExportName.{ModuleExportName}
use Rattle.small_tree.specs.declared.module.ImportSpecifier.{ImportSpecifier}
use Rattle.small_tree.specs.declared.module.ImportDeclaration.{ImportDeclaration}
use Rattle.small_tree.specs.declared.module.ExportDeclaration.{ExportDeclaration}
use Rattle.small_tree.specs.declared.module.Program.{Program}
use Rattle.small_tree.specs.declared.expression.PropertyKind.TheVariants as property_kind
use Rattle.small_tree.specs.declared.function.BindingPattern.TheVariants as binding_pattern
use Rattle.small_tree.specs.declared.function.FunctionKind.TheVariants as function_kind
use Rattle.small_tree.specs.declared.statement.VariableDeclarationKind.TheVariants as variable_kind
use Rattle.small_tree.specs.declared.module.ModuleExportName.TheVariants as export_name
use Rattle.small_tree.specs.declared.function.Function.{Function, Function-F, fold-Function}
use Rattle.small_tree.specs.declared.statement.VariableDeclarator.{VariableDeclarator, VariableDeclarator-F, fold-VariableDeclarator}
use Rattle.small_tree.specs.declared.expression.Expression.{Expression, Expression-F, fold-Expression}
use Rattle.small_tree.specs.declared.module.Declaration.{Declaration, Declaration-F, fold-Declaration}
use Rattle.small_tree.specs.declared.statement.Statement.{Statement, Statement-F, fold-Statement}

-- the leaves

abbrev pub name_term : IdentifierName → Term
name_term n = node Kind.IdentifierName (n.name ∷ []) none

abbrev pub reference_term : IdentifierReference → Term
reference_term n = node Kind.Identifier (n.name ∷ []) none

abbrev pub binding_term : BindingIdentifier → Term
binding_term n = node Kind.BindingIdentifier (n.name ∷ []) none

abbrev pub string_term : StringLiteral → Term
string_term n = node Kind.StringLiteral (n.value ∷ []) none

abbrev pub number_term : NumericLiteral → Term
number_term n = node Kind.NumericLiteral (n.raw ∷ []) none

abbrev pub boolean_term : BooleanLiteral → Term
boolean_term n = node Kind.BooleanLiteral (truth n.value ∷ []) none

abbrev pub directive_term : Directive → Term
directive_term n = node Kind.Directive (n.raw ∷ []) none

abbrev pub pattern_term : BindingPattern → Term
pattern_term (binding_pattern.BindingIdentifier n) = binding_term n

abbrev pub parameter_term : FormalParameter BindingPattern → Term
parameter_term n = node Kind.FormalParameter [] (two (pattern_term n.pattern) absent)

abbrev pub parameters_term : FormalParameters BindingPattern → Term
parameters_term n = node Kind.FormalParameters [] (two (list (all (map parameter_term n.items))) absent)

abbrev pub export_name_term : ModuleExportName → Term
export_name_term (export_name.IdentifierName n) = name_term n
export_name_term (export_name.IdentifierReference n) = reference_term n
export_name_term (export_name.StringLiteral n) = string_term n

abbrev pub specifier_term : ImportSpecifier → Term
specifier_term n = node Kind.ImportSpecifier [] (two (export_name_term n.imported) (binding_term n.local))

abbrev pub specifiers_term : List ImportSpecifier → Term
specifiers_term ns = list (all (map specifier_term ns))

abbrev pub import_term : ImportDeclaration → Term
import_term n = node Kind.ImportDeclaration [] (two (maybe (option_map specifiers_term n.specifiers)) (string_term n.source))

-- words among the texts

abbrev pub property_word : PropertyKind → Text
property_word property_kind.Init = codes "init"
property_word property_kind.Get = codes "get"
property_word property_kind.Set = codes "set"

abbrev pub variable_word : VariableDeclarationKind → Text
variable_word variable_kind.Var = codes "var"
variable_word variable_kind.Let = codes "let"
variable_word variable_kind.Const = codes "const"

abbrev pub function_word : FunctionKind → Kind
function_word function_kind.FunctionDeclaration = Kind.FunctionDeclaration
function_word function_kind.FunctionExpression = Kind.FunctionExpression

-- A mark of shorthand is seen as set only where the key and the value are one name.
abbrev pub is_reference_named : Kind → List Text → Text → Bool
is_reference_named Kind.Identifier (x ∷ []) key = is_text x key
is_reference_named k texts key = false

abbrev pub is_shorthand : Bool → Text → Term → Bool
is_shorthand true key (node k texts ts) = is_reference_named k texts key
is_shorthand b key t = false

-- one node, by what its parts are seen as
module _ {E : Type 0} (f : E → Term) where
  abbrev pub call_term : CallExpression E → Term
  call_term n = node Kind.CallExpression (flag n.optional (codes "?.") ∷ []) (two (f n.callee) (list (all (map f n.arguments))))

  abbrev pub member_term : StaticMemberExpression E → Term
  member_term n = node Kind.StaticMemberExpression (flag n.optional (codes "?.") ∷ []) (two (f n.object) (name_term n.property))

  abbrev pub sequence_term : SequenceExpression E → Term
  sequence_term n = node Kind.SequenceExpression [] (one (list (all (map f n.expressions))))

  abbrev pub await_term : AwaitExpression E → Term
  await_term n = node Kind.AwaitExpression [] (one (f n.argument))

  abbrev pub array_term : ArrayExpression E → Term
  array_term n = node Kind.ArrayExpression [] (one (list (all (map f n.elements))))

  abbrev pub property_texts : ObjectProperty E → Term → List Text
  property_texts n value = property_word n.kind ∷ flag n.method (codes "method") ∷ flag (is_shorthand n.shorthand n.key.name value) (codes "shorthand") ∷ flag n.computed (codes "computed") ∷ []

  abbrev pub property_term : ObjectProperty E → Term
  property_term n = node Kind.ObjectProperty (property_texts n (f n.value)) (two (name_term n.key) (f n.value))

  abbrev pub object_term : ObjectExpression E → Term
  object_term n = node Kind.ObjectExpression [] (one (list (all (map property_term n.properties))))

  abbrev pub parenthesized_term : ParenthesizedExpression E → Term
  parenthesized_term n = node Kind.ParenthesizedExpression [] (one (f n.expression))

  abbrev pub body_term : FunctionBody E → Term
  body_term n = node Kind.FunctionBody [] (two (list (all (map directive_term n.directives))) (list (all (map f n.statements))))

  abbrev pub variables_term : VariableDeclaration E → Term
  variables_term n = node Kind.VariableDeclaration (variable_word n.kind ∷ []) (one (list (all (map f n.declarations))))

  abbrev pub return_term : ReturnStatement E → Term
  return_term n = node Kind.ReturnStatement [] (one (maybe (option_map f n.argument)))

  abbrev pub effect_term : ExpressionStatement E → Term
  effect_term n = node Kind.ExpressionStatement [] (one (f n.expression))

  abbrev pub export_term : ExportDeclaration E → Term
  export_term n = node Kind.ExportDeclaration [] (one (f n.declaration))

-- one level of a tree, by what the levels below are seen as
module _ {E D S F V : Type 0} (e : E → Term) (d : D → Term) (s : S → Term) (f : F → Term) (v : V → Term) where
  abbrev pub expression_level : Expression-F E D S F V → Term
  expression_level (Expression-F.BooleanLiteral n) = boolean_term n
  expression_level (Expression-F.NumericLiteral n) = number_term n
  expression_level (Expression-F.StringLiteral n) = string_term n
  expression_level (Expression-F.Identifier n) = reference_term n
  expression_level (Expression-F.ArrayExpression n) = array_term e n
  expression_level (Expression-F.AwaitExpression n) = await_term e n
  expression_level (Expression-F.CallExpression n) = call_term e n
  expression_level (Expression-F.FunctionExpression n) = f n
  expression_level (Expression-F.ObjectExpression n) = object_term e n
  expression_level (Expression-F.ParenthesizedExpression n) = parenthesized_term e n
  expression_level (Expression-F.SequenceExpression n) = sequence_term e n
  expression_level (Expression-F.StaticMemberExpression n) = member_term e n

  abbrev pub declaration_level : Declaration-F E D S F V → Term
  declaration_level (Declaration-F.Declaration::VariableDeclaration n) = variables_term v n
  declaration_level (Declaration-F.Declaration::FunctionDeclaration n) = f n

  abbrev pub statement_level : Statement-F E D S F V → Term
  statement_level (Statement-F.ExpressionStatement n) = effect_term e n
  statement_level (Statement-F.ReturnStatement n) = return_term e n
  statement_level (Statement-F.Statement::VariableDeclaration n) = variables_term v n
  statement_level (Statement-F.Statement::FunctionDeclaration n) = f n
  statement_level (Statement-F.ImportDeclaration n) = import_term n
  statement_level (Statement-F.ExportDeclaration n) = export_term d n

  abbrev pub function_level : Function-F E D S F V → Term
  function_level n = node (function_word n.kind) (flag n.is_async (codes "async") ∷ flag n.is_generator (codes "*") ∷ []) (more (maybe (option_map binding_term n.id)) (two (parameters_term n.params) (body_term s n.body)))

  abbrev pub declarator_level : VariableDeclarator-F E D S F V → Term
  declarator_level n = node Kind.VariableDeclarator [] (two (pattern_term n.id) (maybe (option_map e n.init)))

-- whole trees: each level over the terms of the levels below

abbrev pub itself : Term → Term
itself t = t

abbrev pub expression_step : Expression-F Term Term Term Term Term → Term
expression_step = expression_level itself itself itself itself itself

abbrev pub declaration_step : Declaration-F Term Term Term Term Term → Term
declaration_step = declaration_level itself itself itself itself itself

abbrev pub statement_step : Statement-F Term Term Term Term Term → Term
statement_step = statement_level itself itself itself itself itself

abbrev pub function_step : Function-F Term Term Term Term Term → Term
function_step = function_level itself itself itself itself itself

abbrev pub declarator_step : VariableDeclarator-F Term Term Term Term Term → Term
declarator_step = declarator_level itself itself itself itself itself

abbrev pub expression_term : Expression → Term
expression_term = fold-Expression Term Term Term Term Term expression_step declaration_step statement_step function_step declarator_step

abbrev pub declaration_term : Declaration → Term
declaration_term = fold-Declaration Term Term Term Term Term expression_step declaration_step statement_step function_step declarator_step

abbrev pub statement_term : Statement → Term
statement_term = fold-Statement Term Term Term Term Term expression_step declaration_step statement_step function_step declarator_step

abbrev pub function_term : Function → Term
function_term = fold-Function Term Term Term Term Term expression_step declaration_step statement_step function_step declarator_step

abbrev pub declarator_term : VariableDeclarator → Term
declarator_term = fold-VariableDeclarator Term Term Term Term Term expression_step declaration_step statement_step function_step declarator_step

abbrev pub hashbang_texts : Option Text → List Text
hashbang_texts None = []
hashbang_texts (Some x) = x ∷ []

abbrev pub program_term : Program → Term
program_term n = node Kind.Program (hashbang_texts n.hashbang) (two (list (all (map directive_term n.directives))) (list (all (map statement_term n.body))))
