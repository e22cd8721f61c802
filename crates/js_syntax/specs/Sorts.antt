-- What the places of a tree ask for, and which kinds stand there.
use Rattle.std.specs.Prelude.{List, [], ◌∷◌, Bool, true, false, not, ◌&&◌, ◌||◌, nat_eq, nat_le, codes}
use Rattle.js_term.specs.Term.{Text, Terms}
use Rattle.js_term.specs.declared.kind.Kind.{Kind}
use Rattle.js_term.specs.Kinds.{is_kind, is_among}
use Rattle.js_syntax.specs.Parts.{count, is_set_at, first_is, text_at}
use Rattle.js_syntax.specs.Lexical.{has_sound_escapes}

pub data Sort : Type 0 where
  -- a node of this kind
  only : Kind → Sort
  -- an item of a module's own list, an import, an export or a statement (16.2); of any other list of statements
  module_item : Sort
  statement : Sort
  -- the statement of an `if`, a loop or a label
  body : Sort
  -- the first part of a plain `for`; what stands before `in` and `of`, and its declarator
  for_init : Sort
  for_left : Sort
  for_declarator : Sort
  -- imports and exports
  import_specifier : Sort
  export_from_specifier : Sort
  module_export_name : Sort
  local_export_name : Sort
  exported : Sort
  exported_default : Sort
  -- functions: the body of an arrow; the function of a method; that of a constructor, a getter or a setter
  arrow_body : Sort
  method : Sort
  plain_method : Sort
  -- classes
  class_element : Sort
  class_key : Sort
  -- patterns, and those that are an element or a property's value; the rest of an object, which is a plain name
  pattern : Sort
  pattern_element : Sort
  object_rest : Sort
  -- targets likewise; the rest of an object is a simple one
  simple_target : Sort
  target : Sort
  target_element : Sort
  object_target_rest : Sort
  -- expressions
  expression : Sort
  -- the object of a member and what is called: an expression or `super`
  object : Sort
  -- an argument or an element
  argument : Sort
  property : Sort
  key : Sort
  chain_element : Sort
  -- a text of a template without a tag, and a template with one
  template_text : Sort
  tagged_template : Sort

-- A place for one part, for one or none, for none; for a list, for a list of one or more, of just one, of two or
-- more, of some with gaps between them, for a list or none. Nothing stands nowhere.
pub data Place : Type 0 where
  one : Sort → Place
  optional : Sort → Place
  nothing : Place
  many : Sort → Place
  some : Sort → Place
  single : Sort → Place
  several : Sort → Place
  spaced : Sort → Place
  optional_list : Sort → Place
  nowhere : Place

-- statements that are no declarations (ECMAScript 14), and `var` ones
abbrev pub plain_statements : List Kind
plain_statements = Kind.BlockStatement ∷ Kind.BreakStatement ∷ Kind.ContinueStatement ∷ Kind.DebuggerStatement ∷ Kind.DoWhileStatement ∷ Kind.EmptyStatement ∷ Kind.ExpressionStatement ∷ Kind.ForInStatement ∷ Kind.ForOfStatement ∷ Kind.ForStatement ∷ Kind.IfStatement ∷ Kind.LabeledStatement ∷ Kind.ReturnStatement ∷ Kind.SwitchStatement ∷ Kind.ThrowStatement ∷ Kind.TryStatement ∷ Kind.WhileStatement ∷ Kind.VariableDeclaration ∷ []

-- ImportDeclaration and ExportDeclaration (16.2.2, 16.2.3)
abbrev pub module_declarations : List Kind
module_declarations = Kind.ImportDeclaration ∷ Kind.ExportAllDeclaration ∷ Kind.ExportNamedDeclaration ∷ Kind.ExportFromDeclaration ∷ Kind.ExportDeclaration ∷ Kind.ExportDefaultDeclaration ∷ []

abbrev pub members : List Kind
members = Kind.StaticMemberExpression ∷ Kind.ComputedMemberExpression ∷ Kind.PrivateFieldExpression ∷ []

-- 13.2
abbrev pub literals : List Kind
literals = Kind.StringLiteral ∷ Kind.NumericLiteral ∷ Kind.BigIntLiteral ∷ Kind.BooleanLiteral ∷ Kind.NullLiteral ∷ Kind.RegExpLiteral ∷ Kind.TemplateLiteral ∷ []

abbrev pub primaries : List Kind
primaries = Kind.Identifier ∷ Kind.ThisExpression ∷ Kind.FunctionExpression ∷ Kind.ClassExpression ∷ Kind.ArrayExpression ∷ Kind.ObjectExpression ∷ Kind.ParenthesizedExpression ∷ Kind.ImportMeta ∷ Kind.NewTarget ∷ []

-- 13.3, beside the members
abbrev pub calls : List Kind
calls = Kind.CallExpression ∷ Kind.NewExpression ∷ Kind.ImportExpression ∷ Kind.TaggedTemplateExpression ∷ Kind.ChainExpression ∷ []

-- 13.4 to 13.16, 15.3, 15.5, 15.8
abbrev pub operations : List Kind
operations = Kind.UpdateExpression ∷ Kind.UnaryExpression ∷ Kind.AwaitExpression ∷ Kind.BinaryExpression ∷ Kind.PrivateInExpression ∷ Kind.LogicalExpression ∷ Kind.ConditionalExpression ∷ Kind.AssignmentExpression ∷ Kind.ArrowFunctionExpression ∷ Kind.YieldExpression ∷ Kind.SequenceExpression ∷ []

abbrev pub is_expression : Kind → Bool
is_expression k = is_among k members || is_among k calls || is_among k literals || is_among k primaries || is_among k operations

abbrev pub patterns : List Kind
patterns = Kind.BindingIdentifier ∷ Kind.ObjectPattern ∷ Kind.ArrayPattern ∷ []

abbrev pub is_simple_target : Kind → Bool
is_simple_target k = is_kind k Kind.Identifier || is_among k members

abbrev pub target_patterns : List Kind
target_patterns = Kind.ArrayAssignmentTarget ∷ Kind.ObjectAssignmentTarget ∷ []

abbrev pub is_target : Kind → Bool
is_target k = is_among k target_patterns || is_simple_target k

-- the keys of an object's properties that stand without brackets
abbrev pub plain_keys : List Kind
plain_keys = Kind.IdentifierName ∷ Kind.StringLiteral ∷ Kind.NumericLiteral ∷ Kind.BigIntLiteral ∷ []

-- functions and classes that are declared
abbrev pub named_declarations : List Kind
named_declarations = Kind.FunctionDeclaration ∷ Kind.ClassDeclaration ∷ []

-- StatementListItem (14.2)
abbrev pub is_statement : Kind → Bool
is_statement k = is_among k named_declarations || is_among k plain_statements

abbrev pub import_specifiers : List Kind
import_specifiers = Kind.ImportSpecifier ∷ Kind.ImportDefaultSpecifier ∷ Kind.ImportNamespaceSpecifier ∷ []

abbrev pub class_elements : List Kind
class_elements = Kind.StaticBlock ∷ Kind.MethodDefinition ∷ Kind.PropertyDefinition ∷ []

abbrev pub takes : Sort → Kind → Bool
takes (Sort.only j) k = is_kind k j
takes Sort.module_item k = is_among k module_declarations || is_statement k
takes Sort.statement k = is_statement k
takes Sort.body k = is_among k plain_statements
takes Sort.for_init k = is_kind k Kind.VariableDeclaration || is_expression k
takes Sort.for_left k = is_kind k Kind.VariableDeclaration || is_target k
takes Sort.for_declarator k = is_kind k Kind.VariableDeclarator
takes Sort.import_specifier k = is_among k import_specifiers
takes Sort.export_from_specifier k = is_kind k Kind.ExportSpecifier
takes Sort.module_export_name k = is_kind k Kind.IdentifierName || is_kind k Kind.StringLiteral
takes Sort.local_export_name k = is_kind k Kind.Identifier || is_kind k Kind.StringLiteral
takes Sort.exported k = is_kind k Kind.VariableDeclaration || is_among k named_declarations
takes Sort.exported_default k = is_among k named_declarations || is_expression k
takes Sort.arrow_body k = is_kind k Kind.FunctionBody || is_expression k
takes Sort.method k = is_kind k Kind.FunctionExpression
takes Sort.plain_method k = is_kind k Kind.FunctionExpression
takes Sort.class_element k = is_among k class_elements
takes Sort.class_key k = is_kind k Kind.PrivateIdentifier || is_among k plain_keys
takes Sort.pattern k = is_among k patterns
takes Sort.pattern_element k = is_kind k Kind.AssignmentPattern || is_among k patterns
takes Sort.object_rest k = is_kind k Kind.BindingRestElement
takes Sort.simple_target k = is_simple_target k
takes Sort.target k = is_target k
takes Sort.target_element k = is_kind k Kind.AssignmentTargetWithDefault || is_target k
takes Sort.object_target_rest k = is_kind k Kind.AssignmentTargetRest
takes Sort.expression k = is_expression k
takes Sort.object k = is_kind k Kind.Super || is_expression k
takes Sort.argument k = is_kind k Kind.SpreadElement || is_expression k
takes Sort.property k = is_kind k Kind.ObjectProperty || is_kind k Kind.SpreadElement
takes Sort.key k = is_among k plain_keys
takes Sort.chain_element k = is_kind k Kind.CallExpression || is_among k members
takes Sort.template_text k = is_kind k Kind.TemplateElement
takes Sort.tagged_template k = is_kind k Kind.TemplateLiteral

-- what the texts of a node have to be at a sort, beyond what its kind asks for
abbrev pub suits : Sort → Kind → List Text → Bool
suits Sort.body Kind.VariableDeclaration texts = first_is (codes "var") texts
suits Sort.plain_method Kind.FunctionExpression texts = not (is_set_at 0 texts) && not (is_set_at 1 texts)
suits Sort.template_text Kind.TemplateElement texts = has_sound_escapes (text_at 0 texts)
suits s k texts = true

abbrev pub stands : Sort → Kind → List Text → Bool
stands s k texts = takes s k && suits s k texts

abbrev pub takes_node : Place → Kind → List Text → Bool
takes_node (one s) k texts = stands s k texts
takes_node (optional s) k texts = stands s k texts
takes_node p k texts = false

abbrev pub takes_list : Place → Terms → Bool
takes_list (many s) ts = true
takes_list (some s) ts = nat_le 1 (count ts)
takes_list (single s) ts = nat_eq (count ts) 1
takes_list (several s) ts = nat_le 2 (count ts)
takes_list (spaced s) ts = true
takes_list (optional_list s) ts = true
takes_list p ts = false

abbrev pub takes_absent : Place → Bool
takes_absent (optional s) = true
takes_absent nothing = true
takes_absent (optional_list s) = true
takes_absent p = false

-- the place of each item of a list
abbrev pub item_place : Place → Place
item_place (many s) = one s
item_place (some s) = one s
item_place (single s) = one s
item_place (several s) = one s
item_place (spaced s) = optional s
item_place (optional_list s) = one s
item_place p = nowhere

-- what a place asks for; there is no list of lists
abbrev pub sort_of : Place → Sort → Sort
sort_of (one s) d = s
sort_of (optional s) d = s
sort_of p d = d
