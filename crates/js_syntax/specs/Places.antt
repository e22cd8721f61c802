-- The places of each kind's parts, in the order in which the parts stand in a text.
use Rattle.std.specs.Prelude.{ℕ, zero, suc, List, [], ◌∷◌, length, Bool, true, false, cond, nat_eq, codes}
use Rattle.js_term.specs.Term.{Text, Terms}
use Rattle.js_term.specs.declared.kind.Kind.{Kind}
use Rattle.js_syntax.specs.Parts.{first_is, is_set_at, count}
use Rattle.js_syntax.specs.Sorts.{Sort, Place, one, optional, nothing, many, some, single, several, spaced, optional_list, nowhere}

-- a key stands in brackets where the flag is set
abbrev pub key_place : Bool → Sort → Place
key_place true s = one Sort.expression
key_place false s = one s

-- a member of `super` and a call of `super` have no optional link
abbrev pub object_place : List Text → Place
object_place texts = cond (is_set_at 0 texts) (one Sort.expression) (one Sort.object)

-- FunctionDeclaration, FunctionExpression (15.2): a name, parameters and a body
abbrev pub function_places : Place → List Place
function_places name = name ∷ one (Sort.only Kind.FormalParameters) ∷ one (Sort.only Kind.FunctionBody) ∷ []

-- ClassTail (15.7): heritage and a body behind the name
abbrev pub class_places : Place → List Place
class_places name = name ∷ optional Sort.expression ∷ one (Sort.only Kind.ClassBody) ∷ []

abbrev pub method_place : Bool → Place
method_place true = one Sort.method
method_place false = one Sort.plain_method

-- PropertyDefinition of an object (13.2.5): a getter or setter, a method, or a value
abbrev pub value_place : List Text → Place
value_place texts = cond (first_is (codes "init") texts) (cond (is_set_at 1 texts) (one Sort.method) (one Sort.expression)) (one Sort.plain_method)

-- a pattern is assigned by `=` alone (13.15)
abbrev pub target_place : List Text → Place
target_place texts = cond (first_is (codes "=") texts) (one Sort.target) (one Sort.simple_target)

-- `yield*` has an argument (15.5)
abbrev pub yield_place : List Text → Place
yield_place texts = cond (is_set_at 0 texts) (one Sort.expression) (optional Sort.expression)

-- statements (ECMAScript 14), and no parts for any other kind
abbrev pub statement_places : Kind → List Text → List Place
statement_places Kind.BlockStatement texts = many Sort.statement ∷ []
statement_places Kind.BreakStatement texts = optional (Sort.only Kind.LabelIdentifier) ∷ []
statement_places Kind.ContinueStatement texts = optional (Sort.only Kind.LabelIdentifier) ∷ []
statement_places Kind.DoWhileStatement texts = one Sort.body ∷ one Sort.expression ∷ []
statement_places Kind.ExpressionStatement texts = one Sort.expression ∷ []
statement_places Kind.ForInStatement texts = one Sort.for_left ∷ one Sort.expression ∷ one Sort.body ∷ []
statement_places Kind.ForOfStatement texts = one Sort.for_left ∷ one Sort.expression ∷ one Sort.body ∷ []
statement_places Kind.ForStatement texts = optional Sort.for_init ∷ optional Sort.expression ∷ optional Sort.expression ∷ one Sort.body ∷ []
statement_places Kind.IfStatement texts = one Sort.expression ∷ one Sort.body ∷ optional Sort.body ∷ []
statement_places Kind.LabeledStatement texts = one (Sort.only Kind.LabelIdentifier) ∷ one Sort.body ∷ []
statement_places Kind.ReturnStatement texts = optional Sort.expression ∷ []
statement_places Kind.ThrowStatement texts = one Sort.expression ∷ []
statement_places Kind.SwitchStatement texts = one Sort.expression ∷ many (Sort.only Kind.SwitchCase) ∷ []
statement_places Kind.SwitchCase texts = optional Sort.expression ∷ many Sort.statement ∷ []
statement_places Kind.TryStatement texts = one (Sort.only Kind.BlockStatement) ∷ optional (Sort.only Kind.CatchClause) ∷ optional (Sort.only Kind.BlockStatement) ∷ []
statement_places Kind.CatchClause texts = optional (Sort.only Kind.CatchParameter) ∷ one (Sort.only Kind.BlockStatement) ∷ []
statement_places Kind.CatchParameter texts = one Sort.pattern ∷ []
statement_places Kind.WhileStatement texts = one Sort.expression ∷ one Sort.body ∷ []
statement_places Kind.VariableDeclaration texts = some (Sort.only Kind.VariableDeclarator) ∷ []
statement_places Kind.VariableDeclarator texts = one Sort.pattern ∷ optional Sort.expression ∷ []
statement_places k texts = []

-- modules, whose own list alone has imports and exports (16.2)
abbrev pub module_places : Kind → List Text → List Place
module_places Kind.Program texts = many (Sort.only Kind.Directive) ∷ many Sort.module_item ∷ []
module_places Kind.ImportDeclaration texts = optional_list Sort.import_specifier ∷ one (Sort.only Kind.StringLiteral) ∷ []
module_places Kind.ImportSpecifier texts = one Sort.module_export_name ∷ one (Sort.only Kind.BindingIdentifier) ∷ []
module_places Kind.ImportDefaultSpecifier texts = one (Sort.only Kind.BindingIdentifier) ∷ []
module_places Kind.ImportNamespaceSpecifier texts = one (Sort.only Kind.BindingIdentifier) ∷ []
module_places Kind.ExportAllDeclaration texts = optional Sort.module_export_name ∷ one (Sort.only Kind.StringLiteral) ∷ []
module_places Kind.ExportNamedDeclaration texts = many (Sort.only Kind.ExportSpecifier) ∷ []
module_places Kind.ExportFromDeclaration texts = many Sort.export_from_specifier ∷ one (Sort.only Kind.StringLiteral) ∷ []
module_places Kind.ExportSpecifier texts = one Sort.local_export_name ∷ one Sort.module_export_name ∷ []
module_places Kind.ExportDeclaration texts = one Sort.exported ∷ []
module_places Kind.ExportDefaultDeclaration texts = one Sort.exported_default ∷ []
module_places k texts = statement_places k texts

-- functions and classes (15)
abbrev pub function_kind_places : Kind → List Text → List Place
function_kind_places Kind.FunctionDeclaration texts = function_places (one (Sort.only Kind.BindingIdentifier))
function_kind_places Kind.FunctionExpression texts = function_places (optional (Sort.only Kind.BindingIdentifier))
function_kind_places Kind.FormalParameters texts = many (Sort.only Kind.FormalParameter) ∷ optional (Sort.only Kind.FormalParameterRest) ∷ []
function_kind_places Kind.FormalParameter texts = one Sort.pattern ∷ optional Sort.expression ∷ []
function_kind_places Kind.FormalParameterRest texts = one (Sort.only Kind.BindingRestElement) ∷ []
function_kind_places Kind.FunctionBody texts = many (Sort.only Kind.Directive) ∷ many Sort.statement ∷ []
function_kind_places Kind.ClassDeclaration texts = class_places (one (Sort.only Kind.BindingIdentifier))
function_kind_places Kind.ClassExpression texts = class_places (optional (Sort.only Kind.BindingIdentifier))
function_kind_places Kind.ClassBody texts = many Sort.class_element ∷ []
function_kind_places Kind.StaticBlock texts = many Sort.statement ∷ []
function_kind_places Kind.MethodDefinition texts = key_place (is_set_at 1 texts) Sort.class_key ∷ method_place (first_is (codes "method") texts) ∷ []
function_kind_places Kind.PropertyDefinition texts = key_place (is_set_at 0 texts) Sort.class_key ∷ optional Sort.expression ∷ []
function_kind_places k texts = module_places k texts

-- binding patterns (14.3.3) and assignment patterns (13.15.5)
abbrev pub pattern_places : Kind → List Text → List Place
pattern_places Kind.ObjectPattern texts = many (Sort.only Kind.BindingProperty) ∷ optional Sort.object_rest ∷ []
pattern_places Kind.BindingProperty texts = key_place (is_set_at 0 texts) Sort.key ∷ one Sort.pattern_element ∷ []
pattern_places Kind.ArrayPattern texts = spaced Sort.pattern_element ∷ optional (Sort.only Kind.BindingRestElement) ∷ []
pattern_places Kind.AssignmentPattern texts = one Sort.pattern ∷ one Sort.expression ∷ []
pattern_places Kind.BindingRestElement texts = one Sort.pattern ∷ []
pattern_places Kind.ArrayAssignmentTarget texts = spaced Sort.target_element ∷ optional (Sort.only Kind.AssignmentTargetRest) ∷ []
pattern_places Kind.ObjectAssignmentTarget texts = many (Sort.only Kind.AssignmentTargetProperty) ∷ optional Sort.object_target_rest ∷ []
pattern_places Kind.AssignmentTargetProperty texts = key_place (is_set_at 0 texts) Sort.key ∷ one Sort.target_element ∷ []
pattern_places Kind.AssignmentTargetWithDefault texts = one Sort.target ∷ one Sort.expression ∷ []
pattern_places Kind.AssignmentTargetRest texts = one Sort.target ∷ []
pattern_places k texts = function_kind_places k texts

-- expressions (13)
abbrev pub places : Kind → List Text → List Place
places Kind.TemplateLiteral texts = some Sort.template_text ∷ many Sort.expression ∷ []
places Kind.ParenthesizedExpression texts = one Sort.expression ∷ []
places Kind.ArrayExpression texts = spaced Sort.argument ∷ []
places Kind.SpreadElement texts = one Sort.expression ∷ []
places Kind.ObjectExpression texts = many Sort.property ∷ []
places Kind.ObjectProperty texts = key_place (is_set_at 3 texts) Sort.key ∷ value_place texts ∷ []
places Kind.SequenceExpression texts = several Sort.expression ∷ []
places Kind.AssignmentExpression texts = target_place texts ∷ one Sort.expression ∷ []
places Kind.ArrowFunctionExpression texts = one (Sort.only Kind.FormalParameters) ∷ one Sort.arrow_body ∷ []
places Kind.YieldExpression texts = yield_place texts ∷ []
places Kind.ConditionalExpression texts = one Sort.expression ∷ one Sort.expression ∷ one Sort.expression ∷ []
places Kind.LogicalExpression texts = one Sort.expression ∷ one Sort.expression ∷ []
places Kind.BinaryExpression texts = one Sort.expression ∷ one Sort.expression ∷ []
places Kind.PrivateInExpression texts = one (Sort.only Kind.PrivateIdentifier) ∷ one Sort.expression ∷ []
places Kind.UnaryExpression texts = one Sort.expression ∷ []
places Kind.AwaitExpression texts = one Sort.expression ∷ []
places Kind.UpdateExpression texts = one Sort.simple_target ∷ []
places Kind.ChainExpression texts = one Sort.chain_element ∷ []
places Kind.CallExpression texts = object_place texts ∷ many Sort.argument ∷ []
places Kind.ImportExpression texts = one Sort.expression ∷ optional Sort.expression ∷ []
places Kind.StaticMemberExpression texts = object_place texts ∷ one (Sort.only Kind.IdentifierName) ∷ []
places Kind.ComputedMemberExpression texts = object_place texts ∷ one Sort.expression ∷ []
places Kind.PrivateFieldExpression texts = one Sort.expression ∷ one (Sort.only Kind.PrivateIdentifier) ∷ []
places Kind.TaggedTemplateExpression texts = one Sort.expression ∷ one Sort.tagged_template ∷ []
places Kind.NewExpression texts = one Sort.expression ∷ many Sort.argument ∷ []
places k texts = pattern_places k texts

-- the rest of an object is a plain name or target (13.15.5, 14.3.3), and the texts of a template with a tag may have any
-- escapes (13.2.8)
abbrev pub part_places_at : Sort → Kind → List Text → List Place
part_places_at Sort.object_rest Kind.BindingRestElement texts = one (Sort.only Kind.BindingIdentifier) ∷ []
part_places_at Sort.object_target_rest Kind.AssignmentTargetRest texts = one Sort.simple_target ∷ []
part_places_at Sort.tagged_template Kind.TemplateLiteral texts = some (Sort.only Kind.TemplateElement) ∷ many Sort.expression ∷ []
part_places_at s k texts = places k texts

-- where the parts' places are a matter of the node's own place: behind `export default` a name may lack (16.2.3), a
-- method's function has none (15.4), the head of `for .. in` and `for .. of` declares one pattern and no value (14.7.5)
abbrev pub places_at : Sort → Kind → List Text → List Place
places_at Sort.exported_default Kind.FunctionDeclaration texts = function_places (optional (Sort.only Kind.BindingIdentifier))
places_at Sort.exported_default Kind.ClassDeclaration texts = class_places (optional (Sort.only Kind.BindingIdentifier))
places_at Sort.method Kind.FunctionExpression texts = function_places nothing
places_at Sort.plain_method Kind.FunctionExpression texts = function_places nothing
places_at Sort.for_left Kind.VariableDeclaration texts = single Sort.for_declarator ∷ []
places_at Sort.for_declarator Kind.VariableDeclarator texts = one Sort.pattern ∷ nothing ∷ []
places_at Sort.export_from_specifier Kind.ExportSpecifier texts = one Sort.module_export_name ∷ one Sort.module_export_name ∷ []
places_at s k texts = part_places_at s k texts

-- the place numbered n
abbrev pub place_at : ℕ → List Place → Place
place_at n [] = nowhere
place_at zero (p ∷ ps) = p
place_at (suc n) (p ∷ ps) = place_at n ps

abbrev pub are_as_many : List Place → Terms → Bool
are_as_many ps ts = nat_eq (count ts) (length ps)
