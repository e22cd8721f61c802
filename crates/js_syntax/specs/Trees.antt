-- Small trees for the examples: the nodes that they are made of, each beside what it is written as.
use Rattle.std.specs.Prelude.{◌≡◌, List, [], ◌∷◌, Bool, true, false, codes}
use Rattle.js_term.specs.Term.{Text, Term, absent, list, node, Terms, none, more, one, two}
use Rattle.js_term.specs.declared.kind.Kind.TheVariants as Kind
use Rattle.js_term.specs.Node.{identifier_of, binding_of, name_of, string_of, program_of, statement_of, member_of, call_of, body_of, parameters_of}

-- names

abbrev pub a : Term
a = identifier_of (codes "a")

abbrev pub b : Term
b = identifier_of (codes "b")

abbrev pub binding_a : Term
binding_a = binding_of (codes "a")

abbrev pub key_a : Term
key_a = name_of (codes "a")

abbrev pub the_arguments : Term
the_arguments = identifier_of (codes "arguments")

-- #a
abbrev pub private_a : Term
private_a = node Kind.PrivateIdentifier (codes "a" ∷ []) none

abbrev pub label_of : Text → Term
label_of x = node Kind.LabelIdentifier (x ∷ []) none

-- expressions

abbrev pub super : Term
super = node Kind.Super [] none

-- super.a
abbrev pub super_a : Term
super_a = member_of super (codes "a")

-- super()
abbrev pub super_call : Term
super_call = call_of super none

-- new.target
abbrev pub new_target : Term
new_target = node Kind.NewTarget [] none

-- await a
abbrev pub await_a : Term
await_a = node Kind.AwaitExpression [] (one a)

-- yield
abbrev pub yield_none : Term
yield_none = node Kind.YieldExpression ([] ∷ []) (one absent)

-- t?.x
abbrev pub linked : Term → Text → Term
linked t x = node Kind.StaticMemberExpression (codes "?." ∷ []) (two t (name_of x))

abbrev pub chain_of : Term → Term
chain_of t = node Kind.ChainExpression [] (one t)

-- t[u]
abbrev pub computed_of : Term → Term → Term
computed_of t u = node Kind.ComputedMemberExpression ([] ∷ []) (two t u)

-- t.#a
abbrev pub private_member_of : Term → Term
private_member_of t = node Kind.PrivateFieldExpression ([] ∷ []) (two t private_a)

-- t op u
abbrev pub assignment_of : Text → Term → Term → Term
assignment_of op t u = node Kind.AssignmentExpression (op ∷ []) (two t u)

-- t++
abbrev pub update_of : Term → Term
update_of t = node Kind.UpdateExpression (codes "++" ∷ [] ∷ []) (one t)

abbrev pub binary_of : Text → Term → Term → Term
binary_of op t u = node Kind.BinaryExpression (op ∷ []) (two t u)

abbrev pub element_of : Text → Term
element_of raw = node Kind.TemplateElement (raw ∷ []) none

abbrev pub template_of : Terms → Terms → Term
template_of ts us = node Kind.TemplateLiteral [] (two (list ts) (list us))

abbrev pub tagged_of : Term → Term → Term
tagged_of t u = node Kind.TaggedTemplateExpression [] (two t u)

abbrev pub spread_of : Term → Term
spread_of t = node Kind.SpreadElement [] (one t)

abbrev pub array_of : Terms → Term
array_of ts = node Kind.ArrayExpression [] (one (list ts))

-- functions and arrows

abbrev pub no_parameters : Term
no_parameters = parameters_of []

abbrev pub no_statements : Term
no_statements = body_of none

-- (x = t)
abbrev pub parameter_with : Term → Term
parameter_with t = node Kind.FormalParameters [] (two (list (one (node Kind.FormalParameter [] (two binding_a t)))) absent)

-- (...a)
abbrev pub rest_parameters : Term
rest_parameters = node Kind.FormalParameters [] (two (list none) (node Kind.FormalParameterRest [] (one (node Kind.BindingRestElement [] (one binding_a)))))

-- a function with these flags, async and generator, its name, its parameters and its body
abbrev pub declared_function : List Text → Term → Term → Term → Term
declared_function flags name parameters body = node Kind.FunctionDeclaration flags (more name (two parameters body))

abbrev pub function_with : List Text → Term → Term → Term → Term
function_with flags name parameters body = node Kind.FunctionExpression flags (more name (two parameters body))

abbrev pub plain : List Text
plain = [] ∷ [] ∷ []

abbrev pub async : List Text
async = codes "async" ∷ [] ∷ []

abbrev pub generator : List Text
generator = [] ∷ codes "*" ∷ []

-- function a() { ts }, with these flags
abbrev pub function_a : List Text → Terms → Term
function_a flags ts = declared_function flags binding_a no_parameters (body_of ts)

-- function () { t; }, with these flags
abbrev pub function_doing : List Text → Term → Term
function_doing flags t = function_with flags absent no_parameters (body_of (one (statement_of t)))

-- () => t
abbrev pub arrow : Term → Term
arrow t = node Kind.ArrowFunctionExpression ([] ∷ []) (two no_parameters t)

-- async () => t
abbrev pub async_arrow : Term → Term
async_arrow t = node Kind.ArrowFunctionExpression (codes "async" ∷ []) (two no_parameters t)

-- statements

abbrev pub empty_statement : Term
empty_statement = node Kind.EmptyStatement [] none

abbrev pub block : Terms → Term
block ts = node Kind.BlockStatement [] (one (list ts))

abbrev pub if_else : Term → Term → Term
if_else t u = node Kind.IfStatement [] (more a (two t u))

abbrev pub while : Term → Term
while t = node Kind.WhileStatement [] (two a t)

abbrev pub labeled : Text → Term → Term
labeled x t = node Kind.LabeledStatement [] (two (label_of x) t)

abbrev pub for_in : Term → Term
for_in left = node Kind.ForInStatement [] (more left (two a empty_statement))

abbrev pub for_of : Term → Term
for_of left = node Kind.ForOfStatement ([] ∷ []) (more left (two a empty_statement))

abbrev pub for_await : Term → Term
for_await left = node Kind.ForOfStatement (codes "await" ∷ []) (more left (two a empty_statement))

-- for (init; ; );
abbrev pub for_from : Term → Term
for_from init = node Kind.ForStatement [] (more init (more absent (two absent empty_statement)))

-- switch (a) { default: ts }
abbrev pub switch : Terms → Term
switch ts = node Kind.SwitchStatement [] (two a (list (one (node Kind.SwitchCase [] (two absent (list ts))))))

abbrev pub break : Term → Term
break label = node Kind.BreakStatement [] (one label)

abbrev pub continue : Term → Term
continue label = node Kind.ContinueStatement [] (one label)

abbrev pub return_none : Term
return_none = node Kind.ReturnStatement [] (one absent)

abbrev pub declarator : Term → Term → Term
declarator t init = node Kind.VariableDeclarator [] (two t init)

-- var, let or const with one declarator
abbrev pub declaration : Text → Term → Term → Term
declaration word t init = node Kind.VariableDeclaration (word ∷ []) (one (list (one (declarator t init))))

-- patterns and targets

-- [t]
abbrev pub array_pattern : Term → Term
array_pattern t = node Kind.ArrayPattern [] (two (list (one t)) absent)

-- t = u
abbrev pub pattern_with : Term → Term → Term
pattern_with t u = node Kind.AssignmentPattern [] (two t u)

-- { key: value }, with these flags, computed and shorthand
abbrev pub object_pattern : List Text → Term → Term → Term
object_pattern flags key value = node Kind.ObjectPattern [] (two (list (one (node Kind.BindingProperty flags (two key value)))) absent)

-- { ...t }
abbrev pub object_rest_of : Term → Term
object_rest_of t = node Kind.ObjectPattern [] (two (list none) (node Kind.BindingRestElement [] (one t)))

abbrev pub array_target : Term → Term
array_target t = node Kind.ArrayAssignmentTarget [] (two (list (one t)) absent)

abbrev pub object_target : List Text → Term → Term → Term
object_target flags key value = node Kind.ObjectAssignmentTarget [] (two (list (one (node Kind.AssignmentTargetProperty flags (two key value)))) absent)

abbrev pub object_target_rest_of : Term → Term
object_target_rest_of t = node Kind.ObjectAssignmentTarget [] (two (list none) (node Kind.AssignmentTargetRest [] (one t)))

abbrev pub target_with : Term → Term → Term
target_with t u = node Kind.AssignmentTargetWithDefault [] (two t u)

-- objects

abbrev pub object_of_one : Term → Term
object_of_one t = node Kind.ObjectExpression [] (one (list (one t)))

-- a property with these texts: its kind and the flags method, shorthand and computed
abbrev pub property : List Text → Term → Term → Term
property texts key value = object_of_one (node Kind.ObjectProperty texts (two key value))

-- a: t
abbrev pub property_a : Term → Term
property_a t = property (codes "init" ∷ [] ∷ [] ∷ [] ∷ []) key_a t

-- a() { t; }
abbrev pub object_method : Term → Term
object_method t = property (codes "init" ∷ codes "method" ∷ [] ∷ [] ∷ []) key_a (function_doing plain t)

-- classes

abbrev pub class_body_of : Terms → Term
class_body_of ts = node Kind.ClassBody [] (one (list ts))

-- class a { ts }
abbrev pub class_a : Terms → Term
class_a ts = node Kind.ClassDeclaration [] (more binding_a (two absent (class_body_of ts)))

-- class a extends t { ts }
abbrev pub class_extends : Term → Terms → Term
class_extends t ts = node Kind.ClassDeclaration [] (more binding_a (two t (class_body_of ts)))

-- a member of a class with these texts: its kind and the flags computed and static
abbrev pub method_with : List Text → Term → Term → Term
method_with texts key function = node Kind.MethodDefinition texts (two key function)

abbrev pub of_kind : Text → List Text
of_kind word = word ∷ [] ∷ [] ∷ []

-- a() { t; }
abbrev pub method_doing : Term → Term
method_doing t = method_with (of_kind (codes "method")) key_a (function_doing plain t)

-- constructor() { t; }
abbrev pub constructor_doing : Term → Term
constructor_doing t = method_with (of_kind (codes "constructor")) (name_of (codes "constructor")) (function_doing plain t)

-- key = t;
abbrev pub field : Term → Term → Term
field key t = node Kind.PropertyDefinition ([] ∷ [] ∷ []) (two key t)

-- [t] = value;
abbrev pub computed_field : Term → Term → Term
computed_field t value = node Kind.PropertyDefinition (codes "computed" ∷ [] ∷ []) (two t value)

abbrev pub static_block : Terms → Term
static_block ts = node Kind.StaticBlock [] (one (list ts))

-- modules

-- import { ts } from 'a';
abbrev pub import_of : Terms → Term
import_of ts = node Kind.ImportDeclaration [] (two (list ts) (string_of (codes "a")))

abbrev pub default_a : Term
default_a = node Kind.ImportDefaultSpecifier [] (one binding_a)

abbrev pub namespace_a : Term
namespace_a = node Kind.ImportNamespaceSpecifier [] (one binding_a)

abbrev pub named_a : Term
named_a = node Kind.ImportSpecifier [] (two key_a binding_a)

-- export { t as a };
abbrev pub export_of : Term → Term
export_of t = node Kind.ExportNamedDeclaration [] (one (list (one (node Kind.ExportSpecifier [] (two t key_a)))))

-- export { t as a } from 'a';
abbrev pub export_from : Term → Term
export_from t = node Kind.ExportFromDeclaration [] (two (list (one (node Kind.ExportSpecifier [] (two t key_a)))) (string_of (codes "a")))

abbrev pub export_default : Term → Term
export_default t = node Kind.ExportDefaultDeclaration [] (one t)

abbrev pub export_declared : Term → Term
export_declared t = node Kind.ExportDeclaration [] (one t)

-- a module of one statement
abbrev pub module_of : Term → Term
module_of t = program_of (one t)

-- a test tells two trees apart: it passes the first alone
abbrev pub Tells : (Term → Bool) → Term → Term → Type 0
Tells test good bad = (test good ≡ true) × (test bad ≡ false)
