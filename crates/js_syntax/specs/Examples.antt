-- Texts and the modules that they spell, where the rules bite. The law `worked_examples` says that each of these holds.
use Rattle.std.specs.Prelude.{List, [], ◌∷◌, true, false, codes}
use Rattle.js_term.specs.Term.{Text, Term, absent, list, node, none, one, two, all}
use Rattle.js_term.specs.declared.kind.Kind.TheVariants as Kind
use Rattle.js_term.specs.Node.{identifier_of, binding_of, name_of, string_of, number_of, sequence_of, await_of, array_of, object_of, parenthesized_of, return_of, statement_of, specifier_of, export_declaration_of}
use Rattle.js_syntax.specs.Nodes.{alone, of_text, of_part, of_parts, of_list, marked, three, regexp_of, template_of, super_of, call_link, static_link, computed_link, private_of, private_link, new_of, update_of, property, pair_of, rested, parameter_of, function_node, body_node, class_node, method_node, field_node, variables_of, declarator_of, block_of, label_of, for_of, for_each, case_of, if_of, try_of, export_specifier_of, module_of}
use Rattle.js_syntax.specs.Modules.{Spells}

-- ---- the trees that recur

abbrev a : Term
a = identifier_of (codes "a")

abbrev b : Term
b = identifier_of (codes "b")

abbrev c : Term
c = identifier_of (codes "c")

abbrev d : Term
d = identifier_of (codes "d")

abbrev e : Term
e = identifier_of (codes "e")

abbrev f : Term
f = identifier_of (codes "f")

abbrev g : Term
g = identifier_of (codes "g")

abbrev o : Term
o = identifier_of (codes "o")

abbrev x : Term
x = identifier_of (codes "x")

abbrev y : Term
y = identifier_of (codes "y")

abbrev z : Term
z = identifier_of (codes "z")

abbrev A : Term
A = identifier_of (codes "A")

abbrev B : Term
B = identifier_of (codes "B")

-- a module without directives
abbrev pub items : List Term → Term
items ss = module_of [] [] ss

-- one expression as a statement
abbrev pub expression : Term → Term
expression e = items (statement_of e ∷ [])

abbrev pub assigned : Term → Term → Term
assigned t e = marked Kind.AssignmentExpression (codes "=") (two t e)

abbrev pub binary_of : Text → Term → Term → Term
binary_of op l r = marked Kind.BinaryExpression op (two l r)

abbrev pub logical_of : Text → Term → Term → Term
logical_of op l r = marked Kind.LogicalExpression op (two l r)

abbrev pub arrow_of : Text → Term → Term → Term
arrow_of async ps body = marked Kind.ArrowFunctionExpression async (two ps body)

abbrev pub no_parameters : Term
no_parameters = rested Kind.FormalParameters [] absent

abbrev pub parameter_named : Text → Term
parameter_named x = rested Kind.FormalParameters (parameter_of (binding_of x) absent ∷ []) absent

abbrev pub no_body : Term
no_body = body_node [] []

-- function () {}
abbrev pub plain_function : Term
plain_function = function_node Kind.FunctionExpression [] [] absent no_parameters no_body

-- x() {}
abbrev pub plain_method : Text → Term
plain_method x = method_node (codes "method") false [] (name_of x) plain_function

-- class A { es }
abbrev pub class_A : List Term → Term
class_A es = class_node Kind.ClassDeclaration (binding_of (codes "A")) absent es

-- function f() { ss }, async or a generator
abbrev pub function_f : Text → Text → List Term → Term
function_f async star ss = function_node Kind.FunctionDeclaration async star (binding_of (codes "f")) no_parameters (body_node [] ss)

-- what a line end does (12.10)
pub record LineExamples : Type 0 where
  pub a_call : Spells (codes "a\n(b)") (expression (call_link false a (one b)))
  pub an_update : Spells (codes "a\n++b") (items (statement_of a ∷ statement_of (update_of (codes "++") true b) ∷ []))
  pub behind_an_update : Spells (codes "a++\n(b)") (items (statement_of (update_of (codes "++") false a) ∷ statement_of (parenthesized_of b) ∷ []))
  pub a_return : Spells (codes "function f() { return\na }") (items (function_f [] [] (return_of absent ∷ statement_of a ∷ []) ∷ []))
  pub two_divisions : Spells (codes "x\n/y/g") (expression (binary_of (codes "/") (binary_of (codes "/") x y) g))
  pub assigned_divisions : Spells (codes "a = b\n/c/d") (expression (assigned a (binary_of (codes "/") (binary_of (codes "/") b c) d)))
  pub behind_an_arrow : Spells (codes "x = () => {}\n/y/g") (items (statement_of (assigned x (arrow_of [] no_parameters no_body)) ∷ statement_of (regexp_of (codes "y") (codes "g")) ∷ []))
  pub behind_a_function : Spells (codes "x = function () {}\n(y)") (expression (assigned x (call_link false plain_function (one y))))
  pub a_yield : Spells (codes "function* f() { yield\ny }") (items (function_f [] (codes "*") (statement_of (marked Kind.YieldExpression [] (one absent)) ∷ statement_of y ∷ []) ∷ []))
  pub a_break : Spells (codes "while (a) { break\nb }") (items (of_parts Kind.WhileStatement a (block_of (of_part Kind.BreakStatement absent ∷ statement_of b ∷ [])) ∷ []))
  pub an_else : Spells (codes "if (a) b\nelse c") (items (if_of a (statement_of b) (statement_of c) ∷ []))
  pub a_do : Spells (codes "do x; while (y) z") (items (of_parts Kind.DoWhileStatement (statement_of x) y ∷ statement_of z ∷ []))
  pub a_comment : Spells (codes "a/*\n*/b") (items (statement_of a ∷ statement_of b ∷ []))
  pub a_line_comment : Spells (codes "a // b\n.c") (expression (static_link false a (codes "c")))
  pub an_async : Spells (codes "async\nfunction f() {}") (items (statement_of (identifier_of (codes "async")) ∷ function_f [] [] [] ∷ []))
  pub a_declaration : Spells (codes "let a\n[b] = c") (items (variables_of (codes "let") (declarator_of (binding_of (codes "a")) absent ∷ []) ∷ statement_of (assigned (rested Kind.ArrayAssignmentTarget (b ∷ []) absent) c) ∷ []))
  pub a_generator_field : Spells (codes "class A { ; get\n*x() {} }") (items (class_A (field_node false [] (name_of (codes "get")) absent ∷ method_node (codes "method") false [] (name_of (codes "x")) (function_node Kind.FunctionExpression [] (codes "*") absent no_parameters no_body) ∷ []) ∷ []))
  pub a_getter : Spells (codes "class A { get\nx() {} }") (items (class_A (method_node (codes "get") false [] (name_of (codes "x")) plain_function ∷ []) ∷ []))
  pub a_static_field : Spells (codes "class A { static\nx }") (items (class_A (field_node false (codes "static") (name_of (codes "x")) absent ∷ []) ∷ []))
  pub an_async_field : Spells (codes "class A { async\nx() {} }") (items (class_A (field_node false [] (name_of (codes "async")) absent ∷ plain_method (codes "x") ∷ []) ∷ []))
  pub an_export_from : Spells (codes "export { a }\nfrom 'b'") (items (of_parts Kind.ExportFromDeclaration (list (all (export_specifier_of (name_of (codes "a")) (name_of (codes "a")) ∷ []))) (string_of (codes "b")) ∷ []))
  pub an_export : Spells (codes "export { a }\nb") (items (of_list Kind.ExportNamedDeclaration (all (export_specifier_of a (name_of (codes "a")) ∷ [])) ∷ statement_of b ∷ []))

-- expressions and patterns
pub record ExpressionExamples : Type 0 where
  pub member_of_a_chain : Spells (codes "(a?.b).c") (expression (static_link false (parenthesized_of (of_part Kind.ChainExpression (static_link true a (codes "b")))) (codes "c")))
  pub one_chain : Spells (codes "a?.b.c(d)") (expression (of_part Kind.ChainExpression (call_link false (static_link false (static_link true a (codes "b")) (codes "c")) (one d))))
  pub three_links : Spells (codes "a?.[b]?.(c)") (expression (of_part Kind.ChainExpression (call_link true (computed_link true a b) (one c))))
  pub no_link : Spells (codes "a?.5:b") (expression (node Kind.ConditionalExpression [] (three a (number_of (codes ".5")) b)))
  pub power_of_a_negative : Spells (codes "a ** -b") (expression (binary_of (codes "**") a (marked Kind.UnaryExpression (codes "-") (one b))))
  pub powers : Spells (codes "a ** b ** c") (expression (binary_of (codes "**") a (binary_of (codes "**") b c)))
  pub differences : Spells (codes "a - b - c") (expression (binary_of (codes "-") (binary_of (codes "-") a b) c))
  pub both_logics : Spells (codes "(a ?? b) || c") (expression (logical_of (codes "||") (parenthesized_of (logical_of (codes "??") a b)) c))
  pub either_logic : Spells (codes "a || b && c") (expression (logical_of (codes "||") a (logical_of (codes "&&") b c)))
  pub a_point : Spells (codes "1..x") (expression (static_link false (number_of (codes "1.")) (codes "x")))
  pub a_fraction : Spells (codes "1.0.x") (expression (static_link false (number_of (codes "1.0")) (codes "x")))
  pub a_whole : Spells (codes "1 .x") (expression (static_link false (number_of (codes "1")) (codes "x")))
  pub new_twice : Spells (codes "new new A()()") (expression (new_of (new_of A none) none))
  pub bare_new : Spells (codes "new A") (expression (new_of A none))
  pub new_of_a_member : Spells (codes "new a.b(c).d") (expression (static_link false (new_of (static_link false a (codes "b")) (one c)) (codes "d")))
  pub new_of_a_call : Spells (codes "new (a())()") (expression (new_of (parenthesized_of (call_link false a none)) none))
  pub a_template : Spells (codes "`a${b}c`") (expression (template_of (of_text Kind.TemplateElement (codes "a") ∷ of_text Kind.TemplateElement (codes "c") ∷ []) (b ∷ [])))
  pub a_tagged_template : Spells (codes "a`b${`c`}d`") (expression (of_parts Kind.TaggedTemplateExpression a (template_of (of_text Kind.TemplateElement (codes "b") ∷ of_text Kind.TemplateElement (codes "d") ∷ []) (template_of (of_text Kind.TemplateElement (codes "c") ∷ []) [] ∷ []))))
  pub an_async_arrow : Spells (codes "async () => {}") (expression (arrow_of (codes "async") no_parameters no_body))
  pub an_async_name : Spells (codes "async x => x") (expression (arrow_of (codes "async") (parameter_named (codes "x")) x))
  pub an_async_call : Spells (codes "async (x)") (expression (call_link false (identifier_of (codes "async")) (one x)))
  pub an_arrow_of_an_object : Spells (codes "x => ({})") (expression (arrow_of [] (parameter_named (codes "x")) (parenthesized_of (object_of none))))
  pub some_parameters : Spells (codes "(a, { b, c: [d] }, ...e) => a") (expression (arrow_of [] (rested Kind.FormalParameters (parameter_of (binding_of (codes "a")) absent ∷ parameter_of (rested Kind.ObjectPattern (pair_of Kind.BindingProperty false true (name_of (codes "b")) (binding_of (codes "b")) ∷ pair_of Kind.BindingProperty false false (name_of (codes "c")) (rested Kind.ArrayPattern (binding_of (codes "d") ∷ []) absent) ∷ []) absent) absent ∷ []) (of_part Kind.FormalParameterRest (of_part Kind.BindingRestElement (binding_of (codes "e"))))) a))
  pub a_target_with_a_default : Spells (codes "({a = 1} = b)") (expression (parenthesized_of (assigned (rested Kind.ObjectAssignmentTarget (pair_of Kind.AssignmentTargetProperty false true (name_of (codes "a")) (of_parts Kind.AssignmentTargetWithDefault a (number_of (codes "1"))) ∷ []) absent) b)))
  pub an_array_target : Spells (codes "[a, , ...b] = c") (expression (assigned (rested Kind.ArrayAssignmentTarget (a ∷ absent ∷ []) (of_part Kind.AssignmentTargetRest b)) c))
  pub a_last_elision : Spells (codes "[a, , ]") (expression (array_of (two a absent)))
  pub increments : Spells (codes "a++ + ++b") (expression (binary_of (codes "+") (update_of (codes "++") false a) (update_of (codes "++") true b)))
  pub a_regexp : Spells (codes "/[/\\]]\\//gi.test(a)") (expression (call_link false (static_link false (regexp_of (codes "[/\\]]\\/") (codes "gi")) (codes "test")) (one a)))
  pub an_object : Spells (codes "x = { get a() { return 1 }, async *b() {}, [c]: d, e, ...f }") (expression (assigned x (object_of (all (property (codes "get") false false false (name_of (codes "a")) (function_node Kind.FunctionExpression [] [] absent no_parameters (body_node [] (return_of (number_of (codes "1")) ∷ []))) ∷ property (codes "init") true false false (name_of (codes "b")) (function_node Kind.FunctionExpression (codes "async") (codes "*") absent no_parameters no_body) ∷ property (codes "init") false false true c d ∷ property (codes "init") false true false (name_of (codes "e")) e ∷ of_part Kind.SpreadElement f ∷ [])))))
  pub escapes : Spells (codes "x = '\\b\\t\\n\\v\\f\\r\\0\\x41\\u0042\\u{43}\\uD83D\\uDE00\\\n\\z'") (expression (assigned x (string_of (8 ∷ 9 ∷ 10 ∷ 11 ∷ 12 ∷ 13 ∷ 0 ∷ 65 ∷ 66 ∷ 67 ∷ 240 ∷ 159 ∷ 152 ∷ 128 ∷ 122 ∷ []))))
  pub parenthesized_in : Spells (codes "for (var i = (a in b); ;) ;") (items (for_of (variables_of (codes "var") (declarator_of (binding_of (codes "i")) (parenthesized_of (binary_of (codes "in") a b)) ∷ [])) absent absent (alone Kind.EmptyStatement) ∷ []))
  pub conditional_in : Spells (codes "for (a ? b in c : d; ;) ;") (items (for_of (node Kind.ConditionalExpression [] (three a (binary_of (codes "in") b c) d)) absent absent (alone Kind.EmptyStatement) ∷ []))

-- functions and classes
pub record FunctionExamples : Type 0 where
  pub yields : Spells (codes "function* f() { yield; yield a; yield* b }") (items (function_f [] (codes "*") (statement_of (marked Kind.YieldExpression [] (one absent)) ∷ statement_of (marked Kind.YieldExpression [] (one a)) ∷ statement_of (marked Kind.YieldExpression (codes "*") (one b)) ∷ []) ∷ []))
  pub an_await : Spells (codes "async function f() { await a }") (items (function_f (codes "async") [] (statement_of (await_of a) ∷ []) ∷ []))
  pub an_awaited_loop : Spells (codes "async function f() { for await (const x of y) ; }") (items (function_f (codes "async") [] (for_each Kind.ForOfStatement (codes "await" ∷ []) (variables_of (codes "const") (declarator_of (binding_of (codes "x")) absent ∷ [])) y (alone Kind.EmptyStatement) ∷ []) ∷ []))
  pub a_directive : Spells (codes "() => { 'use strict'; a }") (expression (arrow_of [] no_parameters (body_node (of_text Kind.Directive (codes "'use strict'") ∷ []) (statement_of a ∷ []))))
  pub a_class : Spells (codes "class A extends B { #x = 1; static { this.#x } constructor() { super() } }") (items (class_node Kind.ClassDeclaration (binding_of (codes "A")) B (field_node false [] (private_of (codes "x")) (number_of (codes "1")) ∷ of_list Kind.StaticBlock (all (statement_of (private_link false (alone Kind.ThisExpression) (codes "x")) ∷ [])) ∷ method_node (codes "constructor") false [] (name_of (codes "constructor")) (function_node Kind.FunctionExpression [] [] absent no_parameters (body_node [] (statement_of (call_link false super_of none) ∷ []))) ∷ []) ∷ []))
  pub constructors : Spells (codes "class A { 'constructor'() {} static constructor() {} ['constructor']() {} }") (items (class_A (method_node (codes "constructor") false [] (string_of (codes "constructor")) plain_function ∷ method_node (codes "method") false (codes "static") (name_of (codes "constructor")) plain_function ∷ method_node (codes "method") true [] (string_of (codes "constructor")) plain_function ∷ []) ∷ []))
  pub words_as_keys : Spells (codes "class A { get() {} static() {} async() {} }") (items (class_A (plain_method (codes "get") ∷ plain_method (codes "static") ∷ plain_method (codes "async") ∷ []) ∷ []))
  pub a_heritage : Spells (codes "x = class extends (a, b) {}") (expression (assigned x (class_node Kind.ClassExpression absent (parenthesized_of (sequence_of (two a b))) [])))
  pub a_private_in : Spells (codes "class A { #x; f(o) { return #x in o } }") (items (class_A (field_node false [] (private_of (codes "x")) absent ∷ method_node (codes "method") false [] (name_of (codes "f")) (function_node Kind.FunctionExpression [] [] absent (parameter_named (codes "o")) (body_node [] (return_of (of_parts Kind.PrivateInExpression (private_of (codes "x")) o) ∷ []))) ∷ []) ∷ []))

-- modules and statements
pub record ModuleExamples : Type 0 where
  pub a_directive : Spells (codes "'use strict'") (module_of [] (of_text Kind.Directive (codes "'use strict'") ∷ []) [])
  pub no_directive : Spells (codes "('use strict')") (expression (parenthesized_of (string_of (codes "use strict"))))
  pub a_sum_of_a_string : Spells (codes "'a' + b") (expression (binary_of (codes "+") (string_of (codes "a")) b))
  pub nothing : Spells (codes "") (items [])
  pub a_hashbang : Spells (codes "#!x") (module_of (codes "x" ∷ []) [] [])
  pub a_default_class : Spells (codes "export default class {}") (items (of_part Kind.ExportDefaultDeclaration (class_node Kind.ClassDeclaration absent absent []) ∷ []))
  pub a_default_arrow : Spells (codes "export default () => {}\n(a)") (items (of_part Kind.ExportDefaultDeclaration (arrow_of [] no_parameters no_body) ∷ statement_of (parenthesized_of a) ∷ []))
  pub an_import : Spells (codes "import d, { a as b, c } from 's'") (items (of_parts Kind.ImportDeclaration (list (all (of_part Kind.ImportDefaultSpecifier (binding_of (codes "d")) ∷ of_parts Kind.ImportSpecifier (name_of (codes "a")) (binding_of (codes "b")) ∷ specifier_of (codes "c") (codes "c") ∷ []))) (string_of (codes "s")) ∷ []))
  pub an_import_alone : Spells (codes "import 's'") (items (of_parts Kind.ImportDeclaration absent (string_of (codes "s")) ∷ []))
  pub a_namespace : Spells (codes "import a, * as b from 's'") (items (of_parts Kind.ImportDeclaration (list (all (of_part Kind.ImportDefaultSpecifier (binding_of (codes "a")) ∷ of_part Kind.ImportNamespaceSpecifier (binding_of (codes "b")) ∷ []))) (string_of (codes "s")) ∷ []))
  pub all_as : Spells (codes "export * as n from 's'") (items (of_parts Kind.ExportAllDeclaration (name_of (codes "n")) (string_of (codes "s")) ∷ []))
  pub local_exports : Spells (codes "export { a, b as default }") (items (of_list Kind.ExportNamedDeclaration (all (export_specifier_of a (name_of (codes "a")) ∷ export_specifier_of b (name_of (codes "default")) ∷ [])) ∷ []))
  pub exports_from : Spells (codes "export { default, 'a' as b } from 's'") (items (of_parts Kind.ExportFromDeclaration (list (all (export_specifier_of (name_of (codes "default")) (name_of (codes "default")) ∷ export_specifier_of (string_of (codes "a")) (name_of (codes "b")) ∷ []))) (string_of (codes "s")) ∷ []))
  pub constants : Spells (codes "export const a = 1, b = c") (items (export_declaration_of (variables_of (codes "const") (declarator_of (binding_of (codes "a")) (number_of (codes "1")) ∷ declarator_of (binding_of (codes "b")) c ∷ [])) ∷ []))
  pub a_labeled_loop : Spells (codes "l: for (const x of y) continue l") (items (of_parts Kind.LabeledStatement (label_of (codes "l")) (for_each Kind.ForOfStatement ([] ∷ []) (variables_of (codes "const") (declarator_of (binding_of (codes "x")) absent ∷ [])) y (of_part Kind.ContinueStatement (label_of (codes "l")))) ∷ []))
  pub bare_catch : Spells (codes "try {} catch {}") (items (try_of (block_of []) (of_parts Kind.CatchClause absent (block_of [])) absent ∷ []))
  pub a_switch : Spells (codes "switch (a) { case 1: default: b }") (items (of_parts Kind.SwitchStatement a (list (all (case_of (number_of (codes "1")) [] ∷ case_of absent (statement_of b ∷ []) ∷ []))) ∷ []))
  pub an_inner_else : Spells (codes "if (a) if (b) c; else d") (items (if_of a (if_of b (statement_of c) (statement_of d)) absent ∷ []))
  pub patterns : Spells (codes "let { a, b: c = d, ...e } = f, [, g] = o") (items (variables_of (codes "let") (declarator_of (rested Kind.ObjectPattern (pair_of Kind.BindingProperty false true (name_of (codes "a")) (binding_of (codes "a")) ∷ pair_of Kind.BindingProperty false false (name_of (codes "b")) (of_parts Kind.AssignmentPattern (binding_of (codes "c")) d) ∷ []) (of_part Kind.BindingRestElement (binding_of (codes "e")))) f ∷ declarator_of (rested Kind.ArrayPattern (absent ∷ binding_of (codes "g") ∷ []) absent) o ∷ []) ∷ []))
