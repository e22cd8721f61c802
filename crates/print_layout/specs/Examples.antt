-- Trees and their texts, a row for each kind, and parentheses where a place needs them and where it does not. The law
-- `worked_rows` says that each of these holds.
use Rattle.std.specs.Prelude.{◌≡◌, List, [], ◌∷◌, true, false, codes}
use Rattle.js_term.specs.Term.{Text, Term, absent, list, node, none, one, two, all}
use Rattle.js_term.specs.declared.kind.Kind.{Kind}
use Rattle.js_term.specs.Node.{identifier_of, binding_of, name_of, string_of, number_of, boolean_of, sequence_of, await_of, array_of, object_of, parenthesized_of, return_of, statement_of, specifier_of, export_declaration_of, const_of}
use Rattle.js_syntax.specs.Nodes.{alone, of_text, of_part, of_parts, of_list, marked, three, regexp_of, template_of, super_of, call_link, static_link, computed_link, private_of, private_link, new_of, update_of, property, pair_of, rested, parameter_of, function_node, body_node, class_node, method_node, field_node, variables_of, declarator_of, block_of, label_of, for_of, for_each, case_of, if_of, try_of, export_specifier_of, module_of}
use Rattle.js_syntax.specs.Examples.{assigned, binary_of, logical_of, arrow_of, no_parameters, no_body, plain_function}
use Rattle.print_layout.specs.Needs.{never}
use Rattle.print_layout.specs.Layout.{text, module_text}

abbrev a : Term
a = identifier_of (codes "a")

abbrev b : Term
b = identifier_of (codes "b")

abbrev c : Term
c = identifier_of (codes "c")

abbrev one_number : Term
one_number = number_of (codes "1")

abbrev then_a : Term
then_a = statement_of a

abbrev pattern_x : Term
pattern_x = binding_of (codes "x")

-- a part by itself
abbrev pub printed : Term → Text
printed t = text true never t

abbrev spread_a : Term
spread_a = of_part Kind.SpreadElement a

abbrev parameters_x : Term
parameters_x = rested Kind.FormalParameters (parameter_of pattern_x absent ∷ []) absent

abbrev function_of_x : Text → Text → Term
function_of_x async star = function_node Kind.FunctionExpression async star absent parameters_x (body_node [] (return_of pattern_x ∷ []))

abbrev element_of : Text → Term
element_of x = of_text Kind.TemplateElement x

abbrev key_k : Term
key_k = name_of (codes "k")

-- statements (14)
pub record StatementRows : Type 0 where
  pub an_empty_block : printed (block_of []) ≡ codes "{}"
  pub a_block : printed (block_of (then_a ∷ statement_of b ∷ [])) ≡ codes "{ a; b; }"
  pub a_break : printed (of_part Kind.BreakStatement absent) ≡ codes "break;"
  pub a_labeled_break : printed (of_part Kind.BreakStatement (label_of (codes "l"))) ≡ codes "break l;"
  pub a_continue : printed (of_part Kind.ContinueStatement (label_of (codes "l"))) ≡ codes "continue l;"
  pub a_debugger : printed (alone Kind.DebuggerStatement) ≡ codes "debugger;"
  pub an_empty : printed (alone Kind.EmptyStatement) ≡ codes ";"
  pub a_do : printed (of_parts Kind.DoWhileStatement then_a b) ≡ codes "do a; while (b);"
  pub a_for_in : printed (for_each Kind.ForInStatement [] (variables_of (codes "const") (declarator_of pattern_x absent ∷ [])) a then_a) ≡ codes "for (const x in a) a;"
  pub a_for_of : printed (for_each Kind.ForOfStatement ([] ∷ []) a (sequence_of (two a b)) then_a) ≡ codes "for (a of (a, b)) a;"
  pub a_for_await : printed (for_each Kind.ForOfStatement (codes "await" ∷ []) (variables_of (codes "const") (declarator_of pattern_x absent ∷ [])) a (block_of [])) ≡ codes "for await (const x of a) {}"
  pub an_endless_for : printed (for_of absent absent absent (alone Kind.EmptyStatement)) ≡ codes "for (; ; ) ;"
  pub a_for : printed (for_of (variables_of (codes "var") (declarator_of pattern_x (binary_of (codes "in") a b) ∷ [])) (binary_of (codes "in") a b) c then_a) ≡ codes "for (var x = (a in b); a in b; c) a;"
  pub an_if : printed (if_of a then_a absent) ≡ codes "if (a) a;"
  pub an_else : printed (if_of a then_a (statement_of b)) ≡ codes "if (a) a; else b;"
  pub a_label : printed (of_parts Kind.LabeledStatement (label_of (codes "l")) then_a) ≡ codes "l: a;"
  pub a_bare_return : printed (return_of absent) ≡ codes "return;"
  pub a_return : printed (return_of a) ≡ codes "return a;"
  pub a_throw : printed (of_part Kind.ThrowStatement a) ≡ codes "throw a;"
  pub an_empty_switch : printed (of_parts Kind.SwitchStatement a (list none)) ≡ codes "switch (a) {}"
  pub a_switch : printed (of_parts Kind.SwitchStatement a (list (two (case_of b []) (case_of absent (then_a ∷ []))))) ≡ codes "switch (a) { case b: default: a; }"
  pub a_try : printed (try_of (block_of []) (of_parts Kind.CatchClause (of_part Kind.CatchParameter pattern_x) (block_of [])) (block_of [])) ≡ codes "try {} catch (x) {} finally {}"
  pub a_bare_catch : printed (try_of (block_of []) (of_parts Kind.CatchClause absent (block_of [])) absent) ≡ codes "try {} catch {}"
  pub a_while : printed (of_parts Kind.WhileStatement a then_a) ≡ codes "while (a) a;"
  pub variables : printed (variables_of (codes "let") (declarator_of pattern_x absent ∷ declarator_of (binding_of (codes "y")) (sequence_of (two a b)) ∷ [])) ≡ codes "let x, y = (a, b);"
  pub a_function : printed (function_node Kind.FunctionDeclaration (codes "async") (codes "*") (binding_of (codes "f")) no_parameters no_body) ≡ codes "async function* f() {}"
  pub a_class : printed (class_node Kind.ClassDeclaration (binding_of (codes "A")) (arrow_of [] no_parameters a) []) ≡ codes "class A extends (() => a) {}"

-- modules (16.2)
pub record ModuleRows : Type 0 where
  pub no_items : module_text (module_of [] [] []) ≡ []
  pub a_module : module_text (module_of (codes " node" ∷ []) (of_text Kind.Directive (codes "'use x'") ∷ []) (then_a ∷ statement_of b ∷ [])) ≡ codes "#! node\n'use x';\na;\nb;\n"
  pub a_bare_import : printed (of_parts Kind.ImportDeclaration absent (string_of (codes "s"))) ≡ codes "import 's';"
  pub an_empty_import : printed (of_parts Kind.ImportDeclaration (list none) (string_of (codes "s"))) ≡ codes "import {} from 's';"
  pub a_default_import : printed (of_parts Kind.ImportDeclaration (list (one (of_part Kind.ImportDefaultSpecifier (binding_of (codes "d"))))) (string_of (codes "s"))) ≡ codes "import d from 's';"
  pub a_namespace_import : printed (of_parts Kind.ImportDeclaration (list (two (of_part Kind.ImportDefaultSpecifier (binding_of (codes "d"))) (of_part Kind.ImportNamespaceSpecifier (binding_of (codes "n"))))) (string_of (codes "s"))) ≡ codes "import d, * as n from 's';"
  pub named_imports : printed (of_parts Kind.ImportDeclaration (list (three (of_part Kind.ImportDefaultSpecifier (binding_of (codes "d"))) (specifier_of (codes "a") (codes "b")) (specifier_of (codes "c") (codes "c")))) (string_of (codes "s"))) ≡ codes "import d, { a as b, c } from 's';"
  pub an_export_all : printed (of_parts Kind.ExportAllDeclaration absent (string_of (codes "s"))) ≡ codes "export * from 's';"
  pub an_export_all_as : printed (of_parts Kind.ExportAllDeclaration (name_of (codes "n")) (string_of (codes "s"))) ≡ codes "export * as n from 's';"
  pub exports : printed (of_list Kind.ExportNamedDeclaration (two (export_specifier_of a (name_of (codes "a"))) (export_specifier_of b (name_of (codes "c"))))) ≡ codes "export { a, b as c };"
  pub an_export_from : printed (of_parts Kind.ExportFromDeclaration (list (two (export_specifier_of (string_of (codes "a")) (string_of (codes "a"))) (export_specifier_of (name_of (codes "a")) (string_of (codes "a"))))) (string_of (codes "s"))) ≡ codes "export { 'a', a as 'a' } from 's';"
  pub an_export : printed (export_declaration_of (const_of (codes "i") one_number)) ≡ codes "export const i = 1;"
  pub a_default : printed (of_part Kind.ExportDefaultDeclaration (function_node Kind.FunctionDeclaration [] [] absent no_parameters no_body)) ≡ codes "export default function() {}"
  pub a_default_expression : printed (of_part Kind.ExportDefaultDeclaration (call_link false plain_function none)) ≡ codes "export default (function() {}());"

-- expressions of a place's own (13.2)
pub record PrimaryRows : Type 0 where
  pub a_string : printed (string_of (codes "it's \\\n\r")) ≡ codes "'it\\'s \\\\\\n\\r'"
  pub a_bigint : printed (of_text Kind.BigIntLiteral (codes "1n")) ≡ codes "1n"
  pub a_boolean : printed (boolean_of true) ≡ codes "true"
  pub a_null : printed (alone Kind.NullLiteral) ≡ codes "null"
  pub a_regexp : printed (regexp_of (codes "a") (codes "gy")) ≡ codes "/a/gy"
  pub a_template : printed (template_of (element_of (codes "x") ∷ element_of (codes "y") ∷ element_of [] ∷ []) (a ∷ sequence_of (two a b) ∷ [])) ≡ codes "`x${a}y${a, b}`"
  pub a_this : printed (alone Kind.ThisExpression) ≡ codes "this"
  pub a_meta : printed (alone Kind.ImportMeta) ≡ codes "import.meta"
  pub a_target : printed (alone Kind.NewTarget) ≡ codes "new.target"
  pub in_parentheses : printed (parenthesized_of (sequence_of (two a b))) ≡ codes "(a, b)"
  pub an_array : printed (array_of (all (a ∷ absent ∷ spread_a ∷ sequence_of (two a b) ∷ []))) ≡ codes "[a, , ...a, (a, b)]"
  pub a_hole : printed (array_of (two a absent)) ≡ codes "[a, ,]"
  pub no_properties : printed (object_of none) ≡ codes "{}"
  pub an_object : printed (object_of (all (property (codes "init") false false false key_k a ∷ property (codes "init") false true false (name_of (codes "a")) a ∷ property (codes "init") false false true a b ∷ spread_a ∷ []))) ≡ codes "{ k: a, a, [a]: b, ...a }"
  pub methods : printed (object_of (all (property (codes "init") true false false key_k (function_of_x (codes "async") (codes "*")) ∷ property (codes "get") false false false key_k plain_function ∷ property (codes "set") false false true a (function_of_x [] []) ∷ []))) ≡ codes "{ async *k(x) { return x; }, get k() {}, set [a](x) { return x; } }"
  pub a_function : printed (function_of_x (codes "async") []) ≡ codes "async function(x) { return x; }"
  pub a_named_class : printed (class_node Kind.ClassExpression (binding_of (codes "A")) (new_of a none) []) ≡ codes "class A extends new a() {}"
  pub a_class : printed (class_node Kind.ClassExpression absent absent (field_node false [] key_k absent ∷ field_node true (codes "static") a (sequence_of (two a b)) ∷ method_node (codes "method") false (codes "static") (private_of (codes "p")) plain_function ∷ method_node (codes "constructor") false [] (name_of (codes "constructor")) plain_function ∷ of_list Kind.StaticBlock (one then_a) ∷ [])) ≡ codes "class { k; static [a] = (a, b); static #p() {} constructor() {} static { a; } }"

-- 13.3 to 13.16
pub record OperationRows : Type 0 where
  pub a_sequence : printed (statement_of (sequence_of (two a (assigned b c)))) ≡ codes "a, b = c;"
  pub an_assignment : printed (assigned a (arrow_of [] parameters_x (sequence_of (two a b)))) ≡ codes "a = (x) => (a, b)"
  pub an_object_body : printed (arrow_of (codes "async") no_parameters (object_of none)) ≡ codes "async () => ({})"
  pub a_block_body : printed (arrow_of [] no_parameters (body_node (of_text Kind.Directive (codes "'use x'") ∷ []) (return_of a ∷ []))) ≡ codes "() => { 'use x'; return a; }"
  pub yields : printed (sequence_of (three (marked Kind.YieldExpression [] (one absent)) (marked Kind.YieldExpression [] (one a)) (marked Kind.YieldExpression (codes "*") (one a)))) ≡ codes "yield, yield a, yield* a"
  pub a_conditional : printed (node Kind.ConditionalExpression [] (three (assigned a b) (assigned a b) (assigned a b))) ≡ codes "(a = b) ? a = b : a = b"
  pub an_or : printed (logical_of (codes "||") (logical_of (codes "||") a b) (logical_of (codes "||") a b)) ≡ codes "a || b || (a || b)"
  pub an_and : printed (logical_of (codes "&&") (logical_of (codes "||") a b) (binary_of (codes "|") a b)) ≡ codes "(a || b) && a | b"
  pub a_coalescing : printed (logical_of (codes "??") (logical_of (codes "??") a b) (logical_of (codes "&&") a b)) ≡ codes "a ?? b ?? (a && b)"
  pub a_mixed_coalescing : printed (logical_of (codes "??") (logical_of (codes "||") a b) c) ≡ codes "(a || b) ?? c"
  pub a_difference : printed (binary_of (codes "-") (binary_of (codes "-") a b) (binary_of (codes "-") a b)) ≡ codes "a - b - (a - b)"
  pub a_power : printed (binary_of (codes "**") (marked Kind.UnaryExpression (codes "typeof") (one a)) (binary_of (codes "**") a b)) ≡ codes "(typeof a) ** a ** b"
  pub a_private_in : printed (of_parts Kind.PrivateInExpression (private_of (codes "p")) a) ≡ codes "#p in a"
  pub an_in : text false never (binary_of (codes "in") a b) ≡ codes "(a in b)"
  pub an_in_between : text false never (node Kind.ConditionalExpression [] (three a (binary_of (codes "in") a b) (binary_of (codes "in") a b))) ≡ codes "a ? a in b : (a in b)"
  pub signs : printed (marked Kind.UnaryExpression (codes "-") (one (marked Kind.UnaryExpression (codes "-") (one (marked Kind.UnaryExpression (codes "+") (one (update_of (codes "++") true a))))))) ≡ codes "- -+ ++a"
  pub an_await : printed (await_of (await_of (binary_of (codes "+") a b))) ≡ codes "await await (a + b)"
  pub an_update : printed (update_of (codes "--") false (static_link false a (codes "x"))) ≡ codes "a.x--"
  pub a_chain : printed (static_link false (of_part Kind.ChainExpression (call_link false (computed_link true (private_link true a (codes "p")) b) (one spread_a))) (codes "x")) ≡ codes "(a?.#p?.[b](...a)).x"
  pub a_chain_of_links : printed (of_part Kind.ChainExpression (call_link true (static_link true a (codes "x")) none)) ≡ codes "a?.x?.()"
  pub a_number_object : printed (static_link false (computed_link false one_number a) (codes "x")) ≡ codes "(1)[a].x"
  pub a_call : printed (call_link false (arrow_of [] no_parameters a) (two (sequence_of (two a b)) c)) ≡ codes "(() => a)((a, b), c)"
  pub a_super_call : printed (call_link false super_of (one a)) ≡ codes "super(a)"
  pub an_import : printed (of_parts Kind.ImportExpression (string_of (codes "m")) (object_of none)) ≡ codes "import('m', {})"
  pub a_tagged : printed (of_parts Kind.TaggedTemplateExpression (call_link false a none) (template_of (element_of (codes "x") ∷ []) [])) ≡ codes "a()`x`"
  pub a_new : printed (new_of (static_link false (call_link false a none) (codes "x")) none) ≡ codes "new (a().x)()"
  pub a_string_statement : printed (statement_of (string_of (codes "x"))) ≡ codes "('x');"
  pub a_definition_statement : printed (statement_of (assigned (static_link false plain_function (codes "x")) a)) ≡ codes "(function() {}.x = a);"
  pub a_brace_sequence : printed (statement_of (sequence_of (two (object_of none) a))) ≡ codes "({}, a);"
  pub a_brace_statement : printed (statement_of (assigned (rested Kind.ObjectAssignmentTarget [] absent) a)) ≡ codes "({} = a);"

-- patterns and parameters (13.15.5, 14.3.3, 15.1)
pub record PatternRows : Type 0 where
  pub parameters : printed (rested Kind.FormalParameters (parameter_of pattern_x (sequence_of (two a b)) ∷ []) (of_part Kind.FormalParameterRest (of_part Kind.BindingRestElement (binding_of (codes "r"))))) ≡ codes "(x = (a, b), ...r)"
  pub an_object_pattern : printed (rested Kind.ObjectPattern (pair_of Kind.BindingProperty false false key_k pattern_x ∷ pair_of Kind.BindingProperty true false a (of_parts Kind.AssignmentPattern pattern_x b) ∷ pair_of Kind.BindingProperty false true (name_of (codes "x")) (of_parts Kind.AssignmentPattern pattern_x b) ∷ []) (of_part Kind.BindingRestElement (binding_of (codes "r")))) ≡ codes "{ k: x, [a]: x = b, x = b, ...r }"
  pub a_rest : printed (rested Kind.ObjectPattern [] (of_part Kind.BindingRestElement (binding_of (codes "r")))) ≡ codes "{ ...r }"
  pub an_array_pattern : printed (rested Kind.ArrayPattern (absent ∷ pattern_x ∷ absent ∷ []) absent) ≡ codes "[, x, ,]"
  pub an_array_rest : printed (rested Kind.ArrayPattern (absent ∷ []) (of_part Kind.BindingRestElement pattern_x)) ≡ codes "[, ...x]"
  pub an_array_target : printed (assigned (rested Kind.ArrayAssignmentTarget (of_parts Kind.AssignmentTargetWithDefault (static_link false a (codes "x")) b ∷ []) (of_part Kind.AssignmentTargetRest a)) c) ≡ codes "[a.x = b, ...a] = c"
  pub an_object_target : printed (rested Kind.ObjectAssignmentTarget (pair_of Kind.AssignmentTargetProperty false false key_k a ∷ pair_of Kind.AssignmentTargetProperty false true (name_of (codes "a")) a ∷ []) absent) ≡ codes "{ k: a, a }"

pub record WorkedRows : Type 0 where
  pub statements : StatementRows
  pub modules : ModuleRows
  pub primaries : PrimaryRows
  pub operations : OperationRows
  pub patterns : PatternRows
