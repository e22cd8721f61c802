-- Module trees, each beside the same tree with the one change after which it is none. The law
-- `module_tree_examples` says that each line holds.
use Rattle.std.specs.Prelude.{◌≡◌, ℕ, List, [], ◌∷◌, true, replicate, false, codes}
use Rattle.js_term.specs.Term.{Text, Term, absent, node, none, one, two}
use Rattle.js_term.specs.declared.kind.Kind.TheVariants as Kind
use Rattle.js_term.specs.Node.{identifier_of, binding_of, name_of, string_of, statement_of, member_of, call_of, body_of}
use Rattle.js_syntax.specs.ModuleTree.{is_module_tree, is_module_value, has_leave_in, no_leave}
use Rattle.js_syntax.specs.Printable.{is_printable}
use Rattle.js_syntax.specs.Trees.{a, binding_a, key_a, private_a, label_of, the_arguments, super, super_a, super_call, new_target, await_a, yield_none, computed_of, private_member_of, assignment_of, update_of, array_of, no_parameters, no_statements, parameter_with, rest_parameters, function_with, declared_function, plain, async, generator, function_a, function_doing, arrow, async_arrow, empty_statement, block, while, labeled, for_in, for_of, for_await, for_from, switch, break, continue, return_none, declaration, array_pattern, array_target, object_target, target_with, property, property_a, object_method, class_a, class_extends, method_with, of_kind, method_doing, constructor_doing, field, computed_field, static_block, import_of, default_a, namespace_a, named_a, export_of, export_declared, module_of, Tells}

-- of modules of one statement, and of one expression
abbrev pub Statement : Term → Term → Type 0
Statement = Tells (λ t. is_module_tree (module_of t))

abbrev pub Expression : Term → Term → Type 0
Expression = Tells (λ t. is_module_tree (module_of (statement_of t)))

-- functions and classes whose parts are as shown

-- async function a() { await a; } with a function or arrow inside in place of the statement
abbrev pub in_async : Term → Term
in_async t = function_a async (one (statement_of t))

abbrev pub in_function : Term → Term
in_function t = function_a plain (one (statement_of t))

abbrev pub in_generator : Term → Term
in_generator t = function_a generator (one (statement_of t))

-- function a(a = t) { }, with these flags
abbrev pub function_by_default : List Text → Term → Term
function_by_default flags t = declared_function flags binding_a (parameter_with t) no_statements

abbrev pub arrow_by_default : Term → Term
arrow_by_default t = node Kind.ArrowFunctionExpression (codes "async" ∷ []) (two (parameter_with t) a)

-- a method whose one parameter has the default t
abbrev pub method_by_default : Term → Term
method_by_default t = method_with (of_kind (codes "method")) key_a (function_with plain absent (parameter_with t) no_statements)

-- class { a = t }, class { static { t; } }
abbrev pub in_field : Term → Term
in_field t = class_a (one (field key_a t))

abbrev pub in_static_block : Term → Term
in_static_block t = class_a (one (static_block (one (statement_of t))))

-- { a: function () { t; } }
abbrev pub in_value : Term → Term
in_value t = property_a (function_doing plain t)

-- get a() { t; }, of an object
abbrev pub getter_doing : Term → Term
getter_doing t = property (codes "get" ∷ [] ∷ [] ∷ [] ∷ []) key_a (function_doing plain t)

-- a getter or a setter, of a class and of an object
abbrev pub accessor : Text → Term → Term
accessor kind parameters = class_a (one (method_with (of_kind kind) key_a (function_with plain absent parameters no_statements)))

abbrev pub object_accessor : Text → Term → Term
object_accessor kind parameters = property (kind ∷ [] ∷ [] ∷ [] ∷ []) key_a (function_with plain absent parameters no_statements)

abbrev pub label_a : Term
label_a = label_of (codes "a")

-- a: t
abbrev pub labeled_a : Term → Term
labeled_a = labeled (codes "a")

-- a binding and a reference named `eval`
abbrev pub binding_eval : Term
binding_eval = binding_of (codes "eval")

abbrev pub eval : Term
eval = identifier_of (codes "eval")

abbrev pub const_a : Term → Term
const_a init = declaration (codes "const") binding_a init

abbrev pub let_pattern : Term → Term
let_pattern init = declaration (codes "let") (array_pattern binding_a) init

-- #a in a
abbrev pub private_in_a : Term
private_in_a = node Kind.PrivateInExpression [] (two private_a a)

abbrev pub field_a : Term
field_a = field private_a absent

abbrev pub empty_constructor : Term
empty_constructor = constructor_doing a

-- a name of this many letters
abbrev pub long_name : ℕ → Term
long_name n = identifier_of (replicate n 97)

pub record ModuleTreeExamples : Type 0 where
  -- 1. imports and exports
  pub an_import_at_the_root : Statement (import_of (one named_a)) (block (one (import_of (one named_a))))
  pub an_export_at_the_root : Statement (export_declared (const_a a)) (function_a plain (one (export_declared (const_a a))))
  pub a_local_identifier : Statement (export_of a) (export_of (string_of (codes "a")))
  pub a_namespace_behind_a_default : Statement (import_of (two default_a namespace_a)) (import_of (two namespace_a default_a))
  pub one_namespace : Statement (import_of (one namespace_a)) (import_of (two named_a namespace_a))
  pub an_exported_name : Statement (export_declared (function_a plain none)) (export_declared (declared_function plain absent no_parameters no_statements))
  -- 2. `await`, `yield`, `return`, `new.target`
  pub await_at_the_root : Expression await_a (in_value await_a)
  pub await_in_an_async_function : Statement (in_async await_a) (in_function await_a)
  pub await_in_an_async_arrow : Expression (async_arrow await_a) (arrow await_a)
  pub the_innermost_function_decides : Statement (in_async (async_arrow await_a)) (in_async (arrow await_a))
  pub no_await_in_parameters : Statement (in_async await_a) (function_by_default async await_a)
  pub nor_in_an_arrow's : Expression (async_arrow await_a) (arrow_by_default await_a)
  pub no_await_in_a_field : Statement (class_a (one (computed_field await_a a))) (in_field await_a)
  pub no_await_in_a_static_block : Statement (class_extends await_a none) (in_static_block await_a)
  pub for_await_at_the_root : Statement (for_await a) (function_a plain (one (for_await a)))
  pub for_await_in_an_async_function : Statement (function_a async (one (for_await a))) (function_a generator (one (for_await a)))
  pub a_plain_loop_anywhere : Statement (function_a plain (one (for_of a))) (function_a plain (one (for_await a)))
  pub yield_in_a_generator : Statement (in_generator yield_none) (in_async yield_none)
  pub no_yield_at_the_root : Statement (in_generator yield_none) (statement_of yield_none)
  pub no_yield_in_an_arrow : Statement (in_generator (array_of (one yield_none))) (in_generator (arrow yield_none))
  pub no_yield_in_parameters : Statement (in_generator yield_none) (function_by_default generator yield_none)
  pub return_in_a_function : Statement (function_a plain (one return_none)) return_none
  pub return_in_an_arrow : Statement (statement_of (node Kind.ArrowFunctionExpression ([] ∷ []) (two no_parameters (body_of (one return_none))))) (block (one return_none))
  pub no_return_in_a_static_block : Statement (function_a plain (one (block (one return_none)))) (function_a plain (one (class_a (one (static_block (one return_none))))))
  pub target_in_a_function : Statement (in_function new_target) (statement_of new_target)
  pub target_in_parameters : Statement (function_by_default plain new_target) (statement_of (arrow_by_default new_target))
  pub target_in_an_arrow_there : Statement (in_function (arrow new_target)) (statement_of (arrow new_target))
  pub target_in_a_field : Statement (in_field new_target) (class_a (one (computed_field new_target a)))
  pub target_in_a_static_block : Statement (in_static_block new_target) (class_extends new_target none)
  -- 3. `super`
  pub super_in_a_method : Statement (class_a (one (method_doing super_a))) (in_function super_a)
  pub super_in_brackets : Statement (class_a (one (method_doing (computed_of super a)))) (in_function (computed_of super a))
  pub super_in_a_method's_parameters : Statement (class_a (one (method_by_default super_a))) (function_by_default plain super_a)
  pub super_in_an_arrow_there : Statement (class_a (one (method_doing (arrow super_a)))) (class_a (one (method_doing (function_doing plain super_a))))
  pub super_in_an_object's_method : Expression (object_method super_a) (in_value super_a)
  pub super_in_an_object's_getter : Expression (getter_doing super_a) (in_value super_a)
  pub super_in_a_field : Statement (in_field super_a) (class_a (one (computed_field super_a a)))
  pub super_in_a_static_block : Statement (in_static_block super_a) (class_extends super_a none)
  pub super_call_in_a_constructor : Statement (class_extends a (one (constructor_doing super_call))) (class_a (one (constructor_doing super_call)))
  pub no_super_call_in_a_method : Statement (class_extends a (one (constructor_doing super_call))) (class_extends a (one (method_doing super_call)))
  pub super_call_in_an_arrow_there : Statement (class_extends a (one (constructor_doing (arrow super_call)))) (class_extends a (one (constructor_doing (function_doing plain super_call))))
  pub no_super_call_in_a_field : Statement (class_extends a (one (field key_a super_a))) (class_extends a (one (field key_a super_call)))
  pub no_super_call_in_a_static_block : Statement (class_extends a (one (static_block (one (statement_of super_a))))) (class_extends a (one (static_block (one (statement_of super_call)))))
  pub super_member_in_a_constructor : Statement (class_a (one (constructor_doing super_a))) (class_a (one (constructor_doing super_call)))
  -- 4. labels
  pub break_in_a_loop : Statement (while (break absent)) (break absent)
  pub break_in_a_switch : Statement (switch (one (break absent))) (block (one (break absent)))
  pub continue_in_a_loop : Statement (while (continue absent)) (continue absent)
  pub no_continue_in_a_switch : Statement (while (switch (one (continue absent)))) (switch (one (continue absent)))
  pub break_to_a_label : Statement (labeled_a (break label_a)) (break label_a)
  pub break_to_its_own_label : Statement (labeled_a (break label_a)) (labeled (codes "b") (break label_a))
  pub continue_to_a_loop : Statement (labeled_a (while (continue label_a))) (labeled_a (block (one (while (continue label_a)))))
  pub continue_to_a_loop_of_two_labels : Statement (labeled_a (labeled (codes "b") (while (continue label_a)))) (labeled_a (labeled (codes "b") (continue label_a)))
  pub no_label_of_an_outer_function : Statement (labeled_a (while (break label_a))) (labeled_a (while (statement_of (function_with plain absent no_parameters (body_of (one (break label_a)))))))
  pub no_loop_round_an_arrow : Statement (while (block (one (break absent)))) (while (statement_of (node Kind.ArrowFunctionExpression ([] ∷ []) (two no_parameters (body_of (one (break absent)))))))
  pub no_loop_round_a_static_block : Statement (while (block (one (break absent)))) (while (block (one (class_a (one (static_block (one (break absent))))))))
  pub nested_labels_differ : Statement (labeled_a (labeled (codes "b") empty_statement)) (labeled_a (labeled_a empty_statement))
  pub labels_of_an_arrow_begin_anew : Statement (labeled_a (statement_of (node Kind.ArrowFunctionExpression ([] ∷ []) (two no_parameters (body_of (one (labeled_a empty_statement))))))) (labeled_a (block (one (labeled_a empty_statement))))
  -- 5. names
  pub no_binding_named_eval : Statement (declaration (codes "let") binding_a a) (declaration (codes "let") binding_eval a)
  pub no_parameter_named_arguments : Statement (function_a plain none) (declared_function plain (binding_of (codes "arguments")) no_parameters no_statements)
  pub a_reference_to_eval : Expression (call_of eval none) (assignment_of (codes "=") eval a)
  pub no_update_of_arguments : Expression (update_of (member_of the_arguments (codes "a"))) (update_of the_arguments)
  pub no_eval_in_an_array : Expression (assignment_of (codes "=") (array_target a) eval) (assignment_of (codes "=") (array_target eval) a)
  pub no_eval_with_a_default : Expression (assignment_of (codes "=") (array_target (target_with a eval)) a) (assignment_of (codes "=") (array_target (target_with eval a)) a)
  pub no_eval_in_an_object : Expression (assignment_of (codes "=") (object_target plain (name_of (codes "eval")) a) a) (assignment_of (codes "=") (object_target plain key_a eval) a)
  pub no_eval_in_a_head : Statement (for_in a) (for_in eval)
  pub no_eval_of_a_head : Statement (for_of a) (for_of eval)
  pub arguments_of_a_function : Statement (in_function the_arguments) (in_field the_arguments)
  pub no_arguments_in_an_arrow_there : Statement (in_field (function_doing plain the_arguments)) (in_field (arrow the_arguments))
  pub no_arguments_in_a_static_block : Statement (class_a (one (method_doing the_arguments))) (in_static_block the_arguments)
  pub arguments_of_a_method_there : Statement (in_static_block (object_method the_arguments)) (in_static_block (property_a the_arguments))
  pub arguments_in_a_key : Statement (class_a (one (computed_field the_arguments a))) (class_a (one (computed_field a the_arguments)))
  pub a_declared_private_name : Statement (class_a (two field_a (method_doing (private_member_of a)))) (class_a (two (field key_a absent) (method_doing (private_member_of a))))
  pub a_private_name_before_its_key : Statement (class_a (two (method_doing private_in_a) field_a)) (class_a (one (method_doing private_in_a)))
  pub a_private_name_of_an_outer_class : Statement (class_a (two field_a (static_block (one (class_a (one (method_doing private_in_a))))))) (class_a (one (static_block (two (class_a (one field_a)) (statement_of private_in_a)))))
  pub a_private_name_in_a_key : Statement (class_a (two field_a (computed_field (private_member_of a) a))) (class_a (two (field key_a absent) (computed_field (private_member_of a) a)))
  pub none_in_the_heritage : Statement (class_a (two field_a (computed_field (private_member_of a) a))) (class_extends (private_member_of a) (one field_a))
  pub but_one_of_an_outer_class : Statement (class_a (two field_a (static_block (one (class_extends (private_member_of a) none))))) (class_a (one (static_block (one (class_extends (private_member_of a) (one field_a))))))
  -- 6. parameters, initializers, constructors
  pub a_getter : Statement (accessor (codes "get") no_parameters) (accessor (codes "get") (parameter_with absent))
  pub a_setter : Statement (accessor (codes "set") (parameter_with absent)) (accessor (codes "set") no_parameters)
  pub a_setter_without_rest : Statement (accessor (codes "set") (parameter_with a)) (accessor (codes "set") rest_parameters)
  pub a_getter_of_an_object : Expression (object_accessor (codes "get") no_parameters) (object_accessor (codes "get") rest_parameters)
  pub a_setter_of_an_object : Expression (object_accessor (codes "set") (parameter_with absent)) (object_accessor (codes "set") no_parameters)
  pub a_constant_has_a_value : Statement (const_a a) (const_a absent)
  pub but_for_a_loop's : Statement (for_of (const_a absent)) (for_from (const_a absent))
  pub a_variable_may_lack_one : Statement (declaration (codes "let") binding_a absent) (const_a absent)
  pub a_pattern_has_a_value : Statement (let_pattern a) (let_pattern absent)
  pub but_for_a_loop's_pattern : Statement (for_in (let_pattern absent)) (for_from (let_pattern absent))
  pub one_constructor : Statement (class_a (two empty_constructor (method_doing a))) (class_a (two empty_constructor empty_constructor))
  pub one_declarator_of_for_await : Statement (for_await (const_a absent)) (for_await (const_a a))
  -- names have 65535 bytes at most
  pub a_long_name : Expression (long_name 65535) (long_name 65536)
  pub a_long_name_is_printable : is_printable (module_of (statement_of (long_name 65536))) ≡ true
  -- values at module level, and those that await nothing
  pub a_value : Tells is_module_value await_a (function_doing plain await_a)
  pub a_value_that_awaits_nothing : Tells (has_leave_in (no_leave false)) (async_arrow await_a) await_a
