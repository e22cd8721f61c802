-- Printable trees, each beside the same tree with the one change after which it is not printable. The law
-- `printable_examples` says that each line holds.
use Rattle.std.specs.Prelude.{List, [], ◌∷◌, codes}
use Rattle.js_term.specs.Term.{Text, Term, absent, list, node, Terms, none, more, one, two}
use Rattle.js_term.specs.declared.kind.Kind.{Kind}
use Rattle.js_term.specs.Node.{identifier_of, binding_of, name_of, string_of, number_of, statement_of, call_of, member_of, sequence_of, parenthesized_of}
use Rattle.js_syntax.specs.Sorts.{Sort}
use Rattle.js_syntax.specs.Printable.{is_printable, is_printable_at}
use Rattle.js_syntax.specs.Trees.{a, b, binding_a, key_a, private_a, super, super_a, super_call, linked, chain_of, computed_of, private_member_of, assignment_of, binary_of, element_of, template_of, tagged_of, spread_of, array_of, no_parameters, no_statements, parameter_with, function_with, declared_function, plain, async, generator, function_a, function_doing, empty_statement, block, if_else, while, labeled, for_in, for_of, for_await, switch, declarator, declaration, array_pattern, pattern_with, object_pattern, object_rest_of, array_target, object_target, object_target_rest_of, target_with, object_of_one, property, property_a, object_method, class_body_of, class_a, method_with, of_kind, method_doing, field, import_of, default_a, namespace_a, named_a, export_of, export_from, export_default, export_declared, static_block, module_of, Tells}

abbrev pub Expression : Term → Term → Type 0
Expression = Tells (is_printable_at Sort.expression)

abbrev pub Statement : Term → Term → Type 0
Statement = Tells (is_printable_at Sort.statement)

-- an import, an export or a statement
abbrev pub Item : Term → Term → Type 0
Item = Tells (is_printable_at Sort.module_item)

abbrev pub Modules : Term → Term → Type 0
Modules = Tells is_printable

-- of modules of one item
abbrev pub Module : Term → Term → Type 0
Module = Tells (λ t. is_printable (module_of t))

-- try { } handler finalizer
abbrev pub try_of : Term → Term → Term
try_of handler finalizer = node Kind.TryStatement [] (more (block none) (two handler finalizer))

abbrev pub catch_all : Term
catch_all = node Kind.CatchClause [] (two absent (block none))

-- var with these declarators
abbrev pub var_of : Terms → Term
var_of ts = node Kind.VariableDeclaration (codes "var" ∷ []) (one (list ts))

-- var t = a;
abbrev pub var_a : Term → Term
var_a t = declaration (codes "var") t a

-- a class declaration and a function declaration without a name
abbrev pub class_unnamed : Term
class_unnamed = node Kind.ClassDeclaration [] (more absent (two absent (class_body_of none)))

abbrev pub function_unnamed : Term
function_unnamed = declared_function plain absent no_parameters no_statements

-- a directive, a hashbang
abbrev pub with_directive : Text → Term
with_directive raw = node Kind.Program [] (two (list (one (node Kind.Directive (raw ∷ []) none))) (list none))

abbrev pub with_hashbang : Text → Term
with_hashbang x = node Kind.Program (x ∷ []) (two (list none) (list none))

abbrev pub yield_with : Text → Term → Term
yield_with star t = node Kind.YieldExpression (star ∷ []) (one t)

-- a literal with this raw text
abbrev pub literal : Kind → Text → Term
literal k raw = node k (raw ∷ []) none

abbrev pub regexp : Text → Text → Term
regexp pattern flags = node Kind.RegExpLiteral (pattern ∷ flags ∷ []) none

-- a class with one method that does nothing: its texts, its key and the flags of its function
abbrev pub method_like : List Text → Term → List Text → Term
method_like texts key flags = class_a (one (method_with texts key (function_with flags absent no_parameters no_statements)))

abbrev pub constructor_name : Term
constructor_name = name_of (codes "constructor")

abbrev pub computed : Text → List Text
computed kind = kind ∷ codes "computed" ∷ [] ∷ []

abbrev pub static : Text → List Text
static kind = kind ∷ [] ∷ codes "static" ∷ []

-- import { a } from 'a'; export default a;
abbrev pub import_a : Term
import_a = import_of (one named_a)

abbrev pub export_a : Term
export_a = export_default a

-- { a } with a mark of shorthand
abbrev pub shorthand_property : Term → Term
shorthand_property t = property (codes "init" ∷ [] ∷ codes "shorthand" ∷ [] ∷ []) key_a t

abbrev pub shorthand : List Text
shorthand = [] ∷ codes "shorthand" ∷ []

-- a.b?.b, a link on the object of a member, and a link in parentheses
abbrev pub link : Term
link = linked a (codes "b")

pub record PrintableExamples : Type 0 where
  -- the parts without which there is no such form
  pub a_handler : Statement (try_of catch_all absent) (try_of absent absent)
  pub a_finalizer : Statement (try_of absent (block none)) (try_of absent absent)
  pub a_declarator : Statement (var_of (one (declarator binding_a absent))) (var_of none)
  pub one_text_more : Expression (template_of (two (element_of []) (element_of [])) (one a)) (template_of (one (element_of [])) (one a))
  pub one_text : Expression (template_of (one (element_of [])) none) (template_of none none)
  pub a_function_has_a_name : Statement (function_a plain none) function_unnamed
  pub an_exported_function_too : Item (export_declared (function_a plain none)) (export_declared function_unnamed)
  pub but_for_a_default : Item (export_default function_unnamed) function_unnamed
  pub a_class_has_a_name : Statement (class_a none) class_unnamed
  pub but_for_a_default_class : Item (export_default class_unnamed) (export_declared class_unnamed)
  pub two_in_a_sequence : Expression (sequence_of (two a b)) (sequence_of (one a))
  pub one_default : Statement (switch none) (node Kind.SwitchStatement [] (two a (list (two (node Kind.SwitchCase [] (two absent (list none))) (node Kind.SwitchCase [] (two absent (list none)))))))
  pub an_argument_of_yield : Expression (yield_with (codes "*") a) (yield_with (codes "*") absent)
  pub all_parts : Statement (while empty_statement) (node Kind.WhileStatement [] (one a))
  pub no_further_part : Expression (array_of none) (node Kind.ArrayExpression [] (two (list none) a))
  -- what stands at a place
  pub an_elision : Expression (array_of (one absent)) (call_of a (one absent))
  pub a_spread : Expression (call_of a (one (spread_of b))) (sequence_of (two a (spread_of b)))
  pub a_spread_property : Expression (object_of_one (spread_of a)) (object_of_one a)
  pub a_private_key : Statement (class_a (one (field private_a a))) (statement_of (property (codes "init" ∷ [] ∷ [] ∷ [] ∷ []) private_a a))
  pub a_computed_key : Expression (property (codes "init" ∷ [] ∷ [] ∷ codes "computed" ∷ []) a b) (property (codes "init" ∷ [] ∷ [] ∷ [] ∷ []) a b)
  pub a_string_key : Expression (property (codes "init" ∷ [] ∷ [] ∷ [] ∷ []) (string_of (codes "a b")) b) (property (codes "init" ∷ [] ∷ [] ∷ [] ∷ []) (template_of (one (element_of [])) none) b)
  pub a_default_in_an_array : Statement (var_a (array_pattern (pattern_with binding_a b))) (var_a (pattern_with binding_a b))
  pub a_default_of_a_property : Statement (var_a (object_pattern plain key_a (pattern_with binding_a b))) (var_a (object_pattern plain key_a (pattern_with (pattern_with binding_a b) b)))
  pub no_default_of_a_parameter : Expression (function_with plain absent (parameter_with b) no_statements) (function_with plain absent (node Kind.FormalParameters [] (two (list (one (node Kind.FormalParameter [] (two (pattern_with binding_a b) absent)))) absent)) no_statements)
  pub a_name_as_rest : Statement (var_a (object_rest_of binding_a)) (var_a (object_rest_of (array_pattern binding_a)))
  pub a_target_as_rest : Expression (assignment_of (codes "=") (object_target_rest_of a) b) (assignment_of (codes "=") (object_target_rest_of (array_target a)) b)
  pub a_pattern_by_equals : Expression (assignment_of (codes "=") (array_target a) b) (assignment_of (codes "+=") (array_target a) b)
  pub a_target : Expression (assignment_of (codes "+=") (member_of a (codes "b")) b) (assignment_of (codes "+=") (call_of a none) b)
  pub a_head_without_value : Statement (for_of (declaration (codes "const") binding_a absent)) (for_of (declaration (codes "const") binding_a b))
  pub a_head_of_one : Statement (for_in (var_of (one (declarator binding_a absent)))) (for_in (var_of (two (declarator binding_a absent) (declarator binding_a absent))))
  -- imports and exports stand in the module's own list
  pub an_import : Module import_a (block (one import_a))
  pub an_export : Module export_a (block (one export_a))
  pub no_import_in_a_function : Module (function_a plain none) (function_a plain (one import_a))
  pub no_export_in_a_function : Module (function_a plain none) (function_a plain (one export_a))
  pub no_import_behind_a_label : Module (labeled (codes "a") empty_statement) (labeled (codes "a") import_a)
  pub no_export_behind_a_label : Module (labeled (codes "a") empty_statement) (labeled (codes "a") export_a)
  pub no_import_in_an_if : Module (if_else empty_statement absent) (if_else import_a absent)
  pub no_export_in_an_if : Module (if_else empty_statement absent) (if_else export_a absent)
  pub no_import_in_a_static_block : Module (class_a (one (static_block none))) (class_a (one (static_block (one import_a))))
  pub no_export_in_a_static_block : Module (class_a (one (static_block none))) (class_a (one (static_block (one export_a))))
  pub no_export_in_a_case : Module (switch none) (switch (one export_a))
  pub no_export_as_a_statement : Statement empty_statement export_a
  pub a_name_of_another_module : Item (export_from (string_of (codes "b"))) (export_from a)
  pub a_name_of_this_module : Item (export_of a) (export_of key_a)
  pub a_namespace_last : Item (import_of (two default_a namespace_a)) (import_of (two named_a namespace_a))
  pub a_default_first : Item (import_of (two default_a named_a)) (import_of (two named_a default_a))
  pub one_default_import : Item (import_of (one default_a)) (import_of (two default_a default_a))
  -- texts
  pub an_identifier_name : Expression (member_of a (codes "if")) (member_of a (codes "1"))
  pub a_reserved_reference : Expression (identifier_of (codes "as")) (identifier_of (codes "if"))
  pub a_reserved_binding : Statement (var_a (binding_of (codes "of"))) (var_a (binding_of (codes "let")))
  pub a_reserved_label : Statement (labeled (codes "a") empty_statement) (labeled (codes "yield") empty_statement)
  pub a_raw_number : Expression (number_of (codes "10")) (number_of (codes "a"))
  pub a_raw_big_integer : Expression (literal Kind.BigIntLiteral (codes "10n")) (literal Kind.BigIntLiteral (codes "10"))
  pub a_truth : Expression (literal Kind.BooleanLiteral (codes "true")) (literal Kind.BooleanLiteral (codes "yes"))
  pub a_directive : Modules (with_directive (codes "'use strict'")) (with_directive (codes "use strict"))
  pub a_hashbang : Modules (with_hashbang (codes "/usr/bin/env node")) (with_hashbang (codes "a\nb"))
  pub a_pattern : Expression (regexp (codes "a+") (codes "g")) (regexp [] (codes "g"))
  pub flags_of_a_pattern : Expression (regexp (codes "a+") (codes "g")) (regexp (codes "a+") (codes "1"))
  pub a_template_text : Expression (template_of (one (element_of (codes "a"))) none) (template_of (one (element_of (codes "`"))) none)
  pub a_sound_escape : Expression (template_of (one (element_of (codes "\\n"))) none) (template_of (one (element_of (codes "\\u"))) none)
  pub any_escape_behind_a_tag : Expression (tagged_of a (template_of (one (element_of (codes "\\u"))) none)) (template_of (one (element_of (codes "\\u"))) none)
  pub an_operator : Expression (binary_of (codes "instanceof") a b) (binary_of (codes "=>") a b)
  pub an_assignment_operator : Expression (assignment_of (codes "??=") a b) (assignment_of (codes "??") a b)
  pub a_flag : Statement (function_a async none) (function_a (codes "await" ∷ [] ∷ []) none)
  -- chains
  pub a_link_in_a_chain : Expression (chain_of link) link
  pub a_link_of_the_chain : Expression (chain_of link) (chain_of (member_of a (codes "b")))
  pub a_link_below : Expression (chain_of (call_of (member_of link (codes "a")) none)) (chain_of (call_of (member_of a (codes "a")) none))
  pub a_link_in_an_argument : Expression (chain_of (call_of link (one (chain_of link)))) (chain_of (call_of link (one link)))
  pub a_link_in_parentheses : Expression (member_of (parenthesized_of (chain_of link)) (codes "a")) (chain_of (member_of (parenthesized_of link) (codes "a")))
  pub a_link_below_a_template : Expression (tagged_of (chain_of link) (template_of (one (element_of [])) none)) (chain_of (member_of (tagged_of link (template_of (one (element_of [])) none)) (codes "a")))
  pub no_link_of_super : Statement (class_a (one (method_doing super_a))) (class_a (one (method_doing (chain_of (linked super (codes "a"))))))
  -- statements inside statements
  pub an_inner_if : Statement (if_else (if_else empty_statement empty_statement) empty_statement) (if_else (if_else empty_statement absent) empty_statement)
  pub an_if_in_a_block : Statement (if_else (block (one (if_else empty_statement absent))) empty_statement) (if_else (while (if_else empty_statement absent)) empty_statement)
  pub an_if_behind_else : Statement (if_else empty_statement (if_else empty_statement absent)) (if_else (if_else empty_statement (if_else empty_statement absent)) empty_statement)
  pub an_if_behind_a_label : Statement (if_else (labeled (codes "a") (if_else empty_statement absent)) absent) (if_else (labeled (codes "a") (if_else empty_statement absent)) empty_statement)
  pub a_target_named_async : Statement (for_await (identifier_of (codes "async"))) (for_of (identifier_of (codes "async")))
  pub a_member_of_async : Statement (for_of (member_of (identifier_of (codes "async")) (codes "a"))) (for_of (identifier_of (codes "async")))
  pub a_var_in_a_loop : Statement (while (var_a binding_a)) (while (declaration (codes "let") binding_a a))
  pub no_function_in_an_if : Statement (if_else (block (one (function_a plain none))) absent) (if_else (function_a plain none) absent)
  pub no_class_behind_a_label : Statement (block (one (class_a none))) (labeled (codes "a") (class_a none))
  -- `super`
  pub super_in_a_method : Statement (class_a (one (method_doing super_a))) (function_a plain (one (statement_of super_a)))
  pub super_as_an_object : Statement (class_a (one (method_doing super_a))) (class_a (one (method_doing super)))
  pub super_with_a_private_name : Statement (class_a (one (method_doing (computed_of super a)))) (class_a (one (method_doing (private_member_of super))))
  pub super_alone : Expression (object_method super_a) (object_method super_call)
  -- functions of methods
  pub an_unnamed_function : Statement (class_a (one (method_with (of_kind (codes "method")) key_a (function_with plain absent no_parameters no_statements)))) (class_a (one (method_with (of_kind (codes "method")) key_a (function_with plain binding_a no_parameters no_statements))))
  pub a_plain_getter : Statement (method_like (of_kind (codes "get")) key_a plain) (method_like (of_kind (codes "get")) key_a async)
  pub a_plain_setter : Statement (method_like (of_kind (codes "set")) key_a plain) (method_like (of_kind (codes "set")) key_a generator)
  pub a_plain_constructor : Statement (method_like (of_kind (codes "constructor")) constructor_name plain) (method_like (of_kind (codes "constructor")) constructor_name async)
  pub a_getter_of_an_object : Expression (property (codes "get" ∷ [] ∷ [] ∷ [] ∷ []) key_a (function_doing plain a)) (property (codes "get" ∷ [] ∷ [] ∷ [] ∷ []) key_a (function_doing async a))
  pub no_method_that_gets : Expression (property (codes "get" ∷ [] ∷ [] ∷ [] ∷ []) key_a (function_doing plain a)) (property (codes "get" ∷ codes "method" ∷ [] ∷ [] ∷ []) key_a (function_doing plain a))
  pub a_method_is_a_function : Expression (object_method a) (property (codes "init" ∷ codes "method" ∷ [] ∷ [] ∷ []) key_a a)
  pub a_value_may_be_named : Expression (property_a (function_with plain binding_a no_parameters no_statements)) (property (codes "init" ∷ codes "method" ∷ [] ∷ [] ∷ []) key_a (function_with plain binding_a no_parameters no_statements))
  pub a_constructor : Statement (method_like (of_kind (codes "constructor")) constructor_name plain) (method_like (of_kind (codes "method")) constructor_name plain)
  pub a_constructor_by_a_string : Statement (method_like (of_kind (codes "constructor")) (string_of (codes "constructor")) plain) (method_like (of_kind (codes "method")) (string_of (codes "constructor")) plain)
  pub no_other_constructor : Statement (method_like (of_kind (codes "method")) key_a plain) (method_like (of_kind (codes "constructor")) key_a plain)
  pub no_static_constructor : Statement (method_like (static (codes "method")) constructor_name plain) (method_like (static (codes "constructor")) constructor_name plain)
  pub no_constructor_in_brackets : Statement (method_like (computed (codes "method")) (string_of (codes "constructor")) plain) (method_like (computed (codes "constructor")) (string_of (codes "constructor")) plain)
  pub no_constructor_that_gets : Statement (method_like (of_kind (codes "get")) key_a plain) (method_like (of_kind (codes "get")) constructor_name plain)
  -- marks of shorthand
  pub a_mark : Expression (shorthand_property a) (shorthand_property b)
  pub a_mark_of_a_pattern : Statement (var_a (object_pattern shorthand key_a (pattern_with binding_a b))) (var_a (object_pattern shorthand (name_of (codes "b")) (pattern_with binding_a b)))
  pub a_mark_of_a_target : Expression (assignment_of (codes "=") (object_target shorthand key_a (target_with a b)) b) (assignment_of (codes "=") (object_target shorthand key_a (array_target a)) b)
