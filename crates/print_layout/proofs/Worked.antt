-- The worked rows, computed.
use Rattle.std.proofs.Common.{refl}
use Rattle.print_layout.specs.Examples.{StatementRows, ModuleRows, PrimaryRows, OperationRows, PatternRows, WorkedRows}

statement_rows : StatementRows
statement_rows = record { an_empty_block = refl; a_block = refl; a_break = refl; a_labeled_break = refl; a_continue = refl; a_debugger = refl; an_empty = refl; a_do = refl; a_for_in = refl; a_for_of = refl; a_for_await = refl; an_endless_for = refl; a_for = refl; an_if = refl; an_else = refl; a_label = refl; a_bare_return = refl; a_return = refl; a_throw = refl; an_empty_switch = refl; a_switch = refl; a_try = refl; a_bare_catch = refl; a_while = refl; variables = refl; a_function = refl; a_class = refl }

module_rows : ModuleRows
module_rows = record { no_items = refl; a_module = refl; a_bare_import = refl; an_empty_import = refl; a_default_import = refl; a_namespace_import = refl; named_imports = refl; an_export_all = refl; an_export_all_as = refl; exports = refl; an_export_from = refl; an_export = refl; a_default = refl; a_default_expression = refl }

primary_rows : PrimaryRows
primary_rows = record { a_string = refl; a_bigint = refl; a_boolean = refl; a_null = refl; a_regexp = refl; a_template = refl; a_this = refl; a_meta = refl; a_target = refl; in_parentheses = refl; an_array = refl; a_hole = refl; no_properties = refl; an_object = refl; methods = refl; a_function = refl; a_named_class = refl; a_class = refl }

operation_rows : OperationRows
operation_rows = record { a_sequence = refl; an_assignment = refl; an_object_body = refl; a_block_body = refl; yields = refl; a_conditional = refl; an_or = refl; an_and = refl; a_coalescing = refl; a_mixed_coalescing = refl; a_difference = refl; a_power = refl; a_private_in = refl; an_in = refl; an_in_between = refl; signs = refl; an_await = refl; an_update = refl; a_chain = refl; a_chain_of_links = refl; a_number_object = refl; a_call = refl; a_super_call = refl; an_import = refl; a_tagged = refl; a_new = refl; a_string_statement = refl; a_definition_statement = refl; a_brace_sequence = refl; a_brace_statement = refl }

pattern_rows : PatternRows
pattern_rows = record { parameters = refl; an_object_pattern = refl; a_rest = refl; an_array_pattern = refl; an_array_rest = refl; an_array_target = refl; an_object_target = refl }

pub worked_rows : WorkedRows
worked_rows = record { statements = statement_rows; modules = module_rows; primaries = primary_rows; operations = operation_rows; patterns = pattern_rows }
