-- The examples, computed.
use Rattle.std.proofs.Common.{refl}
use Rattle.scope_model.specs.Examples.{Examples}
use Rattle.scope_model.specs.ConflictExamples.{ConflictExamples}

pub examples : Examples
examples = record {
  var_in_a_block = refl;
  function_in_a_block = refl;
  labels = refl;
  a_labelled_function = refl;
  var_in_a_function = refl;
  let_in_a_loop_head = refl;
  var_in_a_loop_head = refl;
  cases_share_a_scope = refl;
  a_catch_clause = refl;
  a_catch_parameter_and_a_var = refl;
  a_default_sees_no_body_name = refl;
  a_default_sees_all_parameters = refl;
  an_arrow's_default = refl;
  an_own_name_is_covered = refl;
  a_declared_function = refl;
  global_arguments = refl;
  arguments_in_an_arrow = refl;
  arguments_declared = refl;
  arguments_in_a_field = refl;
  arguments_in_class_elements = refl;
  a_class_expression = refl;
  a_class_declaration = refl;
  a_static_block = refl;
  imports = refl;
  exports = refl;
  an_exported_expression = refl;
  hoisted_from_a_block = refl;
  hoisted_in_a_static_block = refl;
  hoisted_from_a_field = refl;
  names_of_a_module = refl;
  names_of_a_function = refl;
}

pub conflict_examples : ConflictExamples
conflict_examples = record {
  two_lexical_names = refl;
  a_class_too = refl;
  two_module_functions = refl;
  two_imports = refl;
  an_imported_name_declares_nothing = refl;
  an_exported_name = refl;
  two_functions_in_a_block = refl;
  two_functions_in_a_body = refl;
  two_functions_in_a_static_block = refl;
  a_body_function = refl;
  an_inner_scope = refl;
  two_cases = refl;
  an_own_name = refl;
  an_own_name_and_a_parameter = refl;
  a_var_in_a_block = refl;
  a_var_in_an_inner_block = refl;
  a_var_before = refl;
  a_var_beside = refl;
  a_var_in_a_loop = refl;
  a_let_in_a_loop = refl;
  a_var_head = refl;
  a_var_head_inside = refl;
  a_var_in_a_function = refl;
  a_var_in_a_static_block = refl;
  a_var_in_a_case = refl;
  vars = refl;
  two_parameters = refl;
  other_parameters = refl;
  a_lexical_parameter = refl;
  an_arrow's_lexical_parameter = refl;
  a_var_parameter = refl;
  a_parameter_and_a_block = refl;
  two_caught = refl;
  other_caught = refl;
  a_lexical_catch = refl;
  a_function_catch = refl;
  a_catch_and_a_block = refl;
  a_pattern_and_a_var = refl;
  a_plain_name_and_a_var = refl;
  a_pattern_and_a_function = refl;
  the_first = refl;
}
