-- The worked texts, computed.
use Rattle.std.proofs.Common.{refl, ◌≡◌, true}
use Rattle.std.specs.List.{list_all}
use Rattle.std.specs.Str.{chars}
use Rattle.ucd_derived.specs.Binary.{is_xid_continue}
use Rattle.ucd_derived.specs.XidContinueRanges.{xid_continue_ranges}
use Rattle.ucd_table.specs.Rows.{in_ranges}
use Rattle.js_reading.specs.Literals.{modifies_method, modifies_element, array, marked_method, accessor_property, valued, behind_key, shorthand, named_property, property_item, object, heritage, element_function, field, plain_element, word_element, marked_element, static_block, static_element, class_element, elements, class}
use Rattle.js_reading.specs.Parts.{part, expression, spread, item, element, argument, arguments, computed_key, key, member_key, template_rest}
use Rattle.js_reading.specs.Reading.{sees, sees_word, same_line, at_end, expect, expect_word, name, binding, string_token, begins_key_at, arrow_here, left_out, semicolon, do_end, separated, items, group}
use Rattle.js_reading.specs.Read.{read, read_body}
use Rattle.js_reading.specs.Expressions.{ends_operand, arrow_body, arrow, parenthesized, async_parenthesized, named, async_by, async_expression, unary, await_expression, yield_expression, new_expression, second_argument, import_options, import_call, import_expression, dotted, computed, called, super_expression, optional_link, links, chain, update_before, private_in, prefix, conditional, extended, climb, at_level, callee}
use Rattle.js_reading.specs.Operators.{goes_on}
use Rattle.js_reading.specs.Modules.{exported, imported, imports, namespace, behind_default, import_clause, from_source, bare_import, import_from, exported_pair, pairs, export_pairs, all_name, export_all, default_expression, default, exported_declaration, export_item, module_item, module_items, module_body}
use Rattle.js_reading.specs.Functions.{star, naming, directives, bound, initializer, parameter, parameter_items, parameter_list, parameters, statements, enclosed, body, function, method_function}
use Rattle.js_reading.specs.Statements.{ends_here, begins_async_function, destructured, sees_each, pattern, inner, embedded, condition, block, declarator, declarators, variables, function_declaration, class_declaration, ended, effect, return_statement, throw_statement, label, jump, alternate, if_statement, while_statement, do_statement, more_declarators, declared_head, more_expressions, found_head, head, perhaps, for_plain, for_in, for_of_each, for_repeated, for_statement, case_statements, case_test, case_clause, cases, switch_statement, catch_clause, handler, finalizer, try_statement, labeled, plain_statement, word_statement, statement}
use Rattle.js_tokens.specs.Next.{identifier_name_cut, private_identifier_cut, numeric_literal_cut, string_literal_cut, template_cut, punctuator_cut, cut, next, lexeme, after, regexp_cut, tail_cut, next_regexp, next_tail}
use Rattle.js_tokens.specs.Gaps.{ahead}
use Rattle.js_tokens.specs.Names.{name_run, behind_name}
use Rattle.js_reading.specs.Examples.{Examples, is_read, is_refused, first_texts, second_texts, third_texts, fourth_texts, refused_texts, more_refused_texts}

first : list_all is_read first_texts ≡ true
unfolding modifies_method modifies_element array marked_method accessor_property valued behind_key shorthand named_property property_item object heritage element_function field plain_element word_element marked_element static_block static_element class_element elements class part expression spread item element argument arguments computed_key key member_key template_rest sees sees_word same_line at_end expect expect_word name binding string_token begins_key_at arrow_here left_out semicolon do_end separated items group read read_body ends_operand arrow_body arrow parenthesized async_parenthesized named async_by async_expression unary await_expression yield_expression new_expression second_argument import_options import_call import_expression dotted computed called super_expression optional_link links chain update_before private_in prefix conditional extended climb at_level callee goes_on exported imported imports namespace behind_default import_clause from_source bare_import import_from exported_pair pairs export_pairs all_name export_all default_expression default exported_declaration export_item module_item module_items module_body star naming directives bound initializer parameter parameter_items parameter_list parameters statements enclosed body function method_function ends_here begins_async_function destructured sees_each pattern inner embedded condition block declarator declarators variables function_declaration class_declaration ended effect return_statement throw_statement label jump alternate if_statement while_statement do_statement more_declarators declared_head more_expressions found_head head perhaps for_plain for_in for_of_each for_repeated for_statement case_statements case_test case_clause cases switch_statement catch_clause handler finalizer try_statement labeled plain_statement word_statement statement identifier_name_cut private_identifier_cut numeric_literal_cut string_literal_cut template_cut punctuator_cut cut next lexeme after regexp_cut tail_cut next_regexp next_tail ahead name_run behind_name chars is_xid_continue in_ranges xid_continue_ranges lib.Utf8.encode is_read is_refused
first = refl

second : list_all is_read second_texts ≡ true
unfolding modifies_method modifies_element array marked_method accessor_property valued behind_key shorthand named_property property_item object heritage element_function field plain_element word_element marked_element static_block static_element class_element elements class part expression spread item element argument arguments computed_key key member_key template_rest sees sees_word same_line at_end expect expect_word name binding string_token begins_key_at arrow_here left_out semicolon do_end separated items group read read_body ends_operand arrow_body arrow parenthesized async_parenthesized named async_by async_expression unary await_expression yield_expression new_expression second_argument import_options import_call import_expression dotted computed called super_expression optional_link links chain update_before private_in prefix conditional extended climb at_level callee goes_on exported imported imports namespace behind_default import_clause from_source bare_import import_from exported_pair pairs export_pairs all_name export_all default_expression default exported_declaration export_item module_item module_items module_body star naming directives bound initializer parameter parameter_items parameter_list parameters statements enclosed body function method_function ends_here begins_async_function destructured sees_each pattern inner embedded condition block declarator declarators variables function_declaration class_declaration ended effect return_statement throw_statement label jump alternate if_statement while_statement do_statement more_declarators declared_head more_expressions found_head head perhaps for_plain for_in for_of_each for_repeated for_statement case_statements case_test case_clause cases switch_statement catch_clause handler finalizer try_statement labeled plain_statement word_statement statement identifier_name_cut private_identifier_cut numeric_literal_cut string_literal_cut template_cut punctuator_cut cut next lexeme after regexp_cut tail_cut next_regexp next_tail ahead name_run behind_name chars is_xid_continue in_ranges xid_continue_ranges lib.Utf8.encode is_read is_refused
second = refl

third : list_all is_read third_texts ≡ true
unfolding modifies_method modifies_element array marked_method accessor_property valued behind_key shorthand named_property property_item object heritage element_function field plain_element word_element marked_element static_block static_element class_element elements class part expression spread item element argument arguments computed_key key member_key template_rest sees sees_word same_line at_end expect expect_word name binding string_token begins_key_at arrow_here left_out semicolon do_end separated items group read read_body ends_operand arrow_body arrow parenthesized async_parenthesized named async_by async_expression unary await_expression yield_expression new_expression second_argument import_options import_call import_expression dotted computed called super_expression optional_link links chain update_before private_in prefix conditional extended climb at_level callee goes_on exported imported imports namespace behind_default import_clause from_source bare_import import_from exported_pair pairs export_pairs all_name export_all default_expression default exported_declaration export_item module_item module_items module_body star naming directives bound initializer parameter parameter_items parameter_list parameters statements enclosed body function method_function ends_here begins_async_function destructured sees_each pattern inner embedded condition block declarator declarators variables function_declaration class_declaration ended effect return_statement throw_statement label jump alternate if_statement while_statement do_statement more_declarators declared_head more_expressions found_head head perhaps for_plain for_in for_of_each for_repeated for_statement case_statements case_test case_clause cases switch_statement catch_clause handler finalizer try_statement labeled plain_statement word_statement statement identifier_name_cut private_identifier_cut numeric_literal_cut string_literal_cut template_cut punctuator_cut cut next lexeme after regexp_cut tail_cut next_regexp next_tail ahead name_run behind_name chars is_xid_continue in_ranges xid_continue_ranges lib.Utf8.encode is_read is_refused
third = refl

fourth : list_all is_read fourth_texts ≡ true
unfolding modifies_method modifies_element array marked_method accessor_property valued behind_key shorthand named_property property_item object heritage element_function field plain_element word_element marked_element static_block static_element class_element elements class part expression spread item element argument arguments computed_key key member_key template_rest sees sees_word same_line at_end expect expect_word name binding string_token begins_key_at arrow_here left_out semicolon do_end separated items group read read_body ends_operand arrow_body arrow parenthesized async_parenthesized named async_by async_expression unary await_expression yield_expression new_expression second_argument import_options import_call import_expression dotted computed called super_expression optional_link links chain update_before private_in prefix conditional extended climb at_level callee goes_on exported imported imports namespace behind_default import_clause from_source bare_import import_from exported_pair pairs export_pairs all_name export_all default_expression default exported_declaration export_item module_item module_items module_body star naming directives bound initializer parameter parameter_items parameter_list parameters statements enclosed body function method_function ends_here begins_async_function destructured sees_each pattern inner embedded condition block declarator declarators variables function_declaration class_declaration ended effect return_statement throw_statement label jump alternate if_statement while_statement do_statement more_declarators declared_head more_expressions found_head head perhaps for_plain for_in for_of_each for_repeated for_statement case_statements case_test case_clause cases switch_statement catch_clause handler finalizer try_statement labeled plain_statement word_statement statement identifier_name_cut private_identifier_cut numeric_literal_cut string_literal_cut template_cut punctuator_cut cut next lexeme after regexp_cut tail_cut next_regexp next_tail ahead name_run behind_name chars is_xid_continue in_ranges xid_continue_ranges lib.Utf8.encode is_read is_refused
fourth = refl

refused : list_all is_refused refused_texts ≡ true
unfolding modifies_method modifies_element array marked_method accessor_property valued behind_key shorthand named_property property_item object heritage element_function field plain_element word_element marked_element static_block static_element class_element elements class part expression spread item element argument arguments computed_key key member_key template_rest sees sees_word same_line at_end expect expect_word name binding string_token begins_key_at arrow_here left_out semicolon do_end separated items group read read_body ends_operand arrow_body arrow parenthesized async_parenthesized named async_by async_expression unary await_expression yield_expression new_expression second_argument import_options import_call import_expression dotted computed called super_expression optional_link links chain update_before private_in prefix conditional extended climb at_level callee goes_on exported imported imports namespace behind_default import_clause from_source bare_import import_from exported_pair pairs export_pairs all_name export_all default_expression default exported_declaration export_item module_item module_items module_body star naming directives bound initializer parameter parameter_items parameter_list parameters statements enclosed body function method_function ends_here begins_async_function destructured sees_each pattern inner embedded condition block declarator declarators variables function_declaration class_declaration ended effect return_statement throw_statement label jump alternate if_statement while_statement do_statement more_declarators declared_head more_expressions found_head head perhaps for_plain for_in for_of_each for_repeated for_statement case_statements case_test case_clause cases switch_statement catch_clause handler finalizer try_statement labeled plain_statement word_statement statement identifier_name_cut private_identifier_cut numeric_literal_cut string_literal_cut template_cut punctuator_cut cut next lexeme after regexp_cut tail_cut next_regexp next_tail ahead name_run behind_name chars is_xid_continue in_ranges xid_continue_ranges lib.Utf8.encode is_read is_refused
refused = refl

more_refused : list_all is_refused more_refused_texts ≡ true
unfolding modifies_method modifies_element array marked_method accessor_property valued behind_key shorthand named_property property_item object heritage element_function field plain_element word_element marked_element static_block static_element class_element elements class part expression spread item element argument arguments computed_key key member_key template_rest sees sees_word same_line at_end expect expect_word name binding string_token begins_key_at arrow_here left_out semicolon do_end separated items group read read_body ends_operand arrow_body arrow parenthesized async_parenthesized named async_by async_expression unary await_expression yield_expression new_expression second_argument import_options import_call import_expression dotted computed called super_expression optional_link links chain update_before private_in prefix conditional extended climb at_level callee goes_on exported imported imports namespace behind_default import_clause from_source bare_import import_from exported_pair pairs export_pairs all_name export_all default_expression default exported_declaration export_item module_item module_items module_body star naming directives bound initializer parameter parameter_items parameter_list parameters statements enclosed body function method_function ends_here begins_async_function destructured sees_each pattern inner embedded condition block declarator declarators variables function_declaration class_declaration ended effect return_statement throw_statement label jump alternate if_statement while_statement do_statement more_declarators declared_head more_expressions found_head head perhaps for_plain for_in for_of_each for_repeated for_statement case_statements case_test case_clause cases switch_statement catch_clause handler finalizer try_statement labeled plain_statement word_statement statement identifier_name_cut private_identifier_cut numeric_literal_cut string_literal_cut template_cut punctuator_cut cut next lexeme after regexp_cut tail_cut next_regexp next_tail ahead name_run behind_name chars is_xid_continue in_ranges xid_continue_ranges lib.Utf8.encode is_read is_refused
more_refused = refl

pub examples : Examples
examples = record { first = first; second = second; third = third; fourth = fourth; refused = refused; more_refused = more_refused }
