-- The derivations of the examples in `ModuleExamples`.
use Rattle.std.proofs.Common.{refl, lit≤}
use Rattle.std.specs.Prelude.{codes}
use Rattle.js_syntax.specs.Spelling.{sign_operator, written, before_brace, at_end, unnamed, string_literal, parenthesized, binary, arrow, single, a_binding, a_hole, a_binding_pair, a_binding_shorthand, an_initialized, last, and, no_items, items, no_rest, and_rest, rest_properties, name_key, parameters, body, no_directives, directive, arrow_parameters, block_body, class, no_heritage, no_elements, object_pattern, array_pattern, not_defaulted, defaulted, no_statements, next_statement, block, embedded, declaration, expression_statement, if_statement, if_else, for_of_statement, continue_statement, switch_statement, labeled, try_statement, variables, declarators, left_variable, a_label, no_cases, next_case, default_case, bare_handler, no_finalizer}
use Rattle.js_syntax.specs.Modules.{name_exported, string_exported, import_renamed, import_same, export_renamed, export_same, indirect_renamed, indirect_same, last_specifier, and_specifier, braced, namespace, default_namespace, default_braced, from, default_class, default_expression, statement, bare_import, import_from, export_all_as, export_named, export_from, export_declaration, export_default, no_more_items, next_item, no_hashbang, hashbang, spells}
use Rattle.js_syntax.proofs.Written.{same_line_at, end_at, word_at, name_at, binding_at, sign_at, number_at, string_at, before_sign, item_alone, expression_alone}
use Rattle.js_syntax.specs.Examples.{ModuleExamples}

pub module_examples : ModuleExamples
module_examples = record {
  a_directive = spells refl no_hashbang (directive (string_at "" "use strict" "" refl refl) (at_end (end_at "" refl)) no_directives) no_more_items (end_at "" refl);
  no_directive = expression_alone refl refl
      (single (parenthesized (sign_at "" "(" "'use strict')" refl) (single (string_literal (string_at "" "use strict" ")" refl refl))) (sign_at "" ")" "" refl)))
      (at_end (end_at "" refl)) (end_at "" refl);
  a_sum_of_a_string = expression_alone refl refl
      (single
      (binary {m = 21} {n = 21} {op = codes "+"} refl refl (lit≤ tt) (lit≤ tt) (string_literal (string_at "" "a" " + b" refl refl))
      (sign_operator (sign_at " " "+" " b" refl)) (name_at " " "b" "" refl))) (at_end (end_at "" refl)) (end_at "" refl);
  nothing = spells refl no_hashbang no_directives no_more_items (end_at "" refl);
  a_hashbang = spells refl (hashbang {x = codes "x"} refl refl) no_directives no_more_items (end_at "" refl);
  a_default_class = item_alone refl
      (export_default (word_at "" "export" " default class {}" refl) (word_at " " "default" " class {}" refl)
      (default_class (class (word_at " " "class" " {}" refl) unnamed no_heritage (sign_at " " "{" "}" refl) no_elements (sign_at "" "}" "" refl)))) (end_at "" refl);
  a_default_arrow = spells refl no_hashbang no_directives
      (next_item
      (export_default (word_at "" "export" " default () => {}\n(a)" refl) (word_at " " "default" " () => {}\n(a)" refl)
      (default_expression refl
      (arrow (arrow_parameters (parameters (sign_at " " "(" ") => {}\n(a)" refl) (no_rest no_items) (sign_at "" ")" " => {}\n(a)" refl)))
      (same_line_at " " "=> {}\n(a)" refl) (sign_at " " "=>" " {}\n(a)" refl)
      (block_body (body refl (sign_at " " "{" "}\n(a)" refl) no_directives no_statements (sign_at "" "}" "\n(a)" refl)))) (before_sign "\n" "(" "a)" refl refl)))
      (next_item
      (statement
      (expression_statement refl (single (parenthesized (sign_at "\n" "(" "a)" refl) (single (name_at "" "a" ")" refl)) (sign_at "" ")" "" refl)))
      (at_end (end_at "" refl)))) no_more_items)) (end_at "" refl);
  an_import = item_alone refl
      (import_from (word_at "" "import" " d, { a as b, c } from 's'" refl)
      (default_braced refl (word_at " " "d" ", { a as b, c } from 's'" refl) (sign_at "" "," " { a as b, c } from 's'" refl)
      (braced (sign_at " " "{" " a as b, c } from 's'" refl)
      (and_specifier
      (import_renamed refl (name_exported (word_at " " "a" " as b, c } from 's'" refl)) (word_at " " "as" " b, c } from 's'" refl)
      (word_at " " "b" ", c } from 's'" refl)) (sign_at "" "," " c } from 's'" refl) (last_specifier (import_same refl (word_at " " "c" " } from 's'" refl))))
      (sign_at " " "}" " from 's'" refl))) (from (word_at " " "from" " 's'" refl) (string_at " " "s" "" refl refl)) (at_end (end_at "" refl))) (end_at "" refl);
  an_import_alone = item_alone refl (bare_import (word_at "" "import" " 's'" refl) (string_at " " "s" "" refl refl) (at_end (end_at "" refl))) (end_at "" refl);
  a_namespace = item_alone refl
      (import_from (word_at "" "import" " a, * as b from 's'" refl)
      (default_namespace refl (word_at " " "a" ", * as b from 's'" refl) (sign_at "" "," " * as b from 's'" refl)
      (namespace refl (sign_at " " "*" " as b from 's'" refl) (word_at " " "as" " b from 's'" refl) (word_at " " "b" " from 's'" refl)))
      (from (word_at " " "from" " 's'" refl) (string_at " " "s" "" refl refl)) (at_end (end_at "" refl))) (end_at "" refl);
  all_as = item_alone refl
      (export_all_as (word_at "" "export" " * as n from 's'" refl) (sign_at " " "*" " as n from 's'" refl) (word_at " " "as" " n from 's'" refl)
      (name_exported (word_at " " "n" " from 's'" refl)) (from (word_at " " "from" " 's'" refl) (string_at " " "s" "" refl refl)) (at_end (end_at "" refl)))
      (end_at "" refl);
  local_exports = item_alone refl
      (export_named (word_at "" "export" " { a, b as default }" refl)
      (braced (sign_at " " "{" " a, b as default }" refl)
      (and_specifier (export_same refl (word_at " " "a" ", b as default }" refl)) (sign_at "" "," " b as default }" refl)
      (last_specifier
      (export_renamed refl (word_at " " "b" " as default }" refl) (word_at " " "as" " default }" refl) (name_exported (word_at " " "default" " }" refl)))))
      (sign_at " " "}" "" refl)) (at_end (end_at "" refl))) (end_at "" refl);
  exports_from = item_alone refl
      (export_from (word_at "" "export" " { default, 'a' as b } from 's'" refl)
      (braced (sign_at " " "{" " default, 'a' as b } from 's'" refl)
      (and_specifier (indirect_same (name_exported (word_at " " "default" ", 'a' as b } from 's'" refl))) (sign_at "" "," " 'a' as b } from 's'" refl)
      (last_specifier
      (indirect_renamed (string_exported (string_at " " "a" " as b } from 's'" refl refl)) (word_at " " "as" " b } from 's'" refl)
      (name_exported (word_at " " "b" " } from 's'" refl))))) (sign_at " " "}" " from 's'" refl))
      (from (word_at " " "from" " 's'" refl) (string_at " " "s" "" refl refl)) (at_end (end_at "" refl))) (end_at "" refl);
  constants = item_alone refl
      (export_declaration (word_at "" "export" " const a = 1, b = c" refl)
      (variables
      (declarators refl (word_at " " "const" " a = 1, b = c" refl)
      (and (an_initialized (binding_at " " "a" " = 1, b = c" refl) (sign_at " " "=" " 1, b = c" refl) (number_at " " "1" ", b = c" refl))
      (sign_at "" "," " b = c" refl) (last (an_initialized (binding_at " " "b" " = c" refl) (sign_at " " "=" " c" refl) (name_at " " "c" "" refl)))))
      (at_end (end_at "" refl)))) (end_at "" refl);
  a_labeled_loop = item_alone refl
      (statement
      (labeled refl (word_at "" "l" ": for (const x of y) continue l" refl) (sign_at "" ":" " for (const x of y) continue l" refl)
      (embedded refl
      (for_of_statement refl (word_at " " "for" " (const x of y) continue l" refl) (sign_at " " "(" "const x of y) continue l" refl)
      (left_variable refl (word_at "" "const" " x of y) continue l" refl) (binding_at " " "x" " of y) continue l" refl)) (word_at " " "of" " y) continue l" refl)
      (name_at " " "y" ") continue l" refl) (sign_at "" ")" " continue l" refl)
      (embedded refl
      (continue_statement (word_at " " "continue" " l" refl) (a_label refl (same_line_at " " "l" refl) (word_at " " "l" "" refl)) (at_end (end_at "" refl))))))))
      (end_at "" refl);
  bare_catch = item_alone refl
      (statement
      (try_statement refl (word_at "" "try" " {} catch {}" refl) (block (sign_at " " "{" "} catch {}" refl) no_statements (sign_at "" "}" " catch {}" refl))
      (bare_handler (word_at " " "catch" " {}" refl) (block (sign_at " " "{" "}" refl) no_statements (sign_at "" "}" "" refl))) no_finalizer)) (end_at "" refl);
  a_switch = item_alone refl
      (statement
      (switch_statement refl (word_at "" "switch" " (a) { case 1: default: b }" refl) (sign_at " " "(" "a) { case 1: default: b }" refl)
      (single (name_at "" "a" ") { case 1: default: b }" refl)) (sign_at "" ")" " { case 1: default: b }" refl) (sign_at " " "{" " case 1: default: b }" refl)
      (next_case (word_at " " "case" " 1: default: b }" refl) (single (number_at " " "1" ": default: b }" refl)) (sign_at "" ":" " default: b }" refl) no_statements
      (default_case (word_at " " "default" ": b }" refl) (sign_at "" ":" " b }" refl)
      (next_statement (expression_statement refl (single (name_at " " "b" " }" refl)) (before_brace (sign_at " " "}" "" refl))) no_statements) no_cases))
      (sign_at " " "}" "" refl))) (end_at "" refl);
  an_inner_else = item_alone refl
      (statement
      (if_statement (word_at "" "if" " (a) if (b) c; else d" refl) (sign_at " " "(" "a) if (b) c; else d" refl) (single (name_at "" "a" ") if (b) c; else d" refl))
      (sign_at "" ")" " if (b) c; else d" refl)
      (embedded refl
      (if_else refl (word_at " " "if" " (b) c; else d" refl) (sign_at " " "(" "b) c; else d" refl) (single (name_at "" "b" ") c; else d" refl))
      (sign_at "" ")" " c; else d" refl)
      (embedded refl (expression_statement refl (single (name_at " " "c" "; else d" refl)) (written (sign_at "" ";" " else d" refl))))
      (word_at " " "else" " d" refl) (embedded refl (expression_statement refl (single (name_at " " "d" "" refl)) (at_end (end_at "" refl)))))))) (end_at "" refl);
  patterns = item_alone refl
      (statement
      (declaration
      (variables
      (declarators refl (word_at "" "let" " { a, b: c = d, ...e } = f, [, g] = o" refl)
      (and
      (an_initialized
      (object_pattern (sign_at " " "{" " a, b: c = d, ...e } = f, [, g] = o" refl)
      (and_rest
      (and (a_binding_shorthand refl (word_at " " "a" ", b: c = d, ...e } = f, [, g] = o" refl)) (sign_at "" "," " b: c = d, ...e } = f, [, g] = o" refl)
      (last
      (a_binding_pair (name_key (word_at " " "b" ": c = d, ...e } = f, [, g] = o" refl)) (sign_at "" ":" " c = d, ...e } = f, [, g] = o" refl)
      (defaulted (binding_at " " "c" " = d, ...e } = f, [, g] = o" refl) (sign_at " " "=" " d, ...e } = f, [, g] = o" refl)
      (name_at " " "d" ", ...e } = f, [, g] = o" refl))))) (sign_at "" "," " ...e } = f, [, g] = o" refl)
      (rest_properties refl (sign_at " " "..." "e } = f, [, g] = o" refl) (word_at "" "e" " } = f, [, g] = o" refl)))
      (sign_at " " "}" " = f, [, g] = o" refl)) (sign_at " " "=" " f, [, g] = o" refl) (name_at " " "f" ", [, g] = o" refl))
      (sign_at "" "," " [, g] = o" refl)
      (last
      (an_initialized
      (array_pattern (sign_at " " "[" ", g] = o" refl)
      (no_rest (items refl (and a_hole (sign_at "" "," " g] = o" refl) (last (a_binding (not_defaulted (binding_at " " "g" "] = o" refl)))))))
      (sign_at "" "]" " = o" refl)) (sign_at " " "=" " o" refl) (name_at " " "o" "" refl))))) (at_end (end_at "" refl))))) (end_at "" refl);
}
