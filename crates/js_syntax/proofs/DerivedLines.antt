-- The derivations of the examples in `LineExamples`.
use Rattle.std.proofs.Common.{refl, [], true, lit≤}
use Rattle.std.specs.Prelude.{codes}
use Rattle.js_syntax.specs.Tokens.{no_gap, blank, line_end, line_comment, block_comment, is_word, is_punctuator}
use Rattle.js_syntax.specs.Spelling.{sign_operator, written, before_brace, at_end, behind_line, do_left_out, no_async, no_star, with_star, no_static, with_static, unnamed, named, plain_dot, identifier, regexp_literal, function_expression, parenthesized, member, call, update_behind, update_before, binary, assignment, arrow, bare_yield, single, an_argument, a_target, a_declarator, last, no_items, items, no_rest, arguments, static_access, name_key, public_key, method, getter, method_function, parameters, function, body, no_directives, arrow_parameters, block_body, class, no_heritage, no_elements, lone_semicolon, next_element, method_element, accessor_element, field_element, no_initializer, simple_target, array_target, target_alone, no_statements, next_statement, block, embedded, block_statement, declaration, expression_statement, if_else, do_while, while_statement, break_statement, bare_return, variables, function_declaration, class_declaration, declarators, no_label}
use Rattle.js_syntax.specs.Modules.{name_exported, export_same, indirect_same, last_specifier, braced, from, statement, export_named, export_from, no_more_items, next_item, no_hashbang, spells}
use Rattle.js_syntax.proofs.Written.{same_line_at, end_at, word_at, name_at, binding_at, sign_at, string_at, before_word, before_sign, item_alone, expression_alone}
use Rattle.js_syntax.proofs.Ascii.{regexp_token}
use Rattle.js_syntax.specs.Examples.{LineExamples}

pub line_examples : LineExamples
line_examples = record {
  a_call = expression_alone refl refl
      (single
      (call {n = 21} (lit≤ tt) (name_at "" "a" "\n(b)" refl)
      (arguments (sign_at "\n" "(" "b)" refl) (items refl (last (an_argument (name_at "" "b" ")" refl)))) (sign_at "" ")" "" refl)))) (at_end (end_at "" refl))
      (end_at "" refl);
  an_update = spells refl no_hashbang no_directives
      (next_item (statement (expression_statement refl (single (name_at "" "a" "\n++b" refl)) (before_sign "\n" "++" "b" refl refl)))
      (next_item
      (statement (expression_statement refl (single (update_before refl refl (sign_at "\n" "++" "b" refl) (name_at "" "b" "" refl))) (at_end (end_at "" refl))))
      no_more_items)) (end_at "" refl);
  behind_an_update = spells refl no_hashbang no_directives
      (next_item
      (statement
      (expression_statement refl
      (single (update_behind {op = codes "++"} refl refl (name_at "" "a" "++\n(b)" refl) (same_line_at "" "++\n(b)" refl) (sign_at "" "++" "\n(b)" refl)))
      (before_sign "\n" "(" "b)" refl refl)))
      (next_item
      (statement
      (expression_statement refl (single (parenthesized (sign_at "\n" "(" "b)" refl) (single (name_at "" "b" ")" refl)) (sign_at "" ")" "" refl)))
      (at_end (end_at "" refl)))) no_more_items)) (end_at "" refl);
  a_return = item_alone refl
      (statement
      (declaration
      (function_declaration refl
      (function no_async (word_at "" "function" " f() { return\na }" refl) no_star (named refl (word_at " " "f" "() { return\na }" refl))
      (parameters (sign_at "" "(" ") { return\na }" refl) (no_rest no_items) (sign_at "" ")" " { return\na }" refl))
      (body refl (sign_at " " "{" " return\na }" refl) no_directives
      (next_statement (bare_return (word_at " " "return" "\na }" refl) (before_word "\n" "a" " }" refl refl))
      (next_statement (expression_statement refl (single (name_at "\n" "a" " }" refl)) (before_brace (sign_at " " "}" "" refl))) no_statements))
      (sign_at " " "}" "" refl)))))) (end_at "" refl);
  two_divisions = expression_alone refl refl
      (single
      (binary {m = 14} {n = 21} {op = codes "/"} refl refl (lit≤ tt) (lit≤ tt)
      (binary {m = 21} {n = 21} {op = codes "/"} refl refl (lit≤ tt) (lit≤ tt) (name_at "" "x" "\n/y/g" refl) (sign_operator (sign_at "\n" "/" "y/g" refl))
      (name_at "" "y" "/g" refl)) (sign_operator (sign_at "" "/" "g" refl)) (name_at "" "g" "" refl))) (at_end (end_at "" refl)) (end_at "" refl);
  assigned_divisions = expression_alone refl refl
      (single
      (assignment {op = codes "="} refl refl (simple_target refl (name_at "" "a" " = b\n/c/d" refl)) (sign_at " " "=" " b\n/c/d" refl)
      (binary {m = 14} {n = 21} {op = codes "/"} refl refl (lit≤ tt) (lit≤ tt)
      (binary {m = 21} {n = 21} {op = codes "/"} refl refl (lit≤ tt) (lit≤ tt) (name_at " " "b" "\n/c/d" refl) (sign_operator (sign_at "\n" "/" "c/d" refl))
      (name_at "" "c" "/d" refl)) (sign_operator (sign_at "" "/" "d" refl)) (name_at "" "d" "" refl)))) (at_end (end_at "" refl)) (end_at "" refl);
  behind_an_arrow = spells refl no_hashbang no_directives
      (next_item
      (statement
      (expression_statement refl
      (single
      (assignment {op = codes "="} refl refl (simple_target refl (name_at "" "x" " = () => {}\n/y/g" refl)) (sign_at " " "=" " () => {}\n/y/g" refl)
      (arrow (arrow_parameters (parameters (sign_at " " "(" ") => {}\n/y/g" refl) (no_rest no_items) (sign_at "" ")" " => {}\n/y/g" refl)))
      (same_line_at " " "=> {}\n/y/g" refl) (sign_at " " "=>" " {}\n/y/g" refl)
      (block_body (body refl (sign_at " " "{" "}\n/y/g" refl) no_directives no_statements (sign_at "" "}" "\n/y/g" refl))))))
      (before_sign "\n" "/" "y/g" refl refl)))
      (next_item
      (statement
      (expression_statement refl (single (regexp_literal (regexp_token (codes "\n") (codes "y") (codes "g") [] refl refl refl refl))) (at_end (end_at "" refl))))
      no_more_items)) (end_at "" refl);
  behind_a_function = expression_alone refl refl
      (single
      (assignment {op = codes "="} refl refl (simple_target refl (name_at "" "x" " = function () {}\n(y)" refl)) (sign_at " " "=" " function () {}\n(y)" refl)
      (call {n = 21} (lit≤ tt)
      (function_expression
      (function no_async (word_at " " "function" " () {}\n(y)" refl) no_star unnamed
      (parameters (sign_at " " "(" ") {}\n(y)" refl) (no_rest no_items) (sign_at "" ")" " {}\n(y)" refl))
      (body refl (sign_at " " "{" "}\n(y)" refl) no_directives no_statements (sign_at "" "}" "\n(y)" refl))))
      (arguments (sign_at "\n" "(" "y)" refl) (items refl (last (an_argument (name_at "" "y" ")" refl)))) (sign_at "" ")" "" refl))))) (at_end (end_at "" refl))
      (end_at "" refl);
  a_yield = item_alone refl
      (statement
      (declaration
      (function_declaration refl
      (function no_async (word_at "" "function" "* f() { yield\ny }" refl) (with_star (sign_at "" "*" " f() { yield\ny }" refl))
      (named refl (word_at " " "f" "() { yield\ny }" refl))
      (parameters (sign_at "" "(" ") { yield\ny }" refl) (no_rest no_items) (sign_at "" ")" " { yield\ny }" refl))
      (body refl (sign_at " " "{" " yield\ny }" refl) no_directives
      (next_statement (expression_statement refl (single (bare_yield (word_at " " "yield" "\ny }" refl))) (before_word "\n" "y" " }" refl refl))
      (next_statement (expression_statement refl (single (name_at "\n" "y" " }" refl)) (before_brace (sign_at " " "}" "" refl))) no_statements))
      (sign_at " " "}" "" refl)))))) (end_at "" refl);
  a_break = item_alone refl
      (statement
      (while_statement (word_at "" "while" " (a) { break\nb }" refl) (sign_at " " "(" "a) { break\nb }" refl) (single (name_at "" "a" ") { break\nb }" refl))
      (sign_at "" ")" " { break\nb }" refl)
      (embedded refl
      (block_statement
      (block (sign_at " " "{" " break\nb }" refl)
      (next_statement (break_statement (word_at " " "break" "\nb }" refl) no_label (before_word "\n" "b" " }" refl refl))
      (next_statement (expression_statement refl (single (name_at "\n" "b" " }" refl)) (before_brace (sign_at " " "}" "" refl))) no_statements))
      (sign_at " " "}" "" refl)))))) (end_at "" refl);
  an_else = item_alone refl
      (statement
      (if_else refl (word_at "" "if" " (a) b\nelse c" refl) (sign_at " " "(" "a) b\nelse c" refl) (single (name_at "" "a" ") b\nelse c" refl))
      (sign_at "" ")" " b\nelse c" refl)
      (embedded refl (expression_statement refl (single (name_at " " "b" "\nelse c" refl)) (before_word "\n" "else" " c" refl refl))) (word_at "\n" "else" " c" refl)
      (embedded refl (expression_statement refl (single (name_at " " "c" "" refl)) (at_end (end_at "" refl)))))) (end_at "" refl);
  a_do = spells refl no_hashbang no_directives
      (next_item
      (statement
      (do_while (word_at "" "do" " x; while (y) z" refl)
      (embedded refl (expression_statement refl (single (name_at " " "x" "; while (y) z" refl)) (written (sign_at "" ";" " while (y) z" refl))))
      (word_at " " "while" " (y) z" refl) (sign_at " " "(" "y) z" refl) (single (name_at "" "y" ") z" refl)) (sign_at "" ")" " z" refl)
      (do_left_out (word_at " " "z" "" refl) refl)))
      (next_item (statement (expression_statement refl (single (name_at " " "z" "" refl)) (at_end (end_at "" refl)))) no_more_items)) (end_at "" refl);
  a_comment = spells refl no_hashbang no_directives
      (next_item
      (statement
      (expression_statement refl (single (name_at "" "a" "/*\n*/b" refl))
      (behind_line (record { gap = block_comment (codes "\n") refl no_gap; ends = refl }) (is_word {x = codes "b"} {rest = []} refl refl) refl refl)))
      (next_item
      (statement
      (expression_statement refl
      (single
      (identifier refl
      (record { line = true; middle = codes "b"; front = record { gap = block_comment (codes "\n") refl no_gap; ends = refl }; lexed = is_word {x = codes "b"} {rest = []} refl refl })))
      (at_end (end_at "" refl)))) no_more_items)) (end_at "" refl);
  a_line_comment = expression_alone refl refl
      (single
      (member {n = 21} (lit≤ tt) (name_at "" "a" " // b\n.c" refl)
      (static_access
      (plain_dot
      (record { line = true; middle = codes ".c"; front = record { gap = blank (codes " ") refl (line_comment (codes " b") refl refl (line_end (codes "\n") refl no_gap)); ends = refl }; lexed = is_punctuator {s = codes "."} {rest = codes "c"} refl refl refl }))
      (word_at "" "c" "" refl)))) (at_end (end_at "" refl)) (end_at "" refl);
  an_async = spells refl no_hashbang no_directives
      (next_item (statement (expression_statement refl (single (name_at "" "async" "\nfunction f() {}" refl)) (before_word "\n" "function" " f() {}" refl refl)))
      (next_item
      (statement
      (declaration
      (function_declaration refl
      (function no_async (word_at "\n" "function" " f() {}" refl) no_star (named refl (word_at " " "f" "() {}" refl))
      (parameters (sign_at "" "(" ") {}" refl) (no_rest no_items) (sign_at "" ")" " {}" refl))
      (body refl (sign_at " " "{" "}" refl) no_directives no_statements (sign_at "" "}" "" refl)))))) no_more_items)) (end_at "" refl);
  a_declaration = spells refl no_hashbang no_directives
      (next_item
      (statement
      (declaration
      (variables (declarators refl (word_at "" "let" " a\n[b] = c" refl) (last (a_declarator (binding_at " " "a" "\n[b] = c" refl))))
      (before_sign "\n" "[" "b] = c" refl refl))))
      (next_item
      (statement
      (expression_statement refl
      (single
      (assignment {op = codes "="} refl refl
      (array_target (sign_at "\n" "[" "b] = c" refl) (no_rest (items refl (last (a_target (target_alone (simple_target refl (name_at "" "b" "] = c" refl)))))))
      (sign_at "" "]" " = c" refl)) (sign_at " " "=" " c" refl) (name_at " " "c" "" refl))) (at_end (end_at "" refl)))) no_more_items)) (end_at "" refl);
  a_generator_field = item_alone refl
      (statement
      (declaration
      (class_declaration refl
      (class (word_at "" "class" " A { ; get\n*x() {} }" refl) (named refl (word_at " " "A" " { ; get\n*x() {} }" refl)) no_heritage
      (sign_at " " "{" " ; get\n*x() {} }" refl)
      (lone_semicolon (sign_at " " ";" " get\n*x() {} }" refl)
      (next_element
      (field_element no_static (public_key (name_key (word_at " " "get" "\n*x() {} }" refl))) no_initializer (before_sign "\n" "*" "x() {} }" refl refl))
      (next_element
      (method_element refl no_static
      (method no_async (with_star (sign_at "\n" "*" "x() {} }" refl)) (public_key (name_key (word_at "" "x" "() {} }" refl)))
      (method_function (parameters (sign_at "" "(" ") {} }" refl) (no_rest no_items) (sign_at "" ")" " {} }" refl))
      (body refl (sign_at " " "{" "} }" refl) no_directives no_statements (sign_at "" "}" " }" refl))))) no_elements))) (sign_at " " "}" "" refl)))))
      (end_at "" refl);
  a_getter = item_alone refl
      (statement
      (declaration
      (class_declaration refl
      (class (word_at "" "class" " A { get\nx() {} }" refl) (named refl (word_at " " "A" " { get\nx() {} }" refl)) no_heritage
      (sign_at " " "{" " get\nx() {} }" refl)
      (next_element
      (accessor_element refl no_static
      (getter (word_at " " "get" "\nx() {} }" refl) (public_key (name_key (word_at "\n" "x" "() {} }" refl)))
      (method_function (parameters (sign_at "" "(" ") {} }" refl) (no_rest no_items) (sign_at "" ")" " {} }" refl))
      (body refl (sign_at " " "{" "} }" refl) no_directives no_statements (sign_at "" "}" " }" refl))))) no_elements) (sign_at " " "}" "" refl)))))
      (end_at "" refl);
  a_static_field = item_alone refl
      (statement
      (declaration
      (class_declaration refl
      (class (word_at "" "class" " A { static\nx }" refl) (named refl (word_at " " "A" " { static\nx }" refl)) no_heritage (sign_at " " "{" " static\nx }" refl)
      (next_element
      (field_element (with_static (word_at " " "static" "\nx }" refl)) (public_key (name_key (word_at "\n" "x" " }" refl))) no_initializer
      (before_brace (sign_at " " "}" "" refl))) no_elements) (sign_at " " "}" "" refl))))) (end_at "" refl);
  an_async_field = item_alone refl
      (statement
      (declaration
      (class_declaration refl
      (class (word_at "" "class" " A { async\nx() {} }" refl) (named refl (word_at " " "A" " { async\nx() {} }" refl)) no_heritage
      (sign_at " " "{" " async\nx() {} }" refl)
      (next_element
      (field_element no_static (public_key (name_key (word_at " " "async" "\nx() {} }" refl))) no_initializer (before_word "\n" "x" "() {} }" refl refl))
      (next_element
      (method_element refl no_static
      (method no_async no_star (public_key (name_key (word_at "\n" "x" "() {} }" refl)))
      (method_function (parameters (sign_at "" "(" ") {} }" refl) (no_rest no_items) (sign_at "" ")" " {} }" refl))
      (body refl (sign_at " " "{" "} }" refl) no_directives no_statements (sign_at "" "}" " }" refl))))) no_elements)) (sign_at " " "}" "" refl)))))
      (end_at "" refl);
  an_export_from = item_alone refl
      (export_from (word_at "" "export" " { a }\nfrom 'b'" refl)
      (braced (sign_at " " "{" " a }\nfrom 'b'" refl) (last_specifier (indirect_same (name_exported (word_at " " "a" " }\nfrom 'b'" refl))))
      (sign_at " " "}" "\nfrom 'b'" refl)) (from (word_at "\n" "from" " 'b'" refl) (string_at " " "b" "" refl refl)) (at_end (end_at "" refl))) (end_at "" refl);
  an_export = spells refl no_hashbang no_directives
      (next_item
      (export_named (word_at "" "export" " { a }\nb" refl)
      (braced (sign_at " " "{" " a }\nb" refl) (last_specifier (export_same refl (word_at " " "a" " }\nb" refl))) (sign_at " " "}" "\nb" refl))
      (before_word "\n" "b" "" refl refl))
      (next_item (statement (expression_statement refl (single (name_at "\n" "b" "" refl)) (at_end (end_at "" refl)))) no_more_items)) (end_at "" refl);
}
