-- The derivations of the examples in `ExpressionExamples`.
use Rattle.std.proofs.Common.{◌≡◌, refl, Some, [], ◌∷◌, lit≤}
use Rattle.std.specs.Prelude.{codes}
use Rattle.std.specs.Char.{encode_utf8}
use Rattle.js_syntax.specs.Lexical.{decoded}
use Rattle.js_syntax.specs.Spelling.{word_operator, sign_operator, before_brace, at_end, with_async, with_star, not_optional, is_optional, plain_dot, optional_dot, string_literal, regexp_literal, template, array, object, parenthesized, member, tagged, construction, bare_construction, call, chain, update_behind, update_before, unary, exponentiation, binary, conjunction, disjunction, coalescing, conditional, assignment, arrow, single, an_argument, an_element, an_elision, a_property, a_shorthand, a_method, an_accessor, a_spread_property, a_parameter, a_binding, a_binding_pair, a_binding_shorthand, a_target, a_target_hole, a_target_default, an_initialized, last, and, no_items, items, trailing, no_rest, and_rest, rest_parameter, rest_target, spread, arguments, static_access, computed_access, access_link, argument_link, first_link, next_link, new_member, whole_template, template_parts, template_end, name_key, computed_key, public_key, method, getter, method_function, parameters, body, no_directives, arrow_parameters, arrow_name, arrow_async, block_body, concise_body, object_pattern, array_pattern, not_defaulted, simple_target, object_target, array_target, target_alone, no_statements, next_statement, embedded, empty_statement, for_statement, return_statement, declarators, perhaps_not, init_variables, init_expression}
use Rattle.js_syntax.specs.Modules.{statement}
use Rattle.js_syntax.proofs.Written.{same_line_at, end_at, word_at, name_at, binding_at, sign_at, number_at, item_alone, expression_alone}
use Rattle.js_syntax.proofs.Ascii.{string_token, regexp_token, template_token, head_token, tail_token}
use Rattle.js_syntax.specs.Examples.{ExpressionExamples}

the_escapes : decoded 39 (codes "\\b\\t\\n\\v\\f\\r\\0\\x41\\u0042\\u{43}\\uD83D\\uDE00\\\n\\z") ≡ Some (8 ∷ 9 ∷ 10 ∷ 11 ∷ 12 ∷ 13 ∷ 0 ∷ 65 ∷ 66 ∷ 67 ∷ 240 ∷ 159 ∷ 152 ∷ 128 ∷ 122 ∷ [])
unfolding encode_utf8
the_escapes = refl

pub expression_examples : ExpressionExamples
expression_examples = record {
  member_of_a_chain = expression_alone refl refl
      (single
      (member {n = 21} (lit≤ tt)
      (parenthesized (sign_at "" "(" "a?.b).c" refl)
      (single
      (chain
      (first_link {n = 21} (lit≤ tt) (name_at "" "a" "?.b).c" refl)
      (access_link (static_access (optional_dot (sign_at "" "?." "b).c" refl)) (word_at "" "b" ").c" refl)))))) (sign_at "" ")" ".c" refl))
      (static_access (plain_dot (sign_at "" "." "c" refl)) (word_at "" "c" "" refl)))) (at_end (end_at "" refl)) (end_at "" refl);
  one_chain = expression_alone refl refl
      (single
      (chain
      (next_link
      (next_link
      (first_link {n = 21} (lit≤ tt) (name_at "" "a" "?.b.c(d)" refl)
      (access_link (static_access (optional_dot (sign_at "" "?." "b.c(d)" refl)) (word_at "" "b" ".c(d)" refl))))
      (access_link (static_access (plain_dot (sign_at "" "." "c(d)" refl)) (word_at "" "c" "(d)" refl))))
      (argument_link not_optional (arguments (sign_at "" "(" "d)" refl) (items refl (last (an_argument (name_at "" "d" ")" refl)))) (sign_at "" ")" "" refl))))))
      (at_end (end_at "" refl)) (end_at "" refl);
  three_links = expression_alone refl refl
      (single
      (chain
      (next_link
      (first_link {n = 21} (lit≤ tt) (name_at "" "a" "?.[b]?.(c)" refl)
      (access_link
      (computed_access (is_optional (sign_at "" "?." "[b]?.(c)" refl)) (sign_at "" "[" "b]?.(c)" refl) (single (name_at "" "b" "]?.(c)" refl))
      (sign_at "" "]" "?.(c)" refl))))
      (argument_link (is_optional (sign_at "" "?." "(c)" refl))
      (arguments (sign_at "" "(" "c)" refl) (items refl (last (an_argument (name_at "" "c" ")" refl)))) (sign_at "" ")" "" refl)))))) (at_end (end_at "" refl))
      (end_at "" refl);
  no_link = expression_alone refl refl
      (single
      (conditional {k = 21} (lit≤ tt) (name_at "" "a" "?.5:b" refl) (sign_at "" "?" ".5:b" refl) (number_at "" ".5" ":b" refl) (sign_at "" ":" "b" refl)
      (name_at "" "b" "" refl))) (at_end (end_at "" refl)) (end_at "" refl);
  power_of_a_negative = expression_alone refl refl
      (single
      (exponentiation {m = 21} {n = 16} (lit≤ tt) (lit≤ tt) (name_at "" "a" " ** -b" refl) (sign_at " " "**" " -b" refl)
      (unary {n = 21} {op = codes "-"} refl (lit≤ tt) (sign_operator (sign_at " " "-" "b" refl)) (name_at "" "b" "" refl)))) (at_end (end_at "" refl))
      (end_at "" refl);
  powers = expression_alone refl refl
      (single
      (exponentiation {m = 21} {n = 15} (lit≤ tt) (lit≤ tt) (name_at "" "a" " ** b ** c" refl) (sign_at " " "**" " b ** c" refl)
      (exponentiation {m = 21} {n = 21} (lit≤ tt) (lit≤ tt) (name_at " " "b" " ** c" refl) (sign_at " " "**" " c" refl) (name_at " " "c" "" refl))))
      (at_end (end_at "" refl)) (end_at "" refl);
  differences = expression_alone refl refl
      (single
      (binary {m = 13} {n = 21} {op = codes "-"} refl refl (lit≤ tt) (lit≤ tt)
      (binary {m = 21} {n = 21} {op = codes "-"} refl refl (lit≤ tt) (lit≤ tt) (name_at "" "a" " - b - c" refl) (sign_operator (sign_at " " "-" " b - c" refl))
      (name_at " " "b" " - c" refl)) (sign_operator (sign_at " " "-" " c" refl)) (name_at " " "c" "" refl))) (at_end (end_at "" refl)) (end_at "" refl);
  both_logics = expression_alone refl refl
      (single
      (disjunction {m = 21} {n = 21} (lit≤ tt) (lit≤ tt)
      (parenthesized (sign_at "" "(" "a ?? b) || c" refl)
      (single (coalescing {m = 21} {n = 21} refl (lit≤ tt) (name_at "" "a" " ?? b) || c" refl) (sign_at " " "??" " b) || c" refl) (name_at " " "b" ") || c" refl)))
      (sign_at "" ")" " || c" refl)) (sign_at " " "||" " c" refl) (name_at " " "c" "" refl))) (at_end (end_at "" refl)) (end_at "" refl);
  either_logic = expression_alone refl refl
      (single
      (disjunction {m = 21} {n = 6} (lit≤ tt) (lit≤ tt) (name_at "" "a" " || b && c" refl) (sign_at " " "||" " b && c" refl)
      (conjunction {m = 21} {n = 21} (lit≤ tt) (lit≤ tt) (name_at " " "b" " && c" refl) (sign_at " " "&&" " c" refl) (name_at " " "c" "" refl))))
      (at_end (end_at "" refl)) (end_at "" refl);
  a_point = expression_alone refl refl
      (single (member {n = 21} (lit≤ tt) (number_at "" "1." ".x" refl) (static_access (plain_dot (sign_at "" "." "x" refl)) (word_at "" "x" "" refl))))
      (at_end (end_at "" refl)) (end_at "" refl);
  a_fraction = expression_alone refl refl
      (single (member {n = 21} (lit≤ tt) (number_at "" "1.0" ".x" refl) (static_access (plain_dot (sign_at "" "." "x" refl)) (word_at "" "x" "" refl))))
      (at_end (end_at "" refl)) (end_at "" refl);
  a_whole = expression_alone refl refl
      (single (member {n = 21} (lit≤ tt) (number_at "" "1" " .x" refl) (static_access (plain_dot (sign_at " " "." "x" refl)) (word_at "" "x" "" refl))))
      (at_end (end_at "" refl)) (end_at "" refl);
  new_twice = expression_alone refl refl
      (single
      (construction {n = 20} (word_at "" "new" " new A()()" refl) (lit≤ tt)
      (construction {n = 21} (word_at " " "new" " A()()" refl) (lit≤ tt) (name_at " " "A" "()()" refl)
      (arguments (sign_at "" "(" ")()" refl) no_items (sign_at "" ")" "()" refl))) (arguments (sign_at "" "(" ")" refl) no_items (sign_at "" ")" "" refl))))
      (at_end (end_at "" refl)) (end_at "" refl);
  bare_new = expression_alone refl refl (single (bare_construction (new_member {n = 21} (word_at "" "new" " A" refl) (lit≤ tt) (name_at " " "A" "" refl))))
      (at_end (end_at "" refl)) (end_at "" refl);
  new_of_a_member = expression_alone refl refl
      (single
      (member {n = 20} (lit≤ tt)
      (construction {n = 20} (word_at "" "new" " a.b(c).d" refl) (lit≤ tt)
      (member {n = 21} (lit≤ tt) (name_at " " "a" ".b(c).d" refl) (static_access (plain_dot (sign_at "" "." "b(c).d" refl)) (word_at "" "b" "(c).d" refl)))
      (arguments (sign_at "" "(" "c).d" refl) (items refl (last (an_argument (name_at "" "c" ").d" refl)))) (sign_at "" ")" ".d" refl)))
      (static_access (plain_dot (sign_at "" "." "d" refl)) (word_at "" "d" "" refl)))) (at_end (end_at "" refl)) (end_at "" refl);
  new_of_a_call = expression_alone refl refl
      (single
      (construction {n = 21} (word_at "" "new" " (a())()" refl) (lit≤ tt)
      (parenthesized (sign_at " " "(" "a())()" refl)
      (single (call {n = 21} (lit≤ tt) (name_at "" "a" "())()" refl) (arguments (sign_at "" "(" "))()" refl) no_items (sign_at "" ")" ")()" refl))))
      (sign_at "" ")" "()" refl)) (arguments (sign_at "" "(" ")" refl) no_items (sign_at "" ")" "" refl)))) (at_end (end_at "" refl)) (end_at "" refl);
  a_template = expression_alone refl refl
      (single
      (template
      (template_parts refl (head_token [] (codes "a") (codes "b}c`") refl refl) (single (name_at "" "b" "}c`" refl))
      (template_end refl (tail_token [] (codes "c") [] refl refl))))) (at_end (end_at "" refl)) (end_at "" refl);
  a_tagged_template = expression_alone refl refl
      (single
      (tagged {n = 21} (lit≤ tt) (name_at "" "a" "`b${`c`}d`" refl)
      (template_parts refl (head_token [] (codes "b") (codes "`c`}d`") refl refl)
      (single (template (whole_template refl (template_token [] (codes "c") (codes "}d`") refl refl)))) (template_end refl (tail_token [] (codes "d") [] refl refl)))))
      (at_end (end_at "" refl)) (end_at "" refl);
  an_async_arrow = expression_alone refl refl
      (single
      (arrow
      (arrow_async (word_at "" "async" " () => {}" refl) (same_line_at " " "() => {}" refl)
      (arrow_parameters (parameters (sign_at " " "(" ") => {}" refl) (no_rest no_items) (sign_at "" ")" " => {}" refl)))) (same_line_at " " "=> {}" refl)
      (sign_at " " "=>" " {}" refl) (block_body (body refl (sign_at " " "{" "}" refl) no_directives no_statements (sign_at "" "}" "" refl)))))
      (at_end (end_at "" refl)) (end_at "" refl);
  an_async_name = expression_alone refl refl
      (single
      (arrow (arrow_async (word_at "" "async" " x => x" refl) (same_line_at " " "x => x" refl) (arrow_name refl (word_at " " "x" " => x" refl)))
      (same_line_at " " "=> x" refl) (sign_at " " "=>" " x" refl) (concise_body refl (name_at " " "x" "" refl)))) (at_end (end_at "" refl)) (end_at "" refl);
  an_async_call = expression_alone refl refl
      (single
      (call {n = 21} (lit≤ tt) (name_at "" "async" " (x)" refl)
      (arguments (sign_at " " "(" "x)" refl) (items refl (last (an_argument (name_at "" "x" ")" refl)))) (sign_at "" ")" "" refl)))) (at_end (end_at "" refl))
      (end_at "" refl);
  an_arrow_of_an_object = expression_alone refl refl
      (single
      (arrow (arrow_name refl (word_at "" "x" " => ({})" refl)) (same_line_at " " "=> ({})" refl) (sign_at " " "=>" " ({})" refl)
      (concise_body refl
      (parenthesized (sign_at " " "(" "{})" refl) (single (object (sign_at "" "{" "})" refl) no_items (sign_at "" "}" ")" refl))) (sign_at "" ")" "" refl)))))
      (at_end (end_at "" refl)) (end_at "" refl);
  some_parameters = expression_alone refl refl
      (single
      (arrow
      (arrow_parameters
      (parameters (sign_at "" "(" "a, { b, c: [d] }, ...e) => a" refl)
      (and_rest
      (and (a_parameter (binding_at "" "a" ", { b, c: [d] }, ...e) => a" refl)) (sign_at "" "," " { b, c: [d] }, ...e) => a" refl)
      (last
      (a_parameter
      (object_pattern (sign_at " " "{" " b, c: [d] }, ...e) => a" refl)
      (no_rest
      (items refl
      (and (a_binding_shorthand refl (word_at " " "b" ", c: [d] }, ...e) => a" refl)) (sign_at "" "," " c: [d] }, ...e) => a" refl)
      (last
      (a_binding_pair (name_key (word_at " " "c" ": [d] }, ...e) => a" refl)) (sign_at "" ":" " [d] }, ...e) => a" refl)
      (not_defaulted
      (array_pattern (sign_at " " "[" "d] }, ...e) => a" refl)
      (no_rest (items refl (last (a_binding (not_defaulted (binding_at "" "d" "] }, ...e) => a" refl))))))
      (sign_at "" "]" " }, ...e) => a" refl)))))))) (sign_at " " "}" ", ...e) => a" refl))))) (sign_at "" "," " ...e) => a" refl)
      (rest_parameter (sign_at " " "..." "e) => a" refl) (binding_at "" "e" ") => a" refl))) (sign_at "" ")" " => a" refl))) (same_line_at " " "=> a" refl)
      (sign_at " " "=>" " a" refl) (concise_body refl (name_at " " "a" "" refl)))) (at_end (end_at "" refl)) (end_at "" refl);
  a_target_with_a_default = expression_alone refl refl
      (single
      (parenthesized (sign_at "" "(" "{a = 1} = b)" refl)
      (single
      (assignment {op = codes "="} refl refl
      (object_target (sign_at "" "{" "a = 1} = b)" refl)
      (no_rest (items refl (last (a_target_default refl (word_at "" "a" " = 1} = b)" refl) (sign_at " " "=" " 1} = b)" refl) (number_at " " "1" "} = b)" refl)))))
      (sign_at "" "}" " = b)" refl)) (sign_at " " "=" " b)" refl) (name_at " " "b" ")" refl))) (sign_at "" ")" "" refl))) (at_end (end_at "" refl))
      (end_at "" refl);
  an_array_target = expression_alone refl refl
      (single
      (assignment {op = codes "="} refl refl
      (array_target (sign_at "" "[" "a, , ...b] = c" refl)
      (and_rest (and (a_target (target_alone (simple_target refl (name_at "" "a" ", , ...b] = c" refl)))) (sign_at "" "," " , ...b] = c" refl) (last a_target_hole))
      (sign_at " " "," " ...b] = c" refl) (rest_target (sign_at " " "..." "b] = c" refl) (simple_target refl (name_at "" "b" "] = c" refl))))
      (sign_at "" "]" " = c" refl)) (sign_at " " "=" " c" refl) (name_at " " "c" "" refl))) (at_end (end_at "" refl)) (end_at "" refl);
  a_last_elision = expression_alone refl refl
      (single
      (array (sign_at "" "[" "a, , ]" refl)
      (trailing (and (an_element (name_at "" "a" ", , ]" refl)) (sign_at "" "," " , ]" refl) (last an_elision)) (sign_at " " "," " ]" refl)) (sign_at " " "]" "" refl)))
      (at_end (end_at "" refl)) (end_at "" refl);
  increments = expression_alone refl refl
      (single
      (binary {m = 17} {n = 17} {op = codes "+"} refl refl (lit≤ tt) (lit≤ tt)
      (update_behind {op = codes "++"} refl refl (name_at "" "a" "++ + ++b" refl) (same_line_at "" "++ + ++b" refl) (sign_at "" "++" " + ++b" refl))
      (sign_operator (sign_at " " "+" " ++b" refl)) (update_before refl refl (sign_at " " "++" "b" refl) (name_at "" "b" "" refl)))) (at_end (end_at "" refl))
      (end_at "" refl);
  a_regexp = expression_alone refl refl
      (single
      (call {n = 20} (lit≤ tt)
      (member {n = 21} (lit≤ tt) (regexp_literal (regexp_token [] (codes "[/\\]]\\/") (codes "gi") (codes ".test(a)") refl refl refl refl))
      (static_access (plain_dot (sign_at "" "." "test(a)" refl)) (word_at "" "test" "(a)" refl)))
      (arguments (sign_at "" "(" "a)" refl) (items refl (last (an_argument (name_at "" "a" ")" refl)))) (sign_at "" ")" "" refl)))) (at_end (end_at "" refl))
      (end_at "" refl);
  an_object = expression_alone refl refl
      (single
      (assignment {op = codes "="} refl refl (simple_target refl (name_at "" "x" " = { get a() { return 1 }, async *b() {}, [c]: d, e, ...f }" refl))
      (sign_at " " "=" " { get a() { return 1 }, async *b() {}, [c]: d, e, ...f }" refl)
      (object (sign_at " " "{" " get a() { return 1 }, async *b() {}, [c]: d, e, ...f }" refl)
      (items refl
      (and
      (an_accessor
      (getter (word_at " " "get" " a() { return 1 }, async *b() {}, [c]: d, e, ...f }" refl)
      (public_key (name_key (word_at " " "a" "() { return 1 }, async *b() {}, [c]: d, e, ...f }" refl)))
      (method_function
      (parameters (sign_at "" "(" ") { return 1 }, async *b() {}, [c]: d, e, ...f }" refl) (no_rest no_items)
      (sign_at "" ")" " { return 1 }, async *b() {}, [c]: d, e, ...f }" refl))
      (body refl (sign_at " " "{" " return 1 }, async *b() {}, [c]: d, e, ...f }" refl) no_directives
      (next_statement
      (return_statement (word_at " " "return" " 1 }, async *b() {}, [c]: d, e, ...f }" refl)
      (same_line_at " " "1 }, async *b() {}, [c]: d, e, ...f }" refl) (single (number_at " " "1" " }, async *b() {}, [c]: d, e, ...f }" refl))
      (before_brace (sign_at " " "}" ", async *b() {}, [c]: d, e, ...f }" refl))) no_statements)
      (sign_at " " "}" ", async *b() {}, [c]: d, e, ...f }" refl)))) refl) (sign_at "" "," " async *b() {}, [c]: d, e, ...f }" refl)
      (and
      (a_method
      (method (with_async (word_at " " "async" " *b() {}, [c]: d, e, ...f }" refl) (same_line_at " " "*b() {}, [c]: d, e, ...f }" refl))
      (with_star (sign_at " " "*" "b() {}, [c]: d, e, ...f }" refl)) (public_key (name_key (word_at "" "b" "() {}, [c]: d, e, ...f }" refl)))
      (method_function (parameters (sign_at "" "(" ") {}, [c]: d, e, ...f }" refl) (no_rest no_items) (sign_at "" ")" " {}, [c]: d, e, ...f }" refl))
      (body refl (sign_at " " "{" "}, [c]: d, e, ...f }" refl) no_directives no_statements (sign_at "" "}" ", [c]: d, e, ...f }" refl)))) refl)
      (sign_at "" "," " [c]: d, e, ...f }" refl)
      (and
      (a_property (computed_key (sign_at " " "[" "c]: d, e, ...f }" refl) (name_at "" "c" "]: d, e, ...f }" refl) (sign_at "" "]" ": d, e, ...f }" refl))
      (sign_at "" ":" " d, e, ...f }" refl) (name_at " " "d" ", e, ...f }" refl)) (sign_at "" "," " e, ...f }" refl)
      (and (a_shorthand refl (word_at " " "e" ", ...f }" refl)) (sign_at "" "," " ...f }" refl)
      (last (a_spread_property (spread (sign_at " " "..." "f }" refl) (name_at "" "f" " }" refl))))))))) (sign_at " " "}" "" refl))))
      (at_end (end_at "" refl)) (end_at "" refl);
  escapes = expression_alone refl refl
      (single
      (assignment {op = codes "="} refl refl (simple_target refl (name_at "" "x" " = '\\b\\t\\n\\v\\f\\r\\0\\x41\\u0042\\u{43}\\uD83D\\uDE00\\\n\\z'" refl))
      (sign_at " " "=" " '\\b\\t\\n\\v\\f\\r\\0\\x41\\u0042\\u{43}\\uD83D\\uDE00\\\n\\z'" refl)
      (string_literal
      (string_token (codes " ") 39 (codes "\\b\\t\\n\\v\\f\\r\\0\\x41\\u0042\\u{43}\\uD83D\\uDE00\\\n\\z")
      (8 ∷ 9 ∷ 10 ∷ 11 ∷ 12 ∷ 13 ∷ 0 ∷ 65 ∷ 66 ∷ 67 ∷ 240 ∷ 159 ∷ 152 ∷ 128 ∷ 122 ∷ []) [] refl refl the_escapes)))) (at_end (end_at "" refl)) (end_at "" refl);
  parenthesized_in = item_alone refl
      (statement
      (for_statement (word_at "" "for" " (var i = (a in b); ;) ;" refl) (sign_at " " "(" "var i = (a in b); ;) ;" refl)
      (init_variables
      (declarators refl (word_at "" "var" " i = (a in b); ;) ;" refl)
      (last
      (an_initialized (binding_at " " "i" " = (a in b); ;) ;" refl) (sign_at " " "=" " (a in b); ;) ;" refl)
      (parenthesized (sign_at " " "(" "a in b); ;) ;" refl)
      (single
      (binary {m = 21} {n = 21} {op = codes "in"} refl refl (lit≤ tt) (lit≤ tt) (name_at "" "a" " in b); ;) ;" refl)
      (word_operator refl (word_at " " "in" " b); ;) ;" refl)) (name_at " " "b" "); ;) ;" refl))) (sign_at "" ")" "; ;) ;" refl))))))
      (sign_at "" ";" " ;) ;" refl) perhaps_not (sign_at " " ";" ") ;" refl) perhaps_not (sign_at "" ")" " ;" refl)
      (embedded refl (empty_statement (sign_at " " ";" "" refl))))) (end_at "" refl);
  conditional_in = item_alone refl
      (statement
      (for_statement (word_at "" "for" " (a ? b in c : d; ;) ;" refl) (sign_at " " "(" "a ? b in c : d; ;) ;" refl)
      (init_expression
      (single
      (conditional {k = 21} (lit≤ tt) (name_at "" "a" " ? b in c : d; ;) ;" refl) (sign_at " " "?" " b in c : d; ;) ;" refl)
      (binary {m = 21} {n = 21} {op = codes "in"} refl refl (lit≤ tt) (lit≤ tt) (name_at " " "b" " in c : d; ;) ;" refl)
      (word_operator refl (word_at " " "in" " c : d; ;) ;" refl)) (name_at " " "c" " : d; ;) ;" refl)) (sign_at " " ":" " d; ;) ;" refl)
      (name_at " " "d" "; ;) ;" refl)))) (sign_at "" ";" " ;) ;" refl) perhaps_not (sign_at " " ";" ") ;" refl) perhaps_not (sign_at "" ")" " ;" refl)
      (embedded refl (empty_statement (sign_at " " ";" "" refl))))) (end_at "" refl);
}
