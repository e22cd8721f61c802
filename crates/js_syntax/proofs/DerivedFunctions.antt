-- The derivations of the examples in `FunctionExamples`.
use Rattle.std.proofs.Common.{refl, [], lit≤}
use Rattle.std.specs.Prelude.{codes}
use Rattle.js_syntax.specs.Spelling.{written, before_brace, at_end, no_async, with_async, no_star, with_star, no_static, with_static, unnamed, named, plain_dot, this_expression, string_literal, class_expression, parenthesized, member, super_call, await_expression, private_in, assignment, arrow, bare_yield, yielding, delegating, single, sequence, an_expression, a_parameter, last, and, no_items, items, no_rest, arguments, private_access, name_key, string_key, computed_key, public_key, private_key, method, method_function, parameters, function, body, no_directives, directive, arrow_parameters, block_body, class, no_heritage, heritage, no_elements, next_element, static_block, constructor_element, method_element, field_element, no_initializer, initializer, simple_target, no_statements, next_statement, embedded, declaration, empty_statement, expression_statement, for_await, return_statement, function_declaration, class_declaration, left_variable}
use Rattle.js_syntax.specs.Modules.{statement}
use Rattle.js_syntax.proofs.Written.{same_line_at, end_at, word_at, name_at, binding_at, sign_at, number_at, string_at, item_alone, expression_alone}
use Rattle.js_syntax.proofs.Ascii.{private_token}
use Rattle.js_syntax.specs.Examples.{FunctionExamples}

pub function_examples : FunctionExamples
function_examples = record {
  yields = item_alone refl
      (statement
      (declaration
      (function_declaration refl
      (function no_async (word_at "" "function" "* f() { yield; yield a; yield* b }" refl) (with_star (sign_at "" "*" " f() { yield; yield a; yield* b }" refl))
      (named refl (word_at " " "f" "() { yield; yield a; yield* b }" refl))
      (parameters (sign_at "" "(" ") { yield; yield a; yield* b }" refl) (no_rest no_items) (sign_at "" ")" " { yield; yield a; yield* b }" refl))
      (body refl (sign_at " " "{" " yield; yield a; yield* b }" refl) no_directives
      (next_statement
      (expression_statement refl (single (bare_yield (word_at " " "yield" "; yield a; yield* b }" refl)))
      (written (sign_at "" ";" " yield a; yield* b }" refl)))
      (next_statement
      (expression_statement refl
      (single (yielding (word_at " " "yield" " a; yield* b }" refl) (same_line_at " " "a; yield* b }" refl) (name_at " " "a" "; yield* b }" refl)))
      (written (sign_at "" ";" " yield* b }" refl)))
      (next_statement
      (expression_statement refl
      (single (delegating (word_at " " "yield" "* b }" refl) (same_line_at "" "* b }" refl) (sign_at "" "*" " b }" refl) (name_at " " "b" " }" refl)))
      (before_brace (sign_at " " "}" "" refl))) no_statements))) (sign_at " " "}" "" refl)))))) (end_at "" refl);
  an_await = item_alone refl
      (statement
      (declaration
      (function_declaration refl
      (function (with_async (word_at "" "async" " function f() { await a }" refl) (same_line_at " " "function f() { await a }" refl))
      (word_at " " "function" " f() { await a }" refl) no_star (named refl (word_at " " "f" "() { await a }" refl))
      (parameters (sign_at "" "(" ") { await a }" refl) (no_rest no_items) (sign_at "" ")" " { await a }" refl))
      (body refl (sign_at " " "{" " await a }" refl) no_directives
      (next_statement
      (expression_statement refl (single (await_expression {n = 21} (lit≤ tt) (word_at " " "await" " a }" refl) (name_at " " "a" " }" refl)))
      (before_brace (sign_at " " "}" "" refl))) no_statements) (sign_at " " "}" "" refl)))))) (end_at "" refl);
  an_awaited_loop = item_alone refl
      (statement
      (declaration
      (function_declaration refl
      (function
      (with_async (word_at "" "async" " function f() { for await (const x of y) ; }" refl) (same_line_at " " "function f() { for await (const x of y) ; }" refl))
      (word_at " " "function" " f() { for await (const x of y) ; }" refl) no_star (named refl (word_at " " "f" "() { for await (const x of y) ; }" refl))
      (parameters (sign_at "" "(" ") { for await (const x of y) ; }" refl) (no_rest no_items) (sign_at "" ")" " { for await (const x of y) ; }" refl))
      (body refl (sign_at " " "{" " for await (const x of y) ; }" refl) no_directives
      (next_statement
      (for_await (word_at " " "for" " await (const x of y) ; }" refl) (word_at " " "await" " (const x of y) ; }" refl)
      (sign_at " " "(" "const x of y) ; }" refl) (left_variable refl (word_at "" "const" " x of y) ; }" refl) (binding_at " " "x" " of y) ; }" refl))
      (word_at " " "of" " y) ; }" refl) (name_at " " "y" ") ; }" refl) (sign_at "" ")" " ; }" refl)
      (embedded refl (empty_statement (sign_at " " ";" " }" refl)))) no_statements) (sign_at " " "}" "" refl)))))) (end_at "" refl);
  a_directive = expression_alone refl refl
      (single
      (arrow (arrow_parameters (parameters (sign_at "" "(" ") => { 'use strict'; a }" refl) (no_rest no_items) (sign_at "" ")" " => { 'use strict'; a }" refl)))
      (same_line_at " " "=> { 'use strict'; a }" refl) (sign_at " " "=>" " { 'use strict'; a }" refl)
      (block_body
      (body refl (sign_at " " "{" " 'use strict'; a }" refl)
      (directive (string_at " " "use strict" "; a }" refl refl) (written (sign_at "" ";" " a }" refl)) no_directives)
      (next_statement (expression_statement refl (single (name_at " " "a" " }" refl)) (before_brace (sign_at " " "}" "" refl))) no_statements)
      (sign_at " " "}" "" refl))))) (at_end (end_at "" refl)) (end_at "" refl);
  a_class = item_alone refl
      (statement
      (declaration
      (class_declaration refl
      (class (word_at "" "class" " A extends B { #x = 1; static { this.#x } constructor() { super() } }" refl)
      (named refl (word_at " " "A" " extends B { #x = 1; static { this.#x } constructor() { super() } }" refl))
      (heritage {n = 21} (word_at " " "extends" " B { #x = 1; static { this.#x } constructor() { super() } }" refl) (lit≤ tt)
      (name_at " " "B" " { #x = 1; static { this.#x } constructor() { super() } }" refl))
      (sign_at " " "{" " #x = 1; static { this.#x } constructor() { super() } }" refl)
      (next_element
      (field_element no_static
      (private_key (private_token (codes " ") (codes "x") (codes " = 1; static { this.#x } constructor() { super() } }") refl refl refl))
      (initializer (sign_at " " "=" " 1; static { this.#x } constructor() { super() } }" refl)
      (number_at " " "1" "; static { this.#x } constructor() { super() } }" refl))
      (written (sign_at "" ";" " static { this.#x } constructor() { super() } }" refl)))
      (next_element
      (static_block (word_at " " "static" " { this.#x } constructor() { super() } }" refl) (sign_at " " "{" " this.#x } constructor() { super() } }" refl)
      (next_statement
      (expression_statement refl
      (single
      (member {n = 21} (lit≤ tt) (this_expression (word_at " " "this" ".#x } constructor() { super() } }" refl))
      (private_access (plain_dot (sign_at "" "." "#x } constructor() { super() } }" refl))
      (private_token [] (codes "x") (codes " } constructor() { super() } }") refl refl refl))))
      (before_brace (sign_at " " "}" " constructor() { super() } }" refl))) no_statements) (sign_at " " "}" " constructor() { super() } }" refl))
      (next_element
      (constructor_element refl (public_key (name_key (word_at " " "constructor" "() { super() } }" refl)))
      (method_function (parameters (sign_at "" "(" ") { super() } }" refl) (no_rest no_items) (sign_at "" ")" " { super() } }" refl))
      (body refl (sign_at " " "{" " super() } }" refl) no_directives
      (next_statement
      (expression_statement refl
      (single (super_call (word_at " " "super" "() } }" refl) (arguments (sign_at "" "(" ") } }" refl) no_items (sign_at "" ")" " } }" refl))))
      (before_brace (sign_at " " "}" " }" refl))) no_statements) (sign_at " " "}" " }" refl)))) no_elements))) (sign_at " " "}" "" refl)))))
      (end_at "" refl);
  constructors = item_alone refl
      (statement
      (declaration
      (class_declaration refl
      (class (word_at "" "class" " A { 'constructor'() {} static constructor() {} ['constructor']() {} }" refl)
      (named refl (word_at " " "A" " { 'constructor'() {} static constructor() {} ['constructor']() {} }" refl)) no_heritage
      (sign_at " " "{" " 'constructor'() {} static constructor() {} ['constructor']() {} }" refl)
      (next_element
      (constructor_element refl (public_key (string_key (string_at " " "constructor" "() {} static constructor() {} ['constructor']() {} }" refl refl)))
      (method_function
      (parameters (sign_at "" "(" ") {} static constructor() {} ['constructor']() {} }" refl) (no_rest no_items)
      (sign_at "" ")" " {} static constructor() {} ['constructor']() {} }" refl))
      (body refl (sign_at " " "{" "} static constructor() {} ['constructor']() {} }" refl) no_directives no_statements
      (sign_at "" "}" " static constructor() {} ['constructor']() {} }" refl))))
      (next_element
      (method_element refl (with_static (word_at " " "static" " constructor() {} ['constructor']() {} }" refl))
      (method no_async no_star (public_key (name_key (word_at " " "constructor" "() {} ['constructor']() {} }" refl)))
      (method_function
      (parameters (sign_at "" "(" ") {} ['constructor']() {} }" refl) (no_rest no_items) (sign_at "" ")" " {} ['constructor']() {} }" refl))
      (body refl (sign_at " " "{" "} ['constructor']() {} }" refl) no_directives no_statements (sign_at "" "}" " ['constructor']() {} }" refl)))))
      (next_element
      (method_element refl no_static
      (method no_async no_star
      (public_key
      (computed_key (sign_at " " "[" "'constructor']() {} }" refl) (string_literal (string_at "" "constructor" "]() {} }" refl refl))
      (sign_at "" "]" "() {} }" refl)))
      (method_function (parameters (sign_at "" "(" ") {} }" refl) (no_rest no_items) (sign_at "" ")" " {} }" refl))
      (body refl (sign_at " " "{" "} }" refl) no_directives no_statements (sign_at "" "}" " }" refl))))) no_elements))) (sign_at " " "}" "" refl)))))
      (end_at "" refl);
  words_as_keys = item_alone refl
      (statement
      (declaration
      (class_declaration refl
      (class (word_at "" "class" " A { get() {} static() {} async() {} }" refl) (named refl (word_at " " "A" " { get() {} static() {} async() {} }" refl))
      no_heritage (sign_at " " "{" " get() {} static() {} async() {} }" refl)
      (next_element
      (method_element refl no_static
      (method no_async no_star (public_key (name_key (word_at " " "get" "() {} static() {} async() {} }" refl)))
      (method_function
      (parameters (sign_at "" "(" ") {} static() {} async() {} }" refl) (no_rest no_items) (sign_at "" ")" " {} static() {} async() {} }" refl))
      (body refl (sign_at " " "{" "} static() {} async() {} }" refl) no_directives no_statements (sign_at "" "}" " static() {} async() {} }" refl)))))
      (next_element
      (method_element refl no_static
      (method no_async no_star (public_key (name_key (word_at " " "static" "() {} async() {} }" refl)))
      (method_function (parameters (sign_at "" "(" ") {} async() {} }" refl) (no_rest no_items) (sign_at "" ")" " {} async() {} }" refl))
      (body refl (sign_at " " "{" "} async() {} }" refl) no_directives no_statements (sign_at "" "}" " async() {} }" refl)))))
      (next_element
      (method_element refl no_static
      (method no_async no_star (public_key (name_key (word_at " " "async" "() {} }" refl)))
      (method_function (parameters (sign_at "" "(" ") {} }" refl) (no_rest no_items) (sign_at "" ")" " {} }" refl))
      (body refl (sign_at " " "{" "} }" refl) no_directives no_statements (sign_at "" "}" " }" refl))))) no_elements))) (sign_at " " "}" "" refl)))))
      (end_at "" refl);
  a_heritage = expression_alone refl refl
      (single
      (assignment {op = codes "="} refl refl (simple_target refl (name_at "" "x" " = class extends (a, b) {}" refl)) (sign_at " " "=" " class extends (a, b) {}" refl)
      (class_expression
      (class (word_at " " "class" " extends (a, b) {}" refl) unnamed
      (heritage {n = 21} (word_at " " "extends" " (a, b) {}" refl) (lit≤ tt)
      (parenthesized (sign_at " " "(" "a, b) {}" refl)
      (sequence refl (and (an_expression (name_at "" "a" ", b) {}" refl)) (sign_at "" "," " b) {}" refl) (last (an_expression (name_at " " "b" ") {}" refl)))))
      (sign_at "" ")" " {}" refl))) (sign_at " " "{" "}" refl) no_elements (sign_at "" "}" "" refl))))) (at_end (end_at "" refl)) (end_at "" refl);
  a_private_in = item_alone refl
      (statement
      (declaration
      (class_declaration refl
      (class (word_at "" "class" " A { #x; f(o) { return #x in o } }" refl) (named refl (word_at " " "A" " { #x; f(o) { return #x in o } }" refl)) no_heritage
      (sign_at " " "{" " #x; f(o) { return #x in o } }" refl)
      (next_element
      (field_element no_static (private_key (private_token (codes " ") (codes "x") (codes "; f(o) { return #x in o } }") refl refl refl)) no_initializer
      (written (sign_at "" ";" " f(o) { return #x in o } }" refl)))
      (next_element
      (method_element refl no_static
      (method no_async no_star (public_key (name_key (word_at " " "f" "(o) { return #x in o } }" refl)))
      (method_function
      (parameters (sign_at "" "(" "o) { return #x in o } }" refl)
      (no_rest (items refl (last (a_parameter (binding_at "" "o" ") { return #x in o } }" refl))))) (sign_at "" ")" " { return #x in o } }" refl))
      (body refl (sign_at " " "{" " return #x in o } }" refl) no_directives
      (next_statement
      (return_statement (word_at " " "return" " #x in o } }" refl) (same_line_at " " "#x in o } }" refl)
      (single
      (private_in {n = 21} (lit≤ tt) (private_token (codes " ") (codes "x") (codes " in o } }") refl refl refl) (word_at " " "in" " o } }" refl)
      (name_at " " "o" " } }" refl))) (before_brace (sign_at " " "}" " }" refl))) no_statements) (sign_at " " "}" " }" refl))))) no_elements))
      (sign_at " " "}" "" refl))))) (end_at "" refl);
}
