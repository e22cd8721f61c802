-- The examples, derived and computed.
use Rattle.std.proofs.Common.{◌≡◌, refl, ℕ, [], ◌∷◌, ◌++◌, true, lit≤}
use Rattle.std.specs.Prelude.{codes}
use Rattle.std.specs.List.{list_all}
use Rattle.js_term.specs.Term.{Text}
use Rattle.js_term.specs.Lexeme.{Manner, narrow, whole, Token, word, number, sign, is_name, is_number, is_string, is_mark, no_more, plain, escape, is_word, is_decimal, is_sign, is_blank, not_next, goes_on, goes_on_number}
use Rattle.js_term.specs.Spells.{identifier, numeric, string_literal, parenthesized, call, member, last, and, some_items, body, next_statement, no_statements, declaration, returns, expression, function, no_names, unrenamed, last_specifier, statement, imports, next_item, no_more_items, spells}
use Rattle.js_term.specs.Examples.{Examples}

-- a token behind a gap, before a rest

word_token : (m : Manner) (gap x rest : Text) → list_all is_blank gap ≡ true → is_word x ≡ true → not_next goes_on rest ≡ true → Token m (gap ++ (x ++ rest)) (word x) rest
word_token m gap x rest b w n = record { gap = gap; spelled = x; whole_is = refl; blank = b; is_spelled = is_name w n }

number_token : (m : Manner) (gap x rest : Text) → list_all is_blank gap ≡ true → is_decimal x ≡ true → not_next goes_on_number rest ≡ true → Token m (gap ++ (x ++ rest)) (number x) rest
number_token m gap x rest b w n = record { gap = gap; spelled = x; whole_is = refl; blank = b; is_spelled = is_number w n }

sign_token : (m : Manner) (gap : Text) (c : ℕ) (rest : Text) → list_all is_blank gap ≡ true → is_sign c ≡ true → Token m (gap ++ c ∷ rest) (sign c) rest
sign_token m gap c rest b w = record { gap = gap; spelled = c ∷ []; whole_is = refl; blank = b; is_spelled = is_mark w }

abbrev blank : Text
blank = 32 ∷ []

pub examples : Examples
examples = record {
  vue_spelled = spells
      (next_item
      (imports (word_token narrow [] (codes "import") (codes " { ref } from 'vue'; function foo() { return ref(0); }") refl refl refl)
      (sign_token narrow blank 123 (codes " ref } from 'vue'; function foo() { return ref(0); }") refl refl)
      (last_specifier (unrenamed refl (word_token narrow blank (codes "ref") (codes " } from 'vue'; function foo() { return ref(0); }") refl refl refl)))
      (sign_token narrow blank 125 (codes " from 'vue'; function foo() { return ref(0); }") refl refl)
      (word_token narrow blank (codes "from") (codes " 'vue'; function foo() { return ref(0); }") refl refl refl)
      (record { gap = blank; spelled = codes "'vue'"; whole_is = refl; blank = refl; is_spelled = is_string {quote = 39} {spelled = codes "vue"} refl (plain {c = 118} refl (plain {c = 117} refl (plain {c = 101} refl no_more))) })
      (sign_token narrow [] 59 (codes " function foo() { return ref(0); }") refl refl))
      (next_item
      (statement (declaration (function refl
      (word_token narrow blank (codes "function") (codes " foo() { return ref(0); }") refl refl refl)
      (word_token narrow blank (codes "foo") (codes "() { return ref(0); }") refl refl refl)
      (sign_token narrow [] 40 (codes ") { return ref(0); }") refl refl) no_names
      (sign_token narrow [] 41 (codes " { return ref(0); }") refl refl)
      (body (sign_token narrow blank 123 (codes " return ref(0); }") refl refl)
      (next_statement
      (returns (word_token narrow blank (codes "return") (codes " ref(0); }") refl refl refl) refl
      (last (lit≤ tt) (call (lit≤ tt) (identifier refl (word_token narrow blank (codes "ref") (codes "(0); }") refl refl refl))
      (sign_token narrow [] 40 (codes "0); }") refl refl)
      (some_items (last (lit≤ tt) (numeric (number_token narrow [] (codes "0") (codes "); }") refl refl refl))))
      (sign_token narrow [] 41 (codes "; }") refl refl)))
      (sign_token narrow [] 59 (codes " }") refl refl))
      no_statements)
      (sign_token narrow blank 125 [] refl refl)))))
      no_more_items))
      refl;
  vue_small = refl;
  vue_printable = refl;
  vue_depth = refl;
  called_spelled = spells
      (next_item
      (statement (expression refl refl
      (last (lit≤ tt) (call (lit≤ tt)
      (parenthesized (sign_token whole [] 40 (codes "0, a.b)('\\'');\n") refl refl)
      (and (lit≤ tt) (numeric (number_token whole [] (codes "0") (codes ", a.b)('\\'');\n") refl refl refl)) (sign_token whole [] 44 (codes " a.b)('\\'');\n") refl refl)
      (last (lit≤ tt) (member (lit≤ tt) (identifier refl (word_token whole blank (codes "a") (codes ".b)('\\'');\n") refl refl refl)) (sign_token whole [] 46 (codes "b)('\\'');\n") refl refl) (word_token whole [] (codes "b") (codes ")('\\'');\n") refl refl refl))))
      (sign_token whole [] 41 (codes "('\\'');\n") refl refl))
      (sign_token whole [] 40 (codes "'\\'');\n") refl refl)
      (some_items (last (lit≤ tt) (string_literal (record { gap = []; spelled = codes "'\\''"; whole_is = refl; blank = refl; is_spelled = is_string {quote = 39} {spelled = codes "\\'"} refl (escape {c = 39} {e = 39} refl refl no_more) }))))
      (sign_token whole [] 41 (codes ";\n") refl refl)))
      (sign_token whole [] 59 (codes "\n") refl refl)))
      no_more_items)
      refl;
  called_strip = refl;
  called_not_small = refl;
  called_printable = refl;
  an_import = refl;
  a_declaration = refl;
  a_parameter = refl;
  the_arguments = refl;
  no_arguments = refl;
  a_global = refl;
  an_export = refl;
  a_name_twice = refl;
  a_parameter_twice = refl;
  a_reserved_name = refl;
  a_runner's_name = refl;
  the_global_object = refl;
  a_return_at_the_root = refl;
  a_string_statement = refl;
}
