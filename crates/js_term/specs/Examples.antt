-- The definitions at small modules. The law `worked_examples` says that each of these holds.
use Rattle.std.specs.Prelude.{◌≡◌, [], ◌∷◌, Some, true, false, codes}
use Rattle.js_term.specs.Term.{Text, Term, none, one, two, strip, depth}
use Rattle.js_term.specs.Lexeme.{narrow, whole}
use Rattle.js_term.specs.Node.{identifier_of, number_of, string_of, call_of, member_of, sequence_of, parenthesized_of, function_of, const_of, return_of, statement_of, specifier_of, import_declaration_of, export_declaration_of, program_of}
use Rattle.js_term.specs.Scope.{Env, resolve, import_of, local, arguments_of, global, module_env, call_scope}
use Rattle.js_term.specs.Spells.{Spells}
use Rattle.js_term.specs.Form.{is_small, is_printable, items_of}

abbrev pub vue_text : Text
vue_text = codes "import { ref } from 'vue'; function foo() { return ref(0); }"

abbrev pub vue_module : Term
vue_module = program_of (two (import_declaration_of (one (specifier_of (codes "ref") (codes "ref"))) (codes "vue"))
    (function_of (codes "foo") [] (one (return_of (call_of (identifier_of (codes "ref")) (one (number_of (codes "0"))))))))

-- a text that is written, not read: its callee stands in parentheses
abbrev pub called_text : Text
called_text = codes "(0, a.b)('\\'');\n"

abbrev pub called_module : Term
called_module = program_of (one (statement_of (call_of (parenthesized_of (sequence_of (two (number_of (codes "0")) (member_of (identifier_of (codes "a")) (codes "b"))))) (one (string_of (codes "'"))))))

abbrev pub called_stripped : Term
called_stripped = program_of (one (statement_of (call_of (sequence_of (two (number_of (codes "0")) (member_of (identifier_of (codes "a")) (codes "b")))) (one (string_of (codes "'"))))))

-- the module's environment, and that of a function in it with the parameter `b`
abbrev pub root : Env
root = module_env (items_of vue_module)

abbrev pub inside : Env
inside = call_scope (codes "b" ∷ []) ∷ root

abbrev pub exported : Text → Term
exported x = export_declaration_of (const_of x (number_of (codes "1")))

pub record Examples : Type 0 where
  pub vue_spelled : Spells narrow vue_text vue_module
  pub vue_small : is_small vue_module ≡ true
  pub vue_printable : is_printable vue_module ≡ true
  pub vue_depth : depth vue_module ≡ 6
  pub called_spelled : Spells whole called_text called_module
  pub called_strip : strip called_module ≡ called_stripped
  pub called_not_small : is_small called_stripped ≡ false
  pub called_printable : is_printable called_stripped ≡ true
  -- what names stand for
  pub an_import : resolve root (codes "ref") ≡ import_of 0 (Some (codes "ref"))
  pub a_declaration : resolve inside (codes "foo") ≡ local 0 (codes "foo")
  pub a_parameter : resolve inside (codes "b") ≡ local 1 (codes "b")
  pub the_arguments : resolve inside (codes "arguments") ≡ arguments_of 1
  pub no_arguments : resolve root (codes "arguments") ≡ global (codes "arguments")
  pub a_global : resolve inside (codes "console") ≡ global (codes "console")
  -- which names and scopes are small
  pub an_export : is_small (program_of (one (exported (codes "a")))) ≡ true
  pub a_name_twice : is_small (program_of (two (exported (codes "a")) (exported (codes "a")))) ≡ false
  pub a_parameter_twice : is_small (program_of (one (function_of (codes "f") (codes "a" ∷ codes "a" ∷ []) none))) ≡ false
  pub a_reserved_name : is_small (program_of (one (exported (codes "let")))) ≡ false
  pub a_runner's_name : is_small (program_of (one (exported (codes "__vite_ssr_x")))) ≡ false
  pub the_global_object : is_small (program_of (one (exported (codes "Object")))) ≡ false
  pub a_return_at_the_root : is_small (program_of (one (return_of (identifier_of (codes "a"))))) ≡ false
  pub a_string_statement : is_small (program_of (one (statement_of (string_of (codes "a"))))) ≡ false
