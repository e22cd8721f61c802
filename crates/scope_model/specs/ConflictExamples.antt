-- Small programs, and the first name in each that is declared once too often. Each sentence of `Conflicts` has programs that break it, and the
-- nearest ones that do not. The law `conflict_examples` says that each line holds.
use Rattle.std.specs.Prelude.{◌≡◌, List, [], ◌∷◌, true, false, Some}
use Rattle.js_term.specs.Term.{Term, absent, one}
use Rattle.js_term.specs.Node.{identifier_of, binding_of, statement_of, body_of}
use Rattle.scope_model.specs.declared.sort.Sort.TheVariants as Sort
use Rattle.scope_model.specs.Names.{here}
use Rattle.scope_model.specs.Conflicts.{has_conflict, first_redeclared}
use Rattle.scope_model.specs.Programs.{a, b, f, program, var, lets, block, for_of, for_from, case, switch, caught, array_pattern, parameter_a, parameter, function, function_f, arrow, class_a, static_block, import, named_as, namespace_as, exported}

-- a module of these items has a conflict, or none
abbrev pub Conflicts : List Term → Type 0
Conflicts ts = has_conflict (program ts) ≡ true

abbrev pub Agrees : List Term → Type 0
Agrees ts = has_conflict (program ts) ≡ false

-- try {} catch ([a]) { ts }
abbrev pub caught_pattern : List Term → Term
caught_pattern ts = caught (array_pattern (binding_of a ∷ [])) ts

pub record ConflictExamples : Type 0 where
  -- 1. A lexical name, once more in its scope

  -- `let a; let a`, `let a; class a {}`, `function a() {} function a() {}` in a module
  pub two_lexical_names : Conflicts (lets a ∷ lets a ∷ [])
  pub a_class_too : Conflicts (lets a ∷ class_a [] ∷ [])
  pub two_module_functions : Conflicts (function a [] [] ∷ function a [] [] ∷ [])
  -- `import { b as a } from 'm'; import * as a from 'm'`
  pub two_imports : Conflicts (import (named_as b a ∷ []) ∷ import (namespace_as a ∷ []) ∷ [])
  -- `import { a as b } from 'm'; export let a`
  pub an_imported_name_declares_nothing : Agrees (import (named_as a b ∷ []) ∷ exported (lets a) ∷ [])
  -- `export let a; import { b as a } from 'm'`
  pub an_exported_name : Conflicts (exported (lets a) ∷ import (named_as b a ∷ []) ∷ [])
  -- `{ function a() {} function a() {} }`, and the same in a function's body and in a static block
  pub two_functions_in_a_block : Conflicts (block (function a [] [] ∷ function a [] [] ∷ []) ∷ [])
  pub two_functions_in_a_body : Agrees (function f [] (function a [] [] ∷ function a [] [] ∷ []) ∷ [])
  pub two_functions_in_a_static_block : Agrees (class_a (static_block (function b [] [] ∷ function b [] [] ∷ []) ∷ []) ∷ [])
  -- `function f() { let a; function a() {} }`
  pub a_body_function : Conflicts (function f [] (lets a ∷ function a [] [] ∷ []) ∷ [])
  -- `let a; { let a }`
  pub an_inner_scope : Agrees (lets a ∷ block (lets a ∷ []) ∷ [])
  -- `switch (b) { case a: let a; case b: let a }`
  pub two_cases : Conflicts (switch (identifier_of b) (case (identifier_of a) (lets a ∷ []) ∷ case (identifier_of b) (lets a ∷ []) ∷ []) ∷ [])
  -- `(function f() { let f; })`, `(function f(f) {})`: an own name
  pub an_own_name : Agrees (function_f [] (lets f ∷ []) ∷ [])
  pub an_own_name_and_a_parameter : Agrees (function_f (parameter f absent ∷ []) [] ∷ [])
  -- 2. A lexical name and a `var` inside

  -- `let a; { var a }`, `{ let a; { var a } }`, `{ { var a } let a }`
  pub a_var_in_a_block : Conflicts (lets a ∷ block (var a ∷ []) ∷ [])
  pub a_var_in_an_inner_block : Conflicts (block (lets a ∷ block (var a ∷ []) ∷ []) ∷ [])
  pub a_var_before : Conflicts (block (block (var a ∷ []) ∷ lets a ∷ []) ∷ [])
  -- `{ var a } { let a }`
  pub a_var_beside : Agrees (block (var a ∷ []) ∷ block (lets a ∷ []) ∷ [])
  -- `for (let a of b) { var a }`, `for (let a; ; ) { let a }`, `for (var a of b) { let a }`
  pub a_var_in_a_loop : Conflicts (for_of (lets a) (identifier_of b) (block (var a ∷ [])) ∷ [])
  pub a_let_in_a_loop : Agrees (for_from (lets a) (block (lets a ∷ [])) ∷ [])
  pub a_var_head : Agrees (for_of (var a) (identifier_of b) (block (lets a ∷ [])) ∷ [])
  -- `let a; for (var a of b) {}`
  pub a_var_head_inside : Conflicts (lets a ∷ for_of (var a) (identifier_of b) (block []) ∷ [])
  -- `let a; function f() { var a }`, `let b; class a { static { var b } }`, `switch (b) { case a: let a; { var a } }`
  pub a_var_in_a_function : Agrees (lets a ∷ function f [] (var a ∷ []) ∷ [])
  pub a_var_in_a_static_block : Agrees (lets b ∷ class_a (static_block (var b ∷ []) ∷ []) ∷ [])
  pub a_var_in_a_case : Conflicts (switch (identifier_of b) (case (identifier_of a) (lets a ∷ block (var a ∷ []) ∷ []) ∷ []) ∷ [])
  -- `var a; var a; { var a }`
  pub vars : Agrees (var a ∷ var a ∷ block (var a ∷ []) ∷ [])
  -- 3. Parameters

  -- `function f(a, a) {}`, `function f(a, b) {}`
  pub two_parameters : Conflicts (function f (parameter a absent ∷ parameter a absent ∷ []) [] ∷ [])
  pub other_parameters : Agrees (function f (parameter a absent ∷ parameter b absent ∷ []) [] ∷ [])
  -- 4. Parameters and lexical names of the body

  -- `function f(a) { let a }`, `(a) => { let a }`, `function f(a) { var a; function a() {} }`, `function f(a) { { let a } }`
  pub a_lexical_parameter : Conflicts (function f parameter_a (lets a ∷ []) ∷ [])
  pub an_arrow's_lexical_parameter : Conflicts (statement_of (arrow parameter_a (body_of (one (lets a)))) ∷ [])
  pub a_var_parameter : Agrees (function f parameter_a (var a ∷ function a [] [] ∷ []) ∷ [])
  pub a_parameter_and_a_block : Agrees (function f parameter_a (block (lets a ∷ []) ∷ []) ∷ [])
  -- 5. Catch parameters

  -- `try {} catch ([a, a]) {}`, `try {} catch ([a, b]) {}`
  pub two_caught : Conflicts (caught (array_pattern (binding_of a ∷ binding_of a ∷ [])) [] ∷ [])
  pub other_caught : Agrees (caught (array_pattern (binding_of a ∷ binding_of b ∷ [])) [] ∷ [])
  -- 6. Catch parameters and lexical names of the block

  -- `try {} catch (a) { let a }`, `try {} catch ([a]) { function a() {} }`, `try {} catch (a) { { let a } }`
  pub a_lexical_catch : Conflicts (caught (binding_of a) (lets a ∷ []) ∷ [])
  pub a_function_catch : Conflicts (caught_pattern (function a [] [] ∷ []) ∷ [])
  pub a_catch_and_a_block : Agrees (caught (binding_of a) (block (lets a ∷ []) ∷ []) ∷ [])
  -- 7. Catch parameters and `var` names inside

  -- `try {} catch ([a]) { { var a } }`, `try {} catch (a) { { var a } }`, `try {} catch ([a]) { function f() { var a } }`
  pub a_pattern_and_a_var : Conflicts (caught_pattern (block (var a ∷ []) ∷ []) ∷ [])
  pub a_plain_name_and_a_var : Agrees (caught (binding_of a) (block (var a ∷ []) ∷ []) ∷ [])
  pub a_pattern_and_a_function : Agrees (caught_pattern (function f [] (var a ∷ []) ∷ []) ∷ [])
  -- The first in text order: `{ let b; { let a; let a } var b } let f; let f` has three, `a` first.
  pub the_first : first_redeclared (program (block (lets b ∷ block (lets a ∷ lets a ∷ []) ∷ var b ∷ []) ∷ lets f ∷ lets f ∷ []))
      ≡ Some (record { name = a; origin = here Sort.Lexical; place = 1 ∷ 0 ∷ 0 ∷ 1 ∷ 0 ∷ 1 ∷ 0 ∷ 0 ∷ 0 ∷ [] })
