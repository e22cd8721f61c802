-- What the references of small programs stand for, in text order, and what small programs declare. A number of `local` is that of
-- the scopes outside the one that declares the name: 0 is the module's. The law `worked_examples` says that each line holds.
use Rattle.std.specs.Prelude.{◌≡◌, List, [], ◌∷◌, None, Some, codes}
use Rattle.js_term.specs.Term.{Text, Term, absent, list, node, none, more, one, two}
use Rattle.js_term.specs.declared.kind.Kind.TheVariants as Kind
use Rattle.js_term.specs.Node.{identifier_of, binding_of, statement_of}
use Rattle.scope_model.specs.declared.sort.Sort.TheVariants as Sort
use Rattle.scope_model.specs.declared.sort.ScopeSort.{ScopeSort}
use Rattle.scope_model.specs.declared.role.Role.TheVariants as Role
use Rattle.scope_model.specs.Names.{Origin, here, imported, Place, Declaration}
use Rattle.scope_model.specs.Scopes.{Answer, import_of, local, arguments_of, global, resolved, declares, Env, hoist_env}
use Rattle.scope_model.specs.Programs.{a, b, f, the_arguments, program, say, declare, var, lets, block, for_of, case, switch, labeled, caught, array_pattern, parameter, function_of, function, function_f, arrow, class_of, class_a, field, static_block, method, import, default_as, namespace_as, named_as, export_all_as, export_from, export_named, exported, exported_default}

-- The program's references stand for these.
abbrev pub Means : List Term → List (Text × Answer) → Type 0
Means ts answers = resolved (program ts) ≡ answers

abbrev pub declares_as : Text → Origin → Place → Declaration
declares_as x o p = record { name = x; origin = o; place = p }

-- scopes of these sorts, that declare nothing
abbrev pub sorts : List ScopeSort → Env
sorts [] = []
sorts (s ∷ ss) = record { sort = s; names = [] } ∷ sorts ss

pub record Examples : Type 0 where
  -- `var` and blocks

  -- `b; { var b; let a; a } a`
  pub var_in_a_block : Means (say b ∷ block (var b ∷ lets a ∷ say a ∷ []) ∷ say a ∷ [])
      ((b, local 0 b) ∷ (a, local 1 a) ∷ (a, global a) ∷ [])
  -- `function f() { { function a() { a } a } a }`
  pub function_in_a_block : Means (function f [] (block (function a [] (say a ∷ []) ∷ say a ∷ []) ∷ say a ∷ []) ∷ [])
      ((a, local 2 a) ∷ (a, local 2 a) ∷ (a, global a) ∷ [])
  -- `a: var b; b; a: { function f() {} f } f`
  pub labels : Means (labeled a (var b) ∷ say b ∷ labeled a (block (function f [] [] ∷ say f ∷ [])) ∷ say f ∷ [])
      ((b, local 0 b) ∷ (f, local 1 f) ∷ (f, global f) ∷ [])
  -- `a: function f() {} f`: it stands in no module (14.13.1), and declares nothing
  pub a_labelled_function : Means (labeled a (function f [] []) ∷ say f ∷ []) ((f, global f) ∷ [])
  -- `function f() { for (var a of b); } a`
  pub var_in_a_function : Means (function f [] (for_of (var a) (identifier_of b) (block []) ∷ say a ∷ []) ∷ say a ∷ [])
      ((b, global b) ∷ (a, local 1 a) ∷ (a, global a) ∷ [])
  -- heads of loops, switches, catch clauses

  -- `for (let a of a) { a } a`
  pub let_in_a_loop_head : Means (for_of (lets a) (identifier_of a) (block (say a ∷ [])) ∷ say a ∷ [])
      ((a, local 1 a) ∷ (a, local 1 a) ∷ (a, global a) ∷ [])
  -- `for (var a of a) { a } a`
  pub var_in_a_loop_head : Means (for_of (var a) (identifier_of a) (block (say a ∷ [])) ∷ say a ∷ [])
      ((a, local 0 a) ∷ (a, local 0 a) ∷ (a, local 0 a) ∷ [])
  -- `switch (a) { case a: let a; case b: a; var b } a; b`
  pub cases_share_a_scope : Means (switch (identifier_of a) (case (identifier_of a) (lets a ∷ []) ∷ case (identifier_of b) (say a ∷ var b ∷ []) ∷ []) ∷ say a ∷ say b ∷ [])
      ((a, global a) ∷ (a, local 1 a) ∷ (b, local 0 b) ∷ (a, local 1 a) ∷ (a, global a) ∷ (b, local 0 b) ∷ [])
  -- `try {} catch (a) { a; let b; b } a; b`
  pub a_catch_clause : Means (caught (binding_of a) (say a ∷ lets b ∷ say b ∷ []) ∷ say a ∷ say b ∷ [])
      ((a, local 1 a) ∷ (b, local 2 b) ∷ (a, global a) ∷ (b, global b) ∷ [])
  -- `try {} catch (a) { var a; a } a`
  pub a_catch_parameter_and_a_var : Means (caught (binding_of a) (var a ∷ say a ∷ []) ∷ say a ∷ [])
      ((a, local 1 a) ∷ (a, local 0 a) ∷ [])
  -- functions

  -- `let a; function f(b = a) { var a; a }`
  pub a_default_sees_no_body_name : Means (lets a ∷ function f (parameter b (identifier_of a) ∷ []) (var a ∷ say a ∷ []) ∷ [])
      ((a, local 0 a) ∷ (a, local 1 a) ∷ [])
  -- `function f(b = a, a = b) {}`
  pub a_default_sees_all_parameters : Means (function f (parameter b (identifier_of a) ∷ parameter a (identifier_of b) ∷ []) [] ∷ [])
      ((a, local 1 a) ∷ (b, local 1 b) ∷ [])
  -- `(b = a) => { let a; a }`
  pub an_arrow's_default : Means (statement_of (arrow (parameter b (identifier_of a) ∷ []) (node Kind.FunctionBody [] (two (list none) (list (two (lets a) (say a)))))) ∷ [])
      ((a, global a) ∷ (a, local 1 a) ∷ [])
  -- `(function f(a = f) { var f; f }); f`
  pub an_own_name_is_covered : Means (function_f (parameter a (identifier_of f) ∷ []) (var f ∷ say f ∷ []) ∷ say f ∷ [])
      ((f, local 1 f) ∷ (f, local 1 f) ∷ (f, global f) ∷ [])
  -- `function f() { f }`: the name is declared outside
  pub a_declared_function : Means (function f [] (say f ∷ []) ∷ []) ((f, local 0 f) ∷ [])
  -- `arguments`

  -- `arguments; () => arguments`
  pub global_arguments : Means (say the_arguments ∷ statement_of (arrow [] (identifier_of the_arguments)) ∷ [])
      ((the_arguments, global the_arguments) ∷ (the_arguments, global the_arguments) ∷ [])
  -- `function f() { () => arguments }`
  pub arguments_in_an_arrow : Means (function f [] (statement_of (arrow [] (identifier_of the_arguments)) ∷ []) ∷ [])
      ((the_arguments, arguments_of 1) ∷ [])
  -- `function f(a = arguments) { let arguments; arguments }`
  pub arguments_declared : Means (function f (parameter a (identifier_of the_arguments) ∷ []) (lets the_arguments ∷ say the_arguments ∷ []) ∷ [])
      ((the_arguments, arguments_of 1) ∷ (the_arguments, local 1 the_arguments) ∷ [])
  -- `function f() { class a { [arguments] = arguments } }`
  pub arguments_in_a_field : Means (function f [] (class_a (field (identifier_of the_arguments) (identifier_of the_arguments) ∷ []) ∷ []) ∷ [])
      ((the_arguments, arguments_of 1) ∷ (the_arguments, arguments_of 3) ∷ [])
  -- `class a { static { arguments } [arguments]() { arguments } }`
  pub arguments_in_class_elements : Means (class_a (static_block (say the_arguments ∷ []) ∷ method (identifier_of the_arguments) (say the_arguments ∷ []) ∷ []) ∷ [])
      ((the_arguments, arguments_of 2) ∷ (the_arguments, global the_arguments) ∷ (the_arguments, arguments_of 2) ∷ [])
  -- classes

  -- `(class a extends a { [a] = a }); a`
  pub a_class_expression : Means (statement_of (class_of Kind.ClassExpression (binding_of a) (identifier_of a) (field (identifier_of a) (identifier_of a) ∷ [])) ∷ say a ∷ [])
      ((a, local 1 a) ∷ (a, local 1 a) ∷ (a, local 1 a) ∷ (a, global a) ∷ [])
  -- `class a extends a {} a`: the name is declared outside alone
  pub a_class_declaration : Means (class_of Kind.ClassDeclaration (binding_of a) (identifier_of a) [] ∷ say a ∷ [])
      ((a, local 0 a) ∷ (a, local 0 a) ∷ [])
  -- `class a { static { var b; function f() {} { var a } a; b; f } } b`
  pub a_static_block : Means (class_a (static_block (var b ∷ function f [] [] ∷ block (var a ∷ []) ∷ say a ∷ say b ∷ say f ∷ []) ∷ []) ∷ say b ∷ [])
      ((a, local 2 a) ∷ (b, local 2 b) ∷ (f, local 2 f) ∷ (b, global b) ∷ [])
  -- modules

  -- `export * as a from 'm'; import a, { b as f } from 'm'; export { b } from 'm'; import * as b from 'm'; a; f; b`
  pub imports : Means (export_all_as a ∷ import (default_as a ∷ named_as b f ∷ []) ∷ export_from b ∷ import (namespace_as b ∷ []) ∷ say a ∷ say f ∷ say b ∷ [])
      ((a, import_of 1 (Some (codes "default"))) ∷ (f, import_of 1 (Some b)) ∷ (b, import_of 3 None) ∷ [])
  -- `export const a = b; export default function b() {} export { a }`
  pub exports : Means (exported (declare (codes "const") (binding_of a) (identifier_of b)) ∷ exported_default (function b [] []) ∷ export_named a ∷ [])
      ((b, local 0 b) ∷ (a, local 0 a) ∷ [])
  -- `export default (function f() {}); f`: an expression declares nothing
  pub an_exported_expression : Means (exported_default (node Kind.ParenthesizedExpression [] (one (function_of Kind.FunctionExpression (binding_of f) [] []))) ∷ say f ∷ [])
      ((f, global f) ∷ [])
  -- the scope that takes `var` names put in: in a block of an arrow, in a static block, and in a field of the module's class
  pub hoisted_from_a_block : hoist_env (sorts (ScopeSort.Block ∷ ScopeSort.Arrow ∷ ScopeSort.Function ∷ ScopeSort.Module ∷ [])) ≡ sorts (ScopeSort.Arrow ∷ ScopeSort.Function ∷ ScopeSort.Module ∷ [])
  pub hoisted_in_a_static_block : hoist_env (sorts (ScopeSort.StaticBlock ∷ ScopeSort.Class ∷ ScopeSort.Module ∷ [])) ≡ sorts (ScopeSort.StaticBlock ∷ ScopeSort.Class ∷ ScopeSort.Module ∷ [])
  pub hoisted_from_a_field : hoist_env (sorts (ScopeSort.Field ∷ ScopeSort.Class ∷ ScopeSort.Module ∷ [])) ≡ sorts (ScopeSort.Module ∷ [])
  -- what a node declares in its scope, with the places

  -- `export * from 'm'; import { b as a } from 'm'; { var b } function f() {}`
  pub names_of_a_module : declares Role.Program (two (list none) (list (more (node Kind.ExportAllDeclaration [] (two absent absent)) (more (import (named_as b a ∷ [])) (two (block (var b ∷ [])) (function f [] []))))))
      ≡ declares_as a (imported 1 (Some b)) (1 ∷ 1 ∷ 0 ∷ 0 ∷ 1 ∷ [])
      ∷ declares_as b (here Sort.Variable) (1 ∷ 2 ∷ 0 ∷ 0 ∷ 0 ∷ 0 ∷ 0 ∷ [])
      ∷ declares_as f (here Sort.Lexical) (1 ∷ 3 ∷ 0 ∷ [])
      ∷ []
  -- `function f([a], b) { function f() {} let b; }` as an expression
  pub names_of_a_function : declares Role.FunctionExpression (more (binding_of f) (two (node Kind.FormalParameters [] (two (list (one (node Kind.FormalParameter [] (two (array_pattern (binding_of a ∷ [])) absent)))) absent)) (node Kind.FunctionBody [] (two (list none) (list (two (function f [] []) (lets b)))))))
      ≡ declares_as f (here Sort.OwnName) (0 ∷ [])
      ∷ declares_as a (here Sort.Parameter) (1 ∷ 0 ∷ 0 ∷ 0 ∷ 0 ∷ 0 ∷ [])
      ∷ declares_as f (here Sort.Variable) (2 ∷ 1 ∷ 0 ∷ 0 ∷ [])
      ∷ declares_as b (here Sort.Lexical) (2 ∷ 1 ∷ 1 ∷ 0 ∷ 0 ∷ 0 ∷ [])
      ∷ []
