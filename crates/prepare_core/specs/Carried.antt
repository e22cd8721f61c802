-- A tree with each imported name written as the member of its request, as it is made of any tree. It differs from
-- `rewritten` in two forms that small modules have not: a property loses its mark of shorthand, and an import inside a
-- function stays as it is.
use Rattle.std.specs.Prelude.{ℕ, suc, List, [], ◌∷◌, map, option_map, Bool, true, false, ◌&&◌, codes}
use Rattle.js_term.specs.Term.{Text, Term, absent, list, node, Terms, none, more, two, all, maybe, flag}
use Rattle.js_term.specs.declared.kind.Kind.{Kind}
use Rattle.js_term.specs.declared.kind.Kind.TheVariants as Kind
use Rattle.js_term.specs.Scope.{role, Env, inner}
use Rattle.small_tree.specs.TermOf.{binding_term, pattern_term, parameters_term, directive_term, name_term, function_word, property_word}
use Rattle.small_tree.specs.declared.expression.CallExpression.{CallExpression}
use Rattle.small_tree.specs.declared.expression.Expression.{Expression}
use Rattle.small_tree.specs.declared.expression.StaticMemberExpression.{StaticMemberExpression}
use Rattle.small_tree.specs.declared.expression.ObjectProperty.{ObjectProperty}
use Rattle.small_tree.specs.declared.function.Function.{Function}
use Rattle.small_tree.specs.declared.statement.VariableDeclarator.{VariableDeclarator}
use Rattle.module_model.specs.Resolved.{finished, without_mark}
use Rattle.module_model.specs.Run.{written}

pub data Turn : Type 0 where
  as_it_is : Turn
  spelled_out : Turn
  usual : Turn

abbrev pub turn : Kind → Turn
turn Kind.ImportDeclaration = as_it_is
turn Kind.ObjectProperty = spelled_out
turn k = usual

-- a node whose kids are carried already
abbrev pub turned : Turn → (Text → Term) → Kind → List Text → Terms → Terms → Term
turned as_it_is f k texts ts us = node k texts ts
turned spelled_out f k texts ts us = node k (without_mark texts) us
turned usual f k texts ts us = finished f (role k) k texts ts us

abbrev mutual
  pub carried : Env → Term → Term
  carried env absent = absent
  carried env (list ts) = list (carried_kids (λ n. env) ts)
  carried env (node k texts ts) = turned (turn k) (written env) k texts ts (carried_kids (inner (role k) env ts) ts)

  pub carried_kids : (ℕ → Env) → Terms → Terms
  carried_kids envs none = none
  carried_kids envs (more t ts) = more (carried (envs 0) t) (carried_kids (λ n. envs (suc n)) ts)

-- no such form is there
abbrev pub is_usual : Turn → Bool
is_usual usual = true
is_usual t = false

abbrev mutual
  pub is_direct : Term → Bool
  is_direct absent = true
  is_direct (list ts) = are_direct ts
  is_direct (node k texts ts) = is_usual (turn k) && are_direct ts

  pub are_direct : Terms → Bool
  are_direct none = true
  are_direct (more t ts) = is_direct t && are_direct ts

-- nodes with other parts

abbrev pub function_with : Function → Terms → Term
function_with n ss = node (function_word n.kind) (flag n.is_async (codes "async") ∷ flag n.is_generator (codes "*") ∷ []) (more (maybe (option_map binding_term n.id)) (two (parameters_term n.params) (node Kind.FunctionBody [] (two (list (all (map directive_term n.body.directives))) (list ss)))))

abbrev pub property_with : ObjectProperty Expression → Term → Term
property_with n value = node Kind.ObjectProperty (property_word n.kind ∷ flag n.method (codes "method") ∷ [] ∷ flag n.computed (codes "computed") ∷ []) (two (name_term n.key) value)

abbrev pub call_with : CallExpression Expression → Term → Terms → Term
call_with n callee arguments = node Kind.CallExpression (flag n.optional (codes "?.") ∷ []) (two callee (list arguments))

abbrev pub member_with : StaticMemberExpression Expression → Term → Term
member_with n object = node Kind.StaticMemberExpression (flag n.optional (codes "?.") ∷ []) (two object (name_term n.property))

abbrev pub declarator_with : VariableDeclarator → Term → Term
declarator_with n init = node Kind.VariableDeclarator [] (two (pattern_term n.id) init)

abbrev pub carried_each : Env → Terms → Terms
carried_each env ts = carried_kids (λ n. env) ts
