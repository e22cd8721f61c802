-- The form of each node, by the forms of its parts.
use Rattle.std.proofs.Common.{◌≡◌, ◌≤◌, refl, length, arith, List, [], ◌∷◌, true, false, map}
use Rattle.js_term.specs.Term.{Term, all}
use Rattle.js_term.specs.Form.{Sort, some, single, empty, takes_list, is_small_expression}
use Rattle.js_term.specs.Form as form
use Rattle.small_tree.specs.TermOf.{expression_term}
use Rattle.small_tree.specs.declared.function.Function.{Function}
use Rattle.small_tree.specs.declared.function.FunctionKind.{FunctionKind}
use Rattle.small_tree.specs.declared.function.FunctionKind.TheVariants as function_kind
use Rattle.small_tree.specs.declared.expression.Expression.TheVariants as expression
use Rattle.small_tree.proofs.Levels.{e_BooleanLiteral, e_NumericLiteral, e_StringLiteral, e_Identifier, e_ArrayExpression, e_AwaitExpression, e_CallExpression, e_FunctionExpression, e_ObjectExpression, e_ParenthesizedExpression, e_SequenceExpression, e_StaticMemberExpression, function_parts}
use Rattle.small_tree.specs.TermOf.{function_word}
use Rattle.js_small.specs.Small.{small_at}

no_expression_word : (k : FunctionKind) → is_small_expression (function_word k) ≡ false
no_expression_word function_kind.FunctionDeclaration = refl
no_expression_word function_kind.FunctionExpression = refl

pub no_function_expression : (n : Function) → small_at (form.one Sort.expression) (expression_term (expression.FunctionExpression n)) ≡ false
no_function_expression n = rw (e_FunctionExpression n, function_parts n, no_expression_word n.kind) refl

pub no_function_effect : (n : Function) → small_at (form.one Sort.effect) (expression_term (expression.FunctionExpression n)) ≡ false
no_function_effect n = rw (e_FunctionExpression n, function_parts n, no_expression_word n.kind) refl

pub ruleset expressions = (e_BooleanLiteral, e_NumericLiteral, e_StringLiteral, e_Identifier, e_ArrayExpression, e_AwaitExpression, e_CallExpression, e_ObjectExpression, e_ParenthesizedExpression, e_SequenceExpression, e_StaticMemberExpression, no_function_expression, no_function_effect)

-- how many items a list takes

pub takes_none : {A : Type 0} (f : A → Term) (xs : List A) → 1 ≤ length xs → takes_list empty (all (map f xs)) ≡ false
takes_none f [] h = absurd (omega arith)
takes_none f (x ∷ xs) h = refl

pub takes_some : {A : Type 0} (s : Sort) (f : A → Term) (xs : List A) → 1 ≤ length xs → takes_list (some s) (all (map f xs)) ≡ true
takes_some s f [] h = absurd (omega arith)
takes_some s f (x ∷ xs) h = refl

pub takes_one : {A : Type 0} (s : Sort) (f : A → Term) (xs : List A) → 2 ≤ length xs → takes_list (single s) (all (map f xs)) ≡ false
takes_one s f [] h = absurd (omega arith)
takes_one s f (x ∷ []) h = absurd (omega arith)
takes_one s f (x ∷ y ∷ xs) h = refl
