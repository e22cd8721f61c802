-- The names that statements declare.
use Rattle.std.proofs.Common.{◌≡◌, refl, sym, ◌∙◌, ap, ℕ, List, [], ◌∷◌, ◌++◌, map, take, length, ◌<◌, ◌+◌, get_or, append_assoc, codes}
use Rattle.std.proofs.lemmas.List.{append-nil}
use Rattle.std.specs.Prelude.{option_map}
use Rattle.js_term.specs.Term.{Text, node, all, maybe, flag}
use Rattle.js_term.specs.Scope.{declared, declared_all, body_names}
use Rattle.small_tree.specs.TermOf.{directive_term, pattern_term, parameter_term, binding_term, declaration_term, statement_term, declarator_term, function_term, function_word}
use Rattle.small_tree.specs.declared.function.BindingPattern.{BindingPattern}
use Rattle.small_tree.specs.declared.function.FormalParameter.{FormalParameter}
use Rattle.small_tree.specs.declared.function.Directive.{Directive}
use Rattle.small_tree.specs.declared.function.Function.{Function}
use Rattle.small_tree.specs.declared.function.FunctionKind.{FunctionKind}
use Rattle.small_tree.specs.declared.function.FunctionKind.TheVariants as function_kind
use Rattle.small_tree.specs.declared.expression.Expression.{Expression}
use Rattle.small_tree.specs.declared.module.Declaration.{Declaration}
use Rattle.small_tree.specs.declared.module.Declaration.TheVariants as declaration
use Rattle.small_tree.specs.declared.statement.Statement.{Statement}
use Rattle.small_tree.specs.declared.statement.Statement.TheVariants as statement
use Rattle.small_tree.specs.declared.module.ImportDeclaration.{ImportDeclaration}
use Rattle.small_tree.specs.declared.module.ExportDeclaration.{ExportDeclaration}
use Rattle.small_tree.specs.declared.statement.ReturnStatement.{ReturnStatement}
use Rattle.small_tree.specs.declared.statement.ExpressionStatement.{ExpressionStatement}
use Rattle.small_tree.specs.declared.statement.VariableDeclarator.{VariableDeclarator}
use Rattle.small_tree.specs.declared.statement.VariableDeclaration.{VariableDeclaration}
use Rattle.small_tree.proofs.Levels.{d_VariableDeclaration, d_FunctionDeclaration, s_ImportDeclaration, s_ExportDeclaration, s_VariableDeclaration, s_FunctionDeclaration, s_ReturnStatement, s_ExpressionStatement, function_parts, declarator_parts}
use Rattle.prepare_core.specs.Names.{function_names, kids_of_function, is_value, inside, outside}
use Rattle.prepare_core.proofs.Lists.{names_more}

pub declarator_declared : (n : VariableDeclarator) → declared (declarator_term n) ≡ declared (pattern_term n.id)
declarator_declared n = rw (declarator_parts n) refl

pub declarators_more : (xs : List VariableDeclarator) (out start : List Text) (i : ℕ) (d : VariableDeclarator) → out ≡ start ++ declared_all (all (map declarator_term (take i xs))) → i < length xs → out ++ declared (pattern_term (get_or xs i d).id) ≡ start ++ declared_all (all (map declarator_term (take (i + 1) xs)))
declarators_more xs out start i d p h = ap (λ ns. out ++ ns) (sym (declarator_declared (get_or xs i d))) ∙ names_more declarator_term xs out start i d p h

pub parameters_more : (xs : List (FormalParameter BindingPattern)) (out start : List Text) (i : ℕ) (d : FormalParameter BindingPattern) → out ≡ start ++ declared_all (all (map parameter_term (take i xs))) → i < length xs → out ++ declared (pattern_term (get_or xs i d).pattern) ≡ start ++ declared_all (all (map parameter_term (take (i + 1) xs)))
parameters_more xs out start i d p h = names_more parameter_term xs out start i d p h

pub statements_more : (xs : List Statement) (out start : List Text) (i : ℕ) (d : Statement) → out ≡ start ++ declared_all (all (map statement_term (take i xs))) → i < length xs → out ++ declared (statement_term (get_or xs i d)) ≡ start ++ declared_all (all (map statement_term (take (i + 1) xs)))
statements_more xs out start i d p h = names_more statement_term xs out start i d p h

pub function_declared : (n : Function) → declared (function_term n) ≡ outside n.kind (declared (maybe (option_map binding_term n.id)))
function_declared n = ap declared (function_parts n) ∙ by n.kind
  where
    by : (k : FunctionKind) → declared (node (function_word k) (flag n.is_async (codes "async") ∷ flag n.is_generator (codes "*") ∷ []) (kids_of_function n)) ≡ outside k (declared (maybe (option_map binding_term n.id)))
    by function_kind.FunctionDeclaration = refl
    by function_kind.FunctionExpression = refl

pub variables_declared : (n : VariableDeclaration VariableDeclarator) → declared (declaration_term (declaration.VariableDeclaration n)) ≡ declared_all (all (map declarator_term n.declarations))
variables_declared n = rw (d_VariableDeclaration n) (append-nil (declared_all (all (map declarator_term n.declarations))))

pub d_function_declared : (n : Function) → declared (declaration_term (declaration.FunctionDeclaration n)) ≡ declared (function_term n)
d_function_declared n = ap declared (d_FunctionDeclaration n)

pub statement_variables : (n : VariableDeclaration VariableDeclarator) → declared (statement_term (statement.VariableDeclaration n)) ≡ declared_all (all (map declarator_term n.declarations))
statement_variables n = rw (s_VariableDeclaration n) (append-nil (declared_all (all (map declarator_term n.declarations))))

pub statement_function : (n : Function) → declared (statement_term (statement.FunctionDeclaration n)) ≡ declared (function_term n)
statement_function n = ap declared (s_FunctionDeclaration n)

pub statement_export : (n : ExportDeclaration Declaration) → declared (statement_term (statement.ExportDeclaration n)) ≡ declared (declaration_term n.declaration)
statement_export n = rw (s_ExportDeclaration n) (append-nil (declared (declaration_term n.declaration)))

pub statement_import : (n : ImportDeclaration) → declared (statement_term (statement.ImportDeclaration n)) ≡ []
statement_import n = rw (s_ImportDeclaration n) refl

pub statement_return : (n : ReturnStatement Expression) → declared (statement_term (statement.ReturnStatement n)) ≡ []
statement_return n = rw (s_ReturnStatement n) refl

pub statement_expression : (n : ExpressionStatement Expression) → declared (statement_term (statement.ExpressionStatement n)) ≡ []
statement_expression n = rw (s_ExpressionStatement n) refl

directives_declared : (ds : List Directive) → declared_all (all (map directive_term ds)) ≡ []
directives_declared [] = refl
directives_declared (d ∷ ds) = directives_declared ds

pub names_inside : (n : Function) → function_names n ≡ (((codes "arguments" ∷ []) ++ inside n.kind (declared (maybe (option_map binding_term n.id)))) ++ declared_all (all (map parameter_term n.params.items))) ++ declared_all (all (map statement_term n.body.statements))
names_inside n = by n.kind
  where
    ps : List Text
    ps = declared_all (all (map parameter_term n.params.items))

    ss : List Text
    ss = declared_all (all (map statement_term n.body.statements))

    by : (k : FunctionKind) → codes "arguments" ∷ body_names (is_value k) (kids_of_function n) ≡ (((codes "arguments" ∷ []) ++ inside k (declared (maybe (option_map binding_term n.id)))) ++ ps) ++ ss
    by function_kind.FunctionDeclaration = simp (directives_declared, append-nil, append_assoc) refl
    by function_kind.FunctionExpression = simp (directives_declared, append-nil, append_assoc) refl
