-- What nodes declare, and what imports bind.
use Rattle.std.proofs.Common.{◌≡◌, ℕ, false, refl, ap, List, [], ◌∷◌, ◌++◌, Option, None, Some, map}
use Rattle.std.proofs.lemmas.List.{append-nil}
use Rattle.std.specs.Prelude.{option_map}
use Rattle.js_term.specs.Term.{Text, Term, absent, list, node, Terms, none, more, two, all, maybe, kids_of, text_of, items}
use Rattle.js_term.specs.Scope.{Role, role, kid, declared, declared_all, body_names, Scope, names_in, bound_by, brings, brought, past, plainly, all_brought, module_scope}
use Rattle.small_tree.specs.TermOf.{function_word, pattern_term, binding_term, parameter_term, parameters_term, directive_term, body_term, specifier_term, statement_term, declaration_term, declarator_term, function_term, variables_term, specifiers_term, string_term}
use Rattle.small_tree.specs.declared.function.BindingPattern.{BindingPattern}
use Rattle.small_tree.specs.declared.function.BindingPattern.TheVariants as binding_pattern
use Rattle.small_tree.specs.declared.function.Directive.{Directive}
use Rattle.small_tree.specs.declared.function.FormalParameter.{FormalParameter}
use Rattle.small_tree.specs.declared.function.Function.{Function}
use Rattle.small_tree.specs.declared.function.FunctionKind.{FunctionKind}
use Rattle.small_tree.specs.declared.function.FunctionKind.TheVariants as function_kind
use Rattle.small_tree.specs.declared.module.Declaration.{Declaration}
use Rattle.small_tree.specs.declared.module.ExportDeclaration.{ExportDeclaration}
use Rattle.small_tree.specs.declared.module.ImportDeclaration.{ImportDeclaration}
use Rattle.small_tree.specs.declared.module.ImportSpecifier.{ImportSpecifier}
use Rattle.small_tree.specs.declared.statement.Statement.{Statement}
use Rattle.small_tree.specs.declared.statement.Statement.TheVariants as statement
use Rattle.small_tree.specs.declared.statement.VariableDeclaration.{VariableDeclaration}
use Rattle.small_tree.specs.declared.statement.VariableDeclarator.{VariableDeclarator}
use Rattle.small_tree.proofs.Levels.{d_VariableDeclaration, d_FunctionDeclaration, s_ExpressionStatement, s_ReturnStatement, s_VariableDeclaration, s_ExportDeclaration, s_ImportDeclaration, s_FunctionDeclaration, function_parts, declarator_parts}
use Rattle.js_small.specs.Names.{pattern_name, parameter_names, local_names, imported_names, locals, items_of, imported, locals_by}

pub pattern_declares : (p : BindingPattern) → declared (pattern_term p) ≡ pattern_name p ∷ []
pattern_declares (binding_pattern.BindingIdentifier n) = refl

pub declarator_declares : (n : VariableDeclarator) → declared (declarator_term n) ≡ pattern_name n.id ∷ []
declarator_declares n = rw (declarator_parts n) (pattern_declares n.id)

pub variables_declare : (n : VariableDeclaration VariableDeclarator) → declared (variables_term declarator_term n) ≡ declared_all (all (map declarator_term n.declarations))
variables_declare n = append-nil (declared_all (all (map declarator_term n.declarations)))

pub named_declares : (n : Function) → n.kind ≡ function_kind.FunctionDeclaration → declared (function_term n) ≡ declared (maybe (option_map binding_term n.id))
named_declares n e = rw (function_parts n, e) refl

pub value_declares : (n : Function) → n.kind ≡ function_kind.FunctionExpression → declared (function_term n) ≡ []
value_declares n e = rw (function_parts n, e) refl

pub export_declares : (n : ExportDeclaration Declaration) → declared (statement_term (statement.ExportDeclaration n)) ≡ declared (declaration_term n.declaration)
export_declares n = rw (s_ExportDeclaration n) (append-nil (declared (declaration_term n.declaration)))

word_imports : (k : FunctionKind) (ts : Terms) → locals_by (role (function_word k)) ts ≡ []
word_imports function_kind.FunctionDeclaration ts = refl
word_imports function_kind.FunctionExpression ts = refl

pub function_imports : (n : Function) → imported (statement_term (statement.FunctionDeclaration n)) ≡ []
function_imports n = rw (s_FunctionDeclaration n, function_parts n, word_imports n.kind) refl

locals_of : (ns : List ImportSpecifier) → locals (all (map specifier_term ns)) ≡ local_names ns
locals_of [] = refl
locals_of (n ∷ ns) = ap (λ xs. n.local.name ∷ xs) (locals_of ns)

items_bind : (ns : Option (List ImportSpecifier)) (t : Term) → locals_by Role.imports (two (maybe (option_map specifiers_term ns)) t) ≡ local_names (items_of ns)
items_bind None t = refl
items_bind (Some ns) t = locals_of ns

pub import_imports : (n : ImportDeclaration) → imported (statement_term (statement.ImportDeclaration n)) ≡ local_names (items_of n.specifiers)
import_imports n = rw (s_ImportDeclaration n) (items_bind n.specifiers (string_term n.source))

pub ruleset declarations = (s_ExpressionStatement, s_ReturnStatement, s_VariableDeclaration, s_FunctionDeclaration, s_ImportDeclaration, d_VariableDeclaration, d_FunctionDeclaration, export_declares, variables_declare)

pub ruleset imports = (s_ExpressionStatement, s_ReturnStatement, s_VariableDeclaration, s_ExportDeclaration, function_imports, import_imports)

parameters_declare : (ns : List (FormalParameter BindingPattern)) → declared_all (all (map parameter_term ns)) ≡ parameter_names ns
parameters_declare [] = refl
parameters_declare (n ∷ ns) = rw (pattern_declares n.pattern, parameters_declare ns) refl

directives_declare : (ns : List Directive) → declared_all (all (map directive_term ns)) ≡ []
directives_declare [] = refl
directives_declare (n ∷ ns) = directives_declare ns

-- the names inside a function declaration
pub function_declares : (n : Function) (t : Term) → body_names false (more t (two (parameters_term n.params) (body_term statement_term n.body))) ≡ parameter_names n.params.items ++ declared_all (all (map statement_term n.body.statements))
function_declares n t =
    rw (parameters_declare n.params.items, directives_declare n.body.directives, append-nil (parameter_names n.params.items), append-nil (declared_all (all (map statement_term n.body.statements))), append-nil (declared_all (all (map statement_term n.body.statements)))) refl

-- the names of a module's scope

bound_locals : (j : ℕ) (ts : Terms) → names_in (bound_by j ts) ≡ locals ts
bound_locals j none = refl
bound_locals j (more t ts) = ap (λ xs. text_of (kid 1 (kids_of t)) ∷ xs) (bound_locals j ts)

brings_locals : (j : ℕ) (r : Role) (ts : Terms) → names_in (brings j r ts) ≡ locals_by r ts
brings_locals j Role.imports ts = bound_locals j (items (kid 0 ts))
brings_locals j r ts = refl

brought_names : (j : ℕ) (t : Term) → names_in (brought j t) ≡ imported t
brought_names j absent = refl
brought_names j (list ts) = refl
brought_names j (node k texts ts) = brings_locals j (role k) ts

names_append : (s r : Scope) → names_in (s ++ r) ≡ names_in s ++ names_in r
names_append [] r = refl
names_append (e ∷ s) r = ap (λ xs. e.0 ∷ xs) (names_append s r)

names_plain : (xs : List Text) → names_in (plainly xs) ≡ xs
names_plain [] = refl
names_plain (x ∷ xs) = ap (λ ys. x ∷ ys) (names_plain xs)

all_names_brought : (j : ℕ) (ss : List Statement) → names_in (all_brought j (all (map statement_term ss))) ≡ imported_names ss
all_names_brought j [] = refl
all_names_brought j (s ∷ ss) =
    rw (names_append (brought j (statement_term s)) (all_brought (past (statement_term s) j) (all (map statement_term ss))), brought_names j (statement_term s), all_names_brought (past (statement_term s) j) ss) refl

pub module_names : (ss : List Statement) → names_in (module_scope (all (map statement_term ss))) ≡ imported_names ss ++ declared_all (all (map statement_term ss))
module_names ss =
    rw (names_append (all_brought 0 (all (map statement_term ss))) (plainly (declared_all (all (map statement_term ss)))), all_names_brought 0 ss, names_plain (declared_all (all (map statement_term ss)))) refl
