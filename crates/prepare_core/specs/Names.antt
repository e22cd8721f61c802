-- The scopes that the runner carries, as the environment in which a name is looked up.
use Rattle.std.specs.Prelude.{◌≡◌, List, [], ◌∷◌, Some, Bool, true, false, ◌||◌, codes, option_map}
use Rattle.std.specs.HashMap.{HashMap}
use Rattle.std.specs.HashSet.{HashSet}
use Rattle.std.specs.List.{list_any}
use Rattle.js_term.specs.Term.{Text, is_text, Term, node, Terms, more, two, maybe}
use Rattle.js_term.specs.Lexeme.{is_one_of}
use Rattle.js_term.specs.Scope.{Role, role, Scope, Env, imported, plainly, body_names, entry_of, is_request}
use Rattle.small_tree.specs.TermOf.{binding_term, parameters_term, body_term, statement_term}
use Rattle.small_tree.specs.declared.function.Function.{Function}
use Rattle.small_tree.specs.declared.function.FunctionKind.{FunctionKind}
use Rattle.small_tree.specs.declared.function.FunctionKind.TheVariants as function_kind
use Rattle.prepare_core.specs.declared.imported.Import.{Import}

-- some function scope has the name
abbrev pub hidden : {S : Type 0} → List (HashSet Text S) → Text → Bool
hidden [] x = false
hidden (s ∷ ss) x = list_any (is_text x) s.keys || hidden ss x

abbrev pub brought_in : List (Text × Import) → Scope
brought_in [] = []
brought_in (e ∷ es) = (e.0, imported e.1.request (Some e.1.name)) ∷ brought_in es

-- the scopes from the outermost on
abbrev pub within : {S : Type 0} → Env → List (HashSet Text S) → Env
within env [] = env
within env (s ∷ ss) = within (plainly s.keys ∷ env) ss

-- outside all functions
abbrev pub root_env : {S : Type 0} → HashMap Text Import S → Env
root_env imports = brought_in imports.entries ∷ []

abbrev pub names_env : {S T : Type 0} → HashMap Text Import S → List (HashSet Text T) → Env
names_env imports scopes = within (root_env imports) scopes

abbrev pub is_value : FunctionKind → Bool
is_value function_kind.FunctionDeclaration = false
is_value function_kind.FunctionExpression = true

-- a name that is declared round a function, and one that is declared inside
abbrev pub outside : FunctionKind → List Text → List Text
outside function_kind.FunctionDeclaration xs = xs
outside function_kind.FunctionExpression xs = []

abbrev pub inside : FunctionKind → List Text → List Text
inside function_kind.FunctionDeclaration xs = []
inside function_kind.FunctionExpression xs = xs

abbrev pub kids_of_function : Function → Terms
kids_of_function n = more (maybe (option_map binding_term n.id)) (two (parameters_term n.params) (body_term statement_term n.body))

-- the names that the body of a function sees of its own
abbrev pub function_names : Function → List Text
function_names n = codes "arguments" ∷ body_names (is_value n.kind) (kids_of_function n)

-- the keys of a set are these names
pub record IsScopeOf (keys names : List Text) : Type 0 where
  pub same : (x : Text) → list_any (is_text x) keys ≡ is_one_of x names

-- the entries of a map say of each name what a scope says
pub record HasImports (scope : Scope) (entries : List (Text × Import)) : Type 0 where
  pub same : (x : Text) → entry_of (brought_in entries) x ≡ entry_of scope x

-- the part that a statement plays
abbrev pub plays : (Role → Bool) → Term → Bool
plays test (node k texts ts) = test (role k)
plays test t = false

abbrev pub is_import : Term → Bool
is_import = plays is_request

abbrev pub is_export_role : Role → Bool
is_export_role Role.exports_declaration = true
is_export_role r = false

abbrev pub is_export : Term → Bool
is_export = plays is_export_role
