-- Names read from their module, where a function's own name hides an import inside it.
use Rattle.std.specs.Prelude.{List, [], ◌∷◌, Option, None, Some, Bool, true, false, ◌||◌, if◌then◌else◌}
use Rattle.js_term.specs.Term.{Text}
use Rattle.js_term.specs.declared.kind.Kind.TheVariants as Kind
use Rattle.js_tree.specs.Tree.{Tree, tree, no_trees, more_trees}
use Rattle.js_tree.specs.declared.node.Form.{Form}
use Rattle.js_tree.specs.declared.node.Form.TheVariants as form
use Rattle.tree_rewrite.specs.Run.{run}
use Rattle.tree_tests.specs.Names.{name_at, bound_at, has, listed}
use Rattle.tree_tests.specs.Reading.{read_name, inside}
use Rattle.tree_tests.specs.declared.reading.Standing.{Standing}

abbrev pub is_function : Form → Bool
is_function (form.Node Kind.FunctionDeclaration) = true
is_function (form.Node Kind.FunctionExpression) = true
is_function f = false

-- the name of the first part, which is the function's own
abbrev pub own_names : Tree → List Text
own_names (tree f xs v i no_trees) = []
own_names (tree f xs v i (more_trees t ts)) = listed (bound_at t)

abbrev pub is_hidden : List (List Text) → Text → Bool
is_hidden [] x = false
is_hidden (names ∷ env) x = has names x || is_hidden env x

abbrev pub seen_name : List (List Text) → Option Text → Option Text
seen_name env None = None
seen_name env (Some x) = if is_hidden env x then None else Some x

abbrev pub read_seen : List Text → Text → List (List Text) → Standing → Tree → Option Tree
read_seen names i env p t = read_name names i p (seen_name env (name_at t))

abbrev pub read_in : List Text → Text → List (List Text) → Standing → Tree → Tree
read_in names i = run (λ p t. is_function t.form) (λ env p t. own_names t) (read_seen names i) inside (λ env p t. t)
