-- The names that trees have.
use Rattle.std.specs.Prelude.{List, [], ◌∷◌, Option, None, Some, Bool, false, ◌||◌}
use Rattle.js_term.specs.Term.{Text, is_text}
use Rattle.js_term.specs.declared.kind.Kind.TheVariants as Kind
use Rattle.js_tree.specs.Tree.{Tree, tree}
use Rattle.js_tree.specs.declared.node.Form.{Form}
use Rattle.js_tree.specs.declared.node.Form.TheVariants as form

abbrev pub only : List Text → Option Text
only (x ∷ []) = Some x
only xs = None

abbrev pub identifier_by : Form → List Text → Option Text
identifier_by (form.Node Kind.Identifier) xs = only xs
identifier_by f xs = None

abbrev pub binding_by : Form → List Text → Option Text
binding_by (form.Node Kind.BindingIdentifier) xs = only xs
binding_by f xs = None

-- the name that an identifier refers to
abbrev pub name_at : Tree → Option Text
name_at (tree f xs v i ts) = identifier_by f xs

-- the name that a binding identifier declares
abbrev pub bound_at : Tree → Option Text
bound_at (tree f xs v i ts) = binding_by f xs

abbrev pub has : List Text → Text → Bool
has [] x = false
has (y ∷ ys) x = is_text y x || has ys x

abbrev pub listed : Option Text → List Text
listed None = []
listed (Some x) = x ∷ []
