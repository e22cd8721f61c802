-- The names of a node, read off its fields.
use Rattle.std.proofs.Common.{◌≡◌, List, [], ◌∷◌, map, Some, None, refl, ◌∙◌, ap}
use Rattle.std.specs.Prelude.{Option, slice_get}
use Rattle.js_term.specs.Term.{Text}
use Rattle.js_tree.specs.declared.node.Node.{Node}
use Rattle.js_tree.specs.Parts.{kids, top}
use Rattle.js_tree.specs.Tree.{tree, trees, tree_of}
use Rattle.js_tree.proofs.Trees.{tree_is}
use Rattle.tree_tests.specs.Names.{identifier_by, binding_by, name_at, bound_at, listed}
use Rattle.tree_tests.specs.Hiding.{own_names}

pub name_is : (n : Node) → name_at (tree_of n) ≡ identifier_by (top n).form (top n).texts
name_is n = ap name_at (tree_is n)

pub bound_is : (n : Node) → bound_at (tree_of n) ≡ binding_by (top n).form (top n).texts
bound_is n = ap bound_at (tree_is n)

abbrev pub first_bound : Option Node → List Text
first_bound None = []
first_bound (Some n) = listed (bound_at (tree_of n))

own_with : (n : Node) (ns : List Node) → kids n ≡ ns → own_names (tree_of n) ≡ first_bound (slice_get ns 0)
own_with n [] e = ap own_names (tree_is n) ∙ ap (λ l. own_names (tree (top n).form (top n).texts (top n).span (top n).id (trees (map tree_of l)))) e
own_with n (m ∷ ns) e = ap own_names (tree_is n) ∙ ap (λ l. own_names (tree (top n).form (top n).texts (top n).span (top n).id (trees (map tree_of l)))) e

pub own_is : (n : Node) → own_names (tree_of n) ≡ first_bound (slice_get (kids n) 0)
own_is n = own_with n (kids n) refl
