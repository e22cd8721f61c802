-- The kids of a node, one by one.
use Rattle.std.proofs.Common.{◌≡◌, ℕ, zero, suc, refl, ap, ◌∙◌, List, [], ◌∷◌, map}
use Rattle.std.specs.Prelude.{Option, None, Some, option_map, slice_get}
use Rattle.js_term.specs.Term.{Term, maybe, items, all}
use Rattle.js_term.specs.Scope.{kid}
use Rattle.js_tree.specs.TermOf.{by_form, term}
use Rattle.js_tree.specs.Parts.{kids, top}
use Rattle.js_tree.specs.declared.node.Form.{Form}
use Rattle.js_tree.specs.declared.node.Form.TheVariants as form
use Rattle.js_tree.specs.declared.node.Node.{Node}
use Rattle.js_tree.proofs.TermOf.{term_is}
use Rattle.print_layout.specs.Rows.{has_items}
use Rattle.tree_printer.specs.Printed.{by_list, listed, terms, has_some}

pub kid_all_map : {A : Type 0} (f : A → Term) (xs : List A) (n : ℕ) → kid n (all (map f xs)) ≡ maybe (option_map f (slice_get xs n))
kid_all_map f [] n = refl
kid_all_map f (x ∷ xs) zero = refl
kid_all_map f (x ∷ xs) (suc n) = kid_all_map f xs n

items_by : (f : Form) (xs : List Node) (n : Node) → items (by_form f (top n).texts (all (map term xs))) ≡ all (map term (by_list f xs))
items_by form.Absent xs n = refl
items_by form.List xs n = refl
items_by (form.Node k) xs n = refl

items_in : (p : Option Node) → items (maybe (option_map term p)) ≡ all (map term (listed p))
items_in None = refl
items_in (Some x) = ap items (term_is x) ∙ items_by (top x).form (kids x) x

-- the items of a part
pub kid_items : (n : Node) (k : ℕ) → items (kid k (terms n)) ≡ all (map term (listed (slice_get (kids n) k)))
kid_items n k = ap items (kid_all_map term (kids n) k) ∙ items_in (slice_get (kids n) k)

some_by : (f : Form) (xs : List Node) (n : Node) → has_items (by_form f (top n).texts (all (map term xs))) ≡ has_some (by_list f xs)
some_by form.Absent xs n = refl
some_by form.List [] n = refl
some_by form.List (x ∷ xs) n = refl
some_by (form.Node k) xs n = refl

some_in : (p : Option Node) → has_items (maybe (option_map term p)) ≡ has_some (listed p)
some_in None = refl
some_in (Some x) = ap has_items (term_is x) ∙ some_by (top x).form (kids x) x

pub kid_has_items : (n : Node) (k : ℕ) → has_items (kid k (terms n)) ≡ has_some (listed (slice_get (kids n) k))
kid_has_items n k = ap has_items (kid_all_map term (kids n) k) ∙ some_in (slice_get (kids n) k)
