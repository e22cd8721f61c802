-- Trees with spans and ids by their levels, and what their terms are.
use Rattle.std.proofs.Common.{◌≡◌, refl, sym, ap, ◌∙◌, ℕ, zero, suc, ◌≤◌, List, [], ◌∷◌, map, arith}
use denote.Param.Weighed.{most}
use Rattle.js_term.specs.Term.{Terms, more, all}
use Rattle.js_tree.specs.Words.{texts_seen}
use Rattle.js_tree.specs.Parts.{Level, kids, top}
use Rattle.js_tree.specs.TermOf.{by_form, term}
use Rattle.js_tree.specs.Tree.{Tree, tree, trees, level_tree, tree_of, tree_with, erased, erased_all}
use Rattle.js_tree.specs.declared.node.Node.{Node, roll-Node, fold_out-Node, fold-roll-Node, size-Node, size_is-Node}
use Rattle.js_tree.proofs.TermOf.{term_is}

pub tree_is : (n : Node) → tree_of n ≡ tree_with (top n) (trees (map tree_of (kids n)))
unfolding tree_of kids top
tree_is n = fold_out-Node Tree level_tree n

pub tree_roll : (l : Level) → tree_of (roll-Node l) ≡ tree l.form (texts_seen l.texts) l.span l.id (trees (map tree_of l.kids))
unfolding tree_of
tree_roll l = fold-roll-Node Tree level_tree l

each_erased : (m : ℕ) → ((n : Node) → size-Node n ≤ m → erased (tree_of n) ≡ term n) → (ns : List Node) → most size-Node ns ≤ m → erased_all (trees (map tree_of ns)) ≡ all (map term ns)
each_erased m f [] h = refl
each_erased m f (n ∷ ns) h =
    let one : erased (tree_of n) ≡ term n = f n (omega arith) in
    let others : erased_all (trees (map tree_of ns)) ≡ all (map term ns) = each_erased m f ns (omega arith) in
    ap (λ t. more t (erased_all (trees (map tree_of ns)))) one ∙ ap (λ ts. more (term n) ts) others

erased_within : (m : ℕ) (n : Node) → size-Node n ≤ m → erased (tree_of n) ≡ term n
unfolding kids
erased_within zero n h = absurd (omega (arith, size_is-Node n))
erased_within (suc m) n h =
    let below : erased_all (trees (map tree_of (kids n))) ≡ all (map term (kids n)) = each_erased m (erased_within m) (kids n) (omega (arith, size_is-Node n)) in
    ap erased (tree_is n) ∙ ap (λ (ts : Terms). by_form (top n).form (top n).texts ts) below ∙ sym (term_is n)

-- without spans and ids a tree is its term
pub erased_tree : (n : Node) → erased (tree_of n) ≡ term n
erased_tree n = erased_within (size-Node n) n (omega arith)
