-- The first parts of a node are visited.
use Rattle.std.proofs.Common.{◌≡◌, ℕ, suc, List, [], ◌∷◌, map, Some, None, refl, sym, ◌∙◌, ap}
use Rattle.std.specs.Prelude.{slice_get}
use Rattle.js_tree.specs.declared.node.Node.{Node}
use Rattle.js_tree.specs.Parts.{Top, kids, top}
use Rattle.js_tree.specs.Tree.{Tree, trees, tree_of, tree_with}
use Rattle.js_tree.proofs.Trees.{tree_is}
use Rattle.tree_rewrite.specs.Visited.{visited, visited_all}
use Rattle.tree_rewrite.proofs.Lists.{map_get, map_none, behind, behind_all, behind_step, behind_end}

module _ {P S : Type 0} (enter : S → P → Tree → S) (inside : P → Top → ℕ → P) (leave : S → P → Tree → S) where
  abbrev pub seen : (ℕ → P) → ℕ → S → Tree → S
  seen places k s t = visited enter inside leave (places k) s t

  visited_list : (places : ℕ → P) (s : S) (ts : List Tree) → visited_all enter inside leave places s (trees ts) ≡ behind_all (seen places) s ts
  visited_list places s [] = refl
  visited_list places s (t ∷ ts) = visited_list (λ k. places (suc k)) (visited enter inside leave (places 0) s t) ts

  -- the state behind the first parts of a node
  abbrev pub behind_parts : P → S → Node → ℕ → S
  behind_parts p s n k = behind (seen (inside p (top n))) k (enter s p (tree_of n)) (map tree_of (kids n))

  pub part_seen : (p : P) (s z v : S) (n x : Node) (q : P) (k : ℕ) → z ≡ behind_parts p s n k → slice_get (kids n) k ≡ Some x → q ≡ inside p (top n) k →
      v ≡ visited enter inside leave q z (tree_of x) → v ≡ behind_parts p s n (suc k)
  part_seen p s z v n x q k m h i e =
      e ∙ ap (λ r. visited enter inside leave r z (tree_of x)) i ∙ ap (λ y. seen (inside p (top n)) k y (tree_of x)) m
      ∙ behind_step (seen (inside p (top n))) (enter s p (tree_of n)) (map tree_of (kids n)) k (tree_of x) (map_get tree_of (kids n) k x h)

  visited_with : (p : P) (t : Top) (s : S) (ts : List Tree) →
      leave (behind_all (seen (inside p t)) (enter s p (tree_with t (trees ts))) ts) p (tree_with t (trees ts)) ≡ visited enter inside leave p s (tree_with t (trees ts))
  visited_with p t s ts = ap (λ z. leave z p (tree_with t (trees ts))) (sym (visited_list (inside p t) (enter s p (tree_with t (trees ts))) ts))

  pub all_seen : (p : P) (s z : S) (n : Node) (k : ℕ) → z ≡ behind_parts p s n k → slice_get (kids n) k ≡ None → leave z p (tree_of n) ≡ visited enter inside leave p s (tree_of n)
  all_seen p s z n k m h =
      let ts = map tree_of (kids n) in
      ap (λ y. leave y p (tree_of n)) (m ∙ behind_end (seen (inside p (top n))) (enter s p (tree_of n)) ts k (map_none tree_of (kids n) k h))
      ∙ ap (λ t. leave (behind_all (seen (inside p (top n))) (enter s p t) ts) p t) (tree_is n)
      ∙ visited_with p (top n) s ts
      ∙ ap (visited enter inside leave p s) (sym (tree_is n))
