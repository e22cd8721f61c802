-- The state behind a tree that is visited: each node once, in text order, a node before its parts.
use Rattle.std.specs.Prelude.{ℕ, suc}
use Rattle.js_tree.specs.Parts.{Top}
use Rattle.js_tree.specs.Tree.{Tree, Trees, tree, no_trees, more_trees}

module _ {P S : Type 0} (enter : S → P → Tree → S) (inside : P → Top → ℕ → P) (leave : S → P → Tree → S) where
  abbrev mutual
    pub visited : P → S → Tree → S
    visited p s (tree f xs v i ts) =
        let t = tree f xs v i ts in
        leave (visited_all (inside p (record { form = f; texts = xs; span = v; id = i })) (enter s p t) ts) p t

    -- each at its place, in order
    pub visited_all : (ℕ → P) → S → Trees → S
    visited_all places s no_trees = s
    visited_all places s (more_trees t ts) = visited_all (λ k. places (suc k)) (visited (places 0) s t) ts
