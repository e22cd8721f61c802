-- A tree rewritten from the root down, each node at its place, with a state that is handed on.
use Rattle.std.specs.Prelude.{ℕ, suc, Option, None, Some}
use Rattle.js_tree.specs.Parts.{Top}
use Rattle.js_tree.specs.Tree.{Tree, Trees, tree, no_trees, more_trees}

-- what is put in a tree's place, or what becomes of the tree otherwise
abbrev pub chosen : {S : Type 0} → Option Tree × S → (S → Tree × S) → Tree × S
chosen (None, s) f = f s
chosen (Some u, s) f = (u, s)

module _ {P S : Type 0} (before : S → P → Tree → Option Tree × S) (inside : P → Top → ℕ → P) (after : S → P → Tree → Tree × S) where
  abbrev mutual
    pub rewritten : P → S → Tree → Tree × S
    rewritten p s (tree f xs v i ts) =
        chosen (before s p (tree f xs v i ts)) (λ x.
        let r = rewritten_all (inside p (record { form = f; texts = xs; span = v; id = i })) x ts in
        after r.1 p (tree f xs v i r.0))

    -- each at its place, in order
    pub rewritten_all : (ℕ → P) → S → Trees → Trees × S
    rewritten_all places s no_trees = (no_trees, s)
    rewritten_all places s (more_trees t ts) =
        let r = rewritten (places 0) s t in
        let q = rewritten_all (λ k. places (suc k)) r.1 ts in
        (more_trees r.0 q.0, q.1)

-- what is put in a tree's place, or the tree
abbrev pub put_or : Option Tree → Tree → Tree
put_or None t = t
put_or (Some u) t = u

-- by rules that keep no state
module _ {P : Type 0} (before : P → Tree → Option Tree) (inside : P → Top → ℕ → P) (after : P → Tree → Tree) where
  abbrev mutual
    pub replaced : P → Tree → Tree
    replaced p (tree f xs v i ts) =
        put_or (before p (tree f xs v i ts)) (after p (tree f xs v i (replaced_all (inside p (record { form = f; texts = xs; span = v; id = i })) ts)))

    pub replaced_all : (ℕ → P) → Trees → Trees
    replaced_all places no_trees = no_trees
    replaced_all places (more_trees t ts) = more_trees (replaced (places 0) t) (replaced_all (λ k. places (suc k)) ts)
