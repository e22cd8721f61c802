-- A tree rewritten in an environment: the scopes that the nodes round a place opened, the outermost first.
use Rattle.std.specs.Prelude.{ℕ, suc, List, [], ◌∷◌, ◌++◌, Option, Bool, true, false}
use Rattle.js_tree.specs.Parts.{Top}
use Rattle.js_tree.specs.Tree.{Tree, Trees, tree, no_trees, more_trees}
use Rattle.tree_rewrite.specs.Rewritten.{chosen, put_or}

-- the environment inside a node, by whether it opens a scope, and which
abbrev pub widened : {E : Type 0} → Bool → List E → E → List E
widened true env e = env ++ e ∷ []
widened false env e = env

-- by rules that read the environment and hand a state on
module _ {P S E : Type 0} (opens : P → Top → Bool) (scope : List E → S → P → Tree → E)
    (before : List E → S → P → Tree → Option Tree × S) (inside : P → Top → ℕ → P) (after : List E → S → P → Tree → Tree × S) where
  abbrev mutual
    pub run_with : List E → P → S → Tree → Tree × S
    run_with env p s (tree f xs v i ts) =
        let top : Top = record { form = f; texts = xs; span = v; id = i } in
        chosen (before env s p (tree f xs v i ts)) (λ z.
        let inner = widened (opens p top) env (scope env z p (tree f xs v i ts)) in
        let r = run_all_with inner (inside p top) z ts in
        after inner r.1 p (tree f xs v i r.0))

    pub run_all_with : List E → (ℕ → P) → S → Trees → Trees × S
    run_all_with env places s no_trees = (no_trees, s)
    run_all_with env places s (more_trees t ts) =
        let r = run_with env (places 0) s t in
        let q = run_all_with env (λ k. places (suc k)) r.1 ts in
        (more_trees r.0 q.0, q.1)

-- by rules that keep no state
module _ {P E : Type 0} (opens : P → Top → Bool) (scope : List E → P → Tree → E)
    (before : List E → P → Tree → Option Tree) (inside : P → Top → ℕ → P) (after : List E → P → Tree → Tree) where
  abbrev mutual
    pub run : List E → P → Tree → Tree
    run env p (tree f xs v i ts) =
        let top : Top = record { form = f; texts = xs; span = v; id = i } in
        let inner = widened (opens p top) env (scope env p (tree f xs v i ts)) in
        put_or (before env p (tree f xs v i ts)) (after inner p (tree f xs v i (run_all inner (inside p top) ts)))

    pub run_all : List E → (ℕ → P) → Trees → Trees
    run_all env places no_trees = no_trees
    run_all env places (more_trees t ts) = more_trees (run env (places 0) t) (run_all env (λ k. places (suc k)) ts)
