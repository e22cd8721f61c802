-- Rules that leave the state as it is need none.
use Rattle.std.proofs.Common.{◌≡◌, ℕ, suc, List, Some, None, refl, ◌∙◌, ap}
use Rattle.std.specs.Prelude.{Option, Bool}
use Rattle.js_tree.specs.Parts.{Top}
use Rattle.js_tree.specs.Tree.{Tree, Trees, tree, no_trees, more_trees}
use Rattle.tree_rewrite.specs.Rewritten.{chosen, rewritten, rewritten_all, put_or, replaced, replaced_all}
use Rattle.tree_rewrite.specs.Run.{widened, run_with, run_all_with, run, run_all}

chosen_put : {S : Type 0} (s : S) (o : Option Tree) (f : S → Tree × S) (u : Tree) → f s ≡ (u, s) → chosen (o, s) f ≡ (put_or o u, s)
chosen_put s None f u h = h
chosen_put s (Some t) f u h = refl

module _ {P S : Type 0} (before : S → P → Tree → Option Tree × S) (inside : P → Top → ℕ → P) (after : S → P → Tree → Tree × S)
    (s : S) (put : P → Tree → Option Tree) (end : P → Tree → Tree)
    (puts : (p : P) (t : Tree) → before s p t ≡ (put p t, s)) (ends : (p : P) (t : Tree) → after s p t ≡ (end p t, s)) where
  mutual
    pub replaces : (p : P) (t : Tree) → rewritten before inside after p s t ≡ (replaced put inside end p t, s)
    replaces p (tree f xs v i ts) =
        let places = inside p (record { form = f; texts = xs; span = v; id = i }) in
        let turn : S → Tree × S = λ z. let r = rewritten_all before inside after places z ts in after r.1 p (tree f xs v i r.0) in
        let us = replaced_all put inside end places ts in
        ap (λ o. chosen o turn) (puts p (tree f xs v i ts))
        ∙ chosen_put s (put p (tree f xs v i ts)) turn (end p (tree f xs v i us))
        (ap (λ r. after r.1 p (tree f xs v i r.0)) (replaces_all places ts) ∙ ends p (tree f xs v i us))

    pub replaces_all : (places : ℕ → P) (ts : Trees) → rewritten_all before inside after places s ts ≡ (replaced_all put inside end places ts, s)
    replaces_all places no_trees = refl
    replaces_all places (more_trees t ts) =
        ap (λ u. let q = rewritten_all before inside after (λ k. places (suc k)) u.1 ts in (more_trees u.0 q.0, q.1)) (replaces (places 0) t)
        ∙ ap (λ q. (more_trees (replaced put inside end (places 0) t) q.0, q.1)) (replaces_all (λ k. places (suc k)) ts)

-- in an environment
module _ {P S E : Type 0} (opens : P → Top → Bool) (scope : List E → S → P → Tree → E)
    (before : List E → S → P → Tree → Option Tree × S) (inside : P → Top → ℕ → P) (after : List E → S → P → Tree → Tree × S)
    (s : S) (put : List E → P → Tree → Option Tree) (end : List E → P → Tree → Tree)
    (puts : (env : List E) (p : P) (t : Tree) → before env s p t ≡ (put env p t, s))
    (ends : (env : List E) (p : P) (t : Tree) → after env s p t ≡ (end env p t, s)) where
  abbrev pub scope_at : List E → P → Tree → E
  scope_at env p t = scope env s p t

  mutual
    pub runs : (env : List E) (p : P) (t : Tree) → run_with opens scope before inside after env p s t ≡ (run opens scope_at put inside end env p t, s)
    runs env p (tree f xs v i ts) =
        let top : Top = record { form = f; texts = xs; span = v; id = i } in
        let inner = widened (opens p top) env (scope env s p (tree f xs v i ts)) in
        let turn : S → Tree × S = λ z.
        let l = widened (opens p top) env (scope env z p (tree f xs v i ts)) in
        let r = run_all_with opens scope before inside after l (inside p top) z ts in
        after l r.1 p (tree f xs v i r.0) in
        let us = run_all opens scope_at put inside end inner (inside p top) ts in
        ap (λ o. chosen o turn) (puts env p (tree f xs v i ts))
        ∙ chosen_put s (put env p (tree f xs v i ts)) turn (end inner p (tree f xs v i us))
        (ap (λ r. after inner r.1 p (tree f xs v i r.0)) (runs_all inner (inside p top) ts) ∙ ends inner p (tree f xs v i us))

    pub runs_all : (env : List E) (places : ℕ → P) (ts : Trees) → run_all_with opens scope before inside after env places s ts ≡ (run_all opens scope_at put inside end env places ts, s)
    runs_all env places no_trees = refl
    runs_all env places (more_trees t ts) =
        ap (λ u. let q = run_all_with opens scope before inside after env (λ k. places (suc k)) u.1 ts in (more_trees u.0 q.0, q.1)) (runs env (places 0) t)
        ∙ ap (λ q. (more_trees (run opens scope_at put inside end env (places 0) t) q.0, q.1)) (runs_all env (λ k. places (suc k)) ts)
