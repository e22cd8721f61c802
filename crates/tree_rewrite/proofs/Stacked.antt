-- What a stack of scopes is when a scope was pushed or popped.
use Rattle.std.proofs.Common.{◌≡◌, ℕ, refl, List, [], ◌∷◌, ◌++◌, Some, None, sym, ◌∙◌, ap}
use Rattle.std.specs.Prelude.{Option, Bool, MatchOption}
use Rattle.js_tree.specs.declared.node.Node.{Node}
use Rattle.js_tree.specs.Parts.{Top, top}
use Rattle.js_tree.specs.Tree.{Tree, tree_of}
use Rattle.js_tree.proofs.Trees.{tree_is}
use Rattle.tree_rewrite.specs.Run.{widened, run_with}
use Rattle.tree_rewrite.specs.Stacks.{top_of, without_last, narrowed, pushed, before_on, after_on}
use Rattle.tree_rewrite.specs.Rewritten.{rewritten}
use Rattle.tree_rewrite.specs.declared.scoped.Stacked.{Stacked}
use Rattle.tree_rewrite.proofs.Scopes.{without_last_of, runs_with}

pub top_is : (n : Node) → top n ≡ top_of (tree_of n)
top_is n = sym (ap top_of (tree_is n))

pub popped : {E : Type 0} (r : Option E) (old new : List E) → MatchOption r ((old ≡ []) × (new ≡ [])) (λ last. old ≡ new ++ last ∷ []) → new ≡ without_last old
popped None old new h = h.1 ∙ sym (ap without_last h.0)
popped (Some last) old new h = sym (ap without_last h ∙ without_last_of new last)

module _ {P S E W : Type 0} (make : List E → S → W) (opens : P → Top → Bool) (scope : List E → S → P → Tree → E)
    (before : List E → S → P → Tree → Option Tree × S) (after : List E → S → P → Tree → Tree × S) where
  pub put_there : (env : List E) (s z : S) (p : P) (t u : Tree) → (Some u, z) ≡ before env s p t → (Some u, make env z) ≡ before_on make opens scope before after env s p t
  put_there env s z p t u e = ap (pushed make opens scope before after env p t) e

  pub pushes_to : (env new : List E) (s z : S) (p : P) (n : Node) (b : Bool) → (None, z) ≡ before env s p (tree_of n) → b ≡ opens p (top n) → new ≡ widened b env (scope env z p (tree_of n)) →
      (None, make new z) ≡ before_on make opens scope before after env s p (tree_of n)
  pushes_to env new s z p n b e h w =
      let t = tree_of n in
      ap (λ l. (None, make l z)) (w ∙ ap (λ c. widened c env (scope env z p t)) (h ∙ ap (opens p) (top_is n)))
      ∙ ap (pushed make opens scope before after env p t) e

  pub pops_to : (env new : List E) (s z : S) (p : P) (n : Node) (u : Tree) (b : Bool) → (u, z) ≡ after env s p (tree_of n) → b ≡ opens p (top n) → new ≡ narrowed b env →
      (u, make new z) ≡ after_on make opens scope before after env s p (tree_of n)
  pops_to env new s z p n u b e h w =
      let around = narrowed (opens p (top_of (tree_of n))) env in
      ap (λ l. (u, make l z)) (w ∙ ap (λ c. narrowed c env) (h ∙ ap (opens p) (top_is n)))
      ∙ ap (λ r. (r.0, make around r.1)) e

-- the whole rewrite on a stack
module _ {P S E : Type 0} (opens : P → Top → Bool) (scope : List E → S → P → Tree → E)
    (before : List E → S → P → Tree → Option Tree × S) (inside : P → Top → ℕ → P) (after : List E → S → P → Tree → Tree × S) where
  abbrev pub stacked : List E → S → Stacked S E
  stacked env s = record { scopes = env; rules = s }

  pub stacked_runs : (env : List E) (p : P) (s : S) (t : Tree) →
      rewritten (λ w. before_on stacked opens scope before after w.scopes w.rules) inside (λ w. after_on stacked opens scope before after w.scopes w.rules) p (stacked env s) t
      ≡ ((run_with opens scope before inside after env p s t).0, stacked env (run_with opens scope before inside after env p s t).1)
  stacked_runs = runs_with stacked opens scope before inside after (λ w. before_on stacked opens scope before after w.scopes w.rules) (λ w. after_on stacked opens scope before after w.scopes w.rules)
      (λ env s p t. refl) (λ env s p t. refl)
