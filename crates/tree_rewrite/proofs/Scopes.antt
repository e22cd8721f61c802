-- A stack of scopes in the state is an environment that is handed down.
use Rattle.std.proofs.Common.{◌≡◌, ℕ, suc, List, [], ◌∷◌, ◌++◌, Some, None, refl, ◌∙◌, ap}
use Rattle.std.specs.Prelude.{Option, Bool, true, false}
use Rattle.js_tree.specs.Parts.{Top}
use Rattle.js_tree.specs.Tree.{Tree, Trees, tree, no_trees, more_trees}
use Rattle.tree_rewrite.specs.Rewritten.{chosen, rewritten, rewritten_all}
use Rattle.tree_rewrite.specs.Run.{widened, run_with, run_all_with}
use Rattle.tree_rewrite.specs.Stacks.{without_last, narrowed, pushed, before_on, after_on}

pub without_last_of : {E : Type 0} (env : List E) (e : E) → without_last (env ++ e ∷ []) ≡ env
without_last_of [] e = refl
without_last_of (d ∷ []) e = refl
without_last_of (d ∷ f ∷ env) e = ap (λ l. d ∷ l) (without_last_of (f ∷ env) e)

narrowed_widened : {E : Type 0} (b : Bool) (env : List E) (e : E) → narrowed b (widened b env e) ≡ env
narrowed_widened true env e = without_last_of env e
narrowed_widened false env e = refl

module _ {P S E W : Type 0} (make : List E → S → W) (opens : P → Top → Bool) (scope : List E → S → P → Tree → E)
    (before : List E → S → P → Tree → Option Tree × S) (inside : P → Top → ℕ → P) (after : List E → S → P → Tree → Tree × S)
    (enter : W → P → Tree → Option Tree × W) (leave : W → P → Tree → Tree × W)
    (pushes : (env : List E) (s : S) (p : P) (t : Tree) → enter (make env s) p t ≡ before_on make opens scope before after env s p t)
    (pops : (env : List E) (s : S) (p : P) (t : Tree) → leave (make env s) p t ≡ after_on make opens scope before after env s p t) where
  -- the tree, and the state with the stack as it was
  abbrev pub kept : {A : Type 0} → List E → A × S → A × W
  kept env r = (r.0, make env r.1)

  abbrev pub inner_of : List E → P → Top → Trees → S → List E
  inner_of env p t ts z = widened (opens p t) env (scope env z p (tree t.form t.texts t.span t.id ts))

  left : (env : List E) (p : P) (t : Top) (us : Trees) (e : E) (s : S) →
      leave (make (widened (opens p t) env e) s) p (tree t.form t.texts t.span t.id us) ≡ kept env (after (widened (opens p t) env e) s p (tree t.form t.texts t.span t.id us))
  left env p t us e s =
      let inner = widened (opens p t) env e in
      let r = after inner s p (tree t.form t.texts t.span t.id us) in
      pops inner s p (tree t.form t.texts t.span t.id us) ∙ ap (λ l. (r.0, make l r.1)) (narrowed_widened (opens p t) env e)

  node_run : (env : List E) (p : P) (t : Top) (ts : Trees) (o : Option Tree × S)
      (turn : W → Trees × W) (run_parts : List E → S → Trees × S) → ((inner : List E) (z : S) → turn (make inner z) ≡ kept inner (run_parts inner z)) →
      chosen (pushed make opens scope before after env p (tree t.form t.texts t.span t.id ts) o) (λ w. let r = turn w in leave r.1 p (tree t.form t.texts t.span t.id r.0))
      ≡ kept env (chosen o (λ z. let r = run_parts (inner_of env p t ts z) z in after (inner_of env p t ts z) r.1 p (tree t.form t.texts t.span t.id r.0)))
  node_run env p t ts (Some u, z) turn run_parts h = refl
  node_run env p t ts (None, z) turn run_parts h =
      let inner = inner_of env p t ts z in
      let r = run_parts inner z in
      ap (λ q. leave q.1 p (tree t.form t.texts t.span t.id q.0)) (h inner z) ∙ left env p t r.0 (scope env z p (tree t.form t.texts t.span t.id ts)) r.1

  mutual
    pub runs_with : (env : List E) (p : P) (s : S) (t : Tree) → rewritten enter inside leave p (make env s) t ≡ kept env (run_with opens scope before inside after env p s t)
    runs_with env p s (tree f xs v i ts) =
        let top : Top = record { form = f; texts = xs; span = v; id = i } in
        let turn : W → Trees × W = λ w. rewritten_all enter inside leave (inside p top) w ts in
        ap (λ o. chosen o (λ w. let r = turn w in leave r.1 p (tree f xs v i r.0))) (pushes env s p (tree f xs v i ts))
        ∙ node_run env p top ts (before env s p (tree f xs v i ts)) turn (λ l z. run_all_with opens scope before inside after l (inside p top) z ts) (λ l z. runs_all_with l (inside p top) z ts)

    pub runs_all_with : (env : List E) (places : ℕ → P) (s : S) (ts : Trees) →
        rewritten_all enter inside leave places (make env s) ts ≡ kept env (run_all_with opens scope before inside after env places s ts)
    runs_all_with env places s no_trees = refl
    runs_all_with env places s (more_trees t ts) =
        let r = run_with opens scope before inside after env (places 0) s t in
        ap (λ u. let q = rewritten_all enter inside leave (λ k. places (suc k)) u.1 ts in (more_trees u.0 q.0, q.1)) (runs_with env (places 0) s t)
        ∙ ap (λ q. (more_trees r.0 q.0, q.1)) (runs_all_with env (λ k. places (suc k)) r.1 ts)
