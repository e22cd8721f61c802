-- The first parts of a node are rewritten, and the rest of the node is as it was.
use Rattle.std.proofs.Common.{◌≡◌, ℕ, suc, List, [], ◌∷◌, map, Some, None, Ok, Err, refl, sym, ◌∙◌, ap}
use Rattle.std.specs.Prelude.{Option, Result, OnOk, slice_get, slice_set}
use Rattle.js_tree.specs.declared.node.Node.{Node}
use Rattle.js_tree.specs.Parts.{Top, kids, with_kids, with_kid, top}
use Rattle.js_tree.specs.Tree.{Tree, Trees, more_trees, trees, tree_of, tree_with}
use Rattle.js_tree.proofs.PartLaws.{kids_with, with_twice, with_same, top_with}
use Rattle.js_tree.proofs.Trees.{tree_is}
use Rattle.tree_rewrite.specs.Rewritten.{chosen, rewritten, rewritten_all}
use Rattle.tree_rewrite.proofs.Lists.{map_set, map_get, map_none, first, turned, first_step, first_end}

pub on_ok : {T E P Q : Type 0} (r : Result T E) → (P → Q) → OnOk r P → OnOk r Q
on_ok (Ok x) f h = f h
on_ok (Err e) f h = tt

module _ {P S : Type 0} (before : S → P → Tree → Option Tree × S) (inside : P → Top → ℕ → P) (after : S → P → Tree → Tree × S) where
  abbrev pub step : (ℕ → P) → ℕ → S → Tree → Tree × S
  step places k s t = rewritten before inside after (places k) s t

  rewritten_list : (places : ℕ → P) (s : S) (ts : List Tree) → rewritten_all before inside after places s (trees ts) ≡ (trees (turned (step places) s ts).0, (turned (step places) s ts).1)
  rewritten_list places s [] = refl
  rewritten_list places s (t ∷ ts) =
      let r = rewritten before inside after (places 0) s t in
      ap (λ q. (more_trees r.0 q.0, q.1)) (rewritten_list (λ k. places (suc k)) r.1 ts)

  -- the tree of the top with these parts, and the state after them
  abbrev pub ended : P → Top → List Tree × S → Tree × S
  ended p t r = after r.1 p (tree_with t (trees r.0))

  rewritten_with : (p : P) (t : Top) (s z : S) (ts : List Tree) → before s p (tree_with t (trees ts)) ≡ (None, z) →
      rewritten before inside after p s (tree_with t (trees ts)) ≡ ended p t (turned (step (inside p t)) z ts)
  rewritten_with p t s z ts e =
      ap (λ o. chosen o (λ x. let r = rewritten_all before inside after (inside p t) x (trees ts) in after r.1 p (tree_with t r.0))) e
      ∙ ap (λ r. after r.1 p (tree_with t r.0)) (rewritten_list (inside p t) z ts)

  put_with : (p : P) (t : Top) (s z : S) (ts : Trees) (u : Tree) → before s p (tree_with t ts) ≡ (Some u, z) → (u, z) ≡ rewritten before inside after p s (tree_with t ts)
  put_with p t s z ts u e = sym (ap (λ o. chosen o (λ x. let r = rewritten_all before inside after (inside p t) x ts in after r.1 p (tree_with t r.0))) e)

  pub put : (p : P) (s z : S) (n : Node) (u : Tree) → before s p (tree_of n) ≡ (Some u, z) → (u, z) ≡ rewritten before inside after p s (tree_of n)
  put p s z n u e = put_with p (top n) s z (trees (map tree_of (kids n))) u (ap (before s p) (sym (tree_is n)) ∙ e) ∙ ap (rewritten before inside after p s) (sym (tree_is n))

  abbrev pub parts_at : P → Node → ℕ → S → Tree → Tree × S
  parts_at p b = step (inside p (top b))

  -- from the node `b` and the state `s` inside it, `k` parts on: the node `c` and the state `z`
  pub record Turning (p : P) (s : S) (b : Node) (z : S) (c : Node) (k : ℕ) : Type 0 where
    pub rest : c ≡ with_kids b (kids c)
    pub parts : (map tree_of (kids c), z) ≡ first (parts_at p b) k s (map tree_of (kids b))

  pub turning_none : (p : P) (s : S) (b : Node) → Turning p s b s b 0
  turning_none p s b = record { rest = sym (with_same b); parts = refl }

  pub turning_more : (p : P) (s z v : S) (b c y x : Node) (q : P) (k : ℕ) → Turning p s b z c k → slice_get (kids c) k ≡ Some x → q ≡ inside p (top c) k →
      (tree_of y, v) ≡ rewritten before inside after q z (tree_of x) → Turning p s b v (with_kid c k y) (suc k)
  turning_more p s z v b c y x q k m h i e =
      let new = slice_set (kids c) k y in
      let same : kids (with_kid c k y) ≡ new = kids_with c new in
      let us = first (parts_at p b) k s (map tree_of (kids b)) in
      let place : q ≡ inside p (top b) k = i ∙ ap (λ n. inside p (top n) k) m.rest ∙ ap (λ t. inside p t k) (top_with b (kids c)) in
      let part : slice_get us.0 k ≡ Some (tree_of x) = ap (λ l. slice_get l.0 k) (sym m.parts) ∙ map_get tree_of (kids c) k x h in
      let here : (tree_of y, v) ≡ parts_at p b k us.1 (tree_of x) = e ∙ ap (λ r. rewritten before inside after r z (tree_of x)) place ∙ ap (λ l. parts_at p b k l.1 (tree_of x)) m.parts in
      record {
        rest = ap (λ n. with_kids n new) m.rest ∙ with_twice b (kids c) new ∙ ap (with_kids b) (sym same);
        parts = ap (λ l. (map tree_of l, v)) same ∙ ap (λ l. (l, v)) (map_set tree_of (kids c) k y) ∙ ap (λ l. (slice_set l.0 k (tree_of y), v)) m.parts
            ∙ ap (λ t. (slice_set us.0 k t.0, t.1)) here
            ∙ first_step (parts_at p b) s (map tree_of (kids b)) k (tree_of x) part;
      }

  pub turning_end : (p : P) (s w z : S) (b c : Node) (k : ℕ) → Turning p w b z c k → slice_get (kids c) k ≡ None → before s p (tree_of b) ≡ (None, w) →
      after z p (tree_of c) ≡ rewritten before inside after p s (tree_of b)
  turning_end p s w z b c k m h e =
      let us = first (parts_at p b) k w (map tree_of (kids b)) in
      let done : slice_get us.0 k ≡ None = ap (λ l. slice_get l.0 k) (sym m.parts) ∙ map_none tree_of (kids c) k h in
      ap (λ n. after z p (tree_of n)) m.rest ∙ ap (after z p) (tree_is (with_kids b (kids c)) ∙ ap (λ t. tree_with t (trees (map tree_of (kids (with_kids b (kids c)))))) (top_with b (kids c))
      ∙ ap (λ l. tree_with (top b) (trees (map tree_of l))) (kids_with b (kids c)))
      ∙ ap (ended p (top b)) (m.parts ∙ first_end (parts_at p b) w (map tree_of (kids b)) k done)
      ∙ sym (ap (rewritten before inside after p s) (tree_is b) ∙ rewritten_with p (top b) s w (map tree_of (kids b)) (ap (before s p) (sym (tree_is b)) ∙ e))
