-- What the visits leave behind.
use Rattle.std.proofs.Common.{◌≡◌, ℕ, suc, ◌+◌, ◌-◌, ◌++◌, sym, ◌∙◌, ap, arith, append_assoc, append-nil, ◌≤◌}
use Rattle.std.specs.Prelude.{max}
use Rattle.js_tree.specs.Parts.{Top}
use Rattle.js_tree.specs.Tree.{Tree, Trees, tree, no_trees, more_trees}
use Rattle.tree_rewrite.specs.Visited.{visited, visited_all}
use Rattle.tree_tests.specs.Names.{name_at, listed}
use Rattle.tree_tests.specs.Collecting.{identifiers, identifiers_all, nesting, nesting_all}
use Rattle.tree_tests.specs.declared.identifiers.Identifiers.{Identifiers}
use Rattle.tree_tests.specs.declared.nesting.Nesting.{Nesting}

module _ {P : Type 0} (inside : P → Top → ℕ → P) where
  abbrev pub add : Identifiers → P → Tree → Identifiers
  add s p t = record { names = s.names ++ listed (name_at t) }

  abbrev pub stay : Identifiers → P → Tree → Identifiers
  stay s p t = s

  mutual
    pub collected : (p : P) (s : Identifiers) (t : Tree) → visited add inside stay p s t ≡ record { names = s.names ++ identifiers t }
    collected p s (tree f xs v i ts) =
        let own = listed (name_at (tree f xs v i ts)) in
        collected_all (inside p (record { form = f; texts = xs; span = v; id = i })) (record { names = s.names ++ own }) ts
        ∙ ap (λ l. let r : Identifiers = record { names = l } in r) (append_assoc s.names own (identifiers_all ts))

    pub collected_all : (places : ℕ → P) (s : Identifiers) (ts : Trees) → visited_all add inside stay places s ts ≡ record { names = s.names ++ identifiers_all ts }
    collected_all places s no_trees = ap (λ l. let r : Identifiers = record { names = l } in r) (sym (append-nil s.names))
    collected_all places s (more_trees t ts) =
        ap (λ r. visited_all add inside stay (λ k. places (suc k)) r ts) (collected (places 0) s t)
        ∙ collected_all (λ k. places (suc k)) (record { names = s.names ++ identifiers t }) ts
        ∙ ap (λ l. let r : Identifiers = record { names = l } in r) (append_assoc s.names (identifiers t) (identifiers_all ts))

  abbrev pub descend : Nesting → P → Tree → Nesting
  descend s p t = record { depth = s.depth + 1; greatest = max s.greatest (s.depth + 1) }

  abbrev pub ascend : Nesting → P → Tree → Nesting
  ascend s p t = record { depth = s.depth - 1; greatest = s.greatest }

  abbrev pub reached : Nesting → ℕ → Nesting
  reached s n = record { depth = s.depth; greatest = max s.greatest n }

  mutual
    pub measured : (p : P) (s : Nesting) (t : Tree) → visited descend inside ascend p s t ≡ reached s (s.depth + nesting t)
    measured p s (tree f xs v i ts) =
        let down = descend s p (tree f xs v i ts) in
        let deep : max down.greatest (down.depth + nesting_all ts) ≡ max s.greatest (s.depth + nesting (tree f xs v i ts)) = omega arith in
        let back : down.depth - 1 ≡ s.depth = omega arith in
        ap (λ r. ascend r p (tree f xs v i ts)) (measured_all (inside p (record { form = f; texts = xs; span = v; id = i })) down ts (omega arith))
        ∙ ap (λ d. let r : Nesting = record { depth = d; greatest = max down.greatest (down.depth + nesting_all ts) } in r) back
        ∙ ap (λ g. let r : Nesting = record { depth = s.depth; greatest = g } in r) deep

    pub measured_all : (places : ℕ → P) (s : Nesting) (ts : Trees) → s.depth ≤ s.greatest → visited_all descend inside ascend places s ts ≡ reached s (s.depth + nesting_all ts)
    measured_all places s no_trees h =
        let same : s.greatest ≡ max s.greatest (s.depth + 0) = omega arith in
        ap (λ g. let r : Nesting = record { depth = s.depth; greatest = g } in r) same
    measured_all places s (more_trees t ts) h =
        let both : max (max s.greatest (s.depth + nesting t)) (s.depth + nesting_all ts) ≡ max s.greatest (s.depth + nesting_all (more_trees t ts)) = omega arith in
        ap (λ r. visited_all descend inside ascend (λ k. places (suc k)) r ts) (measured (places 0) s t)
        ∙ measured_all (λ k. places (suc k)) (reached s (s.depth + nesting t)) ts (omega arith)
        ∙ ap (λ g. let r : Nesting = record { depth = s.depth; greatest = g } in r) both
