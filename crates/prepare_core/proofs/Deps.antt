-- A sorted set of sources.
use Rattle.std.proofs.Common.{◌≡◌, sym, subst, List}
use Rattle.std.specs.Prelude.{◌↔◌, Contains}
use Rattle.std.specs.BTreeSet.{BTreeSet, IsFromIterResult}
use Rattle.std.specs.Cmp.Lexicographic.{slice_cmp, nat_list_cmp_total}
use Rattle.std.specs.Ordering.{nat_cmp}
use Rattle.std.proofs.lemmas.Map.Lookups.{exact_bytes}
use Rattle.std.proofs.lemmas.Map.Views.{btree_set_contains_iff, btree_set_contains_from_list}
use Rattle.js_term.specs.Term.{Text}
use Rattle.module_model.specs.Deps.{AreDeps}

pub deps_made : (sources deps : List Text) (set : BTreeSet Text) → IsFromIterResult (slice_cmp nat_cmp) sources set → deps ≡ set.keys → AreDeps sources deps
deps_made sources deps set h e =
    subst (AreDeps sources) (sym e) (record { ascending = h.1; same = same })
  where
    same : (x : Text) → Contains set.keys x ↔ Contains sources x
    same x =
        let a = btree_set_contains_iff nat_list_cmp_total exact_bytes set x in
        let b = btree_set_contains_from_list nat_list_cmp_total exact_bytes sources set h x in
        (λ k. b.0 (a.1 k), λ k. a.0 (b.1 k))
