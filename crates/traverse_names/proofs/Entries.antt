-- What a look-up, an insertion and a replaced value in the entries of a generator's map mean for what is kept.
use Rattle.std.proofs.Common.{◌≡◌, Bool, true, false, cond, List, [], ◌∷◌, map, Some, Ordering, refl, sym, ap, ◌∙◌}
use Rattle.std.specs.declared.cmp.Ordering.TheVariants.{Less, Equal, Greater}
use Rattle.std.specs.BTreeMap.{insert_entry, is_at}
use Rattle.std.specs.Map.{lookup, set_value}
use Rattle.std.specs.Option.{option_map}
use Rattle.std.specs.Ordering.{nat_cmp, eq_by_cmp, is_eq, match_ordering}
use Rattle.std.specs.Cmp.{alike_right}
use Rattle.std.specs.Cmp.Lexicographic.{slice_cmp, nat_list_cmp_total}
use Rattle.std.specs.FinMap as finite
use Rattle.std.specs.FinMap.{find, put, IsAntisymmetric, slice_cmp-IsAntisymmetric, nat_cmp-IsAntisymmetric, same_map, get-from_entries, get-insert}
use Rattle.std.specs.FinMap.Entries.{find-put, by_order}
use Rattle.std.proofs.lemmas.Bool.{false≢true}
use Rattle.traverse_names.specs.Uid.{Text, Pair, Names}
use Rattle.traverse_names.specs.Kept.{kept, pair_of}
use Rattle.traverse_names.specs.declared.uid.Kept.{Kept}

abbrev pub texts : Text → Text → Ordering
texts = slice_cmp nat_cmp

pub antisymmetric : IsAntisymmetric texts
antisymmetric = slice_cmp-IsAntisymmetric nat_cmp-IsAntisymmetric

pub same_names : (m n : Names) → ((q : Text) → finite.get m q ≡ finite.get n q) → m ≡ n
same_names m n h = same_map nat_list_cmp_total antisymmetric m n h

shadowed : {A : Type 0} (b : Bool) (x y z : A) → cond b x z ≡ cond b x (cond b y z)
shadowed true x y z = refl
shadowed false x y z = refl

swapped : {A : Type 0} (a b : Bool) (x y z : A) → (a ≡ true → b ≡ true → ⊥) → cond a x (cond b y z) ≡ cond b y (cond a x z)
swapped true true x y z apart = absurd (apart refl refl)
swapped true false x y z apart = refl
swapped false b x y z apart = refl

pub tied : (r : Ordering) → is_eq r ≡ true → r ≡ Equal
tied Less e = cc
tied Equal e = refl
tied Greater e = cc

module _ {K : Type 0} (text : K → Text) where
  abbrev seen : List (K × Kept) → List (Text × Pair)
  seen es = map (λ e. (text e.0, pair_of e.1)) es

  abbrev tests : Text → K → Bool
  tests q = is_at (λ k. texts q (text k))

  find-seen : (es : List (K × Kept)) (q : Text) → find texts q (seen es) ≡ option_map pair_of (lookup (tests q) es)
  find-seen [] q = refl
  find-seen (e ∷ es) q =
      elim (tests q e.0) as (λ b. cond b (Some (pair_of e.1)) (find texts q (seen es)) ≡ option_map pair_of (cond b (Some e.1) (lookup (tests q) es))) [
        | true ↦ refl
        | false ↦ find-seen es q
      ]

  pub get-kept : (es : List (K × Kept)) (q : Text) → finite.get (kept text es) q ≡ option_map pair_of (lookup (tests q) es)
  get-kept es q = get-from_entries nat_list_cmp_total (seen es) q ∙ find-seen es q

  seen-insert_entry : (es : List (K × Kept)) (k : K) (v : Kept) → seen (insert_entry (λ x y. texts (text x) (text y)) es k v) ≡ put texts (text k) (pair_of v) (seen es)
  seen-insert_entry [] k v = refl
  seen-insert_entry (e ∷ es) k v =
      let rest : List (K × Kept) = insert_entry (λ x y. texts (text x) (text y)) es k v in
      elim (texts (text k) (text e.0)) as (λ r. seen (match_ordering r ((k, v) ∷ e ∷ es) ((e.0, v) ∷ es) (e ∷ rest)) ≡ by_order r ((text k, pair_of v) ∷ seen (e ∷ es)) ((text e.0, pair_of v) ∷ seen es) ((text e.0, pair_of e.1) ∷ put texts (text k) (pair_of v) (seen es))) [
        | Less ↦ refl
        | Equal ↦ refl
        | Greater ↦ ap (λ xs. (text e.0, pair_of e.1) ∷ xs) (seen-insert_entry es k v)
      ]

  pub kept-insert : (es : List (K × Kept)) (k : K) (v : Kept) → kept text (insert_entry (λ x y. texts (text x) (text y)) es k v) ≡ finite.insert (kept text es) (text k) (pair_of v)
  kept-insert es k v =
      same_names _ _ (λ q. get-from_entries nat_list_cmp_total _ q ∙ ap (find texts q) (seen-insert_entry es k v)
      ∙ find-put texts nat_list_cmp_total q (text k) (pair_of v) (seen es)
      ∙ sym (get-insert nat_list_cmp_total _ (text k) (pair_of v) q ∙ ap (cond (eq_by_cmp texts q (text k)) (Some (pair_of v))) (get-from_entries nat_list_cmp_total (seen es) q)))

  find-set_value : (es : List (K × Kept)) (k q : Text) (old w : Kept) → lookup (tests k) es ≡ Some old → find texts q (seen (set_value (tests k) es w)) ≡ cond (eq_by_cmp texts q k) (Some (pair_of w)) (find texts q (seen es))
  find-set_value [] k q old w h = cc
  find-set_value (e ∷ es) k q old w h =
      elim (tests k e.0) as (λ b. tests k e.0 ≡ b → cond b (Some e.1) (lookup (tests k) es) ≡ Some old → find texts q (seen (cond b ((e.0, w) ∷ es) (e ∷ set_value (tests k) es w))) ≡ cond (eq_by_cmp texts q k) (Some (pair_of w)) (find texts q (seen (e ∷ es)))) [
        | true ↦ λ t l. shadowed (eq_by_cmp texts q (text e.0)) (Some (pair_of w)) (Some (pair_of e.1)) (find texts q (seen es))
            ∙ ap (λ r. cond (is_eq r) (Some (pair_of w)) (find texts q (seen (e ∷ es)))) (sym (alike_right nat_list_cmp_total k (text e.0) q (tied _ t)))
        | false ↦ λ t l. ap (cond (eq_by_cmp texts q (text e.0)) (Some (pair_of e.1))) (find-set_value es k q old w l)
            ∙ swapped _ _ _ _ _ (λ a b. false≢true (sym t ∙ ap is_eq (sym (nat_list_cmp_total.congr q k (text e.0) (tied _ b))) ∙ a))
      ] refl h

  pub kept-set_value : (es : List (K × Kept)) (k : Text) (old w : Kept) → lookup (tests k) es ≡ Some old → kept text (set_value (tests k) es w) ≡ finite.insert (kept text es) k (pair_of w)
  kept-set_value es k old w h =
      same_names _ _ (λ q. get-from_entries nat_list_cmp_total _ q ∙ find-set_value es k q old w h
      ∙ sym (get-insert nat_list_cmp_total _ k (pair_of w) q ∙ ap (cond (eq_by_cmp texts q k) (Some (pair_of w))) (get-from_entries nat_list_cmp_total (seen es) q)))
