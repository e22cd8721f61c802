-- A catalogue keeps the greatest pair of the names that count for a base.
use Rattle.std.proofs.Common.{◌≡◌, true, false, cond, List, [], ◌∷◌, Option, None, Some, ◌⊎◌, inl, inr, ⊎_elim, arith, subst, sym, refl, ap, ◌∙◌, zero, suc}
use Rattle.std.specs.List.{Contains, fold}
use Rattle.std.specs.Ordering.{eq_by_cmp}
use Rattle.std.specs.Cmp.Lexicographic.{nat_list_cmp_total}
use Rattle.std.specs.FinMap as finite
use Rattle.std.specs.FinMap.{get-insert, get-empty}
use Rattle.std.proofs.lemmas.Bool.{false≢true}
use Rattle.traverse_names.specs.Uid.{Text, Pair, Names, Counts, counted, keep, keep_counted, catalogued, catalogue, is_news, IsCatalogued}
use Rattle.traverse_names.proofs.Counting.{Counts_from_counted}
use Rattle.traverse_names.proofs.Entries.{texts, antisymmetric, tied}
use Rattle.traverse_names.proofs.Fresh.{Covers, covers-catalogued, keep_counted-still, nothing, same_Some}

fold-still : (kept : Names) (names : List Text) (base : Text) (q : Pair) → is_news (finite.get kept base) q ≡ false → is_news (finite.get (fold catalogued kept names) base) q ≡ false
fold-still kept [] base q still = still
fold-still kept (n ∷ ns) base q still = fold-still (catalogued kept n) ns base q (keep_counted-still kept (counted n) base q still)

fold-covers : (kept : Names) (names : List Text) (name : Text) → Contains names name → Covers (fold catalogued kept names) name
fold-covers kept [] name c base pair counts = absurd (omega (arith, c.1))
fold-covers kept (n ∷ ns) name (zero, below, is) base pair counts =
    fold-still (catalogued kept n) ns base pair (subst (Covers (catalogued kept n)) is (covers-catalogued kept n) base pair counts)
fold-covers kept (n ∷ ns) name (suc k, below, is) base pair counts = fold-covers (catalogued kept n) ns name (k, omega arith, is) base pair counts

from_keep : (kept : Names) (own base : Text) (p pair : Pair) → finite.get (keep kept own p) base ≡ Some pair → (finite.get kept base ≡ Some pair) ⊎ ((own ≡ base) × (p ≡ pair))
from_keep kept own base p pair e =
    elim (is_news (finite.get kept own) p) as (λ b. finite.get (cond b (finite.insert kept own p) kept) base ≡ Some pair → (finite.get kept base ≡ Some pair) ⊎ ((own ≡ base) × (p ≡ pair))) [
      | true ↦ λ h.
          elim (eq_by_cmp texts base own) as (λ b. eq_by_cmp texts base own ≡ b → cond b (Some p) (finite.get kept base) ≡ Some pair → (finite.get kept base ≡ Some pair) ⊎ ((own ≡ base) × (p ≡ pair))) [
            | true ↦ λ t g. inr (sym (antisymmetric base own (tied _ t)), same_Some p pair g)
            | false ↦ λ t g. inl g
          ] refl (sym (get-insert nat_list_cmp_total kept own p base) ∙ h)
      | false ↦ λ h. inl h
    ] e

entry_is : (entry : Text × Pair) (base : Text) (pair : Pair) → entry.0 ≡ base → entry.1 ≡ pair → Some entry ≡ Some (base, pair)
entry_is entry base pair e f = λ i. Some (e i, f i)

later : (n : Text) (ns : List Text) (name : Text) → Contains ns name → Contains (n ∷ ns) name
later n ns name c = (suc c.0, omega (arith, c.1), c.2)

from_counted : (kept : Names) (name : Text) (o : Option (Text × Pair)) → counted name ≡ o → (base : Text) (pair : Pair) → finite.get (keep_counted kept o) base ≡ Some pair → (finite.get kept base ≡ Some pair) ⊎ Counts name base pair
from_counted kept name None is base pair e = inl e
from_counted kept name (Some entry) is base pair e =
    ⊎_elim (λ a. inl a) (λ b. inr (Counts_from_counted name base pair (is ∙ entry_is entry base pair b.0 b.1))) (from_keep kept entry.0 base entry.1 pair e)

from_fold : (kept : Names) (names : List Text) (base : Text) (pair : Pair) → finite.get (fold catalogued kept names) base ≡ Some pair → (finite.get kept base ≡ Some pair) ⊎ ((name : Text) × Contains names name × Counts name base pair)
from_fold kept [] base pair e = inl e
from_fold kept (n ∷ ns) base pair e =
    ⊎_elim
    (λ a. ⊎_elim (λ b. inl b) (λ b. inr (n, (0, omega arith, refl), b)) (from_counted kept n (counted n) refl base pair a))
    (λ a. inr (a.0, later n ns a.0 a.1, a.2))
    (from_fold (catalogued kept n) ns base pair e)

catalogued_pair : (names : List Text) (base : Text) (o : Option Pair) → finite.get (catalogue names) base ≡ o → IsCatalogued names base o
catalogued_pair names base None e = λ name pair c counts.
    false≢true (sym (fold-covers finite.empty names name c base pair counts) ∙ ap (λ o. is_news o pair) e)
catalogued_pair names base (Some pair) e = record {
  counts = ⊎_elim (λ a. absurd (nothing pair (sym (get-empty texts base) ∙ a))) (λ b. b) (from_fold finite.empty names base pair e);
  greatest = λ name other c counts. sym (ap (λ o. is_news o other) e) ∙ fold-covers finite.empty names name c base other counts;
}

pub catalogue_keeps_last : (names : List Text) (base : Text) → IsCatalogued names base (finite.get (catalogue names) base)
catalogue_keeps_last names base = catalogued_pair names base _ refl
