-- A drawn name is none of the names seen: each name that counts has a pair that is not above the kept one, and the next
-- pair is above it.
use Rattle.std.proofs.Common.{◌≡◌, ◌≢◌, ◌<◌, ◌≤◌, Bool, true, false, ltb, cond, List, [], ◌∷◌, Option, None, Some, ◌+◌, ◌⊎◌, inl, inr, ⊎_elim, arith, subst, sym, refl, ap, ◌∙◌, zero, suc}
use Rattle.std.specs.List.{AllByRecursion, Contains}
use Rattle.std.specs.Option.{unwrap_or}
use Rattle.std.specs.Ordering.{eq_by_cmp, is_eq}
use Rattle.std.specs.Cmp.{tied_itself}
use Rattle.std.specs.Cmp.Lexicographic.{nat_list_cmp_total}
use Rattle.std.specs.FinMap as finite
use Rattle.std.specs.FinMap.{get-insert, get-empty}
use Rattle.std.proofs.lemmas.Bool.{false≢true}
use Rattle.std.proofs.lemmas.Bool.Decides.{nat_tests}
use Rattle.traverse_names.specs.Uid.{Text, Pair, Names, IsBase, Counts, name_of, counted, keep, keep_counted, catalogued, is_below, is_news, next_pair, largest, Seen, unseen, named, raised, drawn}
use Rattle.traverse_names.proofs.Counting.{counted_from_Counts, Counts_from_counted}
use Rattle.traverse_names.proofs.Entries.{texts, antisymmetric, tied}

pub not_below_itself : (p : Pair) → is_below p p ≡ false
not_below_itself p = grind (arith, nat_tests)

below_past : (old p q : Pair) → is_below old p ≡ true → is_below old q ≡ false → is_below p q ≡ false
below_past old p q above not = grind (arith, nat_tests)

news_past : (o : Option Pair) (p q : Pair) → is_news o p ≡ true → is_news o q ≡ false → is_below p q ≡ false
news_past None p q above not = cc
news_past (Some old) p q above not = below_past old p q above not

-- ---- what is kept of one base, where another pair is put
pub insert-own : (kept : Names) (base : Text) (p : Pair) → finite.get (finite.insert kept base p) base ≡ Some p
insert-own kept base p =
    get-insert nat_list_cmp_total kept base p base ∙ ap (λ r. cond (is_eq r) (Some p) (finite.get kept base)) (tied_itself nat_list_cmp_total base)

pub insert-still : (kept : Names) (base : Text) (p : Pair) → is_news (finite.get kept base) p ≡ true → (other : Text) (q : Pair) → is_news (finite.get kept other) q ≡ false → is_news (finite.get (finite.insert kept base p) other) q ≡ false
insert-still kept base p above other q still =
    ap (λ o. is_news o q) (get-insert nat_list_cmp_total kept base p other)
    ∙ elim (eq_by_cmp texts other base) as (λ b. eq_by_cmp texts other base ≡ b → is_news (cond b (Some p) (finite.get kept other)) q ≡ false) [
      | true ↦ λ e.
          let same : other ≡ base = antisymmetric other base (tied _ e) in
          news_past (finite.get kept base) p q above (sym (ap (λ t. is_news (finite.get kept t) q) same) ∙ still)
      | false ↦ λ e. still
    ] refl

pub keep-still : (kept : Names) (base : Text) (p : Pair) (other : Text) (q : Pair) → is_news (finite.get kept other) q ≡ false → is_news (finite.get (keep kept base p) other) q ≡ false
keep-still kept base p other q still =
    elim (is_news (finite.get kept base) p) as (λ b. is_news (finite.get kept base) p ≡ b → is_news (finite.get (cond b (finite.insert kept base p) kept) other) q ≡ false) [
      | true ↦ λ e. insert-still kept base p e other q still
      | false ↦ λ e. still
    ] refl

keep-own : (kept : Names) (base : Text) (p : Pair) → is_news (finite.get (keep kept base p) base) p ≡ false
keep-own kept base p =
    elim (is_news (finite.get kept base) p) as (λ b. is_news (finite.get kept base) p ≡ b → is_news (finite.get (cond b (finite.insert kept base p) kept) base) p ≡ false) [
      | true ↦ λ e. ap (λ o. is_news o p) (insert-own kept base p) ∙ not_below_itself p
      | false ↦ λ e. e
    ] refl

pub keep_counted-still : (kept : Names) (o : Option (Text × Pair)) (other : Text) (q : Pair) → is_news (finite.get kept other) q ≡ false → is_news (finite.get (keep_counted kept o) other) q ≡ false
keep_counted-still kept None other q still = still
keep_counted-still kept (Some entry) other q still = keep-still kept entry.0 entry.1 other q still

-- ---- each name seen is covered by what is kept
abbrev pub Covers : Names → Text → Type 0
Covers kept name = (base : Text) (pair : Pair) → Counts name base pair → is_news (finite.get kept base) pair ≡ false

pub covers-catalogued : (kept : Names) (name : Text) → Covers (catalogued kept name) name
covers-catalogued kept name base pair counts =
    ap (λ o. is_news (finite.get (keep_counted kept o) base) pair) (counted_from_Counts name base pair counts) ∙ keep-own kept base pair

all_still : {P Q : Text → Type 0} → ((x : Text) → P x → Q x) → (xs : List Text) → AllByRecursion P xs → AllByRecursion Q xs
all_still f [] all = tt
all_still f (x ∷ xs) all = (f x all.0, all_still f xs all.1)

-- ---- the next pair
pub same_Some : (p q : Pair) → Some p ≡ Some q → p ≡ q
same_Some p q e = ap (λ o. unwrap_or o p) e

next_row : (b : Bool) (p pair : Pair) → cond b (Some (p.0 + 1, 2)) None ≡ Some pair → (p.0 + 1 ≡ pair.0) × (2 ≡ pair.1)
next_row true p pair e = let same = same_Some (p.0 + 1, 2) pair e in (ap (λ x. x.0) same, ap (λ x. x.1) same)
next_row false p pair e = cc

below_same : (p q : Pair) → p.0 ≡ q.0 → p.1 + 1 ≡ q.1 → is_below p q ≡ true
below_same p q e f = grind (arith, nat_tests)

below_next : (p q : Pair) → p.0 + 1 ≡ q.0 → is_below p q ≡ true
below_next p q e = grind (arith, nat_tests)

same_entry : {x y : Text × Pair} → Some x ≡ Some y → x ≡ y
same_entry {x} {y} e = ap (λ o. unwrap_or o x) e

next-cases : (p pair : Pair) → next_pair (Some p) ≡ Some pair → ((p.1 < largest) × (p.0 ≡ pair.0) × (p.1 + 1 ≡ pair.1)) ⊎ ((p.0 + 1 ≡ pair.0) × (2 ≡ pair.1))
next-cases p pair e =
    elim (ltb p.1 largest) as (λ b. ltb p.1 largest ≡ b → cond b (Some (p.0, p.1 + 1)) (cond (ltb p.0 largest) (Some (p.0 + 1, 2)) None) ≡ Some pair → ((p.1 < largest) × (p.0 ≡ pair.0) × (p.1 + 1 ≡ pair.1)) ⊎ ((p.0 + 1 ≡ pair.0) × (2 ≡ pair.1))) [
      | true ↦ λ t h. let same = same_Some (p.0, p.1 + 1) pair h in inl (grind (arith, nat_tests), ap (λ x. x.0) same, ap (λ x. x.1) same)
      | false ↦ λ t h. inr (next_row (ltb p.0 largest) p pair h)
    ] refl e

pub next-news : (o : Option Pair) (pair : Pair) → next_pair o ≡ Some pair → is_news o pair ≡ true
next-news None pair e = refl
next-news (Some p) pair e = ⊎_elim (λ a. below_same p pair a.1 a.2) (λ b. below_next p pair b.0) (next-cases p pair e)

abbrev pub IsPositive : Pair → Type 0
IsPositive pair = (1 ≤ pair.0) × (1 ≤ pair.1)

abbrev pub KeepsPositive : Names → Type 0
KeepsPositive kept = (base : Text) (pair : Pair) → finite.get kept base ≡ Some pair → IsPositive pair

next-range : (o : Option Pair) (pair : Pair) → next_pair o ≡ Some pair → ((p : Pair) → o ≡ Some p → IsPositive p) → (1 ≤ pair.0) × (1 ≤ pair.1) × (pair.1 ≤ largest)
next-range None pair e positive = let same = same_Some (1, 1) pair e in let first : 1 ≡ pair.0 = ap (λ x. x.0) same in let second : 1 ≡ pair.1 = ap (λ x. x.1) same in (omega arith, omega arith, omega arith)
next-range (Some p) pair e positive = let own : IsPositive p = positive p refl in ⊎_elim (λ a. (omega arith, omega arith, omega arith)) (λ b. (omega arith, omega arith, omega arith)) (next-cases p pair e)

insert-positive : (kept : Names) (base : Text) (p : Pair) → IsPositive p → KeepsPositive kept → KeepsPositive (finite.insert kept base p)
insert-positive kept base p positive all other pair e =
    elim (eq_by_cmp texts other base) as (λ b. cond b (Some p) (finite.get kept other) ≡ Some pair → IsPositive pair) [
      | true ↦ λ h. subst IsPositive (same_Some p pair h) positive
      | false ↦ λ h. all other pair h
    ] (sym (get-insert nat_list_cmp_total kept base p other) ∙ e)

keep-positive : (kept : Names) (base : Text) (p : Pair) → IsPositive p → KeepsPositive kept → KeepsPositive (keep kept base p)
keep-positive kept base p positive all =
    elim (is_news (finite.get kept base) p) as (λ b. KeepsPositive (cond b (finite.insert kept base p) kept)) [ true ↦ insert-positive kept base p positive all | false ↦ all ]

keep_counted-positive : (kept : Names) (name : Text) (o : Option (Text × Pair)) → counted name ≡ o → KeepsPositive kept → KeepsPositive (keep_counted kept o)
keep_counted-positive kept name None e all = all
keep_counted-positive kept name (Some entry) e all =
    let counts = Counts_from_counted name entry.0 entry.1 e in
    keep-positive kept entry.0 entry.1 (counts.underscored, counts.numbered.0) all

pub nothing : (pair : Pair) → ◌≢◌ {A = Option Pair} None (Some pair)
nothing pair e = cc

pub positive_seen : {kept : Names} {names : List Text} → Seen kept names → KeepsPositive kept
positive_seen unseen = λ base pair e. absurd (nothing pair (sym (get-empty texts base) ∙ e))
positive_seen (named {kept = kept} name seen) = keep_counted-positive kept name (counted name) refl (positive_seen seen)
positive_seen (raised {kept = kept} base pair underscored numbered seen) = keep-positive kept base pair (underscored, numbered) (positive_seen seen)
positive_seen (drawn {kept = kept} base pair is next seen) =
    let range = next-range (finite.get kept base) pair next (λ p e. positive_seen seen base p e) in
    insert-positive kept base pair (range.0, range.1) (positive_seen seen)

name_counts : (kept : Names) (base : Text) (pair : Pair) → IsBase base → KeepsPositive kept → next_pair (finite.get kept base) ≡ Some pair → Counts (name_of base pair) base pair
name_counts kept base pair is positive next =
    let range = next-range (finite.get kept base) pair next (λ p e. positive base p e) in
    record { is_base = is; underscored = range.0; numbered = (range.1, range.2); spelled = refl }

-- of a drawn name, which counts for its base with its pair alone
covers-drawn : (kept : Names) (base : Text) (pair : Pair) → Counts (name_of base pair) base pair → Covers (finite.insert kept base pair) (name_of base pair)
covers-drawn kept base pair counts other q also =
    let same : ◌≡◌ {A = Text × Pair} (base, pair) (other, q) = same_entry (sym (counted_from_Counts _ base pair counts) ∙ counted_from_Counts _ other q also) in
    ap (λ x. is_news (finite.get (finite.insert kept base pair) x.0) x.1) (sym same) ∙ ap (λ o. is_news o pair) (insert-own kept base pair) ∙ not_below_itself pair

pub covered : {kept : Names} {names : List Text} → Seen kept names → AllByRecursion (Covers kept) names
covered unseen = tt
covered (named {kept = kept} {names = names} name seen) =
    (covers-catalogued kept name, all_still (λ x covers base pair counts. keep_counted-still kept (counted name) base pair (covers base pair counts)) names (covered seen))
covered (raised {kept = kept} {names = names} base pair underscored numbered seen) =
    all_still (λ x covers other q counts. keep-still kept base pair other q (covers other q counts)) names (covered seen)
covered (drawn {kept = kept} {names = names} base pair is next seen) = (
  covers-drawn kept base pair (name_counts kept base pair is (positive_seen seen) next),
  all_still (λ x covers other q counts. insert-still kept base pair (next-news (finite.get kept base) pair next) other q (covers other q counts)) names (covered seen),
)

apart : (kept : Names) (base : Text) (pair : Pair) → Counts (name_of base pair) base pair → is_news (finite.get kept base) pair ≡ true → (name : Text) → Covers kept name → name ≢ name_of base pair
apart kept base pair counts above name covers e =
    false≢true (sym (subst (Covers kept) e covers base pair counts) ∙ above)

not_contained : (x : Text) (xs : List Text) → AllByRecursion (λ y. y ≢ x) xs → Contains xs x → ⊥
not_contained x [] all c = omega (arith, c.1)
not_contained x (y ∷ ys) all (zero, below, is) = all.0 is
not_contained x (y ∷ ys) all (suc k, below, is) = not_contained x ys all.1 (k, omega arith, is)

pub drawn_name_is_new : (kept : Names) (names : List Text) (base : Text) (pair : Pair) → Seen kept names → IsBase base → next_pair (finite.get kept base) ≡ Some pair → Contains names (name_of base pair) → ⊥
drawn_name_is_new kept names base pair seen is next =
    let counts = name_counts kept base pair is (positive_seen seen) next in
    not_contained (name_of base pair) names
    (all_still (apart kept base pair counts (next-news (finite.get kept base) pair next)) names (covered seen))

pub next_is_kept : (kept : Names) (base : Text) (pair : Pair) → next_pair (finite.get kept base) ≡ Some pair → (is_news (finite.get kept base) pair ≡ true) × (finite.get (finite.insert kept base pair) base ≡ Some pair)
next_is_kept kept base pair next = (next-news (finite.get kept base) pair next, insert-own kept base pair)
