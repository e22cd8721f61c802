-- Nodes of one part and of two, taken apart.
use Rattle.std.proofs.Common.{◌≡◌, ◌<◌, ℕ, zero, suc, List, [], ◌∷◌, length, Option, None, Some, Bool, true, false, if◌then◌else◌, refl, sym, ap, ◌∙◌, arith}
use Rattle.std.specs.Prelude.{slice_get, slice_set}
use Rattle.js_tree.specs.Parts.{kids, top, with_kid}
use Rattle.js_tree.specs.declared.node.Node.{Node, size-Node}
use Rattle.js_tree.proofs.PartLaws.{kid_is_smaller, kids_with, later_kids}
use Rattle.cover_grammar.specs.Becomes.{sole, both}
use Rattle.cover_grammar.specs.Bound.{listed_both}
use Rattle.cover_grammar.specs.Converted.{is_list, list_in}

length_set : {A : Type 0} (xs : List A) (k : ℕ) (a : A) → length (slice_set xs k a) ≡ length xs
length_set [] k a = refl
length_set (x ∷ xs) zero a = refl
length_set (x ∷ xs) (suc k) a = ap suc (length_set xs k a)

-- a node has as many parts when one is changed
pub as_many : (n m x : Node) (k : ℕ) → m ≡ with_kid n k x → length (kids m) ≡ length (kids n)
as_many n m x k e = ap (λ (o : Node). length (kids o)) e ∙ ap length (kids_with n (slice_set (kids n) k x)) ∙ length_set (kids n) k x

two_are : {A : Type 0} (xs : List A) (a b : A) → length xs ≡ 2 → slice_get xs 0 ≡ Some a → slice_get xs 1 ≡ Some b → both xs ≡ Some (a, b)
two_are [] a b l e f = absurd (omega arith)
two_are (x ∷ []) a b l e f = absurd (omega arith)
two_are (x ∷ y ∷ []) a b l e f = cc
two_are (x ∷ y ∷ z ∷ xs) a b l e f = absurd (omega arith)

pub both_are : (n m x a b : Node) → length (kids n) ≡ 2 → slice_get (kids n) 0 ≡ Some a → m ≡ with_kid n 0 x → slice_get (kids m) 1 ≡ Some b → both (kids n) ≡ Some (a, b)
both_are n m x a b l e h f = two_are (kids n) a b l e (sym (later_kids n x 0 1 (omega arith)) ∙ ap (λ (o : Node). slice_get (kids o) 1) (sym h) ∙ f)

one_of : {A : Type 0} (xs : List A) (a : A) → sole xs ≡ Some a → slice_get xs 0 ≡ Some a
one_of [] a e = absurd (cc)
one_of (x ∷ []) a e = e
one_of (x ∷ y ∷ xs) a e = absurd (cc)

abbrev firsts : {A : Type 0} → Option (A × A) → Option A
firsts None = None
firsts (Some p) = Some p.0

abbrev seconds : {A : Type 0} → Option (A × A) → Option A
seconds None = None
seconds (Some p) = Some p.1

second_of : {A : Type 0} (xs : List A) (a b : A) → both xs ≡ Some (a, b) → slice_get xs 1 ≡ Some b
second_of [] a b e = absurd (cc)
second_of (x ∷ []) a b e = absurd (cc)
second_of (x ∷ y ∷ []) a b e = ap seconds e
second_of (x ∷ y ∷ z ∷ xs) a b e = absurd (cc)

pub sole_smaller : (n a : Node) → sole (kids n) ≡ Some a → size-Node a < size-Node n
sole_smaller n a e = kid_is_smaller n 0 a (one_of (kids n) a e)

pub second_smaller : (n a b : Node) → both (kids n) ≡ Some (a, b) → size-Node b < size-Node n
second_smaller n a b e = kid_is_smaller n 1 b (second_of (kids n) a b e)

list_of : (o : Option Node) (a : Node) → list_in o ≡ Some a → o ≡ Some a
list_of None a e = absurd (cc)
list_of (Some l) a e = go (is_list (top l).form) e
  where
    go : (b : Bool) → (if b then Some l else None) ≡ Some a → Some l ≡ Some a
    go true h = h
    go false h = absurd (cc)

pub list_smaller : (n a : Node) → list_in (sole (kids n)) ≡ Some a → size-Node a < size-Node n
list_smaller n a e = sole_smaller n a (list_of (sole (kids n)) a e)

first_of : {A : Type 0} (xs : List A) (a b : A) → both xs ≡ Some (a, b) → slice_get xs 0 ≡ Some a
first_of [] a b e = absurd (cc)
first_of (x ∷ []) a b e = absurd (cc)
first_of (x ∷ y ∷ []) a b e = ap firsts e
first_of (x ∷ y ∷ z ∷ xs) a b e = absurd (cc)

pub first_smaller : (n a b : Node) → both (kids n) ≡ Some (a, b) → size-Node a < size-Node n
first_smaller n a b e = kid_is_smaller n 0 a (first_of (kids n) a b e)

pub listed_of : (o : Option (Node × Node)) (p : Node × Node) → listed_both o ≡ Some p → o ≡ Some p
listed_of None p e = absurd (cc)
listed_of (Some q) p e = go (is_list (top q.0).form) e
  where
    go : (b : Bool) → (if b then Some q else None) ≡ Some p → Some q ≡ Some p
    go true h = h
    go false h = absurd (cc)
