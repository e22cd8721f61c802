-- Laws of the parts of a node.
use Rattle.std.specs.Prelude.{◌≡◌, ℕ, zero, suc, ◌<◌, ◌≤◌, List, [], ◌∷◌, Some, slice_get, slice_set, refl}
use Rattle.std.proofs.Common.{sym, ◌∙◌, ap, arith}
use denote.Param.Weighed.{most}
use Rattle.js_tree.specs.declared.node.Node.{Node, out-Node, roll-Node, out-roll-Node, roll-out-Node, size-Node, size_is-Node}
use Rattle.js_tree.specs.Words.{texts_seen}
use Rattle.js_tree.specs.Parts.{kids, with_kids, with_kid, Top, top}

-- ---- lists

later : {A : Type 0} (xs : List A) (k j : ℕ) (a : A) → k < j → slice_get (slice_set xs k a) j ≡ slice_get xs j
later [] k j a h = refl
later (x ∷ xs) zero zero a h = absurd (omega arith)
later (x ∷ xs) zero (suc j) a h = refl
later (x ∷ xs) (suc k) zero a h = absurd (omega arith)
later (x ∷ xs) (suc k) (suc j) a h = later xs k j a (omega arith)

twice : {A : Type 0} (xs : List A) (k : ℕ) (a b : A) → slice_set (slice_set xs k a) k b ≡ slice_set xs k b
twice [] k a b = refl
twice (x ∷ xs) zero a b = refl
twice (x ∷ xs) (suc k) a b = ap (λ l. x ∷ l) (twice xs k a b)

same : {A : Type 0} (xs : List A) (k : ℕ) (p : A) → slice_get xs k ≡ Some p → slice_set xs k p ≡ xs
same [] k p h = refl
same (x ∷ xs) zero p h = let q : x ≡ p = cc in ap (λ y. y ∷ xs) (sym q)
same (x ∷ xs) (suc k) p h = ap (λ l. x ∷ l) (same xs k p h)

in_list : (xs : List Node) (k : ℕ) (x : Node) → slice_get xs k ≡ Some x → size-Node x ≤ most size-Node xs
in_list [] k x h = absurd (cc)
in_list (a ∷ xs) zero x h = let q : a ≡ x = cc in let d = ap size-Node q in omega arith
in_list (a ∷ xs) (suc k) x h = let d : size-Node x ≤ most size-Node xs = in_list xs k x h in omega arith

-- ---- nodes

pub kids_with : (n : Node) (xs : List Node) → kids (with_kids n xs) ≡ xs
unfolding kids with_kids
kids_with n xs = ap (λ l. l.kids) (out-roll-Node (record (out-Node n) { kids = xs }))

pub with_twice : (n : Node) (xs ys : List Node) → with_kids (with_kids n xs) ys ≡ with_kids n ys
unfolding with_kids
with_twice n xs ys = ap (λ l. roll-Node (record l { kids = ys })) (out-roll-Node (record (out-Node n) { kids = xs }))

pub with_same : (n : Node) → with_kids n (kids n) ≡ n
unfolding kids with_kids
with_same n = roll-out-Node n

pub top_with : (n : Node) (xs : List Node) → top (with_kids n xs) ≡ top n
unfolding top with_kids
top_with n xs = ap (λ l. let t : Top = record { form = l.form; texts = texts_seen l.texts; span = l.span; id = l.id } in t) (out-roll-Node (record (out-Node n) { kids = xs }))

-- the parts behind the one that is changed stay
pub later_kids : (n x : Node) (k j : ℕ) → k < j → slice_get (kids (with_kid n k x)) j ≡ slice_get (kids n) j
later_kids n x k j h = ap (λ l. slice_get l j) (kids_with n (slice_set (kids n) k x)) ∙ later (kids n) k j x h

-- of two changes of one part the last counts
pub with_kid_twice : (n x y : Node) (k : ℕ) → with_kid (with_kid n k x) k y ≡ with_kid n k y
with_kid_twice n x y k =
    ap (λ l. with_kids (with_kid n k x) (slice_set l k y)) (kids_with n (slice_set (kids n) k x))
    ∙ with_twice n (slice_set (kids n) k x) (slice_set (slice_set (kids n) k x) k y)
    ∙ ap (with_kids n) (twice (kids n) k x y)

-- a part put back where it was
pub with_same_kid : (n p : Node) (k : ℕ) → slice_get (kids n) k ≡ Some p → with_kid n k p ≡ n
with_same_kid n p k h = ap (with_kids n) (same (kids n) k p h) ∙ with_same n

pub kid_is_smaller : (n : Node) (k : ℕ) (x : Node) → slice_get (kids n) k ≡ Some x → size-Node x < size-Node n
unfolding kids
kid_is_smaller n k x h = let d : size-Node x ≤ most size-Node (out-Node n).kids = in_list (out-Node n).kids k x h in omega (arith, size_is-Node n)

pub kids_are_smaller : (n : Node) → most size-Node (kids n) < size-Node n
unfolding kids
kids_are_smaller n = omega (arith, size_is-Node n)
