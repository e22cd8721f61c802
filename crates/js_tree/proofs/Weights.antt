-- What is left to free falls.
use Rattle.std.proofs.Common.{◌≡◌, refl, ap, ◌∙◌, List, [], ◌∷◌, ◌++◌, map, ℕ, zero, suc, ◌+◌, ◌*◌, ◌<◌, ◌≤◌, arith, slice_set, slice_index_or, MatchOption, Option, None, Some}
use Rattle.std.proofs.Math.Nat.{mul-suc, suc-mul}
use Rattle.std.proofs.lemmas.Nat.{mul-le}
use Rattle.std.specs.Prelude.{⊤}
use denote.Param.Weighed.{most}
use Rattle.js_tree.specs.declared.node.Node.{Node, fold_out-Node, size-Node, size_is-Node}
use Rattle.js_tree.specs.Parts.{kids}
use Rattle.js_tree.specs.Weight.{total, weight, weights, waiting_weight, left_to_free, left_to_open}

pub weight_is : (n : Node) → weight n ≡ suc (weights (kids n))
unfolding weight kids
weight_is n = fold_out-Node ℕ (λ m. suc (total m.kids)) n

each_fits : (m : ℕ) → ((n : Node) → size-Node n ≤ m → size-Node n ≤ weight n) → (ns : List Node) → most size-Node ns ≤ m → most size-Node ns ≤ weights ns
each_fits m f [] h = omega arith
each_fits m f (n ∷ ns) h =
    let one : size-Node n ≤ weight n = f n (omega arith) in
    let others : most size-Node ns ≤ weights ns = each_fits m f ns (omega arith) in
    omega arith

fits_within : (m : ℕ) (n : Node) → size-Node n ≤ m → size-Node n ≤ weight n
unfolding kids
fits_within zero n h = absurd (omega (arith, size_is-Node n))
fits_within (suc m) n h =
    let below : most size-Node (kids n) ≤ weights (kids n) = each_fits m (fits_within m) (kids n) (omega (arith, size_is-Node n)) in
    omega (arith, size_is-Node n, weight_is n)

-- a tree is no deeper than it has nodes
pub size_fits : (n : Node) → size-Node n ≤ weight n
size_fits n = fits_within (size-Node n) n (omega arith)

square_of_next : (a b : ℕ) → a < b → a * a + a < b * b
square_of_next a b h = omega (arith, mul-le (suc a) (suc a) b b h h, suc-mul a (suc a), mul-suc a a)

-- fewer nodes, whatever the size of the next one
pub fewer : (v w s r : ℕ) → v < w → s ≤ v → v * v + s < w * w + r
fewer v w s r h d = let q = square_of_next v w h in omega arith

total_append : (ms ns : List ℕ) → total (ms ++ ns) ≡ total ms + total ns
total_append [] ns = omega arith
total_append (m ∷ ms) ns = let e = total_append ms ns in omega arith

map_append : (xs ys : List Node) → map weight (xs ++ ys) ≡ map weight xs ++ map weight ys
map_append [] ys = refl
map_append (x ∷ xs) ys = ap (λ ns. weight x ∷ ns) (map_append xs ys)

-- one part taken off the end
pub last_weight : (xs : List Node) (n : Node) → weight n + weights xs ≡ weights (xs ++ n ∷ [])
last_weight xs n =
    let e : weights (xs ++ n ∷ []) ≡ total (map weight xs) + total (map weight (n ∷ [])) = ap total (map_append xs (n ∷ [])) ∙ total_append (map weight xs) (map weight (n ∷ [])) in
    omega (arith, e)

-- the first of the parts is next, and what waited stands in its place
pub entered_falls : (ps : List Node) (first others : Node) (ws : List Node) → (ps ≡ [] → ⊥) → first ≡ slice_index_or ps 0 first → weight others ≡ suc (weights ws) →
    left_to_free first (Some (slice_set ps 0 others)) < left_to_open ps (Some ws)
entered_falls [] first others ws h e w = absurd (h refl)
entered_falls (p ∷ ps) first others ws h e w =
    let same : weight first ≡ weight p = ap weight e in
    let size : size-Node first ≡ size-Node p = ap size-Node e in
    let sum : weight first + (weight others + weights ps) ≡ suc ((weight p + weights ps) + weights ws) = omega (arith, same, w) in
    let square = ap (λ n. n * n) sum in
    omega (arith, square, size)

-- the last of the parts is next
pub taken_falls : (r : Option (Node × Option (List Node))) (ps : List Node) → MatchOption r ⊤ (λ q. weight q.0 + waiting_weight q.1 ≡ weights ps) → MatchOption r ⊤ (λ q. left_to_free q.0 q.1 < left_to_open ps None)
taken_falls None ps h = tt
taken_falls (Some q) ps h = fewer (weight q.0 + waiting_weight q.1) (suc (weights ps + 0)) (size-Node q.0) (suc (most size-Node ps)) (omega (arith, h)) (let d = size_fits q.0 in omega arith)

-- a part without kids is gone
pub leaf_falls : (r : Option (Node × Option (List Node))) (n : Node) (ws : List Node) → MatchOption r ⊤ (λ q. weight q.0 + waiting_weight q.1 ≡ weights ws) → MatchOption r ⊤ (λ q. left_to_free q.0 q.1 < left_to_free n (Some ws))
leaf_falls None n ws h = tt
leaf_falls (Some q) n ws h = fewer (weight q.0 + waiting_weight q.1) (weight n + weights ws) (size-Node q.0) (size-Node n) (omega (arith, h, weight_is n)) (let d = size_fits q.0 in omega arith)

-- a part that is opened
pub opened : (n : Node) (waiting : Option (List Node)) → left_to_free n waiting ≡ left_to_open (kids n) waiting
unfolding kids
opened n waiting =
    let sum : weight n + waiting_weight waiting ≡ suc (weights (kids n) + waiting_weight waiting) = omega (arith, weight_is n) in
    let square = ap (λ m. m * m) sum in
    omega (arith, square, size_is-Node n)

-- a list that holds others
pub list_weight : (n : Node) (ws : List Node) → kids n ≡ ws → weight n ≡ suc (weights ws)
list_weight n ws e = weight_is n ∙ ap (λ xs. suc (weights xs)) e
