-- The last item of a list.
use Rattle.std.proofs.Common.{◌≡◌, refl, ap, ◌∙◌, ℕ, zero, suc, ◌-◌, List, [], ◌∷◌, length, map, true, false, arith}
use Rattle.std.specs.Prelude.{None, Some, slice_get}
use Rattle.js_term.specs.Term.{all}
use Rattle.js_tree.specs.TermOf.{term}
use Rattle.js_tree.specs.declared.node.Node.{Node}
use Rattle.print_layout.specs.Rows.{ends_in_hole, is_hole}

hole_at : (xs : List Node) (j : ℕ) (x : Node) → length xs ≡ suc j → Some x ≡ slice_get xs j → ends_in_hole (all (map term xs)) ≡ is_hole (term x)
hole_at [] j x h e = absurd (cc)
hole_at (y ∷ []) zero x h e = let same : y ≡ x = cc in ap (λ z. is_hole (term z)) same
hole_at (y ∷ []) (suc j) x h e = absurd (omega arith)
hole_at (y ∷ z ∷ xs) zero x h e = absurd (omega arith)
hole_at (y ∷ z ∷ xs) (suc j) x h e = hole_at (z ∷ xs) j x (omega arith) e

pub last_hole : (xs : List Node) (x : Node) → Some x ≡ slice_get xs (length xs - 1) → ends_in_hole (all (map term xs)) ≡ is_hole (term x)
last_hole [] x e = absurd (cc)
last_hole (y ∷ xs) x e = let one : suc (length xs) - 1 ≡ length xs = omega arith in hole_at (y ∷ xs) (length xs) x refl (e ∙ ap (slice_get (y ∷ xs)) one)

within : {A : Type 0} (xs : List A) (j : ℕ) → length xs ≡ suc j → None ≡ slice_get xs j → false ≡ true
within [] j h e = absurd (cc)
within (y ∷ xs) zero h e = absurd (cc)
within (y ∷ xs) (suc j) h e = within xs j (omega arith) e

pub no_hole : (xs : List Node) → None ≡ slice_get xs (length xs - 1) → ends_in_hole (all (map term xs)) ≡ false
no_hole [] e = refl
no_hole (y ∷ xs) e = let one : suc (length xs) - 1 ≡ length xs = omega arith in let wrong = within (y ∷ xs) (length xs) refl (e ∙ ap (slice_get (y ∷ xs)) one) in absurd (cc)
