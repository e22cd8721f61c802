-- How many kids a node has, and which.
use Rattle.std.proofs.Common.{◌≡◌, ℕ, zero, suc, refl, List, [], ◌∷◌, map, length, ap}
use Rattle.std.specs.Prelude.{option_map, slice_get}
use Rattle.js_term.specs.Term.{Term, maybe, all}
use Rattle.js_term.specs.Scope.{kid}
use Rattle.js_syntax.specs.Parts.{count}

pub kid_all_map : {A : Type 0} (f : A → Term) (xs : List A) (n : ℕ) → kid n (all (map f xs)) ≡ maybe (option_map f (slice_get xs n))
kid_all_map f [] n = refl
kid_all_map f (x ∷ xs) zero = refl
kid_all_map f (x ∷ xs) (suc n) = kid_all_map f xs n

pub count_all_map : {A : Type 0} (f : A → Term) (xs : List A) → count (all (map f xs)) ≡ length xs
count_all_map f [] = refl
count_all_map f (x ∷ xs) = ap suc (count_all_map f xs)
