-- A text cut at the first of a byte.
use Rattle.std.proofs.Common.{◌≡◌, ◌≢◌, refl, ℕ, suc, ◌<◌, true, false, [], ◌∷◌, length, get_or, Option, None, Some, MatchOption, arith}
use Rattle.std.specs.Prelude.{nat_eq}
use Rattle.std.specs.Borrow.{Bor}
use Rattle.std.specs.List.{list_all}
use Rattle.std.proofs.lemmas.Str.Pattern.{IsSplitOnceResult, split_parts}
use Rattle.std.proofs.lemmas.Bool.Decides.{nat_tests}
use Rattle.js_term.specs.Term.{Text}
use Rattle.js_literals.specs.Values.{is_other, IsSplit}

pub all_others : (c : ℕ) (xs : Text) → ((i : ℕ) → i < length xs → get_or xs i 0 ≢ c) → list_all (is_other c) xs ≡ true
all_others c [] h = refl
all_others c (x ∷ xs) h =
    let first : nat_eq x c ≡ false = (let other : x ≢ c = h 0 (omega arith) in grind (arith, nat_tests)) in
    rw first (all_others c xs (λ i k. let later : get_or (x ∷ xs) (suc i) 0 ≢ c = h (suc i) (omega arith) in later))

pub split_is : (c : ℕ) (text : Text) (r : Option (Bor Text × Bor Text)) → IsSplitOnceResult c text r → c < 128 → MatchOption r (list_all (is_other c) text ≡ true) (λ p. IsSplit c text p.0.now p.1.now)
split_is c text None h k = all_others c text (split_parts c text None h k)
split_is c text (Some p) h k = let parts = split_parts c text (Some p) h k in record { is = parts.0; others = all_others c p.0.now parts.1 }
