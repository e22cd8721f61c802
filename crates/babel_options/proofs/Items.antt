-- A step of a loop over a list of values, which are seen as data.
use Rattle.std.proofs.Common.{◌≡◌, ℕ, ◌+◌, ◌<◌, suc, List, ◌∷◌, map, length, get_or, drop, ap, sym, ◌∙◌, drop-cons, add-one}

pub dropped : {X Y : Type 0} (f : X → Y) (xs : List X) (i : ℕ) (x : X) → i < length xs → x ≡ get_or xs i x
    → map f (drop i xs) ≡ f x ∷ map f (drop (i + 1) xs)
dropped f xs i x within there =
    ap (map f) (drop-cons xs i x within) ∙ ap (λ y. f y ∷ map f (drop (suc i) xs)) (sym there)
    ∙ ap (λ j. f x ∷ map f (drop j xs)) (sym (add-one i))
