-- Lists of values, which are seen as data.
use Rattle.std.proofs.Common.{◌≡◌, ℕ, ◌+◌, ◌<◌, suc, List, [], ◌∷◌, map, length, get_or, drop, refl, ap, sym, ◌∙◌, drop-cons, add-one}
use Rattle.serde_json.specs.Data.{Data}
use Rattle.serde_json.specs.View.{items_of}
use Rattle.babel_values.specs.Entries.{list_of}

-- a step of a loop over a list
pub dropped : {X Y : Type 0} (f : X → Y) (xs : List X) (i : ℕ) (x : X) → i < length xs → x ≡ get_or xs i x
    → map f (drop i xs) ≡ f x ∷ map f (drop (i + 1) xs)
dropped f xs i x within there =
    ap (map f) (drop-cons xs i x within) ∙ ap (λ y. f y ∷ map f (drop (suc i) xs)) (sym there)
    ∙ ap (λ j. f x ∷ map f (drop j xs)) (sym (add-one i))

pub list_of_items : (xs : List Data) → list_of (items_of xs) ≡ xs
list_of_items [] = refl
list_of_items (x ∷ xs) = ap (λ rest. x ∷ rest) (list_of_items xs)
