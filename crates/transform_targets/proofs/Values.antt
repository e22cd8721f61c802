-- The value of digits, as a loop over them makes it.
use Rattle.std.proofs.Common.{◌≡◌, ℕ, ◌+◌, ◌-◌, ◌*◌, ◌<◌, ◌≤◌, List, [], ◌∷◌, length, get_or, drop, refl, arith, drop-cons, add-one}
use Rattle.transform_targets.specs.Words.{value_behind}

grows : (bytes : List ℕ) (value : ℕ) → value ≤ value_behind value bytes
grows [] value = omega arith
grows (byte ∷ bytes) value =
    let h : value * 10 + (byte - 48) ≤ value_behind (value * 10 + (byte - 48)) bytes = grows bytes _ in
    omega arith

pub value_step : (bytes : List ℕ) (i value : ℕ) → i < length bytes
    → value_behind value (drop i bytes) ≡ value_behind (value * 10 + (get_or bytes i 0 - 48)) (drop (i + 1) bytes)
value_step bytes i value h = rw (drop-cons bytes i 0 h, ← add-one i) refl

pub too_large : (bytes : List ℕ) (i value : ℕ) → i < length bytes
    → 4294967296 ≤ value * 10 + (get_or bytes i 0 - 48) → 4294967296 ≤ value_behind value (drop i bytes)
too_large bytes i value h large =
    let more : value * 10 + (get_or bytes i 0 - 48)
    ≤ value_behind (value * 10 + (get_or bytes i 0 - 48)) (drop (i + 1) bytes) =
    grows (drop (i + 1) bytes) (value * 10 + (get_or bytes i 0 - 48)) in
    rw (value_step bytes i value h) (omega arith)
