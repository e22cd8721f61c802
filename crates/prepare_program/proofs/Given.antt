-- From what was taken of a source to what it gave.
use Rattle.std.proofs.Common.{◌≡◌, ℕ, ◌+◌, ◌<◌, List, ◌++◌, length, drop, sym, ap, subst, arith, length-append, Some, None, IfSome}
use Rattle.std.specs.Prelude.{Option}
use Rattle.std.proofs.lemmas.List.{drop_at}
use Rattle.std.proofs.KnownBytes.{Consumes-whole}
use Rattle.std.specs.Io.KnownBytes.{Consumes}
use Rattle.byte_streams.specs.Taken.{IsCut, IsWhole}
use Rattle.prepare_program.specs.Run.{limit, Overruns}

cut_off : (most : ℕ) (xs bytes ys : List ℕ) → xs ≡ bytes ++ ys → length bytes ≡ most + 1 → (most < length xs) × (ys ≡ drop (most + 1) xs)
cut_off most xs bytes ys e n = (rw e (omega (arith, length-append bytes ys)), rw e (sym (drop_at bytes ys (most + 1) n)))

pub overruns_by : (old new : Option (List ℕ)) → IsCut old new limit → IfSome old (Overruns new)
overruns_by None new cut = tt
overruns_by (Some xs) None cut = absurd cut.taken
overruns_by (Some xs) (Some ys) cut =
    let parts = cut_off limit xs cut.bytes ys cut.taken cut.beyond in
    record { beyond = parts.0; taken = ap Some parts.1 }

-- what holds of the bytes that were read whole holds of what was given
pub given_by : (old new : Option (List ℕ)) (most : ℕ) (bytes read : List ℕ) (P : List ℕ → Type 0) → IsWhole old new most bytes → read ≡ bytes → P read → IfSome old P
given_by old new most bytes read P whole same p =
    Consumes-whole old new read P (subst (Consumes old new) (sym same) whole.taken) whole.ended p
