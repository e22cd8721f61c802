-- Four pieces or more are no version.
use Rattle.std.proofs.Common.{◌≡◌, ℕ, ◌+◌, ◌<◌, List, [], ◌∷◌, length, Option, None, refl, arith}
use Rattle.std.proofs.lemmas.List.Splits.{length-slice_split}
use Rattle.std.specs.List.{count_by}
use Rattle.std.specs.Prelude.{◌==◌}
use Rattle.transform_targets.specs.Words.{Text, cut, version_of_pieces}

four_pieces : (a b c : Text) (pieces : List Text) → 0 < length pieces → version_of_pieces (a ∷ b ∷ c ∷ pieces) ≡ None
four_pieces a b c [] h = absurd (omega arith)
four_pieces a b c (d ∷ pieces) h = refl

pub too_many : (a b c rest : Text) → version_of_pieces (a ∷ b ∷ c ∷ cut 46 rest) ≡ None
too_many a b c rest =
    let many : length (cut 46 rest) ≡ count_by (λ byte. byte == 46) rest + 1 =
    length-slice_split (λ byte. byte == 46) rest in
    four_pieces a b c (cut 46 rest) (omega arith)
