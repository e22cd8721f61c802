-- What `split_once` gives is the first cut.
use Rattle.std.proofs.Common.{◌≡◌, ◌≢◌, ℕ, ◌+◌, ◌<◌, List, [], ◌∷◌, ◌++◌, length, get_or, Bool, false, true, Option, None, Some, Bor, MatchOption, refl, ap, arith, length-append, ◌==◌, eq-eqb}
use Rattle.std.proofs.lemmas.List.Elements.{All-from_get_or}
use Rattle.std.proofs.lemmas.List.Splits.{slice_split_at, slice_split_none}
use Rattle.std.proofs.lemmas.Str.Pattern.{IsSplitOnceResult, split_parts}
use Rattle.std.specs.List.{All}
use Rattle.transform_targets.specs.Words.{IsCut, cut}

differs : (b c : ℕ) → b ≢ c → (b == c) ≡ false
differs b c h = grind arith

lacks : (c : ℕ) (bytes : List ℕ) → ((i : ℕ) → i < length bytes → get_or bytes i 0 ≢ c) → All (λ b. (b == c) ≡ false) bytes
lacks c bytes h = All-from_get_or (λ b. (b == c) ≡ false) bytes 0 (λ i within. differs _ c (h i within))

abbrev Parts : ℕ → List ℕ → Option (Bor (List ℕ) × Bor (List ℕ)) → Type 0
Parts c bytes parts = MatchOption parts ((i : ℕ) → i < length bytes → get_or bytes i 0 ≢ c)
    (λ x. (bytes ≡ x.0.now ++ (c ∷ x.1.now)) × ((i : ℕ) → i < length x.0.now → get_or x.0.now i 0 ≢ c))

cut_by_parts : (c : ℕ) (bytes : List ℕ) (parts : Option (Bor (List ℕ) × Bor (List ℕ))) → Parts c bytes parts → IsCut c bytes parts
cut_by_parts c bytes None h = slice_split_none (λ b. b == c) bytes (lacks c bytes h)
cut_by_parts c bytes (Some x) h =
    let whole : cut c (x.0.now ++ (c ∷ x.1.now)) ≡ x.0.now ∷ cut c x.1.now =
    slice_split_at (λ b. b == c) x.0.now c x.1.now (lacks c x.0.now h.1) (eq-eqb c c refl) in
    let shorter : length x.1.now < length (x.0.now ++ (c ∷ x.1.now)) = rw length-append (grind arith) in
    rw h.0 (whole, shorter)

pub cut_once : (c : ℕ) (bytes : List ℕ) (parts : Option (Bor (List ℕ) × Bor (List ℕ)))
    → IsSplitOnceResult c bytes parts → c < 128 → IsCut c bytes parts
cut_once c bytes parts h ascii = cut_by_parts c bytes parts (split_parts c bytes parts h ascii)
