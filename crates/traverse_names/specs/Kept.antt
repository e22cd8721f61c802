-- What the entries of a generator's map stand for.
use Rattle.std.specs.Prelude.{List, map}
use Rattle.std.specs.FinMap.{from_entries}
use Rattle.traverse_names.specs.Uid.{Text, Pair, Names}
use Rattle.traverse_names.specs.declared.uid.Kept.{Kept}

abbrev pub pair_of : Kept → Pair
pair_of it = (it.underscores, it.postfix)

-- the pair that is kept for each text of a key
abbrev pub kept : {K : Type 0} → (K → Text) → List (K × Kept) → Names
kept text entries = from_entries (map (λ e. (text e.0, pair_of e.1)) entries)
