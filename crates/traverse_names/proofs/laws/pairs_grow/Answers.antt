use Rattle.traverse_names.proofs.Fresh.{next_is_kept, keep-still}
use Rattle.traverse_names.proofs.laws.pairs_grow.Goals as goal

pub returns : goal.returns
returns c = record { drawn = next_is_kept; kept = keep-still }
