use Rattle.traverse_names.proofs.Counting.{counted_law}
use Rattle.traverse_names.proofs.laws.names_count_once.Goals as goal

pub returns : goal.returns
returns c = counted_law
