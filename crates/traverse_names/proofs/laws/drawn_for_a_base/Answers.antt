use Rattle.traverse_names.proofs.Counting.{base_is}
use Rattle.traverse_names.proofs.laws.drawn_for_a_base.Goals as goal

pub returns : goal.returns
returns c = base_is
