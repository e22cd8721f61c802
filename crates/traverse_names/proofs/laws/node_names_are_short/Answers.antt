use Rattle.traverse_names.proofs.Identifiers.{name_of_parts_short}
use Rattle.traverse_names.proofs.laws.node_names_are_short.Goals as goal

pub returns : goal.returns
returns c = name_of_parts_short
