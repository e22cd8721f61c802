use Rattle.traverse_names.proofs.Cut.{behind_underscores}
use Rattle.traverse_names.proofs.uid_text.split_name.Goals as goal

pub range_from-rest-requires : goal.range_from-rest-requires
range_from-rest-requires c = λ _. behind_underscores c.args.name.now c.args.count c.utf8.name c.requires
