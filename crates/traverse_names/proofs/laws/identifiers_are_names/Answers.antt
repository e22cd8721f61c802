use Rattle.traverse_names.proofs.Identifiers.{identifier_stays, underscore_before_identifier}
use Rattle.traverse_names.proofs.laws.identifiers_are_names.Goals as goal

pub returns : goal.returns
returns c = record { stays = identifier_stays; named = underscore_before_identifier }
