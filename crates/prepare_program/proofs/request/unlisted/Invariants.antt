use Rattle.std.proofs.Common.{◌≡◌}
use Rattle.serde_json.specs.View.{members_view}
use Rattle.prepare_program.specs.Request.{first_unlisted}
use Rattle.prepare_program.proofs.Names.{first_name}
use Rattle.prepare_program.proofs.request.unlisted.Given as goal

abbrev pub invariant-loop-name : goal.invariant-loop-name
invariant-loop-name l = first_name l.name-iterator ≡ first_unlisted (members_view l.members.entries)
