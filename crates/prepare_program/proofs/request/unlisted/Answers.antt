use Rattle.std.proofs.Common.{rules}
use Rattle.prepare_program.proofs.Names.{first_name-entries}
use Rattle.prepare_program.proofs.request.unlisted.Goals as goal

pub loop-name-init : goal.loop-name-init
loop-name-init c = search (rules, first_name-entries c.args.members.now.entries)
