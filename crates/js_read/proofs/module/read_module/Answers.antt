use Rattle.std.proofs.Common.{rules, arith, sym, ◌∙◌}
use Rattle.std.proofs.lemmas.Grind.{common_steps}
use Rattle.small_tree.specs.TermOf.{program_term}
use Rattle.js_read.proofs.CompleteModules.{small_unique, unread, unread_large}
use Rattle.js_read.proofs.SoundModules.{read_spelled}
use Rattle.js_read.proofs.module.read_module.Goals as goal

pub returns-clause-spelled : goal.returns-clause-spelled
returns-clause-spelled c = (read_spelled c.args.text.now (program_term c.in_ok-program.program) c.in_ok-program.ensures.gives).spelled

pub returns-clause-shallow : goal.returns-clause-shallow
returns-clause-shallow c = (read_spelled c.args.text.now (program_term c.in_ok-program.program) c.in_ok-program.ensures.gives).shallow

pub returns-in_err-program-clause-unread : goal.returns-in_err-program-clause-unread
returns-in_err-program-clause-unread c =
    let h = unread c.args.text.now c.in_err-program.field-0.0 c.in_err-program.ensures.gives in
    first_of (search rules, search (rules, h), grind (arith, common_steps))

pub returns-then-not-branch-clause-unread : goal.returns-then-not-branch-clause-unread
returns-then-not-branch-clause-unread c =
    unread_large c.args.text.now (program_term c.in_ok-program.program) c.in_ok-program.ensures.gives (sym c.in_ok-is_small_by.ensures ∙ c.if-not-branch.true)

pub returns-clause-unique : goal.returns-clause-unique
returns-clause-unique c = λ t s small dep. small_unique s small dep c.in_ok-program.ensures.gives
