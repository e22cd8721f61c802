use Rattle.std.proofs.Common.{rules}
use Rattle.prepare_program.proofs.Whole.{fault_is_whole}
use Rattle.prepare_program.proofs.report.refusal.Goals as goal

pub line-requires : goal.line-requires
line-requires c = search (rules, fault_is_whole)
