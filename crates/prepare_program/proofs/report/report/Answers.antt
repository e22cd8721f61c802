use Rattle.std.proofs.Common.{ap, ◌∙◌, string_bytes}
use Rattle.serde_json.specs.Written.{has_float}
use Rattle.prepare_program.proofs.Whole.{report_is_whole}
use Rattle.prepare_program.proofs.report.report.Goals as goal

pub line-requires : goal.line-requires
line-requires c = ap has_float c.in_ok-value.ensures ∙ report_is_whole (string_bytes c.args.made.module) c.args.made.deps.items c.args.made.dynamic_deps.items
