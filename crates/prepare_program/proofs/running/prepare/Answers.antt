use Rattle.std.proofs.Common.{◌≡◌, ◌↔◌, ap, Err}
use Rattle.prepare_program.specs.Report.{HasReason, IsForReadable}
use Rattle.prepare_program.proofs.Given.{overruns_by, given_by}
use Rattle.prepare_program.proofs.running.prepare.Goals as goal

pub returns-in-Err-TooLong-clause-too_long : goal.returns-in-Err-TooLong-clause-too_long
returns-in-Err-TooLong-clause-too_long g c = λ e. overruns_by _ _ (c.in-Err-TooLong.ensures.too_long (ap Err c.in-Err-TooLong.field-0-is))

pub returns-in-Ok-clause-reports_exactly : goal.returns-in-Ok-clause-reports_exactly
returns-in-Ok-clause-reports_exactly g c = λ h.
    given_by _ _ _ _ _ (λ given. (c.write_answer.result ≡ 0) ↔ IsForReadable given) c.in-Ok.ensures.read c.deref.ensures.value (c.write_answer.ensures.reports_exactly h)

pub returns-in-Ok-clause-refuses_exactly : goal.returns-in-Ok-clause-refuses_exactly
returns-in-Ok-clause-refuses_exactly g c = λ h.
    given_by _ _ _ _ _ (λ given. (c.write_answer.result ≡ 1) ↔ HasReason given) c.in-Ok.ensures.read c.deref.ensures.value (c.write_answer.ensures.refuses_exactly h)
