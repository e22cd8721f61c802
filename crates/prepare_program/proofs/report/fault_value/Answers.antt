use Rattle.std.proofs.Common.{string_bytes, ap}
use Rattle.std.proofs.lemmas.Result.{IfOk-weaker}
use Rattle.prepare_program.specs.Report.{told, bad_request}
use Rattle.prepare_program.proofs.report.fault_value.Goals as goal

pub returns-in-BadRequest : goal.returns-in-BadRequest
returns-in-BadRequest c = IfOk-weaker c.bad_request.result _ _ (λ value h. (bad_request (string_bytes c.in-BadRequest.key), ap told c.in-BadRequest.is, h)) c.bad_request.ensures
