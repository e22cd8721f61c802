use Rattle.prepare_program.proofs.Asking.{request_read, request_unread}
use Rattle.prepare_program.proofs.answering.read_value.Goals as goal

pub returns-in-Ok-clause-read : goal.returns-in-Ok-clause-read
returns-in-Ok-clause-read c = request_read _ _ c.in-Ok.ensures.ok.0 c.in-Ok.ensures.ok.1

pub returns-in_default : goal.returns-in_default
returns-in_default c = record {
  read = tt;
  refused = request_unread c.args.bytes.now (c.in-Err.ensures.err (λ h. c.in_default.not-Memory (c.classify.ensures.memory.1 h)));
}
