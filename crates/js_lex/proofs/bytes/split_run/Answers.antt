use Rattle.js_lex.proofs.Runs.{IsCharBoundary-run}
use Rattle.js_lex.proofs.bytes.split_run.Goals as goal

pub split_at-requires : goal.split_at-requires
split_at-requires c = rw (c.run_length.ensures, c.as_bytes.ensures.value) (IsCharBoundary-run c.args.class c.args.text.now c.utf8.text)
