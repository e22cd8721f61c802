use Rattle.std.proofs.Common.{arith, length-drop, ◌∙◌}
use Rattle.std.proofs.lemmas.List.{take_rest}
use Rattle.byte_streams.proofs.Bytes.{written_on}
use Rattle.byte_streams.proofs.transfer.write_line.Goals as goal

pub loop-at-preserved : goal.loop-at-preserved
loop-at-preserved g c = record {
  within = omega (arith, length-drop c.loop-at.at c.args.line.now, rw (take_rest c.args.line.now c.loop-at.at) at c.in_ok-at.ensures.bound);
  bytes = written_on _ _ _ c.args.line.now c.loop-at.at c.in_ok-at.field-0 c.loop-at.invariant.bytes (rw (take_rest c.args.line.now c.loop-at.at) at c.in_ok-at.ensures.bytes);
  kept = c.in_ok-at.ensures.cause.kept ∙ c.loop-at.invariant.kept;
}
