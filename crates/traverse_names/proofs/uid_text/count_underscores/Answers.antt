use Rattle.std.proofs.Common.{arith, ◌≢◌, get_or}
use Rattle.traverse_names.proofs.Cut.{count_is}
use Rattle.traverse_names.proofs.uid_text.count_underscores.Goals as goal

pub returns-then-byte-ne95-clause-count : goal.returns-then-byte-ne95-clause-count
returns-then-byte-ne95-clause-count c =
    let ne : get_or c.args.name.now c.loop-i.i 0 ≢ 95 = grind arith in
    count_is c.args.name.now c.loop-i.i (omega arith) c.loop-i.invariant (λ _. ne)

pub returns-clause-count : goal.returns-clause-count
returns-clause-count c =
    count_is c.args.name.now _ (omega arith) (λ k h. c.loop-i.invariant k (omega arith)) (λ h. absurd (omega arith))
