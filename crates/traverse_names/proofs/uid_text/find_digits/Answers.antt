use Rattle.std.proofs.Common.{◌≡◌, ◌-◌, false, get_or, arith}
use Rattle.std.specs.Char.{is_ascii_digit}
use Rattle.traverse_names.proofs.Cut.{digits_start_is}
use Rattle.traverse_names.proofs.uid_text.find_digits.Goals as goal

pub returns-else-is_ascii_digit-clause-start : goal.returns-else-is_ascii_digit-clause-start
returns-else-is_ascii_digit-clause-start c =
    let stop : is_ascii_digit (get_or c.args.rest.now (c.loop-end.end - 1) 0) ≡ false = cc in
    digits_start_is c.args.rest.now c.loop-end.end c.loop-end.invariant.0 c.loop-end.invariant.1 (λ _. stop)

pub returns-after-loop-end-clause-start : goal.returns-after-loop-end-clause-start
returns-after-loop-end-clause-start c =
    digits_start_is c.args.rest.now c.loop-end.end c.loop-end.invariant.0 c.loop-end.invariant.1 (λ h. absurd (omega arith))
