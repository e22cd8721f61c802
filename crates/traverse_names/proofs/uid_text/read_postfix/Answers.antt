use Rattle.std.proofs.Common.{arith, ◌≢◌, ◌<◌, length, get_or}
use Rattle.traverse_names.proofs.Cut.{unread}
use Rattle.traverse_names.proofs.uid_text.read_postfix.Goals as goal

pub returns-in_default-2 : goal.returns-in_default-2
returns-in_default-2 c =
    let some : 0 < length c.args.digits.now = grind arith in
    let first : get_or c.args.digits.now 0 0 ≢ 48 = grind arith in
    unread c.args.digits.now c.in_default.field-0 c.requires some first (rw c.in_default.is at c.parse.ensures.value.0)
