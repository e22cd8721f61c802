use Rattle.std.proofs.Common.{None, Some, arith}
use Rattle.std.proofs.lemmas.Str.Pattern.{strip_prefix_char}
use Rattle.js_literals.proofs.HashbangLaws.{no_first, both}
use Rattle.js_literals.proofs.hashbang.behind_mark.Goals as goal

pub returns-in_err-strip_prefix : goal.returns-in_err-strip_prefix
returns-in_err-strip_prefix c = rw c.from_residual.ensures (no_first c.args.text.now (strip_prefix_char 35 c.args.text.now None c.in_err-strip_prefix.ensures.cases (omega arith)))

pub returns : goal.returns
returns c =
    both c.args.text.now c.in_ok-strip_prefix.field-0.now c.strip_prefix-2.result
    (strip_prefix_char 35 c.args.text.now (Some c.in_ok-strip_prefix.field-0) c.in_ok-strip_prefix.ensures.cases (omega arith))
    (strip_prefix_char 33 c.in_ok-strip_prefix.field-0.now c.strip_prefix-2.result c.strip_prefix-2.ensures.cases (omega arith))
