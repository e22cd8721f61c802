use Rattle.std.proofs.Common.{◌-◌, ◌∙◌, ap, drop, length}
use Rattle.js_literals.specs.Hashbangs.{behind_line}
use Rattle.js_literals.proofs.HashbangLaws.{cuts_none, cuts_some, behind_mark_utf8, line_cut}
use Rattle.js_tokens.specs.Strings.{before}
use Rattle.js_tokens.proofs.Cuts.{cut_boundary, cut_back}
use Rattle.js_literals.proofs.hashbang.take_hashbang.Goals as goal

pub returns-in_err-line : goal.returns-in_err-line
returns-in_err-line c = rw c.from_residual.ensures (cuts_none c.args.text.now c.utf8.text c.in_err-line.ensures)

pub split_at-requires : goal.split_at-requires
split_at-requires c =
    let left = c.behind_line.ensures.left ∙ ap behind_line c.as_bytes.ensures.value in
    let utf8 = behind_mark_utf8 c.args.text.now c.in_ok-line.line.now c.utf8.text c.in_ok-line.ensures in
    rw left (cut_boundary c.in_ok-line.line.now (behind_line c.in_ok-line.line.now) (line_cut c.in_ok-line.line.now utf8))

pub returns : goal.returns
returns c =
    let left = c.behind_line.ensures.left ∙ ap behind_line c.as_bytes.ensures.value in
    let utf8 = behind_mark_utf8 c.args.text.now c.in_ok-line.line.now c.utf8.text c.in_ok-line.ensures in
    cuts_some c.args.text.now c.in_ok-line.line.now c.split_at.result.0.now c.split_at.result.1.now c.utf8.text c.in_ok-line.ensures
    (c.split_at.ensures.front ∙ ap (before c.in_ok-line.line.now) left)
    (c.split_at.ensures.back ∙ ap (λ z. drop (length c.in_ok-line.line.now - length z) c.in_ok-line.line.now) left ∙ cut_back c.in_ok-line.line.now (behind_line c.in_ok-line.line.now) (line_cut c.in_ok-line.line.now utf8))
