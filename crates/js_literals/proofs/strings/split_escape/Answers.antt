use Rattle.std.proofs.Common.{Some, ap, sym, ◌∙◌}
use Rattle.js_literals.specs.Escapes.{unescaped}
use Rattle.js_literals.proofs.EscapeCuts.{escape_cut, cut_within}
use Rattle.js_tokens.proofs.Cuts.{cut_boundary, cut_back}
use Rattle.js_literals.proofs.strings.split_escape.Goals as goal

pub overflow_sub-text : goal.overflow_sub-text
overflow_sub-text c = cut_within c.args.text.now c.in_ok-escape.escape.rest.now (escape_cut c.args.text.now (c.in_ok-escape.escape.character, c.in_ok-escape.escape.rest.now) c.utf8.text (ap unescaped (sym c.as_bytes.ensures.value) ∙ sym c.in_ok-escape.ensures))

pub split_at-requires : goal.split_at-requires
split_at-requires c = cut_boundary c.args.text.now c.in_ok-escape.escape.rest.now (escape_cut c.args.text.now (c.in_ok-escape.escape.character, c.in_ok-escape.escape.rest.now) c.utf8.text (ap unescaped (sym c.as_bytes.ensures.value) ∙ sym c.in_ok-escape.ensures))

pub returns-clause-left : goal.returns-clause-left
returns-clause-left c =
    let cut = escape_cut c.args.text.now (c.in_ok-escape.escape.character, c.in_ok-escape.escape.rest.now) c.utf8.text (ap unescaped (sym c.as_bytes.ensures.value) ∙ sym c.in_ok-escape.ensures) in
    ap (λ z. Some (c.in_ok-escape.escape.character, z)) (c.split_at.ensures.back ∙ cut_back c.args.text.now c.in_ok-escape.escape.rest.now cut)
    ∙ c.in_ok-escape.ensures ∙ ap unescaped c.as_bytes.ensures.value
