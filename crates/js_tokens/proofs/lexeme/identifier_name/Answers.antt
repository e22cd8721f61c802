use Rattle.std.proofs.Common.{◌∙◌, sym, ap}
use Rattle.js_tokens.specs.Strings.{before}
use Rattle.js_tokens.proofs.Cuts.{name_cut, name_before, word_is}
use Rattle.js_tokens.proofs.lexeme.identifier_name.Goals as goal

pub split_before-requires : goal.split_before-requires
split_before-requires c = name_cut c.args.text.now c.as_bytes.result.now c.utf8.text (c.as_bytes.ensures.value ∙ c.behind_name.ensures)

pub returns : goal.returns
returns c =
    let left = c.as_bytes.ensures.value ∙ c.behind_name.ensures in
    word_is c.args.text.now c.split_before.result.0.now c.split_before.result.1.now (sym c.if-not-begins_name.ensures)
    (c.split_before.ensures.front ∙ ap (before c.args.text.now) left ∙ name_before c.args.text.now c.utf8.text)
    (c.split_before.ensures.back ∙ left)
