use Rattle.std.proofs.Common.{◌∙◌, ap}
use Rattle.js_tokens.specs.Numbers.{number_rest}
use Rattle.js_tokens.proofs.Cuts.{number_ends}
use Rattle.js_tokens.proofs.lexeme.numeric_literal.Goals as goal

pub split_before-requires : goal.split_before-requires
split_before-requires c = number_ends c.args.text.now c.number_rest.result.now c.utf8.text (c.number_rest.ensures ∙ ap number_rest c.as_bytes.ensures.value)
