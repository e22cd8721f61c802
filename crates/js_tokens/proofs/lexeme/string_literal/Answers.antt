use Rattle.std.proofs.Common.{◌∙◌, sym, ap}
use Rattle.js_tokens.specs.Strings.{string_rest}
use Rattle.js_tokens.proofs.Cuts.{string_ends, rest_front}
use Rattle.js_tokens.proofs.lexeme.string_literal.Goals as goal

pub split_before-requires : goal.split_before-requires
split_before-requires c = string_ends c.args.text.now c.in_ok-left.left.now c.utf8.text c.requires (ap string_rest (sym c.as_bytes.ensures.value) ∙ rest_front c.as_bytes.result.now c.in-len1-up.len_at_least ∙ sym c.in_ok-left.ensures.left)
