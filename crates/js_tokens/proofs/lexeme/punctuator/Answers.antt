use Rattle.std.proofs.Common.{◌∙◌, sym, ap}
use Rattle.js_tokens.specs.Punctuators.{punctuator_at}
use Rattle.js_tokens.specs.PunctuatorTexts.{text_of}
use Rattle.js_tokens.proofs.Cuts.{sign_boundary}
use Rattle.js_tokens.proofs.lexeme.punctuator.Goals as goal

pub split_at-requires : goal.split_at-requires
split_at-requires c = rw c.length.ensures (sign_boundary c.args.text.now (text_of c.in_ok-punctuator.punctuator) c.utf8.text (ap punctuator_at (sym c.as_bytes.ensures.value) ∙ sym c.in_ok-punctuator.ensures))
