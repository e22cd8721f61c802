use Rattle.std.proofs.Common.{◌∙◌, ap}
use Rattle.js_syntax.specs.Lexical.{flag_letters}
use Rattle.module_tree.specs.FlagLetters.{are_flags_among}
use Rattle.module_tree.proofs.InOrder.{flags_among}
use Rattle.module_tree.proofs.letters.is_regexp_flags.Goals as goal

pub returns : goal.returns
returns c = (c.are_flags_among.ensures ∙ ap (are_flags_among flag_letters) c.as_bytes.ensures.value) ∙ flags_among c.args.text.now
