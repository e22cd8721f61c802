use Rattle.std.proofs.Common.{ap, ◌∙◌, codes}
use Rattle.std.specs.Str.{bytes_eq}
use Rattle.prepare_program.proofs.OneWord.{prepare_word}
use Rattle.prepare_program.proofs.words.is_prepare.Goals as goal

pub returns-in-len1 : goal.returns-in-len1
returns-in-len1 c = prepare_word c.args.words.now c.word-item.result c.eq.result c.in-len1.len_at_least c.in-len1.len_below c.word-item.is
    (c.eq.ensures ∙ ap (λ text. bytes_eq text (codes "prepare")) c.as_str.ensures.value)
