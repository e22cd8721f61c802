use Rattle.std.proofs.Common.{ap, ◌∙◌, take, drop}
use Rattle.std.proofs.lemmas.List.Sums.{prefix_len-le-length}
use Rattle.js_lexical.specs.Digits.{is_mark}
use Rattle.js_lexical.proofs.Parts.{front, behind}
use Rattle.js_lexical.proofs.numbers.split_at_mark.Goals as goal

pub split_at-requires : goal.split_at-requires
split_at-requires c = rw c.length_before.ensures (prefix_len-le-length _ c.args.bytes.now)

pub returns-clause-front : goal.returns-clause-front
returns-clause-front c =
    let x = c.args.bytes.now in
    c.split_at.ensures.front ∙ ap (λ n. take n x) c.length_before.ensures ∙ front (is_mark c.args.mark) x

pub returns-clause-behind : goal.returns-clause-behind
returns-clause-behind c =
    let x = c.args.bytes.now in
    c.split_at.ensures.back ∙ ap (λ n. drop n x) c.length_before.ensures ∙ behind (is_mark c.args.mark) x
