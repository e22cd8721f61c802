use Rattle.std.proofs.Common.{◌≡◌, ap, drop, rules, ◌∙◌}
use Rattle.std.specs.Str.{chars}
use Rattle.traverse_names.proofs.Cut.{behind_underscores}
use Rattle.traverse_names.proofs.Characters.{chars_behind}
use Rattle.traverse_names.proofs.joined.skip_underscores.Goals as goal

pub range_from-requires : goal.range_from-requires
range_from-requires c = λ _. behind_underscores c.args.part.now c.count_underscores.result c.utf8.part c.count_underscores.ensures.count

pub returns : goal.returns
returns c =
    let cut : c.range_from.result.now ≡ drop c.count_underscores.result c.args.part.now = search rules in
    ap chars cut ∙ ap (λ k. chars (drop k c.args.part.now)) c.count_underscores.ensures.count ∙ chars_behind c.args.part.now c.utf8.part
