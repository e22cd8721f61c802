use Rattle.transform_targets.proofs.Fronts as fronts
use Rattle.transform_targets.proofs.words.behind_letters.Goals as goal

pub range_from-requires : goal.range_from-requires
range_from-requires c =
    λ _. rw (c.letters_before.ensures, c.as_bytes.ensures.value) (fronts.behind_letters c.args.word.now c.utf8.word)
