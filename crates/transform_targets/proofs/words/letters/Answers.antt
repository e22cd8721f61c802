use Rattle.transform_targets.proofs.Fronts as fronts
use Rattle.transform_targets.proofs.words.letters.Goals as goal

pub range-requires-clause-end_boundary : goal.range-requires-clause-end_boundary
range-requires-clause-end_boundary c =
    rw (c.letters_before.ensures, c.as_bytes.ensures.value) (fronts.behind_letters c.args.word.now c.utf8.word)
