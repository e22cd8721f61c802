use Rattle.transform_targets.proofs.Fronts.{behind_blanks}
use Rattle.transform_targets.proofs.words.trim_front.Goals as goal

pub range_from-requires : goal.range_from-requires
range_from-requires c =
    λ _. rw (c.blanks_before.ensures, c.as_bytes.ensures.value) (behind_blanks c.args.text.now c.utf8.text)
