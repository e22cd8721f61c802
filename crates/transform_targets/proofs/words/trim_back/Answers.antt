use Rattle.std.proofs.lemmas.List.Sums.{suffix_len-le-length}
use Rattle.transform_targets.specs.Words.{is_blank}
use Rattle.transform_targets.proofs.Fronts.{before_blanks}
use Rattle.transform_targets.proofs.words.trim_back.Goals as goal

pub overflow_sub-text : goal.overflow_sub-text
overflow_sub-text c =
    rw (c.blanks_behind.ensures, c.as_bytes.ensures.value) (suffix_len-le-length is_blank c.args.text.now)

pub range-requires-clause-end_boundary : goal.range-requires-clause-end_boundary
range-requires-clause-end_boundary c =
    rw (c.blanks_behind.ensures, c.as_bytes.ensures.value) (before_blanks c.args.text.now)
