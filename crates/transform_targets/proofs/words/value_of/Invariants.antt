use Rattle.std.proofs.Common.{◌≡◌, ◌<◌, drop}
use Rattle.transform_targets.specs.Words.{value_behind}
use Rattle.transform_targets.proofs.words.value_of.Given as goal

abbrev pub invariant-loop-digit : goal.invariant-loop-digit
invariant-loop-digit l =
    (value_behind l.value (drop l.digit-index l.digits) ≡ value_behind 0 l.digits) × (l.value < 4294967296)
