use Rattle.std.proofs.Common.{◌≡◌, drop, Ok}
use Rattle.transform_targets.specs.Words as words
use Rattle.transform_targets.proofs.engine_targets.EngineTargets.from_target_list.Given as goal

abbrev pub invariant-loop-word : goal.invariant-loop-word
invariant-loop-word l =
    words.with_words (drop l.word-index l.list) (Ok l.targets) ≡ words.targets_of l.fn.list
