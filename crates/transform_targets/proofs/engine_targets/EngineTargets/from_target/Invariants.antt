use denote.Shadow.{shadow}
use denote.Text.{Utf8}
use Rattle.std.proofs.Common.{◌≡◌, length, Ok}
use Rattle.transform_targets.specs.Words as words
use Rattle.transform_targets.proofs.engine_targets.EngineTargets.from_target.Given as goal

abbrev pub invariant-loop-word : goal.invariant-loop-word
invariant-loop-word l = shadow (Utf8 l.rest)
    × (words.with_words (words.words_of l.rest) (Ok l.targets) ≡ words.targets_of (words.words_of l.fn.text))

abbrev pub decreases-loop-word : goal.decreases-loop-word
decreases-loop-word l = length l.rest
