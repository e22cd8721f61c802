use Rattle.js_rules.specs.Seen.{size}
use Rattle.js_rules.proofs.sentences.+is_value_of.Given as goal

abbrev pub decreases-is_value_of : goal.decreases-is_value_of
decreases-is_value_of g l = size (g.V.View.term l.value)
