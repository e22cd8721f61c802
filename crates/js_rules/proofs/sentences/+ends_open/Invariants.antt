use Rattle.js_rules.specs.Seen.{size}
use Rattle.js_rules.proofs.sentences.+ends_open.Given as goal

abbrev pub decreases-ends_open : goal.decreases-ends_open
decreases-ends_open g l = size (g.V.View.term l.view)
