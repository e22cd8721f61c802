use Rattle.js_rules.specs.Seen.{size}
use Rattle.js_rules.proofs.links.+has_link.Given as goal

abbrev pub decreases-has_link : goal.decreases-has_link
decreases-has_link g l = size (g.V.View.term l.view)
