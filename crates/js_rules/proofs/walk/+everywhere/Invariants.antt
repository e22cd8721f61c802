use Rattle.std.proofs.Common.{◌≡◌}
use Rattle.js_syntax.specs.Everywhere.{everywhere_kids}
use Rattle.js_syntax.specs.Parts.{parts_of, texts_of}
use Rattle.js_rules.specs.Seen.{size, from}
use Rattle.js_rules.proofs.walk.+everywhere.Given as goal

abbrev pub decreases-everywhere : goal.decreases-everywhere
decreases-everywhere g l = size (g.V.View.term l.view)

-- what the items or kids that are left decide is what all of them decide
abbrev pub invariant-loop-n : goal.invariant-loop-n
invariant-loop-n g l = let ts = parts_of (g.V.View.term l.view) in let rest = everywhere_kids g.R.Rule.inside g.R.Rule.item g.R.Rule.allows g.R.Rule.allows_list g.R.Rule.allows_absent (λ m. g.R.Rule.round l.inner) in rest l.n (from l.n ts) ≡ rest 0 ts

abbrev pub invariant-loop-n-2 : goal.invariant-loop-n-2
invariant-loop-n-2 g l = let ts = parts_of (g.V.View.term l.view) in let rest = everywhere_kids g.R.Rule.inside g.R.Rule.item g.R.Rule.allows g.R.Rule.allows_list g.R.Rule.allows_absent (g.R.Rule.inside (g.R.Rule.round l.context) l.kind (texts_of (g.V.View.term l.view)) ts) in rest l.n (from l.n ts) ≡ rest 0 ts
