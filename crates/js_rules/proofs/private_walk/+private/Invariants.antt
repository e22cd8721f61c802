use Rattle.std.proofs.Common.{◌≡◌, true, ◌+◌, ◌*◌}
use Rattle.js_syntax.specs.Everywhere.{everywhere_kids, first_two_then}
use Rattle.js_syntax.specs.Parts.{parts_of}
use Rattle.js_syntax.specs.ModuleTree.{classes_inside, allows_private}
use Rattle.js_rules.specs.Seen.{size, from}
use Rattle.js_rules.specs.OuterSeen.{declared_names, terms_of, parts_have_private_names}
use Rattle.js_rules.proofs.private_walk.+private.Given as goal

abbrev pub decreases-has_private_names : goal.decreases-has_private_names
decreases-has_private_names g l = 2 * size (g.V.View.term l.view) + 1

abbrev pub decreases-parts_have_private_names : goal.decreases-parts_have_private_names
decreases-parts_have_private_names g l = 2 * size (g.V.View.term l.view)

-- what the parts that are left decide is what all of them decide
abbrev pub invariant-parts_have_private_names-loop-n : goal.invariant-parts_have_private_names-loop-n
invariant-parts_have_private_names-loop-n g l =
    let ts = parts_of (g.V.View.term l.view) in
    let xss = declared_names (terms_of g.V.View.term l.outside) in
    let yss = declared_names (terms_of g.V.View.term l.inside) in
    everywhere_kids classes_inside (λ c. c) allows_private (λ c us. true) (λ c. true) (first_two_then xss yss) l.n (from l.n ts) ≡ parts_have_private_names xss yss ts
