use Rattle.std.proofs.Common.{◌≡◌, true, ◌+◌, ◌*◌}
use Rattle.js_syntax.specs.Everywhere.{everywhere_kids, alike}
use Rattle.js_syntax.specs.Parts.{parts_of}
use Rattle.js_syntax.specs.ModuleTree.{jumps_inside, allows_jump}
use Rattle.js_rules.specs.Seen.{size, from}
use Rattle.module_tree.specs.JumpsSeen.{jumps_of, parts_have_jumps}
use Rattle.module_tree.proofs.jumps_walk.+walk.Given as goal

abbrev pub decreases-has_jumps_in : goal.decreases-has_jumps_in
decreases-has_jumps_in g l = 3 * size (g.V.View.term l.view) + 2

abbrev pub decreases-labelled_has_jumps : goal.decreases-labelled_has_jumps
decreases-labelled_has_jumps g l = 3 * size (g.V.View.term l.statement) + 1

abbrev pub decreases-parts_have_jumps : goal.decreases-parts_have_jumps
decreases-parts_have_jumps g l = 3 * size (g.V.View.term l.view)

-- what the parts that are left decide is what all of them decide
abbrev pub invariant-parts_have_jumps-loop-n : goal.invariant-parts_have_jumps-loop-n
invariant-parts_have_jumps-loop-n g l =
    let ts = parts_of (g.V.View.term l.view) in
    let j = jumps_of g.V.View.term l.jumps in
    everywhere_kids jumps_inside (λ c. c) allows_jump (λ c us. true) (λ c. true) (alike j) l.n (from l.n ts) ≡ parts_have_jumps j ts
