use Rattle.std.proofs.Common.{rules, ◌≡◌, ◌<◌, ◌+◌, ◌*◌, sym, ap, ◌∙◌, arith}
use Rattle.js_syntax.specs.Parts.{count, parts_of}
use Rattle.js_syntax.specs.ModuleTree.{Jumps}
use Rattle.js_rules.specs.Seen.{size}
use Rattle.js_rules.proofs.Parts.{part_is_smaller}
use Rattle.module_tree.specs.JumpsSeen.{parts_have_jumps}
use Rattle.module_tree.proofs.JumpRule.{of_list, of_root, of_other, part_fails, part_holds, parts_end}
use Rattle.module_tree.proofs.jumps_walk.+walk.Goals as goal

pub has_jumps_in-returns-in-List : goal.has_jumps_in-returns-in-List
has_jumps_in-returns-in-List g t c = of_list _ _ _ _ c.in-List.ensures c.parts_have_jumps.ensures

pub has_jumps_in-returns-then-is_root_of_jumps : goal.has_jumps_in-returns-then-is_root_of_jumps
has_jumps_in-returns-then-is_root_of_jumps g t c =
    c.parts_have_jumps-then-is_root_of_jumps.ensures ∙ (ap (λ (j : Jumps). parts_have_jumps j (parts_of (g.V.View.term c.args.view))) c.no_jumps.ensures ∙ sym (of_root _ _ _ _ _ c.in-Node.ensures (sym c.allows_jump.ensures ∙ c.if-not-allows_jump.false) (sym c.is_root_of_jumps.ensures ∙ c.if-is_root_of_jumps.true)))

pub has_jumps_in-returns-else-is_root_of_jumps : goal.has_jumps_in-returns-else-is_root_of_jumps
has_jumps_in-returns-else-is_root_of_jumps g t c =
    c.parts_have_jumps-else-is_root_of_jumps.ensures ∙ (ap (λ (j : Jumps). parts_have_jumps j (parts_of (g.V.View.term c.args.view))) c.in_statement.ensures ∙ sym (of_other _ _ _ _ _ c.in-Node.ensures (sym c.allows_jump.ensures ∙ c.if-not-allows_jump.false) (sym c.is_labelled.ensures ∙ c.if-is_labelled.false) (sym c.is_root_of_jumps.ensures ∙ c.if-is_root_of_jumps.false)))

pub parts_have_jumps-has_jumps_in-requires : goal.parts_have_jumps-has_jumps_in-requires
parts_have_jumps-has_jumps_in-requires g t c κs within =
    let smaller : size (g.V.View.term c.part.result) < size (g.V.View.term c.args.view) = part_is_smaller _ _ c.loop-n.n (search rules) c.part.ensures in
    let falls : 3 * size (g.V.View.term c.part.result) + 2 < 3 * size (g.V.View.term c.args.view) = omega arith in
    search rules

pub parts_have_jumps-returns-then-not-has_jumps_in : goal.parts_have_jumps-returns-then-not-has_jumps_in
parts_have_jumps-returns-then-not-has_jumps_in g t c =
    let within : c.loop-n.n < count (parts_of (g.V.View.term c.args.view)) = omega (arith, c.count-n-end.ensures) in
    part_fails _ _ _ _ within c.part.ensures c.loop-n.invariant (sym c.has_jumps_in.ensures ∙ c.if-not-has_jumps_in.true)

pub parts_have_jumps-loop-n-preserved : goal.parts_have_jumps-loop-n-preserved
parts_have_jumps-loop-n-preserved g t c =
    let within : c.loop-n.n < count (parts_of (g.V.View.term c.args.view)) = omega (arith, c.count-n-end.ensures) in
    part_holds _ _ _ _ within c.part.ensures c.loop-n.invariant (sym c.has_jumps_in.ensures ∙ c.if-not-has_jumps_in.false)

pub parts_have_jumps-returns : goal.parts_have_jumps-returns
parts_have_jumps-returns g t c =
    let all : c.loop-n.n ≡ count (parts_of (g.V.View.term c.args.view)) = omega (arith, c.count-n-end.ensures) in
    parts_end _ _ _ all c.loop-n.invariant
