use Rattle.std.proofs.Common.{rules, arith, map}
use Rattle.std.proofs.lemmas.Grind.{common_steps}
use Rattle.small_tree.specs.TermOf.{specifier_term}
use Rattle.js_read.specs.Read.{separated, specifier}
use Rattle.js_read.proofs.Turns.{one_more, no_more, map_snoc}
use Rattle.js_read.proofs.module.listed.Goals as goal

pub returns-in_err-specifier : goal.returns-in_err-specifier
unfolding separated
returns-in_err-specifier c =
    let e = one_more (λ n. separated specifier n (map specifier_term c.loop-turn.found) c.loop-turn.tokens) _ c.loop-turn._turn c.loop-turn-test.true c.loop-turn.invariant in
    first_of (search rules, grind (arith, common_steps))

pub returns-then-not-sees : goal.returns-then-not-sees
unfolding separated
returns-then-not-sees c =
    let e = one_more (λ n. separated specifier n (map specifier_term c.loop-turn.found) c.loop-turn.tokens) _ c.loop-turn._turn c.loop-turn-test.true c.loop-turn.invariant in
    let m = map_snoc specifier_term c.loop-turn.found c.in_ok-specifier.field-0 in
    first_of (search rules, grind (arith, common_steps))

pub loop-turn-preserved : goal.loop-turn-preserved
unfolding separated
loop-turn-preserved c =
    let e = one_more (λ n. separated specifier n (map specifier_term c.loop-turn.found) c.loop-turn.tokens) _ c.loop-turn._turn c.loop-turn-test.true c.loop-turn.invariant in
    let m = map_snoc specifier_term c.loop-turn.found c.in_ok-specifier.field-0 in
    first_of (search rules, grind (arith, common_steps))

pub returns : goal.returns
unfolding separated
returns c =
    let e = no_more (λ n. separated specifier n (map specifier_term c.loop-turn.found) c.loop-turn.tokens) _ c.loop-turn._turn c.loop-turn-test.false c.loop-turn.invariant in
    first_of (search rules, grind (arith, common_steps))
