use Rattle.std.proofs.Common.{rules, arith, map}
use Rattle.std.proofs.lemmas.Grind.{common_steps}
use Rattle.small_tree.specs.declared.function.BindingPattern.TheVariants as pattern
use Rattle.js_read.specs.Nests.{parameter_name}
use Rattle.js_read.specs.Read.{separated, binding}
use Rattle.js_read.proofs.Turns.{one_more, no_more, map_snoc}
use Rattle.js_read.proofs.statement.names.Goals as goal

pub returns-in_err-id : goal.returns-in_err-id
unfolding separated
returns-in_err-id c =
    let e = one_more (λ n. separated binding n (map parameter_name c.loop-turn.found) c.loop-turn.tokens) _ c.loop-turn._turn c.loop-turn-test.true c.loop-turn.invariant in
    first_of (search rules, grind (arith, common_steps))

pub returns-then-not-sees : goal.returns-then-not-sees
unfolding separated
returns-then-not-sees c =
    let e = one_more (λ n. separated binding n (map parameter_name c.loop-turn.found) c.loop-turn.tokens) _ c.loop-turn._turn c.loop-turn-test.true c.loop-turn.invariant in
    let m = map_snoc parameter_name c.loop-turn.found (record { span = c.in_ok-id.id.span; pattern = pattern.BindingIdentifier c.in_ok-id.id }) in
    first_of (search rules, grind (arith, common_steps))

pub loop-turn-preserved : goal.loop-turn-preserved
unfolding separated
loop-turn-preserved c =
    let e = one_more (λ n. separated binding n (map parameter_name c.loop-turn.found) c.loop-turn.tokens) _ c.loop-turn._turn c.loop-turn-test.true c.loop-turn.invariant in
    let m = map_snoc parameter_name c.loop-turn.found (record { span = c.in_ok-id.id.span; pattern = pattern.BindingIdentifier c.in_ok-id.id }) in
    first_of (search rules, grind (arith, common_steps))

pub returns : goal.returns
unfolding separated
returns c =
    let e = no_more (λ n. separated binding n (map parameter_name c.loop-turn.found) c.loop-turn.tokens) _ c.loop-turn._turn c.loop-turn-test.false c.loop-turn.invariant in
    first_of (search rules, grind (arith, common_steps))
