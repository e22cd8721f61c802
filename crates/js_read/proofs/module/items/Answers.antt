use Rattle.std.proofs.Common.{rules, arith, map}
use Rattle.std.proofs.lemmas.Grind.{common_steps}
use Rattle.small_tree.specs.TermOf.{statement_term}
use Rattle.js_read.specs.Read.{items}
use Rattle.js_read.proofs.Turns.{one_more, no_more, map_snoc}
use Rattle.js_read.proofs.module.items.Goals as goal

pub returns-then-at_end : goal.returns-then-at_end
unfolding items
returns-then-at_end c =
    let e = one_more (λ n. items c.args.depth n (map statement_term c.loop-turn.found) c.loop-turn.tokens) _ c.loop-turn._turn c.loop-turn-test.true c.loop-turn.invariant in
    first_of (search rules, grind (arith, common_steps))

pub returns-in_err-item : goal.returns-in_err-item
unfolding items
returns-in_err-item c =
    let e = one_more (λ n. items c.args.depth n (map statement_term c.loop-turn.found) c.loop-turn.tokens) _ c.loop-turn._turn c.loop-turn-test.true c.loop-turn.invariant in
    first_of (search rules, grind (arith, common_steps))

pub loop-turn-preserved : goal.loop-turn-preserved
unfolding items
loop-turn-preserved c =
    let e = one_more (λ n. items c.args.depth n (map statement_term c.loop-turn.found) c.loop-turn.tokens) _ c.loop-turn._turn c.loop-turn-test.true c.loop-turn.invariant in
    let m = map_snoc statement_term c.loop-turn.found c.in_ok-item.field-0 in
    first_of (search rules, grind (arith, common_steps))

pub returns-then-at_end-2 : goal.returns-then-at_end-2
unfolding items
returns-then-at_end-2 c =
    let e = no_more (λ n. items c.args.depth n (map statement_term c.loop-turn.found) c.loop-turn.tokens) _ c.loop-turn._turn c.loop-turn-test.false c.loop-turn.invariant in
    first_of (search rules, grind (arith, common_steps))

pub returns-else-at_end-2 : goal.returns-else-at_end-2
unfolding items
returns-else-at_end-2 c =
    let e = no_more (λ n. items c.args.depth n (map statement_term c.loop-turn.found) c.loop-turn.tokens) _ c.loop-turn._turn c.loop-turn-test.false c.loop-turn.invariant in
    first_of (search rules, grind (arith, common_steps))
