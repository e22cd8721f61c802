use Rattle.std.proofs.Common.{rules, arith}
use Rattle.std.proofs.lemmas.Grind.{common_steps}
use Rattle.js_read.specs.Read.{climb, read}
use Rattle.js_read.specs.Nests.{tree}
use Rattle.js_read.proofs.Turns.{one_more, no_more}
use Rattle.js_read.proofs.expression.Grammar.climb.Goals as goal

pub returns-then-not-goes_on-clause-reads : goal.returns-then-not-goes_on-clause-reads
unfolding climb
returns-then-not-goes_on-clause-reads g c =
    let d = c.args.self.now.depth in
    let e = one_more (λ n. climb d (read d) n (tree c.loop-turn.left) c.loop-turn.tokens) _ c.loop-turn._turn c.loop-turn-test.true c.loop-turn.invariant.same in
    first_of (search rules, grind (arith, common_steps))

pub returns-in_err-left-clause-reads : goal.returns-in_err-left-clause-reads
unfolding climb
returns-in_err-left-clause-reads g c =
    let d = c.args.self.now.depth in
    let e = one_more (λ n. climb d (read d) n (tree c.loop-turn.left) c.loop-turn.tokens) _ c.loop-turn._turn c.loop-turn-test.true c.loop-turn.invariant.same in
    first_of (search rules, grind (arith, common_steps))

pub loop-turn-preserved : goal.loop-turn-preserved
unfolding climb
loop-turn-preserved g c =
    let d = c.args.self.now.depth in
    let e = one_more (λ n. climb d (read d) n (tree c.loop-turn.left) c.loop-turn.tokens) _ c.loop-turn._turn c.loop-turn-test.true c.loop-turn.invariant.same in
    first_of (search rules, grind (arith, common_steps))

pub returns-clause-reads : goal.returns-clause-reads
unfolding climb
returns-clause-reads g c =
    let d = c.args.self.now.depth in
    let e = no_more (λ n. climb d (read d) n (tree c.loop-turn.left) c.loop-turn.tokens) _ c.loop-turn._turn c.loop-turn-test.false c.loop-turn.invariant.same in
    first_of (search rules, grind (arith, common_steps))
