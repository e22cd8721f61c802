use Rattle.std.proofs.Common.{rules, arith, map}
use Rattle.std.proofs.lemmas.Grind.{common_steps}
use Rattle.small_tree.specs.TermOf.{statement_term}
use Rattle.js_read.specs.Read.{statement, statements}
use Rattle.js_read.proofs.Turns.{one_more, no_more, map_snoc}
use Rattle.js_read.proofs.statement.Bodies.statements.Goals as goal

pub returns-then-sees : goal.returns-then-sees
unfolding statements
returns-then-sees g c =
    let e = one_more (λ n. statements c.args.self.now.depth (statement c.args.self.now.depth) n (map statement_term c.loop-turn.found) c.loop-turn.tokens) _ c.loop-turn._turn c.loop-turn-test.true c.loop-turn.invariant in
    first_of (search rules, grind (arith, common_steps))

pub returns-in_err-part : goal.returns-in_err-part
unfolding statements
returns-in_err-part g c =
    let e = one_more (λ n. statements c.args.self.now.depth (statement c.args.self.now.depth) n (map statement_term c.loop-turn.found) c.loop-turn.tokens) _ c.loop-turn._turn c.loop-turn-test.true c.loop-turn.invariant in
    first_of (search rules, grind (arith, common_steps))

pub loop-turn-preserved : goal.loop-turn-preserved
unfolding statements
loop-turn-preserved g c =
    let e = one_more (λ n. statements c.args.self.now.depth (statement c.args.self.now.depth) n (map statement_term c.loop-turn.found) c.loop-turn.tokens) _ c.loop-turn._turn c.loop-turn-test.true c.loop-turn.invariant in
    let m = map_snoc statement_term c.loop-turn.found c.in_ok-part.field-0 in
    first_of (search rules, grind (arith, common_steps))

pub returns : goal.returns
unfolding statements
returns g c =
    let e = no_more (λ n. statements c.args.self.now.depth (statement c.args.self.now.depth) n (map statement_term c.loop-turn.found) c.loop-turn.tokens) _ c.loop-turn._turn c.loop-turn-test.false c.loop-turn.invariant in
    first_of (search rules, grind (arith, common_steps))
