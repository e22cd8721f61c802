use Rattle.std.proofs.Common.{rules, arith, map}
use Rattle.std.proofs.lemmas.Grind.{common_steps}
use Rattle.small_tree.specs.TermOf.{expression_term}
use Rattle.js_read.specs.Read.{separated, read}
use Rattle.js_read.proofs.Turns.{one_more, no_more, depths_snoc, map_snoc}
use Rattle.js_read.proofs.expression.Grammar.items.Goals as goal

pub returns-in_err-found-clause-reads : goal.returns-in_err-found-clause-reads
unfolding separated
returns-in_err-found-clause-reads g c =
    let d = c.args.self.now.depth in
    let e = one_more (λ n. separated (read d) n (map expression_term c.loop-turn.items) c.loop-turn.tokens) _ c.loop-turn._turn c.loop-turn-test.true c.loop-turn.invariant.same in
    first_of (search rules, grind (arith, common_steps))

pub invariant_of-result : goal.invariant_of-result
invariant_of-result g c = first_of (grind (arith, map_snoc, depths_snoc), grind (arith, common_steps, map_snoc, depths_snoc))

pub returns-then-not-sees-clause-reads : goal.returns-then-not-sees-clause-reads
unfolding separated
returns-then-not-sees-clause-reads g c =
    let d = c.args.self.now.depth in
    let e = one_more (λ n. separated (read d) n (map expression_term c.loop-turn.items) c.loop-turn.tokens) _ c.loop-turn._turn c.loop-turn-test.true c.loop-turn.invariant.same in
    let m = map_snoc expression_term c.loop-turn.items c.in_ok-found.found.tree in
    first_of (search rules, grind (arith, common_steps))

pub loop-turn-preserved : goal.loop-turn-preserved
unfolding separated
loop-turn-preserved g c =
    let d = c.args.self.now.depth in
    let e = one_more (λ n. separated (read d) n (map expression_term c.loop-turn.items) c.loop-turn.tokens) _ c.loop-turn._turn c.loop-turn-test.true c.loop-turn.invariant.same in
    let m = map_snoc expression_term c.loop-turn.items c.in_ok-found.found.tree in
    record {
      same = first_of (search rules, grind (arith, common_steps));
      deep = first_of (grind (arith, map_snoc, depths_snoc), grind (arith, common_steps, map_snoc, depths_snoc));
      flat = grind (arith, common_steps);
    }

pub returns-clause-reads : goal.returns-clause-reads
unfolding separated
returns-clause-reads g c =
    let d = c.args.self.now.depth in
    let e = no_more (λ n. separated (read d) n (map expression_term c.loop-turn.items) c.loop-turn.tokens) _ c.loop-turn._turn c.loop-turn-test.false c.loop-turn.invariant.same in
    first_of (search rules, grind (arith, common_steps))
