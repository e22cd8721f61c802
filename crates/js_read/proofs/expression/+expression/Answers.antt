use Rattle.std.proofs.Common.{◌≡◌, ap, arith}
use Rattle.js_read.specs.Read.{read}
use Rattle.js_read.proofs.Turns.{deeper}
use Rattle.js_read.proofs.expression.+expression.Goals as goal

pub returns-then-depth-eq0-clause-reads : goal.returns-then-depth-eq0-clause-reads
unfolding read
returns-then-depth-eq0-clause-reads t c = let none : c.args.depth ≡ 0 = omega arith in ap (λ n. read n c.args.tokens.now) none

pub returns-clause-reads : goal.returns-clause-reads
unfolding read
returns-clause-reads t c = rw (deeper (λ n. read n c.args.tokens.now) c.args.depth (omega arith)) c.whole.ensures.reads
