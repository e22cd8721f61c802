use Rattle.std.proofs.Common.{arith}
use Rattle.js_read.specs.Read.{statement}
use Rattle.js_read.proofs.Turns.{two_deeper}
use Rattle.js_read.proofs.statement.+statement.Goals as goal

pub returns : goal.returns
unfolding statement
returns t c = rw (two_deeper (λ n. statement n c.args.tokens.now) c.args.depth (omega arith)) c.either.ensures
