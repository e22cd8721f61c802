use Rattle.std.proofs.Common.{◌≡◌, ◌-◌, [], length, map}
use Rattle.small_tree.specs.TermOf.{statement_term}
use Rattle.js_read.specs.Read.{statement, statements}
use Rattle.js_read.proofs.statement.Bodies.statements.Given as goal

abbrev pub invariant-loop-turn : goal.invariant-loop-turn
invariant-loop-turn g l = statements l.self.depth (statement l.self.depth) (length l.fn.tokens) [] l.fn.tokens ≡ statements l.self.depth (statement l.self.depth) (l._turn-end - l._turn) (map statement_term l.found) l.tokens
