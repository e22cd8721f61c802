use Rattle.std.proofs.Common.{◌≡◌, ◌≤◌, ◌+◌, ◌-◌, length}
use Rattle.js_read.specs.Read.{climb, read}
use Rattle.js_read.specs.Nests.{tree}
use Rattle.js_read.proofs.expression.Grammar.climb.Given as goal

abbrev pub invariant-loop-turn : goal.invariant-loop-turn
invariant-loop-turn g l = record {
  same : climb l.self.depth (read l.self.depth) (length l.fn.tokens) (tree l.fn.left) l.fn.tokens ≡ climb l.self.depth (read l.self.depth) (l._turn-end - l._turn) (tree l.left) l.tokens;
  flat : l.left.depth ≤ l.self.depth + 1;
}
