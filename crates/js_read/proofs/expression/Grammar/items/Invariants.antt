use Rattle.std.proofs.Common.{◌≡◌, ◌≤◌, ◌-◌, [], length, map}
use Rattle.js_term.specs.Term.{depths, all}
use Rattle.small_tree.specs.TermOf.{expression_term}
use Rattle.js_read.specs.Read.{separated, read}
use Rattle.js_read.proofs.expression.Grammar.items.Given as goal

abbrev pub invariant-loop-turn : goal.invariant-loop-turn
invariant-loop-turn g l = record {
  same : separated (read l.self.depth) (length l.fn.tokens) [] l.fn.tokens ≡ separated (read l.self.depth) (l._turn-end - l._turn) (map expression_term l.items) l.tokens;
  deep : l.deepest ≡ depths (all (map expression_term l.items));
  flat : l.deepest ≤ l.self.depth;
}
