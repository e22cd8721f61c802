use Rattle.std.proofs.Common.{◌≡◌, ℕ, ◌≤◌, drop, map}
use Rattle.std.specs.Prelude.{slice_get}
use Rattle.js_term.specs.Term.{all}
use Rattle.js_tree.specs.Parts.{kids}
use Rattle.js_tree.specs.TermOf.{term}
use Rattle.js_tree.specs.declared.node.Node.{size-Node}
use Rattle.cover_grammar.specs.Converted.{targets}
use Rattle.cover_grammar.proofs.Converting.{before}
use Rattle.cover_grammar.proofs.targets.+convert.Given as goal

abbrev pub decreases-convert : goal.decreases-convert
decreases-convert l = size-Node l.node

abbrev pub decreases-gather : goal.decreases-gather
decreases-gather l = size-Node l.list

abbrev pub invariant-gather-loop-k : goal.invariant-gather-loop-k
invariant-gather-loop-k l = record {
  done : targets l.literal (all (map term (kids l.fn.list))) ≡ before (map term l.items) (targets l.literal (all (drop l.k (map term (kids l.fn.list)))));
  later : (j : ℕ) → l.k ≤ j → slice_get (kids l.list) j ≡ slice_get (kids l.fn.list) j;
}
