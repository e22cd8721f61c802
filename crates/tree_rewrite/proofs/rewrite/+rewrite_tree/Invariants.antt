use Rattle.std.proofs.Common.{◌≡◌, ℕ, ◌≤◌, length, slice_get}
use Rattle.js_tree.specs.declared.node.Node.{size-Node}
use Rattle.js_tree.specs.Parts.{kids}
use Rattle.tree_rewrite.proofs.Turning.{Turning}
use Rattle.tree_rewrite.proofs.rewrite.+rewrite_tree.Given as goal

abbrev pub decreases-rewrite_tree : goal.decreases-rewrite_tree
decreases-rewrite_tree g l = size-Node l.node.now

abbrev pub invariant-loop-k : goal.invariant-loop-k
invariant-loop-k g l = record {
  done : Turning g.R.Rewrite.before g.R.Rewrite.inside g.R.Rewrite.after l.place l.initial.rules l.fn.node l.rules l.node l.k;
  later : (j : ℕ) → l.k ≤ j → slice_get (kids l.node) j ≡ slice_get (kids l.fn.node) j;
  counted : l.count ≡ length (kids l.fn.node);
}
