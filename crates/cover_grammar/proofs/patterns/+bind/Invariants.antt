use Rattle.std.proofs.Common.{◌≡◌, ℕ, ◌≤◌, drop, map}
use Rattle.std.specs.Prelude.{slice_get}
use Rattle.js_tree.specs.Parts.{kids}
use Rattle.js_tree.specs.TermOf.{term}
use Rattle.js_tree.specs.declared.node.Node.{size-Node}
use Rattle.cover_grammar.specs.Bound.{bind, each_as}
use Rattle.cover_grammar.proofs.Binds.{put_before}
use Rattle.cover_grammar.proofs.patterns.+bind.Given as goal

abbrev pub decreases-bind : goal.decreases-bind
decreases-bind l = size-Node l.node

abbrev pub decreases-bind_all : goal.decreases-bind_all
decreases-bind_all l = size-Node l.list

abbrev pub invariant-bind_all-loop-k : goal.invariant-bind_all-loop-k
invariant-bind_all-loop-k l = record {
  done : each_as (bind l.binding) (map term (kids l.fn.list)) ≡ put_before (map term l.patterns) (each_as (bind l.binding) (drop l.k (map term (kids l.fn.list))));
  later : (j : ℕ) → l.k ≤ j → slice_get (kids l.list) j ≡ slice_get (kids l.fn.list) j;
}
