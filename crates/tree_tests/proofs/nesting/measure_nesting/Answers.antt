use Rattle.std.proofs.Common.{◌≡◌, ℕ, ◌+◌, ◌∙◌, ap, arith}
use Rattle.std.specs.Prelude.{max}
use Rattle.js_tree.specs.Tree.{tree_of}
use Rattle.tree_tests.specs.Collecting.{nesting}
use Rattle.tree_tests.proofs.Collecting.{measured}
use Rattle.tree_tests.proofs.nesting.measure_nesting.Goals as goal

from_none : (n : ℕ) → max 0 (0 + n) ≡ n
from_none n = omega arith

pub returns : goal.returns
returns c =
    ap (λ s. s.greatest) (c.in_ok-visit_tree.ensures ∙ measured (λ p t k. p) tt (record { depth = 0; greatest = 0 }) (tree_of c.args.node.now))
    ∙ from_none (nesting (tree_of c.args.node.now))
