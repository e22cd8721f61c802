use Rattle.std.proofs.Common.{◌∙◌, ap}
use Rattle.js_tree.specs.Tree.{tree_of}
use Rattle.tree_rewrite.proofs.Turning.{on_ok}
use Rattle.tree_tests.proofs.Collecting.{collected}
use Rattle.tree_tests.proofs.identifiers.collect_identifiers.Goals as goal

pub returns : goal.returns
returns c = on_ok c.visit_tree.result (λ e. ap (λ s. s.names) (e ∙ collected (λ p t k. p) tt c.args.found.now (tree_of c.args.node.now))) c.visit_tree.ensures
