use Rattle.std.proofs.Common.{refl, ◌∙◌, ap}
use Rattle.js_tree.specs.Tree.{tree_of}
use Rattle.tree_rewrite.proofs.Turning.{on_ok}
use Rattle.tree_rewrite.proofs.Still.{replaces}
use Rattle.tree_tests.specs.Names.{name_at}
use Rattle.tree_tests.specs.Reading.{inside, read_name}
use Rattle.tree_tests.specs.declared.reading.Import.{Import}
use Rattle.tree_tests.specs.declared.reading.Standing.TheVariants as Standing
use Rattle.tree_tests.proofs.reading.read_all.Goals as goal

pub returns : goal.returns
returns c =
    let i = c.args.import.now in
    on_ok c.rewrite_tree.result
    (λ e. ap (λ r. r.0) (e ∙ replaces (λ (s : Import) p t. (read_name s.names s.source p (name_at t), s)) inside (λ s p t. (t, s)) i
    (λ p t. read_name i.names i.source p (name_at t)) (λ p t. t) (λ p t. refl) (λ p t. refl) Standing.Plain (tree_of c.args.node.now)))
    c.rewrite_tree.ensures
