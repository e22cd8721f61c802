use Rattle.std.proofs.Common.{[], refl, ◌∙◌, ap}
use Rattle.js_tree.specs.Tree.{tree_of}
use Rattle.tree_rewrite.proofs.Still.{runs}
use Rattle.tree_tests.specs.Reading.{inside}
use Rattle.tree_tests.specs.Hiding.{is_function, own_names, read_seen}
use Rattle.tree_tests.specs.declared.reading.Import.{Import}
use Rattle.tree_tests.specs.declared.reading.Standing.TheVariants as Standing
use Rattle.tree_tests.proofs.hiding.read_visible.Goals as goal

pub returns : goal.returns
returns c =
    let i = c.args.import in
    ap (λ r. r.0) (c.in_ok-_import.ensures
    ∙ runs (λ p t. is_function t.form) (λ env s p t. own_names t) (λ env (s : Import) p t. (read_seen s.names s.source env p t, s)) inside (λ env s p t. (t, s)) i
    (read_seen i.names i.source) (λ env p t. t) (λ env p t. refl) (λ env p t. refl) [] Standing.Plain (tree_of c.args.node.now))
