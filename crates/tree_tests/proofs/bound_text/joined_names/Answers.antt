use Rattle.js_tree.specs.BoundNames.{names}
use Rattle.js_tree.proofs.Names.{callable_anywhere}
use Rattle.tree_tests.proofs.bound_text.joined_names.Goals as goal

pub bound_names-requires : goal.bound_names-requires
bound_names-requires c = callable_anywhere _ (λ f a. tt) (names c.args.node.now) _
