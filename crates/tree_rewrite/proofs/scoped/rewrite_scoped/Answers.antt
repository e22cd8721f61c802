use Rattle.std.proofs.Common.{◌∙◌, ap}
use Rattle.js_tree.specs.Tree.{tree_of}
use Rattle.tree_rewrite.specs.Run.{run_with}
use Rattle.tree_rewrite.proofs.Stacked.{stacked_runs}
use Rattle.tree_rewrite.proofs.scoped.rewrite_scoped.Goals as goal

pub returns : goal.returns
returns g c =
    let whole = stacked_runs g.R.ScopedRewrite.opens g.R.ScopedRewrite.scope g.R.ScopedRewrite.before g.R.ScopedRewrite.inside g.R.ScopedRewrite.after
    c.new.result c.args.place c.args.rules (tree_of c.args.node.now) in
    ap (λ r. (r.0, r.1.rules)) (c.in_ok-rewrite_tree.ensures ∙ whole)
    ∙ ap (λ l. run_with g.R.ScopedRewrite.opens g.R.ScopedRewrite.scope g.R.ScopedRewrite.before g.R.ScopedRewrite.inside g.R.ScopedRewrite.after l c.args.place c.args.rules (tree_of c.args.node.now)) c.new.ensures
