use Rattle.std.proofs.Common.{◌≡◌, true, false, refl, ◌∙◌, ap}
use Rattle.js_tree.specs.Tree.{tree_of}
use Rattle.tree_rewrite.proofs.Stacked.{pops_to, popped}
use Rattle.tree_rewrite.proofs.scoped.StackedScopeRewrite.after.Goals.{then-opened, else-opened}
use Rattle.tree_rewrite.proofs.scoped.StackedScopeRewrite.after.Goals as goal

pub returns : goal.returns
returns g c =
    let s = c.args.self.now in
    let z = c.after.new.self in
    let u = tree_of c.after.new.node in
    let e : (u, z) ≡ g.R.ScopedRewrite.after s.scopes s.rules c.args.place (tree_of c.args.node.now) =
    c.in_ok-after.ensures ∙ ap (λ l. g.R.ScopedRewrite.after l s.rules c.args.place (tree_of c.args.node.now)) c.as_slice.ensures in
    elim c.if-opened.branch [
      | then-opened w ↦ ap (λ x. (u, x)) w.self-is
          ∙ pops_to (λ l r. record { scopes = l; rules = r }) g.R.ScopedRewrite.opens g.R.ScopedRewrite.scope g.R.ScopedRewrite.before g.R.ScopedRewrite.after
          s.scopes w.pop.new.self s.rules z c.args.place c.args.node.now u true e w.if-opened.ensures (popped w.pop.result s.scopes w.pop.new.self w.pop.ensures)
      | else-opened w ↦ ap (λ x. (u, x)) w.self-is
          ∙ pops_to (λ l r. record { scopes = l; rules = r }) g.R.ScopedRewrite.opens g.R.ScopedRewrite.scope g.R.ScopedRewrite.before g.R.ScopedRewrite.after
          s.scopes s.scopes s.rules z c.args.place c.args.node.now u false e w.if-opened.ensures refl
    ]
