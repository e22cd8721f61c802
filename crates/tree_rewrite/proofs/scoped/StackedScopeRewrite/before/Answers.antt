use Rattle.std.proofs.Common.{◌≡◌, true, false, refl, sym, ◌∙◌, ap}
use Rattle.std.specs.Prelude.{option_map}
use Rattle.js_tree.specs.Tree.{tree_of}
use Rattle.tree_rewrite.specs.Run.{widened}
use Rattle.tree_rewrite.proofs.Stacked.{pushes_to}
use Rattle.tree_rewrite.proofs.scoped.StackedScopeRewrite.before.Goals as goal

pub returns-then-not-opens : goal.returns-then-not-opens
returns-then-not-opens g c =
    let s = c.args.self.now in
    let z = c.before-2.new.self in
    let e : (option_map tree_of c.in_ok-put.field-0, z) ≡ g.R.ScopedRewrite.before s.scopes s.rules c.args.place (tree_of c.args.node.now) =
    c.in_ok-put.ensures ∙ ap (λ l. g.R.ScopedRewrite.before l s.rules c.args.place (tree_of c.args.node.now)) c.as_slice.ensures in
    pushes_to (λ l r. record { scopes = l; rules = r }) g.R.ScopedRewrite.opens g.R.ScopedRewrite.scope g.R.ScopedRewrite.before g.R.ScopedRewrite.after
    s.scopes s.scopes s.rules z c.args.place c.args.node.now false (ap (λ o. (option_map tree_of o, z)) (sym c.in_default.is) ∙ e) c.if-not-opens.ensures refl

pub returns : goal.returns
returns g c =
    let s = c.args.self.now in
    let z = c.before-2.new.self in
    let e : (option_map tree_of c.in_ok-put.field-0, z) ≡ g.R.ScopedRewrite.before s.scopes s.rules c.args.place (tree_of c.args.node.now) =
    c.in_ok-put.ensures ∙ ap (λ l. g.R.ScopedRewrite.before l s.rules c.args.place (tree_of c.args.node.now)) c.as_slice.ensures in
    let opened : c.in_ok-scope.scope ≡ g.R.ScopedRewrite.scope s.scopes z c.args.place (tree_of c.args.node.now) =
    c.in_ok-scope.ensures ∙ ap (λ l. g.R.ScopedRewrite.scope l z c.args.place (tree_of c.args.node.now)) c.as_slice-2.ensures in
    let grown : c.push.new.self ≡ widened true s.scopes c.in_ok-scope.scope = c.in_ok-push.ensures.ok in
    pushes_to (λ l r. record { scopes = l; rules = r }) g.R.ScopedRewrite.opens g.R.ScopedRewrite.scope g.R.ScopedRewrite.before g.R.ScopedRewrite.after
    s.scopes c.push.new.self s.rules z c.args.place c.args.node.now true (ap (λ o. (option_map tree_of o, z)) (sym c.in_default.is) ∙ e) c.if-not-opens.ensures
    (grown ∙ ap (widened true s.scopes) opened)
