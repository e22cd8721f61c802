use Rattle.std.proofs.Common.{refl, ◌∙◌, ap}
use Rattle.js_term.specs.Node.{return_of}
use Rattle.small_tree.specs.TermOf.{expression_term}
use Rattle.prepare_core.proofs.Nodes.{method_made}
use Rattle.prepare_core.proofs.forms.returning.Goals as goal

pub returns : goal.returns
returns c =
    let s = rw c.in_ok-statements.ensures at c.in_ok-push.ensures.ok in
    method_made _ c.returned.result _ refl refl refl refl c.new-2.ensures c.new-3.ensures s (c.returned.ensures ∙ ap (λ e. return_of (expression_term e)) c.in_ok-argument.ensures)
