use Rattle.std.proofs.Common.{◌≡◌, rules, sym, ap, ◌∙◌, true}
use denote.Enum.Bare.{same_true, true_same}
use Rattle.js_term.specs.contracts.kind.Kind.{the_type}
use Rattle.js_tree.specs.declared.node.Form.TheVariants as form
use Rattle.js_tree.proofs.node.Node.is.Goals as goal

pub returns-in-Node : goal.returns-in-Node
returns-in-Node c =
    let here : c.in-Node.here ≡ c.args.kind → c.is_kind.result ≡ true = λ e. c.is_kind.ensures ∙ true_same the_type _ _ e in
    let there : c.is_kind.result ≡ true → c.in-Node.here ≡ c.args.kind = λ e. same_true the_type (search rules) _ _ (sym c.is_kind.ensures ∙ e) in
    (λ t. sym c.form.ensures ∙ c.in-Node.is ∙ ap form.Node (there t), λ e. here (cc))
