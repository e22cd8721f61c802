use Rattle.std.proofs.Common.{ap, ◌∙◌, rules}
use Rattle.std.specs.Prelude.{not, nat_eq}
use Rattle.std.proofs.lemmas.Fn.{filter_same}
use Rattle.js_scope.specs.Unresolved.{without}
use Rattle.js_scope.proofs.unresolved.remove_reference.Goals as goal

pub returns : goal.returns
returns c =
    c.from_vec.ensures
    ∙ filter_same _ (λ other. not (nat_eq other c.args.reference)) _ (λ x b f k. search rules) _ _ c.retain.ensures.filtered
    ∙ ap (without c.args.reference) (c.into_vec-items.ensures ∙ c.replace.ensures.value)
