use Rattle.std.proofs.Common.{◌<◌, sym, ap, ◌∙◌, subst, MatchOption}
use Rattle.std.specs.Prelude.{⊤}
use Rattle.js_tree.specs.Weight.{left_to_free, left_to_open}
use Rattle.js_tree.proofs.Weights.{leaf_falls, opened}
use Rattle.js_tree.proofs.free.step.Goals as goal

pub returns-in-Some : goal.returns-in-Some
returns-in-Some c = subst (λ w. MatchOption c.take.result ⊤ (λ r. left_to_free r.0 r.1 < left_to_free c.args.part w)) (sym c.in-Some.is) (leaf_falls c.take.result c.args.part c.in-Some.others c.take.ensures)

pub returns-else-is_empty : goal.returns-else-is_empty
returns-else-is_empty c = subst (λ n. MatchOption c.enter.result ⊤ (λ r. left_to_free r.0 r.1 < n)) (ap (λ xs. left_to_open xs c.args.waiting) c.into_kids-parts.ensures ∙ sym (opened c.args.part c.args.waiting)) c.enter.ensures
