use Rattle.std.proofs.Common.{◌<◌, sym, subst, Some, MatchOption}
use Rattle.std.specs.Prelude.{⊤}
use Rattle.js_tree.specs.Weight.{left_to_free, left_to_open}
use Rattle.js_tree.proofs.Weights.{taken_falls, entered_falls, list_weight}
use Rattle.js_tree.proofs.free.enter.Goals as goal

pub returns-in-None : goal.returns-in-None
returns-in-None c = subst (λ w. MatchOption c.take.result ⊤ (λ r. left_to_free r.0 r.1 < left_to_open c.args.parts w)) (sym c.in-None.is) (taken_falls c.take.result c.args.parts c.take.ensures)

pub returns-in-Some : goal.returns-in-Some
returns-in-Some c =
    let falls = entered_falls c.args.parts c.replace-first.result c.list.result c.in-Some.others c.requires c.replace-first.ensures.value (list_weight c.list.result c.in-Some.others c.list.ensures.held) in
    subst (λ w. left_to_free c.replace-first.result (Some c.replace-first.new.self) < left_to_open c.args.parts w) (sym c.in-Some.is)
    (subst (λ xs. left_to_free c.replace-first.result (Some xs) < left_to_open c.args.parts (Some c.in-Some.others)) (sym c.replace-first.ensures.after) falls)
