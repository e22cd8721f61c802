use Rattle.std.proofs.Common.{◌≡◌, [], map, rules, refl, sym, ap, ◌∙◌}
use Rattle.std.specs.List.{fold}
use Rattle.std.specs.Prelude.{IsOk, is_ok}
use Rattle.std.specs.Str.{chars}
use Rattle.std.specs.String.{string_bytes}
use Rattle.std.proofs.lemmas.Fn.{chained_keeps}
use Rattle.std.proofs.lemmas.Result.{IfOk-weaker}
use Rattle.traverse_names.specs.Identifier.{joined, finished, name_of_parts}
use Rattle.traverse_names.proofs.Parts.{joined_push}
use Rattle.traverse_names.proofs.node_name.get_var_name_from_node.Goals as goal

pub returns : goal.returns
returns g c =
    let parts = g.N.GatherNodeParts.parts c.args.node.now in
    let kept =
    chained_keeps _ (λ xs q. (c.pushed-1.given.0 ≡ q.0.ghost_name) × (c.name-1.given.0 ≡ q.1.ghost_name) × (IsOk q.0.now → q.1.now ≡ fold joined [] (map chars xs)))
    (λ xs q x v j k.
    let same_pushed : q.0.ghost_name ≡ v.0.ghost_name = search rules in
    let same_name : q.1.ghost_name ≡ v.1.ghost_name = search rules in
    let told : IsOk v.0.now → IsOk q.0.now × (v.1.now ≡ joined q.1.now (chars k.shown.now)) = search rules in
    (j.0 ∙ same_pushed, j.1 ∙ same_name, λ ok. (told ok).1 ∙ ap (λ part. joined q.1.now (chars part)) k.shows ∙ ap (λ name. joined name (chars x)) (j.2 (told ok).0) ∙ sym (joined_push [] xs x)))
    parts _ _ (refl, refl, λ _. c.new-name.ensures) c.gather.ensures.called in
    let pushed = c.pushed-2-1.given.1 kept.0 in
    let joined_all = c.name-2-1.given.1 kept.1 ∙ kept.2 (ap is_ok (sym pushed ∙ c.in_ok-pushed.was)) in
    IfOk-weaker c.finish.result _ (λ text. chars (string_bytes text) ≡ name_of_parts (map chars parts)) (λ text e. e ∙ ap finished joined_all) c.finish.ensures
