use Rattle.std.proofs.Common.{◌≡◌, ◌∷◌, ◌++◌, [], cond, length, ap, ◌∙◌}
use Rattle.std.specs.Char.{to_ascii_uppercase}
use Rattle.std.specs.Str.{chars}
use Rattle.std.specs.String.{string_bytes}
use Rattle.std.proofs.lemmas.Iterator.{YieldsList-from_chars}
use Rattle.std.proofs.lemmas.Iterator.Consumers.{YieldsList-turn, YieldsList-end}
use Rattle.std.proofs.lemmas.List.{length_push}
use Rattle.std.proofs.lemmas.Str.{IsUtf8-string_bytes}
use Rattle.traverse_names.proofs.Characters.{chars_push}
use Rattle.traverse_names.proofs.Parts.{part_kept, part_dropped, all_kept}
use Rattle.traverse_names.proofs.identifier.push_parts.Goals as goal
use Rattle.traverse_names.proofs.identifier.push_parts.Goals.{then-is_part+in_ok-push, then-dropped, else-dropped, else-is_part}

pub loop-c-preserved : goal.loop-c-preserved
loop-c-preserved c =
    let t = YieldsList-turn (YieldsList-from_chars c.args.rest.now c.utf8.rest cc) c.loop-c.yielded _ c.loop-c.yielded_by _ _ c.in-Some.c c.in-Some.is c.next.ensures.steps in
    let before = chars (string_bytes c.loop-c.text) in
    elim c.if-is_part.branch [
      | then-is_part+in_ok-push w ↦
          let pushed : w.if-dropped.push ≡ cond c.loop-c.dropped (to_ascii_uppercase c.in-Some.c) c.in-Some.c = elim w.if-dropped.branch [ then-dropped v ↦ cc | else-dropped v ↦ cc ] in
          let grown = chars_push (string_bytes c.loop-c.text) (string_bytes c.if-is_part.text) w.if-dropped.push (IsUtf8-string_bytes c.loop-c.text) (IsUtf8-string_bytes c.if-is_part.text) (ap string_bytes w.text-is ∙ w.in_ok-push.ensures.bytes) in
          part_kept c.loop-c.dropped (chars c.args.rest.now) before (chars (string_bytes c.if-is_part.text)) _ (length c.loop-c.yielded) _ c.in-Some.c c.is_identifier_part-is_part.result t c.is_identifier_part-is_part.ensures w.if-is_part.true (length_push c.loop-c.yielded c.in-Some.c) (grown ∙ ap (λ x. before ++ x ∷ []) pushed) c.loop-c.invariant
      | else-is_part w ↦
          part_dropped c.loop-c.dropped (chars c.args.rest.now) before (chars (string_bytes c.if-is_part.text)) _ (length c.loop-c.yielded) _ c.in-Some.c c.is_identifier_part-is_part.result t c.is_identifier_part-is_part.ensures w.if-is_part.false (length_push c.loop-c.yielded c.in-Some.c) (ap (λ s. chars (string_bytes s)) w.text-is) c.loop-c.invariant
    ]

pub returns : goal.returns
returns c =
    let t = YieldsList-end (YieldsList-from_chars c.args.rest.now c.utf8.rest cc) c.loop-c.yielded _ c.loop-c.yielded_by _ _ c.in-None.is c.next.ensures.steps in
    all_kept c.loop-c.dropped (chars c.args.rest.now) (chars (string_bytes c.loop-c.text)) _ (length c.loop-c.yielded) t.1 c.loop-c.invariant
