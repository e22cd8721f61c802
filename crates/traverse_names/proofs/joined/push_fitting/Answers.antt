use Rattle.std.proofs.Common.{◌≡◌, ◌+◌, ◌<◌, ◌≤◌, length, arith, ◌∙◌}
use Rattle.std.specs.Char.{len_utf8}
use Rattle.std.specs.Str.{chars}
use Rattle.std.specs.String.{string_bytes, string_len}
use Rattle.std.proofs.lemmas.Iterator.{YieldsList-from_chars}
use Rattle.std.proofs.lemmas.Iterator.Consumers.{YieldsList-turn, YieldsList-end}
use Rattle.std.proofs.lemmas.List.{length_push}
use Rattle.std.proofs.lemmas.Str.{IsUtf8-string_bytes}
use Rattle.traverse_names.proofs.Characters.{chars_push}
use Rattle.traverse_names.proofs.Parts.{fitted, fitted_no_more, all_fitted}
use Rattle.traverse_names.proofs.joined.push_fitting.Goals as goal

pub returns-then-len-len_utf8-gt-LIMIT-clause-fitted : goal.returns-then-len-len_utf8-gt-LIMIT-clause-fitted
returns-then-len-len_utf8-gt-LIMIT-clause-fitted c =
    let t = YieldsList-turn (YieldsList-from_chars c.args.part.now c.utf8.part cc) c.loop-c.yielded _ c.loop-c.yielded_by _ _ c.in-Some.c c.in-Some.is c.next.ensures.steps in
    let large : 20 < string_len c.loop-c.text + len_utf8 c.in-Some.c = grind arith in
    fitted_no_more (chars c.args.part.now) (chars (string_bytes c.loop-c.text)) _ (length c.loop-c.yielded) c.in-Some.c (string_len c.loop-c.text) t c.loop-c.invariant.0 large c.loop-c.invariant.1

pub loop-c-preserved : goal.loop-c-preserved
loop-c-preserved c =
    let t = YieldsList-turn (YieldsList-from_chars c.args.part.now c.utf8.part cc) c.loop-c.yielded _ c.loop-c.yielded_by _ _ c.in-Some.c c.in-Some.is c.next.ensures.steps in
    let small : string_len c.loop-c.text + len_utf8 c.in-Some.c ≤ 20 = grind arith in
    let long : string_len c.push.new.self ≡ string_len c.loop-c.text + len_utf8 c.in-Some.c = c.in_ok-push.ensures.len ∙ grind arith in
    let pushed = chars_push (string_bytes c.loop-c.text) (string_bytes c.push.new.self) c.in-Some.c (IsUtf8-string_bytes c.loop-c.text) (IsUtf8-string_bytes c.push.new.self) c.in_ok-push.ensures.bytes in
    (omega arith, fitted (chars c.args.part.now) (chars (string_bytes c.loop-c.text)) (chars (string_bytes c.push.new.self)) _ (length c.loop-c.yielded) _ c.in-Some.c (string_len c.loop-c.text) (string_len c.push.new.self) t small long (length_push c.loop-c.yielded c.in-Some.c) pushed c.loop-c.invariant.1)

pub returns-clause-fitted : goal.returns-clause-fitted
returns-clause-fitted c =
    let t = YieldsList-end (YieldsList-from_chars c.args.part.now c.utf8.part cc) c.loop-c.yielded _ c.loop-c.yielded_by _ _ c.in-None.is c.next.ensures.steps in
    all_fitted (chars c.args.part.now) (chars (string_bytes c.loop-c.text)) _ (length c.loop-c.yielded) _ t.1 c.loop-c.invariant.1
