use Rattle.std.proofs.Common.{◌≡◌, ◌+◌, ◌-◌, ◌<◌, ◌≤◌, ◌++◌, ◌∷◌, [], length, arith, sym, ap, ◌∙◌}
use Rattle.std.specs.Str.{chars}
use Rattle.std.specs.String.{string_bytes, string_len}
use Rattle.std.proofs.lemmas.Bool.Decides.{nat_tests}
use Rattle.std.proofs.lemmas.List.{append_assoc}
use Rattle.std.proofs.lemmas.Result.{on_ok_weaker}
use Rattle.std.proofs.lemmas.Str.{IsUtf8-string_bytes}
use Rattle.traverse_names.specs.Identifier.{size, fitting, joined}
use Rattle.traverse_names.proofs.Characters.{no_chars, some_chars, size-chars, chars_push}
use Rattle.traverse_names.proofs.Parts.{joined_more, joined_full}
use Rattle.traverse_names.proofs.joined.JoinedParts.push.Goals as goal

pub returns-then-is_empty : goal.returns-then-is_empty
returns-then-is_empty c =
    let text = c.self.inside.text in
    let empty : length (string_bytes text) ≡ 0 = grind (arith, nat_tests) in
    let none : chars (string_bytes text) ≡ [] = no_chars (string_bytes text) empty in
    let no_length : string_len text ≡ 0 = grind (arith, nat_tests) in
    on_ok_weaker c.push_fitting.result (λ done.
    done ∙ ap (λ x. x ++ fitting (20 - string_len text) (chars c.skip_underscores.result.now)) none
    ∙ ap (λ n. fitting (20 - n) (chars c.skip_underscores.result.now)) no_length
    ∙ ap (fitting 20) c.skip_underscores.ensures
    ∙ ap (λ old. joined old (chars c.args.part.now)) (sym none ∙ c.self.view_is)) c.push_fitting.ensures.fitted

pub returns-then-len-ge-LIMIT : goal.returns-then-len-ge-LIMIT
returns-then-len-ge-LIMIT c =
    let text = c.self.inside.text in
    let some : 0 < length (string_bytes text) = grind (arith, nat_tests) in
    let long = size-chars (string_bytes text) (IsUtf8-string_bytes text) in
    let full : 20 ≤ size (chars (string_bytes text)) = grind arith in
    sym (ap (λ old. joined old (chars c.args.part.now)) (sym c.self.view_is) ∙ joined_full (chars (string_bytes text)) (chars c.args.part.now) (some_chars (string_bytes text) (IsUtf8-string_bytes text) some) full ∙ c.self.view_is)

pub returns : goal.returns
returns c =
    let text = c.self.inside.text in
    let part = chars c.args.part.now in
    let some : 0 < length (string_bytes text) = grind (arith, nat_tests) in
    let long = size-chars (string_bytes text) (IsUtf8-string_bytes text) in
    let small : size (chars (string_bytes text)) < 20 = grind arith in
    let now : string_len c.push.new.self ≡ size (chars (string_bytes text)) + 1 = grind arith in
    let pushed = chars_push (string_bytes text) (string_bytes c.push.new.self) 36 (IsUtf8-string_bytes text) (IsUtf8-string_bytes c.push.new.self) c.in_ok-push.ensures.bytes in
    on_ok_weaker c.push_fitting-2.result (λ done.
    done ∙ ap (λ n. chars (string_bytes c.push.new.self) ++ fitting (20 - n) part) now
    ∙ ap (λ x. x ++ fitting (20 - (size (chars (string_bytes text)) + 1)) part) pushed
    ∙ append_assoc (chars (string_bytes text)) (36 ∷ []) (fitting (20 - (size (chars (string_bytes text)) + 1)) part)
    ∙ sym (joined_more (chars (string_bytes text)) part (some_chars (string_bytes text) (IsUtf8-string_bytes text) some) small)
    ∙ ap (λ old. joined old part) c.self.view_is) c.push_fitting-2.ensures.fitted
