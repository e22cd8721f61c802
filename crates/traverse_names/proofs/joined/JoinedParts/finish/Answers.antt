use Rattle.std.proofs.Common.{◌≡◌, ◌<◌, [], length, arith, sym, ap, ◌∙◌}
use Rattle.std.specs.Str.{chars}
use Rattle.std.specs.String.{string_bytes}
use Rattle.std.proofs.lemmas.Bool.Decides.{nat_tests}
use Rattle.std.proofs.lemmas.Result.{IfOk-weaker}
use Rattle.std.proofs.lemmas.Str.{IsUtf8-string_bytes}
use Rattle.traverse_names.specs.Identifier.{finished}
use Rattle.traverse_names.proofs.Characters.{no_chars, some_chars, chars-ref}
use Rattle.traverse_names.proofs.Parts.{finished_some}
use Rattle.traverse_names.proofs.joined.JoinedParts.finish.Goals as goal

pub returns-then-is_empty : goal.returns-then-is_empty
returns-then-is_empty c =
    let text = c.self.inside.text in
    let empty : length (string_bytes text) ≡ 0 = grind (arith, nat_tests) in
    let none : chars (string_bytes text) ≡ [] = no_chars (string_bytes text) empty in
    IfOk-weaker c.from_str.result _ (λ name. chars (string_bytes name) ≡ finished c.args.self) (λ name e. ap chars e ∙ chars-ref ∙ ap finished (sym none ∙ c.self.view_is)) c.from_str.ensures.ok

pub returns : goal.returns
returns c =
    let text = c.self.inside.text in
    let some : 0 < length (string_bytes text) = grind (arith, nat_tests) in
    let named = finished_some (chars (string_bytes text)) (some_chars (string_bytes text) (IsUtf8-string_bytes text) some) in
    IfOk-weaker c.to_identifier.result _ (λ name. chars (string_bytes name) ≡ finished c.args.self) (λ name e. e ∙ named ∙ ap finished c.self.view_is) c.to_identifier.ensures
