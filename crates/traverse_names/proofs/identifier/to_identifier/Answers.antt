use Rattle.std.proofs.Common.{◌≡◌, ◌<◌, ◌++◌, false, length, arith, sym, ap, ◌∙◌}
use Rattle.std.specs.Str.{chars}
use Rattle.std.specs.String.{string_bytes}
use Rattle.std.proofs.lemmas.Bool.Decides.{nat_tests}
use Rattle.std.proofs.lemmas.Result.{IfOk-weaker}
use Rattle.std.proofs.lemmas.Str.{IsUtf8-string_bytes, chars-nil}
use Rattle.js_chars.specs.Names.{is_identifier_name}
use Rattle.traverse_names.specs.Identifier.{kept_characters, identifier_of}
use Rattle.traverse_names.proofs.Characters.{no_chars, some_chars, chars-underscore}
use Rattle.traverse_names.proofs.Parts.{identifier_made, underscore_made}
use Rattle.traverse_names.proofs.identifier.to_identifier.Goals as goal

pub returns-then-is_empty : goal.returns-then-is_empty
returns-then-is_empty c =
    let input = chars (string_bytes c.args.input) in
    let kept = chars (string_bytes c.push_kept.new.text) in
    let other : false ≡ is_identifier_name input = sym c.if-is_identifier_name.false ∙ c.is_identifier_name.ensures ∙ ap (λ b. is_identifier_name (chars b)) c.as_str.ensures.value in
    let is : kept ≡ kept_characters input = c.in_ok-push_kept.ensures ∙ ap (λ b. chars b ++ kept_characters (chars c.as_str-2.result.now)) c.new-text.ensures.bytes ∙ ap (λ x. x ++ kept_characters (chars c.as_str-2.result.now)) chars-nil ∙ ap (λ b. kept_characters (chars b)) c.as_str-2.ensures.value in
    let empty : length (string_bytes c.push_kept.new.text) ≡ 0 = grind (arith, nat_tests) in
    let made = underscore_made input kept other is (no_chars (string_bytes c.push_kept.new.text) empty) in
    IfOk-weaker c.from_str.result _ (λ text. chars (string_bytes text) ≡ identifier_of input) (λ text e. ap chars e ∙ chars-underscore ∙ made) c.from_str.ensures.ok

pub returns : goal.returns
returns c =
    let input = chars (string_bytes c.args.input) in
    let kept = chars (string_bytes c.push_kept.new.text) in
    let other : false ≡ is_identifier_name input = sym c.if-is_identifier_name.false ∙ c.is_identifier_name.ensures ∙ ap (λ b. is_identifier_name (chars b)) c.as_str.ensures.value in
    let is : kept ≡ kept_characters input = c.in_ok-push_kept.ensures ∙ ap (λ b. chars b ++ kept_characters (chars c.as_str-2.result.now)) c.new-text.ensures.bytes ∙ ap (λ x. x ++ kept_characters (chars c.as_str-2.result.now)) chars-nil ∙ ap (λ b. kept_characters (chars b)) c.as_str-2.ensures.value in
    let some : 0 < length (string_bytes c.push_kept.new.text) = grind (arith, nat_tests) in
    identifier_made input kept other is (some_chars (string_bytes c.push_kept.new.text) (IsUtf8-string_bytes c.push_kept.new.text) some)
