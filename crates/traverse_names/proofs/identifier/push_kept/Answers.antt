use Rattle.std.proofs.Common.{◌≡◌, ◌++◌, sym, ◌∙◌}
use Rattle.std.specs.Char.{encode_utf8}
use Rattle.std.specs.Str.{chars}
use Rattle.std.specs.String.{string_bytes}
use Rattle.std.proofs.lemmas.Result.{on_ok_weaker}
use Rattle.std.proofs.lemmas.Str.{IsUtf8-string_bytes, chars_past_char}
use Rattle.traverse_names.proofs.Characters.{chars_push}
use Rattle.traverse_names.proofs.Parts.{first_kept, first_dropped}
use Rattle.traverse_names.proofs.identifier.push_kept.Goals as goal

pub returns-then-is_identifier_start : goal.returns-then-is_identifier_start
returns-then-is_identifier_start c =
    let old = string_bytes c.args.text.now in
    let after = string_bytes c.push.new.self in
    let rest = c.as_str.result.now in
    let first = c.in-Some.first in
    let step : c.chars-rest.result.rest.now ≡ encode_utf8 first ++ c.next.new.self.rest.now = c.in-Some.ensures.steps.0 in
    let front : c.args.input.now ≡ encode_utf8 first ++ rest = cc in
    let split = chars_past_char c.args.input.now rest first c.utf8.input front in
    let pushed = chars_push old after first (IsUtf8-string_bytes c.args.text.now) (IsUtf8-string_bytes c.push.new.self) c.in_ok-push.ensures.bytes in
    on_ok_weaker c.push_parts.result
    (first_kept (chars old) (chars after) (chars (string_bytes c.push_parts.new.text)) (chars c.args.input.now) (chars rest) first split (sym c.if-is_identifier_start.true ∙ c.is_identifier_start.ensures) pushed)
    c.push_parts.ensures

pub returns : goal.returns
returns c =
    let rest = c.as_str-2.result.now in
    let first = c.in-Some.first in
    let step : c.chars-rest.result.rest.now ≡ encode_utf8 first ++ c.next.new.self.rest.now = c.in-Some.ensures.steps.0 in
    let front : c.args.input.now ≡ encode_utf8 first ++ rest = cc in
    let split = chars_past_char c.args.input.now rest first c.utf8.input front in
    on_ok_weaker c.push_parts-2.result
    (first_dropped (chars (string_bytes c.args.text.now)) (chars (string_bytes c.push_parts-2.new.text)) (chars c.args.input.now) (chars rest) first split (sym c.if-is_identifier_start.false ∙ c.is_identifier_start.ensures))
    c.push_parts-2.ensures
