use Rattle.std.proofs.Common.{◌++◌, ◌∙◌, ap, string_bytes}
use Rattle.js_literals.specs.Values.{added}
use Rattle.js_literals.proofs.StringValues.{none_done, escape_there, more_done, all_done, rest_utf8}
use Rattle.js_literals.proofs.strings.string_value.Goals as goal

pub loop-plain-init : goal.loop-plain-init
loop-plain-init c = record {
  utf8 = c.characters-text.utf8;
  done = none_done c.args.raw.now (string_bytes c.in_ok-value.value) c.characters-text.result.now c.requires c.in_ok-value.ensures.bytes c.characters-text.ensures;
}

pub unreachable-requires : goal.unreachable-requires
unreachable-requires c =
    escape_there c.args.raw.now (string_bytes c.loop-plain.value) c.loop-plain.text.now c.in-Some.plain.now c.in-Some.behind.now c.requires c.loop-plain.invariant.done c.in-Some.ensures c.in_default-split_escape.ensures.left

pub loop-plain-preserved : goal.loop-plain-preserved
loop-plain-preserved c = record {
  utf8 = rest_utf8 c.loop-plain.text.now c.in-Some.plain.now c.in-Some.behind.now c.in-Some-split_escape.character c.in-Some-split_escape.rest.now c.loop-plain.invariant.utf8 c.in-Some.ensures c.in-Some-split_escape.ensures.left;
  done = more_done c.args.raw.now (string_bytes c.loop-plain.value) c.loop-plain.text.now c.in-Some.plain.now c.in-Some.behind.now c.in-Some-split_escape.character c.in-Some-split_escape.rest.now (string_bytes c.push_character.new.value) c.requires c.loop-plain.invariant.done c.in-Some.ensures c.in-Some-split_escape.ensures.left (c.in_ok-push_character.ensures ∙ ap (λ z. z ++ added c.in-Some-split_escape.character) c.in_ok-push_str.ensures.bytes);
}

pub returns : goal.returns
returns c = all_done c.args.raw.now (string_bytes c.loop-plain.value) c.loop-plain.text.now (string_bytes c.push_str-2.new.self) c.requires c.loop-plain.invariant.done c.in_default.ensures c.in_ok-push_str-2.ensures.bytes
