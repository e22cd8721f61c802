use Rattle.std.proofs.Common.{length, string_bytes}
use denote.Text.{Utf8}
use denote.Shadow.{shadow}
use Rattle.js_literals.proofs.StringValues.{Done}
use Rattle.js_literals.proofs.strings.string_value.Given as goal

abbrev pub invariant-loop-plain : goal.invariant-loop-plain
invariant-loop-plain l = record { utf8 : shadow (Utf8 l.text); done : Done l.fn.raw (string_bytes l.value) l.text }

abbrev pub decreases-loop-plain : goal.decreases-loop-plain
decreases-loop-plain l = length l.text
