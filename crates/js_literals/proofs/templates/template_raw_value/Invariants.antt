use Rattle.std.proofs.Common.{length, string_bytes}
use denote.Text.{Utf8}
use denote.Shadow.{shadow}
use Rattle.js_literals.proofs.Lines.{Normal}
use Rattle.js_literals.proofs.templates.template_raw_value.Given as goal

abbrev pub invariant-loop-line : goal.invariant-loop-line
invariant-loop-line l = record { utf8 : shadow (Utf8 l.text); done : Normal l.fn.characters (string_bytes l.value) l.text }

abbrev pub decreases-loop-line : goal.decreases-loop-line
decreases-loop-line l = length l.text
