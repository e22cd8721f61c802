use Rattle.std.proofs.Common.{◌≡◌, length}
use Rattle.js_syntax.specs.Lexical.{are_template_characters}
use Rattle.js_lexical.proofs.template.are_template_characters.Given as goal

abbrev pub invariant-loop-bytes : goal.invariant-loop-bytes
invariant-loop-bytes l = are_template_characters l.bytes ≡ are_template_characters l.initial.bytes

abbrev pub decreases-loop-bytes : goal.decreases-loop-bytes
decreases-loop-bytes l = length l.bytes
