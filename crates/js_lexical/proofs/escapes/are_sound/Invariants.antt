use Rattle.std.proofs.Common.{◌≡◌, length}
use Rattle.js_syntax.specs.Lexical.{has_sound_escapes}
use Rattle.js_lexical.proofs.escapes.are_sound.Given as goal

abbrev pub invariant-loop-bytes : goal.invariant-loop-bytes
invariant-loop-bytes l = has_sound_escapes l.bytes ≡ has_sound_escapes l.initial.bytes

abbrev pub decreases-loop-bytes : goal.decreases-loop-bytes
decreases-loop-bytes l = length l.bytes
