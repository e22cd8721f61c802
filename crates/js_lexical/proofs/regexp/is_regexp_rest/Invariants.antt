use Rattle.std.proofs.Common.{◌≡◌, false, length}
use Rattle.js_syntax.specs.Lexical.{is_regexp_rest}
use Rattle.js_lexical.proofs.regexp.is_regexp_rest.Given as goal

abbrev pub invariant-loop-bytes : goal.invariant-loop-bytes
invariant-loop-bytes l = is_regexp_rest l.in_class l.bytes ≡ is_regexp_rest false l.initial.bytes

abbrev pub decreases-loop-bytes : goal.decreases-loop-bytes
decreases-loop-bytes l = length l.bytes
