use Rattle.std.proofs.Common.{◌≡◌, replicate}
use Rattle.std.specs.String.{string_bytes}
use Rattle.traverse_names.proofs.uid_text.write_name.Given as goal

abbrev pub invariant-loop-i : goal.invariant-loop-i
invariant-loop-i l = string_bytes l.text ≡ replicate l._i 95
