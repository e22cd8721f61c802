use Rattle.std.proofs.Common.{◌≡◌, ◌∷◌, ◌++◌, string_bytes}
use Rattle.std.specs.Str.{encode_utf8_all}
use Rattle.print_layout.specs.Rows.{all_escaped}
use Rattle.tree_printer.proofs.strings.print_string.Given as goal

abbrev pub invariant-loop-c : goal.invariant-loop-c
invariant-loop-c l = string_bytes l.out ≡ string_bytes l.fn.out ++ 39 ∷ all_escaped (encode_utf8_all l.yielded)
