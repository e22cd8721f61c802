use Rattle.std.proofs.Common.{◌≡◌, ◌++◌, ◌-◌, ◌≤◌, length, drop}
use Rattle.std.specs.Str.{chars}
use Rattle.std.specs.String.{string_bytes, string_len}
use Rattle.traverse_names.specs.Identifier.{fitting}
use Rattle.traverse_names.proofs.joined.push_fitting.Given as goal

abbrev pub invariant-loop-c : goal.invariant-loop-c
invariant-loop-c l =
    (string_len l.text ≤ 20)
    × (chars (string_bytes l.text) ++ fitting (20 - string_len l.text) (drop (length l.yielded) (chars l.part)) ≡ chars (string_bytes l.initial.text) ++ fitting (20 - string_len l.initial.text) (chars l.part))
