use Rattle.std.proofs.Common.{◌≡◌, ◌++◌, length, drop}
use Rattle.std.specs.Str.{chars}
use Rattle.std.specs.String.{string_bytes}
use Rattle.traverse_names.specs.Identifier.{kept_parts}
use Rattle.traverse_names.proofs.identifier.push_parts.Given as goal

abbrev pub invariant-loop-c : goal.invariant-loop-c
invariant-loop-c l =
    chars (string_bytes l.text) ++ kept_parts l.dropped (drop (length l.yielded) (chars l.rest)) ≡ chars (string_bytes l.initial.text) ++ kept_parts l.initial.dropped (chars l.rest)
