use Rattle.std.proofs.Common.{◌≡◌, ◌≤◌, length, ◌+◌}
use Rattle.std.specs.Str.{chars, IsUtf8}
use Rattle.std.specs.Str.Iter.{char_indices_rest, char_indices_offset}
use Rattle.js_pattern.specs.Scan.{run, scan}
use Rattle.js_pattern.proofs.pattern.scan.Given as goal

abbrev pub invariant-loop-at : goal.invariant-loop-at
invariant-loop-at l = record {
  can : (goal.iterator-loop-at).can_next l.rest;
  ends : (goal.iterator-loop-at).is_finite l.rest;
  utf8 : IsUtf8 (char_indices_rest l.rest);
  place : char_indices_offset l.rest + length (char_indices_rest l.rest) ≡ length l.text;
  groups : l.scanner.groups ≤ char_indices_offset l.rest;
  classes : l.scanner.classes ≤ char_indices_offset l.rest;
  same : run l.mode (chars (char_indices_rest l.rest)) l.scanner ≡ scan l.mode (chars l.text);
}
