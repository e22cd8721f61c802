use Rattle.std.proofs.Common.{◌≡◌, ◌≤◌, length}
use Rattle.js_literals.specs.Hashbangs.{behind_line}
use Rattle.js_literals.proofs.hashbang.behind_line.Given as goal

abbrev pub invariant-loop-bytes : goal.invariant-loop-bytes
invariant-loop-bytes l = record { same : behind_line l.bytes ≡ behind_line l.initial.bytes; within : length l.bytes ≤ length l.initial.bytes }

abbrev pub decreases-loop-bytes : goal.decreases-loop-bytes
decreases-loop-bytes l = length l.bytes
