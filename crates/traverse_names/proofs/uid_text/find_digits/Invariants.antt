use Rattle.std.proofs.Common.{ℕ, ◌≤◌, ◌<◌, length, get_or}
use Rattle.std.specs.Int.{IsInRange}
use Rattle.traverse_names.proofs.uid_text.find_digits.Given as goal

abbrev pub invariant-loop-end : goal.invariant-loop-end
invariant-loop-end l = (l.end ≤ length l.rest) × ((k : ℕ) → l.end ≤ k → k < length l.rest → IsInRange 48 57 (get_or l.rest k 0))

abbrev pub decreases-loop-end : goal.decreases-loop-end
decreases-loop-end l = l.end
