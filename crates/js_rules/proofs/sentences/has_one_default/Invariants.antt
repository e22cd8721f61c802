use Rattle.std.proofs.Common.{◌≡◌, ◌+◌, ◌≤◌}
use Rattle.js_syntax.specs.Parts.{parts_of, count_if}
use Rattle.js_syntax.specs.Printable.{is_default}
use Rattle.js_rules.specs.Seen.{from}
use Rattle.js_rules.proofs.sentences.has_one_default.Given as goal

-- what was counted so far, and what is left
abbrev pub invariant-loop-n : goal.invariant-loop-n
invariant-loop-n g l = let ts = parts_of (g.V.View.term l.cases) in (count_if is_default ts ≡ l.number + count_if is_default (from l.n ts)) × (l.number ≤ l.n)
