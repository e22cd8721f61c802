use Rattle.std.proofs.Common.{◌≡◌, ◌+◌, ◌≤◌}
use Rattle.js_syntax.specs.Parts.{parts_of, count_if}
use Rattle.js_syntax.specs.ModuleTree.{is_constructor}
use Rattle.js_rules.specs.Seen.{from}
use Rattle.js_rules.proofs.initializers.has_one_constructor.Given as goal

-- what was counted so far, and what is left
abbrev pub invariant-loop-n : goal.invariant-loop-n
invariant-loop-n g l = let ts = parts_of (g.V.View.term l.elements) in (count_if is_constructor ts ≡ l.number + count_if is_constructor (from l.n ts)) × (l.number ≤ l.n)
