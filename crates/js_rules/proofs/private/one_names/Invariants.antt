use Rattle.std.proofs.Common.{◌≡◌}
use Rattle.js_term.specs.Lexeme.{is_one_of}
use Rattle.js_syntax.specs.Parts.{parts_of}
use Rattle.js_syntax.specs.ModuleTree.{private_names}
use Rattle.js_rules.specs.Seen.{from}
use Rattle.js_rules.proofs.private.one_names.Given as goal

-- what the elements that are left declare is what all of them declare
abbrev pub invariant-loop-n : goal.invariant-loop-n
invariant-loop-n g l = let ts = parts_of (g.V.View.term l.elements) in is_one_of l.name (private_names (from l.n ts)) ≡ is_one_of l.name (private_names ts)
