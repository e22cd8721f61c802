use Rattle.std.proofs.Common.{◌≡◌}
use Rattle.js_term.specs.declared.kind.Kind.TheVariants.{ImportSpecifier}
use Rattle.js_syntax.specs.Parts.{parts_of, each, is_node}
use Rattle.js_rules.specs.Seen.{from}
use Rattle.js_rules.proofs.sentences.are_named.Given as goal

-- what the specifiers that are left decide is what all of them decide
abbrev pub invariant-loop-n : goal.invariant-loop-n
invariant-loop-n g l = let ts = parts_of (g.V.View.term l.specifiers) in each (is_node ImportSpecifier) (from l.n ts) ≡ each (is_node ImportSpecifier) (from l.start ts)
