-- A part of a node, which may be missing.
use denote.Bor.{Bor}
use Rattle.std.specs.Prelude.{ℕ, Option, None, Some}
use Rattle.js_term.specs.Term.{Term, absent}
use Rattle.js_tree.specs.TermOf.{term}
use Rattle.js_tree.specs.declared.node.Node.{Node, size-Node}

abbrev pub term_in : Option (Bor Node) → Term
term_in None = absent
term_in (Some n) = term n.now

abbrev pub size_in : Option (Bor Node) → ℕ
size_in None = 0
size_in (Some n) = size-Node n.now
