-- The term of a part that rules look at.
use denote.Bor.{Bor}
use Rattle.std.specs.Prelude.{Option, None, Some}
use Rattle.js_term.specs.Term.{Term, absent}
use Rattle.js_tree.specs.TermOf.{term}
use Rattle.js_tree.specs.declared.node.Node.{Node}
use Rattle.module_tree.specs.declared.view.TreePart.{TreePart}

abbrev pub term_in : Option (Bor Node) → Term
term_in None = absent
term_in (Some n) = term n.now

abbrev pub part_term : TreePart → Term
part_term p = term_in p.0
