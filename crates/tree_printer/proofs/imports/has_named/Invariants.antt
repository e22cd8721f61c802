use Rattle.std.proofs.Common.{◌≡◌, drop, map}
use Rattle.js_term.specs.Term.{all}
use Rattle.js_tree.specs.TermOf.{term}
use Rattle.print_layout.specs.Rows.{has_named}
use Rattle.tree_printer.proofs.imports.has_named.Given as goal

abbrev pub invariant-loop-j : goal.invariant-loop-j
invariant-loop-j l = has_named (all (map term (drop l.j l.items))) ≡ has_named (all (map term l.items))
