use Rattle.std.proofs.Common.{◌≡◌, ◌+◌, drop, map}
use Rattle.js_term.specs.Term.{all}
use Rattle.js_tree.specs.TermOf.{term}
use Rattle.print_layout.specs.Rows.{outside}
use Rattle.tree_printer.proofs.imports.outside.Given as goal

abbrev pub invariant-loop-j : goal.invariant-loop-j
invariant-loop-j l = l.j + outside (all (map term (drop l.j l.items))) ≡ outside (all (map term l.items))
