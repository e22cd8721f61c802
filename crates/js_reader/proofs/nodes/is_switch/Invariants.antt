use Rattle.std.proofs.Common.{◌≡◌, ◌+◌, map, drop, cond, nat_le}
use Rattle.js_term.specs.Term.{all}
use Rattle.js_syntax.specs.Parts.{count_if}
use Rattle.js_syntax.specs.Printable.{is_default}
use Rattle.js_tree.specs.TermOf.{term}
use Rattle.js_reader.proofs.nodes.is_switch.Given as goal

-- what was found and the cases that are left decide what all cases decide
abbrev pub invariant-loop-case : goal.invariant-loop-case
invariant-loop-case l = nat_le (count_if is_default (all (map term l.cases))) 1 ≡ nat_le (cond l.found 1 0 + count_if is_default (all (map term (drop l.case-index l.cases)))) 1
