use Rattle.std.proofs.Common.{◌≡◌, ◌++◌, take, map, string_bytes}
use Rattle.std.specs.Prelude.{codes}
use Rattle.small_tree.specs.TermOf.{pattern_term}
use Rattle.js_print.specs.Layout.{printed, wrapped, commas}
use Rattle.js_print.proofs.printer.print_parameters.Given as goal

abbrev pub invariant-loop-i : goal.invariant-loop-i
invariant-loop-i l = string_bytes l.out ≡ (string_bytes l.fn.out ++ codes "(") ++ commas (map (λ p. printed (wrapped (pattern_term p.pattern))) (take l.i l.items))
