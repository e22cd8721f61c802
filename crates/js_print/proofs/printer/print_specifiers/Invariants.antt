use Rattle.std.proofs.Common.{◌≡◌, ◌++◌, take, map, string_bytes}
use Rattle.small_tree.specs.TermOf.{specifier_term}
use Rattle.js_print.specs.Layout.{printed, wrapped, commas}
use Rattle.js_print.proofs.printer.print_specifiers.Given as goal

abbrev pub invariant-loop-i : goal.invariant-loop-i
invariant-loop-i l = string_bytes l.out ≡ string_bytes l.fn.out ++ commas (map (λ s. printed (wrapped (specifier_term s))) (take l.i l.items))
