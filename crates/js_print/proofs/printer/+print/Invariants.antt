use Rattle.std.proofs.Common.{◌≡◌, ◌++◌, take, map, string_bytes}
use Rattle.std.specs.Prelude.{codes}
use Rattle.small_tree.specs.TermOf.{expression_term, statement_term, declarator_term, property_term}
use Rattle.js_print.specs.Layout.{printed, wrapped, commas, separated, at_level}
use Rattle.js_print.proofs.printer.+print.Given as goal

abbrev pub invariant-print_declarators-loop-i : goal.invariant-print_declarators-loop-i
invariant-print_declarators-loop-i l = string_bytes l.out ≡ string_bytes l.fn.out ++ commas (map (λ d. printed (wrapped (declarator_term d))) (take l.i l.items))

abbrev pub invariant-print_statements-loop-i : goal.invariant-print_statements-loop-i
invariant-print_statements-loop-i l = string_bytes l.out ≡ (string_bytes l.fn.out ++ codes "{ ") ++ separated (codes " ") (map (λ s. printed (wrapped (statement_term s))) (take l.i l.items))

abbrev pub invariant-print_expressions-loop-i : goal.invariant-print_expressions-loop-i
invariant-print_expressions-loop-i l = string_bytes l.out ≡ string_bytes l.fn.out ++ commas (map (λ e. at_level 2 (expression_term e)) (take l.i l.items))

abbrev pub invariant-print_properties-loop-i : goal.invariant-print_properties-loop-i
invariant-print_properties-loop-i l = string_bytes l.out ≡ (string_bytes l.fn.out ++ codes "{ ") ++ commas (map (λ p. printed (wrapped (property_term expression_term p))) (take l.i l.items))
