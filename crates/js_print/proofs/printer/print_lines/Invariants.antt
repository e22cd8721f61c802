use Rattle.std.proofs.Common.{◌≡◌, ◌++◌, map, length, string_bytes}
use Rattle.std.specs.Vec.Iter.{into_iter_items, into_iter_len}
use Rattle.small_tree.specs.TermOf.{statement_term}
use Rattle.js_print.specs.Layout.{printed, wrapped, lines}
use Rattle.js_print.proofs.printer.print_lines.Given as goal

-- what is written and what is still to be written is what is wanted
abbrev pub invariant-loop-one : goal.invariant-loop-one
invariant-loop-one l = record {
  len : into_iter_len l.one-iterator ≡ length (into_iter_items l.one-iterator);
  text : string_bytes l.out ++ lines (map (λ s. printed (wrapped (statement_term s))) (into_iter_items l.one-iterator)) ≡ string_bytes l.fn.out ++ lines (map (λ s. printed (wrapped (statement_term s))) l.fn.items);
}
