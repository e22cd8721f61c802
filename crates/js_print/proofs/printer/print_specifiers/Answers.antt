use Rattle.std.proofs.Common.{string_bytes, arith}
use Rattle.std.specs.Prelude.{codes}
use Rattle.small_tree.specs.TermOf.{specifier_term}
use Rattle.js_print.specs.Layout.{printed, wrapped}
use Rattle.js_print.proofs.Rows.{item_printed}
use Rattle.js_print.proofs.printer.print_specifiers.Goals as goal

pub loop-i-preserved : goal.loop-i-preserved
loop-i-preserved c =
    item_printed (codes ", ") (λ s. printed (wrapped (specifier_term s))) c.args.items.now (string_bytes c.args.out.now) (string_bytes c.loop-i.out) (string_bytes c.print_lead.new.out) (string_bytes c.print_specifier.new.out) c.loop-i.i c.index-items-i.result
    c.index-items-i.is c.loop-i.invariant (omega arith) c.in_ok-print_lead.ensures c.in_ok-print_specifier.ensures
