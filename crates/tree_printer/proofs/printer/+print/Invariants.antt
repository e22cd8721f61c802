use Rattle.std.proofs.Common.{◌≡◌, ◌+◌, ◌*◌, ◌++◌, string_bytes, map, drop}
use denote.Param.Weighed.{most}
use Rattle.js_tree.specs.declared.node.Node.{size-Node}
use Rattle.print_layout.specs.Layout.{spread, separated, template}
use Rattle.tree_printer.specs.Pieces.{pieces_of}
use Rattle.tree_printer.specs.Printed.{item_text, parts}
use Rattle.tree_printer.proofs.Steps.{onward}
use Rattle.tree_printer.proofs.printer.+print.Given as goal

abbrev pub decreases-print_part : goal.decreases-print_part
decreases-print_part l = 6 * size-Node l.n.now + 3

abbrev pub decreases-print_row : goal.decreases-print_row
decreases-print_row l = 6 * size-Node l.n.now + 2

abbrev pub decreases-print_piece : goal.decreases-print_piece
decreases-print_piece l = 6 * size-Node l.n.now + 1

abbrev pub decreases-print_template : goal.decreases-print_template
decreases-print_template l = 6 * size-Node l.n.now

abbrev pub decreases-print_items : goal.decreases-print_items
decreases-print_items l = 6 * most size-Node l.items.now + 5

abbrev pub decreases-print_item : goal.decreases-print_item
decreases-print_item l = 6 * size-Node l.item.now + 4

abbrev pub invariant-print_row-loop-piece : goal.invariant-print_row-loop-piece
invariant-print_row-loop-piece l = string_bytes l.out ++ spread (pieces_of (drop l.piece-index l.pieces)) (parts l.fn.i l.fn.kind l.fn.n) ≡ string_bytes l.fn.out ++ spread (pieces_of l.pieces) (parts l.fn.i l.fn.kind l.fn.n)

abbrev pub invariant-print_items-loop-j : goal.invariant-print_items-loop-j
invariant-print_items-loop-j l = string_bytes l.out ++ onward l.j l.separator (map (item_text l.i l.kind l.n l.k) (drop l.j l.items)) ≡ string_bytes l.fn.out ++ separated l.separator (map (item_text l.i l.kind l.n l.k) l.items)

abbrev pub invariant-print_template-loop-j : goal.invariant-print_template-loop-j
invariant-print_template-loop-j l = string_bytes l.out ++ template (map (item_text l.i l.kind l.n l.m) (drop l.j l.quasis)) (map (item_text l.i l.kind l.n l.k) (drop l.j l.expressions)) ≡ string_bytes l.fn.out ++ template (map (item_text l.i l.kind l.n l.m) l.quasis) (map (item_text l.i l.kind l.n l.k) l.expressions)
