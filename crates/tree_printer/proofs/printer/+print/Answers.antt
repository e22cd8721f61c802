use Rattle.std.proofs.Common.{rules, ◌≡◌, ◌++◌, ◌∙◌, ◌+◌, ◌*◌, ◌<◌, OnOk, string_bytes, refl, not, ◌&&◌, ◌||◌, sym, ap, subst, arith, map}
use Rattle.std.proofs.lemmas.List.{append-nil}
use Rattle.std.specs.Prelude.{codes}
use Rattle.js_term.specs.Term.{flag}
use denote.Param.Weighed.{most}
use Rattle.js_tree.specs.TermOf.{term}
use Rattle.js_tree.specs.declared.node.Node.{size-Node}
use Rattle.js_tree.proofs.PartLaws.{kid_is_smaller}
use Rattle.print_layout.specs.Needs.{needs, is_in}
use Rattle.print_layout.specs.Layout.{in_parentheses, is_method_part, spread, template}
use Rattle.tree_printer.specs.declared.piece.Piece.{Piece}
use Rattle.tree_printer.specs.Pieces.{pieces_of, said}
use Rattle.tree_printer.specs.Printed.{item_text, parts}
use Rattle.tree_printer.proofs.Parts.{shown_part, part_is_not, each_listed, heads_listed, past_listed, woven_listed, shown_node, shown_absent, shown_list, listed_falls, heads_within, past_within, item_within}
use Rattle.tree_printer.proofs.Steps.{in_signs, lone_quasi, no_quasi}
use Rattle.tree_printer.proofs.printer.+print.Goals as goal

pub print_piece-print_part-requires : goal.print_piece-print_part-requires
print_piece-print_part-requires t c =
    let smaller = kid_is_smaller c.args.n.now c.in-Part.k c.in-Some.part.now (sym c.in-Some.ensures) in
    let falls : 6 * size-Node c.in-Some.part.now + 3 < 6 * size-Node c.args.n.now + 1 = omega (arith, smaller) in
    search rules

pub print_piece-print_items-requires : goal.print_piece-print_items-requires
print_piece-print_items-requires t c =
    let smaller = listed_falls c.args.n.now c.in-Each.k c.listed.result.now c.listed.ensures in
    let falls : 6 * most size-Node c.listed.result.now + 5 < 6 * size-Node c.args.n.now + 1 = omega (arith, smaller) in
    search rules

pub print_piece-print_items-requires-in-Heads : goal.print_piece-print_items-requires-in-Heads
print_piece-print_items-requires-in-Heads t c =
    let smaller = listed_falls c.args.n.now c.in-Heads.k c.listed-in-Heads.result.now c.listed-in-Heads.ensures in
    let fewer = ap (most size-Node) c.heads.ensures in
    let within = heads_within c.in-Heads.m c.listed-in-Heads.result.now in
    let falls : 6 * most size-Node c.heads.result.now + 5 < 6 * size-Node c.args.n.now + 1 = omega (arith, smaller, fewer, within) in
    search rules

pub print_piece-print_items-requires-in-Past : goal.print_piece-print_items-requires-in-Past
print_piece-print_items-requires-in-Past t c =
    let smaller = listed_falls c.args.n.now c.in-Past.k c.listed-in-Past.result.now c.listed-in-Past.ensures in
    let fewer = ap (most size-Node) c.past.ensures in
    let within = past_within c.in-Past.m c.listed-in-Past.result.now in
    let falls : 6 * most size-Node c.past.result.now + 5 < 6 * size-Node c.args.n.now + 1 = omega (arith, smaller, fewer, within) in
    search rules

pub print_template-print_item-requires : goal.print_template-print_item-requires
print_template-print_item-requires t c =
    let smaller = listed_falls c.args.n.now c.args.m c.listed-quasis.result.now c.listed-quasis.ensures in
    let within = item_within c.listed-quasis.result.now c.loop-j.j c.index-quasis-j.result c.loop-j-test.true c.index-quasis-j.is in
    let falls : 6 * size-Node c.index-quasis-j.result + 4 < 6 * size-Node c.args.n.now = omega (arith, smaller, within) in
    search rules

pub print_template-print_item-requires-in-loop-j : goal.print_template-print_item-requires-in-loop-j
print_template-print_item-requires-in-loop-j t c =
    let smaller = listed_falls c.args.n.now c.args.k c.listed-expressions.result.now c.listed-expressions.ensures in
    let within = item_within c.listed-expressions.result.now c.loop-j.j c.index-expressions-j.result (omega arith) c.index-expressions-j.is in
    let falls : 6 * size-Node c.index-expressions-j.result + 4 < 6 * size-Node c.args.n.now = omega (arith, smaller, within) in
    search rules

pub print_part-returns-in-Absent : goal.print_part-returns-in-Absent
print_part-returns-in-Absent t c =
    sym (ap (λ x. string_bytes c.args.out.now ++ x) (shown_absent c.args.method c.args.i c.args.held c.args.n.now (sym c.in-Absent.ensures)) ∙ append-nil (string_bytes c.args.out.now))

pub print_part-returns-in-List : goal.print_part-returns-in-List
print_part-returns-in-List t c =
    sym (ap (λ x. string_bytes c.args.out.now ++ x) (shown_list c.args.method c.args.i c.args.held c.args.n.now (sym c.in-List.ensures)) ∙ append-nil (string_bytes c.args.out.now))

pub print_piece-returns-in-None : goal.print_piece-returns-in-None
print_piece-returns-in-None t c =
    let is = ap (λ (p : Piece). said p (parts c.args.i c.args.kind c.args.n.now)) c.in-Part.is in
    sym (ap (λ x. string_bytes c.args.out.now ++ x) (is ∙ ap (λ r. r.whole) (part_is_not c.args.i c.args.kind c.args.n.now c.in-Part.k (sym c.in-None.ensures))) ∙ append-nil (string_bytes c.args.out.now))

pub print_piece-returns-in-Some : goal.print_piece-returns-in-Some
print_piece-returns-in-Some t c =
    let is = ap (λ (p : Piece). said p (parts c.args.i c.args.kind c.args.n.now)) c.in-Part.is in
    let whole = shown_part c.args.i c.args.kind c.args.n.now c.in-Part.k c.in-Some.part.now c.is_method_part.result c.inside.result c.needs.result (sym c.in-Some.ensures)
    (c.is_method_part.ensures ∙ ap (λ ts. is_method_part c.args.kind ts c.in-Part.k) c.texts.ensures.seen)
    c.inside.ensures
    (c.needs.ensures ∙ ap (λ ts. needs c.args.kind ts c.in-Part.k (term c.in-Some.part.now)) c.texts-in-Some.ensures.seen) in
    subst (λ x. OnOk c.print_part.result (string_bytes c.print_part.new.out ≡ string_bytes c.args.out.now ++ x)) (whole ∙ sym is) c.print_part.ensures

pub print_piece-returns-in-Each : goal.print_piece-returns-in-Each
print_piece-returns-in-Each t c =
    let is = ap (λ (p : Piece). said p (parts c.args.i c.args.kind c.args.n.now)) c.in-Each.is in
    subst (λ x. OnOk c.print_items.result (string_bytes c.print_items.new.out ≡ string_bytes c.args.out.now ++ x)) (each_listed c.args.i c.args.kind c.args.n.now c.in-Each.k c.in-Each.separator.now c.listed.result.now c.listed.ensures ∙ sym is) c.print_items.ensures

pub print_piece-returns-in-Heads : goal.print_piece-returns-in-Heads
print_piece-returns-in-Heads t c =
    let is = ap (λ (p : Piece). said p (parts c.args.i c.args.kind c.args.n.now)) c.in-Heads.is in
    subst (λ x. OnOk c.print_items-in-Heads.result (string_bytes c.print_items-in-Heads.new.out ≡ string_bytes c.args.out.now ++ x)) (heads_listed c.args.i c.args.kind c.args.n.now c.in-Heads.k c.in-Heads.m c.in-Heads.separator.now c.listed-in-Heads.result.now c.heads.result.now c.listed-in-Heads.ensures c.heads.ensures ∙ sym is) c.print_items-in-Heads.ensures

pub print_piece-returns-in-Past : goal.print_piece-returns-in-Past
print_piece-returns-in-Past t c =
    let is = ap (λ (p : Piece). said p (parts c.args.i c.args.kind c.args.n.now)) c.in-Past.is in
    subst (λ x. OnOk c.print_items-in-Past.result (string_bytes c.print_items-in-Past.new.out ≡ string_bytes c.args.out.now ++ x)) (past_listed c.args.i c.args.kind c.args.n.now c.in-Past.k c.in-Past.m c.in-Past.separator.now c.listed-in-Past.result.now c.past.result.now c.listed-in-Past.ensures c.past.ensures ∙ sym is) c.print_items-in-Past.ensures

pub print_part-returns-in_ok-print_row-in-Node : goal.print_part-returns-in_ok-print_row-in-Node
print_part-returns-in_ok-print_row-in-Node t c =
    let held = c.is_parenthesized-parenthesized.result in
    let bare = c.allows_in-bare.result in
    let n = c.args.n.now in
    let written = in_signs held (string_bytes c.args.out.now) (string_bytes c.push_if.new.out) (string_bytes c.print_row.new.out) (string_bytes c.print_row.new.out ++ flag held (codes ")")) (spread (pieces_of c.row_as-pieces.result) (parts bare c.in-Node.kind n)) c.in_ok-push_if-in-Node.ensures c.in_ok-print_row-in-Node.ensures refl in
    let asked = c.is_parenthesized-parenthesized.ensures ∙ ap (λ ts. not c.args.method && (c.args.held || (not c.args.i && is_in c.in-Node.kind ts))) c.texts.ensures.seen in
    let row = ap (λ ps. in_parentheses held (spread ps (parts bare c.in-Node.kind n))) c.row_as-pieces.ensures in
    let whole = shown_node c.args.method c.args.i c.args.held held bare n c.in-Node.kind (sym c.in-Node.ensures) asked c.allows_in-bare.ensures in
    subst (λ x. OnOk c.push_if-in-Node.result (string_bytes c.push_if-in-Node.new.out ≡ x)) (written ∙ ap (λ x. string_bytes c.args.out.now ++ x) (row ∙ whole)) c.push_if-in-Node.ensures

pub print_template-returns-then-j-expressions : goal.print_template-returns-then-j-expressions
print_template-returns-then-j-expressions t c =
    let written = lone_quasi (item_text c.args.i c.args.kind c.args.n.now c.args.m) (item_text c.args.i c.args.kind c.args.n.now c.args.k) (string_bytes c.args.out.now ++ template (map (item_text c.args.i c.args.kind c.args.n.now c.args.m) c.listed-quasis.result.now) (map (item_text c.args.i c.args.kind c.args.n.now c.args.k) c.listed-expressions.result.now)) (string_bytes c.loop-j.out) (string_bytes c.print_item.new.out)
    c.listed-quasis.result.now c.listed-expressions.result.now c.loop-j.j c.index-quasis-j.result c.loop-j-test.true c.index-quasis-j.is (omega arith) c.loop-j.invariant c.in_ok-print_item.ensures in
    written ∙ ap (λ x. string_bytes c.args.out.now ++ x) (woven_listed c.args.i c.args.kind c.args.n.now c.args.m c.args.k c.listed-quasis.result.now c.listed-expressions.result.now c.listed-quasis.ensures c.listed-expressions.ensures)

pub print_template-returns : goal.print_template-returns
print_template-returns t c =
    let written = no_quasi (item_text c.args.i c.args.kind c.args.n.now c.args.m) (item_text c.args.i c.args.kind c.args.n.now c.args.k) (string_bytes c.args.out.now ++ template (map (item_text c.args.i c.args.kind c.args.n.now c.args.m) c.listed-quasis.result.now) (map (item_text c.args.i c.args.kind c.args.n.now c.args.k) c.listed-expressions.result.now)) (string_bytes c.loop-j.out)
    c.listed-quasis.result.now c.listed-expressions.result.now c.loop-j.j (omega arith) c.loop-j.invariant in
    written ∙ ap (λ x. string_bytes c.args.out.now ++ x) (woven_listed c.args.i c.args.kind c.args.n.now c.args.m c.args.k c.listed-quasis.result.now c.listed-expressions.result.now c.listed-quasis.ensures c.listed-expressions.ensures)
