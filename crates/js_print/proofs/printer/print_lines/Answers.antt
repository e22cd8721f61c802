use Rattle.std.proofs.Common.{arith, ◌∙◌, refl, sym, ap, length, string_bytes}
use Rattle.std.specs.Vec.Iter.{into_iter_items}
use Rattle.std.proofs.lemmas.List.{append-nil, nil_from_length}
use Rattle.small_tree.specs.TermOf.{statement_term}
use Rattle.js_print.specs.Layout.{printed, wrapped}
use Rattle.js_print.proofs.Rows.{line_moved}
use Rattle.js_print.proofs.printer.print_lines.Goals as goal

pub loop-one-init : goal.loop-one-init
loop-one-init c =
    let gives = c.into_iter-one-iterator.ensures.into_iter_gives in
    record {
      len = gives.1 ∙ c.into_vec-one-items.result.ok.0 ∙ sym (ap length gives.0);
      text = rw (gives.0, c.into_vec-one-items.ensures) refl;
    }

pub loop-one-preserved : goal.loop-one-preserved
loop-one-preserved c =
    let steps = c.in-Some.ensures.steps in
    record {
      len = omega (arith, steps.1, c.loop-one.invariant.len, ap length steps.0);
      text = line_moved (λ s. printed (wrapped (statement_term s))) c.in-Some.one (into_iter_items c.next.new.self) _ (string_bytes c.print_statement.new.out) (string_bytes c.push_str.new.self) (string_bytes c.loop-one.out) (string_bytes c.push_str-in-loop-one.new.self) _ (rw steps.0 at c.loop-one.invariant.text) c.in_ok-line.ensures.bytes c.in_ok-print_statement.ensures c.in_ok-push_str.ensures.bytes (rw c.as_str.ensures.value at c.in_ok-push_str-2.ensures.bytes);
    }

pub returns : goal.returns
returns c =
    let none = nil_from_length (into_iter_items c.loop-one.one-iterator) (omega (arith, c.loop-one.invariant.len, c.in-None.ensures.steps.0)) in
    sym (append-nil (string_bytes c.loop-one.out)) ∙ (rw none at c.loop-one.invariant.text)
