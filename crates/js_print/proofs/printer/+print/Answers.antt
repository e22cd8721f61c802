use Rattle.std.proofs.Common.{ap, ◌∙◌, ◌++◌, sym, string_bytes, arith}
use Rattle.std.specs.Prelude.{codes}
use Rattle.small_tree.specs.TermOf.{expression_term, statement_term, declarator_term, property_term}
use Rattle.js_print.specs.Layout.{printed, wrapped, at_level, in_parentheses, is_looser}
use Rattle.js_print.proofs.Rows.{item_printed, held_expression, property_printed, needs_parentheses}
use Rattle.js_print.proofs.StatementRows.{function_printed}
use Rattle.js_print.proofs.printer.+print.Goals as goal

pub print_declarators-loop-i-preserved : goal.print_declarators-loop-i-preserved
print_declarators-loop-i-preserved t c =
    item_printed (codes ", ") (λ d. printed (wrapped (declarator_term d))) c.args.items.now (string_bytes c.args.out.now) (string_bytes c.loop-i.out) (string_bytes c.print_lead.new.out) (string_bytes c.print_declarator.new.out) c.loop-i.i c.index-items-i.result
    c.index-items-i.is c.loop-i.invariant (omega arith) c.in_ok-print_lead.ensures c.in_ok-print_declarator.ensures

pub print_statements-loop-i-preserved : goal.print_statements-loop-i-preserved
print_statements-loop-i-preserved t c =
    item_printed (codes " ") (λ s. printed (wrapped (statement_term s))) c.args.items.now (string_bytes c.args.out.now ++ codes "{ ") (string_bytes c.loop-i.out) (string_bytes c.print_lead.new.out) (string_bytes c.print_statement.new.out) c.loop-i.i c.index-items-i.result
    c.index-items-i.is c.loop-i.invariant (omega arith) c.in_ok-print_lead.ensures c.in_ok-print_statement.ensures

pub print_expressions-loop-i-preserved : goal.print_expressions-loop-i-preserved
print_expressions-loop-i-preserved t c =
    item_printed (codes ", ") (λ e. at_level 2 (expression_term e)) c.args.items.now (string_bytes c.args.out.now) (string_bytes c.loop-i.out) (string_bytes c.print_lead.new.out) (string_bytes c.print_held.new.out) c.loop-i.i c.index-items-i.result
    c.index-items-i.is c.loop-i.invariant (omega arith) c.in_ok-print_lead.ensures
    (c.in_ok-print_held.ensures ∙ ap (λ b. string_bytes c.print_lead.new.out ++ printed (in_parentheses b (wrapped (expression_term c.index-items-i.result)))) c.is_looser.ensures
    ∙ ap (λ u. string_bytes c.print_lead.new.out ++ printed u) (sym (held_expression (is_looser 2) c.index-items-i.result)))

pub print_properties-loop-i-preserved : goal.print_properties-loop-i-preserved
print_properties-loop-i-preserved t c =
    item_printed (codes ", ") (λ p. printed (wrapped (property_term expression_term p))) c.args.items.now (string_bytes c.args.out.now ++ codes "{ ") (string_bytes c.loop-i.out) (string_bytes c.print_lead.new.out) (string_bytes c.print_held.new.out) c.loop-i.i c.index-items-i.result
    c.index-items-i.is c.loop-i.invariant (omega arith) c.in_ok-print_lead.ensures
    (property_printed c.index-items-i.result (string_bytes c.print_lead.new.out) (string_bytes c.print_key.new.out) (string_bytes c.print_held.new.out) c.in_ok-print_key.ensures
    (c.in_ok-print_held.ensures ∙ ap (λ b. string_bytes c.print_key.new.out ++ printed (in_parentheses b (wrapped (expression_term c.get-value.result.now)))) c.is_looser.ensures
    ∙ ap (λ v. string_bytes c.print_key.new.out ++ needs_parentheses (is_looser 2) v) c.get-value.ensures))

pub print_function-returns : goal.print_function-returns
print_function-returns t c =
    let p = rw c.as_slice.ensures at c.in_ok-print_parameters.ensures in
    let q = rw c.as_slice-2.ensures at c.in_ok-print_statements.ensures in
    function_printed c.args.n.now (string_bytes c.args.out.now) (string_bytes c.print_function_start.new.out) (string_bytes c.print_parameters.new.out) (string_bytes c.push_str.new.self) (string_bytes c.print_statements.new.out)
    c.in_ok-print_function_start.ensures p c.in_ok-push_str.ensures.bytes q
