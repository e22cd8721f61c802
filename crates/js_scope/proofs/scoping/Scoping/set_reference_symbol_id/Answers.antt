use Rattle.js_scope.proofs.Edits.{reference_written, reference_skipped}
use Rattle.js_scope.proofs.scoping.Scoping.set_reference_symbol_id.Goals as goal

pub returns : goal.returns
returns c = reference_written (λ row. record row { symbol_id = c.args.symbol }) _ _ _ _ c.in-Some.row.now c.number.ensures c.self.view_is c.in-Some.ensures.item.3.0 c.in-Some.ensures.value

pub returns-in_default : goal.returns-in_default
returns-in_default c = reference_skipped (λ row. record row { symbol_id = c.args.symbol }) _ _ _ _ c.number.ensures c.self.view_is c.in_default.ensures.item.3
