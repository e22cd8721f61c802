use Rattle.js_scope.proofs.Edits.{symbol_written, symbol_skipped}
use Rattle.js_scope.proofs.scoping.Scoping.set_symbol_scope_id.Goals as goal

pub returns : goal.returns
returns c = symbol_written (λ row. record row { scope = c.args.scope }) _ _ _ _ c.in-Some.row.now c.number.ensures c.self.view_is c.in-Some.ensures.item.3.0 c.in-Some.ensures.value

pub returns-in_default : goal.returns-in_default
returns-in_default c = symbol_skipped (λ row. record row { scope = c.args.scope }) _ _ _ _ c.number.ensures c.self.view_is c.in_default.ensures.item.3
