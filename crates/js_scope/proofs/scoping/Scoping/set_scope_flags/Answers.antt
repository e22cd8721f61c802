use Rattle.js_scope.proofs.Edits.{scope_written, scope_skipped}
use Rattle.js_scope.proofs.scoping.Scoping.set_scope_flags.Goals as goal

pub returns : goal.returns
returns c = scope_written (λ row. record row { flags = c.args.flags }) _ _ _ _ c.in-Some.row.now c.number.ensures c.self.view_is c.in-Some.ensures.item.3.0 c.in-Some.ensures.value

pub returns-in_default : goal.returns-in_default
returns-in_default c = scope_skipped (λ row. record row { flags = c.args.flags }) _ _ _ _ c.number.ensures c.self.view_is c.in_default.ensures.item.3
