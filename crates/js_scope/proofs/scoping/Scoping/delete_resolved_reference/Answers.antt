use Rattle.std.proofs.Common.{ap, ◌∙◌, slice_set}
use Rattle.js_scope.specs.Unresolved.{without}
use Rattle.js_scope.specs.Table.{Table}
use Rattle.js_scope.proofs.Edits.{symbol_written, symbol_skipped}
use Rattle.js_scope.proofs.scoping.Scoping.delete_resolved_reference.Goals as goal

pub returns : goal.returns
returns c =
    let put : _ → Table = λ x. record { scopes = c.self.inside.scopes.items; symbols = slice_set c.self.inside.symbols.items c.number.result (record c.in-Some.row.now { references = x }); references = c.self.inside.references.items; unresolved = c.self.inside.unresolved } in
    ap put c.remove_reference.ensures ∙ symbol_written (λ row. record row { references = without c.args.reference row.references }) _ _ _ _ c.in-Some.row.now c.number.ensures c.self.view_is c.in-Some.ensures.item.3.0 c.in-Some.ensures.value

pub returns-in_default : goal.returns-in_default
returns-in_default c = symbol_skipped (λ row. record row { references = without c.args.reference row.references }) _ _ _ _ c.number.ensures c.self.view_is c.in_default.ensures.item.3
