use Rattle.std.proofs.Common.{ap, ◌∙◌, slice_set}
use Rattle.std.specs.Map.{remove_entry}
use Rattle.js_term.specs.Term.{is_text}
use Rattle.js_scope.specs.Table.{Table}
use Rattle.js_scope.proofs.Edits.{scope_written, scope_skipped}
use Rattle.js_scope.proofs.scoping.Scoping.remove_binding.Goals as goal

pub returns : goal.returns
returns c =
    let put : _ → Table = λ x. record { scopes = slice_set c.self.inside.scopes.items c.number.result (record c.in-Some.row.now { names = x }); symbols = c.self.inside.symbols.items; references = c.self.inside.references.items; unresolved = c.self.inside.unresolved } in
    ap put c.remove.ensures ∙ scope_written (λ row. record row { names = remove_entry (is_text c.args.name.now) row.names }) _ _ _ _ c.in-Some.row.now c.number.ensures c.self.view_is c.in-Some.ensures.item.3.0 c.in-Some.ensures.value

pub returns-in_default : goal.returns-in_default
returns-in_default c = scope_skipped (λ row. record row { names = remove_entry (is_text c.args.name.now) row.names }) _ _ _ _ c.number.ensures c.self.view_is c.in_default.ensures.item.3
