use Rattle.std.proofs.Common.{List, [], ◌∷◌, ◌++◌, ap, ◌∙◌, slice_set, ℕ}
use Rattle.js_scope.specs.Table.{Table}
use Rattle.js_scope.proofs.Listing.{on_ok}
use Rattle.js_scope.proofs.Edits.{symbol_written, symbol_skipped}
use Rattle.js_scope.proofs.scoping.Scoping.add_resolved_reference.Goals as goal

pub returns-clause-listed : goal.returns-clause-listed
returns-clause-listed c =
    let put : List ℕ → Table = λ x. record { scopes = c.self.inside.scopes.items; symbols = slice_set c.self.inside.symbols.items c.number.result (record c.in-Some.row.now { references = x }); references = c.self.inside.references.items; unresolved = c.self.inside.unresolved } in
    on_ok c.push.result (λ h. ap put h ∙ symbol_written (λ row. record row { references = row.references ++ c.args.reference ∷ [] }) _ _ _ _ c.in-Some.row.now c.number.ensures c.self.view_is c.in-Some.ensures.item.3.0 c.in-Some.ensures.value) c.push.ensures.ok

pub returns-in_default-clause-listed : goal.returns-in_default-clause-listed
returns-in_default-clause-listed c = symbol_skipped (λ row. record row { references = row.references ++ c.args.reference ∷ [] }) _ _ _ _ c.number.ensures c.self.view_is c.in_default.ensures.item.3
