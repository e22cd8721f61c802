use Rattle.std.proofs.Common.{List, ap, ◌∙◌, slice_set, ℕ}
use Rattle.indexmap.specs.IndexMap.{insert_entry}
use Rattle.js_term.specs.Term.{Text, is_text}
use Rattle.js_scope.specs.Table.{Table}
use Rattle.js_scope.proofs.Listing.{on_ok}
use Rattle.js_scope.proofs.Edits.{scope_written, scope_skipped}
use Rattle.js_scope.proofs.scoping.Scoping.add_binding.Goals as goal

pub returns-clause-set : goal.returns-clause-set
returns-clause-set c =
    let put : List (Text × ℕ) → Table = λ x. record { scopes = slice_set c.self.inside.scopes.items c.number.result (record c.in-Some.row.now { names = x }); symbols = c.self.inside.symbols.items; references = c.self.inside.references.items; unresolved = c.self.inside.unresolved } in
    on_ok c.insert.result (λ h. ap put h ∙ scope_written (λ row. record row { names = insert_entry is_text row.names c.args.name c.args.symbol }) _ _ _ _ c.in-Some.row.now c.number.ensures c.self.view_is c.in-Some.ensures.item.3.0 c.in-Some.ensures.value) c.insert.ensures.set

pub returns-in_default-clause-set : goal.returns-in_default-clause-set
returns-in_default-clause-set c = scope_skipped (λ row. record row { names = insert_entry is_text row.names c.args.name c.args.symbol }) _ _ _ _ c.number.ensures c.self.view_is c.in_default.ensures.item.3
