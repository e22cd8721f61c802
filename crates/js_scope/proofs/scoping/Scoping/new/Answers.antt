use Rattle.std.proofs.Common.{List, [], ◌∷◌, ◌++◌, None, ap, ◌∙◌}
use Rattle.js_scope.specs.Table.{Table}
use Rattle.js_scope.specs.Unresolved.{Lists}
use Rattle.js_scope.specs.declared.rows.Scope.{Scope}
use Rattle.js_scope.specs.declared.rows.Symbol.{Symbol}
use Rattle.js_scope.specs.declared.rows.Reference.{Reference}
use Rattle.js_scope.proofs.scoping.Scoping.new.Goals as goal

pub returns : goal.returns
returns c =
    let root : _ → Scope = λ x. record { parent = None; flags = record { 0 = 3 }; names = x } in
    let made : List Scope → List Symbol → List Reference → Lists → Table = λ s y r u. record { scopes = s; symbols = y; references = r; unresolved = u } in
    ap (λ l. made l c.new-2.result.items c.new-3.result.items c.new-4.result) (c.in_ok-push.ensures.items ∙ ap (λ l. l ++ root c.new.result ∷ []) c.new-scopes.ensures.items ∙ ap (λ x. root x ∷ []) c.new.ensures)
    ∙ ap (λ l. made (root [] ∷ []) l c.new-3.result.items c.new-4.result) c.new-2.ensures.items
    ∙ ap (λ l. made (root [] ∷ []) [] l c.new-4.result) c.new-3.ensures.items
    ∙ ap (λ l. made (root [] ∷ []) [] [] l) c.new-4.ensures
