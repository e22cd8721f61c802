-- A symbol that is moved into another scope, step by step.
use Rattle.std.proofs.Common.{◌≡◌, ℕ, Some, None, sym, ap, ◌∙◌}
use Rattle.std.specs.Prelude.{Bool, cond, Option, option_map, slice_get}
use Rattle.std.specs.Map.{remove_entry}
use Rattle.indexmap.specs.IndexMap.{insert_entry}
use Rattle.js_term.specs.Term.{Text, is_text}
use Rattle.js_scope.specs.Table.{Table, with_scope, with_symbol, leaves, moved}
use Rattle.js_scope.specs.declared.rows.Symbol.{Symbol}

named : (o : Option Symbol) (f : Text → Table) (x : Text) → option_map (λ row. row.name) o ≡ Some x → option_map (λ row. f row.name) o ≡ Some (f x)
named None f x e = absurd (cc)
named (Some row) f x e = let q : row.name ≡ x = cc in ap (λ y. Some (f y)) q

pub moved_by_steps : (t t1 t2 t3 : Table) (from to y : ℕ) (own x set text : Text) (b : Bool) → option_map (λ row. row.name) (slice_get t.symbols y) ≡ Some own → x ≡ own → set ≡ x → text ≡ x →
    b ≡ leaves t from to y x → t1 ≡ with_scope (λ row. record row { names = insert_entry is_text row.names set y }) t to →
    t2 ≡ cond b (with_scope (λ row. record row { names = remove_entry (is_text text) row.names }) t1 from) t1 → t3 ≡ with_symbol (λ row. record row { scope = to }) t2 y →
    Some t3 ≡ option_map (λ row. moved t from to y row.name) (slice_get t.symbols y)
moved_by_steps t t1 t2 t3 from to y own x set text b named_is clone set_is text_is b_is e1 e2 e3 =
    let without : Text → Table → Table = λ s u. with_scope (λ row. record row { names = remove_entry (is_text s) row.names }) u from in
    let step : t2 ≡ _ = e2 ∙ ap (λ c. cond c (without text t1) t1) b_is ∙ ap (λ s. cond (leaves t from to y x) (without s t1) t1) text_is
    ∙ ap (λ u. cond (leaves t from to y x) (without x u) u) (e1 ∙ ap (λ s. with_scope (λ row. record row { names = insert_entry is_text row.names s y }) t to) set_is) in
    ap (λ u. Some u) (e3 ∙ ap (λ u. with_symbol (λ row. record row { scope = to }) u y) step ∙ ap (moved t from to y) clone) ∙ sym (named (slice_get t.symbols y) (moved t from to y) own named_is)
