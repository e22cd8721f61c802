-- What is written to an item of a list, as an edit of the table.
use Rattle.std.proofs.Common.{◌≡◌, ℕ, zero, suc, ◌<◌, ◌≤◌, List, [], ◌∷◌, length, refl, ap, ◌∙◌, arith}
use Rattle.std.specs.Prelude.{slice_set, slice_index_or}
use Rattle.js_scope.specs.Table.{Table, with_item, with_scope, with_symbol, with_reference}
use Rattle.js_scope.specs.declared.rows.Scope.{Scope}
use Rattle.js_scope.specs.declared.rows.Symbol.{Symbol}
use Rattle.js_scope.specs.declared.rows.Reference.{Reference}

written : {A : Type 0} (f : A → A) (xs : List A) (m n : ℕ) (x : A) → m ≡ n → m < length xs → x ≡ slice_index_or xs m x → slice_set xs m (f x) ≡ with_item f xs n
written f [] m n x e h q = absurd (omega arith)
written f (y ∷ xs) zero zero x e h q = ap (λ z. f z ∷ xs) q
written f (y ∷ xs) zero (suc n) x e h q = absurd (omega (arith, e))
written f (y ∷ xs) (suc m) zero x e h q = absurd (omega (arith, e))
written f (y ∷ xs) (suc m) (suc n) x e h q = ap (λ l. y ∷ l) (written f xs m n x (omega (arith, e)) (omega arith) q)

skipped : {A : Type 0} (f : A → A) (xs : List A) (m n : ℕ) → m ≡ n → length xs ≤ m → xs ≡ with_item f xs n
skipped f [] m n e h = refl
skipped f (y ∷ xs) zero n e h = absurd (omega arith)
skipped f (y ∷ xs) (suc m) zero e h = absurd (omega (arith, e))
skipped f (y ∷ xs) (suc m) (suc n) e h = ap (λ l. y ∷ l) (skipped f xs m n (omega (arith, e)) (omega arith))

pub scope_written : (f : Scope → Scope) (t now : Table) (m n : ℕ) (x : Scope) → m ≡ n → t ≡ now → m < length t.scopes → x ≡ slice_index_or t.scopes m x →
    record t { scopes = slice_set t.scopes m (f x) } ≡ with_scope f now n
scope_written f t now m n x e v h q = ap (λ l. record t { scopes = l }) (written f t.scopes m n x e h q) ∙ ap (λ u. with_scope f u n) v

pub scope_skipped : (f : Scope → Scope) (t now : Table) (m n : ℕ) → m ≡ n → t ≡ now → length t.scopes ≤ m → t ≡ with_scope f now n
scope_skipped f t now m n e v h = ap (λ l. record t { scopes = l }) (skipped f t.scopes m n e h) ∙ ap (λ u. with_scope f u n) v

pub symbol_written : (f : Symbol → Symbol) (t now : Table) (m n : ℕ) (x : Symbol) → m ≡ n → t ≡ now → m < length t.symbols → x ≡ slice_index_or t.symbols m x →
    record t { symbols = slice_set t.symbols m (f x) } ≡ with_symbol f now n
symbol_written f t now m n x e v h q = ap (λ l. record t { symbols = l }) (written f t.symbols m n x e h q) ∙ ap (λ u. with_symbol f u n) v

pub symbol_skipped : (f : Symbol → Symbol) (t now : Table) (m n : ℕ) → m ≡ n → t ≡ now → length t.symbols ≤ m → t ≡ with_symbol f now n
symbol_skipped f t now m n e v h = ap (λ l. record t { symbols = l }) (skipped f t.symbols m n e h) ∙ ap (λ u. with_symbol f u n) v

pub reference_written : (f : Reference → Reference) (t now : Table) (m n : ℕ) (x : Reference) → m ≡ n → t ≡ now → m < length t.references → x ≡ slice_index_or t.references m x →
    record t { references = slice_set t.references m (f x) } ≡ with_reference f now n
reference_written f t now m n x e v h q = ap (λ l. record t { references = l }) (written f t.references m n x e h q) ∙ ap (λ u. with_reference f u n) v

pub reference_skipped : (f : Reference → Reference) (t now : Table) (m n : ℕ) → m ≡ n → t ≡ now → length t.references ≤ m → t ≡ with_reference f now n
reference_skipped f t now m n e v h = ap (λ l. record t { references = l }) (skipped f t.references m n e h) ∙ ap (λ u. with_reference f u n) v
