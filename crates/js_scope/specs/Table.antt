-- The table, and the edits of one of its parts.
use Rattle.std.specs.Prelude.{ℕ, zero, suc, List, [], ◌∷◌, Option, None, Some, Bool, false, cond, not, ◌&&◌, nat_eq, length, slice_get}
use Rattle.std.specs.Option.{option_and_then}
use Rattle.std.specs.Map.{lookup, remove_entry}
use Rattle.indexmap.specs.IndexMap.{insert_entry}
use Rattle.js_term.specs.Term.{Text, is_text}
use Rattle.js_scope.specs.declared.rows.Scope.{Scope}
use Rattle.js_scope.specs.declared.rows.Symbol.{Symbol}
use Rattle.js_scope.specs.declared.rows.Reference.{Reference}
use Rattle.js_scope.specs.Unresolved.{Lists}

pub record Table : Type 0 where
  pub scopes : List Scope
  pub symbols : List Symbol
  pub references : List Reference
  pub unresolved : Lists

-- a list with its item numbered n as `change` makes it
abbrev pub with_item : {A : Type 0} → (A → A) → List A → ℕ → List A
with_item change [] n = []
with_item change (x ∷ xs) zero = change x ∷ xs
with_item change (x ∷ xs) (suc n) = x ∷ with_item change xs n

-- a table with one scope, symbol or reference as `change` makes it
abbrev pub with_scope : (Scope → Scope) → Table → ℕ → Table
with_scope change t n = record t { scopes = with_item change t.scopes n }

abbrev pub with_symbol : (Symbol → Symbol) → Table → ℕ → Table
with_symbol change t n = record t { symbols = with_item change t.symbols n }

abbrev pub with_reference : (Reference → Reference) → Table → ℕ → Table
with_reference change t n = record t { references = with_item change t.references n }

-- the symbol that the map of a scope has for a name
abbrev pub binding : List Scope → ℕ → Text → Option ℕ
binding scopes n x = option_and_then (λ row. lookup (is_text x) row.names) (slice_get scopes n)

-- the scope n, its parent and so on, at most so many
abbrev pub outward : ℕ → List Scope → Option ℕ → List ℕ
outward zero scopes n = []
outward (suc left) scopes None = []
outward (suc left) scopes (Some n) = n ∷ outward left scopes (option_and_then (λ row. row.parent) (slice_get scopes n))

-- No scope of a table whose scopes form a tree has more of them than there are scopes.
abbrev pub ancestors : Table → ℕ → List ℕ
ancestors t n = outward (length t.scopes) t.scopes (Some n)

abbrev pub or_later : Option ℕ → Option ℕ → Option ℕ
or_later (Some y) later = Some y
or_later None later = later

-- the first symbol that these scopes have for a name
abbrev pub first_binding : List Scope → List ℕ → Text → Option ℕ
first_binding scopes [] x = None
first_binding scopes (n ∷ ns) x = or_later (binding scopes n x) (first_binding scopes ns x)

abbrev pub is_symbol : ℕ → Option ℕ → Bool
is_symbol y None = false
is_symbol y (Some z) = nat_eq z y

-- whether a name leaves a scope where its symbol moves to another
abbrev pub leaves : Table → ℕ → ℕ → ℕ → Text → Bool
leaves t from to y x = not (nat_eq from to) && is_symbol y (binding t.scopes from x)

-- a table whose symbol y, of this name, is moved from one scope into another
abbrev pub moved : Table → ℕ → ℕ → ℕ → Text → Table
moved t from to y x =
    let set = with_scope (λ row. record row { names = insert_entry is_text row.names x y }) t to in
    let left = cond (leaves t from to y x) (with_scope (λ row. record row { names = remove_entry (is_text x) row.names }) set from) set in
    with_symbol (λ row. record row { scope = to }) left y
