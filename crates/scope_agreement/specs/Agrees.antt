-- A table agrees with a tree: with the scopes that `scope_model` says the tree opens, and with what its names stand for
-- there.
use Rattle.std.specs.Prelude.{◌≡◌, ℕ, ◌+◌, ◌≤◌, List, [], ◌∷◌, Option, None, Some, Bool, true, false, cond, nat_eq, is_some, ◌&&◌, slice_get}
use Rattle.std.specs.Map.{lookup}
use Rattle.std.specs.Option.{option_and_then}
use Rattle.js_term.specs.Term.{Text, is_text}
use Rattle.js_tree.specs.Tree.{Tree}
use Rattle.scope_model.specs.Scopes.{Scope}
use Rattle.scope_model.specs.declared.sort.ScopeSort.{ScopeSort}
use Rattle.js_scope.specs.Table.{Table, binding}
use Rattle.js_scope.specs.declared.rows.Scope.{Scope as ScopeRow}
use Rattle.js_scope.specs.declared.rows.Symbol.{Symbol}
use Rattle.js_scope.specs.declared.rows.Reference.{Reference}
use Rattle.scope_agreement.specs.declared.stand.Stand.{Stand}
use Rattle.scope_agreement.specs.declared.stand.Stand.TheVariants.{Write, Update}
use Rattle.scope_agreement.specs.Sites.{Id, Site, opens, binds, refers, sites_of, is_declared}

-- StrictMode 1, Top 2, Function 4, Arrow 8, ClassStaticBlock 16, CatchClause 32; all code of a module is strict (11.2.2)
abbrev pub scope_flags : ScopeSort → ℕ
scope_flags ScopeSort.Module = 3
scope_flags ScopeSort.Function = 5
scope_flags ScopeSort.Arrow = 13
scope_flags ScopeSort.Class = 1
scope_flags ScopeSort.Field = 5
scope_flags ScopeSort.StaticBlock = 17
scope_flags ScopeSort.Block = 1
scope_flags ScopeSort.CatchClause = 33

-- Read 1, Write 2
abbrev pub reference_flags : Stand → ℕ
reference_flags Write = 2
reference_flags Update = 3
reference_flags s = 1

-- the symbol that the map of a scope has for a name
abbrev pub symbol_in : List ScopeRow → Id → Text → Option ℕ
symbol_in rows None x = None
symbol_in rows (Some n) x = binding rows n x

-- ---- One site

pub record IsScope (t : Table) (n : ℕ) (parent : Id) (s : Scope) : Type 0 where
  pub row : ScopeRow
  pub stands : slice_get t.scopes n ≡ Some row
  pub parent_is : row.parent ≡ parent
  pub flags_are : row.flags.0 ≡ scope_flags s.sort
  pub names_are : (x : Text) → is_some (lookup (is_text x) row.names) ≡ is_declared s.names x

pub record IsSymbol (t : Table) (y : ℕ) (scope : Id) (x : Text) : Type 0 where
  pub row : Symbol
  pub stands : slice_get t.symbols y ≡ Some row
  pub name_is : row.name ≡ x
  pub scope_is : Some row.scope ≡ scope

-- a scope that a place is in stands in the table
abbrev pub Stands : List ScopeRow → Id → Type 0
Stands rows None = Unit {0}
Stands rows (Some n) = (row : ScopeRow) × (slice_get rows n ≡ Some row)

-- whether the map of a scope lists a symbol
abbrev pub IsListed : Table → ℕ → Type 0
IsListed t y = (n : ℕ) × (x : Text) × (binding t.scopes n x ≡ Some y)

-- The symbol of a binding is what its scope's map has for its name; that of an own name that is covered has this name, and
-- no map lists it.
abbrev pub IsBound : Bool → Table → Id → Id → Text → Type 0
IsBound false t id scope x = Stands t.scopes scope × (id ≡ symbol_in t.scopes scope x)
IsBound true t id scope x = (y : ℕ) × (id ≡ Some y) × IsSymbol t y scope x × (IsListed t y → ⊥)

-- the symbol is what the declaring scope's map has for the name, or none
abbrev pub IsFound : List ScopeRow → Option Id → Text → Option ℕ → Type 0
IsFound rows None x y = y ≡ None
IsFound rows (Some i) x y = Stands rows i × (y ≡ symbol_in rows i x)

pub record IsReference (t : Table) (n : ℕ) (declarer : Option Id) (x : Text) (s : Stand) : Type 0 where
  pub row : Reference
  pub stands : slice_get t.references n ≡ Some row
  pub flags_are : row.flags.0 ≡ reference_flags s
  pub symbol_is : IsFound t.scopes declarer x row.symbol_id

abbrev pub Fits : Table → Site → Type 0
Fits t (opens i parent s) = (n : ℕ) × (i ≡ Some n) × IsScope t n parent s
Fits t (binds id scope x covered) = IsBound covered t id scope x
Fits t (refers i declarer x s) = (n : ℕ) × (i ≡ Some n) × IsReference t n declarer x s

abbrev pub AllFit : Table → List Site → Type 0
AllFit t [] = Unit {0}
AllFit t (s ∷ ss) = Fits t s × AllFit t ss

-- ---- How often

abbrev pub one_if : Bool → ℕ
one_if true = 1
one_if false = 0

abbrev pub is_id : ℕ → Id → Bool
is_id n None = false
is_id n (Some i) = nat_eq i n

-- whether a scope, or a reference, is given this id
abbrev pub opens_as : ℕ → Site → ℕ
opens_as n (opens i p s) = one_if (is_id n i)
opens_as n s = 0

abbrev pub refers_as : ℕ → Site → ℕ
refers_as n (refers i d x s) = one_if (is_id n i)
refers_as n s = 0

-- whether a reference to this name is given this id
abbrev pub names_as : Text → ℕ → Site → ℕ
names_as x n (refers i d y s) = one_if (is_id n i && is_text x y)
names_as x n s = 0

abbrev pub total : (Site → ℕ) → List Site → ℕ
total c [] = 0
total c (s ∷ ss) = c s + total c ss

abbrev pub count : ℕ → List ℕ → ℕ
count n [] = 0
count n (m ∷ ms) = one_if (nat_eq m n) + count n ms

abbrev pub symbol_at : List Reference → ℕ → Id
symbol_at refs n = option_and_then (λ row. row.symbol_id) (slice_get refs n)

abbrev pub list_or_none : Option (List ℕ) → List ℕ
list_or_none None = []
list_or_none (Some ns) = ns

-- ---- The whole

-- Scopes and references that no node has may be left in the table.
pub record Agrees (t : Table) (u : Tree) : Type 0 where
  -- each site has an id, and the table says of it what it is
  pub all_fit : AllFit t (sites_of u)
  -- each name in a map has a symbol of that name and scope
  pub is_sound : (n : ℕ) (x : Text) (y : ℕ) → binding t.scopes n x ≡ Some y → total (opens_as n) (sites_of u) ≡ 1 → IsSymbol t y (Some n) x
  -- each scope and each reference has an id of its own
  pub scopes_differ : (n : ℕ) → total (opens_as n) (sites_of u) ≤ 1
  pub references_differ : (n : ℕ) → total (refers_as n) (sites_of u) ≤ 1
  -- the list of a symbol has each reference of the tree that has this symbol, once, and no other
  pub lists : (y : ℕ) (row : Symbol) → slice_get t.symbols y ≡ Some row → (n : ℕ) → count n row.references ≡ cond (is_id y (symbol_at t.references n)) (total (refers_as n) (sites_of u)) 0
  -- the list of a name without a symbol has each reference of the tree of this name that has none, once, and no other
  pub unresolved : (x : Text) (n : ℕ) → count n (list_or_none (lookup (is_text x) t.unresolved)) ≡ cond (is_some (symbol_at t.references n)) 0 (total (names_as x n) (sites_of u))
