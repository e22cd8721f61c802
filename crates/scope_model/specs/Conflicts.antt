-- Names that are declared twice. These are early errors of ECMAScript:
--
--   1. A scope declares a lexical name or an import once more, by a name of any sort but an own name
--      (14.2.1, 14.12.1, 15.2.1, 15.7.1, 16.2.1.1).
--   2. A lexical name or an import of a scope is also a `var` inside that scope, outside inner functions and static blocks
--      (14.2.1, 14.7.4.1, 14.7.5.1, 14.12.1, 15.2.1, 15.7.1, 16.2.1.1).
--   3. Two parameters are equal (15.1.1).
--   4. A lexical name of a body is a parameter (15.2.1, 15.3.1).
--   5. Two names of one catch parameter are equal (14.15.1).
--   6. A lexical name of a catch block is a name of its parameter (14.15.1).
--   7. A `var` inside a catch block, outside inner functions and static blocks, is a name of the pattern that is the
--      parameter of that block's catch clause (14.15.1, B.3.4).
use Rattle.std.specs.Prelude.{ℕ, suc, List, [], ◌∷◌, ◌++◌, Option, None, Some, Bool, true, false, cond, ◌&&◌, ◌||◌, nat_le, nat_eq}
use Rattle.js_term.specs.Term.{is_text, Term, absent, list, node, Terms, none, more, kids_of, head}
use Rattle.js_term.specs.Scope.{kid}
use Rattle.scope_model.specs.declared.role.Role.{Role}
use Rattle.scope_model.specs.declared.sort.Sort.{Sort}
use Rattle.scope_model.specs.declared.sort.Sought.TheVariants as Sought
use Rattle.scope_model.specs.Roles.{role}
use Rattle.scope_model.specs.Names.{Origin, here, imported, Place, Declaration, under, declared_at, declared_from, role_of}
use Rattle.scope_model.specs.Scopes.{declares}

-- whether a name may not be declared as both
abbrev pub conflicts : Sort → Sort → Bool
-- an own name conflicts with nothing, a lexical name with all else (1, 2, 4)
conflicts Sort.OwnName b = false
conflicts a Sort.OwnName = false
conflicts Sort.Lexical b = true
conflicts a Sort.Lexical = true
-- 3
conflicts Sort.Parameter Sort.Parameter = true
conflicts a b = false

-- imports conflict as lexical names do
abbrev pub sort_of : Origin → Sort
sort_of (here s) = s
sort_of (imported j k) = Sort.Lexical

abbrev pub conflict : Declaration → Declaration → Bool
conflict d e = is_text d.name e.name && conflicts (sort_of d.origin) (sort_of e.origin)

-- The parameter of a catch clause: a plain name conflicts as a parameter of a function does, with lexical names (6); the
-- names of a pattern conflict as lexical names do, with each other, with lexical names and with `var` names (5, 6, 7).
abbrev pub caught_sort : Role → Sort
caught_sort Role.Binding = Sort.Parameter
caught_sort r = Sort.Lexical

abbrev pub caught : Term → Sort
caught parameter = caught_sort (role_of (head (kids_of parameter)))

-- The declarations that may conflict in the scope that a node opens, in text order: what it declares, and each `var`
-- inside. What a module, a function or a static block declares has these among it. What a block declares and the
-- `var` names inside are together what a module's list of the same statements would declare.
abbrev pub contending : Role → Terms → List Declaration
contending Role.Block ts = declared_at 0 (Sought.Body Sort.Lexical) ts
contending Role.Switch ts = declared_at 1 (Sought.Body Sort.Lexical) ts
contending Role.Loop ts = declared_from 0 (Sought.Body Sort.Lexical) ts
contending Role.CatchClause ts = declared_at 0 (Sought.Bound (caught (kid 0 ts))) ts
    ++ under 1 (declared_at 0 (Sought.Body Sort.Lexical) (kids_of (kid 1 ts)))
contending r ts = declares r ts

abbrev pub conflicts_with_any : Declaration → List Declaration → Bool
conflicts_with_any d [] = false
conflicts_with_any d (e ∷ es) = conflict d e || conflicts_with_any d es

-- of the second list, those that conflict with one of the first list, or with one before
abbrev pub repeated : List Declaration → List Declaration → List Declaration
repeated before [] = []
repeated before (d ∷ ds) = cond (conflicts_with_any d before) (d ∷ []) [] ++ repeated (d ∷ before) ds

-- Each declaration that conflicts with an earlier one in some scope, scope by scope, the outer ones first.
abbrev mutual
  pub redeclared : Term → List Declaration
  redeclared absent = []
  redeclared (list ts) = redeclared_from 0 ts
  redeclared (node k texts ts) = repeated [] (contending (role k) ts) ++ redeclared_from 0 ts

  pub redeclared_from : ℕ → Terms → List Declaration
  redeclared_from n none = []
  redeclared_from n (more t ts) = under n (redeclared t) ++ redeclared_from (suc n) ts

abbrev pub is_some : List Declaration → Bool
is_some [] = false
is_some (d ∷ ds) = true

-- whether some scope has a conflict
abbrev pub has_conflict : Term → Bool
has_conflict t = is_some (redeclared t)

-- Text order: a node comes before its kids, and a kid before the next one.
abbrev pub comes_first : Place → Place → Bool
comes_first [] q = true
comes_first (m ∷ p) [] = false
comes_first (m ∷ p) (n ∷ q) = cond (nat_eq m n) (comes_first p q) (nat_le m n)

abbrev pub earlier : Declaration → Option Declaration → Declaration
earlier d None = d
earlier d (Some e) = cond (comes_first d.place e.place) d e

abbrev pub earliest : List Declaration → Option Declaration
earliest [] = None
earliest (d ∷ ds) = Some (earlier d (earliest ds))

-- the first declaration of a tree, in text order, that conflicts with an earlier one
abbrev pub first_redeclared : Term → Option Declaration
first_redeclared t = earliest (redeclared t)
