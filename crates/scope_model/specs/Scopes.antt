-- The scopes of a tree: which node opens one, what it declares, which scopes are round a place, and what a name
-- stands for there.
-- ECMAScript 9.1 (environments), 9.1.2.1 (GetIdentifierReference), 10.2.11 (FunctionDeclarationInstantiation), and the
-- sections beside the rows.
use Rattle.std.specs.Prelude.{ℕ, zero, suc, List, [], ◌∷◌, ◌++◌, length, Option, None, Some, Bool, true, false, cond, codes, ◌&&◌}
use Rattle.js_term.specs.Term.{Text, is_text, Term, absent, list, node, Terms, none, more, first, items}
use Rattle.js_term.specs.Scope.{kid}
use Rattle.scope_model.specs.declared.role.Role.{Role}
use Rattle.scope_model.specs.declared.sort.Sort.{Sort}
use Rattle.scope_model.specs.declared.sort.Sought.TheVariants as Sought
use Rattle.scope_model.specs.declared.sort.ScopeSort.{ScopeSort}
use Rattle.scope_model.specs.Roles.{role}
use Rattle.scope_model.specs.Names.{Origin, here, imported, Declaration, declared_at, under, module_names}

-- places of declarations are those below the node that opens the scope
pub record Scope : Type 0 where
  pub sort : ScopeSort
  pub names : List Declaration

-- ---- What opens a scope

abbrev pub scope_sort : Role → Option ScopeSort
scope_sort Role.Program = Some ScopeSort.Module
scope_sort Role.FunctionDeclaration = Some ScopeSort.Function
scope_sort Role.FunctionExpression = Some ScopeSort.Function
scope_sort Role.Arrow = Some ScopeSort.Arrow
scope_sort Role.ClassDeclaration = Some ScopeSort.Class
scope_sort Role.ClassExpression = Some ScopeSort.Class
scope_sort Role.Field = Some ScopeSort.Field
scope_sort Role.StaticBlock = Some ScopeSort.StaticBlock
scope_sort Role.Block = Some ScopeSort.Block
scope_sort Role.Switch = Some ScopeSort.Block
scope_sort Role.Loop = Some ScopeSort.Block
scope_sort Role.CatchClause = Some ScopeSort.CatchClause
scope_sort r = None

abbrev pub is_present : Term → Bool
is_present absent = false
is_present t = true

-- a field without an initializer opens none
abbrev pub opens : Role → Terms → Bool
opens Role.Field ts = is_present (kid 1 ts)
opens r ts = true

abbrev pub opening : Role → Terms → Option ScopeSort
opening r ts = cond (opens r ts) (scope_sort r) None

-- The kids that stand outside of it: the name of a declaration (8.2.1, 15.7.15), the key of a field (15.7.10), and what
-- a switch looks at (14.12.4).
abbrev pub is_outside : Role → ℕ → Bool
is_outside Role.FunctionDeclaration zero = true
is_outside Role.ClassDeclaration zero = true
is_outside Role.Field zero = true
is_outside Role.Switch zero = true
is_outside r n = false

-- ---- What it declares

-- The names that each kid inside sees. The kids of a function are its name, its parameters and its body; those of an
-- arrow its parameters and its body.
abbrev pub first_names : Role → Terms → List Declaration
-- 16.2.1.7.3.1
first_names Role.Program ts = under 1 (module_names 0 0 (items (kid 1 ts)))
-- 15.2.5, 10.2.11
first_names Role.FunctionExpression ts = declared_at 0 (Sought.Bound Sort.OwnName) ts ++ declared_at 1 Sought.Parameters ts
first_names Role.FunctionDeclaration ts = declared_at 1 Sought.Parameters ts
first_names Role.Arrow ts = declared_at 0 Sought.Parameters ts
-- 15.7.14; a class declaration's name is declared round it alone
first_names Role.ClassExpression ts = declared_at 0 (Sought.Bound Sort.OwnName) ts
-- 15.7.11
first_names Role.StaticBlock ts = declared_at 0 (Sought.Body Sort.Variable) ts
-- 14.2.2, 14.12.4
first_names Role.Block ts = declared_at 0 Sought.Block ts
first_names Role.Switch ts = declared_at 1 Sought.Block ts
-- 14.7.4.2, 14.7.5.5: the names of a `let` or `const` head
first_names Role.Loop ts = declared_at 0 Sought.Block ts
-- 14.15.2
first_names Role.CatchClause ts = declared_at 0 (Sought.Bound Sort.Lexical) ts
first_names r ts = []

-- The names of a function's body, which its body alone sees (10.2.11).
abbrev pub body_names : Role → Terms → List Declaration
body_names Role.FunctionExpression ts = declared_at 2 (Sought.Body Sort.Variable) ts
body_names Role.FunctionDeclaration ts = declared_at 2 (Sought.Body Sort.Variable) ts
body_names Role.Arrow ts = declared_at 1 (Sought.Body Sort.Variable) ts
body_names r ts = []

abbrev pub sees_body : Role → ℕ → Bool
sees_body Role.FunctionExpression (suc (suc n)) = true
sees_body Role.FunctionDeclaration (suc (suc n)) = true
sees_body Role.Arrow (suc n) = true
sees_body r n = false

-- all names that a node declares in the scope that it opens, in text order
abbrev pub declares : Role → Terms → List Declaration
declares r ts = first_names r ts ++ body_names r ts

-- ---- The scopes round a place

abbrev pub scope_of : Option ScopeSort → List Declaration → Option Scope
scope_of None names = None
scope_of (Some s) names = Some (record { sort = s; names = names })

-- the scope that a node opens, with all that it declares
abbrev pub opened : Role → Terms → Option Scope
opened r ts = scope_of (opening r ts) (declares r ts)

-- what of it the kid numbered n sees
abbrev pub seen_at : ℕ → Role → Terms → Option Scope
seen_at n r ts = cond (is_outside r n) None (scope_of (opening r ts) (cond (sees_body r n) (declares r ts) (first_names r ts)))

-- innermost first
abbrev pub Env : Type 0
Env = List Scope

abbrev pub within : Option Scope → Env → Env
within None env = env
within (Some s) env = s ∷ env

-- the scopes round the kid numbered n of a node
abbrev pub inner : Role → Env → Terms → ℕ → Env
inner r env ts n = within (seen_at n r ts) env

-- `var` names put in at a place belong to the nearest function, arrow, static block or module.
abbrev pub is_hoist_scope : ScopeSort → Bool
is_hoist_scope ScopeSort.Module = true
is_hoist_scope ScopeSort.Function = true
is_hoist_scope ScopeSort.Arrow = true
is_hoist_scope ScopeSort.StaticBlock = true
is_hoist_scope s = false

-- the scopes from that one outwards
abbrev pub hoist_env : Env → Env
hoist_env [] = []
hoist_env (s ∷ env) = cond (is_hoist_scope s.sort) (s ∷ env) (hoist_env env)

-- ---- What a name stands for

-- a call of a function that is no arrow, a field initializer and a static block have an `arguments` of their own
-- (10.2.11, 15.7.10, 15.7.11)
abbrev pub has_arguments : ScopeSort → Bool
has_arguments ScopeSort.Function = true
has_arguments ScopeSort.Field = true
has_arguments ScopeSort.StaticBlock = true
has_arguments s = false

-- A scope has a name as one that it declares, or as the arguments object.
pub data Entry : Type 0 where
  declaration : Declaration → Entry
  arguments_object : Entry

abbrev pub is_own_name : Origin → Bool
is_own_name (here Sort.OwnName) = true
is_own_name o = false

abbrev pub or_else : Option Declaration → Option Declaration → Option Declaration
or_else (Some d) other = Some d
or_else None other = other

-- The first declaration of a name. A parameter and a name of the body cover an own name (15.2.5: its scope is
-- round that of the call); a `var` of a parameter's name is that parameter (10.2.11).
abbrev pub declaration_of : List Declaration → Text → Option Declaration
declaration_of [] x = None
declaration_of (d ∷ ds) x = cond (is_text d.name x)
    (cond (is_own_name d.origin) (or_else (declaration_of ds x) (Some d)) (Some d))
    (declaration_of ds x)

abbrev pub or_arguments : Option Declaration → Bool → Option Entry
or_arguments (Some d) has = Some (declaration d)
or_arguments None true = Some arguments_object
or_arguments None false = None

abbrev pub entry_of : Scope → Text → Option Entry
entry_of s x = or_arguments (declaration_of s.names x) (has_arguments s.sort && is_text x (codes "arguments"))

-- What a name stands for: what a request hands out, a declaration, the arguments object, or a global. A number of
-- `local` and `arguments_of` is that of the scopes outside the one that answers.
pub data Answer : Type 0 where
  import_of : ℕ → Option Text → Answer
  local : ℕ → Text → Answer
  arguments_of : ℕ → Answer
  global : Text → Answer

abbrev pub meant_by : ℕ → Text → Origin → Answer
meant_by d x (here s) = local d x
meant_by d x (imported j k) = import_of j k

abbrev pub meant : ℕ → Text → Entry → Answer
meant d x (declaration e) = meant_by d x e.origin
meant d x arguments_object = arguments_of d

abbrev pub found : Option Entry → ℕ → Text → Answer → Answer
found None d x outside = outside
found (Some e) d x outside = meant d x e

-- the nearest scope that has the name answers (9.1.2.1)
abbrev pub resolve : Env → Text → Answer
resolve [] x = global x
resolve (s ∷ env) x = found (entry_of s x) (length env) x (resolve env x)

-- ---- Each reference of a tree with its answer, in text order

abbrev pub answer : Role → List Text → Env → List (Text × Answer)
answer Role.Reference texts env = (first texts, resolve env (first texts)) ∷ []
answer r texts env = []

abbrev mutual
  pub answers : Env → Term → List (Text × Answer)
  answers env absent = []
  answers env (list ts) = answers_from (λ n. env) 0 ts
  answers env (node k texts ts) = answer (role k) texts env ++ answers_from (inner (role k) env ts) 0 ts

  pub answers_from : (ℕ → Env) → ℕ → Terms → List (Text × Answer)
  answers_from around n none = []
  answers_from around n (more t ts) = answers (around n) t ++ answers_from around (suc n) ts

-- of a module
abbrev pub resolved : Term → List (Text × Answer)
resolved = answers []
