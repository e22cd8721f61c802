-- The names that a part of a tree declares, in text order.
-- ECMAScript 8.2.1 (BoundNames), 8.2.4 (LexicallyDeclaredNames), 8.2.6 (VarDeclaredNames), 8.2.7 (VarScopedDeclarations), 8.2.8
-- and 8.2.10 (the same at the top level of a function, where functions are as `var` names are), 16.2.2.1 (ImportEntries).
use Rattle.std.specs.Prelude.{ℕ, suc, List, [], ◌∷◌, ◌++◌, Option, None, Some, Bool, true, false, cond, codes}
use Rattle.js_term.specs.Term.{Text, is_text, Term, absent, list, node, Terms, none, more, first, items, kids_of, text_of}
use Rattle.js_term.specs.Scope.{kid}
use Rattle.scope_model.specs.declared.role.Role.{Role}
use Rattle.scope_model.specs.declared.sort.Sort.{Sort}
use Rattle.scope_model.specs.declared.sort.Sought.{Sought}
use Rattle.scope_model.specs.Roles.{role}

-- Where a declared name comes from: it is declared here, or the request numbered so hands out what is named so; no
-- name is the request's namespace.
pub data Origin : Type 0 where
  here : Sort → Origin
  imported : ℕ → Option Text → Origin

-- the way from a node down to one below it, by the numbers of kids and of items
abbrev pub Place : Type 0
Place = List ℕ

-- a declared name; the place is that of its binding identifier
pub record Declaration : Type 0 where
  pub name : Text
  pub origin : Origin
  pub place : Place

-- the same, seen from one node above
abbrev pub under : ℕ → List Declaration → List Declaration
under n [] = []
under n (d ∷ ds) = record { name = d.name; origin = d.origin; place = n ∷ d.place } ∷ under n ds

-- What is looked for in the kids of a node, by what is looked for at the node. It is the same for all kids: beside a bound
-- name stand expressions, parameters and bodies alone, and these pass nothing on, since what they declare belongs to
-- scopes of their own.

-- `var` names belong to the body round all blocks, the others to the list that they stand in (14.3.1, 14.3.2)
abbrev pub in_variables : Bool → Sought → Sought
in_variables true (Sought.Body f) = Sought.Bound Sort.Variable
in_variables true Sought.Hoisted = Sought.Bound Sort.Variable
in_variables false (Sought.Body f) = Sought.Bound Sort.Lexical
in_variables false Sought.Block = Sought.Bound Sort.Lexical
in_variables is_var s = Sought.Nothing

-- a function's name, by its list: of a body (8.2.8, 8.2.10, 16.2.1.7.3.1), or of a block (14.2)
abbrev pub in_function : Sought → Sought
in_function (Sought.Body f) = Sought.Bound f
in_function Sought.Block = Sought.Bound Sort.Lexical
in_function s = Sought.Nothing

-- a class's name is lexical in either (15.7)
abbrev pub in_class : Sought → Sought
in_class (Sought.Body f) = Sought.Bound Sort.Lexical
in_class Sought.Block = Sought.Bound Sort.Lexical
in_class s = Sought.Nothing

-- a statement that holds others: `var` names alone come out of it
abbrev pub in_statement : Sought → Sought
in_statement (Sought.Body f) = Sought.Hoisted
in_statement Sought.Hoisted = Sought.Hoisted
in_statement s = Sought.Nothing

abbrev pub in_pattern : Sought → Sought
in_pattern (Sought.Bound f) = Sought.Bound f
in_pattern s = Sought.Nothing

abbrev pub in_parameters : Sought → Sought
in_parameters Sought.Parameters = Sought.Bound Sort.Parameter
in_parameters s = Sought.Nothing

-- the body of a function, and what is exported
abbrev pub in_body : Sought → Sought
in_body (Sought.Body f) = Sought.Body f
in_body s = Sought.Nothing

abbrev pub seek : Role → Bool → Sought → Sought
seek Role.Pattern is_var s = in_pattern s
seek Role.Parameters is_var s = in_parameters s
seek Role.VariableDeclaration is_var s = in_variables is_var s
seek Role.FunctionDeclaration is_var s = in_function s
seek Role.ClassDeclaration is_var s = in_class s
seek Role.Statement is_var s = in_statement s
seek Role.Block is_var s = in_statement s
seek Role.Loop is_var s = in_statement s
seek Role.Switch is_var s = in_statement s
seek Role.CatchClause is_var s = in_statement s
-- all cases of a switch are one list (14.12)
seek Role.Case is_var s = s
seek Role.Body is_var s = in_body s
seek Role.Export is_var s = in_body s
seek r is_var s = Sought.Nothing

-- by `var`, and not by `let` or `const`
abbrev pub is_var : List Text → Bool
is_var texts = is_text (first texts) (codes "var")

-- a name that is bound itself
abbrev pub bound : Role → List Text → Sought → List Declaration
bound Role.Binding texts (Sought.Bound f) = record { name = first texts; origin = here f; place = [] } ∷ []
bound r texts s = []

abbrev mutual
  pub declared : Sought → Term → List Declaration
  declared s absent = []
  declared s (list ts) = declared_from 0 s ts
  declared s (node k texts ts) = bound (role k) texts s ++ declared_from 0 (seek (role k) (is_var texts) s) ts

  -- by the kids or items from the one numbered n on
  pub declared_from : ℕ → Sought → Terms → List Declaration
  declared_from n s none = []
  declared_from n s (more t ts) = under n (declared s t) ++ declared_from (suc n) s ts

-- by the kid numbered n
abbrev pub declared_at : ℕ → Sought → Terms → List Declaration
declared_at n s ts = under n (declared s (kid n ts))

-- Modules (16.2.1.7.3.1). Imports, and exports with a source, are the requests; they are numbered from 0 on.

abbrev pub role_of : Term → Role
role_of (node k texts ts) = role k
role_of t = Role.Other

abbrev pub is_request : Role → Bool
is_request Role.Import = true
is_request Role.ExportFrom = true
is_request r = false

-- the number of the request behind an item
abbrev pub past : ℕ → Term → ℕ
past j t = cond (is_request (role_of t)) (suc j) j

abbrev pub import_of : Origin → Term → List Declaration
import_of o t = record { name = text_of t; origin = o; place = [] } ∷ []

-- a specifier of the request numbered j (16.2.2.2)
abbrev pub specified : ℕ → Role → Terms → List Declaration
specified j Role.ImportSpecifier ts = under 1 (import_of (imported j (Some (text_of (kid 0 ts)))) (kid 1 ts))
specified j Role.DefaultSpecifier ts = under 0 (import_of (imported j (Some (codes "default"))) (kid 0 ts))
specified j Role.NamespaceSpecifier ts = under 0 (import_of (imported j None) (kid 0 ts))
specified j r ts = []

abbrev pub all_specified : ℕ → ℕ → Terms → List Declaration
all_specified n j none = []
all_specified n j (more t ts) = under n (specified j (role_of t) (kids_of t)) ++ all_specified (suc n) j ts

abbrev pub of_import : ℕ → Role → Terms → List Declaration
of_import j Role.Import ts = under 0 (all_specified 0 j (items (kid 0 ts)))
of_import j r ts = []

-- The items of a module from the one numbered n on, behind j requests. Its functions are lexical names (8.2.4).
abbrev pub module_names : ℕ → ℕ → Terms → List Declaration
module_names n j none = []
module_names n j (more t ts) =
    under n (of_import j (role_of t) (kids_of t) ++ declared (Sought.Body Sort.Lexical) t) ++ module_names (suc n) (past j t) ts
