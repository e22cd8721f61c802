-- Where a tree with ids opens scopes, binds names and refers to names, in text order.
use Rattle.std.specs.Prelude.{ℕ, zero, suc, List, [], ◌∷◌, ◌++◌, Option, None, Some, Bool, true, false, cond, codes, is_some, map}
use Rattle.js_term.specs.Term.{Text, is_text, Terms, first, text_of}
use Rattle.js_term.specs.Scope.{kid}
use Rattle.js_term.specs.declared.kind.Kind.{Kind}
use Rattle.js_term.specs.declared.kind.Kind.TheVariants as Kind
use Rattle.js_tree.specs.declared.node.Form.{Form}
use Rattle.js_tree.specs.declared.node.Form.TheVariants as form
use Rattle.js_tree.specs.Tree.{Tree, Trees, tree, no_trees, more_trees, erased_all}
use Rattle.scope_model.specs.declared.role.Role.{Role}
use Rattle.scope_model.specs.declared.sort.Sort.{Sort}
use Rattle.scope_model.specs.declared.sort.Sought.TheVariants as Sought
use Rattle.scope_model.specs.Roles.{role}
use Rattle.scope_model.specs.Names.{Declaration, declared_at, is_var}
use Rattle.scope_model.specs.Scopes.{Scope, Entry, arguments_object, declaration, declaration_of, entry_of, opened, seen_at, is_hoist_scope}
use Rattle.scope_agreement.specs.declared.stand.Stand.{Stand}
use Rattle.scope_agreement.specs.declared.stand.Stand.TheVariants.{Plain, Write, Update, OfVar, Covered}

abbrev pub Id : Type 0
Id = Option ℕ

-- what is seen of a scope at a place, with the id of the node that opens it
pub record Frame : Type 0 where
  pub id : Id
  pub scope : Scope

-- innermost first
abbrev pub Frames : Type 0
Frames = List Frame

abbrev pub top_id : Frames → Id
top_id [] = None
top_id (f ∷ fs) = f.id

-- the scope to which a `var` belongs
abbrev pub hoist_id : Frames → Id
hoist_id [] = None
hoist_id (f ∷ fs) = cond (is_hoist_scope f.scope.sort) f.id (hoist_id fs)

-- The id of the scope that declares a name: that of the nearest one that has it (ECMAScript 9.1.2.1). None declares a
-- global or the arguments object.
abbrev pub declaring : Option Entry → Id → Option Id → Option Id
declaring None i outside = outside
declaring (Some arguments_object) i outside = None
declaring (Some (declaration d)) i outside = Some i

abbrev pub declarer : Frames → Text → Option Id
declarer [] x = None
declarer (f ∷ fs) x = declaring (entry_of f.scope x) f.id (declarer fs x)

-- ---- How names stand

abbrev pub role_at : Form → Role
role_at (form.Node k) = role k
role_at f = Role.Other

abbrev pub if_first : Stand → ℕ → Stand
if_first s zero = s
if_first s (suc n) = Plain

abbrev pub is_declared : List Declaration → Text → Bool
is_declared ds x = is_some (declaration_of ds x)

abbrev pub cover : Bool → Stand
cover true = Covered
cover false = Plain

-- how the own name of a function expression stands (15.2.5)
abbrev pub own_stand : Role → Terms → Stand
own_stand Role.FunctionExpression ts = cover (is_declared (declared_at 1 Sought.Parameters ts ++ declared_at 2 (Sought.Body Sort.Variable) ts) (text_of (kid 0 ts)))
own_stand r ts = Plain

-- `=` writes alone, every other operator reads too (13.15.2)
abbrev pub by_operator : Bool → Stand
by_operator true = Write
by_operator false = Update

-- patterns pass on what stands there
abbrev pub through : Stand → Stand
through OfVar = OfVar
through s = Plain

abbrev pub var_stand : Bool → Stand
var_stand true = OfVar
var_stand false = Plain

-- what stands at the part numbered n of a node of this kind, by what stands at the node
abbrev pub stand_by_kind : Kind → Stand → List Text → ℕ → Stand
-- 13.15, 13.4, 14.7.5
stand_by_kind Kind.AssignmentExpression s texts n = if_first (by_operator (is_text (first texts) (codes "="))) n
stand_by_kind Kind.UpdateExpression s texts n = Update
stand_by_kind Kind.ForInStatement s texts n = if_first Write n
stand_by_kind Kind.ForOfStatement s texts n = if_first Write n
-- 13.15.5
stand_by_kind Kind.ArrayAssignmentTarget s texts n = Write
stand_by_kind Kind.ObjectAssignmentTarget s texts n = Write
stand_by_kind Kind.AssignmentTargetProperty s texts zero = Plain
stand_by_kind Kind.AssignmentTargetProperty s texts n = Write
stand_by_kind Kind.AssignmentTargetWithDefault s texts n = if_first Write n
stand_by_kind Kind.AssignmentTargetRest s texts n = Write
stand_by_kind Kind.ParenthesizedExpression s texts n = s
stand_by_kind k s texts n = Plain

abbrev pub stand_at_form : Form → Stand → List Text → ℕ → Stand
stand_at_form (form.Node k) s texts n = stand_by_kind k s texts n
stand_at_form f s texts n = s

-- `own` is how the own name of the node stands
abbrev pub stand_inside : Role → Form → Stand → Stand → List Text → ℕ → Stand
stand_inside Role.Pattern f s own texts n = through s
stand_inside Role.VariableDeclaration f s own texts n = var_stand (is_var texts)
stand_inside Role.FunctionExpression f s own texts n = if_first own n
stand_inside r f s own texts n = stand_at_form f s texts n

-- ---- Sites

-- A scope opens inside a scope, with all that it declares; a name is bound in a scope, or is the own name of a function
-- that is covered; a name is referred to.
pub data Site : Type 0 where
  opens : Id → Id → Scope → Site
  binds : Id → Id → Text → Bool → Site
  refers : Id → Option Id → Text → Stand → Site

abbrev pub bound_in : Stand → Frames → Id
bound_in OfVar fs = hoist_id fs
bound_in s fs = top_id fs

abbrev pub is_covered : Stand → Bool
is_covered Covered = true
is_covered s = false

abbrev pub at_opening : Option Scope → Id → Frames → List Site
at_opening None i fs = []
at_opening (Some s) i fs = opens i (top_id fs) s ∷ []

-- what a node is itself
abbrev pub site_of : Role → Stand → Frames → List Text → Id → Terms → List Site
site_of Role.Binding s fs texts i ts = binds i (bound_in s fs) (first texts) (is_covered s) ∷ []
site_of Role.Reference s fs texts i ts = refers i (declarer fs (first texts)) (first texts) s ∷ []
site_of r s fs texts i ts = at_opening (opened r ts) i fs

abbrev pub within : Option Scope → Id → Frames → Frames
within None i fs = fs
within (Some s) i fs = record { id = i; scope = s } ∷ fs

abbrev mutual
  pub sites : Stand → Frames → Tree → List Site
  sites s fs (tree f texts v i ts) =
      let r = role_at f in
      let us = erased_all ts in
      site_of r s fs texts i us ++ sites_all (stand_inside r f s (own_stand r us) texts) (λ n. within (seen_at n r us) i fs) ts

  pub sites_all : (ℕ → Stand) → (ℕ → Frames) → Trees → List Site
  sites_all ss fs no_trees = []
  sites_all ss fs (more_trees t ts) = sites (ss 0) (fs 0) t ++ sites_all (λ n. ss (suc n)) (λ n. fs (suc n)) ts

-- of a module
abbrev pub sites_of : Tree → List Site
sites_of = sites Plain []
