-- Where `super` stands (ECMAScript 13.3.7, 15.4.1, 15.7.1): `super.x` in methods, field initializers, static blocks
-- and arrows there; `super()` in constructors of classes with heritage, and arrows there.
use Rattle.std.specs.Prelude.{ℕ, List, Bool, true, false, cond, codes, ◌||◌}
use Rattle.js_term.specs.Term.{Text, Term, absent, node, Terms}
use Rattle.js_term.specs.declared.kind.Kind.{Kind}
use Rattle.js_term.specs.Scope.{kid}
use Rattle.js_syntax.specs.Everywhere.{at_each_node, first_then}
use Rattle.js_syntax.specs.Parts.{first_is, is_set_at}
use Rattle.js_term.specs.Kinds.{is_kind}

-- no `super`, `super.x` alone, or both forms
pub data Super : Type 0 where
  nowhere : Super
  as_object : Super
  as_callee : Super

-- what stands at a place, in a function that begins there, and in the constructor of the class whose body is there
pub record Home : Type 0 where
  pub here : Super
  pub function : Super
  pub constructor : Super

-- the root of a module, and all that is inside a function but no method
abbrev pub no_home : Home
no_home = record { here = nowhere; function = nowhere; constructor = nowhere }

abbrev pub with_super : Super → Home
with_super s = record { here = s; function = nowhere; constructor = nowhere }

-- the kids of a class: its name, its heritage, its body
abbrev pub constructor_with : Term → Super
constructor_with absent = as_object
constructor_with heritage = as_callee

abbrev pub class_home : Home → Term → Home
class_home h heritage = record { here = h.here; function = nowhere; constructor = constructor_with heritage }

-- the kids of a method: its key and its function
abbrev pub method_home : Home → Bool → Home
method_home h is_constructor = record { here = h.here; function = cond is_constructor h.constructor as_object; constructor = nowhere }

abbrev pub is_method : List Text → Bool
is_method texts = first_is (codes "get") texts || first_is (codes "set") texts || is_set_at 1 texts

abbrev pub property_home : Home → Bool → Home
property_home h true = record { here = h.here; function = as_object; constructor = nowhere }
property_home h false = with_super h.here

abbrev pub home_inside : Home → Kind → List Text → Terms → ℕ → Home
home_inside h Kind.FunctionDeclaration texts ts n = no_home
home_inside h Kind.FunctionExpression texts ts n = with_super h.function
home_inside h Kind.ClassDeclaration texts ts n = class_home h (kid 1 ts)
home_inside h Kind.ClassExpression texts ts n = class_home h (kid 1 ts)
home_inside h Kind.ClassBody texts ts n = h
home_inside h Kind.MethodDefinition texts ts n = first_then (with_super h.here) (method_home h (first_is (codes "constructor") texts)) n
home_inside h Kind.ObjectProperty texts ts n = first_then (with_super h.here) (property_home h (is_method texts)) n
home_inside h Kind.PropertyDefinition texts ts n = first_then (with_super h.here) (with_super as_object) n
home_inside h Kind.StaticBlock texts ts n = with_super as_object
home_inside h k texts ts n = with_super h.here

abbrev pub is_super : Term → Bool
is_super (node k texts ts) = is_kind k Kind.Super
is_super t = false

abbrev pub allows_object : Super → Bool
allows_object nowhere = false
allows_object s = true

abbrev pub allows_callee : Super → Bool
allows_callee as_callee = true
allows_callee s = false

-- `super` as an object asks for a place of `super.x`, and as what is called for one of `super()`
abbrev pub allows_super : Home → Kind → List Text → Terms → Bool
allows_super h Kind.StaticMemberExpression texts ts = cond (is_super (kid 0 ts)) (allows_object h.here) true
allows_super h Kind.ComputedMemberExpression texts ts = cond (is_super (kid 0 ts)) (allows_object h.here) true
allows_super h Kind.CallExpression texts ts = cond (is_super (kid 0 ts)) (allows_callee h.here) true
allows_super h k texts ts = true

abbrev pub has_super_at_home : Term → Bool
has_super_at_home = at_each_node home_inside allows_super no_home
