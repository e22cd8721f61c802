-- A tree with each reference read as what it stands for.
-- ECMAScript 9.1.2.1 (GetIdentifierReference) and 13.3.6.1 (a call of an imported name has no `this`).
use Rattle.std.specs.Prelude.{ℕ, suc, List, [], ◌∷◌, None, Some, Bool, true, false, cond, ◌&&◌, decimal}
use Rattle.js_term.specs.Term.{Text, Term, absent, list, node, Terms, none, more, first, strip}
use Rattle.js_term.specs.declared.kind.Kind.{Kind}
use Rattle.js_term.specs.declared.kind.Kind.TheVariants as Kind
use Rattle.js_term.specs.Scope.{Role, role, Env, Answer, import_of, local, arguments_of, global, resolve, inner}
use Rattle.js_term.specs.Node.{member_of}
use Rattle.module_model.specs.Shape.{detached}

-- the namespace of the j-th request
abbrev pub namespace : ℕ → Term
namespace j = node Kind.Namespace (decimal j ∷ []) none

-- An answer as a term. An imported name is the member of its request's namespace.
abbrev pub of_answer : Answer → Term
of_answer (import_of j None) = namespace j
of_answer (import_of j (Some x)) = member_of (namespace j) x
of_answer (local d x) = node Kind.Local (decimal d ∷ x ∷ []) none
of_answer (arguments_of d) = node Kind.Arguments (decimal d ∷ []) none
of_answer (global x) = node Kind.Global (x ∷ []) none

abbrev pub refers : Role → Bool
refers Role.reference = true
refers r = false

abbrev pub is_reference : Term → Bool
is_reference (node k texts ts) = refers (role k)
is_reference t = false

abbrev pub selects : Role → Bool
selects Role.member = true
selects r = false

abbrev pub is_member : Term → Bool
is_member (node k texts ts) = selects (role k)
is_member t = false

-- what stands in callee place: a reference that became a member is called without its object
abbrev pub in_callee : Term → Term → Term
in_callee t u = cond (is_reference t && is_member u) (detached u) u

abbrev pub with_callee : Terms → Terms → Terms
with_callee (more t ts) (more u us) = more (in_callee t u) us
with_callee ts us = us

-- a node whose kids are read already, where a reference is read by f
abbrev pub finished : (Text → Term) → Role → Kind → List Text → Terms → Terms → Term
finished f Role.reference k texts ts us = f (first texts)
finished f Role.calls k texts ts us = node k texts (with_callee ts us)
finished f r k texts ts us = node k texts us

-- a tree with each reference read by f, of the scopes round it and its name
module _ (f : Env → Text → Term) where
  abbrev mutual
    pub read : Env → Term → Term
    read env absent = absent
    read env (list ts) = list (read_kids (λ n. env) ts)
    read env (node k texts ts) = finished (f env) (role k) k texts ts (read_kids (inner (role k) env ts) ts)

    pub read_kids : (ℕ → Env) → Terms → Terms
    read_kids envs none = none
    read_kids envs (more t ts) = more (read (envs 0) t) (read_kids (λ n. envs (suc n)) ts)

abbrev pub answered : Env → Text → Term
answered env x = of_answer (resolve env x)

-- the texts of a property are its kind and the flags method, shorthand and computed
abbrev pub without_mark : List Text → List Text
without_mark (kind ∷ method ∷ shorthand ∷ texts) = kind ∷ method ∷ [] ∷ texts
without_mark texts = texts

abbrev pub texts_spelled_out : Kind → List Text → List Text
texts_spelled_out Kind.ObjectProperty texts = without_mark texts
texts_spelled_out k texts = texts

-- a tree without marks of shorthand properties
abbrev mutual
  pub spelled_out : Term → Term
  spelled_out absent = absent
  spelled_out (list ts) = list (all_spelled_out ts)
  spelled_out (node k texts ts) = node k (texts_spelled_out k texts) (all_spelled_out ts)

  pub all_spelled_out : Terms → Terms
  all_spelled_out none = none
  all_spelled_out (more t ts) = more (spelled_out t) (all_spelled_out ts)

abbrev pub resolved : Env → Term → Term
resolved env t = strip (spelled_out (read answered env t))

abbrev pub resolved_each : Env → Terms → Terms
resolved_each env none = none
resolved_each env (more t ts) = more (resolved env t) (resolved_each env ts)
