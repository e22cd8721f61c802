-- What a module that the module runner runs asks for, hands out and does, read from the forms that the runner
-- gives a meaning: getters of exports, then requests, then other statements. Each form is recognised by making
-- it again from its parts.
use Rattle.std.specs.Prelude.{ℕ, zero, suc, List, [], ◌∷◌, ◌++◌, Option, None, Some, Bool, true, false, cond, not, ◌&&◌, ◌||◌, ◌-◌, nat_lt, codes, take, drop, length}
use Rattle.js_term.specs.Term.{Text, is_text, Term, absent, list, node, Terms, none, more, items, text_of, first, strip}
use Rattle.js_term.specs.Lexeme.{is_one_of, is_digit}
use Rattle.js_term.specs.Scope.{Role, role, Env, Scope, imported, declared_all, plainly, kid, Answer, global, resolve}
use Rattle.js_term.specs.Form.{items_of, is_marked}
use Rattle.module_model.specs.Same.{same}
use Rattle.module_model.specs.Resolved.{resolved, resolved_each}
use Rattle.module_model.specs.Shape.{import_name, getter, request}
use Rattle.module_model.specs.Meaning.{Request, Module, hashbang_of, directives_of}
use Rattle.std.specs.List.{list_all}

-- the part of a term at a place
abbrev pub at : List ℕ → Term → Term
at [] t = t
at (n ∷ ns) (node k texts ts) = at ns (kid n ts)
at (n ∷ ns) (list ts) = at ns (kid n ts)
at (n ∷ ns) absent = absent

abbrev pub texts_in : Terms → List Text
texts_in none = []
texts_in (more t ts) = text_of t ∷ texts_in ts

abbrev pub export_name : Term → Text
export_name t = text_of (at (0 ∷ 1 ∷ 1 ∷ []) t)

-- the argument of `return` in the third property of the third argument
abbrev pub export_target : Term → Term
export_target t = at (0 ∷ 1 ∷ 2 ∷ 0 ∷ 2 ∷ 1 ∷ 2 ∷ 1 ∷ 0 ∷ 0 ∷ []) t

abbrev pub is_getter : Term → Bool
is_getter t = same t (getter (export_name t) (export_target t))

abbrev pub request_source : Term → Text
request_source t = text_of (at (0 ∷ 0 ∷ 1 ∷ 0 ∷ 1 ∷ 0 ∷ []) t)

abbrev pub listed : Term → Option (List Text)
listed absent = None
listed t = Some (texts_in (items (at (0 ∷ 0 ∷ 1 ∷ 0 ∷ []) t)))

-- the second argument's list of names, or none without a second argument
abbrev pub request_names : Term → Option (List Text)
request_names t = listed (at (0 ∷ 0 ∷ 1 ∷ 0 ∷ 1 ∷ 1 ∷ []) t)

abbrev pub is_request : ℕ → Term → Bool
is_request j t = same t (request j (request_source t) (request_names t))

abbrev pub exports_in : Terms → List (Text × Term)
exports_in none = []
exports_in (more t ts) = cond (is_getter t) ((export_name t, export_target t) ∷ exports_in ts) []

abbrev pub after_exports : Terms → Terms
after_exports none = none
after_exports (more t ts) = cond (is_getter t) (after_exports ts) (more t ts)

abbrev pub requests_in : ℕ → Terms → List Request
requests_in j none = []
requests_in j (more t ts) = cond (is_request j t) (record { source = request_source t; names = request_names t; star = false } ∷ requests_in (suc j) ts) []

abbrev pub after_requests : ℕ → Terms → Terms
after_requests j none = none
after_requests j (more t ts) = cond (is_request j t) (after_requests (suc j) ts) (more t ts)

-- the runner's seven names: each begins with its mark
abbrev pub is_numbered : Text → Bool
is_numbered x = is_text (take 7 x) (codes "import_") && (nat_lt 9 (length x) && (list_all is_digit (take (length x - 9) (drop 7 x)) && is_text (drop (length x - 2) x) (codes "__")))

abbrev pub is_runners : Text → Bool
is_runners x =
    is_marked x && (is_one_of (drop 11 x) (codes "import__" ∷ codes "import_meta__" ∷ codes "dynamic_import__" ∷ codes "exports__" ∷ codes "exportAll__" ∷ codes "export_default__" ∷ []) || is_numbered (drop 11 x))

-- the name of a request before the n-th
abbrev pub is_request_name : ℕ → Text → Bool
is_request_name zero x = false
is_request_name (suc n) x = is_text x (import_name n) || is_request_name n x

-- names that pass a test, and no form that a module's root alone has
module _ (reads : Text → Bool) (binds : Text → Bool) where
  abbrev pub fine_here : Role → List Text → Bool
  fine_here Role.reference texts = reads (first texts)
  fine_here Role.bound texts = binds (first texts)
  fine_here Role.imports texts = false
  fine_here Role.exports_declaration texts = false
  fine_here r texts = true

  abbrev mutual
    pub fine : Term → Bool
    fine absent = true
    fine (list ts) = fine_all ts
    fine (node k texts ts) = fine_here (role k) texts && fine_all ts

    pub fine_all : Terms → Bool
    fine_all none = true
    fine_all (more t ts) = fine t && fine_all ts

-- a reference is none of the runner's names but a request's, and no such name is bound
abbrev pub is_readable : ℕ → Text → Bool
is_readable n x = not (is_runners x) || is_request_name n x

abbrev pub is_bindable : Text → Bool
is_bindable x = not (is_runners x)

abbrev pub fine_targets : ℕ → List (Text × Term) → Bool
fine_targets n [] = true
fine_targets n (e ∷ es) = fine (is_readable n) is_bindable e.1 && fine_targets n es

-- the scope of the module that is read: its declarations, and each request by its name
abbrev pub numbered : ℕ → Scope
numbered zero = []
numbered (suc n) = (import_name n, imported n None) ∷ numbered n

abbrev pub output_env : ℕ → Terms → Env
output_env n ts = (plainly (declared_all ts) ++ numbered n) ∷ []

abbrev pub is_global : Answer → Bool
is_global (global x) = true
is_global a = false

-- where there is a getter, `Object` has to be the global
abbrev pub has_object : Env → List (Text × Term) → Bool
has_object env [] = true
has_object env (e ∷ es) = is_global (resolve env (codes "Object"))

abbrev pub targets : Env → List (Text × Term) → List (Text × Term)
targets env [] = []
targets env (e ∷ es) = (e.0, resolved env e.1) ∷ targets env es

abbrev pub read_parts : List Text → Terms → List (Text × Term) → List Request → Terms → Option Module
read_parts hashbang directives es rs ts =
    let n = length rs in
    let env = output_env n ts in
    cond (fine_all (is_readable n) is_bindable ts && (fine_targets n es && has_object env es))
    (Some (record { hashbang = hashbang; directives = directives; requests = rs; exports = targets env es; statements = resolved_each env ts }))
    None

-- of a tree without parentheses
abbrev pub read_stripped : Term → Option Module
read_stripped t =
    let ts = items_of t in
    let us = after_exports ts in
    read_parts (hashbang_of t) (directives_of t) (exports_in ts) (requests_in 0 us) (after_requests 0 us)

abbrev pub read_back : Term → Option Module
read_back t = read_stripped (strip t)
