-- The environments of a module and of the tree that is written for it.
use Rattle.std.proofs.Common.{◌≡◌, refl, sym, ◌∙◌, ap, ℕ, zero, suc, List, [], ◌∷◌, Bool, true, false, length, Option, None, Some}
use Rattle.std.proofs.lemmas.Bool.{and_from}
use Rattle.js_term.specs.Term.{Text, Term, Terms, rest}
use Rattle.js_term.specs.Scope.{Role, Env, Entry, here, arguments_object, imported, Answer, import_of, local, arguments_of, global, resolve, entry_of, call_scope, declared, declared_all, kid, inner, parameter_names, body_names}
use Rattle.js_term.specs.Form.{is_small_name}
use Rattle.module_model.specs.Resolved.{read, answered}
use Rattle.module_model.specs.ReadBack.{fine, is_readable, is_bindable}
use Rattle.module_model.specs.Run.{spelled, written}
use Rattle.module_model.proofs.EveryKind.{differ}
use Rattle.module_model.proofs.Names.{Names, names_append, small_readable, call_no_request, is_inner, call_is_inner}
use Rattle.module_model.proofs.Declared.{are_inside, names_kid, names_rest, names_declared_all}

-- a tree with its references answered; `resolved` removes marks and parentheses from it
abbrev pub answers : Env → Term → Term
answers = read answered

-- the tree that is written has no name of the runner's but those of its n requests
abbrev pub is_good : ℕ → Term → Bool
is_good n = fine (is_readable n) is_bindable

pub record Related (n : ℕ) (env out : Env) : Type 0 where
  pub meets : (x : Text) → is_small_name x ≡ true → answers out (written env x) ≡ answered env x
  pub readable : (x : Text) → is_small_name x ≡ true → is_good n (written env x) ≡ true
  pub deep : length env ≡ length out

-- a scope of a call changes nothing for a name that it lacks
under : (xs : List Text) → Names xs → (out : Env) (x : Text) → entry_of (call_scope xs) x ≡ None → (a : Answer) → answers (call_scope xs ∷ out) (spelled x a) ≡ answers out (spelled x a)
under xs p out x e (import_of j None) = rw (call_no_request xs j p) refl
under xs p out x e (import_of j (Some k)) = rw (call_no_request xs j p) refl
under xs p out x e (local d y) = rw e refl
under xs p out x e (arguments_of d) = rw e refl
under xs p out x e (global y) = rw e refl

module _ (n : ℕ) (env out : Env) (r : Related n env out) (xs : List Text) (p : Names xs) where
  meets_under : (x : Text) → is_small_name x ≡ true → (e : Option Entry) → entry_of (call_scope xs) x ≡ e → is_inner e ≡ true → answers (call_scope xs ∷ out) (written (call_scope xs ∷ env) x) ≡ answered (call_scope xs ∷ env) x
  meets_under x h None e i = rw e (under xs p out x e (resolve env x) ∙ r.meets x h)
  meets_under x h (Some here) e i = rw (e, e, r.deep) refl
  meets_under x h (Some arguments_object) e i = rw (e, e, r.deep) refl
  meets_under x h (Some (imported j k)) e i = differ (sym i)

  readable_under : (x : Text) → is_small_name x ≡ true → (e : Option Entry) → entry_of (call_scope xs) x ≡ e → is_inner e ≡ true → is_good n (written (call_scope xs ∷ env) x) ≡ true
  readable_under x h None e i = rw e (r.readable x h)
  readable_under x h (Some here) e i = rw e (and_from (is_readable n x) true (small_readable x h n) refl)
  readable_under x h (Some arguments_object) e i = rw e (and_from (is_readable n x) true (small_readable x h n) refl)
  readable_under x h (Some (imported j k)) e i = differ (sym i)

  pub related_under : Related n (call_scope xs ∷ env) (call_scope xs ∷ out)
  related_under = record {
    meets = λ x h. meets_under x h (entry_of (call_scope xs) x) refl (call_is_inner xs x);
    readable = λ x h. readable_under x h (entry_of (call_scope xs) x) refl (call_is_inner xs x);
    deep = ap suc r.deep;
  }

-- two lists of parts that declare the same
pub record Alike (ts us : Terms) : Type 0 where
  pub every : declared_all us ≡ declared_all ts
  pub later : declared_all (rest us) ≡ declared_all (rest ts)
  pub each : (m : ℕ) → declared (kid m us) ≡ declared (kid m ts)

-- the scopes inside a node stay related
pub inner_related : (n : ℕ) (env out : Env) → Related n env out → (r : Role) (ts us : Terms) → are_inside ts ≡ true → Alike ts us → (m : ℕ) → Related n (inner r env ts m) (inner r out us m)
inner_related n env out x Role.function_value ts us h a zero = x
inner_related n env out x Role.function_value ts us h a (suc zero) =
    rw (a.each 0, a.each 1) (related_under n env out x (parameter_names true ts) (names_append (declared (kid 0 ts)) (declared (kid 1 ts)) (names_kid 0 ts h) (names_kid 1 ts h)))
inner_related n env out x Role.function_value ts us h a (suc (suc m)) = rw a.every (related_under n env out x (body_names true ts) (names_declared_all ts h))
inner_related n env out x Role.function_named ts us h a zero = x
inner_related n env out x Role.function_named ts us h a (suc zero) = rw (a.each 1) (related_under n env out x (parameter_names false ts) (names_kid 1 ts h))
inner_related n env out x Role.function_named ts us h a (suc (suc m)) = rw a.later (related_under n env out x (body_names false ts) (names_rest ts h))
inner_related n env out x r ts us h a m = x

-- a reference as it is written declares nothing
pub quiet : (env : Env) (x : Text) → declared (written env x) ≡ []
quiet env x = by (resolve env x)
  where
    by : (a : Answer) → declared (spelled x a) ≡ []
    by (import_of j None) = refl
    by (import_of j (Some k)) = refl
    by (local d y) = refl
    by (arguments_of d) = refl
    by (global y) = refl
