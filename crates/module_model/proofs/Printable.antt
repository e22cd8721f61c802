-- The tree that is written for a small module is printable.
use Rattle.std.proofs.Common.{◌≡◌, refl, sym, subst, ℕ, zero, suc, ◌+◌, List, [], ◌∷◌, length, Option, None, Some, Bool, true, false, not, ◌&&◌, ◌||◌, cond}
use Rattle.std.specs.List.{list_all}
use Rattle.std.proofs.lemmas.Bool.{and_parts, and_from, not-true}
use Rattle.js_term.specs.Term.{Text, Term, absent, list, node, Terms, none, more, append, first, strip}
use Rattle.js_term.specs.declared.kind.Kind.{Kind}
use Rattle.js_term.specs.declared.kind.Kind.TheVariants as Kind
use Rattle.js_term.specs.Lexeme.{is_word}
use Rattle.js_term.specs.Scope.{Role, role, Env, Entry, here, arguments_object, imported, import_of, global, found, entry_of, call_scope, plainly, parameter_names, body_names, inner, all_brought, declared_all, module_env}
use Rattle.js_term.specs.Form.{Sort, Place, one, nothing, many, some, single, several, empty, nowhere, takes_list, item_place, first_place, later_places, takes_kind, fits, fits_each, fits_places, stands_small, stands_printable, is_written_expression, is_binding_name, is_small_name, is_small_binding, one_text, allows, places, is_printable, is_small, has_small_form, has_distinct_names, items_of}
use Rattle.module_model.specs.Shape.{detached, getter, request, strings}
use Rattle.module_model.specs.Resolved.{read_kids, finished, with_callee, in_callee, is_reference, is_member, refers}
use Rattle.module_model.specs.Meaning.{Request, all_handed_out, all_kept, requests}
use Rattle.module_model.specs.Run.{spelled, written, rewritten, rewritten_each, getters, written_requests, run_items, run}
use Rattle.js_term.specs.Kinds.{is_kind}
use Rattle.module_model.proofs.EveryKind.{differ, kinds, when, the_kind}
use Rattle.module_model.proofs.Names.{Names, a_name, small_binding, bound_is_small, request_name_binds, or_else, entry_append, is_plain, plainly_is_plain, is_inner, call_is_inner}
use Rattle.module_model.proofs.Fits.{first_passes, widened, each_append, fits_bare}
use Rattle.module_model.proofs.Small.{small_texts, small_at, small_each, small_all, small_kind, small_node, SmallModule, small_module, all_kept_small, all_handed_names}
use Rattle.module_model.proofs.Root.{Brought, brings_in, all_brought_by}

abbrev printable_texts : Kind → List Text → Bool
printable_texts = allows is_binding_name is_binding_name

abbrev printable_at : Place → Term → Bool
printable_at = fits stands_printable printable_texts places

abbrev printable_each : Place → Terms → Bool
printable_each = fits_each stands_printable printable_texts places

abbrev printable_all : List Place → Terms → Bool
printable_all = fits_places stands_printable printable_texts places

abbrev printable_kind : Place → Kind → Bool
printable_kind = takes_kind stands_printable printable_texts places

-- small rows are printable rows
small_rows : (s : Sort) → list_all (λ k. not (stands_small s k) || stands_printable s k) kinds ≡ true
small_rows Sort.item = refl
small_rows s = refl

kind_printable : (p : Place) (k : Kind) → small_kind p k ≡ true → printable_kind p k ≡ true
kind_printable (one s) k h = when (stands_small s) (stands_printable s) (small_rows s) k h
kind_printable p k h = h

one_weaker : (f g : Text → Bool) → ((x : Text) → f x ≡ true → g x ≡ true) → (texts : List Text) → one_text f texts ≡ true → one_text g texts ≡ true
one_weaker f g w [] h = h
one_weaker f g w (x ∷ []) h = w x h
one_weaker f g w (x ∷ y ∷ texts) h = h

texts_printable : (k : Kind) (texts : List Text) → small_texts k texts ≡ true → printable_texts k texts ≡ true
texts_printable Kind.Identifier texts h = one_weaker is_small_name is_binding_name small_binding texts h
texts_printable Kind.BindingIdentifier texts h = one_weaker is_small_binding is_binding_name (λ x b. small_binding x (bound_is_small x b)) texts h
texts_printable k texts h = h

-- a reference in an environment is written as an expression
pub record Writes (env : Env) : Type 0 where
  pub expression : (x : Text) → is_small_name x ≡ true → printable_at (one Sort.expression) (written env x) ≡ true

name_printable : (x : Text) → is_small_name x ≡ true → printable_at (one Sort.expression) (spelled x (global x)) ≡ true
name_printable x h = rw (small_binding x h) refl

member_printable : (x : Text) (j : ℕ) (k : Text) → is_word k ≡ true → printable_at (one Sort.expression) (spelled x (import_of j (Some k))) ≡ true
member_printable x j k w = rw (request_name_binds j, w) refl

module _ (env : Env) (w : Writes env) (xs : List Text) where
  under : (x : Text) → is_small_name x ≡ true → (e : Option Entry) → entry_of (call_scope xs) x ≡ e → is_inner e ≡ true → printable_at (one Sort.expression) (written (call_scope xs ∷ env) x) ≡ true
  under x h None e i = rw e (w.expression x h)
  under x h (Some here) e i = rw e (name_printable x h)
  under x h (Some arguments_object) e i = rw e (name_printable x h)
  under x h (Some (imported j k)) e i = differ (sym i)

  writes_under : Writes (call_scope xs ∷ env)
  writes_under = record { expression = λ x h. under x h (entry_of (call_scope xs) x) refl (call_is_inner xs x) }

writes_inner : (env : Env) → Writes env → (r : Role) (ts : Terms) (m : ℕ) → Writes (inner r env ts m)
writes_inner env w Role.function_value ts zero = w
writes_inner env w Role.function_value ts (suc zero) = writes_under env w (parameter_names true ts)
writes_inner env w Role.function_value ts (suc (suc m)) = writes_under env w (body_names true ts)
writes_inner env w Role.function_named ts zero = w
writes_inner env w Role.function_named ts (suc zero) = writes_under env w (parameter_names false ts)
writes_inner env w Role.function_named ts (suc (suc m)) = writes_under env w (body_names false ts)
writes_inner env w r ts m = w

plain_root : (xs : List Text) (x : Text) → is_small_name x ≡ true → (e : Option Entry) → is_plain e ≡ true → printable_at (one Sort.expression) (spelled x (found e 0 x (global x))) ≡ true
plain_root xs x h None i = name_printable x h
plain_root xs x h (Some here) i = name_printable x h
plain_root xs x h (Some arguments_object) i = differ (sym i)
plain_root xs x h (Some (imported j k)) i = differ (sym i)

brought_root : (n : ℕ) (xs : List Text) (x : Text) → is_small_name x ≡ true → (e : Option Entry) → Brought n e → printable_at (one Sort.expression) (spelled x (found (or_else e (entry_of (plainly xs) x)) 0 x (global x))) ≡ true
brought_root n xs x h None b = plain_root xs x h (entry_of (plainly xs) x) (plainly_is_plain xs x)
brought_root n xs x h (Some here) b = elim b [ ]
brought_root n xs x h (Some arguments_object) b = elim b [ ]
brought_root n xs x h (Some (imported j None)) b = elim b [ ]
brought_root n xs x h (Some (imported j (Some k))) (brings_in l w) = member_printable x j k w

writes_root : (ts : Terms) → small_each (one Sort.item) ts ≡ true → Writes (module_env ts)
writes_root ts h = record {
  expression = λ x s. rw (entry_append (all_brought 0 ts) (plainly (declared_all ts)) x) (brought_root (length (requests ts) + 0) (declared_all ts) x s (entry_of (all_brought 0 ts) x) (all_brought_by 0 ts x h));
}

-- a reference fits where it stood
reference_rows : (s : Sort) → list_all (λ k. not (stands_small s Kind.Identifier && is_written_expression k) || stands_printable s k) kinds ≡ true
reference_rows Sort.item = refl
reference_rows s = refl

reference_fits : (p : Place) → small_kind p Kind.Identifier ≡ true → (t : Term) → printable_at (one Sort.expression) t ≡ true → printable_at p t ≡ true
reference_fits (one s) e t h =
    widened stands_printable printable_texts places Sort.expression s (λ k w. when (λ m. stands_small s Kind.Identifier && is_written_expression m) (stands_printable s) (reference_rows s) k (and_from (stands_small s Kind.Identifier) (is_written_expression k) e w)) t h
reference_fits p e t h = differ (sym e)

detached_fits : (b : Bool) (u : Term) → printable_at (one Sort.expression) u ≡ true → printable_at (one Sort.expression) (cond b (detached u) u) ≡ true
detached_fits true u h = rw h refl
detached_fits false u h = h

callee_fits : (ps : List Place) (ts us : Terms) → printable_all (one Sort.expression ∷ ps) us ≡ true → printable_all (one Sort.expression ∷ ps) (with_callee ts us) ≡ true
callee_fits ps none us h = h
callee_fits ps (more t ts) none h = h
callee_fits ps (more t ts) (more u us) h =
    let a = and_parts (printable_at (one Sort.expression) u) (printable_all ps us) h in
    and_from (printable_at (one Sort.expression) (in_callee t u)) (printable_all ps us) (detached_fits (is_reference t && is_member u) u a.0) a.1

reference_kind : (k : Kind) → role k ≡ Role.reference → k ≡ Kind.Identifier
reference_kind k e = the_kind (λ m. refers (role m)) Kind.Identifier refl k (rw e refl)

abbrev is_call : Role → Bool
is_call Role.calls = true
is_call r = false

call_kind : (k : Kind) → role k ≡ Role.calls → k ≡ Kind.CallExpression
call_kind k e = the_kind (λ m. is_call (role m)) Kind.CallExpression refl k (rw e refl)

module _ (env : Env) (w : Writes env) (p : Place) (k : Kind) (texts : List Text) (stands : small_kind p k ≡ true) (named : small_texts k texts ≡ true) where
  rebuilt : (us : Terms) → printable_all (places k texts) us ≡ true → printable_at p (node k texts us) ≡ true
  rebuilt us h =
      and_from (printable_kind p k) (printable_texts k texts && printable_all (places k texts) us) (kind_printable p k stands) (and_from (printable_texts k texts) (printable_all (places k texts) us) (texts_printable k texts named) h)

  finished_fits : (ts us : Terms) → printable_all (places k texts) us ≡ true → (r : Role) → role k ≡ r → printable_at p (finished (written env) r k texts ts us) ≡ true
  finished_fits ts us h Role.reference e =
      let q : k ≡ Kind.Identifier = reference_kind k e in
      let small : is_small_name (first texts) ≡ true = first_passes is_small_name texts (subst (λ m. small_texts m texts ≡ true) q named) in
      reference_fits p (subst (λ m. small_kind p m ≡ true) q stands) (written env (first texts)) (w.expression (first texts) small)
  finished_fits ts us h Role.calls e =
      let q : k ≡ Kind.CallExpression = call_kind k e in
      rebuilt (with_callee ts us) (subst (λ m. printable_all (places m texts) (with_callee ts us) ≡ true) (sym q) (callee_fits (many Sort.expression ∷ []) ts us (subst (λ m. printable_all (places m texts) us ≡ true) q h)))
  finished_fits ts us h r e = rebuilt us h

list_fits : (p : Place) (f : Env → Text → Term) (envs : ℕ → Env) (ts : Terms) → takes_list p ts ≡ true → takes_list p (read_kids f envs ts) ≡ true
list_fits (many s) f envs ts h = refl
list_fits (some s) f envs none h = h
list_fits (some s) f envs (more t ts) h = refl
list_fits (single s) f envs none h = h
list_fits (single s) f envs (more t none) h = refl
list_fits (single s) f envs (more t (more u ts)) h = h
list_fits (several s) f envs none h = h
list_fits (several s) f envs (more t none) h = h
list_fits (several s) f envs (more t (more u ts)) h = refl
list_fits empty f envs none h = refl
list_fits empty f envs (more t ts) h = h
list_fits (one s) f envs ts h = h
list_fits nothing f envs ts h = h
list_fits nowhere f envs ts h = h

mutual
  pub read_fits : (env : Env) → Writes env → (p : Place) (t : Term) → small_at p t ≡ true → printable_at p (rewritten env t) ≡ true
  read_fits env w p absent h = h
  read_fits env w p (list ts) h =
      let a = and_parts (takes_list p ts) (small_each (item_place p) ts) h in
      and_from (takes_list p (read_kids written (λ n. env) ts)) (printable_each (item_place p) (read_kids written (λ n. env) ts)) (list_fits p written (λ n. env) ts a.0) (each_fits (λ n. env) (λ n. w) (item_place p) ts a.1)
  read_fits env w p (node k texts ts) h =
      let n = small_node p k texts ts h in
      finished_fits env w p k texts n.stands n.named ts (read_kids written (inner (role k) env ts) ts) (all_fits (inner (role k) env ts) (writes_inner env w (role k) ts) (places k texts) ts n.parts) (role k) refl

  pub each_fits : (envs : ℕ → Env) → ((n : ℕ) → Writes (envs n)) → (p : Place) (ts : Terms) → small_each p ts ≡ true → printable_each p (read_kids written envs ts) ≡ true
  each_fits envs w p none h = refl
  each_fits envs w p (more t ts) h =
      let a = and_parts (small_at p t) (small_each p ts) h in
      and_from (printable_at p (rewritten (envs 0) t)) (printable_each p (read_kids written (λ n. envs (suc n)) ts)) (read_fits (envs 0) (w 0) p t a.0) (each_fits (λ n. envs (suc n)) (λ n. w (suc n)) p ts a.1)

  pub all_fits : (envs : ℕ → Env) → ((n : ℕ) → Writes (envs n)) → (ps : List Place) (ts : Terms) → small_all ps ts ≡ true → printable_all ps (read_kids written envs ts) ≡ true
  all_fits envs w ps none h = h
  all_fits envs w ps (more t ts) h =
      let a = and_parts (small_at (first_place ps) t) (small_all (later_places ps) ts) h in
      and_from (printable_at (first_place ps) (rewritten (envs 0) t)) (printable_all (later_places ps) (read_kids written (λ n. envs (suc n)) ts)) (read_fits (envs 0) (w 0) (first_place ps) t a.0) (all_fits (λ n. envs (suc n)) (λ n. w (suc n)) (later_places ps) ts a.1)

-- the runner's forms
getter_fits : (x : Text) (t : Term) → printable_at (one Sort.expression) t ≡ true → printable_at (one Sort.item) (getter x t) ≡ true
getter_fits x t h = rw h refl

getters_fit : (env : Env) → Writes env → (xs : List Text) → Names xs → printable_each (one Sort.item) (getters env xs) ≡ true
getters_fit env w [] n = refl
getters_fit env w (x ∷ xs) (a_name h n) =
    and_from (printable_at (one Sort.item) (getter x (written env x))) (printable_each (one Sort.item) (getters env xs)) (getter_fits x (written env x) (w.expression x h)) (getters_fit env w xs n)

strings_fit : (xs : List Text) → printable_each (one Sort.expression) (strings xs) ≡ true
strings_fit [] = refl
strings_fit (x ∷ xs) = strings_fit xs

request_fits : (j : ℕ) (source : Text) (names : Option (List Text)) → printable_at (one Sort.item) (request j source names) ≡ true
request_fits j source None = rw (request_name_binds j) refl
request_fits j source (Some xs) = rw (request_name_binds j, strings_fit xs) refl

requests_fit : (j : ℕ) (rs : List Request) → printable_each (one Sort.item) (written_requests j rs) ≡ true
requests_fit j [] = refl
requests_fit j (r ∷ rs) =
    and_from (printable_at (one Sort.item) (request j r.source r.names)) (printable_each (one Sort.item) (written_requests (suc j) rs)) (request_fits j r.source r.names) (requests_fit (suc j) rs)

items_fit : (ts : Terms) → small_each (one Sort.item) ts ≡ true → printable_each (one Sort.item) (run_items ts) ≡ true
items_fit ts h =
    let env : Env = module_env ts in
    let w : Writes env = writes_root ts h in
    let gs : Terms = getters env (all_handed_out ts) in
    let qs : Terms = written_requests 0 (requests ts) in
    let ss : Terms = rewritten_each env (all_kept ts) in
    each_append stands_printable printable_texts places (one Sort.item) gs (append qs ss) (getters_fit env w (all_handed_out ts) (all_handed_names ts h))
    (each_append stands_printable printable_texts places (one Sort.item) qs ss (requests_fit 0 (requests ts)) (each_fits (λ n. env) (λ n. w) (one Sort.item) (all_kept ts) (all_kept_small ts h)))

pub small_form : (t : Term) → is_small t ≡ true → SmallModule t
small_form t h = small_module t (and_parts (has_small_form t) (has_distinct_names t) h).0

pub run_printable : (t : Term) → is_small t ≡ true → is_printable (run t) ≡ true
run_printable t h =
    let m = small_form t h in
    rw (m.no_hashbang, m.no_directives, items_fit (items_of t) m.small_items) refl

bare_rows : (s : Sort) → list_all (λ k. not (stands_printable s k) || not (is_kind k Kind.ParenthesizedExpression)) kinds ≡ true
bare_rows Sort.item = refl
bare_rows s = refl

-- it has no parentheses
pub run_bare : (t : Term) → is_small t ≡ true → strip (run t) ≡ run t
run_bare t h =
    fits_bare stands_printable printable_texts places (λ s k e. not-true (is_kind k Kind.ParenthesizedExpression) (when (stands_printable s) (λ m. not (is_kind m Kind.ParenthesizedExpression)) (bare_rows s) k e)) (one Sort.program) (run t) (run_printable t h)
