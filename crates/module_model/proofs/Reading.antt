-- A tree as it is written for the runner is read as the tree.
use Rattle.std.proofs.Common.{◌≡◌, refl, sym, ap, ℕ, suc, List, Bool, true, false, ◌&&◌, cond, None, Some}
use Rattle.std.proofs.lemmas.Bool.{and_parts, and_from}
use Rattle.js_term.specs.Term.{Text, Term, absent, list, node, Terms, none, more, first, head, rest}
use Rattle.js_term.specs.declared.kind.Kind.{Kind}
use Rattle.js_term.specs.Scope.{Role, role, Env, Answer, import_of, local, arguments_of, global, resolve, inner}
use Rattle.module_model.specs.Shape.{detached}
use Rattle.module_model.specs.Resolved.{read_kids, finished, with_callee, in_callee, is_reference, is_member, answered, of_answer, resolved_each}
use Rattle.module_model.specs.ReadBack.{fine_all, is_readable, is_bindable}
use Rattle.module_model.specs.Run.{spelled, written, rewritten, rewritten_each}
use Rattle.module_model.proofs.EveryKind.{differ}
use Rattle.module_model.proofs.Names.{small_bindable}
use Rattle.module_model.proofs.Declared.{is_inside, are_inside, is_inside_here, declared_reads, declared_kid, declared_rest}
use Rattle.module_model.proofs.Related.{answers, is_good, Related, Alike, inner_related, quiet}

-- parts as they are written declare the same
pub written_alike : (envs : ℕ → Env) (ts : Terms) → Alike ts (read_kids written envs ts)
written_alike envs ts = record {
  every = declared_reads written quiet envs ts;
  later = declared_rest written quiet envs ts;
  each = λ m. declared_kid written quiet m envs ts;
}

module _ (n : ℕ) where
  callee_reference : (out : Env) (t : Term) → is_reference t ≡ true → (x : Text) (a : Answer) → answers out (spelled x a) ≡ of_answer a → in_callee (in_callee t (spelled x a)) (answers out (in_callee t (spelled x a))) ≡ in_callee t (of_answer a)
  callee_reference out t p x (import_of j None) e = rw (p, e) refl
  callee_reference out t p x (import_of j (Some k)) e = rw (p, e) refl
  callee_reference out t p x (local d y) e = rw (p, e) refl
  callee_reference out t p x (arguments_of d) e = rw (p, e) refl
  callee_reference out t p x (global y) e = rw (p, e) refl

  not_callee : (t u : Term) → is_reference t ≡ false → in_callee t u ≡ u
  not_callee t u p = rw p refl

  callee_other : (out : Env) (t u v : Term) → is_reference t ≡ false → is_reference u ≡ false → answers out u ≡ v → in_callee (in_callee t u) (answers out (in_callee t u)) ≡ in_callee t v
  callee_other out t u v p q e = rw (not_callee t u p, not_callee u (answers out u) q, not_callee t v p) e

  callee_role : (env out : Env) → Related n env out → (k : Kind) (texts : List Text) (ts : Terms) → is_inside_here (role k) texts ≡ true → (us vs : Terms) → (r : Role) → role k ≡ r → let u = finished (written env) r k texts ts us in let v = finished (answered env) r k texts ts vs in answers out u ≡ v → in_callee (in_callee (node k texts ts) u) (answers out (in_callee (node k texts ts) u)) ≡ in_callee (node k texts ts) v
  callee_role env out x k texts ts h us vs Role.reference e q = callee_reference out (node k texts ts) (rw e refl) (first texts) (resolve env (first texts)) (x.meets (first texts) (rw e at h))
  callee_role env out x k texts ts h us vs Role.calls e q = callee_other out (node k texts ts) (node k texts (with_callee ts us)) (node k texts (with_callee ts vs)) (rw e refl) (rw e refl) q
  callee_role env out x k texts ts h us vs r e q = callee_other out (node k texts ts) (node k texts us) (node k texts vs) (rw e refl) (rw e refl) q

  callee : (env out : Env) → Related n env out → (t : Term) → is_inside t ≡ true → answers out (rewritten env t) ≡ answers env t → in_callee (in_callee t (rewritten env t)) (answers out (in_callee t (rewritten env t))) ≡ in_callee t (answers env t)
  callee env out x absent h e = refl
  callee env out x (list ts) h e = e
  callee env out x (node k texts ts) h e =
      callee_role env out x k texts ts (and_parts (is_inside_here (role k) texts) (are_inside ts) h).0 (read_kids written (inner (role k) env ts) ts) (read_kids answered (inner (role k) env ts) ts) (role k) refl e

  abbrev Kids : Terms → Type 0
  Kids ts = (envs outs : ℕ → Env) → ((m : ℕ) → Related n (envs m) (outs m)) → read_kids answered outs (read_kids written envs ts) ≡ read_kids answered envs ts

  with_callee_same : (env out : Env) → Related n env out → (ts : Terms) → are_inside ts ≡ true → Kids ts → let us = with_callee ts (read_kids written (λ m. env) ts) in with_callee us (read_kids answered (λ m. out) us) ≡ with_callee ts (read_kids answered (λ m. env) ts)
  with_callee_same env out x none h kids = refl
  with_callee_same env out x (more t ts) h kids =
      let e : read_kids answered (λ m. out) (read_kids written (λ m. env) (more t ts)) ≡ read_kids answered (λ m. env) (more t ts) = kids (λ m. env) (λ m. out) (λ m. x) in
      rw (callee env out x t (and_parts (is_inside t) (are_inside ts) h).0 (ap head e)) (ap (λ us. more (in_callee t (answers env t)) us) (ap rest e))

  inside : (env out : Env) → Related n env out → (r : Role) (ts : Terms) → are_inside ts ≡ true → Kids ts → let us = read_kids written (inner r env ts) ts in read_kids answered (inner r out us) us ≡ read_kids answered (inner r env ts) ts
  inside env out x r ts h kids =
      let envs : ℕ → Env = inner r env ts in
      let us : Terms = read_kids written envs ts in
      kids envs (inner r out us) (inner_related n env out x r ts us h (written_alike envs ts))

  read_role : (env out : Env) → Related n env out → (k : Kind) (texts : List Text) (ts : Terms) → is_inside_here (role k) texts ≡ true → are_inside ts ≡ true → Kids ts → (r : Role) → role k ≡ r → answers out (finished (written env) r k texts ts (read_kids written (inner r env ts) ts)) ≡ finished (answered env) r k texts ts (read_kids answered (inner r env ts) ts)
  read_role env out x k texts ts h hs kids Role.reference e = x.meets (first texts) (rw e at h)
  read_role env out x k texts ts h hs kids Role.calls e = rw e (ap (node k texts) (with_callee_same env out x ts hs kids))
  read_role env out x k texts ts h hs kids r e = rw e (ap (node k texts) (inside env out x r ts hs kids))

  mutual
    pub same_read : (env out : Env) → Related n env out → (t : Term) → is_inside t ≡ true → answers out (rewritten env t) ≡ answers env t
    same_read env out x absent h = refl
    same_read env out x (list ts) h = ap list (same_reads (λ m. env) (λ m. out) (λ m. x) ts h)
    same_read env out x (node k texts ts) h =
        let a = and_parts (is_inside_here (role k) texts) (are_inside ts) h in
        read_role env out x k texts ts a.0 a.1 (λ envs outs y. same_reads envs outs y ts a.1) (role k) refl

    pub same_reads : (envs outs : ℕ → Env) → ((m : ℕ) → Related n (envs m) (outs m)) → (ts : Terms) → are_inside ts ≡ true → read_kids answered outs (read_kids written envs ts) ≡ read_kids answered envs ts
    same_reads envs outs x none h = refl
    same_reads envs outs x (more t ts) h =
        let a = and_parts (is_inside t) (are_inside ts) h in
        rw (same_read (envs 0) (outs 0) (x 0) t a.0, same_reads (λ m. envs (suc m)) (λ m. outs (suc m)) (λ m. x (suc m)) ts a.1) refl

  pub same_resolved : (env out : Env) → Related n env out → (ts : Terms) → are_inside ts ≡ true → resolved_each out (rewritten_each env ts) ≡ resolved_each env ts
  same_resolved env out x none h = refl
  same_resolved env out x (more t ts) h =
      let a = and_parts (is_inside t) (are_inside ts) h in
      rw (same_read env out x t a.0, same_resolved env out x ts a.1) refl

  -- what is written has names that are read back
  abbrev are_good : Terms → Bool
  are_good = fine_all (is_readable n) is_bindable

  good_callee : (b : Bool) (u : Term) → is_good n u ≡ true → is_good n (cond b (detached u) u) ≡ true
  good_callee true u h = rw h refl
  good_callee false u h = h

  good_with_callee : (ts us : Terms) → are_good us ≡ true → are_good (with_callee ts us) ≡ true
  good_with_callee none us h = h
  good_with_callee (more t ts) none h = h
  good_with_callee (more t ts) (more u us) h =
      let a = and_parts (is_good n u) (are_good us) h in
      and_from (is_good n (in_callee t u)) (are_good us) (good_callee (is_reference t && is_member u) u a.0) a.1

  good_role : (env out : Env) → Related n env out → (k : Kind) (texts : List Text) (ts us : Terms) → is_inside_here (role k) texts ≡ true → are_good us ≡ true → (r : Role) → role k ≡ r → is_good n (finished (written env) r k texts ts us) ≡ true
  good_role env out x k texts ts us h g Role.reference e = x.readable (first texts) (rw e at h)
  good_role env out x k texts ts us h g Role.bound e = rw e (and_from (is_bindable (first texts)) (are_good us) (small_bindable (first texts) (rw e at h)) g)
  good_role env out x k texts ts us h g Role.calls e = rw e (good_with_callee ts us g)
  good_role env out x k texts ts us h g Role.imports e = differ (sym (rw e at h))
  good_role env out x k texts ts us h g Role.exports_declaration e = differ (sym (rw e at h))
  good_role env out x k texts ts us h g r e = rw e g

  mutual
    pub good_read : (env out : Env) → Related n env out → (t : Term) → is_inside t ≡ true → is_good n (rewritten env t) ≡ true
    good_read env out x absent h = refl
    good_read env out x (list ts) h = good_reads (λ m. env) (λ m. out) (λ m. x) ts h
    good_read env out x (node k texts ts) h =
        let a = and_parts (is_inside_here (role k) texts) (are_inside ts) h in
        let envs : ℕ → Env = inner (role k) env ts in
        let us : Terms = read_kids written envs ts in
        good_role env out x k texts ts us a.0 (good_reads envs (inner (role k) out us) (inner_related n env out x (role k) ts us a.1 (written_alike envs ts)) ts a.1) (role k) refl

    pub good_reads : (envs outs : ℕ → Env) → ((m : ℕ) → Related n (envs m) (outs m)) → (ts : Terms) → are_inside ts ≡ true → are_good (read_kids written envs ts) ≡ true
    good_reads envs outs x none h = refl
    good_reads envs outs x (more t ts) h =
        let a = and_parts (is_inside t) (are_inside ts) h in
        and_from (is_good n (rewritten (envs 0) t)) (are_good (read_kids written (λ m. envs (suc m)) ts)) (good_read (envs 0) (outs 0) (x 0) t a.0) (good_reads (λ m. envs (suc m)) (λ m. outs (suc m)) (λ m. x (suc m)) ts a.1)
