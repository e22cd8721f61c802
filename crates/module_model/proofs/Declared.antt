-- What a tree declares stays when its references are written anew, and is made of names that pass the test.
use Rattle.std.proofs.Common.{◌≡◌, refl, ℕ, zero, suc, List, [], Bool, true}
use Rattle.std.proofs.lemmas.Bool.{and_parts}
use Rattle.js_term.specs.Term.{Text, Term, absent, list, node, Terms, none, more, first, rest}
use Rattle.js_term.specs.declared.kind.Kind.{Kind}
use Rattle.js_term.specs.Scope.{Role, role, Env, declared, declared_all, declared_first, declares, kid, inner}
use Rattle.js_term.specs.Form.{is_small_name}
use Rattle.module_model.specs.Resolved.{read, read_kids, finished}
use Rattle.module_model.specs.ReadBack.{fine, fine_all, fine_here}
use Rattle.module_model.proofs.Names.{Names, no_names, a_name, names_append}

module _ (f : Env → Text → Term) (quiet : (env : Env) (x : Text) → declared (f env x) ≡ []) where
  by_role : (env : Env) (k : Kind) (texts : List Text) (ts us : Terms) → declared_all us ≡ declared_all ts → declared_first us ≡ declared_first ts → (r : Role) → role k ≡ r → declared (finished (f env) r k texts ts us) ≡ declares r texts (declared_all ts) (declared_first ts)
  by_role env k texts ts us p q Role.reference e = quiet env (first texts)
  by_role env k texts ts us p q Role.function_named e = rw e q
  by_role env k texts ts us p q Role.all_kids e = rw e p
  by_role env k texts ts us p q Role.first_kid e = rw e q
  by_role env k texts ts us p q Role.exports_declaration e = rw e p
  by_role env k texts ts us p q r e = rw e refl

  mutual
    pub declared_read : (env : Env) (t : Term) → declared (read f env t) ≡ declared t
    declared_read env absent = refl
    declared_read env (list ts) = declared_reads (λ n. env) ts
    declared_read env (node k texts ts) =
        by_role env k texts ts (read_kids f (inner (role k) env ts) ts) (declared_reads (inner (role k) env ts) ts) (declared_firsts (inner (role k) env ts) ts) (role k) refl

    pub declared_reads : (envs : ℕ → Env) (ts : Terms) → declared_all (read_kids f envs ts) ≡ declared_all ts
    declared_reads envs none = refl
    declared_reads envs (more t ts) = rw (declared_read (envs 0) t, declared_reads (λ n. envs (suc n)) ts) refl

    pub declared_firsts : (envs : ℕ → Env) (ts : Terms) → declared_first (read_kids f envs ts) ≡ declared_first ts
    declared_firsts envs none = refl
    declared_firsts envs (more t ts) = declared_read (envs 0) t

  pub declared_kid : (n : ℕ) (envs : ℕ → Env) (ts : Terms) → declared (kid n (read_kids f envs ts)) ≡ declared (kid n ts)
  declared_kid n envs none = refl
  declared_kid zero envs (more t ts) = declared_read (envs 0) t
  declared_kid (suc n) envs (more t ts) = declared_kid n (λ m. envs (suc m)) ts

  pub declared_rest : (envs : ℕ → Env) (ts : Terms) → declared_all (rest (read_kids f envs ts)) ≡ declared_all (rest ts)
  declared_rest envs none = refl
  declared_rest envs (more t ts) = declared_reads (λ n. envs (suc n)) ts

-- a tree of small names, and no form of the root
abbrev pub is_inside : Term → Bool
is_inside = fine is_small_name is_small_name

abbrev pub are_inside : Terms → Bool
are_inside = fine_all is_small_name is_small_name

abbrev pub is_inside_here : Role → List Text → Bool
is_inside_here = fine_here is_small_name is_small_name

names_by_role : (texts : List Text) (ts : Terms) → Names (declared_all ts) → Names (declared_first ts) → (r : Role) → is_inside_here r texts ≡ true → Names (declares r texts (declared_all ts) (declared_first ts))
names_by_role texts ts p q Role.bound h = a_name h no_names
names_by_role texts ts p q Role.function_named h = q
names_by_role texts ts p q Role.all_kids h = p
names_by_role texts ts p q Role.first_kid h = q
names_by_role texts ts p q Role.exports_declaration h = p
names_by_role texts ts p q r h = no_names

mutual
  pub names_declared : (t : Term) → is_inside t ≡ true → Names (declared t)
  names_declared absent h = no_names
  names_declared (list ts) h = names_declared_all ts h
  names_declared (node k texts ts) h =
      let a = and_parts (is_inside_here (role k) texts) (are_inside ts) h in
      names_by_role texts ts (names_declared_all ts a.1) (names_declared_first ts a.1) (role k) a.0

  pub names_declared_all : (ts : Terms) → are_inside ts ≡ true → Names (declared_all ts)
  names_declared_all none h = no_names
  names_declared_all (more t ts) h =
      let a = and_parts (is_inside t) (are_inside ts) h in
      names_append (declared t) (declared_all ts) (names_declared t a.0) (names_declared_all ts a.1)

  pub names_declared_first : (ts : Terms) → are_inside ts ≡ true → Names (declared_first ts)
  names_declared_first none h = no_names
  names_declared_first (more t ts) h = names_declared t (and_parts (is_inside t) (are_inside ts) h).0

pub names_kid : (n : ℕ) (ts : Terms) → are_inside ts ≡ true → Names (declared (kid n ts))
names_kid n none h = no_names
names_kid zero (more t ts) h = names_declared t (and_parts (is_inside t) (are_inside ts) h).0
names_kid (suc n) (more t ts) h = names_kid n ts (and_parts (is_inside t) (are_inside ts) h).1

pub names_rest : (ts : Terms) → are_inside ts ≡ true → Names (declared_all (rest ts))
names_rest none h = no_names
names_rest (more t ts) h = names_declared_all ts (and_parts (is_inside t) (are_inside ts) h).1
