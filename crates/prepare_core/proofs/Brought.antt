-- What imports bring in, as a map.
use Rattle.std.proofs.Common.{◌≡◌, refl, sym, ◌∙◌, ap, ℕ, suc, List, [], ◌∷◌, ◌++◌, Option, None, Some, Bool, true, false, cond, map, take, length, get_or, ◌<◌, ◌+◌, ◌≤◌, add-one, append_assoc, subst, arith}
use Rattle.std.proofs.Math.Seq.{take-suc}
use Rattle.std.proofs.lemmas.List.{map-append, append-nil, length-append}
use Rattle.std.specs.Prelude.{option_map, is_some}
use Rattle.std.specs.Cmp.Lexicographic.{bytes_decides}
use Rattle.std.specs.Map.{lookup}
use Rattle.js_term.specs.Term.{Text, Term, absent, list, node, all, is_text}
use Rattle.js_term.specs.Scope.{Role, role, Scope, Entry, imported, entry_of, brought, bound_by, past, all_brought, is_request}
use Rattle.small_tree.specs.TermOf.{specifier_term, statement_term}
use Rattle.small_tree.specs.declared.module.ImportSpecifier.{ImportSpecifier}
use Rattle.small_tree.specs.declared.statement.Statement.{Statement}
use Rattle.module_model.specs.Meaning.{asked, asks, requests}
use Rattle.prepare_core.specs.Names.{HasImports, brought_in, is_import}
use Rattle.prepare_core.specs.declared.imported.Import.{Import}
use Rattle.prepare_core.proofs.Look.{entry_for, entry_lookup, differ}

abbrev pub or_else : {A : Type 0} → Option A → Option A → Option A
or_else None b = b
or_else (Some a) b = Some a

pub entry_append : (s t : Scope) (q : Text) → entry_of (s ++ t) q ≡ or_else (entry_of s q) (entry_of t q)
entry_append [] t q = refl
entry_append (e ∷ s) t q =
    elim (is_text e.0 q) as (λ b. cond b (Some e.1) (entry_of (s ++ t) q) ≡ or_else (cond b (Some e.1) (entry_of s q)) (entry_of t q)) [ true ↦ refl | false ↦ entry_append s t q ]

itself : (s : Scope) (q : Text) → or_else (entry_of s q) None ≡ entry_of s q
itself s q = elim (entry_of s q) as (λ o. or_else o None ≡ o) [ None ↦ refl | Some e ↦ refl ]

-- a name that is there already
pub brought_twice : (es : List (Text × Import)) (x : Text) (e : Entry) → is_some (lookup (is_text x) es) ≡ true → HasImports (brought_in es ++ (x, e) ∷ []) es
brought_twice es x e h = record { same = λ q. sym (entry_append (brought_in es) ((x, e) ∷ []) q ∙ by q (is_text x q) refl) }
  where
    kept : (o : Option Import) → is_some o ≡ true → (b : Option Entry) → or_else (option_map entry_for o) b ≡ option_map entry_for o
    kept None h b = differ (sym h)
    kept (Some i) h b = refl

    by : (q : Text) (b : Bool) → is_text x q ≡ b → or_else (entry_of (brought_in es) q) (cond b (Some e) None) ≡ entry_of (brought_in es) q
    by q false p = itself (brought_in es) q
    by q true p =
        let s : x ≡ q = (bytes_decides x q).0 p in
        rw (entry_lookup es q, ← s) (kept (lookup (is_text x) es) h (Some e))

-- a name that was not there
brought_once : (es fs : List (Text × Import)) (x : Text) (i : Import) → is_some (lookup (is_text x) es) ≡ false → ((q : Text) → lookup (is_text q) fs ≡ cond (is_text x q) (Some i) (lookup (is_text q) es)) → HasImports (brought_in es ++ (x, entry_for i) ∷ []) fs
brought_once es fs x i h e = record { same = λ q. entry_lookup fs q ∙ ap (option_map entry_for) (e q) ∙ by q (is_text x q) refl ∙ sym (entry_append (brought_in es) ((x, entry_for i) ∷ []) q) }
  where
    absent : (o : Option Import) → is_some o ≡ false → (b : Option Entry) → b ≡ or_else (option_map entry_for o) b
    absent None h b = refl
    absent (Some j) h b = differ h

    by : (q : Text) (b : Bool) → is_text x q ≡ b → option_map entry_for (cond b (Some i) (lookup (is_text q) es)) ≡ or_else (entry_of (brought_in es) q) (cond b (Some (entry_for i)) None)
    by q false p = sym (entry_lookup es q) ∙ sym (itself (brought_in es) q)
    by q true p =
        let s : x ≡ q = (bytes_decides x q).0 p in
        rw (entry_lookup es q, ← s) (absent (lookup (is_text x) es) h (Some (entry_for i)))

pub brought_new : (es fs : List (Text × Import)) (x k y : Text) (i : Import) → is_some (lookup (is_text x) es) ≡ false → y ≡ x → i.name ≡ k → ((q : Text) → lookup (is_text q) fs ≡ cond (is_text y q) (Some i) (lookup (is_text q) es)) → HasImports (brought_in es ++ (x, imported i.request (Some k)) ∷ []) fs
brought_new es fs x k y i h p q e =
    rw (← q) (brought_once es fs x i h (λ t. e t ∙ ap (λ z. cond (is_text z t) (Some i) (lookup (is_text t) es)) p))

pub has_none : HasImports [] []
has_none = record { same = λ q. refl }

pub has_itself : (es : List (Text × Import)) → HasImports (brought_in es ++ []) es
has_itself es = record { same = λ q. rw (append-nil (brought_in es)) refl }

-- what is added to the entries is added to the scope
pub has_more : (s t : Scope) (es fs : List (Text × Import)) → HasImports s es → HasImports (brought_in es ++ t) fs → HasImports (s ++ t) fs
has_more s t es fs h k = record { same = λ q. k.same q ∙ entry_append (brought_in es) t q ∙ rw (h.same q) (sym (entry_append s t q)) }

bound_append : (j : ℕ) (ts : List Term) (t : Term) → bound_by j (all (ts ++ t ∷ [])) ≡ bound_by j (all ts) ++ bound_by j (all (t ∷ []))
bound_append j [] t = refl
bound_append j (u ∷ ts) t = ap (λ s. bound_by j (all (u ∷ [])) ++ s) (bound_append j ts t)

specifiers_more : (j : ℕ) (start : Scope) (xs : List ImportSpecifier) (es fs : List (Text × Import)) (i : ℕ) (d : ImportSpecifier) → i < length xs → HasImports (start ++ bound_by j (all (map specifier_term (take i xs)))) es → HasImports (brought_in es ++ bound_by j (all (specifier_term (get_or xs i d) ∷ []))) fs → HasImports (start ++ bound_by j (all (map specifier_term (take (i + 1) xs)))) fs
specifiers_more j start xs es fs i d l h k =
    let t : Scope = bound_by j (all (specifier_term (get_or xs i d) ∷ [])) in
    rw (add-one, take-suc xs i d l, map-append specifier_term (take i xs) (get_or xs i d ∷ []), bound_append j (map specifier_term (take i xs)) (specifier_term (get_or xs i d)), ← append_assoc start (bound_by j (all (map specifier_term (take i xs)))) t) (has_more (start ++ bound_by j (all (map specifier_term (take i xs)))) t es fs h k)

pub specifiers_next : (j : ℕ) (start : Scope) (xs : List ImportSpecifier) (es fs : List (Text × Import)) (i : ℕ) (d x : ImportSpecifier) → i < length xs → x ≡ get_or xs i d → HasImports (start ++ bound_by j (all (map specifier_term (take i xs)))) es → HasImports (brought_in es ++ bound_by j (all (specifier_term x ∷ []))) fs → HasImports (start ++ bound_by j (all (map specifier_term (take (i + 1) xs)))) fs
specifiers_next j start xs es fs i d x l e h k = specifiers_more j start xs es fs i d l h (subst (λ y. HasImports (brought_in es ++ bound_by j (all (specifier_term y ∷ []))) fs) e k)

-- statements that are no imports

pub asks_nothing : (t : Term) → is_import t ≡ false → asked t ≡ []
asks_nothing absent h = refl
asks_nothing (list ts) h = refl
asks_nothing (node k texts ts) h = by (role k) h
  where
    by : (r : Role) → is_request r ≡ false → asks r ts ≡ []
    by Role.imports h = differ h
    by r h = refl

-- the number of the next request

past_asked : (t : Term) (j : ℕ) → past t j ≡ j + length (asked t)
past_asked absent j = omega arith
past_asked (list ts) j = omega arith
past_asked (node k texts ts) j = by (role k)
  where
    by : (r : Role) → cond (is_request r) (suc j) j ≡ j + length (asks r ts)
    by Role.imports = omega arith
    by r = omega arith

pub requests_append : (ts : List Term) (t : Term) → requests (all (ts ++ t ∷ [])) ≡ requests (all ts) ++ asked t
requests_append [] t = append-nil (asked t)
requests_append (u ∷ ts) t = rw (requests_append ts t) (sym (append_assoc (asked u) (requests (all ts)) (asked t)))

brought_append : (j : ℕ) (ts : List Term) (t : Term) → all_brought j (all (ts ++ t ∷ [])) ≡ all_brought j (all ts) ++ brought (j + length (requests (all ts))) t
brought_append j [] t = append-nil (brought j t) ∙ ap (λ n. brought n t) (omega arith)
brought_append j (u ∷ ts) t =
    let e : past u j + length (requests (all ts)) ≡ j + length (asked u ++ requests (all ts)) = rw (past_asked u j) (omega (arith, length-append (asked u) (requests (all ts)))) in
    rw (brought_append (past u j) ts t, e) (sym (append_assoc (brought j u) (all_brought (past u j) (all ts)) (brought (j + length (asked u ++ requests (all ts))) t)))

asked_few : (t : Term) → length (asked t) ≤ 1
asked_few absent = omega arith
asked_few (list ts) = omega arith
asked_few (node k texts ts) = by (role k)
  where
    by : (r : Role) → length (asks r ts) ≤ 1
    by Role.imports = omega arith
    by r = omega arith

pub requests_few : (xs : List Statement) → length (requests (all (map statement_term xs))) ≤ length xs
requests_few [] = omega arith
requests_few (x ∷ xs) = omega (arith, length-append (asked (statement_term x)) (requests (all (map statement_term xs))), asked_few (statement_term x), requests_few xs)

-- one more statement
statements_more : (xs : List Statement) (es fs : List (Text × Import)) (i j : ℕ) (d : Statement) → i < length xs → j ≡ length (requests (all (map statement_term (take i xs)))) → HasImports (all_brought 0 (all (map statement_term (take i xs)))) es → HasImports (brought_in es ++ brought j (statement_term (get_or xs i d))) fs → HasImports (all_brought 0 (all (map statement_term (take (i + 1) xs)))) fs
statements_more xs es fs i j d l n h k =
    let z : 0 + j ≡ j = omega arith in
    rw (add-one, take-suc xs i d l, map-append statement_term (take i xs) (get_or xs i d ∷ []), brought_append 0 (map statement_term (take i xs)) (statement_term (get_or xs i d)), ← n, z) (has_more (all_brought 0 (all (map statement_term (take i xs)))) (brought j (statement_term (get_or xs i d))) es fs h k)

number_more : (xs : List Statement) (i j n : ℕ) (d : Statement) → i < length xs → j ≡ length (requests (all (map statement_term (take i xs)))) → n ≡ j + length (asked (statement_term (get_or xs i d))) → n ≡ length (requests (all (map statement_term (take (i + 1) xs))))
number_more xs i j n d l p q =
    rw (add-one, take-suc xs i d l, map-append statement_term (take i xs) (get_or xs i d ∷ []), requests_append (map statement_term (take i xs)) (statement_term (get_or xs i d))) (omega (arith, length-append (requests (all (map statement_term (take i xs)))) (asked (statement_term (get_or xs i d)))))

pub statements_next : (xs : List Statement) (es fs : List (Text × Import)) (i j : ℕ) (d x : Statement) → i < length xs → x ≡ get_or xs i d → j ≡ length (requests (all (map statement_term (take i xs)))) → HasImports (all_brought 0 (all (map statement_term (take i xs)))) es → HasImports (brought_in es ++ brought j (statement_term x)) fs → HasImports (all_brought 0 (all (map statement_term (take (i + 1) xs)))) fs
statements_next xs es fs i j d x l e n h k = statements_more xs es fs i j d l n h (subst (λ y. HasImports (brought_in es ++ brought j (statement_term y)) fs) e k)

pub number_next : (xs : List Statement) (i j n : ℕ) (d x : Statement) → i < length xs → x ≡ get_or xs i d → j ≡ length (requests (all (map statement_term (take i xs)))) → n ≡ j + length (asked (statement_term x)) → n ≡ length (requests (all (map statement_term (take (i + 1) xs))))
number_next xs i j n d x l e p q = number_more xs i j n d l p (q ∙ ap (λ y. j + length (asked (statement_term y))) e)
