-- What statements ask for, hand out and keep, one more statement at a time.
use Rattle.std.proofs.Common.{◌≡◌, refl, sym, ◌∙◌, ap, ℕ, suc, List, [], ◌∷◌, ◌++◌, Option, false, map, take, length, get_or, ◌<◌, ◌+◌, add-one, append_assoc, arith}
use Rattle.std.proofs.Math.Seq.{take-suc}
use Rattle.std.proofs.lemmas.List.{map-append, append-nil}
use Rattle.js_term.specs.Term.{Text, Term, absent, list, node, Terms, none, more, one, append, all, text_of, maybe}
use Rattle.std.specs.Prelude.{option_map}
use Rattle.js_term.specs.Scope.{Role, role, Env, is_request}
use Rattle.small_tree.specs.TermOf.{specifier_term, specifiers_term, export_name_term, statement_term, declaration_term}
use Rattle.small_tree.specs.declared.module.Declaration.{Declaration}
use Rattle.small_tree.specs.declared.module.ExportDeclaration.{ExportDeclaration}
use Rattle.small_tree.specs.declared.module.ImportDeclaration.{ImportDeclaration}
use Rattle.small_tree.specs.declared.module.ImportSpecifier.{ImportSpecifier}
use Rattle.small_tree.specs.declared.statement.Statement.{Statement}
use Rattle.small_tree.specs.declared.statement.Statement.TheVariants as statement
use Rattle.small_tree.proofs.Levels.{s_ImportDeclaration, s_ExportDeclaration}
use Rattle.module_model.specs.Meaning.{Request, asked, requests, imported_by, imported_names, sources_of, handed_out, all_handed_out, keeps, kept, all_kept}
use Rattle.module_model.specs.Run.{written, getters, written_requests}
use Rattle.module_model.specs.Shape.{request, getter}
use Rattle.prepare_core.specs.Carried.{carried, carried_each}
use Rattle.prepare_core.specs.Names.{is_import, is_export, is_export_role}
use Rattle.prepare_core.proofs.Brought.{requests_append, asks_nothing}
use Rattle.prepare_core.proofs.Look.{differ}
use Rattle.prepare_core.proofs.Nodes.{all_append}

pub append_terms : (ts us vs : Terms) → append (append ts us) vs ≡ append ts (append us vs)
append_terms none us vs = refl
append_terms (more t ts) us vs = ap (more t) (append_terms ts us vs)

pub append_none : (ts : Terms) → append ts none ≡ ts
append_none none = refl
append_none (more t ts) = ap (more t) (append_none ts)

-- one more statement of a list that is written
pub item_added : (old new : List Statement) (s : Statement) (t : Term) → new ≡ old ++ s ∷ [] → statement_term s ≡ t → all (map statement_term new) ≡ append (all (map statement_term old)) (one t)
item_added old new s t p q = rw (p, all_append statement_term old s, q) refl

-- names of specifiers

imported_append : (ts : List Term) (t : Term) → imported_by (all (ts ++ t ∷ [])) ≡ imported_by (all ts) ++ imported_by (one t)
imported_append [] t = refl
imported_append (u ∷ ts) t = ap (λ xs. imported_by (one u) ++ xs) (imported_append ts t)

pub names_next : (xs : List ImportSpecifier) (out : List Text) (x : Text) (i : ℕ) (d : ImportSpecifier) → out ≡ imported_by (all (map specifier_term (take i xs))) → i < length xs → x ≡ text_of (export_name_term (get_or xs i d).imported) → out ++ x ∷ [] ≡ imported_by (all (map specifier_term (take (i + 1) xs)))
names_next xs out x i d p l q = rw (add-one, take-suc xs i d l, map-append specifier_term (take i xs) (get_or xs i d ∷ []), imported_append (map specifier_term (take i xs)) (specifier_term (get_or xs i d)), p, q) refl

-- requests

abbrev pub request_of : ImportDeclaration → Request
request_of n = record { source = n.source.value; names = imported_names (maybe (option_map specifiers_term n.specifiers)); star = false }

pub asked_import : (n : ImportDeclaration) → asked (statement_term (statement.ImportDeclaration n)) ≡ request_of n ∷ []
asked_import n = ap asked (s_ImportDeclaration n)

written_append : (j : ℕ) (rs qs : List Request) → written_requests j (rs ++ qs) ≡ append (written_requests j rs) (written_requests (j + length rs) qs)
written_append j [] qs = ap (λ n. written_requests n qs) (omega arith)
written_append j (r ∷ rs) qs =
    let e : suc j + length rs ≡ j + suc (length rs) = omega arith in
    ap (more (request j r.source r.names)) (written_append (suc j) rs qs ∙ ap (λ n. append (written_requests (suc j) rs) (written_requests n qs)) e)

pub no_request : (us : Terms) (j : ℕ) (t : Term) → is_import t ≡ false → us ≡ append us (written_requests j (asked t))
no_request us j t h = rw (asks_nothing t h) (sym (append_none us))

pub one_request : (old new : List Statement) (s made : Statement) (n : ImportDeclaration) (j : ℕ) (source : Text) (names : Option (List Text)) → s ≡ statement.ImportDeclaration n → new ≡ old ++ made ∷ [] → statement_term made ≡ request j source names → source ≡ n.source.value → names ≡ imported_names (maybe (option_map specifiers_term n.specifiers)) → all (map statement_term new) ≡ append (all (map statement_term old)) (written_requests j (asked (statement_term s)))
one_request old new s made n j source names p q r e f = rw (p, asked_import n, ← e, ← f) (item_added old new made (request j source names) q r)

pub requests_next : (xs : List Statement) (out new : List Statement) (start : Terms) (i j : ℕ) (d x : Statement) → i < length xs → x ≡ get_or xs i d → j ≡ length (requests (all (map statement_term (take i xs)))) → all (map statement_term out) ≡ append start (written_requests 0 (requests (all (map statement_term (take i xs))))) → all (map statement_term new) ≡ append (all (map statement_term out)) (written_requests j (asked (statement_term x))) → all (map statement_term new) ≡ append start (written_requests 0 (requests (all (map statement_term (take (i + 1) xs)))))
requests_next xs out new start i j d x l e n p q =
    let rs : List Request = requests (all (map statement_term (take i xs))) in
    let z : 0 + length rs ≡ j = omega (arith, n) in
    q ∙ rw (p, e, add-one, take-suc xs i d l, map-append statement_term (take i xs) (get_or xs i d ∷ []), requests_append (map statement_term (take i xs)) (statement_term (get_or xs i d)), written_append 0 rs (asked (statement_term (get_or xs i d))), z) (append_terms start (written_requests 0 rs) (written_requests j (asked (statement_term (get_or xs i d)))))

-- sources

sources_append : (rs qs : List Request) → sources_of (rs ++ qs) ≡ sources_of rs ++ sources_of qs
sources_append [] qs = refl
sources_append (r ∷ rs) qs = ap (λ xs. r.source ∷ xs) (sources_append rs qs)

pub sources_next : (xs : List Statement) (out : List Text) (new : List Text) (i : ℕ) (d x : Statement) → i < length xs → x ≡ get_or xs i d → out ≡ sources_of (requests (all (map statement_term (take i xs)))) → new ≡ out ++ sources_of (asked (statement_term x)) → new ≡ sources_of (requests (all (map statement_term (take (i + 1) xs))))
sources_next xs out new i d x l e p q =
    q ∙ rw (p, e, add-one, take-suc xs i d l, map-append statement_term (take i xs) (get_or xs i d ∷ []), requests_append (map statement_term (take i xs)) (statement_term (get_or xs i d)), sources_append (requests (all (map statement_term (take i xs)))) (asked (statement_term (get_or xs i d)))) refl

-- exports

handed_append : (ts : List Term) (t : Term) → all_handed_out (all (ts ++ t ∷ [])) ≡ all_handed_out (all ts) ++ handed_out t
handed_append [] t = append-nil (handed_out t)
handed_append (u ∷ ts) t = rw (handed_append ts t) (sym (append_assoc (handed_out u) (all_handed_out (all ts)) (handed_out t)))

pub handed_next : (xs : List Statement) (out new : List Text) (i : ℕ) (d x : Statement) → i < length xs → x ≡ get_or xs i d → out ≡ all_handed_out (all (map statement_term (take i xs))) → new ≡ out ++ handed_out (statement_term x) → new ≡ all_handed_out (all (map statement_term (take (i + 1) xs)))
handed_next xs out new i d x l e p q =
    q ∙ rw (p, e, add-one, take-suc xs i d l, map-append statement_term (take i xs) (get_or xs i d ∷ []), handed_append (map statement_term (take i xs)) (statement_term (get_or xs i d))) refl

getters_append : (env : Env) (xs : List Text) (x : Text) → getters env (xs ++ x ∷ []) ≡ append (getters env xs) (getters env (x ∷ []))
getters_append env [] x = refl
getters_append env (y ∷ xs) x = ap (more (getter y (written env y))) (getters_append env xs x)

pub getters_next : (env : Env) (names : List Text) (out new : List Statement) (start : Terms) (i : ℕ) (d x : Text) → i < length names → x ≡ get_or names i d → all (map statement_term out) ≡ append start (getters env (take i names)) → all (map statement_term new) ≡ append (all (map statement_term out)) (getters env (x ∷ [])) → all (map statement_term new) ≡ append start (getters env (take (i + 1) names))
getters_next env names out new start i d x l e p q =
    q ∙ rw (p, e, add-one, take-suc names i d l, getters_append env (take i names) (get_or names i d)) (append_terms start (getters env (take i names)) (getters env (get_or names i d ∷ [])))

-- what stays

pub keeps_import : (n : ImportDeclaration) → kept (statement_term (statement.ImportDeclaration n)) ≡ none
keeps_import n = ap kept (s_ImportDeclaration n)

pub keeps_export : (n : ExportDeclaration Declaration) → kept (statement_term (statement.ExportDeclaration n)) ≡ one (declaration_term n.declaration)
keeps_export n = ap kept (s_ExportDeclaration n)

pub keeps_other : (t : Term) → is_import t ≡ false → is_export t ≡ false → kept t ≡ one t
keeps_other absent p q = refl
keeps_other (list ts) p q = refl
keeps_other (node k texts ts) p q = by (role k) p q
  where
    by : (r : Role) → is_request r ≡ false → is_export_role r ≡ false → keeps r (node k texts ts) ≡ one (node k texts ts)
    by Role.imports p q = differ p
    by Role.exports_declaration p q = differ q
    by r p q = refl

kept_append : (ts : List Term) (t : Term) → all_kept (all (ts ++ t ∷ [])) ≡ append (all_kept (all ts)) (kept t)
kept_append [] t = append_none (kept t)
kept_append (u ∷ ts) t = rw (kept_append ts t) (sym (append_terms (kept u) (all_kept (all ts)) (kept t)))

carried_append : (env : Env) (ts us : Terms) → carried_each env (append ts us) ≡ append (carried_each env ts) (carried_each env us)
carried_append env none us = refl
carried_append env (more t ts) us = ap (more (carried env t)) (carried_append env ts us)

pub other_kept : (env : Env) (old new : List Statement) (made : Statement) (t : Term) → is_import t ≡ false → is_export t ≡ false → new ≡ old ++ made ∷ [] → statement_term made ≡ carried env t → all (map statement_term new) ≡ append (all (map statement_term old)) (carried_each env (kept t))
other_kept env old new made t p q n e = rw (keeps_other t p q) (item_added old new made (carried env t) n e)

pub export_kept : (env : Env) (old new : List Statement) (s made : Statement) (n : ExportDeclaration Declaration) → s ≡ statement.ExportDeclaration n → new ≡ old ++ made ∷ [] → statement_term made ≡ carried env (declaration_term n.declaration) → all (map statement_term new) ≡ append (all (map statement_term old)) (carried_each env (kept (statement_term s)))
export_kept env old new s made n p q e = rw (p, keeps_export n) (item_added old new made (carried env (declaration_term n.declaration)) q e)

pub import_kept : (env : Env) (us : Terms) (s : Statement) (n : ImportDeclaration) → s ≡ statement.ImportDeclaration n → us ≡ append us (carried_each env (kept (statement_term s)))
import_kept env us s n p = rw (p, keeps_import n) (sym (append_none us))

-- a statement moves from what is left to what is made
pub kept_turn : (env : Env) (x : Statement) (rest out new : List Statement) (whole : Terms) → append (all (map statement_term out)) (carried_each env (all_kept (all (map statement_term (x ∷ rest))))) ≡ whole → all (map statement_term new) ≡ append (all (map statement_term out)) (carried_each env (kept (statement_term x))) → append (all (map statement_term new)) (carried_each env (all_kept (all (map statement_term rest)))) ≡ whole
kept_turn env x rest out new whole h q =
    let front : Terms = carried_each env (kept (statement_term x)) in
    let behind : Terms = carried_each env (all_kept (all (map statement_term rest))) in
    rw (q, append_terms (all (map statement_term out)) front behind) (rw (carried_append env (kept (statement_term x)) (all_kept (all (map statement_term rest)))) at h)
