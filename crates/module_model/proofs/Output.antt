-- The output is read back as what the module means.
use Rattle.std.proofs.Common.{◌≡◌, refl, sym, ◌∙◌, ap, subst, ℕ, zero, suc, ◌+◌, ◌<◌, ◌^◌, arith, List, [], ◌∷◌, ◌++◌, length, length-append, Option, None, Some, Bool, true, false, ◌&&◌, add-zero}
use Rattle.std.specs.Prelude.{codes, decimal}
use Rattle.std.proofs.lemmas.Bool.{and_parts}
use Rattle.std.proofs.lemmas.List.{append_cancel_left}
use Rattle.js_term.specs.Term.{Text, is_text, Term, absent, list, node, Terms, none, more, append}
use Rattle.js_term.specs.Scope.{Role, role, Env, entry_of, plainly, declared_all, all_brought, module_env}
use Rattle.js_term.specs.Node.{const_of}
use Rattle.js_term.specs.Form.{Sort, one, is_small, items_of}
use Rattle.module_model.specs.Shape.{marked, import_name, getter, request, strings}
use Rattle.module_model.specs.Resolved.{resolved_each}
use Rattle.module_model.specs.Meaning.{Request, hashbang_of, directives_of, asks, asked, requests, all_handed_out, all_kept, exports_of, meaning}
use Rattle.module_model.specs.ReadBack.{at, texts_in, export_name, export_target, is_getter, request_source, request_names, is_request, exports_in, after_exports, requests_in, after_requests, fine_all, fine_targets, is_readable, is_bindable, is_request_name, has_object, targets, numbered, output_env, read_parts, read_stripped, read_back}
use Rattle.module_model.specs.Run.{written, rewritten_each, getters, written_requests, run_items, run}
use Rattle.module_model.proofs.Names.{Names, a_name, false_by, text_same, entry_append, plainly_no_object, numbered_none}
use Rattle.module_model.proofs.Declared.{are_inside, declared_reads, names_declared_all}
use Rattle.module_model.proofs.Related.{is_good, Related, quiet}
use Rattle.module_model.proofs.Reading.{good_reads, same_resolved}
use Rattle.module_model.proofs.SameTrees.{same_self, same_is}
use Rattle.module_model.proofs.Small.{small_each, all_kept_inside, all_handed_names}
use Rattle.module_model.proofs.Root.{Brought, all_brought_by, kept_declares, related_roots}
use Rattle.module_model.proofs.Printable.{small_form, run_bare}

-- the runner's other names are no requests'
exports_name : (n : ℕ) → is_request_name n (marked (codes "exports__")) ≡ false
exports_name zero = refl
exports_name (suc n) = exports_name n

importer_other : (j : ℕ) → is_text (marked (codes "import__")) (import_name j) ≡ false
importer_other j =
    false_by (is_text (marked (codes "import__")) (import_name j)) (λ e.
    let q : codes "_" ≡ decimal j ++ codes "__" = append_cancel_left (marked (codes "import_")) (codes "_") (decimal j ++ codes "__") (text_same (marked (codes "import__")) (import_name j) e) in
    let l : length (codes "_") ≡ length (decimal j ++ codes "__") = ap length q in
    let m : length (decimal j ++ codes "__") ≡ length (decimal j) + 2 = length-append (decimal j) (codes "__") in
    absurd (omega arith))

importer_name : (n : ℕ) → is_request_name n (marked (codes "import__")) ≡ false
importer_name zero = refl
importer_name (suc n) = rw (importer_other n) (importer_name n)

abbrev written_exports : Env → List Text → List (Text × Term)
written_exports env [] = []
written_exports env (x ∷ xs) = (x, written env x) ∷ written_exports env xs

module _ (n : ℕ) where
  abbrev are_good : Terms → Bool
  are_good = fine_all (is_readable n) is_bindable

  getter_bad : (x : Text) (u : Term) → is_good n (getter x u) ≡ false
  getter_bad x u = rw (exports_name n) refl

  no_getter : (t : Term) → is_good n t ≡ true → is_getter t ≡ false
  no_getter t h = false_by (is_getter t) (λ e. sym (getter_bad (export_name t) (export_target t)) ∙ ap (is_good n) (sym (same_is t (getter (export_name t) (export_target t)) e)) ∙ h)

  const_good : (x : Text) (t : Term) → is_good n (const_of x t) ≡ true → is_good n t ≡ true
  const_good x t h =
      let a = and_parts (((is_bindable x && true) && (is_good n t && true)) && true) true h in
      let b = and_parts ((is_bindable x && true) && (is_good n t && true)) true a.0 in
      let c = and_parts (is_bindable x && true) (is_good n t && true) b.0 in
      (and_parts (is_good n t) true c.1).0

  no_request : (j : ℕ) (t : Term) → is_good n t ≡ true → is_request j t ≡ false
  no_request j t h =
      false_by (is_request j t) (λ e.
      let p : is_good n (request j (request_source t) (request_names t)) ≡ true = ap (is_good n) (sym (same_is t (request j (request_source t) (request_names t)) e)) ∙ h in
      let q : is_good n (at (0 ∷ 0 ∷ 1 ∷ []) (request j (request_source t) (request_names t))) ≡ true = const_good (import_name j) (at (0 ∷ 0 ∷ 1 ∷ []) (request j (request_source t) (request_names t))) p in
      rw (importer_name n) at q)

  good_no_exports : (ts : Terms) → are_good ts ≡ true → exports_in ts ≡ []
  good_no_exports none h = refl
  good_no_exports (more t ts) h = rw (no_getter t (and_parts (is_good n t) (are_good ts) h).0) refl

  good_after_exports : (ts : Terms) → are_good ts ≡ true → after_exports ts ≡ ts
  good_after_exports none h = refl
  good_after_exports (more t ts) h = rw (no_getter t (and_parts (is_good n t) (are_good ts) h).0) refl

  good_no_requests : (j : ℕ) (ts : Terms) → are_good ts ≡ true → requests_in j ts ≡ []
  good_no_requests j none h = refl
  good_no_requests j (more t ts) h = rw (no_request j t (and_parts (is_good n t) (are_good ts) h).0) refl

  good_after_requests : (j : ℕ) (ts : Terms) → are_good ts ≡ true → after_requests j ts ≡ ts
  good_after_requests j none h = refl
  good_after_requests j (more t ts) h = rw (no_request j t (and_parts (is_good n t) (are_good ts) h).0) refl

  -- behind the getters stand requests, or statements
  requests_no_exports : (j : ℕ) (rs : List Request) (ts : Terms) → are_good ts ≡ true → exports_in (append (written_requests j rs) ts) ≡ []
  requests_no_exports j [] ts h = good_no_exports ts h
  requests_no_exports j (r ∷ rs) ts h = refl

  requests_after_exports : (j : ℕ) (rs : List Request) (ts : Terms) → are_good ts ≡ true → after_exports (append (written_requests j rs) ts) ≡ append (written_requests j rs) ts
  requests_after_exports j [] ts h = good_after_exports ts h
  requests_after_exports j (r ∷ rs) ts h = refl

  getter_read : (x : Text) (u : Term) → is_getter (getter x u) ≡ true
  getter_read x u = same_self (getter x u)

  read_exports : (env : Env) (xs : List Text) (j : ℕ) (rs : List Request) (ts : Terms) → are_good ts ≡ true → exports_in (append (getters env xs) (append (written_requests j rs) ts)) ≡ written_exports env xs
  read_exports env [] j rs ts h = requests_no_exports j rs ts h
  read_exports env (x ∷ xs) j rs ts h = rw (getter_read x (written env x), read_exports env xs j rs ts h) refl

  read_after : (env : Env) (xs : List Text) (j : ℕ) (rs : List Request) (ts : Terms) → are_good ts ≡ true → after_exports (append (getters env xs) (append (written_requests j rs) ts)) ≡ append (written_requests j rs) ts
  read_after env [] j rs ts h = requests_after_exports j rs ts h
  read_after env (x ∷ xs) j rs ts h = rw (getter_read x (written env x)) (read_after env xs j rs ts h)

texts_strings : (xs : List Text) → texts_in (strings xs) ≡ xs
texts_strings [] = refl
texts_strings (x ∷ xs) = ap (λ ys. x ∷ ys) (texts_strings xs)

names_read : (j : ℕ) (source : Text) (names : Option (List Text)) → request_names (request j source names) ≡ names
names_read j source None = refl
names_read j source (Some xs) = ap Some (texts_strings xs)

request_read : (j : ℕ) (source : Text) (names : Option (List Text)) → is_request j (request j source names) ≡ true
request_read j source names = rw (names_read j source names) (same_self (request j source names))

abbrev unstarred : List Request → List Request
unstarred [] = []
unstarred (r ∷ rs) = record { source = r.source; names = r.names; star = false } ∷ unstarred rs

module _ (n : ℕ) where
  read_requests : (j : ℕ) (rs : List Request) (ts : Terms) → fine_all (is_readable n) is_bindable ts ≡ true → requests_in j (append (written_requests j rs) ts) ≡ unstarred rs
  read_requests j [] ts h = good_no_requests n j ts h
  read_requests j (r ∷ rs) ts h = rw (request_read j r.source r.names, names_read j r.source r.names, read_requests (suc j) rs ts h) refl

  read_rest : (j : ℕ) (rs : List Request) (ts : Terms) → fine_all (is_readable n) is_bindable ts ≡ true → after_requests j (append (written_requests j rs) ts) ≡ ts
  read_rest j [] ts h = good_after_requests n j ts h
  read_rest j (r ∷ rs) ts h = rw (request_read j r.source r.names) (read_rest (suc j) rs ts h)

-- no request of a small module asks for all exports
unstarred_append : (xs ys : List Request) → unstarred (xs ++ ys) ≡ unstarred xs ++ unstarred ys
unstarred_append [] ys = refl
unstarred_append (x ∷ xs) ys = ap (λ zs. record { source = x.source; names = x.names; star = false } ∷ zs) (unstarred_append xs ys)

asks_unstarred : (r : Role) (ts : Terms) → unstarred (asks r ts) ≡ asks r ts
asks_unstarred Role.imports ts = refl
asks_unstarred r ts = refl

asked_unstarred : (t : Term) → unstarred (asked t) ≡ asked t
asked_unstarred absent = refl
asked_unstarred (list ts) = refl
asked_unstarred (node k texts ts) = asks_unstarred (role k) ts

requests_unstarred : (ts : Terms) → unstarred (requests ts) ≡ requests ts
requests_unstarred none = refl
requests_unstarred (more t ts) = rw (unstarred_append (asked t) (requests ts), asked_unstarred t, requests_unstarred ts) refl

exports_targets : (n : ℕ) (env out : Env) → Related n env out → (xs : List Text) → Names xs → targets out (written_exports env xs) ≡ exports_of env xs
exports_targets n env out x [] p = refl
exports_targets n env out x (y ∷ ys) (a_name h p) = rw (x.meets y h, exports_targets n env out x ys p) refl

exports_fine : (n : ℕ) (env out : Env) → Related n env out → (xs : List Text) → Names xs → fine_targets n (written_exports env xs) ≡ true
exports_fine n env out x [] p = refl
exports_fine n env out x (y ∷ ys) (a_name h p) = rw (x.readable y h, exports_fine n env out x ys p) refl

object_kept : (n : ℕ) (xs : List Text) (es : List (Text × Term)) → Names xs → has_object ((plainly xs ++ numbered n) ∷ []) es ≡ true
object_kept n xs [] p = refl
object_kept n xs (e ∷ es) p = rw (entry_append (plainly xs) (numbered n) (codes "Object"), plainly_no_object xs p, numbered_none n (codes "Object") refl) refl

parts_defined : (hs : List Text) (ds : Terms) (es : List (Text × Term)) (qs : List Request) (ts : Terms) → let n = length qs in let out = output_env n ts in fine_all (is_readable n) is_bindable ts ≡ true → fine_targets n es ≡ true → has_object out es ≡ true → read_parts hs ds es qs ts ≡ Some (record { hashbang = hs; directives = ds; requests = qs; exports = targets out es; statements = resolved_each out ts })
parts_defined hs ds es qs ts p q r = rw (p, q, r) refl

module _ (ts : Terms) (small : small_each (one Sort.item) ts ≡ true) (few : length (requests ts) < 2 ^ 64) where
  abbrev env : Env
  env = module_env ts

  abbrev n : ℕ
  n = length (requests ts)

  abbrev ks : Terms
  ks = all_kept ts

  abbrev rs : Terms
  rs = rewritten_each env ks

  abbrev xs : List Text
  xs = all_handed_out ts

  abbrev out : Env
  out = (plainly (declared_all ts) ++ numbered n) ∷ []

  kept_is_inside : are_inside ks ≡ true
  kept_is_inside = all_kept_inside ts small

  names : Names (declared_all ts)
  names = subst Names (kept_declares ts) (names_declared_all ks kept_is_inside)

  exported : Names xs
  exported = all_handed_names ts small

  roots : Related n env out
  roots = related_roots (all_brought 0 ts) (declared_all ts) names n few (λ x. subst (λ m. Brought m (entry_of (all_brought 0 ts) x)) (add-zero (length (requests ts))) (all_brought_by 0 ts x small))

  out_is : output_env n rs ≡ out
  out_is = ap (λ ys. (plainly ys ++ numbered n) ∷ []) (declared_reads written quiet (λ m. env) ks ∙ kept_declares ts)

  rest_good : fine_all (is_readable n) is_bindable rs ≡ true
  rest_good = good_reads n (λ m. env) (λ m. out) (λ m. roots) ks kept_is_inside

  exports_are : targets (output_env n rs) (written_exports env xs) ≡ exports_of env xs
  exports_are = ap (λ o. targets o (written_exports env xs)) out_is ∙ exports_targets n env out roots xs exported

  statements_are : resolved_each (output_env n rs) rs ≡ resolved_each env ks
  statements_are = ap (λ o. resolved_each o rs) out_is ∙ same_resolved n env out roots ks kept_is_inside

  object_is : has_object (output_env n rs) (written_exports env xs) ≡ true
  object_is = ap (λ o. has_object o (written_exports env xs)) out_is ∙ object_kept n (declared_all ts) (written_exports env xs) names

  exports_read : exports_in (run_items ts) ≡ written_exports env xs
  exports_read = read_exports n env xs 0 (requests ts) rs rest_good

  behind_exports : after_exports (run_items ts) ≡ append (written_requests 0 (requests ts)) rs
  behind_exports = read_after n env xs 0 (requests ts) rs rest_good

  requests_read : requests_in 0 (after_exports (run_items ts)) ≡ requests ts
  requests_read = ap (requests_in 0) behind_exports ∙ read_requests n 0 (requests ts) rs rest_good ∙ requests_unstarred ts

  rest_read : after_requests 0 (after_exports (run_items ts)) ≡ rs
  rest_read = ap (after_requests 0) behind_exports ∙ read_rest n 0 (requests ts) rs rest_good

  module _ (hs : List Text) (ds : Terms) where
    read_whole : read_parts hs ds (exports_in (run_items ts)) (requests_in 0 (after_exports (run_items ts))) (after_requests 0 (after_exports (run_items ts))) ≡ read_parts hs ds (written_exports env xs) (requests ts) rs
    read_whole = λ i. read_parts hs ds (exports_read i) (requests_read i) (rest_read i)

    parts_are : read_parts hs ds (written_exports env xs) (requests ts) rs ≡ Some (record { hashbang = hs; directives = ds; requests = requests ts; exports = exports_of env xs; statements = resolved_each env ks })
    parts_are =
        parts_defined hs ds (written_exports env xs) (requests ts) rs rest_good (exports_fine n env out roots xs exported) object_is ∙ (λ i. Some (record { hashbang = hs; directives = ds; requests = requests ts; exports = exports_are i; statements = statements_are i }))

    items_mean : read_parts hs ds (exports_in (run_items ts)) (requests_in 0 (after_exports (run_items ts))) (after_requests 0 (after_exports (run_items ts))) ≡ Some (record { hashbang = hs; directives = ds; requests = requests ts; exports = exports_of env xs; statements = resolved_each env ks })
    items_mean = read_whole ∙ parts_are

pub run_means : (t : Term) → is_small t ≡ true → length (requests (items_of t)) < 2 ^ 64 → read_back (run t) ≡ Some (meaning t)
run_means t h few = ap read_stripped (run_bare t h) ∙ items_mean (items_of t) (small_form t h).small_items few (hashbang_of t) (directives_of t)
