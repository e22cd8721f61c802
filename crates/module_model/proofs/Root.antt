-- The environment of a module and that of its output.
use Rattle.std.proofs.Common.{◌≡◌, refl, sym, subst, ℕ, suc, ◌+◌, ◌<◌, ◌≤◌, ◌^◌, arith, List, [], ◌∷◌, ◌++◌, length, length-append, append_assoc, append-nil, Option, None, Some, true, false, cond}
use Rattle.std.proofs.lemmas.Bool.{and_parts, and_from}
use Rattle.js_term.specs.Term.{Text, is_text, Term, absent, list, node, Terms, none, more, append, items, kids_of, text_of}
use Rattle.js_term.specs.declared.kind.Kind.{Kind}
use Rattle.js_term.specs.declared.kind.Kind.TheVariants as Kind
use Rattle.js_term.specs.Lexeme.{is_word}
use Rattle.js_term.specs.Scope.{Role, role, Env, Scope, Entry, here, arguments_object, imported, Answer, import_of, global, found, entry_of, plainly, declared, declared_all, declared_first, declares, kid, bound_by, brings, brought, is_request, past, all_brought}
use Rattle.js_term.specs.Form.{Sort, one, some, stands_small, places, is_small_name}
use Rattle.module_model.specs.Shape.{import_name}
use Rattle.module_model.specs.Resolved.{of_answer}
use Rattle.module_model.specs.Meaning.{asks, asked, keeps, kept, requests, all_kept}
use Rattle.module_model.specs.ReadBack.{is_readable, is_bindable, is_request_name, numbered}
use Rattle.module_model.specs.Run.{spelled}
use Rattle.module_model.proofs.EveryKind.{differ, the_kind}
use Rattle.module_model.proofs.Names.{Names, or_right, unmarked, small_readable, request_readable, plainly_no_request, numbered_none, numbered_finds, or_else, entry_append, is_plain, plainly_is_plain}
use Rattle.module_model.proofs.Related.{answers, is_good, Related}
use Rattle.module_model.proofs.Fits.{first_passes, first_fits, items_fit}
use Rattle.module_model.proofs.Small.{small_at, small_each, small_all, small_texts, small_node}

-- what an import brings in is a name of one of the first n requests
pub data Brought (n : ℕ) : Option Entry → Type 0 where
  nothing : Brought n None
  brings_in : {j : ℕ} {k : Text} → j < n → is_word k ≡ true → Brought n (Some (imported j (Some k)))

brought_more : (m n : ℕ) (e : Option Entry) → m ≤ n → Brought m e → Brought n e
brought_more m n None h b = nothing
brought_more m n (Some e) h (brings_in l w) = brings_in (omega arith) w

brought_either : (n : ℕ) (a b : Option Entry) → Brought n a → Brought n b → Brought n (or_else a b)
brought_either n None b p q = q
brought_either n (Some e) b p q = p

name_is_word : (t : Term) → small_at (one Sort.name) t ≡ true → is_word (text_of t) ≡ true
name_is_word absent h = differ (sym h)
name_is_word (list ts) h = differ (sym h)
name_is_word (node k texts ts) h =
    let n = small_node (one Sort.name) k texts ts h in
    let e : k ≡ Kind.IdentifierName = the_kind (stands_small Sort.name) Kind.IdentifierName refl k n.stands in
    first_passes is_word texts (subst (λ m. small_texts m texts ≡ true) e n.named)

imported_is_word : (t : Term) → small_at (one Sort.specifier) t ≡ true → is_word (text_of (kid 0 (kids_of t))) ≡ true
imported_is_word absent h = differ (sym h)
imported_is_word (list ts) h = differ (sym h)
imported_is_word (node k texts ts) h =
    let n = small_node (one Sort.specifier) k texts ts h in
    let e : k ≡ Kind.ImportSpecifier = the_kind (stands_small Sort.specifier) Kind.ImportSpecifier refl k n.stands in
    name_is_word (kid 0 ts) (first_fits stands_small small_texts places (one Sort.name) (one Sort.binding ∷ []) ts (subst (λ m. small_all (places m texts) ts ≡ true) e n.parts))

bound_brought : (j : ℕ) (ts : Terms) (x : Text) → small_each (one Sort.specifier) ts ≡ true → Brought (suc j) (entry_of (bound_by j ts) x)
bound_brought j none x h = nothing
bound_brought j (more t ts) x h =
    let a = and_parts (small_at (one Sort.specifier) t) (small_each (one Sort.specifier) ts) h in
    elim (is_text (text_of (kid 1 (kids_of t))) x) as (λ b. Brought (suc j) (cond b (Some (imported j (Some (text_of (kid 0 (kids_of t)))))) (entry_of (bound_by j ts) x)))
    [ true ↦ brings_in (omega arith) (imported_is_word t a.0) | false ↦ bound_brought j ts x a.1 ]

import_kind : (k : Kind) → role k ≡ Role.imports → k ≡ Kind.ImportDeclaration
import_kind k e = the_kind (λ m. is_request (role m)) Kind.ImportDeclaration refl k (rw e refl)

role_brought : (j : ℕ) (k : Kind) (texts : List Text) (ts : Terms) → small_all (places k texts) ts ≡ true → (x : Text) (r : Role) → role k ≡ r → Brought (length (asks r ts) + j) (entry_of (brings j r ts) x)
role_brought j k texts ts h x Role.imports e =
    let parts : small_all (some Sort.specifier ∷ one Sort.source ∷ []) ts ≡ true = subst (λ m. small_all (places m texts) ts ≡ true) (import_kind k e) h in
    let specifiers : small_each (one Sort.specifier) (items (kid 0 ts)) ≡ true = items_fit stands_small small_texts places Sort.specifier (kid 0 ts) (first_fits stands_small small_texts places (some Sort.specifier) (one Sort.source ∷ []) ts parts) in
    brought_more (suc j) (1 + j) (entry_of (bound_by j (items (kid 0 ts))) x) (omega arith) (bound_brought j (items (kid 0 ts)) x specifiers)
role_brought j k texts ts h x r e = nothing

term_brought : (j : ℕ) (t : Term) (x : Text) → small_at (one Sort.item) t ≡ true → Brought (length (asked t) + j) (entry_of (brought j t) x)
term_brought j absent x h = nothing
term_brought j (list ts) x h = nothing
term_brought j (node k texts ts) x h = role_brought j k texts ts (small_node (one Sort.item) k texts ts h).parts x (role k) refl

past_role : (j : ℕ) (ts : Terms) (r : Role) → cond (is_request r) (suc j) j ≡ length (asks r ts) + j
past_role j ts Role.imports = omega arith
past_role j ts r = omega arith

past_asked : (j : ℕ) (t : Term) → past t j ≡ length (asked t) + j
past_asked j absent = omega arith
past_asked j (list ts) = omega arith
past_asked j (node k texts ts) = past_role j ts (role k)

pub all_brought_by : (j : ℕ) (ts : Terms) (x : Text) → small_each (one Sort.item) ts ≡ true → Brought (length (requests ts) + j) (entry_of (all_brought j ts) x)
all_brought_by j none x h = nothing
all_brought_by j (more t ts) x h =
    let a = and_parts (small_at (one Sort.item) t) (small_each (one Sort.item) ts) h in
    let p : past t j ≡ length (asked t) + j = past_asked j t in
    let l : length (asked t ++ requests ts) ≡ length (asked t) + length (requests ts) = length-append (asked t) (requests ts) in
    let n : ℕ = length (asked t ++ requests ts) + j in
    let before : Brought n (entry_of (brought j t) x) = brought_more (length (asked t) + j) n (entry_of (brought j t) x) (omega arith) (term_brought j t x a.0) in
    let behind : Brought n (entry_of (all_brought (past t j) ts) x) = brought_more (length (requests ts) + past t j) n (entry_of (all_brought (past t j) ts) x) (omega arith) (all_brought_by (past t j) ts x a.1) in
    rw (entry_append (brought j t) (all_brought (past t j) ts) x) (brought_either n (entry_of (brought j t) x) (entry_of (all_brought (past t j) ts) x) before behind)

-- what is kept declares what the module declares
declared_append : (ts us : Terms) → declared_all (append ts us) ≡ declared_all ts ++ declared_all us
declared_append none us = refl
declared_append (more t ts) us = rw (declared_append ts us) (sym (append_assoc (declared t) (declared_all ts) (declared_all us)))

kept_role : (k : Kind) (texts : List Text) (ts : Terms) (r : Role) → role k ≡ r → declared_all (keeps r (node k texts ts)) ≡ declares r texts (declared_all ts) (declared_first ts)
kept_role k texts ts Role.imports e = refl
kept_role k texts ts Role.exports_declaration e = refl
kept_role k texts ts r e = rw e (append-nil (declares r texts (declared_all ts) (declared_first ts)))

kept_declared : (t : Term) → declared_all (kept t) ≡ declared t
kept_declared absent = refl
kept_declared (list ts) = append-nil (declared_all ts)
kept_declared (node k texts ts) = kept_role k texts ts (role k) refl

pub kept_declares : (ts : Terms) → declared_all (all_kept ts) ≡ declared_all ts
kept_declares none = refl
kept_declares (more t ts) = rw (declared_append (kept t) (all_kept ts), kept_declared t, kept_declares ts) refl

module _ (bs : Scope) (xs : List Text) (p : Names xs) (n : ℕ) (few : n < 2 ^ 64) (brought_by : (x : Text) → Brought n (entry_of bs x)) where
  abbrev inside : Env
  inside = (bs ++ plainly xs) ∷ []

  abbrev outside : Env
  outside = (plainly xs ++ numbered n) ∷ []

  -- the answer of the scope for a name that it has, or has not
  abbrev answer : Text → Option Entry → Answer
  answer x e = found e 0 x (global x)

  finds : (j : ℕ) → j < n → entry_of (plainly xs ++ numbered n) (import_name j) ≡ Some (imported j None)
  finds j l = rw (entry_append (plainly xs) (numbered n) (import_name j), plainly_no_request xs j p) (numbered_finds n j few l)

  meets_imported : (x : Text) (j : ℕ) (k : Text) → j < n → answers outside (spelled x (import_of j (Some k))) ≡ of_answer (import_of j (Some k))
  meets_imported x j k l = rw (finds j l) refl

  meets_plain : (x : Text) → is_small_name x ≡ true → (e : Option Entry) → entry_of (plainly xs) x ≡ e → is_plain e ≡ true → answers outside (spelled x (answer x e)) ≡ of_answer (answer x e)
  meets_plain x h None e i = rw (entry_append (plainly xs) (numbered n) x, e, numbered_none n x (unmarked x h)) refl
  meets_plain x h (Some here) e i = rw (entry_append (plainly xs) (numbered n) x, e) refl
  meets_plain x h (Some arguments_object) e i = differ (sym i)
  meets_plain x h (Some (imported j k)) e i = differ (sym i)

  meets_by : (x : Text) → is_small_name x ≡ true → (e : Option Entry) → Brought n e → let a = answer x (or_else e (entry_of (plainly xs) x)) in answers outside (spelled x a) ≡ of_answer a
  meets_by x h None nothing = meets_plain x h (entry_of (plainly xs) x) refl (plainly_is_plain xs x)
  meets_by x h (Some here) b = elim b [ ]
  meets_by x h (Some arguments_object) b = elim b [ ]
  meets_by x h (Some (imported j None)) b = elim b [ ]
  meets_by x h (Some (imported j (Some k))) (brings_in l w) = meets_imported x j k l

  readable_plain : (x : Text) → is_small_name x ≡ true → (e : Option Entry) → is_plain e ≡ true → is_good n (spelled x (answer x e)) ≡ true
  readable_plain x h None i = and_from (is_readable n x) true (small_readable x h n) refl
  readable_plain x h (Some here) i = and_from (is_readable n x) true (small_readable x h n) refl
  readable_plain x h (Some arguments_object) i = differ (sym i)
  readable_plain x h (Some (imported j k)) i = differ (sym i)

  name_readable : (j : ℕ) → j < n → is_readable n (import_name j) ≡ true
  name_readable j l = or_right (is_bindable (import_name j)) (is_request_name n (import_name j)) (request_readable n j l)

  readable_by : (x : Text) → is_small_name x ≡ true → (e : Option Entry) → Brought n e → is_good n (spelled x (answer x (or_else e (entry_of (plainly xs) x)))) ≡ true
  readable_by x h None nothing = readable_plain x h (entry_of (plainly xs) x) (plainly_is_plain xs x)
  readable_by x h (Some here) b = elim b [ ]
  readable_by x h (Some arguments_object) b = elim b [ ]
  readable_by x h (Some (imported j None)) b = elim b [ ]
  readable_by x h (Some (imported j (Some k))) (brings_in l w) = rw (name_readable j l) refl

  pub related_roots : Related n inside outside
  related_roots = record {
    meets = λ x h. rw (entry_append bs (plainly xs) x) (meets_by x h (entry_of bs x) (brought_by x));
    readable = λ x h. rw (entry_append bs (plainly xs) x) (readable_by x h (entry_of bs x) (brought_by x));
    deep = refl;
  }
