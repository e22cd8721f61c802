-- What is kept of a small module has no form in which `carried` and `rewritten` differ.
use Rattle.std.proofs.Common.{◌≡◌, refl, sym, ◌∙◌, ap, ℕ, suc, List, [], ◌∷◌, Bool, true, false, not, ◌&&◌, ◌||◌}
use Rattle.std.specs.List.{list_all}
use Rattle.std.proofs.lemmas.Bool.{and_parts, and_from}
use Rattle.js_term.specs.Term.{Text, Term, absent, list, node, Terms, none, more, append}
use Rattle.js_term.specs.declared.kind.Kind.{Kind}
use Rattle.js_term.specs.declared.kind.Kind.TheVariants as Kind
use Rattle.js_term.specs.Scope.{Role, role, Env, inner, is_request}
use Rattle.js_term.specs.Form.{Sort, Place, one, many, some, single, several, item_place, first_place, later_places, takes_list, stands_small, places, is_item}
use Rattle.module_model.specs.Meaning.{keeps, kept, all_kept}
use Rattle.module_model.specs.Resolved.{finished, read_kids}
use Rattle.module_model.specs.Run.{written, rewritten}
use Rattle.module_model.proofs.EveryKind.{differ, kinds, when}
use Rattle.module_model.proofs.Small.{small_at, small_each, small_all, small_kind, SmallNode, small_node}
use Rattle.prepare_core.specs.Carried.{Turn, as_it_is, spelled_out, usual, turn, turned, carried, carried_kids, is_usual, is_direct, are_direct}

-- places at which, and below which, neither an import nor a property stands

abbrev is_deep_sort : Sort → Bool
is_deep_sort Sort.program = false
is_deep_sort Sort.item = false
is_deep_sort Sort.property = false
is_deep_sort s = true

abbrev is_deep : Place → Bool
is_deep (one s) = is_deep_sort s
is_deep (many s) = is_deep_sort s
is_deep (some s) = is_deep_sort s
is_deep (single s) = is_deep_sort s
is_deep (several s) = is_deep_sort s
is_deep p = true

abbrev are_deep : List Place → Bool
are_deep = list_all is_deep

abbrev is_deep_kind : Kind → Bool
is_deep_kind Kind.Program = false
is_deep_kind Kind.ObjectExpression = false
is_deep_kind k = is_usual (turn k)

deep_rows : (s : Sort) → list_all (λ k. not (is_deep_sort s && stands_small s k) || is_deep_kind k) kinds ≡ true
deep_rows Sort.program = refl
deep_rows s = refl

deep_stands : (p : Place) (k : Kind) → is_deep p ≡ true → small_kind p k ≡ true → is_deep_kind k ≡ true
deep_stands (one s) k d h = when (λ m. is_deep_sort s && stands_small s m) is_deep_kind (deep_rows s) k (and_from (is_deep_sort s) (stands_small s k) d h)
deep_stands p k d h = differ (sym h)

item_deep : (p : Place) → is_deep p ≡ true → is_deep (item_place p) ≡ true
item_deep (many s) d = d
item_deep (some s) d = d
item_deep (single s) d = d
item_deep (several s) d = d
item_deep p d = refl

first_deep : (ps : List Place) → are_deep ps ≡ true → is_deep (first_place ps) ≡ true
first_deep [] d = refl
first_deep (p ∷ ps) d = (and_parts (is_deep p) (are_deep ps) d).0

later_deep : (ps : List Place) → are_deep ps ≡ true → are_deep (later_places ps) ≡ true
later_deep [] d = refl
later_deep (p ∷ ps) d = (and_parts (is_deep p) (are_deep ps) d).1

places_deep : (k : Kind) (texts : List Text) → is_deep_kind k ≡ true → are_deep (places k texts) ≡ true
places_deep Kind.Program texts h = differ (sym h)
places_deep Kind.ObjectExpression texts h = differ (sym h)
places_deep Kind.ObjectProperty texts h = differ (sym h)
places_deep k texts h = refl

deep_usual : (k : Kind) → is_deep_kind k ≡ true → is_usual (turn k) ≡ true
deep_usual = when is_deep_kind (λ k. is_usual (turn k)) refl

mutual
  small_direct : (p : Place) (t : Term) → is_deep p ≡ true → small_at p t ≡ true → is_direct t ≡ true
  small_direct p absent d h = refl
  small_direct p (list ts) d h = each_direct (item_place p) ts (item_deep p d) (and_parts (takes_list p ts) (small_each (item_place p) ts) h).1
  small_direct p (node k texts ts) d h =
      let n = small_node p k texts ts h in
      let deep = deep_stands p k d n.stands in
      and_from (is_usual (turn k)) (are_direct ts) (deep_usual k deep) (all_direct (places k texts) ts (places_deep k texts deep) n.parts)

  each_direct : (p : Place) (ts : Terms) → is_deep p ≡ true → small_each p ts ≡ true → are_direct ts ≡ true
  each_direct p none d h = refl
  each_direct p (more t ts) d h =
      let a = and_parts (small_at p t) (small_each p ts) h in
      and_from (is_direct t) (are_direct ts) (small_direct p t d a.0) (each_direct p ts d a.1)

  all_direct : (ps : List Place) (ts : Terms) → are_deep ps ≡ true → small_all ps ts ≡ true → are_direct ts ≡ true
  all_direct ps none d h = refl
  all_direct ps (more t ts) d h =
      let a = and_parts (small_at (first_place ps) t) (small_all (later_places ps) ts) h in
      and_from (is_direct t) (are_direct ts) (small_direct (first_place ps) t (first_deep ps d) a.0) (all_direct (later_places ps) ts (later_deep ps d) a.1)

-- the statements of a module

item_rows : (k : Kind) → (is_item k && not (is_request (role k))) ≡ true → is_deep_kind k ≡ true
item_rows = when (λ k. is_item k && not (is_request (role k))) is_deep_kind refl

item_direct : (k : Kind) (texts : List Text) (ts : Terms) → SmallNode (one Sort.item) k texts ts → is_request (role k) ≡ false → is_direct (node k texts ts) ≡ true
item_direct k texts ts n r =
    let deep = item_rows k (and_from (is_item k) (not (is_request (role k))) n.stands (ap not r)) in
    and_from (is_usual (turn k)) (are_direct ts) (deep_usual k deep) (all_direct (places k texts) ts (places_deep k texts deep) n.parts)

alone_direct : (t : Term) → is_direct t ≡ true → are_direct (more t none) ≡ true
alone_direct t h = and_from (is_direct t) true h refl

keeps_direct : (k : Kind) (texts : List Text) (ts : Terms) → SmallNode (one Sort.item) k texts ts → (r : Role) → role k ≡ r → are_direct (keeps r (node k texts ts)) ≡ true
keeps_direct k texts ts n Role.imports e = refl
keeps_direct k texts ts n Role.exports_declaration e = (and_parts (is_usual (turn k)) (are_direct ts) (item_direct k texts ts n (ap is_request e))).1
keeps_direct k texts ts n r e = alone_direct (node k texts ts) (item_direct k texts ts n (ap is_request e))

kept_direct : (t : Term) → small_at (one Sort.item) t ≡ true → are_direct (kept t) ≡ true
kept_direct absent h = differ (sym h)
kept_direct (list ts) h = differ (sym h)
kept_direct (node k texts ts) h = keeps_direct k texts ts (small_node (one Sort.item) k texts ts h) (role k) refl

direct_append : (ts us : Terms) → are_direct ts ≡ true → are_direct us ≡ true → are_direct (append ts us) ≡ true
direct_append none us p q = q
direct_append (more t ts) us p q =
    let a = and_parts (is_direct t) (are_direct ts) p in
    and_from (is_direct t) (are_direct (append ts us)) a.0 (direct_append ts us a.1 q)

pub all_kept_direct : (ts : Terms) → small_each (one Sort.item) ts ≡ true → are_direct (all_kept ts) ≡ true
all_kept_direct none h = refl
all_kept_direct (more t ts) h =
    let a = and_parts (small_at (one Sort.item) t) (small_each (one Sort.item) ts) h in
    direct_append (kept t) (all_kept ts) (kept_direct t a.0) (all_kept_direct ts a.1)

-- where there is no such form, the two are one

turned_usual : (f : Text → Term) (k : Kind) (texts : List Text) (ts us : Terms) (w : Turn) → is_usual w ≡ true → turned w f k texts ts us ≡ finished f (role k) k texts ts us
turned_usual f k texts ts us as_it_is h = differ (sym h)
turned_usual f k texts ts us spelled_out h = differ (sym h)
turned_usual f k texts ts us usual h = refl

mutual
  carried_direct : (env : Env) (t : Term) → is_direct t ≡ true → carried env t ≡ rewritten env t
  carried_direct env absent h = refl
  carried_direct env (list ts) h = ap list (kids_direct (λ n. env) ts h)
  carried_direct env (node k texts ts) h =
      let a = and_parts (is_usual (turn k)) (are_direct ts) h in
      turned_usual (written env) k texts ts (carried_kids (inner (role k) env ts) ts) (turn k) a.0 ∙ ap (finished (written env) (role k) k texts ts) (kids_direct (inner (role k) env ts) ts a.1)

  pub kids_direct : (envs : ℕ → Env) (ts : Terms) → are_direct ts ≡ true → carried_kids envs ts ≡ read_kids written envs ts
  kids_direct envs none h = refl
  kids_direct envs (more t ts) h =
      let a = and_parts (is_direct t) (are_direct ts) h in
      ap (λ u. more u (carried_kids (λ n. envs (suc n)) ts)) (carried_direct (envs 0) t a.0) ∙ ap (more (rewritten (envs 0) t)) (kids_direct (λ n. envs (suc n)) ts a.1)
