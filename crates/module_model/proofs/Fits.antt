-- Trees by the tables of places.
use Rattle.std.proofs.Common.{◌≡◌, refl, sym, List, [], ◌∷◌, Bool, true, false, ◌&&◌}
use Rattle.std.proofs.lemmas.Bool.{and_parts, and_from}
use Rattle.js_term.specs.Term.{Text, Term, absent, list, node, Terms, none, more, append, items, first, strip, strip_all, unwrapped}
use Rattle.js_term.specs.declared.kind.Kind.{Kind}
use Rattle.js_term.specs.declared.kind.Kind.TheVariants as Kind
use Rattle.js_term.specs.Scope.{kid}
use Rattle.js_term.specs.Form.{Sort, Place, one, some, nowhere, takes_list, item_place, first_place, later_places, takes_kind, fits, fits_each, fits_places, one_text}
use Rattle.js_term.specs.Kinds.{is_kind}
use Rattle.module_model.proofs.EveryKind.{differ}

-- one text that passes
pub first_passes : (test : Text → Bool) (texts : List Text) → one_text test texts ≡ true → test (first texts) ≡ true
first_passes test [] h = differ (sym h)
first_passes test (x ∷ []) h = h
first_passes test (x ∷ y ∷ texts) h = differ (sym h)

module _ (stands : Sort → Kind → Bool) (allows : Kind → List Text → Bool) (places : Kind → List Text → List Place) where
  abbrev at : Place → Term → Bool
  at = fits stands allows places

  abbrev each_at : Place → Terms → Bool
  each_at = fits_each stands allows places

  abbrev all_at : List Place → Terms → Bool
  all_at = fits_places stands allows places

  pub nothing_fits : (t : Term) → at nowhere t ≡ true → true ≡ false
  nothing_fits absent h = sym h
  nothing_fits (list ts) h = sym h
  nothing_fits (node k texts ts) h = sym h

  -- what stands at one sort stands at another
  pub widened : (r s : Sort) → ((k : Kind) → stands r k ≡ true → stands s k ≡ true) → (t : Term) → at (one r) t ≡ true → at (one s) t ≡ true
  widened r s f absent h = h
  widened r s f (list ts) h = h
  widened r s f (node k texts ts) h =
      let a = and_parts (stands r k) (allows k texts && all_at (places k texts) ts) h in
      and_from (stands s k) (allows k texts && all_at (places k texts) ts) (f k a.0) a.1

  pub each_append : (p : Place) (ts us : Terms) → each_at p ts ≡ true → each_at p us ≡ true → each_at p (append ts us) ≡ true
  each_append p none us g h = h
  each_append p (more t ts) us g h =
      let a = and_parts (at p t) (each_at p ts) g in
      and_from (at p t) (each_at p (append ts us)) a.0 (each_append p ts us a.1 h)

  pub first_fits : (p : Place) (ps : List Place) (ts : Terms) → all_at (p ∷ ps) ts ≡ true → at p (kid 0 ts) ≡ true
  first_fits p ps none h = differ (sym h)
  first_fits p ps (more t ts) h = (and_parts (at p t) (all_at ps ts) h).0

  pub items_fit : (s : Sort) (t : Term) → at (some s) t ≡ true → each_at (one s) (items t) ≡ true
  items_fit s absent h = refl
  items_fit s (list ts) h = (and_parts (takes_list (some s) ts) (each_at (one s) ts) h).1
  items_fit s (node k texts ts) h = refl

  -- of one part alone
  pub only_fits : (s : Sort) (ts : Terms) → all_at (one s ∷ []) ts ≡ true → each_at (one s) ts ≡ true
  only_fits s none h = refl
  only_fits s (more t none) h = h
  only_fits s (more t (more u ts)) h =
      let a = and_parts (at (one s) t) (all_at [] (more u ts)) h in
      differ (nothing_fits u (and_parts (at nowhere u) (all_at [] ts) a.1).0)

  -- a tree with no parentheses at any place
  module _ (bare : (s : Sort) (k : Kind) → stands s k ≡ true → is_kind k Kind.ParenthesizedExpression ≡ false) where
    unwrapped_same : (k : Kind) (texts : List Text) (ts : Terms) → is_kind k Kind.ParenthesizedExpression ≡ false → unwrapped k texts ts ≡ node k texts ts
    unwrapped_same Kind.ParenthesizedExpression texts ts h = differ h
    unwrapped_same k texts ts h = refl

    taken_bare : (p : Place) (k : Kind) → takes_kind stands allows places p k ≡ true → is_kind k Kind.ParenthesizedExpression ≡ false
    taken_bare (one s) k h = bare s k h
    taken_bare p k h = differ (sym h)

    mutual
      pub fits_bare : (p : Place) (t : Term) → at p t ≡ true → strip t ≡ t
      fits_bare p absent h = refl
      fits_bare p (list ts) h = λ i. list (each_bare (item_place p) ts (and_parts (takes_list p ts) (each_at (item_place p) ts) h).1 i)
      fits_bare p (node k texts ts) h =
          let a = and_parts (takes_kind stands allows places p k) (allows k texts && all_at (places k texts) ts) h in
          let b = and_parts (allows k texts) (all_at (places k texts) ts) a.1 in
          rw (all_bare (places k texts) ts b.1) (unwrapped_same k texts ts (taken_bare p k a.0))

      pub each_bare : (p : Place) (ts : Terms) → each_at p ts ≡ true → strip_all ts ≡ ts
      each_bare p none h = refl
      each_bare p (more t ts) h =
          let a = and_parts (at p t) (each_at p ts) h in
          λ i. more (fits_bare p t a.0 i) (each_bare p ts a.1 i)

      pub all_bare : (ps : List Place) (ts : Terms) → all_at ps ts ≡ true → strip_all ts ≡ ts
      all_bare ps none h = refl
      all_bare ps (more t ts) h =
          let a = and_parts (at (first_place ps) t) (all_at (later_places ps) ts) h in
          λ i. more (fits_bare (first_place ps) t a.0 i) (all_bare (later_places ps) ts a.1 i)
