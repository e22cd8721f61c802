-- The test of two trees tells whether they are one.
use Rattle.std.proofs.Common.{◌≡◌, refl, sym, ap, List, true, ◌&&◌}
use lib.Pointwise.{pointwise, pointwise_decides}
use Rattle.std.specs.Cmp.Lexicographic.{bytes_decides}
use Rattle.std.proofs.lemmas.Bool.{and_parts}
use Rattle.js_term.specs.Term.{Text, is_text, Term, absent, list, node, Terms, none, more}
use Rattle.js_term.specs.Kinds.{is_kind}
use Rattle.module_model.specs.Same.{same, same_all}
use Rattle.module_model.proofs.EveryKind.{differ, kind_same, kind_self}

texts_decide : (xs ys : List Text) → (pointwise is_text xs ys ≡ true → xs ≡ ys) × (xs ≡ ys → pointwise is_text xs ys ≡ true)
texts_decide = pointwise_decides bytes_decides

mutual
  pub same_self : (t : Term) → same t t ≡ true
  same_self absent = refl
  same_self (list ts) = same_all_self ts
  same_self (node k xs ts) = rw (kind_self k, (texts_decide xs xs).1 refl, same_all_self ts) refl

  pub same_all_self : (ts : Terms) → same_all ts ts ≡ true
  same_all_self none = refl
  same_all_self (more t ts) = rw (same_self t, same_all_self ts) refl

mutual
  pub same_is : (t u : Term) → same t u ≡ true → t ≡ u
  same_is absent absent h = refl
  same_is absent (list us) h = differ (sym h)
  same_is absent (node m ys us) h = differ (sym h)
  same_is (list ts) absent h = differ (sym h)
  same_is (list ts) (list us) h = ap list (same_all_is ts us h)
  same_is (list ts) (node m ys us) h = differ (sym h)
  same_is (node k xs ts) absent h = differ (sym h)
  same_is (node k xs ts) (list us) h = differ (sym h)
  same_is (node k xs ts) (node m ys us) h =
      let a = and_parts (is_kind k m) (pointwise is_text xs ys && same_all ts us) h in
      let b = and_parts (pointwise is_text xs ys) (same_all ts us) a.1 in
      let p : k ≡ m = kind_same k m a.0 in
      let q : xs ≡ ys = (texts_decide xs ys).0 b.0 in
      let r : ts ≡ us = same_all_is ts us b.1 in
      λ i. node (p i) (q i) (r i)

  pub same_all_is : (ts us : Terms) → same_all ts us ≡ true → ts ≡ us
  same_all_is none none h = refl
  same_all_is none (more u us) h = differ (sym h)
  same_all_is (more t ts) none h = differ (sym h)
  same_all_is (more t ts) (more u us) h =
      let a = and_parts (same t u) (same_all ts us) h in
      let p : t ≡ u = same_is t u a.0 in
      let q : ts ≡ us = same_all_is ts us a.1 in
      λ i. more (p i) (q i)
