-- Parts of one kind, and parts without parts of their own.
use denote.Enum.Bare.{same_true}
use Rattle.std.proofs.Common.{rules, ◌≡◌, sym, subst, List, [], ◌∷◌, Bool, true, false, ◌&&◌}
use Rattle.js_term.specs.Term.{Text, Term, absent, list, node, Terms, none}
use Rattle.js_term.specs.declared.kind.Kind.{Kind}
use Rattle.js_term.specs.contracts.kind.Kind.{the_type}
use Rattle.js_term.specs.Kinds.{is_kind}
use Rattle.js_syntax.specs.Sorts.{Sort, Place}
use Rattle.js_syntax.specs.Places.{places_at}
use Rattle.js_syntax.specs.Texts.{tests}
use Rattle.js_syntax.specs.Printable.{has_shape}
use Rattle.print_spelling.proofs.Tokens.{differ}
use Rattle.print_spelling.proofs.Fits.{fit_of, taken_by, is_program, are_words, are_many, Worded}

pub kind_is : (k j : Kind) → is_kind k j ≡ true → k ≡ j
kind_is k j e = same_true the_type (search rules) k j e

-- a part at a place for one kind is of that kind
pub only : (k : Kind) (P : Term → Type 0) → ((texts : List Text) (ts : Terms) → has_shape (Place.one (Sort.only k)) (node k texts ts) ≡ true → P (node k texts ts)) → (t : Term) → has_shape (Place.one (Sort.only k)) t ≡ true → P t
only k P f absent h = differ (sym h)
only k P f (list ts) h = differ (sym h)
only k P f (node j texts ts) h =
    let same : j ≡ k = kind_is j k (taken_by (Sort.only k) j texts ts h).taken in
    subst (λ z. has_shape (Place.one (Sort.only k)) (node z texts ts) ≡ true → P (node z texts ts)) (sym same) (f texts ts) h

leaf_by : (test : Text → Bool) (P : List Text → Terms → Type 0) → ((x : Text) → test x ≡ true → P (x ∷ []) none) → (texts : List Text) (ts : Terms) → are_words (test ∷ []) texts && are_many [] ts ≡ true → Worded (test ∷ []) texts → P texts ts
leaf_by test P f (x ∷ []) none c w = f x w.0
leaf_by test P f texts ts c w = differ (sym c)

-- a part with one text and no parts, at a place for several kinds
pub leaf_at : (s : Sort) (k : Kind) (test : Text → Bool) → is_program k ≡ false → tests k ≡ test ∷ [] → ((texts : List Text) → places_at s k texts ≡ []) → (P : Term → Type 0) → ((x : Text) → test x ≡ true → P (node k (x ∷ []) none)) → (texts : List Text) (ts : Terms) → has_shape (Place.one s) (node k texts ts) ≡ true → P (node k texts ts)
leaf_at s k test n e p P f texts ts h =
    let m = (fit_of s k texts ts n h).1 in
    leaf_by test (λ xs us. P (node k xs us)) f texts ts (subst (λ ps. are_words (test ∷ []) texts && are_many ps ts ≡ true) (p texts) (subst (λ ws. are_words ws texts && are_many (places_at s k texts) ts ≡ true) e m.counted)) (subst (λ ws. Worded ws texts) e m.spoken)

-- and at one for its kind alone
pub leaf : (k : Kind) (test : Text → Bool) → is_program k ≡ false → tests k ≡ test ∷ [] → ((texts : List Text) → places_at (Sort.only k) k texts ≡ []) → (P : Term → Type 0) → ((x : Text) → test x ≡ true → P (node k (x ∷ []) none)) → (t : Term) → has_shape (Place.one (Sort.only k)) t ≡ true → P t
leaf k test n e p P f = only k P (leaf_at (Sort.only k) k test n e p P f)
