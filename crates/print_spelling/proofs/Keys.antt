-- Keys of properties (ECMAScript 13.2.5, 15.7).
use Rattle.std.proofs.Common.{◌≡◌, refl, sym, subst, List, [], ◌∷◌, ◌++◌, Bool, true, false, inl, inr, ◌⊎◌}
use Rattle.std.specs.Prelude.{codes}
use Rattle.js_term.specs.Term.{Text, Term, absent, list, node, Terms, none, flag}
use Rattle.js_term.specs.declared.kind.Kind.{Kind}
use Rattle.js_term.specs.Kinds.{is_among}
use Rattle.js_syntax.specs.Edges.{no_private, is_private_key}
use Rattle.js_syntax.specs.Sorts.{Sort, Place, plain_keys, takes, is_expression}
use Rattle.js_syntax.specs.Places.{places, key_place}
use Rattle.js_syntax.specs.Printable.{has_shape}
use Rattle.js_syntax.specs.Spelling.{Key, name_key, string_key, number_key, bigint_key, computed_key, MemberKey, public_key, private_key}
use Rattle.print_layout.specs.Needs.{is_held}
use Rattle.print_layout.specs.Layout.{put, wrapped}
use Rattle.print_spelling.proofs.Openings.{is_starred, name_starred, number_starred, bigint_starred}
use Rattle.print_spelling.proofs.Tokens.{differ, Lead, flush, led, name_at, private_at, number_at, bigint_at, string_at, left_bracket, right_bracket}
use Rattle.print_spelling.proofs.Spread.{to}
use Rattle.print_spelling.proofs.Fits.{Fit, fit_of, taken_by, plainly, is_special, is_program}
use Rattle.print_spelling.proofs.Claims.{bare, ends, ends_stop, open_ends, Claim, off}
use Rattle.print_spelling.proofs.Placed.{loose, at}

plain_key : (k : Kind) (texts : List Text) (ts : Terms) → is_among k plain_keys ≡ true → Fit (places k texts) k texts ts → (g : Lead) (rest : Text) → ends rest false ≡ true → Key false (wrapped true (loose 2) (node k texts ts)) (led g (to true (loose 2) (node k texts ts) rest)) rest
plain_key Kind.IdentifierName (x ∷ []) none h f g rest e = name_key (name_at g f.spoken.0 (ends_stop rest false e))
plain_key Kind.IdentifierName texts ts h f g rest e = differ (sym f.counted)
plain_key Kind.StringLiteral (x ∷ []) none h f g rest e = string_key (string_at g)
plain_key Kind.StringLiteral texts ts h f g rest e = differ (sym f.counted)
plain_key Kind.NumericLiteral (x ∷ []) none h f g rest e = number_key (number_at g f.spoken.0 (ends_stop rest false e) (open_ends rest e))
plain_key Kind.NumericLiteral texts ts h f g rest e = differ (sym f.counted)
plain_key Kind.BigIntLiteral (x ∷ []) none h f g rest e = bigint_key (bigint_at g f.spoken.0 (ends_stop rest false e))
plain_key Kind.BigIntLiteral texts ts h f g rest e = differ (sym f.counted)
plain_key k texts ts h f g rest e = differ (sym h)

key_plain : (k : Kind) → is_among k plain_keys ≡ true → (is_special k ≡ false) × (is_program k ≡ false)
key_plain Kind.IdentifierName h = (refl, refl)
key_plain Kind.StringLiteral h = (refl, refl)
key_plain Kind.NumericLiteral h = (refl, refl)
key_plain Kind.BigIntLiteral h = (refl, refl)
key_plain k h = differ (sym h)

abbrev pub KeyAt : Bool → Term → Type 0
KeyAt computed t = (g : Lead) (rest : Text) → ends rest false ≡ true → Key computed (wrapped true (loose 2) t) (led g (flag computed (codes "[") ++ to true (loose 2) t (flag computed (codes "]") ++ rest))) rest

pub key_at : (computed : Bool) (t : Term) → has_shape (key_place computed Sort.key) t ≡ true → Claim off t → KeyAt computed t
key_at true t h c g rest e = let p = at 2 refl true t h c in computed_key (left_bracket g) (p.stands flush refl) (right_bracket flush)
key_at false absent h c g rest e = differ (sym h)
key_at false (list ts) h c g rest e = differ (sym h)
key_at false (node k texts ts) h c g rest e =
    let is = (taken_by Sort.key k texts ts h).taken in
    let p = key_plain k is in
    plain_key k texts ts is (plainly Sort.key k texts ts p.0 (fit_of Sort.key k texts ts p.1 h).1) g rest e

-- no such key is a private name, and none in brackets
not_private_expression : (k : Kind) → is_expression k ≡ true → is_private_key k ≡ false
not_private_expression Kind.PrivateIdentifier h = differ (sym h)
not_private_expression k h = refl

not_private_plain : (k : Kind) → is_among k plain_keys ≡ true → is_private_key k ≡ false
not_private_plain Kind.PrivateIdentifier h = differ (sym h)
not_private_plain k h = refl

put_public : (b : Bool) (i : Bool) (k : Kind) (texts : List Text) (ts : Terms) → is_private_key k ≡ false → no_private (put b (bare i (node k texts ts))) ≡ true
put_public true i k texts ts h = refl
put_public false i k texts ts h = rw h refl

pub key_public : (computed : Bool) (t : Term) → has_shape (key_place computed Sort.key) t ≡ true → no_private (wrapped true (loose 2) t) ≡ true
key_public true absent h = differ (sym h)
key_public true (list ts) h = differ (sym h)
key_public true (node k texts ts) h = put_public (is_held true (loose 2) k texts ts) true k texts ts (not_private_expression k (taken_by Sort.expression k texts ts h).taken)
key_public false absent h = differ (sym h)
key_public false (list ts) h = differ (sym h)
key_public false (node k texts ts) h = put_public (is_held true (loose 2) k texts ts) true k texts ts (not_private_plain k (taken_by Sort.key k texts ts h).taken)

private_kind : (k : Kind) → takes Sort.class_key k ≡ true → (k ≡ Kind.PrivateIdentifier) ⊎ (is_among k plain_keys ≡ true)
private_kind Kind.PrivateIdentifier h = inl refl
private_kind k h = inr h

private_is : (texts : List Text) (ts : Terms) → Fit [] Kind.PrivateIdentifier texts ts → (g : Lead) (rest : Text) → ends rest false ≡ true → MemberKey false (wrapped true (loose 2) (node Kind.PrivateIdentifier texts ts)) (led g (to true (loose 2) (node Kind.PrivateIdentifier texts ts) rest)) rest
private_is (x ∷ []) none f g rest e = private_key (private_at g f.spoken.0 (ends_stop rest false e))
private_is texts ts f g rest e = differ (sym f.counted)

abbrev pub MemberKeyAt : Bool → Term → Type 0
MemberKeyAt computed t = (g : Lead) (rest : Text) → ends rest false ≡ true → MemberKey computed (wrapped true (loose 2) t) (led g (flag computed (codes "[") ++ to true (loose 2) t (flag computed (codes "]") ++ rest))) rest

pub member_key_at : (computed : Bool) (t : Term) → has_shape (key_place computed Sort.class_key) t ≡ true → Claim off t → MemberKeyAt computed t
member_key_at true t h c g rest e = public_key (key_at true t h c g rest e)
member_key_at false absent h c g rest e = differ (sym h)
member_key_at false (list ts) h c g rest e = differ (sym h)
member_key_at false (node k texts ts) h c g rest e =
    elim (private_kind k (taken_by Sort.class_key k texts ts h).taken) [
      | inl same ↦ subst (λ j. has_shape (Place.one Sort.class_key) (node j texts ts) ≡ true → MemberKey false (wrapped true (loose 2) (node j texts ts)) (led g (to true (loose 2) (node j texts ts) rest)) rest) (sym same) (λ h. private_is texts ts (fit_of Sort.class_key Kind.PrivateIdentifier texts ts refl h).1 g rest e) h
      | inr is ↦ let p = key_plain k is in public_key (plain_key k texts ts is (plainly Sort.class_key k texts ts p.0 (fit_of Sort.class_key k texts ts p.1 h).1) g rest e)
    ]

-- ---- a key begins no gap, and a `*` may stand before it

plain_starred : (k : Kind) (texts : List Text) (ts : Terms) → is_among k plain_keys ≡ true → Fit (places k texts) k texts ts → (rest : Text) → is_starred (to true (loose 2) (node k texts ts) rest) ≡ true
plain_starred Kind.IdentifierName (x ∷ []) none h f rest = name_starred x rest f.spoken.0
plain_starred Kind.IdentifierName texts ts h f rest = differ (sym f.counted)
plain_starred Kind.StringLiteral (x ∷ []) none h f rest = refl
plain_starred Kind.StringLiteral texts ts h f rest = differ (sym f.counted)
plain_starred Kind.NumericLiteral (x ∷ []) none h f rest = number_starred x rest f.spoken.0
plain_starred Kind.NumericLiteral texts ts h f rest = differ (sym f.counted)
plain_starred Kind.BigIntLiteral (x ∷ []) none h f rest = bigint_starred x rest f.spoken.0
plain_starred Kind.BigIntLiteral texts ts h f rest = differ (sym f.counted)
plain_starred k texts ts h f rest = differ (sym h)

abbrev pub Starred : Bool → Term → Type 0
Starred computed t = (rest : Text) → is_starred (flag computed (codes "[") ++ to true (loose 2) t rest) ≡ true

pub key_starred : (computed : Bool) (t : Term) → has_shape (key_place computed Sort.key) t ≡ true → Starred computed t
key_starred true t h rest = refl
key_starred false absent h rest = differ (sym h)
key_starred false (list ts) h rest = differ (sym h)
key_starred false (node k texts ts) h rest =
    let is = (taken_by Sort.key k texts ts h).taken in
    let p = key_plain k is in
    plain_starred k texts ts is (plainly Sort.key k texts ts p.0 (fit_of Sort.key k texts ts p.1 h).1) rest

private_starred : (texts : List Text) (ts : Terms) (rest : Text) → is_starred (to true (loose 2) (node Kind.PrivateIdentifier texts ts) rest) ≡ true
private_starred texts ts rest = refl

pub member_key_starred : (computed : Bool) (t : Term) → has_shape (key_place computed Sort.class_key) t ≡ true → Starred computed t
member_key_starred true t h rest = refl
member_key_starred false absent h rest = differ (sym h)
member_key_starred false (list ts) h rest = differ (sym h)
member_key_starred false (node k texts ts) h rest =
    elim (private_kind k (taken_by Sort.class_key k texts ts h).taken) as (λ z. is_starred (to true (loose 2) (node k texts ts) rest) ≡ true) [
      | inl same ↦ subst (λ j. is_starred (to true (loose 2) (node j texts ts) rest) ≡ true) (sym same) (private_starred texts ts rest)
      | inr is ↦ let p = key_plain k is in plain_starred k texts ts is (plainly Sort.class_key k texts ts p.0 (fit_of Sort.class_key k texts ts p.1 h).1) rest
    ]
