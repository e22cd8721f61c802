-- Object patterns (ECMAScript 14.3.3).
use Rattle.std.proofs.Common.{◌≡◌, refl, sym, subst, List, [], ◌∷◌, Bool, true, false, inl, inr}
use Rattle.std.specs.Prelude.{codes}
use Rattle.js_term.specs.Term.{Text, Term, absent, list, node, Terms, none, more, one, two}
use Rattle.js_term.specs.declared.kind.Kind.{Kind}
use Rattle.js_term.specs.Node.{binding_of, name_of}
use Rattle.js_syntax.specs.Texts.{is_free_name}
use Rattle.js_syntax.specs.Nodes.{pair_of, rested}
use Rattle.js_syntax.specs.Sorts as sorts
use Rattle.js_syntax.specs.Sorts.{Place, takes}
use Rattle.js_syntax.specs.Places.{places, key_place}
use Rattle.js_syntax.specs.Printable.{has_shape, is_value_of}
use Rattle.js_syntax.specs.Spelling.{Item, Pattern, Rest, rest_properties, object_pattern, a_binding_pair, a_binding_shorthand, a_binding_default, binding_property}
use Rattle.print_layout.specs.Needs.{never}
use Rattle.print_layout.specs.Layout.{wrapped}
use Rattle.print_spelling.proofs.Tokens.{differ, Lead, flush, spaced, led, stops, sign_at, name_at, colon_at, dots_at}
use Rattle.print_spelling.proofs.Spread.{to}
use Rattle.print_spelling.proofs.Fits.{Fit, fit_of, taken_by, list_shape}
use Rattle.print_spelling.proofs.Shapes.{kind_is, only, leaf}
use Rattle.print_spelling.proofs.Claims.{bare, bare_to, ends, ends_stop, through, Claim, Kids, off, Rule}
use Rattle.print_spelling.proofs.Placed.{at}
use Rattle.print_spelling.proofs.Lists.{ItemAt}
use Rattle.print_spelling.proofs.Keys.{key_at}
use Rattle.print_spelling.proofs.Leaves.{free_parts}
use Rattle.print_spelling.proofs.Pairs.{IsBound, bound_leaf, pair_by, object_with}
use Rattle.print_spelling.proofs.Patterns.{pattern_kind, element_kind, defaulted_at}

-- ---- one name for key and value

bound_pattern : (x : Text) (p : Term) → has_shape (Place.one sorts.Sort.pattern) p ≡ true → is_value_of x p ≡ true → IsBound Kind.BindingIdentifier x p
bound_pattern x absent h v = differ (sym h)
bound_pattern x (list ts) h v = differ (sym h)
bound_pattern x (node k xs ts) h v = elim (pattern_kind k (taken_by sorts.Sort.pattern k xs ts h).taken) as (λ z. IsBound Kind.BindingIdentifier x (node k xs ts)) [
  | inl e ↦ subst (λ j. has_shape (Place.one sorts.Sort.pattern) (node j xs ts) ≡ true → is_value_of x (node j xs ts) ≡ true → IsBound Kind.BindingIdentifier x (node j xs ts)) (sym e) (λ h v. let f = (fit_of sorts.Sort.pattern Kind.BindingIdentifier xs ts refl h).1 in bound_leaf Kind.BindingIdentifier x xs ts f.counted f.spoken v) h v
  | inr r ↦ elim r as (λ z. IsBound Kind.BindingIdentifier x (node k xs ts)) [
    | inl e ↦ subst (λ j. is_value_of x (node j xs ts) ≡ true → IsBound Kind.BindingIdentifier x (node j xs ts)) (sym e) (λ v. differ (sym v)) v
    | inr e ↦ subst (λ j. is_value_of x (node j xs ts) ≡ true → IsBound Kind.BindingIdentifier x (node j xs ts)) (sym e) (λ v. differ (sym v)) v
  ]
]

abbrev ShorthandAt : Text → Term → Type 0
ShorthandAt x v = (g : Lead) (rest : Text) → ends rest false ≡ true → Item binding_property (pair_of Kind.BindingProperty false true (name_of x) (wrapped true never v)) (led g (to true never v rest)) rest

bound_alone : (x : Text) (v : Term) → IsBound Kind.BindingIdentifier x v → ShorthandAt x v
bound_alone x v b = let n = free_parts x b.free in subst (ShorthandAt x) (sym b.is) (λ g rest e. a_binding_shorthand n.1 (name_at g n.0 (ends_stop rest false e)))

bound_default : (x : Text) (xs : List Text) (ts : Terms) → Fit (places Kind.AssignmentPattern xs) Kind.AssignmentPattern xs ts → Kids (λ n. off) 0 ts → is_value_of x (node Kind.AssignmentPattern xs ts) ≡ true → ShorthandAt x (node Kind.AssignmentPattern xs ts)
bound_default x [] (more p (more absent none)) f c v g rest e = differ (sym f.placed.1.0)
bound_default x [] (more p (more (list ts) none)) f c v g rest e = differ (sym f.placed.1.0)
bound_default x [] (more p (more (node k ys us) none)) f c v g rest e =
    let b = bound_pattern x p f.placed.0 v in
    let n = free_parts x b.free in
    let q = at 2 refl true (node k ys us) f.placed.1.0 c.1.0 in
    let made : ShorthandAt x (node Kind.AssignmentPattern [] (two (binding_of x) (node k ys us))) = λ g rest e. a_binding_default n.1 (name_at g n.0 refl) (sign_at spaced (codes "=") refl refl) (q.stands spaced (through _ rest e)) in
    subst (λ z. ShorthandAt x (node Kind.AssignmentPattern [] (two z (node k ys us)))) (sym b.is) made g rest e
bound_default x xs ts f c v g rest e = differ (sym f.counted)

shorthand_binding : (x : Text) (v : Term) → has_shape (Place.one sorts.Sort.pattern_element) v ≡ true → Claim off v → is_value_of x v ≡ true → ShorthandAt x v
shorthand_binding x absent h c v = differ (sym h)
shorthand_binding x (list ts) h c v = differ (sym h)
shorthand_binding x (node k xs ts) h c v = elim (element_kind k (taken_by sorts.Sort.pattern_element k xs ts h).taken) as (λ z. ShorthandAt x (node k xs ts)) [
  | inl e ↦ subst (λ j. has_shape (Place.one sorts.Sort.pattern_element) (node j xs ts) ≡ true → Claim off (node j xs ts) → is_value_of x (node j xs ts) ≡ true → ShorthandAt x (node j xs ts)) (sym e)
      (λ h c v. bound_default x xs ts (fit_of sorts.Sort.pattern_element Kind.AssignmentPattern xs ts refl h).1 c.1 v) h c v
  | inr is ↦ elim (pattern_kind k is) as (λ z. ShorthandAt x (node k xs ts)) [
    | inl e ↦ subst (λ j. has_shape (Place.one sorts.Sort.pattern_element) (node j xs ts) ≡ true → is_value_of x (node j xs ts) ≡ true → ShorthandAt x (node j xs ts)) (sym e)
        (λ h v. let f = (fit_of sorts.Sort.pattern_element Kind.BindingIdentifier xs ts refl h).1 in bound_alone x (node Kind.BindingIdentifier xs ts) (bound_leaf Kind.BindingIdentifier x xs ts f.counted f.spoken v)) h v
    | inr r ↦ elim r as (λ z. ShorthandAt x (node k xs ts)) [
      | inl e ↦ subst (λ j. is_value_of x (node j xs ts) ≡ true → ShorthandAt x (node j xs ts)) (sym e) (λ v. differ (sym v)) v
      | inr e ↦ subst (λ j. is_value_of x (node j xs ts) ≡ true → ShorthandAt x (node j xs ts)) (sym e) (λ v. differ (sym v)) v
    ]
  ]
]

pub binding_property_rule : Rule Kind.BindingProperty
binding_property_rule m (x ∷ y ∷ []) (more k (more v none)) f c g rest e =
    pair_by v (λ zs z. (g : Lead) (rest : Text) → ends rest false ≡ true → Item binding_property (bare true (node Kind.BindingProperty zs (two z v))) (led g (bare_to true (node Kind.BindingProperty zs (two z v)) rest)) rest) k by
    (λ x s. shorthand_binding x v f.placed.1.0 c.1.0 s) x y f.spoken.0 f.spoken.1.0 f.placed.0 f.sound g rest e
  where
    by : (b : Bool) → has_shape (key_place b sorts.Sort.key) k ≡ true → (g : Lead) (rest : Text) → ends rest false ≡ true → Item binding_property (bare true (pair_of Kind.BindingProperty b false k v)) (led g (bare_to true (pair_of Kind.BindingProperty b false k v) rest)) rest
    by true h g rest e = a_binding_pair (key_at true k h c.0 g _ refl) (colon_at flush) (defaulted_at v f.placed.1.0 c.1.0 spaced rest e)
    by false h g rest e = a_binding_pair (key_at false k h c.0 g _ refl) (colon_at flush) (defaulted_at v f.placed.1.0 c.1.0 spaced rest e)
binding_property_rule m texts ts f c g rest e = differ (sym f.counted)

-- ---- { k: p, ...x }

property_item : (t : Term) → has_shape (Place.one (sorts.Sort.only Kind.BindingProperty)) t ≡ true → Claim off t → ItemAt binding_property true never t
property_item t h c = only Kind.BindingProperty (λ z. Claim off z → ItemAt binding_property true never z) (λ xs ts h c. c.0) t h c

object_rest_at : (r : Term) → has_shape (Place.one sorts.Sort.object_rest) r ≡ true → (g : Lead) (rest : Text) → stops rest ≡ true → Rest binding_property (wrapped true never r) (led g (to true never r rest)) rest
object_rest_at absent h g rest s = differ (sym h)
object_rest_at (list ts) h g rest s = differ (sym h)
object_rest_at (node k texts ts) h g rest s =
    subst (λ j. has_shape (Place.one sorts.Sort.object_rest) (node j texts ts) ≡ true → Rest binding_property (wrapped true never (node j texts ts)) (led g (to true never (node j texts ts) rest)) rest) (sym (kind_is k Kind.BindingRestElement (taken_by sorts.Sort.object_rest k texts ts h).taken)) (λ h. by texts ts (fit_of sorts.Sort.object_rest Kind.BindingRestElement texts ts refl h).1) h
  where
    by : (texts : List Text) (ts : Terms) → Fit (Place.one (sorts.Sort.only Kind.BindingIdentifier) ∷ []) Kind.BindingRestElement texts ts → Rest binding_property (wrapped true never (node Kind.BindingRestElement texts ts)) (led g (to true never (node Kind.BindingRestElement texts ts) rest)) rest
    by [] (more p none) f = leaf Kind.BindingIdentifier is_free_name refl refl (λ texts. refl) (λ z. Rest binding_property (wrapped true never (node Kind.BindingRestElement [] (one z))) (led g (to true never (node Kind.BindingRestElement [] (one z)) rest)) rest) (λ x b. let n = free_parts x b in rest_properties n.1 (dots_at g) (name_at flush n.0 s)) p f.placed.0
    by texts ts f = differ (sym f.counted)

pub object_pattern_rule : Rule Kind.ObjectPattern
object_pattern_rule m [] (more (list ts) (more r none)) f c g rest s =
    object_with binding_property (sorts.Sort.only Kind.BindingProperty) sorts.Sort.object_rest (λ es u a d. Pattern (rested Kind.ObjectPattern es u) a d) (λ es u a b d e left parts right. object_pattern left parts right) property_item r f.placed.1.0 (λ h g rest e. object_rest_at r h g rest (ends_stop rest false e)) ts (list_shape (Place.many (sorts.Sort.only Kind.BindingProperty)) ts f.placed.0).1 c.0 g rest
object_pattern_rule m [] (more absent (more t none)) f c g rest s = differ (sym f.placed.0)
object_pattern_rule m [] (more (node k xs us) (more t none)) f c g rest s = differ (sym f.placed.0)
object_pattern_rule m texts ts f c g rest s = differ (sym f.counted)
