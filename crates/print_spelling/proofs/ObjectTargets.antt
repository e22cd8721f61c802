-- Objects of targets (ECMAScript 13.15.5).
use Rattle.std.proofs.Common.{◌≡◌, refl, sym, subst, List, [], ◌∷◌, Bool, true, false}
use Rattle.std.specs.Prelude.{codes}
use Rattle.js_term.specs.Term.{Text, Term, absent, list, node, Terms, none, more, two}
use Rattle.js_term.specs.declared.kind.Kind.{Kind}
use Rattle.js_term.specs.Node.{name_of, identifier_of}
use Rattle.js_syntax.specs.Nodes.{pair_of, rested}
use Rattle.js_syntax.specs.Sorts as sorts
use Rattle.js_syntax.specs.Sorts.{Place, takes}
use Rattle.js_syntax.specs.Places.{places, key_place}
use Rattle.js_syntax.specs.Printable.{has_shape, is_value_of}
use Rattle.js_syntax.specs.Spelling.{Item, Target, Rest, rest_target_properties, object_target, a_target_pair, a_target_shorthand, a_target_default, target_property}
use Rattle.print_layout.specs.Needs.{never}
use Rattle.print_layout.specs.Layout.{wrapped}
use Rattle.print_spelling.proofs.Tokens.{differ, Lead, flush, spaced, led, sign_at, name_at, colon_at, dots_at}
use Rattle.print_spelling.proofs.Spread.{to}
use Rattle.print_spelling.proofs.Fits.{Fit, fit_of, taken_by, plainly, list_shape}
use Rattle.print_spelling.proofs.Shapes.{kind_is, only}
use Rattle.print_spelling.proofs.Claims.{bare, bare_to, ends, ends_stop, through, Claim, Kids, off, Rule}
use Rattle.print_spelling.proofs.Placed.{at}
use Rattle.print_spelling.proofs.Lists.{ItemAt}
use Rattle.print_spelling.proofs.Keys.{key_at}
use Rattle.print_spelling.proofs.Assignments.{simple_target_at, simple_is}
use Rattle.print_spelling.proofs.Patterns.{defaulted_target_at}
use Rattle.print_spelling.proofs.Leaves.{free_parts}
use Rattle.print_spelling.proofs.Pairs.{IsBound, bound_leaf, pair_by, object_with}

-- ---- one name for key and value

pub bound_identifier : (s : sorts.Sort) (x : Text) (xs : List Text) (ts : Terms) → has_shape (Place.one s) (node Kind.Identifier xs ts) ≡ true → is_value_of x (node Kind.Identifier xs ts) ≡ true → IsBound Kind.Identifier x (node Kind.Identifier xs ts)
bound_identifier s x xs ts h v = let f = plainly s Kind.Identifier xs ts refl (fit_of s Kind.Identifier xs ts refl h).1 in bound_leaf Kind.Identifier x xs ts f.counted f.spoken v

bound_target : (x : Text) (p : Term) → has_shape (Place.one sorts.Sort.target) p ≡ true → is_value_of x p ≡ true → IsBound Kind.Identifier x p
bound_target x absent h v = differ (sym h)
bound_target x (list ts) h v = differ (sym h)
bound_target x (node Kind.Identifier xs ts) h v = bound_identifier sorts.Sort.target x xs ts h v
bound_target x (node Kind.BindingIdentifier xs ts) h v = differ (sym (taken_by sorts.Sort.target Kind.BindingIdentifier xs ts h).taken)
bound_target x (node Kind.AssignmentPattern xs ts) h v = differ (sym (taken_by sorts.Sort.target Kind.AssignmentPattern xs ts h).taken)
bound_target x (node Kind.AssignmentTargetWithDefault xs ts) h v = differ (sym (taken_by sorts.Sort.target Kind.AssignmentTargetWithDefault xs ts h).taken)
bound_target x (node k xs ts) h v = differ (sym v)

abbrev ShorthandAt : Text → Term → Type 0
ShorthandAt x v = (g : Lead) (rest : Text) → ends rest false ≡ true → Item target_property (pair_of Kind.AssignmentTargetProperty false true (name_of x) (wrapped true never v)) (led g (to true never v rest)) rest

identifier_alone : (x : Text) (v : Term) → IsBound Kind.Identifier x v → ShorthandAt x v
identifier_alone x v b = let n = free_parts x b.free in subst (ShorthandAt x) (sym b.is) (λ g rest e. a_target_shorthand n.1 (name_at g n.0 (ends_stop rest false e)))

identifier_default : (x : Text) (xs : List Text) (ts : Terms) → Fit (places Kind.AssignmentTargetWithDefault xs) Kind.AssignmentTargetWithDefault xs ts → Kids (λ n. off) 0 ts → is_value_of x (node Kind.AssignmentTargetWithDefault xs ts) ≡ true → ShorthandAt x (node Kind.AssignmentTargetWithDefault xs ts)
identifier_default x [] (more p (more absent none)) f c v g rest e = differ (sym f.placed.1.0)
identifier_default x [] (more p (more (list ts) none)) f c v g rest e = differ (sym f.placed.1.0)
identifier_default x [] (more p (more (node k ys us) none)) f c v g rest e =
    let b = bound_target x p f.placed.0 v in
    let n = free_parts x b.free in
    let q = at 2 refl true (node k ys us) f.placed.1.0 c.1.0 in
    let made : ShorthandAt x (node Kind.AssignmentTargetWithDefault [] (two (identifier_of x) (node k ys us))) = λ g rest e. a_target_default n.1 (name_at g n.0 refl) (sign_at spaced (codes "=") refl refl) (q.stands spaced (through _ rest e)) in
    subst (λ z. ShorthandAt x (node Kind.AssignmentTargetWithDefault [] (two z (node k ys us)))) (sym b.is) made g rest e
identifier_default x xs ts f c v g rest e = differ (sym f.counted)

shorthand_target : (x : Text) (v : Term) → has_shape (Place.one sorts.Sort.target_element) v ≡ true → Claim off v → is_value_of x v ≡ true → ShorthandAt x v
shorthand_target x absent h c v = differ (sym h)
shorthand_target x (list ts) h c v = differ (sym h)
shorthand_target x (node Kind.Identifier xs ts) h c v = identifier_alone x (node Kind.Identifier xs ts) (bound_identifier sorts.Sort.target_element x xs ts h v)
shorthand_target x (node Kind.AssignmentTargetWithDefault xs ts) h c v = identifier_default x xs ts (fit_of sorts.Sort.target_element Kind.AssignmentTargetWithDefault xs ts refl h).1 c.1 v
shorthand_target x (node Kind.BindingIdentifier xs ts) h c v = differ (sym (taken_by sorts.Sort.target_element Kind.BindingIdentifier xs ts h).taken)
shorthand_target x (node Kind.AssignmentPattern xs ts) h c v = differ (sym (taken_by sorts.Sort.target_element Kind.AssignmentPattern xs ts h).taken)
shorthand_target x (node k xs ts) h c v = differ (sym v)

pub target_property_rule : Rule Kind.AssignmentTargetProperty
target_property_rule m (x ∷ y ∷ []) (more k (more v none)) f c g rest e =
    pair_by v (λ zs z. (g : Lead) (rest : Text) → ends rest false ≡ true → Item target_property (bare true (node Kind.AssignmentTargetProperty zs (two z v))) (led g (bare_to true (node Kind.AssignmentTargetProperty zs (two z v)) rest)) rest) k by
    (λ x s. shorthand_target x v f.placed.1.0 c.1.0 s) x y f.spoken.0 f.spoken.1.0 f.placed.0 f.sound g rest e
  where
    by : (b : Bool) → has_shape (key_place b sorts.Sort.key) k ≡ true → (g : Lead) (rest : Text) → ends rest false ≡ true → Item target_property (bare true (pair_of Kind.AssignmentTargetProperty b false k v)) (led g (bare_to true (pair_of Kind.AssignmentTargetProperty b false k v) rest)) rest
    by true h g rest e = a_target_pair (key_at true k h c.0 g _ refl) (colon_at flush) (defaulted_target_at v f.placed.1.0 c.1.0 spaced rest e)
    by false h g rest e = a_target_pair (key_at false k h c.0 g _ refl) (colon_at flush) (defaulted_target_at v f.placed.1.0 c.1.0 spaced rest e)
target_property_rule m texts ts f c g rest e = differ (sym f.counted)

-- ---- { k: p, ...x }

property_item : (t : Term) → has_shape (Place.one (sorts.Sort.only Kind.AssignmentTargetProperty)) t ≡ true → Claim off t → ItemAt target_property true never t
property_item t h c = only Kind.AssignmentTargetProperty (λ z. Claim off z → ItemAt target_property true never z) (λ xs ts h c. c.0) t h c

object_target_rest_at : (r : Term) → has_shape (Place.one sorts.Sort.object_target_rest) r ≡ true → Claim off r → (g : Lead) (rest : Text) → ends rest false ≡ true → Rest target_property (wrapped true never r) (led g (to true never r rest)) rest
object_target_rest_at absent h c g rest s = differ (sym h)
object_target_rest_at (list ts) h c g rest s = differ (sym h)
object_target_rest_at (node k texts ts) h c g rest s =
    subst (λ j. has_shape (Place.one sorts.Sort.object_target_rest) (node j texts ts) ≡ true → Claim off (node j texts ts) → Rest target_property (wrapped true never (node j texts ts)) (led g (to true never (node j texts ts) rest)) rest) (sym (kind_is k Kind.AssignmentTargetRest (taken_by sorts.Sort.object_target_rest k texts ts h).taken)) (λ h c. by texts ts (fit_of sorts.Sort.object_target_rest Kind.AssignmentTargetRest texts ts refl h).1 c.1) h c
  where
    by : (texts : List Text) (ts : Terms) → Fit (Place.one sorts.Sort.simple_target ∷ []) Kind.AssignmentTargetRest texts ts → Kids (λ n. off) 0 ts → Rest target_property (wrapped true never (node Kind.AssignmentTargetRest texts ts)) (led g (to true never (node Kind.AssignmentTargetRest texts ts) rest)) rest
    by [] (more p none) f c = let q = simple_is true p f.placed.0 c.0 in rest_target_properties q.is (dots_at g) ((simple_target_at true p f.placed.0 c.0).target flush rest s)
    by texts ts f c = differ (sym f.counted)

pub object_target_rule : Rule Kind.ObjectAssignmentTarget
object_target_rule m [] (more (list ts) (more r none)) f c i g rest =
    object_with target_property (sorts.Sort.only Kind.AssignmentTargetProperty) sorts.Sort.object_target_rest (λ es u a d. Target i (rested Kind.ObjectAssignmentTarget es u) a d) (λ es u a b d e left parts right. object_target left parts right) property_item r f.placed.1.0 (λ h. object_target_rest_at r h c.1.0) ts (list_shape (Place.many (sorts.Sort.only Kind.AssignmentTargetProperty)) ts f.placed.0).1 c.0 g rest
object_target_rule m [] (more absent (more t none)) f c i g rest = differ (sym f.placed.0)
object_target_rule m [] (more (node k xs us) (more t none)) f c i g rest = differ (sym f.placed.0)
object_target_rule m texts ts f c i g rest = differ (sym f.counted)
