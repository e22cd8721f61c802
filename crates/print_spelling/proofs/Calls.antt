-- Members, calls, chains, templates (ECMAScript 13.3).
use Rattle.std.proofs.Common.{◌≡◌, refl, sym, subst, List, [], ◌∷◌, ◌++◌, Bool, true, false, ◌||◌, inl, inr, ◌⊎◌}
use Rattle.std.specs.Prelude.{codes}
use Rattle.js_term.specs.Term.{Text, Term, absent, list, node, Terms, none}
use Rattle.js_term.specs.declared.kind.Kind.{Kind}
use Rattle.js_syntax.specs.Edges.{has_kind}
use Rattle.js_syntax.specs.Nodes.{super_of}
use Rattle.js_syntax.specs.Sorts.{Sort, Place, is_expression, takes}
use Rattle.js_syntax.specs.Printable.{has_shape, has_link}
use Rattle.js_syntax.specs.Spelling as spelling
use Rattle.js_syntax.specs.Spelling.{Stands, Item, an_argument, a_spread_argument, Spread, Group, Arguments, arguments, Access, static_access, computed_access, private_access, plain_dot, optional_dot, not_optional, is_optional, Dot, Optional, Link, access_link, argument_link, Spine, first_link, next_link, member, super_member, call, super_call, chain, construction, import_call, ImportOptions, no_options, options}
use Rattle.print_layout.specs.Rows.{comma}
use Rattle.print_layout.specs.Needs.{is_looser, is_number_kind}
use Rattle.print_layout.specs.Layout.{wrapped, each_wrapped}
use Rattle.print_spelling.proofs.Tokens.{differ, or_false, Lead, flush, led, left_parenthesis, right_parenthesis}
use Rattle.print_spelling.proofs.Spread.{To, to, each_to, separated_to}
use Rattle.print_spelling.proofs.Fits.{Fit, fit_of, taken_by, list_shape}
use Rattle.print_spelling.proofs.Claims.{closed, ends, through, NodeExpr, Claim, Each, Mode, off, on, tagged, Linked}
use Rattle.print_spelling.proofs.Placed.{InPlace, in_place_node, expression_meaning, loose_le, At, at_by, loose, closed_tight}
use Rattle.print_spelling.proofs.Lists.{ItemAt, one_whole, whole_group}

-- ---- arguments

argument_kind : (k : Kind) → takes Sort.argument k ≡ true → (k ≡ Kind.SpreadElement) ⊎ (is_expression k ≡ true)
argument_kind Kind.SpreadElement h = inl refl
argument_kind k h = inr h

-- a spread, or an expression of level 2 or more
pub argument_is : (i : Bool) (C : Term → To → Type 0) → ((u : Term) (f : To) → ((g : Lead) (rest : Text) → ends rest false ≡ true → Spread u (led g (f rest)) rest) → C u f) → ((t : Term) → At true (loose 2) 2 t → C (wrapped true (loose 2) t) (to true (loose 2) t)) → (t : Term) → has_shape (Place.one Sort.argument) t ≡ true → Claim off t → C (wrapped true (loose 2) t) (to true (loose 2) t)
argument_is i C f e absent h c = differ (sym h)
argument_is i C f e (list ts) h c = differ (sym h)
argument_is i C f e (node k texts ts) h c = elim (argument_kind k (taken_by Sort.argument k texts ts h).taken) as (λ z. C (wrapped true (loose 2) (node k texts ts)) (to true (loose 2) (node k texts ts))) [
  | inl same ↦ subst (λ j. Claim off (node j texts ts) → C (wrapped true (loose 2) (node j texts ts)) (to true (loose 2) (node j texts ts))) (sym same) (λ d. f _ _ d.0) c
  | inr is ↦ let t : Term = node k texts ts in e t (at_by 2 refl true (loose 2) t (loose_le 2 t) (in_place_node true (loose 2) k texts ts (expression_meaning off k t is c.0)))
]

argument_item : (t : Term) → has_shape (Place.one Sort.argument) t ≡ true → Claim off t → ItemAt spelling.Sort.argument true (loose 2) t
argument_item absent h c g rest e = differ (sym h)
argument_item (list ts) h c g rest e = differ (sym h)
argument_item (node k texts ts) h c g rest e =
    argument_is true (λ u f. Item spelling.Sort.argument u (led g (f rest)) rest) (λ u f s. a_spread_argument (s g rest e)) (λ t p. an_argument (p.stands g (through _ rest e))) (node k texts ts) h c

pub arguments_at : (ts : Terms) → has_shape (Place.many Sort.argument) (list ts) ≡ true → Each off ts → (g : Lead) (rest : Text) → Arguments (each_wrapped true (loose 2) ts) (led g (40 ∷ separated_to comma (each_to true (loose 2) ts) (41 ∷ rest))) rest
arguments_at ts h c g rest =
    arguments (left_parenthesis g) (whole_group spelling.Sort.argument (Place.one Sort.argument) (one_whole Sort.argument) off true (loose 2) argument_item ts (list_shape (Place.many Sort.argument) ts h).1 c (41 ∷ rest) refl) (right_parenthesis flush)

-- ---- objects and callees

node_of : (m : Mode) (t : Term) → Linked m t → (m ≡ tagged → ⊥) → (m ≡ on → has_link t ≡ false) → NodeExpr t
node_of off t e n h = e
node_of on t e n h = e.0 (h refl)
node_of tagged t e n h = absurd (n refl)

object_kind : (k : Kind) → takes Sort.object k ≡ true → (k ≡ Kind.Super) ⊎ (is_expression k ≡ true)
object_kind Kind.Super h = inl refl
object_kind k h = inr h

super_is : (texts : List Text) (ts : Terms) → Fit [] Kind.Super texts ts → node Kind.Super texts ts ≡ super_of
super_is [] none m = refl
super_is texts ts m = differ (sym m.counted)

-- `super`, or an expression
pub object_is : (m : Mode) (t : Term) → has_shape (Place.one Sort.object) t ≡ true → Claim m t → (m ≡ tagged → ⊥) → (m ≡ on → has_link t ≡ false) → (t ≡ super_of) ⊎ ((i : Bool) (need : Term → Bool) → InPlace i need t)
object_is m absent h c n f = differ (sym h)
object_is m (list ts) h c n f = differ (sym h)
object_is m (node k texts ts) h c n f = elim (object_kind k (taken_by Sort.object k texts ts h).taken) [
  | inl same ↦ inl (subst (λ j. has_shape (Place.one Sort.object) (node j texts ts) ≡ true → node j texts ts ≡ super_of) (sym same) (λ h. super_is texts ts (fit_of Sort.object Kind.Super texts ts refl h).1) h)
  | inr is ↦ inr (λ i need. in_place_node i need k texts ts (node_of m (node k texts ts) (expression_meaning m k (node k texts ts) is c.0) n f))
]

pub expression_is : (m : Mode) (t : Term) → has_shape (Place.one Sort.expression) t ≡ true → Claim m t → (m ≡ tagged → ⊥) → (m ≡ on → has_link t ≡ false) → (i : Bool) (need : Term → Bool) → InPlace i need t
expression_is m absent h c n f i need = differ (sym h)
expression_is m (list ts) h c n f i need = differ (sym h)
expression_is m (node k texts ts) h c n f i need =
    let is = (taken_by Sort.expression k texts ts h).taken in
    in_place_node i need k texts ts (node_of m (node k texts ts) (expression_meaning m k (node k texts ts) is c.0) n f)

abbrev pub object_need : Term → Bool
object_need t = has_kind is_number_kind t || is_looser 19 t

-- an object in its place: of level 19 or more, and no number
pub object_at : (i : Bool) (t : Term) → InPlace i object_need t → At i object_need 19 t
object_at i t p = at_by 19 refl i object_need t (λ h. loose_le 19 t (or_false (has_kind is_number_kind t) (is_looser 19 t) h).1) p

object_shut : (i : Bool) (t : Term) → InPlace i object_need t → closed (wrapped i object_need t) ≡ true
object_shut i t p = p.shut (λ h. let both = or_false (has_kind is_number_kind t) (is_looser 19 t) h in closed_tight t (loose_le 19 t both.1) both.0)

pub point_behind : (i : Bool) (t : Term) → InPlace i object_need t → (rest : Text) → ends (46 ∷ rest) (closed (wrapped i object_need t)) ≡ true
point_behind i t p rest = object_shut i t p

super_text : (i : Bool) (need : Term → Bool) → need super_of ≡ false → (rest : Text) → to i need super_of rest ≡ codes "super" ++ rest
super_text true need h rest = rw h refl
super_text false need h rest = rw h refl

super_wrapped : (i : Bool) (need : Term → Bool) → need super_of ≡ false → wrapped i need super_of ≡ super_of
super_wrapped true need h = rw h refl
super_wrapped false need h = rw h refl
