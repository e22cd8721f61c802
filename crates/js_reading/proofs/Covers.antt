-- What was found as a literal stands as an expression or as a target.
use Rattle.std.proofs.Common.{◌≡◌, ◌≤◌, ℕ, Bool, true, false, if◌then◌else◌, List, [], ◌∷◌, Option, Some, None, refl, sym, subst, ◌∙◌, ap, arith, codes}
use Rattle.js_term.specs.Term.{Text, Term, absent, list, node, Terms, none, more, two, all, flag}
use Rattle.js_term.specs.Lexeme.{is_reserved}
use Rattle.js_term.specs.declared.kind.Kind.{Kind}
use Rattle.js_term.specs.Node.{name_of, identifier_of, array_of, object_of}
use Rattle.js_syntax.specs.Nodes.{of_part, of_parts, pair_of, rested}
use Rattle.js_syntax.specs.Parts.{is_node, is_present}
use Rattle.js_syntax.specs.Tokens.{Word, Sign}
use Rattle.js_syntax.specs.Edges.{is_simple_target, last_absent}
use Rattle.js_syntax.specs.Spelling.{Sort, Stands, Expression, Item, Listed, Group, Rested, Rest, Spread, Key, Target, DefaultedTarget}
use Rattle.js_syntax.specs.Spelling as spell
use Rattle.js_reading.specs.Reading.{Found, closed, sees, trees, any_cover, any_barred}
use Rattle.js_reading.specs.Targets.{Items, with_item, rest_as, part_as, pattern_as, object_rest, target_of, target_elements, target_property, target_properties}
use Rattle.js_reading.specs.Parts.{spread_of}
use Rattle.js_reading.specs.Literals.{ends_with_spread, is_barred, literal, pair_found, shorthand_found, default_found}
use Rattle.js_reading.proofs.Each.{or_both}
use Rattle.js_reading.proofs.Chains.{Chain, only, link, Held, held_none, held_some, held_comma}

-- a node that is no spread
abbrev pub is_solid : Term → Bool
is_solid (node Kind.SpreadElement texts ts) = false
is_solid (node k texts ts) = true
is_solid t = false

solid_present : (t : Term) → is_solid t ≡ true → is_present t ≡ true
solid_present absent h = absurd (cc)
solid_present (list ts) h = absurd (cc)
solid_present (node k xs ts) h = refl

solid_item : (t : Term) → is_solid t ≡ true → is_node Kind.SpreadElement t ≡ false
solid_item absent h = absurd (cc)
solid_item (list ts) h = absurd (cc)
solid_item (node Kind.SpreadElement xs ts) h = absurd (cc)
solid_item (node k xs ts) h = refl

-- What is found is an expression where it is no cover, and may become a target where nothing bars it.
pub record Covers (i : Bool) (least : ℕ) (f : Found) (a b : Text) : Type 0 where
  pub stands : f.cover ≡ false → Stands i f.level f.tree a b
  pub target : f.barred ≡ false → (t : Term) → target_of false f.tree ≡ Some t → Target i t a b
  pub element : f.barred ≡ false → (t : Term) → i ≡ true → target_of true f.tree ≡ Some t → DefaultedTarget t a b
  pub high : least ≤ f.level
  pub solid : is_solid f.tree ≡ true

-- ---- expressions that are no literals

abbrev pub is_open_kind : Kind → Bool
is_open_kind Kind.ArrayExpression = true
is_open_kind Kind.ObjectExpression = true
is_open_kind Kind.AssignmentExpression = true
is_open_kind k = false

-- what a target is made of
abbrev pub is_open : Term → Bool
is_open (node k texts ts) = is_open_kind k
is_open t = true

itself : (d : Bool) (e t : Term) → is_open e ≡ false → target_of d e ≡ Some t → (e ≡ t) × (is_simple_target e ≡ true)
itself d absent t l h = absurd (cc)
itself d (list ts) t l h = absurd (cc)
itself d (node Kind.Identifier xs ts) t l h = (cc, refl)
itself d (node Kind.StaticMemberExpression xs ts) t l h = (cc, refl)
itself d (node Kind.ComputedMemberExpression xs ts) t l h = (cc, refl)
itself d (node Kind.PrivateFieldExpression xs ts) t l h = (cc, refl)
itself d (node Kind.ArrayExpression xs ts) t l h = absurd (cc)
itself d (node Kind.ObjectExpression xs ts) t l h = absurd (cc)
itself d (node Kind.AssignmentExpression xs ts) t l h = absurd (cc)
itself true (node k xs ts) t l h = absurd (cc)
itself false (node k xs ts) t l h = absurd (cc)

self_target : {i : Bool} {n : ℕ} {e t : Term} {a b : Text} (d : Bool) → Stands i n e a b → is_open e ≡ false → target_of d e ≡ Some t → Target i t a b
self_target {i} {n} {e} {t} {a} {b} d s l h = let (same, simple) = itself d e t l h in
    subst (λ (t : Term). Target i t a b) same (spell.simple_target simple s)

pub is_true : {t : Term} {a b : Text} (i : Bool) → i ≡ true → Target i t a b → Target true t a b
is_true true e x = x
is_true false e x = absurd (cc)

pub closed_covers : {i : Bool} {least n : ℕ} {e : Term} {a b : Text} → least ≤ n → is_open e ≡ false → is_solid e ≡ true → Stands i n e a b → Covers i least (closed e n) a b
closed_covers {i} {least} {n} {e} h l solid s = record {
  stands = λ _. s;
  target = λ _ t x. self_target false s l x;
  element = λ _ t e' x. spell.target_alone (is_true i e' (self_target true s l x));
  high = h;
  solid = solid;
}

-- ---- the items of a literal

-- an expression, a spread, or where the flag allows it an elision in front of a comma
pub data Raw : Bool → Found → Text → Text → Type 0 where
  raw : {h : Bool} {f : Found} {a b : Text} → Covers true 2 f a b → Raw h f a b
  raw_spread : {h : Bool} {f : Found} {a b c : Text} → Sign (codes "...") a b → Covers true 2 f b c → Raw h (spread_of f) a c
  raw_hole : {a : Text} → sees (codes ",") a ≡ true → Raw true (closed absent 0) a a

-- what is read as an item of a list of this sort
pub record ItemOf (s : Sort) (P : Found → Text → Text → Type 0) : Type 0 where
  pub item : (f : Found) (a b : Text) → P f a b → f.cover ≡ false → Item s f.tree a b
  pub present : (f : Found) (a b : Text) → P f a b → sees (codes ",") b ≡ false → is_present f.tree ≡ true

module _ {s : Sort} {P : Found → Text → Text → Type 0} (of : ItemOf s P) where
  -- the last item is there, since it is in front of no comma
  pub chain_present : {fs : List Found} {a b : Text} → Chain P fs a b → sees (codes ",") b ≡ false → last_absent (trees fs) ≡ false
  chain_present (only {x} {a} {b} p) h = rw (of.present x a b p h) refl
  chain_present (link p tok (only q)) h = chain_present (only q) h
  chain_present (link p tok (link q tok' rest)) h = chain_present (link q tok' rest) h

  pub chain_listed : {fs : List Found} {a b : Text} → Chain P fs a b → any_cover fs ≡ false → Listed s (trees fs) a b
  chain_listed (only {x} {a} {b} p) h = spell.last (of.item x a b p (or_both x.cover false h).0)
  chain_listed (link {x} {xs} {a} {b} p tok rest) h = let both = or_both x.cover (any_cover xs) h in spell.and (of.item x a b p both.0) tok (chain_listed rest both.1)

  -- a list between signs
  pub held_group : {fs : List Found} {comma : Bool} {a b : Text} → Held P fs comma a b → any_cover fs ≡ false → Group s (trees fs) a b
  held_group held_none h = spell.no_items
  held_group (held_some stops c) h = spell.items (chain_present c stops) (chain_listed c h)
  held_group (held_comma c tok) h = spell.trailing (chain_listed c h) tok

raw_element : ItemOf spell.element (Raw true)
raw_element = record {
  item = λ f a b r h. go f a b r h;
  present = λ f a b r h. present f a b r h;
}
  where
    go : (f : Found) (a b : Text) → Raw true f a b → f.cover ≡ false → Item spell.element f.tree a b
    go f a b (raw c) h = spell.an_element (c.stands h)
    go f a b (raw_spread tok c) h = spell.a_spread_element (spell.spread tok (c.stands h))
    go f a b (raw_hole is) h = spell.an_elision

    present : (f : Found) (a b : Text) → Raw true f a b → sees (codes ",") b ≡ false → is_present f.tree ≡ true
    present f a b (raw c) h = solid_present f.tree c.solid
    present f a b (raw_spread tok c) h = refl
    present f a b (raw_hole is) h = absurd (cc)

pub raw_argument : ItemOf spell.argument (Raw false)
raw_argument = record {
  item = λ f a b r h. go f a b r h;
  present = λ f a b r h. present f a b r h;
}
  where
    go : (f : Found) (a b : Text) → Raw false f a b → f.cover ≡ false → Item spell.argument f.tree a b
    go f a b (raw c) h = spell.an_argument (c.stands h)
    go f a b (raw_spread tok c) h = spell.a_spread_argument (spell.spread tok (c.stands h))

    present : (f : Found) (a b : Text) → Raw false f a b → sees (codes ",") b ≡ false → is_present f.tree ≡ true
    present f a b (raw c) h = solid_present f.tree c.solid
    present f a b (raw_spread tok c) h = refl

-- ---- as the items of a target

-- items, a rest, or items and a rest; the flag says whether there is one
pub data Row (s : Sort) : Bool → List Term → Term → Text → Text → Type 0 where
  row_items : {us : List Term} {a b : Text} → Listed s us a b → (sees (codes ",") b ≡ false → last_absent us ≡ false) → Row s false us absent a b
  row_rest : {r : Term} {a b : Text} → Rest s r a b → Row s true [] r a b
  row_both : {us : List Term} {r : Term} {a b c d : Text} → Listed s us a b → Sign (codes ",") b c → Rest s r c d → Row s true us r a d

absent_behind : (s : Sort) (e : Term) (us : List Term) (a b : Text) → Listed s us a b → last_absent us ≡ false → last_absent (e ∷ us) ≡ false
absent_behind s e us a b (spell.last x) h = h
absent_behind s e us a b (spell.and x tok l) h = h

row_more : {s : Sort} {k : Bool} {e : Term} {us : List Term} {r : Term} {a b c d : Text} → Item s e a b → Sign (codes ",") b c → Row s k us r c d → Row s k (e ∷ us) r a d
row_more {s} {k} {e} {us} {r} {a} {b} {c} {d} x tok (row_items l p) = row_items (spell.and x tok l) (λ h. absent_behind s e us c d l (p h))
row_more x tok (row_rest y) = row_both (spell.last x) tok y
row_more x tok (row_both l tok' y) = row_both (spell.and x tok l) tok' y

-- an item, or a spread
pub data Class (s : Sort) (one : Term → Option Term) (last : Term → Items) (f : Found) (a b : Text) : Type 0 where
  an_item : is_node Kind.SpreadElement f.tree ≡ false → ((u : Term) → one f.tree ≡ Some u → Item s u a b × (sees (codes ",") b ≡ false → is_present u ≡ true)) → Class s one last f a b
  a_spread : (t : Term) → f.tree ≡ of_part Kind.SpreadElement t → ((us : List Term) (r : Term) → last t ≡ Some (us, r) → (us ≡ []) × Rest s r a b) → Class s one last f a b

-- how the items of a literal become those of a target of this sort
pub record Becomes (s : Sort) (P : Found → Text → Text → Type 0) (one : Term → Option Term) (last : Term → Items) (many : Terms → Items) : Type 0 where
  pub none_is : many none ≡ Some ([], absent)
  pub last_is : (t : Term) → many (more (of_part Kind.SpreadElement t) none) ≡ last t
  pub early : (t u : Term) (ts : Terms) → many (more (of_part Kind.SpreadElement t) (more u ts)) ≡ None
  pub more_is : (t : Term) (ts : Terms) → is_node Kind.SpreadElement t ≡ false → many (more t ts) ≡ with_item (one t) (many ts)
  pub class : (f : Found) (a b : Text) → P f a b → f.barred ≡ false → Class s one last f a b

pub record WithItem (o : Option Term) (p : Items) (us : List Term) (r : Term) : Type 0 where
  pub first : Term
  pub rest : List Term
  pub first_is : o ≡ Some first
  pub rest_is : p ≡ Some (rest, r)
  pub whole : us ≡ first ∷ rest

pub with_item_is : (o : Option Term) (p : Items) (us : List Term) (r : Term) → with_item o p ≡ Some (us, r) → WithItem o p us r
with_item_is None p us r h = absurd (cc)
with_item_is (Some t) None us r h = absurd (cc)
with_item_is (Some t) (Some (ts, q)) us r h =
    let pair : ◌≡◌ {A = List Term × Term} (t ∷ ts, q) (us, r) = cc in
    record { first = t; rest = ts; first_is = refl; rest_is = ap (λ (x : Term). Some (ts, x)) (ap (λ (x : List Term × Term). x.1) pair); whole = sym (ap (λ (x : List Term × Term). x.0) pair) }

module _ {s : Sort} {P : Found → Text → Text → Type 0} {one : Term → Option Term} {last : Term → Items} {many : Terms → Items} (of : Becomes s P one last many) where
  none_left : (us : List Term) (r : Term) → many none ≡ Some (us, r) → (us ≡ []) × (r ≡ absent)
  none_left us r h =
      let e : ◌≡◌ {A = Items} (Some ([], absent)) (Some (us, r)) = sym of.none_is ∙ h in
      let pair : ◌≡◌ {A = List Term × Term} ([], absent) (us, r) = cc in
      (sym (ap (λ (x : List Term × Term). x.0) pair), sym (ap (λ (x : List Term × Term). x.1) pair))

  single_row : (k : Bool) (u : Term) (us rest : List Term) (r : Term) (a b : Text) → us ≡ u ∷ rest → rest ≡ [] → r ≡ absent → k ≡ false → Item s u a b → (sees (codes ",") b ≡ false → is_present u ≡ true) → Row s k us r a b
  single_row k u us rest r a b whole rest_is absent_is no_spread item present =
      let us_is : us ≡ u ∷ [] = whole ∙ ap (λ (z : List Term). u ∷ z) rest_is in
      rw (us_is, absent_is, no_spread) (row_items (spell.last item) (λ stops. rw (present stops) refl))

  alone_row : (x : Found) (us : List Term) (r : Term) (a b : Text) → Class s one last x a b → many (more x.tree none) ≡ Some (us, r) → Row s (is_node Kind.SpreadElement x.tree) us r a b
  alone_row x us r a b (an_item other becomes) h =
      let w = with_item_is (one x.tree) (many none) us r (sym (of.more_is x.tree none other) ∙ h) in
      let (rest_is, absent_is) = none_left w.rest r w.rest_is in
      let (item, present) = becomes w.first w.first_is in
      single_row _ w.first us w.rest r a b w.whole rest_is absent_is other item present
  alone_row x us r a b (a_spread t is becomes) h =
      let (none_is, rest) = becomes us r (sym (of.last_is t) ∙ ap (λ (z : Term). many (more z none)) (sym is) ∙ h) in
      rw (is, none_is) (row_rest rest)

  behind_row : (x : Found) (y : Term) (ys us : List Term) (r : Term) (k : Bool) (a b c d : Text) → Class s one last x a b → many (all (x.tree ∷ y ∷ ys)) ≡ Some (us, r) → Sign (codes ",") b c →
      ((us : List Term) → many (all (y ∷ ys)) ≡ Some (us, r) → Row s k us r c d) → Row s k us r a d
  behind_row x y ys us r k a b c d (an_item other becomes) h tok rest =
      let w = with_item_is (one x.tree) (many (all (y ∷ ys))) us r (sym (of.more_is x.tree (all (y ∷ ys)) other) ∙ h) in
      let (item, present) = becomes w.first w.first_is in
      rw (w.whole) (row_more item tok (rest w.rest w.rest_is))
  behind_row x y ys us r k a b c d (a_spread t is becomes) h tok rest =
      absurd (let bad : None ≡ Some (us, r) = sym (of.early t y (all ys)) ∙ ap (λ (z : Term). many (more z (all (y ∷ ys)))) (sym is) ∙ h in cc)

  chain_row : {fs : List Found} {a b : Text} → Chain P fs a b → any_barred fs ≡ false → (us : List Term) (r : Term) → many (all (trees fs)) ≡ Some (us, r) → Row s (ends_with_spread fs) us r a b
  chain_row (only {x} {a} {b} p) h us r e = alone_row x us r a b (of.class x a b p (or_both x.barred false h).0) e
  chain_row (link {x} {xs} {a} {b} {c} {d} p tok (only {x = y} q)) h us r e =
      let both = or_both x.barred (any_barred xs) h in
      behind_row x y.tree [] us r _ a b c d (of.class x a b p both.0) e tok (λ vs f. chain_row (only q) both.1 vs r f)
  chain_row (link {x} {xs} {a} {b} {c} {d} p tok (link {x = y} {xs = ys} q tok' rest)) h us r e =
      let both = or_both x.barred (any_barred xs) h in
      behind_row x y.tree (trees ys) us r _ a b c d (of.class x a b p both.0) e tok (λ vs f. chain_row (link q tok' rest) both.1 vs r f)

  row_rested : (k : Bool) (us : List Term) (r : Term) (a b : Text) → sees (codes ",") b ≡ false → Row s k us r a b → Rested true s us r a b
  row_rested k us r a b stops (row_items l present) = spell.no_rest (spell.items (present stops) l)
  row_rested k us r a b stops (row_rest x) = spell.rest_alone x
  row_rested k us r a b stops (row_both l tok x) = spell.and_rest l tok x

  row_trailing : (k : Bool) (us : List Term) (r : Term) (a b c : Text) → k ≡ false → Row s k us r a b → Sign (codes ",") b c → Rested true s us r a c
  row_trailing k us r a b c h (row_items l present) tok = spell.no_rest (spell.trailing l tok)
  row_trailing k us r a b c h (row_rest x) tok = absurd (cc)
  row_trailing k us r a b c h (row_both l tok' x) tok = absurd (cc)

  pub held_rested : {fs : List Found} {comma : Bool} {a b : Text} → Held P fs comma a b → is_barred fs comma ≡ false → (us : List Term) (r : Term) → many (all (trees fs)) ≡ Some (us, r) → Rested true s us r a b
  held_rested held_none h us r e = let (x, y) = none_left us r e in rw (x, y) (spell.no_rest spell.no_items)
  held_rested (held_some {xs} {a} {b} stops c) h us r e = row_rested _ us r a b stops (chain_row c (or_both (any_barred xs) false h).0 us r e)
  held_rested (held_comma {xs} {a} {b} {c} l tok) h us r e = let both = or_both (any_barred xs) (ends_with_spread xs) h in row_trailing _ us r a b c both.1 (chain_row l both.0 us r e) tok

-- ---- arrays

none_some : {A : Type 0} (x : A) → None ≡ Some x → ⊥
none_some x h = cc

rest_as_is : (k : Kind) (o : Option Term) (us : List Term) (r : Term) → rest_as k o ≡ Some (us, r) → (t : Term) × (o ≡ Some t) × (us ≡ []) × (r ≡ of_part k t)
rest_as_is k None us r h = absurd (cc)
rest_as_is k (Some t) us r h =
    let pair : ◌≡◌ {A = List Term × Term} ([], of_part k t) (us, r) = cc in
    (t, refl, sym (ap (λ (x : List Term × Term). x.0) pair), sym (ap (λ (x : List Term × Term). x.1) pair))

pub pattern_as_is : (k : Kind) (o : Items) (t : Term) → pattern_as k o ≡ Some t → (p : List Term × Term) × (o ≡ Some p) × (rested k p.0 p.1 ≡ t)
pattern_as_is k None t h = absurd (cc)
pattern_as_is k (Some p) t h = (p, refl, cc)

simple_present : (t : Term) → is_simple_target t ≡ true → is_present t ≡ true
simple_present absent h = absurd (cc)
simple_present (list ts) h = absurd (cc)
simple_present (node k xs ts) h = refl

target_present : {i : Bool} {t : Term} {a b : Text} → Target i t a b → is_present t ≡ true
target_present (spell.simple_target {t = t} h s) = simple_present t h
target_present (spell.object_target x l y) = refl
target_present (spell.array_target x l y) = refl

defaulted_present : {t : Term} {a b : Text} → DefaultedTarget t a b → is_present t ≡ true
defaulted_present (spell.target_alone x) = target_present x
defaulted_present (spell.target_default x tok e) = refl

pub elements_more : (t : Term) (ts : Terms) → is_node Kind.SpreadElement t ≡ false → target_elements (more t ts) ≡ with_item (target_of true t) (target_elements ts)
elements_more absent ts h = refl
elements_more (list us) ts h = refl
elements_more (node Kind.SpreadElement xs us) ts h = absurd (cc)
elements_more (node k xs us) ts h = refl

pub raw_targets : (h : Bool) → Becomes spell.target_element (Raw h) (target_of true) (λ t. rest_as Kind.AssignmentTargetRest (target_of false t)) target_elements
raw_targets h = record {
  none_is = refl;
  last_is = λ t. refl;
  early = λ t u ts. refl;
  more_is = elements_more;
  class = λ f a b r k. class f a b r k;
}
  where
    whole : (f : Found) (a b : Text) → Covers true 2 f a b → f.barred ≡ false → Class spell.target_element (target_of true) (λ t. rest_as Kind.AssignmentTargetRest (target_of false t)) f a b
    whole f a b c k = an_item (solid_item f.tree c.solid) (λ u e. let x = c.element k u refl e in (spell.a_target x, λ stops. defaulted_present x))

    class : {h : Bool} (f : Found) (a b : Text) → Raw h f a b → f.barred ≡ false → Class spell.target_element (target_of true) (λ t. rest_as Kind.AssignmentTargetRest (target_of false t)) f a b
    class f a b (raw c) k = whole f a b c k
    class f a b (raw_spread {f = g} tok c) k = a_spread g.tree refl (λ us r e. let (t, is, none_is, rest_is) = rest_as_is Kind.AssignmentTargetRest (target_of false g.tree) us r e in (none_is, rw rest_is (spell.rest_target tok (c.target k t is))))
    class f a b (raw_hole is) k = an_item refl (λ u e. let same : absent ≡ u = cc in rw (sym same) (spell.a_target_hole, λ stops. absurd (cc)))

-- what stands between brackets
pub array_covers : {i : Bool} {fs : List Found} {comma : Bool} {a b c d : Text} → Sign (codes "[") a b → Held (Raw true) fs comma b c → Sign (codes "]") c d → Covers i 0 (literal (array_of (all (trees fs))) fs comma) a d
array_covers {i} {fs} {comma} {a} {b} {c} {d} open' held close = record {
  stands = λ h. spell.array open' (held_group raw_element held h) close;
  target = λ h t e. target h t e;
  element = λ h t is e. spell.target_alone (is_true i is (target h t e));
  high = omega arith;
  solid = refl;
}
  where
    target : is_barred fs comma ≡ false → (t : Term) → pattern_as Kind.ArrayAssignmentTarget (target_elements (all (trees fs))) ≡ Some t → Target i t a d
    target h t e = let (p, is, same) = pattern_as_is Kind.ArrayAssignmentTarget (target_elements (all (trees fs))) t e in
        subst (λ (t : Term). Target i t a d) same (spell.array_target open' (held_rested (raw_targets true) held h p.0 p.1 is) close)

-- ---- objects

-- a property: one with a value, a method or an accessor, a shorthand, one with an initializer, or a spread
pub data RawProperty : Found → Text → Text → Type 0 where
  raw_pair : {computed : Bool} {k : Term} {f : Found} {a b c d : Text} → Key computed k a b → Sign (codes ":") b c → Covers true 2 f c d → RawProperty (pair_found (computed, k) f) a d
  raw_function : {t : Term} {a b : Text} → Item spell.property_item t a b → is_solid t ≡ true → target_property t ≡ None → RawProperty (closed t 0) a b
  raw_short : {x a b : Text} → is_reserved x ≡ false → Word x a b → RawProperty (shorthand_found x) a b
  raw_default : {n : ℕ} {x a b c d : Text} {e : Term} → is_reserved x ≡ false → Word x a b → Sign (codes "=") b c → Stands true n e c d → RawProperty (default_found x e) a d
  raw_rest : {f : Found} {a b c : Text} → Sign (codes "...") a b → Covers true 2 f b c → RawProperty (spread_of f) a c

raw_property : ItemOf spell.property_item RawProperty
raw_property = record {
  item = λ f a b r h. go f a b r h;
  present = λ f a b r h. present f a b r;
}
  where
    go : (f : Found) (a b : Text) → RawProperty f a b → f.cover ≡ false → Item spell.property_item f.tree a b
    go f a b (raw_pair key tok c) h = spell.a_property key tok (c.stands h)
    go f a b (raw_function x solid none') h = x
    go f a b (raw_short free tok) h = spell.a_shorthand free tok
    go f a b (raw_default free tok tok' s) h = absurd (cc)
    go f a b (raw_rest tok c) h = spell.a_spread_property (spell.spread tok (c.stands h))

    present : (f : Found) (a b : Text) → RawProperty f a b → is_present f.tree ≡ true
    present f a b (raw_pair key tok c) = refl
    present f a b (raw_function {t} x solid none') = solid_present t solid
    present f a b (raw_short free tok) = refl
    present f a b (raw_default free tok tok' s) = refl
    present f a b (raw_rest tok c) = refl

simple_itself : (t : Term) → is_simple_target t ≡ true → target_of false t ≡ Some t
simple_itself absent h = absurd (cc)
simple_itself (list ts) h = absurd (cc)
simple_itself (node Kind.Identifier xs ts) h = refl
simple_itself (node Kind.StaticMemberExpression xs ts) h = refl
simple_itself (node Kind.ComputedMemberExpression xs ts) h = refl
simple_itself (node Kind.PrivateFieldExpression xs ts) h = refl
simple_itself (node k xs ts) h = absurd (cc)

object_rest_is : (t : Term) (us : List Term) (r : Term) → object_rest t ≡ Some (us, r) → (is_simple_target t ≡ true) × (us ≡ []) × (r ≡ of_part Kind.AssignmentTargetRest t)
object_rest_is t us r h = go (is_simple_target t) refl h
  where
    go : (k : Bool) → is_simple_target t ≡ k → ◌≡◌ {A = Items} (if k then Some ([], of_part Kind.AssignmentTargetRest t) else None) (Some (us, r)) → (is_simple_target t ≡ true) × (us ≡ []) × (r ≡ of_part Kind.AssignmentTargetRest t)
    go true is h =
        let pair : ◌≡◌ {A = List Term × Term} ([], of_part Kind.AssignmentTargetRest t) (us, r) = cc in
        (is, sym (ap (λ (x : List Term × Term). x.0) pair), sym (ap (λ (x : List Term × Term). x.1) pair))
    go false is h = absurd (cc)

pub part_as_is : (k : Kind) (xs : List Text) (key : Term) (o : Option Term) (u : Term) → part_as k xs key o ≡ Some u → (t : Term) × (o ≡ Some t) × (node k xs (two key t) ≡ u)
part_as_is k xs key None u h = absurd (cc)
part_as_is k xs key (Some t) u h = (t, refl, cc)

pub properties_more : (t : Term) (ts : Terms) → is_node Kind.SpreadElement t ≡ false → target_properties (more t ts) ≡ with_item (target_property t) (target_properties ts)
properties_more absent ts h = refl
properties_more (list us) ts h = refl
properties_more (node Kind.SpreadElement xs us) ts h = absurd (cc)
properties_more (node k xs us) ts h = refl

raw_pairs : Becomes spell.target_property RawProperty target_property object_rest target_properties
raw_pairs = record {
  none_is = refl;
  last_is = λ t. refl;
  early = λ t u ts. refl;
  more_is = properties_more;
  class = λ f a b r k. class f a b r k;
}
  where
    pair : {computed : Bool} {key : Term} (f : Found) (a b c d : Text) → Key computed key a b → Sign (codes ":") b c → Covers true 2 f c d → f.barred ≡ false → (u : Term) → target_property (pair_found (computed, key) f).tree ≡ Some u → Item spell.target_property u a d
    pair {computed} {key} f a b c d x tok y k u e =
        let (t, is, same) = part_as_is Kind.AssignmentTargetProperty (flag computed (codes "computed") ∷ [] ∷ []) key (target_of true f.tree) u e in
        subst (λ (u : Term). Item spell.target_property u a d) same (spell.a_target_pair x tok (y.element k t refl is))

    pair_present : (computed : Bool) (key : Term) (f : Found) (u : Term) → target_property (pair_found (computed, key) f).tree ≡ Some u → is_present u ≡ true
    pair_present computed key f u e =
        let (t, is, same) = part_as_is Kind.AssignmentTargetProperty (flag computed (codes "computed") ∷ [] ∷ []) key (target_of true f.tree) u e in
        rw (sym same) refl

    class : (f : Found) (a b : Text) → RawProperty f a b → f.barred ≡ false → Class spell.target_property target_property object_rest f a b
    class f a b (raw_pair {computed} {k = key} {f = g} {b = m} {c} x tok y) k = an_item refl (λ u e. (pair g a m c b x tok y k u e, λ stops. pair_present computed key g u e))
    class f a b (raw_function {t} x solid none') k = an_item (solid_item t solid) (λ u e. absurd (none_some u (sym none' ∙ e)))
    class f a b (raw_short {x} free tok) k = an_item refl (λ u e. let same : pair_of Kind.AssignmentTargetProperty false true (name_of x) (identifier_of x) ≡ u = cc in rw (sym same) (spell.a_target_shorthand free tok, λ stops. refl))
    class f a b (raw_default {x = x} {e = v} free tok tok' s) k = an_item refl (λ u e. let same : pair_of Kind.AssignmentTargetProperty false true (name_of x) (of_parts Kind.AssignmentTargetWithDefault (identifier_of x) v) ≡ u = cc in rw (sym same) (spell.a_target_default free tok tok' s, λ stops. refl))
    class f a b (raw_rest {f = g} tok c) k = a_spread g.tree refl (λ us r e. let (simple, none_is, rest_is) = object_rest_is g.tree us r e in (none_is, rw rest_is (spell.rest_target_properties simple tok (c.target k g.tree (simple_itself g.tree simple)))))

-- what stands between braces
pub object_covers : {i : Bool} {fs : List Found} {comma : Bool} {a b c d : Text} → Sign (codes "{") a b → Held RawProperty fs comma b c → Sign (codes "}") c d → Covers i 0 (literal (object_of (all (trees fs))) fs comma) a d
object_covers {i} {fs} {comma} {a} {b} {c} {d} open' held close = record {
  stands = λ h. spell.object open' (held_group raw_property held h) close;
  target = λ h t e. target h t e;
  element = λ h t is e. spell.target_alone (is_true i is (target h t e));
  high = omega arith;
  solid = refl;
}
  where
    target : is_barred fs comma ≡ false → (t : Term) → pattern_as Kind.ObjectAssignmentTarget (target_properties (all (trees fs))) ≡ Some t → Target i t a d
    target h t e = let (p, is, same) = pattern_as_is Kind.ObjectAssignmentTarget (target_properties (all (trees fs))) t e in
        subst (λ (t : Term). Target i t a d) same (spell.object_target open' (held_rested raw_pairs held h p.0 p.1 is) close)
