-- A target that has the shape of a pattern is one.
use Rattle.std.proofs.Common.{◌≡◌, ℕ, Bool, true, false, not, List, [], ◌∷◌, Option, Some, None, refl, sym, subst, ◌∙◌, ap, codes}
use Rattle.js_term.specs.Term.{Text, Term, absent, list, node, Terms, none, more, all, flag}
use Rattle.js_term.specs.declared.kind.Kind.{Kind}
use Rattle.js_term.specs.Lexeme.{is_reserved}
use Rattle.js_term.specs.Node.{identifier_of, binding_of}
use Rattle.js_syntax.specs.Nodes.{of_part, of_parts}
use Rattle.js_syntax.specs.Parts.{is_present}
use Rattle.js_syntax.specs.Tokens.{Word}
use Rattle.js_syntax.specs.Edges.{is_simple_target, last_absent}
use Rattle.js_syntax.specs.Spelling.{Sort, Stands, Item, Listed, Group, Rested, Rest, Target, DefaultedTarget, Pattern, Defaulted}
use Rattle.js_syntax.specs.Spelling as spell
use Rattle.js_reading.specs.Targets.{default_as, bound_name, with_rest, with_first, rest_of, bound_object_rest, pattern_of, pattern_rest, pattern_elements, pattern_property, pattern_properties}
use Rattle.js_reading.proofs.Covers.{pattern_as_is, part_as_is}

-- ---- an identifier

pub named : {i : Bool} {n : ℕ} {e : Term} {a b : Text} → Stands i n e a b → (x : Text) → e ≡ identifier_of x → (is_reserved x ≡ false) × Word x a b
named {a = a} {b = b} (spell.identifier {x = y} free tok) x h = let same : y ≡ x = cc in subst (λ (z : Text). (is_reserved z ≡ false) × Word z a b) same (free, tok)
named (spell.this_expression w) x h = absurd (cc)
named (spell.null_literal w) x h = absurd (cc)
named (spell.boolean v w) x h = absurd (cc)
named (spell.numeric w) x h = absurd (cc)
named (spell.bigint w) x h = absurd (cc)
named (spell.string_literal w) x h = absurd (cc)
named (spell.regexp_literal w) x h = absurd (cc)
named (spell.template t) x h = absurd (cc)
named (spell.array y g z) x h = absurd (cc)
named (spell.object y g z) x h = absurd (cc)
named (spell.function_expression (spell.function p w s id ps t)) x h = absurd (cc)
named (spell.class_expression (spell.class w id q y es z)) x h = absurd (cc)
named (spell.parenthesized y e z) x h = absurd (cc)
named (spell.import_meta w y z) x h = absurd (cc)
named (spell.new_target w y z) x h = absurd (cc)
named (spell.member q o (spell.static_access d w)) x h = absurd (cc)
named (spell.member q o (spell.computed_access d y e z)) x h = absurd (cc)
named (spell.member q o (spell.private_access d w)) x h = absurd (cc)
named (spell.super_member w (spell.static_access d v) p) x h = absurd (cc)
named (spell.super_member w (spell.computed_access d y e z) p) x h = absurd (cc)
named (spell.super_member w (spell.private_access d v) p) x h = absurd (cc)
named (spell.tagged q t y) x h = absurd (cc)
named (spell.construction w q f es) x h = absurd (cc)
named (spell.bare_construction (spell.new_member w q f)) x h = absurd (cc)
named (spell.bare_construction (spell.new_new w f)) x h = absurd (cc)
named (spell.call q f es) x h = absurd (cc)
named (spell.super_call w es) x h = absurd (cc)
named (spell.import_call w y e o z) x h = absurd (cc)
named (spell.chain s) x h = absurd (cc)
named (spell.update_behind p q t l y) x h = absurd (cc)
named (spell.update_before p q y t) x h = absurd (cc)
named (spell.unary p q y e) x h = absurd (cc)
named (spell.await_expression p w e) x h = absurd (cc)
named (spell.exponentiation p q l y r) x h = absurd (cc)
named (spell.binary p q s t l y r) x h = absurd (cc)
named (spell.private_in p w y r) x h = absurd (cc)
named (spell.conjunction p q l y r) x h = absurd (cc)
named (spell.disjunction p q l y r) x h = absurd (cc)
named (spell.coalescing p q l y r) x h = absurd (cc)
named (spell.conditional p t y e z f) x h = absurd (cc)
named (spell.assignment p q t y e) x h = absurd (cc)
named (spell.arrow ps l y t) x h = absurd (cc)
named (spell.bare_yield w) x h = absurd (cc)
named (spell.yielding w l e) x h = absurd (cc)
named (spell.delegating w l y e) x h = absurd (cc)

-- ---- what the conversions come to

pub with_first_is : (o : Option Term) (p : Option (List Term)) (us : List Term) → with_first o p ≡ Some us → (t : Term) × (ts : List Term) × (o ≡ Some t) × (p ≡ Some ts) × (us ≡ t ∷ ts)
with_first_is None p us h = absurd (cc)
with_first_is (Some t) None us h = absurd (cc)
with_first_is (Some t) (Some ts) us h = (t, ts, refl, refl, cc)

pub with_rest_is : (o : Option (List Term)) (p : Option Term) (q : List Term × Term) → with_rest o p ≡ Some q → (o ≡ Some q.0) × (p ≡ Some q.1)
with_rest_is None p q h = absurd (cc)
with_rest_is (Some ts) None q h = absurd (cc)
with_rest_is (Some ts) (Some r) q h = let pair : ◌≡◌ {A = List Term × Term} (ts, r) q = cc in (ap (λ (x : List Term × Term). Some x.0) pair, ap (λ (x : List Term × Term). Some x.1) pair)

pub default_as_is : (k : Kind) (o : Option Term) (e p : Term) → default_as k o e ≡ Some p → (t : Term) × (o ≡ Some t) × (of_parts k t e ≡ p)
default_as_is k None e p h = absurd (cc)
default_as_is k (Some t) e p h = (t, refl, cc)

pub rest_of_is : (o : Option Term) (q : Term) → rest_of o ≡ Some q → (p : Term) × (o ≡ Some p) × (of_part Kind.BindingRestElement p ≡ q)
rest_of_is None q h = absurd (cc)
rest_of_is (Some p) q h = (p, refl, cc)

pub some_is : {A : Type 0} (x y : A) → Some x ≡ Some y → x ≡ y
some_is x y h = cc

-- ---- the two sorts of items

pub data Side : Sort → Sort → Type 0 where
  elements : Side spell.target_element spell.binding_element
  properties : Side spell.target_property spell.binding_property

abbrev item_of : {s t : Sort} → Side s t → Term → Option Term
item_of elements e = pattern_of true e
item_of properties e = pattern_property e

abbrev items_of : {s t : Sort} → Side s t → Terms → Option (List Term)
items_of elements ts = pattern_elements ts
items_of properties ts = pattern_properties ts

abbrev pub rest_in : {s t : Sort} → Side s t → Term → Option Term
rest_in elements r = pattern_rest r
rest_in properties r = bound_object_rest r

items_none : {s t : Sort} (k : Side s t) → items_of k none ≡ Some []
items_none elements = refl
items_none properties = refl

items_more : {s t : Sort} (k : Side s t) (e : Term) (es : Terms) → items_of k (more e es) ≡ with_first (item_of k e) (items_of k es)
items_more elements e es = refl
items_more properties e es = refl

no_rest_in : {s t : Sort} (k : Side s t) → rest_in k absent ≡ Some absent
no_rest_in elements = refl
no_rest_in properties = refl

-- what is there stays there
pattern_present : (e p : Term) → pattern_of true e ≡ Some p → is_present e ≡ true → is_present p ≡ true
pattern_present absent p h q = absurd (cc)
pattern_present (node Kind.Identifier (x ∷ []) none) p h q = rw (sym (some_is (binding_of x) p h)) refl
pattern_present (node Kind.ObjectAssignmentTarget xs (more (list ts) (more r none))) p h q =
    let (ps, is, same) = pattern_as_is Kind.ObjectPattern (with_rest (pattern_properties ts) (bound_object_rest r)) p h in rw (sym same) refl
pattern_present (node Kind.ArrayAssignmentTarget xs (more (list ts) (more r none))) p h q =
    let (ps, is, same) = pattern_as_is Kind.ArrayPattern (with_rest (pattern_elements ts) (pattern_rest r)) p h in rw (sym same) refl
pattern_present (node Kind.AssignmentTargetWithDefault xs (more t (more e none))) p h q =
    let (o, is, same) = default_as_is Kind.AssignmentPattern (pattern_of false t) e p h in rw (sym same) refl
pattern_present t p h q = absurd (cc)

property_present : (e p : Term) → pattern_property e ≡ Some p → is_present p ≡ true
property_present (node Kind.AssignmentTargetProperty xs (more k (more v none))) p h =
    let (o, is, same) = part_as_is Kind.BindingProperty xs k (pattern_of true v) p h in rw (sym same) refl
property_present t p h = absurd (cc)

item_present : {s t : Sort} (k : Side s t) (e p : Term) → item_of k e ≡ Some p → is_present e ≡ true → is_present p ≡ true
item_present elements e p h q = pattern_present e p h q
item_present properties e p h q = property_present e p h

not_false_is : (b : Bool) → not b ≡ false → b ≡ true
not_false_is true h = refl
not_false_is false h = absurd (cc)

last_present : {s t : Sort} (k : Side s t) (es us : List Term) → items_of k (all es) ≡ Some us → last_absent es ≡ false → last_absent us ≡ false
last_present k [] us h q = rw (sym (some_is [] us (sym (items_none k) ∙ h))) refl
last_present k (e ∷ []) us h q =
    let (p, ps, is, none_is, whole) = with_first_is (item_of k e) (items_of k none) us (sym (items_more k e none) ∙ h) in
    let empty : [] ≡ ps = some_is [] ps (sym (items_none k) ∙ none_is) in
    rw (whole, sym empty, item_present k e p is (not_false_is (is_present e) q)) refl
last_present k (e ∷ f ∷ es) us h q =
    let (p, ps, is, more_is, whole) = with_first_is (item_of k e) (items_of k (all (f ∷ es))) us (sym (items_more k e (all (f ∷ es))) ∙ h) in
    let (p', ps', is', more_is', whole') = with_first_is (item_of k f) (items_of k (all es)) ps (sym (items_more k f (all es)) ∙ more_is) in
    let rest = last_present k (f ∷ es) ps more_is q in
    subst (λ (z : List Term). last_absent z ≡ false) (sym (whole ∙ ap (λ (z : List Term). p ∷ z) whole')) (subst (λ (z : List Term). last_absent z ≡ false) whole' rest)

-- ---- the names in it

record Name (p : Term) (a b : Text) : Type 0 where
  name : Text
  is : binding_of name ≡ p
  free : is_reserved name ≡ false
  token : Word name a b

name_there : {i : Bool} {n : ℕ} (d : Bool) (t : Term) {a b : Text} → Stands i n t a b → is_simple_target t ≡ true → (p : Term) → pattern_of d t ≡ Some p → Name p a b
name_there d absent s h p e = absurd (cc)
name_there d (list ts) s h p e = absurd (cc)
name_there d (node Kind.Identifier (x ∷ []) none) s h p e = let (free, tok) = named s x refl in record { name = x; is = some_is (binding_of x) p e; free = free; token = tok }
name_there true (node k xs ts) s h p e = absurd (cc)
name_there false (node k xs ts) s h p e = absurd (cc)

bound_is : (t p : Term) → bound_name t ≡ Some p → pattern_of false t ≡ Some p
bound_is absent p h = absurd (cc)
bound_is (list ts) p h = absurd (cc)
bound_is (node Kind.Identifier (x ∷ []) none) p h = h
bound_is (node k xs ts) p h = absurd (cc)

bound_target : {t : Term} {a b : Text} → Target true t a b → is_simple_target t ≡ true → (p : Term) → bound_name t ≡ Some p → Name p a b
bound_target (spell.simple_target {t = t} h s) simple p e = name_there false t s h p (bound_is t p e)
bound_target (spell.object_target x l y) simple p e = absurd (cc)
bound_target (spell.array_target x l y) simple p e = absurd (cc)

mutual
  pub pattern_there : {i : Bool} {t : Term} {a b : Text} → Target i t a b → (d : Bool) (p : Term) → pattern_of d t ≡ Some p → Pattern p a b
  pattern_there {a = a} {b = b} (spell.simple_target {t = t} h s) d p e = let n = name_there d t s h p e in subst (λ (z : Term). Pattern z a b) n.is (spell.binding n.free n.token)
  pattern_there {a = a} {b = b} (spell.object_target {ps} {r} x l y) d p e =
      let (q, is, same) = pattern_as_is Kind.ObjectPattern (with_rest (pattern_properties (all ps)) (bound_object_rest r)) p e in
      let (items, rest) = with_rest_is (pattern_properties (all ps)) (bound_object_rest r) q is in
      subst (λ (z : Term). Pattern z a b) same (spell.object_pattern x (rested_there properties l q.0 q.1 items rest) y)
  pattern_there {a = a} {b = b} (spell.array_target {ps} {r} x l y) d p e =
      let (q, is, same) = pattern_as_is Kind.ArrayPattern (with_rest (pattern_elements (all ps)) (pattern_rest r)) p e in
      let (items, rest) = with_rest_is (pattern_elements (all ps)) (pattern_rest r) q is in
      subst (λ (z : Term). Pattern z a b) same (spell.array_pattern x (rested_there elements l q.0 q.1 items rest) y)

  pub defaulted_there : {t : Term} {a b : Text} → DefaultedTarget t a b → (p : Term) → pattern_of true t ≡ Some p → Defaulted p a b
  defaulted_there (spell.target_alone x) p e = spell.not_defaulted (pattern_there x true p e)
  defaulted_there {a = a} {b = b} (spell.target_default {t = t} {e = v} x tok s) p e =
      let (q, is, same) = default_as_is Kind.AssignmentPattern (pattern_of false t) v p e in
      subst (λ (z : Term). Defaulted z a b) same (spell.defaulted (pattern_there x false q is) tok s)

  item_there : {s t : Sort} (k : Side s t) {e : Term} {a b : Text} → Item s e a b → (p : Term) → item_of k e ≡ Some p → Item t p a b
  item_there elements (spell.a_target x) p e = spell.a_binding (defaulted_there x p e)
  item_there elements {a = a} {b = b} spell.a_target_hole p e = subst (λ (z : Term). Item spell.binding_element z a b) (some_is absent p e) spell.a_hole
  item_there properties {a = a} {b = b} (spell.a_target_pair {computed} {k} {t} x tok y) p e =
      let (q, is, same) = part_as_is Kind.BindingProperty (flag computed (codes "computed") ∷ [] ∷ []) k (pattern_of true t) p e in
      subst (λ (z : Term). Item spell.binding_property z a b) same (spell.a_binding_pair x tok (defaulted_there y q is))
  item_there properties {a = a} {b = b} (spell.a_target_shorthand free tok) p e = subst (λ (z : Term). Item spell.binding_property z a b) (some_is _ p e) (spell.a_binding_shorthand free tok)
  item_there properties {a = a} {b = b} (spell.a_target_default free tok tok' s) p e = subst (λ (z : Term). Item spell.binding_property z a b) (some_is _ p e) (spell.a_binding_default free tok tok' s)
  -- no items of these sorts
  item_there k (spell.an_expression _) p e = elim k [ ]
  item_there k (spell.an_argument _) p e = elim k [ ]
  item_there k (spell.a_spread_argument _) p e = elim k [ ]
  item_there k (spell.an_element _) p e = elim k [ ]
  item_there k (spell.a_spread_element _) p e = elim k [ ]
  item_there k spell.an_elision p e = elim k [ ]
  item_there k (spell.a_property _ _ _) p e = elim k [ ]
  item_there k (spell.a_shorthand _ _) p e = elim k [ ]
  item_there k (spell.a_method _ _) p e = elim k [ ]
  item_there k (spell.an_accessor _ _) p e = elim k [ ]
  item_there k (spell.a_spread_property _) p e = elim k [ ]
  item_there k (spell.a_parameter _) p e = elim k [ ]
  item_there k (spell.an_optional_parameter _ _ _) p e = elim k [ ]
  item_there k (spell.a_binding _) p e = elim k [ ]
  item_there k spell.a_hole p e = elim k [ ]
  item_there k (spell.a_binding_pair _ _ _) p e = elim k [ ]
  item_there k (spell.a_binding_shorthand _ _) p e = elim k [ ]
  item_there k (spell.a_binding_default _ _ _ _) p e = elim k [ ]
  item_there k (spell.a_declarator _) p e = elim k [ ]
  item_there k (spell.an_initialized _ _ _) p e = elim k [ ]

  listed_there : {s t : Sort} (k : Side s t) {es : List Term} {a b : Text} → Listed s es a b → (us : List Term) → items_of k (all es) ≡ Some us → Listed t us a b
  listed_there {t = t} k {a = a} {b = b} (spell.last {e = e} x) us h =
      let (p, ps, is, none_is, whole) = with_first_is (item_of k e) (items_of k none) us (sym (items_more k e none) ∙ h) in
      let empty : [] ≡ ps = some_is [] ps (sym (items_none k) ∙ none_is) in
      rw (whole, sym empty) (spell.last (item_there k x p is))
  listed_there k (spell.and {e = e} {es = es} x tok l) us h =
      let (p, ps, is, more_is, whole) = with_first_is (item_of k e) (items_of k (all es)) us (sym (items_more k e (all es)) ∙ h) in
      rw (whole) (spell.and (item_there k x p is) tok (listed_there k l ps more_is))

  group_there : {s t : Sort} (k : Side s t) {es : List Term} {a b : Text} → Group s es a b → (us : List Term) → items_of k (all es) ≡ Some us → Group t us a b
  group_there k spell.no_items us h = rw (sym (some_is [] us (sym (items_none k) ∙ h))) spell.no_items
  group_there k (spell.items {es = es} q l) us h = spell.items (last_present k es us h q) (listed_there k l us h)
  group_there k (spell.trailing l tok) us h = spell.trailing (listed_there k l us h) tok

  rested_there : {s t : Sort} (k : Side s t) {es : List Term} {r : Term} {a b : Text} → Rested true s es r a b → (us : List Term) (q : Term) → items_of k (all es) ≡ Some us → rest_in k r ≡ Some q → Rested true t us q a b
  rested_there k (spell.no_rest g) us q h e = rw (sym (some_is absent q (sym (no_rest_in k) ∙ e))) (spell.no_rest (group_there k g us h))
  rested_there k (spell.rest_alone x) us q h e = rw (sym (some_is [] us (sym (items_none k) ∙ h))) (spell.rest_alone (rest_there k x q e))
  rested_there k (spell.and_rest l tok x) us q h e = spell.and_rest (listed_there k l us h) tok (rest_there k x q e)

  pub rest_there : {s t : Sort} (k : Side s t) {r : Term} {a b : Text} → Rest s r a b → (q : Term) → rest_in k r ≡ Some q → Rest t q a b
  rest_there elements {a = a} {b = b} (spell.rest_target {t = t} tok x) q e =
      let (p, is, same) = rest_of_is (pattern_of false t) q e in
      subst (λ (z : Term). Rest spell.binding_element z a b) same (spell.rest_binding tok (pattern_there x false p is))
  rest_there properties {a = a} {b = b} (spell.rest_target_properties {t = t} simple tok x) q e =
      let (p, is, same) = rest_of_is (bound_name t) q e in
      let n = bound_target x simple p is in
      subst (λ (z : Term). Rest spell.binding_property z a b) (ap (of_part Kind.BindingRestElement) n.is ∙ same) (spell.rest_properties n.free tok n.token)
  rest_there k (spell.rest_parameter _ _) q e = elim k [ ]
  rest_there k (spell.rest_binding _ _) q e = elim k [ ]
  rest_there k (spell.rest_properties _ _ _) q e = elim k [ ]
