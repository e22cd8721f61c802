-- Patterns that bind (ECMAScript 14.3.3), patterns of targets (13.15.5), parameters (15.1).
use Rattle.std.proofs.Common.{◌≡◌, refl, sym, subst, List, [], ◌∷◌, ◌++◌, Bool, true, false, not, ◌&&◌, inl, inr, ◌⊎◌}
use Rattle.std.specs.Prelude.{codes}
use Rattle.js_term.specs.Term.{Text, Term, absent, list, node, Terms, none, more, flag}
use Rattle.js_term.specs.declared.kind.Kind.{Kind}
use Rattle.js_term.specs.Kinds.{is_among}
use Rattle.js_syntax.specs.Nodes.{of_part, rested, declarator_of}
use Rattle.js_syntax.specs.Parts.{is_present}
use Rattle.js_syntax.specs.Tokens.{Sign}
use Rattle.js_syntax.specs.Sorts as sorts
use Rattle.js_syntax.specs.Sorts.{Place, takes, patterns}
use Rattle.js_syntax.specs.Printable.{has_shape}
use Rattle.js_syntax.specs.Spelling.{Sort, Item, Rested, no_rest, no_rest_closed, nothing, rest_alone, and_rest, Rest, rest_parameter, rest_binding, rest_target, Pattern, array_pattern, Defaulted, not_defaulted, defaulted, Target, array_target, DefaultedTarget, target_alone, target_default, Parameters, parameters, a_parameter, an_optional_parameter, a_binding, a_hole, a_target, a_target_hole, parameter, binding_element, target_element, declarator, a_declarator, an_initialized}
use Rattle.print_layout.specs.Rows.{comma, has_items, ends_in_hole}
use Rattle.print_layout.specs.Needs.{never}
use Rattle.print_layout.specs.Layout.{wrapped, each_wrapped}
use Rattle.print_spelling.proofs.Tokens.{differ, Lead, flush, spaced, led, stops, sign_at, left_parenthesis, right_parenthesis, left_bracket, right_bracket, comma_at, dots_at}
use Rattle.print_spelling.proofs.Spread.{To, to, each_to, separated_to}
use Rattle.print_spelling.proofs.Fits.{Fit, fit_of, taken_by, list_shape, each_shaped}
use Rattle.print_spelling.proofs.Shapes.{only}
use Rattle.print_spelling.proofs.Claims.{bare, bare_to, ends, ends_stop, through, Claim, Each, Kids, off, Rule}
use Rattle.print_spelling.proofs.Placed.{at}
use Rattle.print_spelling.proofs.Lists.{ItemAt, lead_last, listed, each_item, one_whole, whole_group, whole_list, last_present, closing, holed_group}
use Rattle.print_spelling.proofs.Assignments.{target_by, target_at}

-- ---- items and a rest

pub with_rest : (trails : Bool) (s : Sort) (p : Place) → ((t : Term) → has_shape p t ≡ true → Claim off t → ItemAt s true never t) → (ts : Terms) → each_shaped p ts ≡ true → Each off ts → (u : Term) (f : To) (rest : Text) → ((g : Lead) → Rest s u (led g (f rest)) rest) → (l : Lead) → Rested trails s (each_wrapped true never ts) u (led l (separated_to comma (each_to true never ts) (flag (has_items (list ts)) comma ++ f rest))) rest
with_rest trails s p item none h c u f rest r l = rest_alone (r l)
with_rest trails s p item (more t ts) h c u f rest r l = and_rest (listed s true never t ts (each_item s p off true never item (more t ts) h c) l (44 ∷ 32 ∷ f rest) refl) (comma_at (lead_last l (more t ts))) (r spaced)

pub no_comma : (ts : Terms) → flag (has_items (list ts)) [] ≡ []
no_comma none = refl
no_comma (more t ts) = refl

-- ---- patterns in their places

pub pattern_kind : (k : Kind) → is_among k patterns ≡ true → (k ≡ Kind.BindingIdentifier) ⊎ ((k ≡ Kind.ObjectPattern) ⊎ (k ≡ Kind.ArrayPattern))
pattern_kind Kind.BindingIdentifier h = inl refl
pattern_kind Kind.ObjectPattern h = inr (inl refl)
pattern_kind Kind.ArrayPattern h = inr (inr refl)
pattern_kind k h = differ (sym h)

abbrev pub PatternAt : Term → Type 0
PatternAt t = (g : Lead) (rest : Text) → stops rest ≡ true → Pattern (wrapped true never t) (led g (to true never t rest)) rest

pub pattern_by : (k : Kind) (texts : List Text) (ts : Terms) → is_among k patterns ≡ true → Claim off (node k texts ts) → PatternAt (node k texts ts)
pattern_by k texts ts h c = elim (pattern_kind k h) as (λ z. PatternAt (node k texts ts)) [
  | inl e ↦ subst (λ j. Claim off (node j texts ts) → PatternAt (node j texts ts)) (sym e) (λ c. c.0) c
  | inr r ↦ elim r as (λ z. PatternAt (node k texts ts)) [
    | inl e ↦ subst (λ j. Claim off (node j texts ts) → PatternAt (node j texts ts)) (sym e) (λ c. c.0) c
    | inr e ↦ subst (λ j. Claim off (node j texts ts) → PatternAt (node j texts ts)) (sym e) (λ c. c.0) c
  ]
]

pub pattern_at : (t : Term) → has_shape (Place.one sorts.Sort.pattern) t ≡ true → Claim off t → PatternAt t
pattern_at absent h c = differ (sym h)
pattern_at (list ts) h c = differ (sym h)
pattern_at (node k texts ts) h c = pattern_by k texts ts (taken_by sorts.Sort.pattern k texts ts h).taken c

-- ---- p, p = e

pub declarator_with : (p e : Term) → has_shape (Place.one sorts.Sort.pattern) p ≡ true → has_shape (Place.optional sorts.Sort.expression) e ≡ true → Claim off p → Claim off e → (i : Bool) (g : Lead) (rest : Text) → ends rest false ≡ true → Item (declarator i) (bare i (declarator_of p e)) (led g (bare_to i (declarator_of p e) rest)) rest
declarator_with p absent hp he cp ce i g rest s = a_declarator (pattern_at p hp cp g rest (ends_stop rest false s))
declarator_with p (list ts) hp he cp ce i g rest s = differ (sym he)
declarator_with p (node k texts ts) hp he cp ce i g rest s =
    let q = at 2 refl i (node k texts ts) he ce in
    an_initialized (pattern_at p hp cp g _ refl) (sign_at spaced (codes "=") refl refl) (q.stands spaced (through _ rest s))

pub parameter_rule : Rule Kind.FormalParameter
parameter_rule m [] (more p (more absent none)) f c g rest s = a_parameter (pattern_at p f.placed.0 c.0 g rest (ends_stop rest false s))
parameter_rule m [] (more p (more (list ts) none)) f c g rest s = differ (sym f.placed.1.0)
parameter_rule m [] (more p (more (node k texts ts) none)) f c g rest s =
    let q = at 2 refl true (node k texts ts) f.placed.1.0 c.1.0 in
    an_optional_parameter (pattern_at p f.placed.0 c.0 g _ refl) (sign_at spaced (codes "=") refl refl) (q.stands spaced (through _ rest s))
parameter_rule m texts ts f c g rest s = differ (sym f.counted)

pub default_rule : Rule Kind.AssignmentPattern
default_rule m [] (more p (more absent none)) f c g rest s = differ (sym f.placed.1.0)
default_rule m [] (more p (more (list ts) none)) f c g rest s = differ (sym f.placed.1.0)
default_rule m [] (more p (more (node k texts ts) none)) f c g rest s =
    let q = at 2 refl true (node k texts ts) f.placed.1.0 c.1.0 in
    defaulted (pattern_at p f.placed.0 c.0 g _ refl) (sign_at spaced (codes "=") refl refl) (q.stands spaced (through _ rest s))
default_rule m texts ts f c g rest s = differ (sym f.counted)

pub target_default_rule : Rule Kind.AssignmentTargetWithDefault
target_default_rule m [] (more p (more absent none)) f c g rest s = differ (sym f.placed.1.0)
target_default_rule m [] (more p (more (list ts) none)) f c g rest s = differ (sym f.placed.1.0)
target_default_rule m [] (more p (more (node k texts ts) none)) f c g rest s =
    let q = at 2 refl true (node k texts ts) f.placed.1.0 c.1.0 in
    target_default ((target_at true p f.placed.0 c.0).target g _ refl) (sign_at spaced (codes "=") refl refl) (q.stands spaced (through _ rest s))
target_default_rule m texts ts f c g rest s = differ (sym f.counted)

-- ---- elements of patterns

abbrev pub DefaultedAt : Term → Type 0
DefaultedAt t = (g : Lead) (rest : Text) → ends rest false ≡ true → Defaulted (wrapped true never t) (led g (to true never t rest)) rest

pub element_kind : (k : Kind) → takes sorts.Sort.pattern_element k ≡ true → (k ≡ Kind.AssignmentPattern) ⊎ (is_among k patterns ≡ true)
element_kind Kind.AssignmentPattern h = inl refl
element_kind k h = inr h

pub defaulted_at : (t : Term) → has_shape (Place.one sorts.Sort.pattern_element) t ≡ true → Claim off t → DefaultedAt t
defaulted_at absent h c = differ (sym h)
defaulted_at (list ts) h c = differ (sym h)
defaulted_at (node k texts ts) h c = elim (element_kind k (taken_by sorts.Sort.pattern_element k texts ts h).taken) as (λ z. DefaultedAt (node k texts ts)) [
  | inl e ↦ subst (λ j. Claim off (node j texts ts) → DefaultedAt (node j texts ts)) (sym e) (λ c. c.0) c
  | inr is ↦ λ g rest s. not_defaulted (pattern_by k texts ts is c g rest (ends_stop rest false s))
]

binding_item : (t : Term) → has_shape (Place.optional sorts.Sort.pattern_element) t ≡ true → Claim off t → ItemAt binding_element true never t
binding_item absent h c g rest s = a_hole
binding_item (list ts) h c g rest s = differ (sym h)
binding_item (node k texts ts) h c g rest s = a_binding (defaulted_at (node k texts ts) h c g rest s)

abbrev pub DefaultedTargetAt : Term → Type 0
DefaultedTargetAt t = (g : Lead) (rest : Text) → ends rest false ≡ true → DefaultedTarget (wrapped true never t) (led g (to true never t rest)) rest

pub target_element_kind : (k : Kind) → takes sorts.Sort.target_element k ≡ true → (k ≡ Kind.AssignmentTargetWithDefault) ⊎ (sorts.is_target k ≡ true)
target_element_kind Kind.AssignmentTargetWithDefault h = inl refl
target_element_kind k h = inr h

pub defaulted_target_at : (t : Term) → has_shape (Place.one sorts.Sort.target_element) t ≡ true → Claim off t → DefaultedTargetAt t
defaulted_target_at absent h c = differ (sym h)
defaulted_target_at (list ts) h c = differ (sym h)
defaulted_target_at (node k texts ts) h c = elim (target_element_kind k (taken_by sorts.Sort.target_element k texts ts h).taken) as (λ z. DefaultedTargetAt (node k texts ts)) [
  | inl e ↦ subst (λ j. Claim off (node j texts ts) → DefaultedTargetAt (node j texts ts)) (sym e) (λ c. c.0) c
  | inr is ↦ λ g rest s. target_alone ((target_by true k texts ts is c).target g rest s)
]

target_item : (t : Term) → has_shape (Place.optional sorts.Sort.target_element) t ≡ true → Claim off t → ItemAt target_element true never t
target_item absent h c g rest s = a_target_hole
target_item (list ts) h c g rest s = differ (sym h)
target_item (node k texts ts) h c g rest s = a_target (defaulted_target_at (node k texts ts) h c g rest s)

-- ---- array patterns

binding_rest : (r : Term) → has_shape (Place.one (sorts.Sort.only Kind.BindingRestElement)) r ≡ true → Claim off r → (g : Lead) (rest : Text) → stops rest ≡ true → Rest binding_element (wrapped true never r) (led g (to true never r rest)) rest
binding_rest r h c = only Kind.BindingRestElement (λ z. Claim off z → (g : Lead) (rest : Text) → stops rest ≡ true → Rest binding_element (wrapped true never z) (led g (to true never z rest)) rest) (λ texts ts h c. by texts ts (fit_of (sorts.Sort.only Kind.BindingRestElement) Kind.BindingRestElement texts ts refl h).1 c.1) r h c
  where
    by : (texts : List Text) (ts : Terms) → Fit (Place.one sorts.Sort.pattern ∷ []) Kind.BindingRestElement texts ts → Kids (λ n. off) 0 ts → (g : Lead) (rest : Text) → stops rest ≡ true → Rest binding_element (bare true (node Kind.BindingRestElement texts ts)) (led g (bare_to true (node Kind.BindingRestElement texts ts) rest)) rest
    by [] (more p none) f c g rest s = rest_binding (dots_at g) (pattern_at p f.placed.0 c.0 flush rest s)
    by texts ts f c g rest s = differ (sym f.counted)

pub closing_flag : (b : Bool) (rest : Text) → flag b (codes ",") ++ rest ≡ closing b rest
closing_flag true rest = refl
closing_flag false rest = refl

-- [ items, ...r ]
abbrev array_to : Terms → Term → To
array_to ts r rest = 91 ∷ separated_to comma (each_to true never ts) (flag (has_items (list ts)) (flag (is_present r) comma) ++ to true never r (flag (not (is_present r) && ends_in_hole ts) (codes ",") ++ 93 ∷ rest))

array_with : (s : Sort) (k q : sorts.Sort) (P : List Term → Term → Text → Text → Type 0) → ((es : List Term) (r : Term) (a b c d : Text) → Sign (codes "[") a b → Rested true s es r b c → Sign (codes "]") c d → P es r a d) → ((t : Term) → has_shape (Place.optional k) t ≡ true → Claim off t → ItemAt s true never t) → (r : Term) → has_shape (Place.optional q) r ≡ true → (has_shape (Place.one q) r ≡ true → (g : Lead) (rest : Text) → ends rest false ≡ true → Rest s (wrapped true never r) (led g (to true never r rest)) rest) → (ts : Terms) → each_shaped (Place.optional k) ts ≡ true → Each off ts → (g : Lead) (rest : Text) → P (each_wrapped true never ts) (wrapped true never r) (led g (array_to ts r rest)) rest
array_with s k q P make item absent hr final ts h c g rest =
    subst (λ z. P (each_wrapped true never ts) absent (led g (91 ∷ separated_to comma (each_to true never ts) (z ++ (flag (ends_in_hole ts) (codes ",") ++ 93 ∷ rest)))) rest) (sym (no_comma ts))
    (subst (λ z. P (each_wrapped true never ts) absent (led g (91 ∷ separated_to comma (each_to true never ts) z)) rest) (sym (closing_flag (ends_in_hole ts) (93 ∷ rest)))
    (make (each_wrapped true never ts) absent _ _ _ _ (left_bracket g) (no_rest (holed_group s (Place.optional k) off true never item ts h c (93 ∷ rest) refl (ends_in_hole ts) refl)) (right_bracket flush)))
array_with s k q P make item (list us) hr final ts h c g rest = differ (sym hr)
array_with s k q P make item (node j xs us) hr final ts h c g rest =
    make (each_wrapped true never ts) (wrapped true never (node j xs us)) _ _ _ _ (left_bracket g) (with_rest true s (Place.optional k) item ts h c (wrapped true never (node j xs us)) (to true never (node j xs us)) (93 ∷ rest) (λ l. final hr l (93 ∷ rest) refl) flush) (right_bracket flush)

pub array_pattern_rule : Rule Kind.ArrayPattern
array_pattern_rule m [] (more (list ts) (more r none)) f c g rest s =
    array_with binding_element sorts.Sort.pattern_element (sorts.Sort.only Kind.BindingRestElement) (λ es u a d. Pattern (rested Kind.ArrayPattern es u) a d) (λ es u a b d e left parts right. array_pattern left parts right) binding_item r f.placed.1.0 (λ h g rest e. binding_rest r h c.1.0 g rest (ends_stop rest false e)) ts (list_shape (Place.spaced sorts.Sort.pattern_element) ts f.placed.0).1 c.0 g rest
array_pattern_rule m [] (more absent (more t none)) f c g rest s = differ (sym f.placed.0)
array_pattern_rule m [] (more (node k xs us) (more t none)) f c g rest s = differ (sym f.placed.0)
array_pattern_rule m texts ts f c g rest s = differ (sym f.counted)

-- ---- array targets

target_rest : (r : Term) → has_shape (Place.one (sorts.Sort.only Kind.AssignmentTargetRest)) r ≡ true → Claim off r → (g : Lead) (rest : Text) → ends rest false ≡ true → Rest target_element (wrapped true never r) (led g (to true never r rest)) rest
target_rest r h c = only Kind.AssignmentTargetRest (λ z. Claim off z → (g : Lead) (rest : Text) → ends rest false ≡ true → Rest target_element (wrapped true never z) (led g (to true never z rest)) rest) (λ texts ts h c. by texts ts (fit_of (sorts.Sort.only Kind.AssignmentTargetRest) Kind.AssignmentTargetRest texts ts refl h).1 c.1) r h c
  where
    by : (texts : List Text) (ts : Terms) → Fit (Place.one sorts.Sort.target ∷ []) Kind.AssignmentTargetRest texts ts → Kids (λ n. off) 0 ts → (g : Lead) (rest : Text) → ends rest false ≡ true → Rest target_element (bare true (node Kind.AssignmentTargetRest texts ts)) (led g (bare_to true (node Kind.AssignmentTargetRest texts ts) rest)) rest
    by [] (more p none) f c g rest s = rest_target (dots_at g) ((target_at true p f.placed.0 c.0).target flush rest s)
    by texts ts f c g rest s = differ (sym f.counted)

pub array_target_rule : Rule Kind.ArrayAssignmentTarget
array_target_rule m [] (more (list ts) (more r none)) f c i g rest =
    array_with target_element sorts.Sort.target_element (sorts.Sort.only Kind.AssignmentTargetRest) (λ es u a d. Target i (rested Kind.ArrayAssignmentTarget es u) a d) (λ es u a b d e left parts right. array_target left parts right) target_item r f.placed.1.0 (λ h. target_rest r h c.1.0) ts (list_shape (Place.spaced sorts.Sort.target_element) ts f.placed.0).1 c.0 g rest
array_target_rule m [] (more absent (more t none)) f c i g rest = differ (sym f.placed.0)
array_target_rule m [] (more (node k xs us) (more t none)) f c i g rest = differ (sym f.placed.0)
array_target_rule m texts ts f c i g rest = differ (sym f.counted)

-- ---- parameters

formal_rest : (r : Term) → has_shape (Place.one (sorts.Sort.only Kind.FormalParameterRest)) r ≡ true → Claim off r → (g : Lead) (rest : Text) → stops rest ≡ true → Rest parameter (wrapped true never r) (led g (to true never r rest)) rest
formal_rest r h c = only Kind.FormalParameterRest (λ z. Claim off z → (g : Lead) (rest : Text) → stops rest ≡ true → Rest parameter (wrapped true never z) (led g (to true never z rest)) rest) (λ texts ts h c. by texts ts (fit_of (sorts.Sort.only Kind.FormalParameterRest) Kind.FormalParameterRest texts ts refl h).1 c.1) r h c
  where
    inner : (texts : List Text) (ts : Terms) → Fit (Place.one sorts.Sort.pattern ∷ []) Kind.BindingRestElement texts ts → Kids (λ n. off) 0 ts → (g : Lead) (rest : Text) → stops rest ≡ true → Rest parameter (of_part Kind.FormalParameterRest (bare true (node Kind.BindingRestElement texts ts))) (led g (bare_to true (node Kind.BindingRestElement texts ts) rest)) rest
    inner [] (more p none) f c g rest s = rest_parameter (dots_at g) (pattern_at p f.placed.0 c.0 flush rest s)
    inner texts ts f c g rest s = differ (sym f.counted)

    element : (p : Term) → has_shape (Place.one (sorts.Sort.only Kind.BindingRestElement)) p ≡ true → Claim off p → (g : Lead) (rest : Text) → stops rest ≡ true → Rest parameter (of_part Kind.FormalParameterRest (wrapped true never p)) (led g (to true never p rest)) rest
    element p h c = only Kind.BindingRestElement (λ z. Claim off z → (g : Lead) (rest : Text) → stops rest ≡ true → Rest parameter (of_part Kind.FormalParameterRest (wrapped true never z)) (led g (to true never z rest)) rest) (λ texts ts h c. inner texts ts (fit_of (sorts.Sort.only Kind.BindingRestElement) Kind.BindingRestElement texts ts refl h).1 c.1) p h c

    by : (texts : List Text) (ts : Terms) → Fit (Place.one (sorts.Sort.only Kind.BindingRestElement) ∷ []) Kind.FormalParameterRest texts ts → Kids (λ n. off) 0 ts → (g : Lead) (rest : Text) → stops rest ≡ true → Rest parameter (bare true (node Kind.FormalParameterRest texts ts)) (led g (bare_to true (node Kind.FormalParameterRest texts ts) rest)) rest
    by [] (more p none) f c g rest s = element p f.placed.0 c.0 g rest s
    by texts ts f c g rest s = differ (sym f.counted)

parameter_item : (t : Term) → has_shape (Place.one (sorts.Sort.only Kind.FormalParameter)) t ≡ true → Claim off t → ItemAt parameter true never t
parameter_item t h c = only Kind.FormalParameter (λ z. Claim off z → ItemAt parameter true never z) (λ xs ts h c. c.0) t h c

only_parameters : (trails : Bool) (ts : Terms) → each_shaped (Place.one (sorts.Sort.only Kind.FormalParameter)) ts ≡ true → Each off ts → (rest : Text) → Rested trails parameter (each_wrapped true never ts) absent (separated_to comma (each_to true never ts) (41 ∷ rest)) (41 ∷ rest)
only_parameters true ts h c rest = no_rest (whole_group parameter (Place.one (sorts.Sort.only Kind.FormalParameter)) (one_whole (sorts.Sort.only Kind.FormalParameter)) off true never parameter_item ts h c (41 ∷ rest) refl)
only_parameters false none h c rest = nothing
only_parameters false (more t ts) h c rest =
    no_rest_closed (last_present (Place.one (sorts.Sort.only Kind.FormalParameter)) (one_whole (sorts.Sort.only Kind.FormalParameter)) true never t ts h) (whole_list parameter (Place.one (sorts.Sort.only Kind.FormalParameter)) (one_whole (sorts.Sort.only Kind.FormalParameter)) off true never parameter_item t ts h c flush (41 ∷ rest) refl)

pub parameters_rule : Rule Kind.FormalParameters
parameters_rule m [] (more (list ts) (more absent none)) f c trails g rest =
    let shape = (list_shape (Place.many (sorts.Sort.only Kind.FormalParameter)) ts f.placed.0).1 in
    subst (λ z. Parameters trails (rested Kind.FormalParameters (each_wrapped true never ts) absent) (led g (40 ∷ separated_to comma (each_to true never ts) (z ++ 41 ∷ rest))) rest) (sym (no_comma ts))
    (parameters (left_parenthesis g) (only_parameters trails ts shape c.0 rest) (right_parenthesis flush))
parameters_rule m [] (more (list ts) (more (node k xs us) none)) f c trails g rest =
    let shape = (list_shape (Place.many (sorts.Sort.only Kind.FormalParameter)) ts f.placed.0).1 in
    parameters (left_parenthesis g) (with_rest trails parameter (Place.one (sorts.Sort.only Kind.FormalParameter)) parameter_item ts shape c.0 (wrapped true never (node k xs us)) (to true never (node k xs us)) (41 ∷ rest) (λ l. formal_rest (node k xs us) f.placed.1.0 c.1.0 l (41 ∷ rest) refl) flush) (right_parenthesis flush)
parameters_rule m [] (more (list ts) (more (list us) none)) f c trails g rest = differ (sym f.placed.1.0)
parameters_rule m [] (more absent (more t none)) f c trails g rest = differ (sym f.placed.0)
parameters_rule m [] (more (node k xs us) (more t none)) f c trails g rest = differ (sym f.placed.0)
parameters_rule m texts ts f c trails g rest = differ (sym f.counted)
