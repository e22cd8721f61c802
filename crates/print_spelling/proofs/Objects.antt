-- Arrays, objects and methods (ECMAScript 13.2.4, 13.2.5, 15.4).
use Rattle.std.proofs.Common.{◌≡◌, refl, sym, subst, List, [], ◌∷◌, ◌++◌, append_assoc, Bool, true, false, not, ◌&&◌, inl, inr, ◌⊎◌}
use Rattle.std.specs.Prelude.{codes}
use Rattle.std.proofs.lemmas.Bool.{and_parts, not-true}
use Rattle.js_term.specs.Term.{Text, is_text, Term, absent, list, node, Terms, none, more, one, two, all, flag}
use Rattle.js_term.specs.declared.kind.Kind.{Kind}
use Rattle.js_term.specs.Node.{name_of}
use Rattle.js_syntax.specs.Lexical.{begins_gap}
use Rattle.js_syntax.specs.Texts as texts
use Rattle.js_syntax.specs.Parts.{is_set, is_set_at, is_node, text_of}
use Rattle.js_syntax.specs.Edges.{no_private}
use Rattle.js_syntax.specs.Nodes.{function_node}
use Rattle.js_syntax.specs.Sorts as sorts
use Rattle.js_syntax.specs.Sorts.{Place, takes, suits, is_expression}
use Rattle.js_syntax.specs.Places.{places, key_place, value_place, function_places}
use Rattle.js_syntax.specs.Printable.{has_shape, is_property, is_one_name, is_value_of}
use Rattle.js_syntax.specs.Spelling.{Stands, array, object, Item, element, property_item, an_element, a_spread_element, an_elision, a_property, a_shorthand, a_method, an_accessor, a_spread_property, spread, no_items, items, Method, method, getter, setter, MethodFunction, method_function, MemberKey, public_key, Star, no_star, with_star}
use Rattle.print_layout.specs.Rows.{comma, ends_in_hole}
use Rattle.print_layout.specs.Needs.{never}
use Rattle.print_layout.specs.Layout.{wrapped, each_wrapped}
use Rattle.print_spelling.proofs.Openings.{is_starred}
use Rattle.print_spelling.proofs.Tokens.{differ, same_text, or_by, Lead, flush, spaced, led, sign_at, word_at, name_at, left_bracket, right_bracket, left_brace, right_brace, colon_at, dots_at}
use Rattle.print_spelling.proofs.Spread.{To, to, each_to, separated_to, method_to}
use Rattle.print_spelling.proofs.Fits.{Fit, fit_of, taken_by, list_shape}
use Rattle.print_spelling.proofs.Shapes.{kind_is}
use Rattle.print_spelling.proofs.Claims.{bare, bare_to, ends, ends_stop, through, opens_at, ExpressionRule, of_stands, Claim, Kids, off, Rule}
use Rattle.print_spelling.proofs.Placed.{loose, at, At}
use Rattle.print_spelling.proofs.Lists.{ItemAt, one_whole, last_present, whole_list, holed_group}
use Rattle.print_spelling.proofs.Calls.{argument_is}
use Rattle.print_spelling.proofs.Keys.{KeyAt, Starred, key_at, key_public, key_starred}
use Rattle.print_spelling.proofs.Patterns.{closing_flag}
use Rattle.print_spelling.proofs.Leaves.{free_parts}
use Rattle.print_spelling.proofs.Pairs.{IsBound, key_name, no_name}
use Rattle.print_spelling.proofs.ObjectTargets.{bound_identifier}
use Rattle.print_spelling.proofs.Functions.{parameters_at, parameters_end, body_at, past_word, past_star, one_word, by_flag, async_at}

pub spread_rule : Rule Kind.SpreadElement
spread_rule m [] (more t none) f c g rest e = let p = at 2 refl true t f.placed.0 c.0 in spread (dots_at g) (p.stands flush (through _ rest e))
spread_rule m texts ts f c g rest e = differ (sym f.counted)

-- ---- arrays

element_item : (t : Term) → has_shape (Place.optional sorts.Sort.argument) t ≡ true → Claim off t → ItemAt element true (loose 2) t
element_item absent h c g rest e = an_elision
element_item (list ts) h c g rest e = differ (sym h)
element_item (node k texts ts) h c g rest e =
    argument_is true (λ u f. Item element u (led g (f rest)) rest) (λ u f s. a_spread_element (s g rest e)) (λ t p. an_element (p.stands g (through _ rest e))) (node k texts ts) h c

pub array_rule : ExpressionRule Kind.ArrayExpression
array_rule [] (more (list ts) none) m c i n =
    let shape = (list_shape (Place.spaced sorts.Sort.argument) ts m.placed.0).1 in
    of_stands (λ g rest e.
    subst (λ z. Stands i 21 (node Kind.ArrayExpression [] (one (list (all (each_wrapped true (loose 2) ts))))) (led g (91 ∷ separated_to comma (each_to true (loose 2) ts) z)) rest) (sym (closing_flag (ends_in_hole ts) (93 ∷ rest)))
    (array (left_bracket g) (holed_group element (Place.optional sorts.Sort.argument) off true (loose 2) element_item ts shape c.0 (93 ∷ rest) refl (ends_in_hole ts) refl) (right_bracket flush))) (opens_at (λ rest. refl))
array_rule [] (more absent none) m c i n = differ (sym m.placed.0)
array_rule [] (more (node k texts ts) none) m c i n = differ (sym m.placed.0)
array_rule texts ts m c i n = differ (sym m.counted)

-- ---- objects

property_kind : (k : Kind) → takes sorts.Sort.property k ≡ true → (k ≡ Kind.ObjectProperty) ⊎ (k ≡ Kind.SpreadElement)
property_kind Kind.ObjectProperty h = inl refl
property_kind Kind.SpreadElement h = inr refl
property_kind k h = differ (sym h)

property_at : (t : Term) → has_shape (Place.one sorts.Sort.property) t ≡ true → Claim off t → ItemAt property_item true never t
property_at absent h c g rest e = differ (sym h)
property_at (list ts) h c g rest e = differ (sym h)
property_at (node k texts ts) h c g rest e = elim (property_kind k (taken_by sorts.Sort.property k texts ts h).taken) as (λ z. Item property_item (wrapped true never (node k texts ts)) (led g (to true never (node k texts ts) rest)) rest) [
  | inl same ↦ subst (λ j. Claim off (node j texts ts) → Item property_item (wrapped true never (node j texts ts)) (led g (to true never (node j texts ts) rest)) rest) (sym same) (λ c. c.0 g rest e) c
  | inr same ↦ subst (λ j. Claim off (node j texts ts) → Item property_item (wrapped true never (node j texts ts)) (led g (to true never (node j texts ts) rest)) rest) (sym same) (λ c. a_spread_property (c.0 g rest e)) c
]

pub object_rule : ExpressionRule Kind.ObjectExpression
object_rule [] (more (list none) none) m c i n = of_stands (λ g rest e. object (left_brace g) no_items (right_brace flush)) (opens_at (λ rest. refl))
object_rule [] (more (list (more t ts)) none) m c i n =
    let shape = (list_shape (Place.many sorts.Sort.property) (more t ts) m.placed.0).1 in
    of_stands (λ g rest e. object (left_brace g) (items (last_present (Place.one sorts.Sort.property) (one_whole sorts.Sort.property) true never t ts shape) (whole_list property_item (Place.one sorts.Sort.property) (one_whole sorts.Sort.property) off true never property_at t ts shape c.0 spaced (32 ∷ 125 ∷ rest) refl)) (right_brace spaced)) (opens_at (λ rest. refl))
object_rule [] (more absent none) m c i n = differ (sym m.placed.0)
object_rule [] (more (node k texts ts) none) m c i n = differ (sym m.placed.0)
object_rule texts ts m c i n = differ (sym m.counted)

-- ---- the functions of methods

abbrev pub method_sort : Bool → sorts.Sort
method_sort true = sorts.Sort.method
method_sort false = sorts.Sort.plain_method

-- a method's function by its flags, its parameters and its body
pub record MethodAt (flagged : Bool) (v : Term) : Type 0 where
  pub async : Text
  pub star : Text
  pub parameters : Term
  pub body : Term
  pub is : v ≡ function_node Kind.FunctionExpression async star absent parameters body
  pub is_async : texts.flag (codes "async") async ≡ true
  pub is_star : texts.flag (codes "*") star ≡ true
  pub unflagged : flagged ≡ false → not (is_set async) && not (is_set star) ≡ true
  pub ends : (rest : Text) → ends (method_to (function_node Kind.FunctionExpression async star absent parameters body) rest) false ≡ true
  pub function : (trails : Bool) (g : Lead) (rest : Text) → MethodFunction trails async star (wrapped true never (function_node Kind.FunctionExpression async star absent parameters body)) (led g (method_to (function_node Kind.FunctionExpression async star absent parameters body) rest)) rest

method_kind : (b : Bool) (k : Kind) → takes (method_sort b) k ≡ true → k ≡ Kind.FunctionExpression
method_kind true k h = kind_is k Kind.FunctionExpression h
method_kind false k h = kind_is k Kind.FunctionExpression h

method_by : (b : Bool) (xs : List Text) (ts : Terms) → Fit (function_places Place.nothing) Kind.FunctionExpression xs ts → Kids (λ n. off) 0 ts → (b ≡ false → not (is_set_at 0 xs) && not (is_set_at 1 xs) ≡ true) → MethodAt b (node Kind.FunctionExpression xs ts)
method_by b (async ∷ star ∷ []) (more absent (more ps (more body none))) f c u = record {
  async = async;
  star = star;
  parameters = ps;
  body = body;
  is = refl;
  is_async = f.spoken.0;
  is_star = f.spoken.1.0;
  unflagged = u;
  ends = λ rest. parameters_end ps f.placed.1.0 (32 ∷ to true never body rest);
  function = λ trails g rest. method_function (parameters_at ps f.placed.1.0 c.1.0 trails g (32 ∷ to true never body rest)) (body_at body f.placed.1.1.0 c.1.1.0 spaced rest);
}
method_by b (async ∷ star ∷ []) (more (list us) (more ps (more body none))) f c u = differ (sym f.placed.0)
method_by b (async ∷ star ∷ []) (more (node k ys us) (more ps (more body none))) f c u = differ (sym f.placed.0)
method_by b xs ts f c u = differ (sym f.counted)

pub method_at : (b : Bool) (v : Term) → has_shape (Place.one (method_sort b)) v ≡ true → Claim off v → MethodAt b v
method_at b absent h c = differ (sym h)
method_at b (list ts) h c = differ (sym h)
method_at true (node k xs ts) h c =
    subst (λ j. has_shape (Place.one sorts.Sort.method) (node j xs ts) ≡ true → Claim off (node j xs ts) → MethodAt true (node j xs ts)) (sym (method_kind true k (taken_by sorts.Sort.method k xs ts h).taken)) (λ h c. method_by true xs ts (fit_of sorts.Sort.method Kind.FunctionExpression xs ts refl h).1 c.1 (λ e. differ e)) h c
method_at false (node k xs ts) h c =
    subst (λ j. has_shape (Place.one sorts.Sort.plain_method) (node j xs ts) ≡ true → Claim off (node j xs ts) → MethodAt false (node j xs ts)) (sym (method_kind false k (taken_by sorts.Sort.plain_method k xs ts h).taken)) (λ h c. let f = fit_of sorts.Sort.plain_method Kind.FunctionExpression xs ts refl h in method_by false xs ts f.1 c.1 (λ e. f.0.suited)) h c

-- the function of a getter, a setter or a constructor
pub record PlainMethod (v : Term) : Type 0 where
  pub parameters : Term
  pub body : Term
  pub is : v ≡ function_node Kind.FunctionExpression [] [] absent parameters body
  pub ends : (rest : Text) → ends (method_to (function_node Kind.FunctionExpression [] [] absent parameters body) rest) false ≡ true
  pub function : (trails : Bool) (g : Lead) (rest : Text) → MethodFunction trails [] [] (wrapped true never (function_node Kind.FunctionExpression [] [] absent parameters body)) (led g (method_to (function_node Kind.FunctionExpression [] [] absent parameters body) rest)) rest

plain_with : (v : Term) (async star : Text) (ps body : Term) → not (is_set async) && not (is_set star) ≡ true → v ≡ function_node Kind.FunctionExpression async star absent ps body → ((rest : Text) → ends (method_to (function_node Kind.FunctionExpression async star absent ps body) rest) false ≡ true) → ((trails : Bool) (g : Lead) (rest : Text) → MethodFunction trails async star (wrapped true never (function_node Kind.FunctionExpression async star absent ps body)) (led g (method_to (function_node Kind.FunctionExpression async star absent ps body) rest)) rest) → PlainMethod v
plain_with v [] [] ps body u e en fn = record { parameters = ps; body = body; is = e; ends = en; function = fn }
plain_with v [] (c ∷ cs) ps body u e en fn = differ (sym u)
plain_with v (c ∷ cs) star ps body u e en fn = differ (sym u)

pub plain_method_at : (v : Term) → has_shape (Place.one sorts.Sort.plain_method) v ≡ true → Claim off v → PlainMethod v
plain_method_at v h c = let m = method_at false v h c in plain_with v m.async m.star m.parameters m.body (m.unflagged refl) m.is m.ends m.function

-- ---- the flags before a key

starred_gap : (a : Text) → is_starred a ≡ true → begins_gap a ≡ false
starred_gap a h = not-true (begins_gap a) (and_parts (not (begins_gap a)) _ h).0

pub key_star_at : (x : Text) → texts.flag (codes "*") x ≡ true → (g : Lead) (rest : Text) → is_starred rest ≡ true → Star x (led g (flag (is_set x) (codes "*") ++ rest)) (led (past_star x g) rest)
key_star_at [] h g rest b = no_star
key_star_at (c ∷ cs) h g rest b = subst (λ z. Star z (led g (codes "*" ++ rest)) rest) (sym (one_word (codes "*") (c ∷ cs) h refl)) (with_star (sign_at g (codes "*") refl (and_parts (not (begins_gap rest)) _ b).1))

star_gap : (x : Text) (rest : Text) → is_starred rest ≡ true → begins_gap (flag (is_set x) (codes "*") ++ rest) ≡ false
star_gap [] rest h = starred_gap rest h
star_gap (c ∷ cs) rest h = refl

-- async *k(ps) { ss }, behind the flags in one text
pub method_with : (async star : Text) (computed : Bool) (k f : Term) (key fun : To) → texts.flag (codes "async") async ≡ true → texts.flag (codes "*") star ≡ true → ((rest : Text) → is_starred (key rest) ≡ true) → ((g : Lead) (rest : Text) → ends rest false ≡ true → MemberKey computed k (led g (key rest)) rest) → ((rest : Text) → ends (fun rest) false ≡ true) → ((trails : Bool) (g : Lead) (rest : Text) → MethodFunction trails async star f (led g (fun rest)) rest) → (g : Lead) (rest : Text) → Method (codes "method") computed k f (led g ((flag (is_set async) (codes "async ") ++ flag (is_set star) (codes "*")) ++ key (fun rest))) rest
method_with async star computed k f key fun ha hs st at en fn g rest =
    subst (λ a. Method (codes "method") computed k f (led g a) rest) (sym (append_assoc (flag (is_set async) (codes "async ")) (flag (is_set star) (codes "*")) (key (fun rest))))
    (method (async_at async ha g (flag (is_set star) (codes "*") ++ key (fun rest)) (star_gap star (key (fun rest)) (st (fun rest)))) (key_star_at star hs (past_word async g) (key (fun rest)) (st (fun rest))) (at (past_star star (past_word async g)) (fun rest) (en rest)) (fn true flush rest))

-- ---- properties of an object

abbrev PropertyIs : List Text → Term → Term → Type 0
PropertyIs xs k v = (g : Lead) (rest : Text) → ends rest false ≡ true → Item property_item (bare true (node Kind.ObjectProperty xs (two k v))) (led g (bare_to true (node Kind.ObjectProperty xs (two k v)) rest)) rest

plain_property : (c : Bool) (k v : Term) → KeyAt c k → At true (loose 2) 2 v → PropertyIs (codes "init" ∷ [] ∷ [] ∷ flag c (codes "computed") ∷ []) k v
plain_property true k v key p g rest e = a_property (key g _ refl) (colon_at flush) (p.stands spaced (through _ rest e))
plain_property false k v key p g rest e = a_property (key g _ refl) (colon_at flush) (p.stands spaced (through _ rest e))

-- get k() { ss }, set k(p) { ss }
abbrev pub accessor_word : Bool → Text
accessor_word true = codes "get"
accessor_word false = codes "set"

accessor_property : (b c : Bool) (k : Term) → KeyAt c k → no_private (wrapped true (loose 2) k) ≡ true → (v : Term) → PlainMethod v → PropertyIs (accessor_word b ∷ [] ∷ [] ∷ flag c (codes "computed") ∷ []) k v
accessor_property b c k key np v m = subst (λ z. PropertyIs (accessor_word b ∷ [] ∷ [] ∷ flag c (codes "computed") ∷ []) k z) (sym m.is) (by b c key)
  where
    by : (b c : Bool) → KeyAt c k → PropertyIs (accessor_word b ∷ [] ∷ [] ∷ flag c (codes "computed") ∷ []) k (function_node Kind.FunctionExpression [] [] absent m.parameters m.body)
    by true true key g rest e = an_accessor (getter (word_at g (codes "get") refl refl refl) (public_key (key spaced _ (m.ends rest))) (m.function true flush rest)) np
    by true false key g rest e = an_accessor (getter (word_at g (codes "get") refl refl refl) (public_key (key spaced _ (m.ends rest))) (m.function true flush rest)) np
    by false true key g rest e = an_accessor (setter (word_at g (codes "set") refl refl refl) (public_key (key spaced _ (m.ends rest))) (m.function false flush rest)) np
    by false false key g rest e = an_accessor (setter (word_at g (codes "set") refl refl refl) (public_key (key spaced _ (m.ends rest))) (m.function false flush rest)) np

method_property : (c : Bool) (k : Term) → KeyAt c k → Starred c k → no_private (wrapped true (loose 2) k) ≡ true → (v : Term) → MethodAt true v → PropertyIs (codes "init" ∷ codes "method" ∷ [] ∷ flag c (codes "computed") ∷ []) k v
method_property c k key st np v m = subst (λ z. PropertyIs (codes "init" ∷ codes "method" ∷ [] ∷ flag c (codes "computed") ∷ []) k z) (sym m.is) (by c key st)
  where
    f : Term
    f = function_node Kind.FunctionExpression m.async m.star absent m.parameters m.body

    by : (c : Bool) → KeyAt c k → Starred c k → PropertyIs (codes "init" ∷ codes "method" ∷ [] ∷ flag c (codes "computed") ∷ []) k f
    by true key st g rest e = a_method (method_with m.async m.star true (wrapped true (loose 2) k) (wrapped true never f) (λ r. 91 ∷ to true (loose 2) k (93 ∷ r)) (method_to f) m.is_async m.is_star (λ r. refl) (λ g r e. public_key (key g r e)) m.ends m.function g rest) np
    by false key st g rest e = a_method (method_with m.async m.star false (wrapped true (loose 2) k) (wrapped true never f) (to true (loose 2) k) (method_to f) m.is_async m.is_star st (λ g r e. public_key (key g r e)) m.ends m.function g rest) np

-- x

identifier_value : (x : Text) (v : Term) → has_shape (Place.one sorts.Sort.expression) v ≡ true → is_value_of x v ≡ true → IsBound Kind.Identifier x v
identifier_value x absent h v = differ (sym h)
identifier_value x (list ts) h v = differ (sym h)
identifier_value x (node Kind.Identifier xs ts) h v = bound_identifier sorts.Sort.expression x xs ts h v
identifier_value x (node Kind.BindingIdentifier xs ts) h v = differ (sym (taken_by sorts.Sort.expression Kind.BindingIdentifier xs ts h).taken)
identifier_value x (node Kind.AssignmentPattern xs ts) h v = differ (sym (taken_by sorts.Sort.expression Kind.AssignmentPattern xs ts h).taken)
identifier_value x (node Kind.AssignmentTargetWithDefault xs ts) h v = differ (sym (taken_by sorts.Sort.expression Kind.AssignmentTargetWithDefault xs ts h).taken)
identifier_value x (node k xs ts) h v = differ (sym v)

-- the function of a method is no name
no_function_value : {A : Type 0} (b : Bool) (x : Text) (v : Term) → MethodAt b v → is_value_of x v ≡ true → A
no_function_value b x v m h = differ (sym (subst (λ z. is_value_of x z ≡ true) m.is h))

shorthand_property : (k v : Term) → has_shape (Place.one sorts.Sort.key) k ≡ true → has_shape (Place.one sorts.Sort.expression) v ≡ true → is_one_name (two k v) ≡ true → PropertyIs (codes "init" ∷ [] ∷ codes "shorthand" ∷ [] ∷ []) k v
shorthand_property k v hk hv s =
    key_name (λ z. is_one_name (two z v) ≡ true → PropertyIs (codes "init" ∷ [] ∷ codes "shorthand" ∷ [] ∷ []) z v) k hk (and_parts (is_node Kind.IdentifierName k) _ s).0
    (λ x s. let b = identifier_value x v hv (and_parts (is_node Kind.IdentifierName (name_of x)) _ s).1 in let n = free_parts x b.free in
    subst (λ z. PropertyIs (codes "init" ∷ [] ∷ codes "shorthand" ∷ [] ∷ []) (name_of x) z) (sym b.is) (λ g rest e. a_shorthand n.1 (name_at g n.0 (ends_stop rest true (through true rest e))))) s

-- ---- by its flags: a method, a shorthand, a computed key

property_flags : (kind : Text) (P : List Text → Type 0) → ((a b c : Bool) → P (kind ∷ flag a (codes "method") ∷ flag b (codes "shorthand") ∷ flag c (codes "computed") ∷ [])) → (x y z : Text) → texts.flag (codes "method") x ≡ true → texts.flag (codes "shorthand") y ≡ true → texts.flag (codes "computed") z ≡ true → P (kind ∷ x ∷ y ∷ z ∷ [])
property_flags kind P f x y z hx hy hz =
    by_flag (codes "method") (λ u. P (kind ∷ u ∷ y ∷ z ∷ [])) (λ a. by_flag (codes "shorthand") (λ u. P (kind ∷ flag a (codes "method") ∷ u ∷ z ∷ [])) (λ b. by_flag (codes "computed") (λ u. P (kind ∷ flag a (codes "method") ∷ flag b (codes "shorthand") ∷ u ∷ [])) (λ c. f a b c) z hz) y hy) x hx

abbrev PropertyRule : Text → Type 0
PropertyRule kind = (a b c : Bool) (k v : Term) → has_shape (key_place (is_set (flag c (codes "computed"))) sorts.Sort.key) k ≡ true → has_shape (value_place (kind ∷ flag a (codes "method") ∷ flag b (codes "shorthand") ∷ flag c (codes "computed") ∷ [])) v ≡ true → is_property (kind ∷ flag a (codes "method") ∷ flag b (codes "shorthand") ∷ flag c (codes "computed") ∷ []) (two k v) ≡ true → Claim off k → Claim off v → PropertyIs (kind ∷ flag a (codes "method") ∷ flag b (codes "shorthand") ∷ flag c (codes "computed") ∷ []) k v

value_name : (k v : Term) → is_one_name (two k v) ≡ true → is_value_of (text_of k) v ≡ true
value_name k v s = (and_parts (is_node Kind.IdentifierName k) _ s).1

key_is_name : (k v : Term) → is_one_name (two k v) ≡ true → is_node Kind.IdentifierName k ≡ true
key_is_name k v s = (and_parts (is_node Kind.IdentifierName k) _ s).0

init_rule : PropertyRule (codes "init")
init_rule true true c k v hk hv s ck cv = no_function_value true (text_of k) v (method_at true v hv cv) (value_name k v s)
init_rule true false true k v hk hv s ck cv = method_property true k (key_at true k hk ck) (key_starred true k hk) (key_public true k hk) v (method_at true v hv cv)
init_rule true false false k v hk hv s ck cv = method_property false k (key_at false k hk ck) (key_starred false k hk) (key_public false k hk) v (method_at true v hv cv)
init_rule false true true k v hk hv s ck cv = no_name k hk (key_is_name k v s)
init_rule false true false k v hk hv s ck cv = shorthand_property k v hk hv s
init_rule false false true k v hk hv s ck cv = plain_property true k v (key_at true k hk ck) (at 2 refl true v hv cv)
init_rule false false false k v hk hv s ck cv = plain_property false k v (key_at false k hk ck) (at 2 refl true v hv cv)

get_rule : PropertyRule (codes "get")
get_rule true b c k v hk hv s ck cv = differ (sym s)
get_rule false true c k v hk hv s ck cv = no_function_value false (text_of k) v (method_at false v hv cv) (value_name k v s)
get_rule false false true k v hk hv s ck cv = accessor_property true true k (key_at true k hk ck) (key_public true k hk) v (plain_method_at v hv cv)
get_rule false false false k v hk hv s ck cv = accessor_property true false k (key_at false k hk ck) (key_public false k hk) v (plain_method_at v hv cv)

set_rule : PropertyRule (codes "set")
set_rule true b c k v hk hv s ck cv = differ (sym s)
set_rule false true c k v hk hv s ck cv = no_function_value false (text_of k) v (method_at false v hv cv) (value_name k v s)
set_rule false false true k v hk hv s ck cv = accessor_property false true k (key_at true k hk ck) (key_public true k hk) v (plain_method_at v hv cv)
set_rule false false false k v hk hv s ck cv = accessor_property false false k (key_at false k hk ck) (key_public false k hk) v (plain_method_at v hv cv)

property_of_kind : (kind : Text) → PropertyRule kind → (x y z : Text) (k v : Term) → Fit (places Kind.ObjectProperty (kind ∷ x ∷ y ∷ z ∷ [])) Kind.ObjectProperty (kind ∷ x ∷ y ∷ z ∷ []) (two k v) → Kids (λ n. off) 0 (two k v) → PropertyIs (kind ∷ x ∷ y ∷ z ∷ []) k v
property_of_kind kind rule x y z k v f c =
    property_flags kind (λ xs. has_shape (key_place (is_set_at 3 xs) sorts.Sort.key) k ≡ true → has_shape (value_place xs) v ≡ true → is_property xs (two k v) ≡ true → PropertyIs xs k v) (λ p q r hk hv s. rule p q r k v hk hv s c.0 c.1.0) x y z f.spoken.1.0 f.spoken.1.1.0 f.spoken.1.1.1.0 f.placed.0 f.placed.1.0 f.sound

pub property_rule : Rule Kind.ObjectProperty
property_rule m (kind ∷ x ∷ y ∷ z ∷ []) (more k (more v none)) f c g rest e =
    let by : (w : Text) → PropertyRule w → is_text kind w ≡ true → PropertyIs (kind ∷ x ∷ y ∷ z ∷ []) k v = λ w rule h.
    subst (λ u. Fit (places Kind.ObjectProperty (u ∷ x ∷ y ∷ z ∷ [])) Kind.ObjectProperty (u ∷ x ∷ y ∷ z ∷ []) (two k v) → PropertyIs (u ∷ x ∷ y ∷ z ∷ []) k v) (sym (same_text kind w h)) (λ f. property_of_kind w rule x y z k v f c) f in
    or_by (is_text kind (codes "init")) _ (by (codes "init") init_rule) (λ h. or_by (is_text kind (codes "get")) _ (by (codes "get") get_rule) (λ h. or_by (is_text kind (codes "set")) false (by (codes "set") set_rule) (λ h. differ (sym h)) h) h) f.spoken.0 g rest e
property_rule m texts ts f c g rest e = differ (sym f.counted)
