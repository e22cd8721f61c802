-- Classes and their elements (ECMAScript 15.7).
use Rattle.std.proofs.Common.{◌≡◌, refl, sym, subst, List, [], ◌∷◌, ◌++◌, Bool, true, false, not, ◌&&◌, ◌||◌}
use Rattle.std.specs.Prelude.{codes}
use Rattle.std.proofs.lemmas.Bool.{and_parts, not-true}
use Rattle.js_term.specs.Term.{Text, is_text, Term, absent, list, node, Terms, none, more, two, flag}
use Rattle.js_term.specs.declared.kind.Kind.{Kind}
use Rattle.js_term.specs.Kinds.{is_among}
use Rattle.js_syntax.specs.Texts as texts
use Rattle.js_syntax.specs.Texts.{is_free_name}
use Rattle.js_syntax.specs.Parts.{is_set, is_set_at, is_present, first_is}
use Rattle.js_syntax.specs.Nodes.{three, function_node}
use Rattle.js_syntax.specs.Edges.{is_constructor}
use Rattle.js_syntax.specs.Sorts.{Sort, Place, class_elements}
use Rattle.js_syntax.specs.Places.{places, class_places, key_place, method_place}
use Rattle.js_syntax.specs.Printable.{has_shape, is_constructor_key, is_method_definition}
use Rattle.js_syntax.specs.Spelling.{ClassText, class, Heritage, no_heritage, heritage, Elements, no_elements, next_element, ClassElement, static_block, constructor_element, method_element, accessor_element, field_element, Static, no_static, with_static, Initializer, no_initializer, initializer, getter, setter, no_statements, written, class_expression}
use Rattle.print_layout.specs.Rows.{blank}
use Rattle.print_layout.specs.Needs.{never, is_held}
use Rattle.print_layout.specs.Layout.{put, wrapped, each_wrapped}
use Rattle.print_spelling.proofs.Tokens.{differ, same_text, or_by, Lead, flush, spaced, led, stops, sign_at, word_at, left_brace, right_brace, semicolon_at}
use Rattle.print_spelling.proofs.Spread.{to, each_to, separated_to, method_to}
use Rattle.print_spelling.proofs.Fits.{Fit, fit_of, taken_by, list_shape, each_shaped}
use Rattle.print_spelling.proofs.Shapes.{only}
use Rattle.print_spelling.proofs.Claims.{bare, bare_to, ends, opens_at, NodeExpr, of_stands, Claim, Each, Kids, Mode, off, Rule, Meaning, an_element, category}
use Rattle.print_spelling.proofs.Placed.{loose, at}
use Rattle.print_spelling.proofs.Keys.{MemberKeyAt, Starred, member_key_at, member_key_starred}
use Rattle.print_spelling.proofs.Functions.{past_word, one_word, by_flag, naming_at, part_stops}
use Rattle.print_spelling.proofs.Objects.{MethodAt, PlainMethod, method_at, plain_method_at, accessor_word, method_with}
use Rattle.print_spelling.proofs.Bodies.{statements_at}

-- ---- elements in their places

element_meaning : (m : Mode) (k : Kind) (t : Term) → is_among k class_elements ≡ true → Meaning m (category k) t → Meaning m an_element t
element_meaning m Kind.StaticBlock t h c = c
element_meaning m Kind.MethodDefinition t h c = c
element_meaning m Kind.PropertyDefinition t h c = c
element_meaning m k t h c = differ (sym h)

element_at : (t : Term) → has_shape (Place.one Sort.class_element) t ≡ true → Claim off t → (g : Lead) (rest : Text) → ClassElement (wrapped true never t) (led g (to true never t rest)) rest
element_at absent h c = differ (sym h)
element_at (list ts) h c = differ (sym h)
element_at (node k xs ts) h c = element_meaning off k (node k xs ts) (taken_by Sort.class_element k xs ts h).taken c.0

elements_at : (t : Term) (ts : Terms) → each_shaped (Place.one Sort.class_element) (more t ts) ≡ true → Each off (more t ts) → (g : Lead) (rest : Text) → Elements (each_wrapped true never (more t ts)) (led g (separated_to blank (each_to true never (more t ts)) rest)) rest
elements_at t none h c g rest = next_element (element_at t (and_parts (has_shape (Place.one Sort.class_element) t) true h).0 c.0 g rest) no_elements
elements_at t (more u us) h c g rest =
    let both = and_parts (has_shape (Place.one Sort.class_element) t) (each_shaped (Place.one Sort.class_element) (more u us)) h in
    next_element (element_at t both.0 c.0 g (32 ∷ separated_to blank (each_to true never (more u us)) rest)) (elements_at u us both.1 c.1 spaced rest)

-- ---- class x extends e { es }

heritage_at : (h : Term) → has_shape (Place.optional Sort.expression) h ≡ true → Claim off h → (rest : Text) → Heritage (wrapped true (loose 18) h) (flag (is_present h) (codes " extends ") ++ to true (loose 18) h (32 ∷ rest)) (32 ∷ rest)
heritage_at absent h c rest = no_heritage
heritage_at (list ts) h c rest = differ (sym h)
heritage_at (node k xs ts) h c rest = let p = at 18 refl true (node k xs ts) h c in heritage (word_at spaced (codes "extends") refl refl refl) p.high (p.stands spaced refl)

abbrev ClassAt : Kind → Term → Term → Term → Type 0
ClassAt k id h body = (g : Lead) (rest : Text) → ClassText k (node k [] (three (wrapped true never id) (wrapped true (loose 18) h) (wrapped true never body))) (led g (codes "class" ++ (flag (is_present id) (codes " ") ++ to true never id (flag (is_present h) (codes " extends ") ++ to true (loose 18) h (32 ∷ to true never body rest))))) rest

class_with : (k : Kind) (id h : Term) → has_shape (Place.optional (Sort.only Kind.BindingIdentifier)) id ≡ true → has_shape (Place.optional Sort.expression) h ≡ true → Claim off h → (xs : List Text) (ts : Terms) → Fit (Place.many Sort.class_element ∷ []) Kind.ClassBody xs ts → Kids (λ n. off) 0 ts → ClassAt k id h (node Kind.ClassBody xs ts)
class_with k id h hi hh c [] (more (list none) none) f d g rest =
    let tail : Text = codes "{}" ++ rest in
    let s : stops (flag (is_present h) (codes " extends ") ++ to true (loose 18) h (32 ∷ tail)) ≡ true = part_stops (loose 18) h (codes "extends ") (32 ∷ tail) refl in
    class {es = []} (word_at g (codes "class") refl refl (part_stops never id [] _ s)) (naming_at id hi _ s) (heritage_at h hh c tail) (left_brace spaced) no_elements (right_brace flush)
class_with k id h hi hh c [] (more (list (more t ts)) none) f d g rest =
    let tail : Text = codes "{ " ++ separated_to blank (each_to true never (more t ts)) (codes " }" ++ rest) in
    let s : stops (flag (is_present h) (codes " extends ") ++ to true (loose 18) h (32 ∷ tail)) ≡ true = part_stops (loose 18) h (codes "extends ") (32 ∷ tail) refl in
    class {es = each_wrapped true never (more t ts)} (word_at g (codes "class") refl refl (part_stops never id [] _ s)) (naming_at id hi _ s) (heritage_at h hh c tail) (left_brace spaced) (elements_at t ts (list_shape (Place.many Sort.class_element) (more t ts) f.placed.0).1 d.0 spaced (32 ∷ 125 ∷ rest)) (right_brace spaced)
class_with k id h hi hh c [] (more absent none) f d g rest = differ (sym f.placed.0)
class_with k id h hi hh c [] (more (node j ys us) none) f d g rest = differ (sym f.placed.0)
class_with k id h hi hh c xs ts f d g rest = differ (sym f.counted)

class_at : (k : Kind) (id h body : Term) → has_shape (Place.optional (Sort.only Kind.BindingIdentifier)) id ≡ true → has_shape (Place.optional Sort.expression) h ≡ true → has_shape (Place.one (Sort.only Kind.ClassBody)) body ≡ true → Claim off h → Claim off body → ClassAt k id h body
class_at k id h body hi hh hb ch cb = only Kind.ClassBody (λ z. Claim off z → ClassAt k id h z) (λ xs ts s c. class_with k id h hi hh ch xs ts (fit_of (Sort.only Kind.ClassBody) Kind.ClassBody xs ts refl s).1 c.1) body hb cb

pub class_is : (name : Place) → ((id : Term) → has_shape name id ≡ true → has_shape (Place.optional (Sort.only Kind.BindingIdentifier)) id ≡ true) → (xs : List Text) (ts : Terms) → Fit (class_places name) Kind.ClassDeclaration xs ts → Kids (λ n. off) 0 ts → (g : Lead) (rest : Text) → ClassText Kind.ClassDeclaration (bare true (node Kind.ClassDeclaration xs ts)) (led g (bare_to true (node Kind.ClassDeclaration xs ts) rest)) rest
class_is name into [] (more id (more h (more body none))) f c g rest = class_at Kind.ClassDeclaration id h body (into id f.placed.0) f.placed.1.0 f.placed.1.1.0 c.1.0 c.1.1.0 g rest
class_is name into xs ts f c g rest = differ (sym f.counted)

pub class_expression_rule : (xs : List Text) (ts : Terms) → Fit (places Kind.ClassExpression xs) Kind.ClassExpression xs ts → Kids (λ n. off) 0 ts → NodeExpr (node Kind.ClassExpression xs ts)
class_expression_rule [] (more id (more h (more body none))) f c i n =
    of_stands (λ g rest e. class_expression (class_at Kind.ClassExpression id h body f.placed.0 f.placed.1.0 f.placed.1.1.0 c.1.0 c.1.1.0 g rest)) (opens_at (λ rest. refl))
class_expression_rule xs ts f c i n = differ (sym f.counted)

-- ---- static { ss }

pub static_block_rule : Rule Kind.StaticBlock
static_block_rule m [] (more (list none) none) f c g rest = static_block {ss = []} (word_at g (codes "static") refl refl refl) (left_brace spaced) no_statements (right_brace flush)
static_block_rule m [] (more (list (more t ts)) none) f c g rest =
    static_block {ss = each_wrapped true never (more t ts)} (word_at g (codes "static") refl refl refl) (left_brace spaced) (statements_at t ts (list_shape (Place.many Sort.statement) (more t ts) f.placed.0).1 c.0 spaced (32 ∷ 125 ∷ rest)) (right_brace spaced)
static_block_rule m [] (more absent none) f c g rest = differ (sym f.placed.0)
static_block_rule m [] (more (node k xs us) none) f c g rest = differ (sym f.placed.0)
static_block_rule m xs ts f c g rest = differ (sym f.counted)

-- ---- the flag static, and constructors

static_at : (x : Text) → texts.flag (codes "static") x ≡ true → (g : Lead) (rest : Text) → Static x (led g (flag (is_set x) (codes "static ") ++ rest)) (led (past_word x g) rest)
static_at [] h g rest = no_static
static_at (c ∷ cs) h g rest = subst (λ z. Static z (led g (codes "static " ++ rest)) (32 ∷ rest)) (sym (one_word (codes "static") (c ∷ cs) h refl)) (with_static (word_at g (codes "static") refl refl refl))

-- parentheses make no key the one of a constructor, and none stand round that key
other_key : (t : Term) → is_constructor_key t ≡ false → is_constructor_key (wrapped true (loose 2) t) ≡ false
other_key absent h = refl
other_key (list ts) h = refl
other_key (node k xs ts) h = by (is_held true (loose 2) k xs ts)
  where
    by : (b : Bool) → is_constructor_key (put b (bare (true || b) (node k xs ts))) ≡ false
    by true = refl
    by false = h

constructor_key : (t : Term) → is_constructor_key t ≡ true → is_constructor_key (wrapped true (loose 2) t) ≡ true
constructor_key absent h = differ (sym h)
constructor_key (list ts) h = differ (sym h)
constructor_key (node Kind.IdentifierName xs ts) h = h
constructor_key (node Kind.StringLiteral xs ts) h = h
constructor_key (node k xs ts) h = differ (sym h)

not_constructor : (c : Bool) (static : Text) (k : Term) → not (not (is_set (flag c (codes "computed"))) && not (is_set static) && is_constructor_key k) ≡ true → is_constructor static c (wrapped true (loose 2) k) ≡ false
not_constructor true [] k h = refl
not_constructor false [] k h = other_key k (not-true (is_constructor_key k) h)
not_constructor c (d ∷ ds) k h = refl

-- ---- methods by their kinds

abbrev ElementIs : List Text → Term → Term → Type 0
ElementIs xs k v = (g : Lead) (rest : Text) → ClassElement (bare true (node Kind.MethodDefinition xs (two k v))) (led g (bare_to true (node Kind.MethodDefinition xs (two k v)) rest)) rest

method_is : (c : Bool) (static : Text) → texts.flag (codes "static") static ≡ true → (k : Term) → is_constructor static c (wrapped true (loose 2) k) ≡ false → MemberKeyAt c k → Starred c k → (v : Term) → MethodAt true v → ElementIs (codes "method" ∷ flag c (codes "computed") ∷ static ∷ []) k v
method_is c static hs k nc key st v m = subst (λ z. ElementIs (codes "method" ∷ flag c (codes "computed") ∷ static ∷ []) k z) (sym m.is) (by c nc key st)
  where
    f : Term
    f = function_node Kind.FunctionExpression m.async m.star absent m.parameters m.body

    by : (c : Bool) → is_constructor static c (wrapped true (loose 2) k) ≡ false → MemberKeyAt c k → Starred c k → ElementIs (codes "method" ∷ flag c (codes "computed") ∷ static ∷ []) k f
    by true nc key st g rest = method_element nc (static_at static hs g _) (method_with m.async m.star true (wrapped true (loose 2) k) (wrapped true never f) (λ r. 91 ∷ to true (loose 2) k (93 ∷ r)) (method_to f) m.is_async m.is_star (λ r. refl) (λ g r e. key g r e) m.ends m.function (past_word static g) rest)
    by false nc key st g rest = method_element nc (static_at static hs g _) (method_with m.async m.star false (wrapped true (loose 2) k) (wrapped true never f) (to true (loose 2) k) (method_to f) m.is_async m.is_star st (λ g r e. key g r e) m.ends m.function (past_word static g) rest)

accessor_is : (b c : Bool) (static : Text) → texts.flag (codes "static") static ≡ true → (k : Term) → is_constructor static c (wrapped true (loose 2) k) ≡ false → MemberKeyAt c k → (v : Term) → PlainMethod v → ElementIs (accessor_word b ∷ flag c (codes "computed") ∷ static ∷ []) k v
accessor_is b c static hs k nc key v m = subst (λ z. ElementIs (accessor_word b ∷ flag c (codes "computed") ∷ static ∷ []) k z) (sym m.is) (by b c nc key)
  where
    by : (b c : Bool) → is_constructor static c (wrapped true (loose 2) k) ≡ false → MemberKeyAt c k → ElementIs (accessor_word b ∷ flag c (codes "computed") ∷ static ∷ []) k (function_node Kind.FunctionExpression [] [] absent m.parameters m.body)
    by true true nc key g rest = accessor_element nc (static_at static hs g _) (getter (word_at (past_word static g) (codes "get") refl refl refl) (key spaced _ (m.ends rest)) (m.function true flush rest))
    by true false nc key g rest = accessor_element nc (static_at static hs g _) (getter (word_at (past_word static g) (codes "get") refl refl refl) (key spaced _ (m.ends rest)) (m.function true flush rest))
    by false true nc key g rest = accessor_element nc (static_at static hs g _) (setter (word_at (past_word static g) (codes "set") refl refl refl) (key spaced _ (m.ends rest)) (m.function false flush rest))
    by false false nc key g rest = accessor_element nc (static_at static hs g _) (setter (word_at (past_word static g) (codes "set") refl refl refl) (key spaced _ (m.ends rest)) (m.function false flush rest))

constructor_is : (k : Term) → is_constructor_key k ≡ true → MemberKeyAt false k → (v : Term) → PlainMethod v → ElementIs (codes "constructor" ∷ [] ∷ [] ∷ []) k v
constructor_is k s key v m = subst (λ z. ElementIs (codes "constructor" ∷ [] ∷ [] ∷ []) k z) (sym m.is) (λ g rest. constructor_element (constructor_key k s) (key g _ (m.ends rest)) (m.function true flush rest))

abbrev MethodRule : Text → Type 0
MethodRule kind = (c : Bool) (static : Text) (k v : Term) → texts.flag (codes "static") static ≡ true → has_shape (key_place (is_set (flag c (codes "computed"))) Sort.class_key) k ≡ true → has_shape (method_place (first_is (codes "method") (kind ∷ []))) v ≡ true → is_method_definition (kind ∷ flag c (codes "computed") ∷ static ∷ []) (two k v) ≡ true → Claim off k → Claim off v → ElementIs (kind ∷ flag c (codes "computed") ∷ static ∷ []) k v

method_rule : MethodRule (codes "method")
method_rule true static k v hs hk hv s ck cv = method_is true static hs k (not_constructor true static k s) (member_key_at true k hk ck) (member_key_starred true k hk) v (method_at true v hv cv)
method_rule false static k v hs hk hv s ck cv = method_is false static hs k (not_constructor false static k s) (member_key_at false k hk ck) (member_key_starred false k hk) v (method_at true v hv cv)

accessor_rule : (b : Bool) → MethodRule (accessor_word b)
accessor_rule true true static k v hs hk hv s ck cv = accessor_is true true static hs k (not_constructor true static k s) (member_key_at true k hk ck) v (plain_method_at v hv cv)
accessor_rule true false static k v hs hk hv s ck cv = accessor_is true false static hs k (not_constructor false static k s) (member_key_at false k hk ck) v (plain_method_at v hv cv)
accessor_rule false true static k v hs hk hv s ck cv = accessor_is false true static hs k (not_constructor true static k s) (member_key_at true k hk ck) v (plain_method_at v hv cv)
accessor_rule false false static k v hs hk hv s ck cv = accessor_is false false static hs k (not_constructor false static k s) (member_key_at false k hk ck) v (plain_method_at v hv cv)

constructor_rule : MethodRule (codes "constructor")
constructor_rule true static k v hs hk hv s ck cv = differ (sym s)
constructor_rule false [] k v hs hk hv s ck cv = constructor_is k s (member_key_at false k hk ck) v (plain_method_at v hv cv)
constructor_rule false (c ∷ cs) k v hs hk hv s ck cv = differ (sym s)

pub method_definition_rule : Rule Kind.MethodDefinition
method_definition_rule m (kind ∷ x ∷ y ∷ []) (more k (more v none)) f c g rest =
    let by : (w : Text) → MethodRule w → is_text kind w ≡ true → ElementIs (kind ∷ x ∷ y ∷ []) k v = λ w rule h.
    subst (λ u. Fit (places Kind.MethodDefinition (u ∷ x ∷ y ∷ [])) Kind.MethodDefinition (u ∷ x ∷ y ∷ []) (two k v) → ElementIs (u ∷ x ∷ y ∷ []) k v) (sym (same_text kind w h)) (λ f.
    by_flag (codes "computed") (λ z. has_shape (key_place (is_set_at 1 (w ∷ z ∷ y ∷ [])) Sort.class_key) k ≡ true → is_method_definition (w ∷ z ∷ y ∷ []) (two k v) ≡ true → ElementIs (w ∷ z ∷ y ∷ []) k v) (λ b h s. rule b y k v f.spoken.1.1.0 h f.placed.1.0 s c.0 c.1.0) x f.spoken.1.0 f.placed.0 f.sound) f in
    or_by (is_text kind (codes "constructor")) _ (by (codes "constructor") constructor_rule) (λ h. or_by (is_text kind (codes "method")) _ (by (codes "method") method_rule) (λ h. or_by (is_text kind (codes "get")) _ (by (codes "get") (accessor_rule true)) (λ h. or_by (is_text kind (codes "set")) false (by (codes "set") (accessor_rule false)) (λ h. differ (sym h)) h) h) h) f.spoken.0 g rest
method_definition_rule m xs ts f c g rest = differ (sym f.counted)

-- ---- k = e;

initializer_at : (v : Term) → has_shape (Place.optional Sort.expression) v ≡ true → Claim off v → (rest : Text) → Initializer (wrapped true (loose 2) v) (flag (is_present v) (codes " = ") ++ to true (loose 2) v (59 ∷ rest)) (59 ∷ rest)
initializer_at absent h c rest = no_initializer
initializer_at (list ts) h c rest = differ (sym h)
initializer_at (node k xs ts) h c rest = let p = at 2 refl true (node k xs ts) h c in initializer (sign_at spaced (codes "=") refl refl) (p.stands spaced refl)

initializer_ends : (v : Term) (rest : Text) → ends (flag (is_present v) (codes " = ") ++ to true (loose 2) v (59 ∷ rest)) false ≡ true
initializer_ends absent rest = refl
initializer_ends (list ts) rest = refl
initializer_ends (node k xs ts) rest = refl

abbrev FieldIs : List Text → Term → Term → Type 0
FieldIs xs k v = (g : Lead) (rest : Text) → ClassElement (bare true (node Kind.PropertyDefinition xs (two k v))) (led g (bare_to true (node Kind.PropertyDefinition xs (two k v)) rest)) rest

field_is : (c : Bool) (static : Text) (k v : Term) → texts.flag (codes "static") static ≡ true → has_shape (key_place (is_set (flag c (codes "computed"))) Sort.class_key) k ≡ true → has_shape (Place.optional Sort.expression) v ≡ true → Claim off k → Claim off v → FieldIs (flag c (codes "computed") ∷ static ∷ []) k v
field_is true static k v hs hk hv ck cv g rest = field_element (static_at static hs g _) (member_key_at true k hk ck (past_word static g) _ (initializer_ends v rest)) (initializer_at v hv cv rest) (written (semicolon_at flush))
field_is false static k v hs hk hv ck cv g rest = field_element (static_at static hs g _) (member_key_at false k hk ck (past_word static g) _ (initializer_ends v rest)) (initializer_at v hv cv rest) (written (semicolon_at flush))

pub field_rule : Rule Kind.PropertyDefinition
field_rule m (x ∷ y ∷ []) (more k (more v none)) f c g rest =
    by_flag (codes "computed") (λ z. has_shape (key_place (is_set_at 0 (z ∷ y ∷ [])) Sort.class_key) k ≡ true → FieldIs (z ∷ y ∷ []) k v) (λ b h. field_is b y k v f.spoken.1.0 h f.placed.1.0 c.0 c.1.0) x f.spoken.0 f.placed.0 g rest
field_rule m xs ts f c g rest = differ (sym f.counted)
