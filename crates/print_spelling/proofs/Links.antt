-- The links of chains, members and calls (ECMAScript 13.3).
use Rattle.std.proofs.Common.{◌≡◌, refl, sym, ap, ◌∙◌, subst, ℕ, ◌≤◌, List, [], ◌∷◌, ◌++◌, Bool, true, false, not, ◌||◌, nat_eq, inl, inr, arith}
use Rattle.std.specs.Prelude.{codes, if◌then◌else◌}
use Rattle.std.proofs.lemmas.Bool.{and_parts, not-true}
use Rattle.js_term.specs.Term.{Text, is_text, Term, absent, list, node, Terms, none, more, one, two}
use Rattle.js_term.specs.declared.kind.Kind.{Kind}
use Rattle.js_term.specs.Lexeme.{is_one_of, is_digit}
use Rattle.js_term.specs.Node.{name_of}
use Rattle.js_syntax.specs.Lexical.{is_name, first_passes}
use Rattle.js_syntax.specs.Tokens.{Sign}
use Rattle.js_syntax.specs.Edges.{member_level, is_private_member}
use Rattle.js_syntax.specs.Parts.{is_set_at}
use Rattle.js_syntax.specs.Places.{places}
use Rattle.js_syntax.specs.Nodes.{super_of, call_link, static_link, computed_link, private_of, private_link}
use Rattle.js_syntax.specs.Sorts.{Sort, Place}
use Rattle.js_syntax.specs.Printable.{has_shape, has_link}
use Rattle.js_syntax.specs.Levels.{level, level_first}
use Rattle.js_syntax.specs.Spelling.{Stands, Arguments, Access, static_access, computed_access, private_access, plain_dot, optional_dot, not_optional, is_optional, Link, access_link, argument_link, first_link, next_link, member, super_member, call, super_call, chain}
use Rattle.print_layout.specs.Rows.{comma}
use Rattle.print_layout.specs.Needs.{is_number_kind, is_in, is_held, never}
use Rattle.print_layout.specs.Layout.{put, wrapped, each_wrapped}
use Rattle.print_spelling.proofs.Openings.{name_after_point}
use Rattle.print_spelling.proofs.Tokens.{differ, same_text, or_by, flush, led, stops, sign_at, word_at, name_at, private_at, point_at, left_bracket, right_bracket}
use Rattle.print_spelling.proofs.Spread.{To, to, held_to, each_to, separated_to}
use Rattle.print_spelling.proofs.Fits.{Fit}
use Rattle.print_spelling.proofs.Shapes.{leaf}
use Rattle.print_spelling.proofs.Claims.{bare, bare_to, closed, ends, ends_stop, opens_at, Expr, NodeExpr, SpineExpr, NodeSpine, of_stands, Claim, Kids, Mode, off, on, tagged, mode_inside, Linked}
use Rattle.print_spelling.proofs.Placed.{InPlace, in_place, loose_le, le_loose, At, at_by, loose, opens_tight, tight_meets}
use Rattle.print_spelling.proofs.Calls.{arguments_at, object_is, expression_is, object_need, object_at, point_behind}

-- ---- modes

abbrev is_off : Mode → Bool
is_off off = true
is_off m = false

abbrev is_tagged : Mode → Bool
is_tagged tagged = true
is_tagged m = false

off_on : {A : Type 0} → off ≡ on → A
off_on e = differ (ap is_off e)

off_tagged : {A : Type 0} → off ≡ tagged → A
off_tagged e = differ (ap is_off e)

on_tagged : {A : Type 0} → on ≡ tagged → A
on_tagged e = differ (sym (ap is_tagged e))

tagged_on : {A : Type 0} → tagged ≡ on → A
tagged_on e = differ (ap is_tagged e)

-- a link without `?.` is one of a chain where its object is
plain_link : (m : Mode) (t o : Term) → has_link t ≡ has_link o → ((m ≡ tagged → ⊥) → (m ≡ on → has_link o ≡ false) → NodeExpr t) → (m ≡ on → has_link o ≡ true → NodeSpine t) → Linked m t
plain_link off t o e f g = f (λ z. off_tagged z) (λ z. off_on z)
plain_link on t o e f g = (λ h. f (λ z. on_tagged z) (λ z. sym e ∙ h), λ h. g refl (sym e ∙ h))
plain_link tagged t o e f g = tt

-- a link with `?.` begins a chain where its object is none
set_link : (m : Mode) (t o : Term) → has_link t ≡ true → m ≡ on → (m ≡ on → has_link o ≡ true → NodeSpine t) → ((m ≡ tagged → ⊥) → (m ≡ on → has_link o ≡ false) → NodeSpine t) → Linked m t
set_link off t o e q f g = off_on q
set_link on t o e q f g = (λ h. differ (sym e ∙ h), λ h. by (has_link o) refl)
  where
    by : (b : Bool) → has_link o ≡ b → NodeSpine t
    by true z = f refl z
    by false z = g (λ y. on_tagged y) (λ y. z)
set_link tagged t o e q f g = tagged_on q

-- ---- spines

pub member_high : (n : ℕ) → 19 ≤ member_level n
member_high n = by (nat_eq n 19)
  where
    by : (b : Bool) → 19 ≤ (if b then 19 else 20)
    by true = omega arith
    by false = omega arith

-- what a link of a chain is: of level 19 or more, no number, and no `in`
pub record IsLink (k : Kind) (texts : List Text) (ts : Terms) : Type 0 where
  pub high : 19 ≤ level (node k texts ts)
  pub no_number : is_number_kind k ≡ false
  pub no_in : is_in k texts ≡ false

link_is : (k : Kind) (texts : List Text) (ts : Terms) → has_link (node k texts ts) ≡ true → IsLink k texts ts
link_is Kind.CallExpression texts ts h = record { high = omega arith; no_number = refl; no_in = refl }
link_is Kind.StaticMemberExpression texts ts h = record { high = member_high (level_first ts); no_number = refl; no_in = refl }
link_is Kind.ComputedMemberExpression texts ts h = record { high = member_high (level_first ts); no_number = refl; no_in = refl }
link_is Kind.PrivateFieldExpression texts ts h = record { high = member_high (level_first ts); no_number = refl; no_in = refl }
link_is k texts ts h = differ (sym h)

spine_of : (t : Term) → has_link t ≡ true → Claim on t → NodeSpine t
spine_of absent h c = differ (sym h)
spine_of (list ts) h c = differ (sym h)
spine_of (node Kind.CallExpression texts ts) h c = c.0.1 h
spine_of (node Kind.StaticMemberExpression texts ts) h c = c.0.1 h
spine_of (node Kind.ComputedMemberExpression texts ts) h c = c.0.1 h
spine_of (node Kind.PrivateFieldExpression texts ts) h c = c.0.1 h
spine_of (node k texts ts) h c = differ (sym h)

-- a place that puts no link in parentheses
abbrev Bare : (Term → Bool) → Type 0
Bare need = (k : Kind) (texts : List Text) (ts : Terms) → IsLink k texts ts → need (node k texts ts) ≡ false

object_bare : Bare object_need
object_bare k texts ts l = rw (l.no_number, le_loose 19 (node k texts ts) l.high) refl

callee_bare : Bare (loose 19)
callee_bare k texts ts l = le_loose 19 (node k texts ts) l.high

never_bare : Bare never
never_bare k texts ts l = refl

spine_in_place : (i : Bool) (need : Term → Bool) → Bare need → (t : Term) → has_link t ≡ true → NodeSpine t → SpineExpr i (wrapped i need t) (to i need t)
spine_in_place i need f absent h s = differ (sym h)
spine_in_place i need f (list ts) h s = differ (sym h)
spine_in_place i need f (node k texts ts) h s =
    let l = link_is k texts ts h in
    subst (λ b. SpineExpr i (put b (bare (i || b) (node k texts ts))) (held_to b (bare_to (i || b) (node k texts ts)))) (sym (not_held i (f k texts ts l) l.no_in)) (base i)
  where
    not_held : (j : Bool) → need (node k texts ts) ≡ false → is_in k texts ≡ false → is_held j need k texts ts ≡ false
    not_held true e d = rw e refl
    not_held false e d = rw (e, d) refl

    base : (j : Bool) → SpineExpr j (bare (j || false) (node k texts ts)) (bare_to (j || false) (node k texts ts))
    base true = s true
    base false = s false

spine_next : {i : Bool} {w u : Term} {f : To} (b : Bool) (tail : To) → SpineExpr i w f → ((rest : Text) → stops rest ≡ true → Link b w u (tail rest) rest) → ((rest : Text) → stops (tail rest) ≡ true) → SpineExpr i u (λ rest. f (tail rest))
spine_next b tail s link st = record { spine = λ g {rest} h. next_link (s.spine g (st rest)) (link rest h); opens = λ rest. s.opens (tail rest); signless = λ op o rest. s.signless op o (tail rest) }

spine_first : {i : Bool} {need : Term → Bool} {o u : Term} (tail : To) → At i need 19 o → ((rest : Text) → stops rest ≡ true → Link true (wrapped i need o) u (tail rest) rest) → ((rest : Text) → ends (tail rest) (closed (wrapped i need o)) ≡ true) → SpineExpr i u (λ rest. to i need o (tail rest))
spine_first {i} {need} {o} tail p link en =
    let w : Term = wrapped i need o in
    let high : 19 ≤ level w = p.high in
    record {
      spine = λ g {rest} h. first_link high (p.stands g (en rest)) (link rest h);
      opens = λ rest. p.placed.expr.opens.fresh (tail rest);
      signless = λ op s rest. p.placed.expr.opens.signless op s (tight_meets op w (omega (arith, high))) (le_loose 16 w (omega (arith, high))) (tail rest);
    }

-- a chain (13.3.9)
pub chain_rule : (texts : List Text) (ts : Terms) → Fit (places Kind.ChainExpression texts) Kind.ChainExpression texts ts → Kids (λ n. on) 0 ts → (ts ≡ none → ⊥) → ((t : Term) → ts ≡ one t → has_link t ≡ true) → NodeExpr (node Kind.ChainExpression texts ts)
chain_rule [] (more t none) m c z f i n =
    let s = spine_in_place i never never_bare t (f t refl) (spine_of t (f t refl) c.0) in
    of_stands (λ g rest e. chain (s.spine g (ends_stop rest true e))) (record { fresh = s.opens; signless = λ op o l k rest. s.signless op o rest })
chain_rule texts ts m c z f i n = differ (sym m.counted)

-- ---- members

abbrev pub LinkRule : Kind → Type 0
LinkRule k = (m : Mode) (texts : List Text) (ts : Terms) → Fit (places k texts) k texts ts → Kids (mode_inside m k) 0 ts → (is_set_at 0 texts ≡ true → m ≡ on) → Linked m (node k texts ts)

no_digit : (y rest : Text) → is_name y ≡ true → first_passes is_digit (y ++ rest) ≡ false
no_digit y rest n = not-true _ (and_parts (not (first_passes is_digit (y ++ rest))) _ (name_after_point y rest n)).0

optional_at : (y rest : Text) → is_name y ≡ true → Sign (codes "?.") (63 ∷ 46 ∷ (y ++ rest)) (y ++ rest)
optional_at y rest n = sign_at flush (codes "?.") refl (rw (no_digit y rest n) refl)

-- one member, behind an object
expression_member : (i : Bool) (o u : Term) (tail : To) → InPlace i object_need o → level u ≡ member_level (level (wrapped i object_need o)) → closed u ≡ true → ((rest : Text) → stops rest ≡ true → Access false (wrapped i object_need o) u (tail rest) rest) → ((rest : Text) → ends (tail rest) (closed (wrapped i object_need o)) ≡ true) → Expr i u (λ rest. to i object_need o (tail rest))
expression_member i o u tail q lv cl access en =
    let p = object_at i o q in
    let high : 19 ≤ level (wrapped i object_need o) = p.high in
    of_stands (λ g rest e. subst (λ n. Stands i n u (led g (to i object_need o (tail rest))) rest) (sym lv) (member p.high (p.stands g (en rest)) (access rest (ends_stop rest (closed u) e)))) (opens_tight tail (omega (arith, high)) q.expr.opens)

super_stands : (i : Bool) (u : Term) (tail : To) → level u ≡ 20 → ((rest : Text) → stops rest ≡ true → Access false super_of u (tail rest) rest) → is_private_member u ≡ false → ((rest : Text) → stops (tail rest) ≡ true) → Expr i u (λ rest. codes "super" ++ tail rest)
super_stands i u tail lv access p st =
    of_stands (λ g rest e. subst (λ n. Stands i n u (led g (codes "super" ++ tail rest)) rest) (sym lv) (super_member (word_at g (codes "super") refl refl (st rest)) (access rest (ends_stop rest (closed u) e)) p)) (opens_at (λ rest. refl))

static_of : (y : Text) → is_name y ≡ true → (b : Bool) (w : Term) (rest : Text) → stops rest ≡ true → Access b w (static_link b w y) ((if b then codes "?." else codes ".") ++ (y ++ rest)) rest
static_of y n true w rest s = static_access (optional_dot (optional_at y rest n)) (name_at flush n s)
static_of y n false w rest s = static_access (plain_dot (point_at y rest n)) (name_at flush n s)

static_super : (y : Text) → is_name y ≡ true → (i : Bool) → Expr i (bare i (static_link false super_of y)) (bare_to i (static_link false super_of y))
static_super y n true = super_stands true (static_link false super_of y) (λ rest. 46 ∷ (y ++ rest)) refl (static_of y n false super_of) refl (λ rest. refl)
static_super y n false = super_stands false (static_link false super_of y) (λ rest. 46 ∷ (y ++ rest)) refl (static_of y n false super_of) refl (λ rest. refl)

static_plain : (m : Mode) (o : Term) (y : Text) → is_name y ≡ true → has_shape (Place.one Sort.object) o ≡ true → Claim m o → Linked m (static_link false o y)
static_plain m o y n h c =
    plain_link m (static_link false o y) o refl
    (λ z f. elim (object_is m o h c z f) as (λ x. NodeExpr (static_link false o y)) [
      | inl e ↦ λ i d. subst (λ x. Expr i (bare i (static_link false x y)) (bare_to i (static_link false x y))) (sym e) (static_super y n i)
      | inr q ↦ λ i d. let p = q i object_need in expression_member i o (static_link false (wrapped i object_need o) y) (λ rest. 46 ∷ (y ++ rest)) p refl refl (static_of y n false (wrapped i object_need o)) (λ rest. point_behind i o p (y ++ rest))
    ])
    (λ e z i. spine_next false (λ rest. 46 ∷ (y ++ rest)) (spine_in_place i object_need object_bare o z (spine_of o z (subst (λ x. Claim x o) e c))) (λ rest s. access_link (static_of y n false (wrapped i object_need o) rest s)) (λ rest. refl))

static_set : (m : Mode) (o : Term) (y : Text) → is_name y ≡ true → has_shape (Place.one Sort.expression) o ≡ true → Claim m o → m ≡ on → Linked m (static_link true o y)
static_set m o y n h c q =
    set_link m (static_link true o y) o refl q
    (λ e z i. spine_next true (λ rest. 63 ∷ 46 ∷ (y ++ rest)) (spine_in_place i object_need object_bare o z (spine_of o z (subst (λ x. Claim x o) e c))) (λ rest s. access_link (static_of y n true (wrapped i object_need o) rest s)) (λ rest. refl))
    (λ z f i. spine_first (λ rest. 63 ∷ 46 ∷ (y ++ rest)) (object_at i o (expression_is m o h c z f i object_need)) (λ rest s. access_link (static_of y n true (wrapped i object_need o) rest s)) (λ rest. refl))

-- the flag of a link is its word
link_word : (c : ℕ) (cs : Text) → is_one_of (c ∷ cs) ([] ∷ codes "?." ∷ []) ≡ true → c ∷ cs ≡ codes "?."
link_word c cs h = same_text (c ∷ cs) (codes "?.") (or_by (is_text (c ∷ cs) (codes "?.")) false (λ e. e) (λ e. differ (sym e)) h)

pub static_rule : LinkRule Kind.StaticMemberExpression
static_rule m ([] ∷ []) (more o (more p none)) f c q =
    leaf Kind.IdentifierName is_name refl refl (λ texts. refl) (λ z. Linked m (node Kind.StaticMemberExpression ([] ∷ []) (two o z))) (λ y n. static_plain m o y n f.placed.0 c.0) p f.placed.1.0
static_rule m ((x ∷ xs) ∷ []) (more o (more p none)) f c q =
    leaf Kind.IdentifierName is_name refl refl (λ texts. refl) (λ z. Linked m (node Kind.StaticMemberExpression ((x ∷ xs) ∷ []) (two o z))) (λ y n.
    subst (λ z. Linked m (node Kind.StaticMemberExpression (z ∷ []) (two o (name_of y)))) (sym (link_word x xs f.spoken.0)) (static_set m o y n f.placed.0 c.0 (q refl))) p f.placed.1.0
static_rule m texts ts f c q = differ (sym f.counted)

-- o.#x

private_of_link : (y : Text) → is_name y ≡ true → (b : Bool) (w : Term) (rest : Text) → stops rest ≡ true → Access b w (private_link b w y) ((if b then codes "?." else codes ".") ++ 35 ∷ (y ++ rest)) rest
private_of_link y n true w rest s = private_access (optional_dot (sign_at flush (codes "?.") refl refl)) (private_at flush n s)
private_of_link y n false w rest s = private_access (plain_dot (sign_at flush (codes ".") refl refl)) (private_at flush n s)

private_plain : (m : Mode) (o : Term) (y : Text) → is_name y ≡ true → has_shape (Place.one Sort.expression) o ≡ true → Claim m o → Linked m (private_link false o y)
private_plain m o y n h c =
    plain_link m (private_link false o y) o refl
    (λ z f i d. let p = expression_is m o h c z f i object_need in expression_member i o (private_link false (wrapped i object_need o) y) (λ rest. 46 ∷ 35 ∷ (y ++ rest)) p refl refl (private_of_link y n false (wrapped i object_need o)) (λ rest. point_behind i o p (35 ∷ (y ++ rest))))
    (λ e z i. spine_next false (λ rest. 46 ∷ 35 ∷ (y ++ rest)) (spine_in_place i object_need object_bare o z (spine_of o z (subst (λ x. Claim x o) e c))) (λ rest s. access_link (private_of_link y n false (wrapped i object_need o) rest s)) (λ rest. refl))

private_set : (m : Mode) (o : Term) (y : Text) → is_name y ≡ true → has_shape (Place.one Sort.expression) o ≡ true → Claim m o → m ≡ on → Linked m (private_link true o y)
private_set m o y n h c q =
    set_link m (private_link true o y) o refl q
    (λ e z i. spine_next true (λ rest. 63 ∷ 46 ∷ 35 ∷ (y ++ rest)) (spine_in_place i object_need object_bare o z (spine_of o z (subst (λ x. Claim x o) e c))) (λ rest s. access_link (private_of_link y n true (wrapped i object_need o) rest s)) (λ rest. refl))
    (λ z f i. spine_first (λ rest. 63 ∷ 46 ∷ 35 ∷ (y ++ rest)) (object_at i o (expression_is m o h c z f i object_need)) (λ rest s. access_link (private_of_link y n true (wrapped i object_need o) rest s)) (λ rest. refl))

pub private_rule : LinkRule Kind.PrivateFieldExpression
private_rule m ([] ∷ []) (more o (more p none)) f c q =
    leaf Kind.PrivateIdentifier is_name refl refl (λ texts. refl) (λ z. Linked m (node Kind.PrivateFieldExpression ([] ∷ []) (two o z))) (λ y n. private_plain m o y n f.placed.0 c.0) p f.placed.1.0
private_rule m ((x ∷ xs) ∷ []) (more o (more p none)) f c q =
    leaf Kind.PrivateIdentifier is_name refl refl (λ texts. refl) (λ z. Linked m (node Kind.PrivateFieldExpression ((x ∷ xs) ∷ []) (two o z))) (λ y n.
    subst (λ z. Linked m (node Kind.PrivateFieldExpression (z ∷ []) (two o (private_of y)))) (sym (link_word x xs f.spoken.0)) (private_set m o y n f.placed.0 c.0 (q refl))) p f.placed.1.0
private_rule m texts ts f c q = differ (sym f.counted)

-- o[e]

computed_of : (e : Term) → InPlace true never e → (b : Bool) (w : Term) (rest : Text) → Access b w (computed_link b w (wrapped true never e)) ((if b then codes "?." else []) ++ 91 ∷ to true never e (93 ∷ rest)) rest
computed_of e p true w rest = computed_access (is_optional (sign_at flush (codes "?.") refl refl)) (left_bracket flush) (p.expr.expression flush refl) (right_bracket flush)
computed_of e p false w rest = computed_access not_optional (left_bracket flush) (p.expr.expression flush refl) (right_bracket flush)

computed_super : (e : Term) → InPlace true never e → (i : Bool) → Expr i (bare i (computed_link false super_of e)) (bare_to i (computed_link false super_of e))
computed_super e p true = super_stands true (computed_link false super_of (wrapped true never e)) (λ rest. 91 ∷ to true never e (93 ∷ rest)) refl (λ rest s. computed_of e p false super_of rest) refl (λ rest. refl)
computed_super e p false = super_stands false (computed_link false super_of (wrapped true never e)) (λ rest. 91 ∷ to true never e (93 ∷ rest)) refl (λ rest s. computed_of e p false super_of rest) refl (λ rest. refl)

computed_plain : (m : Mode) (o e : Term) → has_shape (Place.one Sort.object) o ≡ true → InPlace true never e → Claim m o → Linked m (computed_link false o e)
computed_plain m o e h k c =
    plain_link m (computed_link false o e) o refl
    (λ z f. elim (object_is m o h c z f) as (λ x. NodeExpr (computed_link false o e)) [
      | inl s ↦ λ i d. subst (λ x. Expr i (bare i (computed_link false x e)) (bare_to i (computed_link false x e))) (sym s) (computed_super e k i)
      | inr q ↦ λ i d. let p = q i object_need in expression_member i o (computed_link false (wrapped i object_need o) (wrapped true never e)) (λ rest. 91 ∷ to true never e (93 ∷ rest)) p refl refl (λ rest s. computed_of e k false (wrapped i object_need o) rest) (λ rest. refl)
    ])
    (λ s z i. spine_next false (λ rest. 91 ∷ to true never e (93 ∷ rest)) (spine_in_place i object_need object_bare o z (spine_of o z (subst (λ x. Claim x o) s c))) (λ rest s. access_link (computed_of e k false (wrapped i object_need o) rest)) (λ rest. refl))

computed_set : (m : Mode) (o e : Term) → has_shape (Place.one Sort.expression) o ≡ true → InPlace true never e → Claim m o → m ≡ on → Linked m (computed_link true o e)
computed_set m o e h k c q =
    set_link m (computed_link true o e) o refl q
    (λ s z i. spine_next true (λ rest. 63 ∷ 46 ∷ 91 ∷ to true never e (93 ∷ rest)) (spine_in_place i object_need object_bare o z (spine_of o z (subst (λ x. Claim x o) s c))) (λ rest s. access_link (computed_of e k true (wrapped i object_need o) rest)) (λ rest. refl))
    (λ z f i. spine_first (λ rest. 63 ∷ 46 ∷ 91 ∷ to true never e (93 ∷ rest)) (object_at i o (expression_is m o h c z f i object_need)) (λ rest s. access_link (computed_of e k true (wrapped i object_need o) rest)) (λ rest. refl))

pub computed_rule : LinkRule Kind.ComputedMemberExpression
computed_rule m ([] ∷ []) (more o (more e none)) f c q = computed_plain m o e f.placed.0 (in_place true never e f.placed.1.0 c.1.0) c.0
computed_rule m ((x ∷ xs) ∷ []) (more o (more e none)) f c q =
    subst (λ z. Linked m (node Kind.ComputedMemberExpression (z ∷ []) (two o e))) (sym (link_word x xs f.spoken.0)) (computed_set m o e f.placed.0 (in_place true never e f.placed.1.0 c.1.0) c.0 (q refl))
computed_rule m texts ts f c q = differ (sym f.counted)

-- ---- calls

callee_at : (i : Bool) (t : Term) → InPlace i (loose 19) t → At i (loose 19) 19 t
callee_at i t p = at_by 19 refl i (loose 19) t (loose_le 19 t) p

call_super : (ts : Terms) → ((rest : Text) → Arguments (each_wrapped true (loose 2) ts) (40 ∷ separated_to comma (each_to true (loose 2) ts) (41 ∷ rest)) rest) → (i : Bool) → Expr i (bare i (call_link false super_of ts)) (bare_to i (call_link false super_of ts))
call_super ts a true = of_stands (λ g rest e. super_call (word_at g (codes "super") refl refl refl) (a rest)) (opens_at (λ rest. refl))
call_super ts a false = of_stands (λ g rest e. super_call (word_at g (codes "super") refl refl refl) (a rest)) (opens_at (λ rest. refl))

call_plain : (m : Mode) (o : Term) (ts : Terms) → has_shape (Place.one Sort.object) o ≡ true → ((rest : Text) → Arguments (each_wrapped true (loose 2) ts) (40 ∷ separated_to comma (each_to true (loose 2) ts) (41 ∷ rest)) rest) → Claim m o → Linked m (call_link false o ts)
call_plain m o ts h a c =
    plain_link m (call_link false o ts) o refl
    (λ z f. elim (object_is m o h c z f) as (λ x. NodeExpr (call_link false o ts)) [
      | inl s ↦ λ i d. subst (λ x. Expr i (bare i (call_link false x ts)) (bare_to i (call_link false x ts))) (sym s) (call_super ts a i)
      | inr q ↦ λ i d. let p = callee_at i o (q i (loose 19)) in let high : 19 ≤ level (wrapped i (loose 19) o) = p.high in of_stands (λ g rest e. call p.high (p.stands g refl) (a rest)) (opens_tight (λ rest. 40 ∷ separated_to comma (each_to true (loose 2) ts) (41 ∷ rest)) (omega (arith, high)) p.placed.expr.opens)
    ])
    (λ s z i. spine_next false (λ rest. 40 ∷ separated_to comma (each_to true (loose 2) ts) (41 ∷ rest)) (spine_in_place i (loose 19) callee_bare o z (spine_of o z (subst (λ x. Claim x o) s c))) (λ rest s. argument_link not_optional (a rest)) (λ rest. refl))

call_set : (m : Mode) (o : Term) (ts : Terms) → has_shape (Place.one Sort.expression) o ≡ true → ((rest : Text) → Arguments (each_wrapped true (loose 2) ts) (40 ∷ separated_to comma (each_to true (loose 2) ts) (41 ∷ rest)) rest) → Claim m o → m ≡ on → Linked m (call_link true o ts)
call_set m o ts h a c q =
    set_link m (call_link true o ts) o refl q
    (λ s z i. spine_next true (λ rest. 63 ∷ 46 ∷ 40 ∷ separated_to comma (each_to true (loose 2) ts) (41 ∷ rest)) (spine_in_place i (loose 19) callee_bare o z (spine_of o z (subst (λ x. Claim x o) s c))) (λ rest s. argument_link (is_optional (sign_at flush (codes "?.") refl refl)) (a rest)) (λ rest. refl))
    (λ z f i. spine_first (λ rest. 63 ∷ 46 ∷ 40 ∷ separated_to comma (each_to true (loose 2) ts) (41 ∷ rest)) (callee_at i o (expression_is m o h c z f i (loose 19))) (λ rest s. argument_link (is_optional (sign_at flush (codes "?.") refl refl)) (a rest)) (λ rest. refl))

pub call_rule : LinkRule Kind.CallExpression
call_rule m ([] ∷ []) (more o (more (list ts) none)) f c q = call_plain m o ts f.placed.0 (λ rest. arguments_at ts f.placed.1.0 c.1.0 flush rest) c.0
call_rule m ((x ∷ xs) ∷ []) (more o (more (list ts) none)) f c q =
    subst (λ z. Linked m (node Kind.CallExpression (z ∷ []) (two o (list ts)))) (sym (link_word x xs f.spoken.0)) (call_set m o ts f.placed.0 (λ rest. arguments_at ts f.placed.1.0 c.1.0 flush rest) c.0 (q refl))
call_rule m (x ∷ []) (more o (more absent none)) f c q = differ (sym f.placed.1.0)
call_rule m (x ∷ []) (more o (more (node k texts ts) none)) f c q = differ (sym f.placed.1.0)
call_rule m texts ts f c q = differ (sym f.counted)
