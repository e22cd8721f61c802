-- What is claimed of each printed node, by the category of its kind.
use Rattle.std.proofs.Common.{◌≡◌, refl, sym, ◌∙◌, subst, ℕ, suc, zero, List, [], ◌∷◌, Bool, true, false, not, ◌&&◌, ◌||◌}
use Rattle.std.specs.Prelude.{if◌then◌else◌}
use Rattle.std.proofs.lemmas.Bool.{and_parts, not-true}
use Rattle.js_term.specs.Term.{Text, is_text, Term, absent, list, node, Terms, none, more}
use Rattle.js_term.specs.declared.kind.Kind.{Kind}
use Rattle.js_term.specs.Lexeme.{is_one_of}
use Rattle.js_term.specs.Kinds.{is_among}
use Rattle.js_term.specs.Node.{parenthesized_of}
use Rattle.js_syntax.specs.Lexical.{begins, begins_any}
use Rattle.js_syntax.specs.Sorts.{is_expression, plain_statements}
use Rattle.js_syntax.specs.Places.{places}
use Rattle.js_syntax.specs.Printable.{has_link}
use Rattle.js_syntax.specs.Levels.{level}
use Rattle.js_syntax.specs.Spelling.{Stands, parenthesized, Expression, single, Item, declarator, parameter, binding_property, target_property, property_item, Parameters, Body, Pattern, Defaulted, Target, DefaultedTarget, Spread, Statement, FunctionText, ClassText, ClassElement, Handler, Spine}
use Rattle.js_syntax.specs.Modules.{ModuleItem}
use Rattle.js_syntax.specs.Tokens.{SameLine}
use Rattle.print_layout.specs.Rows.{row, meets}
use Rattle.print_layout.specs.Needs.{is_looser, is_in}
use Rattle.print_layout.specs.Layout.{put, wrapped, wrapped_kids}
use Rattle.print_spelling.proofs.Openings.{is_fresh, sum_signs, is_opening}
use Rattle.print_spelling.proofs.Tokens.{differ, same_text, or_false, or_by, Lead, flush, spaced, led, stops, no_point, same_line, fresh_gap, left_parenthesis, right_parenthesis, opening_fresh}
use Rattle.print_spelling.proofs.Spread.{To, spread_to, held_to, rows_to, to}
use Rattle.print_spelling.proofs.Fits.{Fit}

-- a node without parentheses round itself, and its text
abbrev pub bare : Bool → Term → Term
bare i (node k texts ts) = node k texts (wrapped_kids i k texts 0 ts)
bare i t = t

abbrev pub bare_to : Bool → Term → To
bare_to i (node k texts ts) rest = spread_to (row i k texts ts) (rows_to i k texts 0 ts) rest
bare_to i t rest = rest

-- Kinds whose text may end in a number, so that no point may follow.
abbrev pub is_closed : Kind → Bool
is_closed Kind.NumericLiteral = false
is_closed Kind.SequenceExpression = false
is_closed Kind.AssignmentExpression = false
is_closed Kind.ArrowFunctionExpression = false
is_closed Kind.YieldExpression = false
is_closed Kind.ConditionalExpression = false
is_closed Kind.LogicalExpression = false
is_closed Kind.BinaryExpression = false
is_closed Kind.PrivateInExpression = false
is_closed Kind.UnaryExpression = false
is_closed Kind.AwaitExpression = false
is_closed Kind.UpdateExpression = false
is_closed k = true

abbrev pub closed : Term → Bool
closed (node k texts ts) = is_closed k
closed t = true

-- whether a text may stand behind one that may end in a number, or may not
abbrev pub ends : Text → Bool → Bool
ends rest is_shut = stops rest && (no_point rest || is_shut)

pub ends_stop : (rest : Text) (b : Bool) → ends rest b ≡ true → stops rest ≡ true
ends_stop rest b h = (and_parts (stops rest) _ h).0

pub through : (b : Bool) (rest : Text) → ends rest false ≡ true → ends rest b ≡ true
through b rest h = let both = and_parts (stops rest) (no_point rest || false) h in rw (both.0, or_by (no_point rest) false (λ e. e) (λ e. differ (sym e)) both.1) refl

pub open_ends : (rest : Text) → ends rest false ≡ true → no_point rest ≡ true
open_ends rest h = or_by (no_point rest) false (λ e. e) (λ e. differ (sym e)) (and_parts (stops rest) (no_point rest || false) h).1

-- How the text of an expression begins. One of level 16 or more begins with the sign of a sum only where it is seen.
pub record Opens (u : Term) (f : To) : Type 0 where
  pub fresh : (rest : Text) → is_fresh (f rest) ≡ true
  pub signless : (op : Text) → is_one_of op sum_signs ≡ true → meets op u ≡ false → is_looser 16 u ≡ false → (rest : Text) → begins op (f rest) ≡ false

none_of : (op a : Text) (xs : List Text) → begins_any xs a ≡ false → is_one_of op xs ≡ true → begins op a ≡ false
none_of op a [] h e = differ (sym e)
none_of op a (x ∷ xs) h e =
    let both = or_false (begins x a) (begins_any xs a) h in
    or_by (is_text op x) (is_one_of op xs) (λ s. subst (λ z. begins z a ≡ false) (sym (same_text op x s)) both.0) (λ k. none_of op a xs both.1 k) e

pub opens_at : {u : Term} {f : To} → ((rest : Text) → is_opening (f rest) ≡ true) → Opens u f
opens_at {f = f} h = record { fresh = λ rest. opening_fresh (f rest) (h rest); signless = λ op o m l rest. none_of op (f rest) sum_signs (not-true (begins_any sum_signs (f rest)) (and_parts (is_fresh (f rest)) _ (h rest)).1) o }

pub spaced_line : {u : Term} {f : To} → Opens u f → (rest : Text) → SameLine (32 ∷ f rest)
spaced_line {f = f} o rest = same_line spaced (f rest) refl (fresh_gap (f rest) (o.fresh rest))

-- an expression as it is printed
pub record Expr (i : Bool) (u : Term) (f : To) : Type 0 where
  pub expression : (g : Lead) {rest : Text} → ends rest (closed u) ≡ true → Expression i u (led g (f rest)) rest
  pub stands : is_looser 2 u ≡ false → (g : Lead) {rest : Text} → ends rest (closed u) ≡ true → Stands i (level u) u (led g (f rest)) rest
  pub opens : Opens u f

-- one of level 2 or more
pub of_stands : {i : Bool} {u : Term} {f : To} → ((g : Lead) (rest : Text) → ends rest (closed u) ≡ true → Stands i (level u) u (led g (f rest)) rest) → Opens u f → Expr i u f
of_stands s h = record { expression = λ g {rest} e. single (s g rest e); stands = λ l g {rest} e. s g rest e; opens = h }

abbrev pub NodeExpr : Term → Type 0
NodeExpr (node k texts ts) = (i : Bool) → not i && is_in k texts ≡ false → Expr i (bare i (node k texts ts)) (bare_to i (node k texts ts))
NodeExpr t = Unit {0}

-- a chain's spine from its first link on
pub record SpineExpr (i : Bool) (u : Term) (f : To) : Type 0 where
  pub spine : (g : Lead) {rest : Text} → stops rest ≡ true → Spine i u (led g (f rest)) rest
  pub opens : (rest : Text) → is_fresh (f rest) ≡ true
  pub signless : (op : Text) → is_one_of op sum_signs ≡ true → (rest : Text) → begins op (f rest) ≡ false

abbrev pub NodeSpine : Term → Type 0
NodeSpine (node k texts ts) = (i : Bool) → SpineExpr i (bare i (node k texts ts)) (bare_to i (node k texts ts))
NodeSpine t = Unit {0}

-- A part is off the spine of a chain, on it, or the template of a tag, of which its own parts alone are claimed.
pub data Mode : Type 0 where
  off : Mode
  on : Mode
  tagged : Mode

abbrev pub mode_inside : Mode → Kind → ℕ → Mode
mode_inside m Kind.ChainExpression n = on
mode_inside m Kind.CallExpression zero = m
mode_inside m Kind.StaticMemberExpression zero = m
mode_inside m Kind.ComputedMemberExpression zero = m
mode_inside m Kind.PrivateFieldExpression zero = m
mode_inside m Kind.TaggedTemplateExpression (suc n) = tagged
mode_inside m k n = off

-- Off the spine an expression has no optional links.
abbrev pub Linked : Mode → Term → Type 0
Linked off t = NodeExpr t
Linked on t = (has_link t ≡ false → NodeExpr t) × (has_link t ≡ true → NodeSpine t)
Linked tagged t = Unit {0}

pub unlinked : (m : Mode) (t : Term) → has_link t ≡ false → NodeExpr t → Linked m t
unlinked on t h e = (λ z. e, λ z. differ (sym z ∙ h))
unlinked off t h e = e
unlinked tagged t h e = tt

pub data Category : Type 0 where
  an_expression : Category
  a_statement : Category
  a_function : Category
  a_class : Category
  a_pattern : Category
  a_defaulted : Category
  a_binding_property : Category
  a_target : Category
  a_defaulted_target : Category
  a_target_property : Category
  a_declarator : Category
  a_parameter : Category
  parameters : Category
  a_body : Category
  an_element : Category
  a_handler : Category
  a_spread : Category
  a_property : Category
  an_item : Category
  another : Category

abbrev pub other_category : Kind → Category
other_category Kind.FunctionDeclaration = a_function
other_category Kind.ClassDeclaration = a_class
other_category Kind.BindingIdentifier = a_pattern
other_category Kind.ObjectPattern = a_pattern
other_category Kind.ArrayPattern = a_pattern
other_category Kind.AssignmentPattern = a_defaulted
other_category Kind.BindingProperty = a_binding_property
other_category Kind.ArrayAssignmentTarget = a_target
other_category Kind.ObjectAssignmentTarget = a_target
other_category Kind.AssignmentTargetWithDefault = a_defaulted_target
other_category Kind.AssignmentTargetProperty = a_target_property
other_category Kind.VariableDeclarator = a_declarator
other_category Kind.FormalParameter = a_parameter
other_category Kind.FormalParameters = parameters
other_category Kind.FunctionBody = a_body
other_category Kind.StaticBlock = an_element
other_category Kind.MethodDefinition = an_element
other_category Kind.PropertyDefinition = an_element
other_category Kind.CatchClause = a_handler
other_category Kind.SpreadElement = a_spread
other_category Kind.ObjectProperty = a_property
other_category Kind.ImportDeclaration = an_item
other_category Kind.ExportAllDeclaration = an_item
other_category Kind.ExportNamedDeclaration = an_item
other_category Kind.ExportFromDeclaration = an_item
other_category Kind.ExportDeclaration = an_item
other_category Kind.ExportDefaultDeclaration = an_item
other_category k = another

abbrev pub category : Kind → Category
category k = if is_expression k then an_expression else if is_among k plain_statements then a_statement else other_category k

-- a node of a category, before whatever stands behind it
abbrev pub Meaning : Mode → Category → Term → Type 0
Meaning m an_expression t = Linked m t
Meaning m a_statement t = (g : Lead) (rest : Text) → Statement (bare true t) (led g (bare_to true t rest)) rest
Meaning m a_function t = (g : Lead) (rest : Text) → FunctionText Kind.FunctionDeclaration (bare true t) (led g (bare_to true t rest)) rest
Meaning m a_class t = (g : Lead) (rest : Text) → ClassText Kind.ClassDeclaration (bare true t) (led g (bare_to true t rest)) rest
Meaning m a_pattern t = (g : Lead) (rest : Text) → stops rest ≡ true → Pattern (bare true t) (led g (bare_to true t rest)) rest
Meaning m a_defaulted t = (g : Lead) (rest : Text) → ends rest false ≡ true → Defaulted (bare true t) (led g (bare_to true t rest)) rest
Meaning m a_binding_property t = (g : Lead) (rest : Text) → ends rest false ≡ true → Item binding_property (bare true t) (led g (bare_to true t rest)) rest
Meaning m a_target t = (i : Bool) (g : Lead) (rest : Text) → Target i (bare i t) (led g (bare_to i t rest)) rest
Meaning m a_defaulted_target t = (g : Lead) (rest : Text) → ends rest false ≡ true → DefaultedTarget (bare true t) (led g (bare_to true t rest)) rest
Meaning m a_target_property t = (g : Lead) (rest : Text) → ends rest false ≡ true → Item target_property (bare true t) (led g (bare_to true t rest)) rest
Meaning m a_declarator t = (i : Bool) (g : Lead) (rest : Text) → ends rest false ≡ true → Item (declarator i) (bare i t) (led g (bare_to i t rest)) rest
Meaning m a_parameter t = (g : Lead) (rest : Text) → ends rest false ≡ true → Item parameter (bare true t) (led g (bare_to true t rest)) rest
Meaning m parameters t = (trails : Bool) (g : Lead) (rest : Text) → Parameters trails (bare true t) (led g (bare_to true t rest)) rest
Meaning m a_body t = (g : Lead) (rest : Text) → Body (bare true t) (led g (bare_to true t rest)) rest
Meaning m an_element t = (g : Lead) (rest : Text) → ClassElement (bare true t) (led g (bare_to true t rest)) rest
Meaning m a_handler t = (g : Lead) (rest : Text) → Handler (bare true t) (led g (bare_to true t rest)) rest
Meaning m a_spread t = (g : Lead) (rest : Text) → ends rest false ≡ true → Spread (bare true t) (led g (bare_to true t rest)) rest
Meaning m a_property t = (g : Lead) (rest : Text) → ends rest false ≡ true → Item property_item (bare true t) (led g (bare_to true t rest)) rest
Meaning m an_item t = (g : Lead) (rest : Text) → ModuleItem (bare true t) (led g (bare_to true t rest)) rest
Meaning m another t = Unit {0}

-- The claim of a part, with those of its own parts.
abbrev mutual
  pub Claim : Mode → Term → Type 0
  Claim m absent = Unit {0}
  Claim m (list ts) = Each m ts
  Claim m (node k texts ts) = Meaning m (category k) (node k texts ts) × Kids (mode_inside m k) 0 ts

  pub Each : Mode → Terms → Type 0
  Each m none = Unit {0}
  Each m (more t ts) = Claim m t × Each m ts

  pub Kids : (ℕ → Mode) → ℕ → Terms → Type 0
  Kids around n none = Unit {0}
  Kids around n (more t ts) = Claim (around n) t × Kids around (suc n) ts

-- what is shown for each kind; for an expression that is no link of a chain
abbrev pub Rule : Kind → Type 0
Rule k = (m : Mode) (texts : List Text) (ts : Terms) → Fit (places k texts) k texts ts → Kids (mode_inside m k) 0 ts → Meaning m (category k) (node k texts ts)

abbrev pub ExpressionRule : Kind → Type 0
ExpressionRule k = (texts : List Text) (ts : Terms) → Fit (places k texts) k texts ts → Kids (λ n. off) 0 ts → NodeExpr (node k texts ts)

-- ---- a node in its place, in parentheses or not

never_in : (j : Bool) (b : Bool) → not (j || true) && b ≡ false
never_in true b = refl
never_in false b = refl

shifted : (j : Bool) {u : Term} {a b : Text} → Expression (j || true) u a b → Expression true u a b
shifted true x = x
shifted false x = x

pub held : (i : Bool) (need : Term → Bool) (k : Kind) (texts : List Text) (ts : Terms) → NodeExpr (node k texts ts) → Expr i (wrapped i need (node k texts ts)) (to i need (node k texts ts))
held i need k texts ts f = by (need (node k texts ts)) (not i && is_in k texts) refl
  where
    t : Term
    t = node k texts ts

    in_brackets : Expr i (parenthesized_of (bare (i || true) t)) (held_to true (bare_to (i || true) t))
    in_brackets =
        let inner : Expr (i || true) (bare (i || true) t) (bare_to (i || true) t) = f (i || true) (never_in i (is_in k texts)) in
        of_stands (λ g rest e. parenthesized (left_parenthesis g) (shifted i (inner.expression flush {rest = 41 ∷ rest} refl)) (right_parenthesis flush)) (opens_at (λ rest. refl))

    plain : (j : Bool) → not j && is_in k texts ≡ false → Expr j (bare (j || false) t) (bare_to (j || false) t)
    plain true e = f true e
    plain false e = f false e

    by : (b c : Bool) → not i && is_in k texts ≡ c → Expr i (put (b || c) (bare (i || (b || c)) t)) (held_to (b || c) (bare_to (i || (b || c)) t))
    by true c e = in_brackets
    by false true e = in_brackets
    by false false e = plain i e
