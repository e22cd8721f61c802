-- Lists of statements, blocks, directives and bodies of functions (ECMAScript 11.2.1, 14.2, 15.2).
use Rattle.std.proofs.Common.{◌≡◌, refl, sym, ap, subst, ℕ, List, [], ◌∷◌, ◌++◌, append_assoc, Bool, true, false, ◌||◌}
use Rattle.std.specs.Prelude.{Option, None, Some, is_some, option_map, nat_eq, if◌then◌else◌}
use Rattle.std.proofs.lemmas.Bool.{and_parts, eqb-true}
use Rattle.js_term.specs.Term.{Text, Term, absent, list, node, Terms, none, more}
use Rattle.js_term.specs.declared.kind.Kind.{Kind}
use Rattle.js_term.specs.Kinds.{is_among}
use Rattle.js_term.specs.Lexeme.{is_quote}
use Rattle.js_syntax.specs.Lexical.{begins_gap, decoded, is_raw_string, without_last, passes}
use Rattle.js_syntax.specs.Tokens.{Token, string, is_string}
use Rattle.js_syntax.specs.Edges.{is_unnamed, is_string_statement, is_string_kind, has_kind}
use Rattle.js_syntax.specs.Sorts.{Sort, Place, takes, is_expression, plain_statements}
use Rattle.js_syntax.specs.Printable.{has_shape}
use Rattle.js_syntax.specs.Spelling.{Statement, Statements, no_statements, next_statement, declaration, function_declaration, class_declaration, block_statement, Block, block, Embedded, embedded, body, Directives, no_directives, directive, written}
use Rattle.print_layout.specs.Rows.{blank}
use Rattle.print_layout.specs.Needs.{never, needs, leads, is_opener, is_held}
use Rattle.print_layout.specs.Layout.{put, wrapped, each_wrapped}
use Rattle.print_spelling.proofs.Tokens.{differ, or_by, Lead, flush, spaced, led, token_of, left_brace, right_brace, semicolon_at}
use Rattle.print_spelling.proofs.Spread.{to, each_to, separated_to}
use Rattle.print_spelling.proofs.Fits.{Fit, fit_of, taken_by, list_shape, each_shaped}
use Rattle.print_spelling.proofs.Shapes.{only, leaf}
use Rattle.print_spelling.proofs.Claims.{bare, bare_to, Claim, Each, Kids, off, Rule, Meaning, a_statement, an_expression, other_category}
use Rattle.print_spelling.proofs.Lists.{wrapped_present, one_whole}

-- ---- statements in their places

abbrev pub StatementAt : Term → Type 0
StatementAt t = (g : Lead) (rest : Text) → Statement (wrapped true never t) (led g (to true never t rest)) rest

not_expression : (k : Kind) → is_among k plain_statements ≡ true → is_expression k ≡ false
not_expression Kind.BlockStatement h = refl
not_expression Kind.BreakStatement h = refl
not_expression Kind.ContinueStatement h = refl
not_expression Kind.DebuggerStatement h = refl
not_expression Kind.DoWhileStatement h = refl
not_expression Kind.EmptyStatement h = refl
not_expression Kind.ExpressionStatement h = refl
not_expression Kind.ForInStatement h = refl
not_expression Kind.ForOfStatement h = refl
not_expression Kind.ForStatement h = refl
not_expression Kind.IfStatement h = refl
not_expression Kind.LabeledStatement h = refl
not_expression Kind.ReturnStatement h = refl
not_expression Kind.SwitchStatement h = refl
not_expression Kind.ThrowStatement h = refl
not_expression Kind.TryStatement h = refl
not_expression Kind.WhileStatement h = refl
not_expression Kind.VariableDeclaration h = refl
not_expression k h = differ (sym h)

plain_statement : (k : Kind) (texts : List Text) (ts : Terms) → is_among k plain_statements ≡ true → Claim off (node k texts ts) → StatementAt (node k texts ts)
plain_statement k texts ts h c =
    subst (λ b. Meaning off (if b then a_statement else other_category k) (node k texts ts)) h
    (subst (λ b. Meaning off (if b then an_expression else if is_among k plain_statements then a_statement else other_category k) (node k texts ts)) (not_expression k h) c.0)

data StatementKind (k : Kind) : Type 0 where
  function_kind : k ≡ Kind.FunctionDeclaration → StatementKind k
  class_kind : k ≡ Kind.ClassDeclaration → StatementKind k
  plain_kind : is_among k plain_statements ≡ true → StatementKind k

statement_kind : (k : Kind) → takes Sort.statement k ≡ true → StatementKind k
statement_kind Kind.FunctionDeclaration h = function_kind refl
statement_kind Kind.ClassDeclaration h = class_kind refl
statement_kind k h = plain_kind h

-- a declaration has a name
pub named_function : (ts : Terms) (texts : List Text) → Fit (Place.one (Sort.only Kind.BindingIdentifier) ∷ Place.one (Sort.only Kind.FormalParameters) ∷ Place.one (Sort.only Kind.FunctionBody) ∷ []) Kind.FunctionDeclaration texts ts → is_unnamed (wrapped true never (node Kind.FunctionDeclaration texts ts)) ≡ false
named_function (more id ts) texts f = rw (wrapped_present true never id (one_whole (Sort.only Kind.BindingIdentifier) id f.placed.0)) refl
named_function none [] f = differ (sym f.counted)
named_function none (x ∷ []) f = differ (sym f.counted)
named_function none (x ∷ y ∷ []) f = differ (sym f.counted)
named_function none (x ∷ y ∷ z ∷ zs) f = differ (sym f.counted)

pub named_class : (ts : Terms) (texts : List Text) → Fit (Place.one (Sort.only Kind.BindingIdentifier) ∷ Place.optional Sort.expression ∷ Place.one (Sort.only Kind.ClassBody) ∷ []) Kind.ClassDeclaration texts ts → is_unnamed (wrapped true never (node Kind.ClassDeclaration texts ts)) ≡ false
named_class (more id ts) texts f = rw (wrapped_present true never id (one_whole (Sort.only Kind.BindingIdentifier) id f.placed.0)) refl
named_class none [] f = differ (sym f.counted)
named_class none (x ∷ xs) f = differ (sym f.counted)

pub statement_by : (k : Kind) (texts : List Text) (ts : Terms) → has_shape (Place.one Sort.statement) (node k texts ts) ≡ true → Claim off (node k texts ts) → StatementAt (node k texts ts)
statement_by k texts ts h c = elim (statement_kind k (taken_by Sort.statement k texts ts h).taken) as (λ z. StatementAt (node k texts ts)) [
  | function_kind e ↦ subst (λ j. has_shape (Place.one Sort.statement) (node j texts ts) ≡ true → Claim off (node j texts ts) → StatementAt (node j texts ts)) (sym e) (λ h c g rest. declaration (function_declaration (named_function ts texts (fit_of Sort.statement Kind.FunctionDeclaration texts ts refl h).1) (c.0 g rest))) h c
  | class_kind e ↦ subst (λ j. has_shape (Place.one Sort.statement) (node j texts ts) ≡ true → Claim off (node j texts ts) → StatementAt (node j texts ts)) (sym e) (λ h c g rest. declaration (class_declaration (named_class ts texts (fit_of Sort.statement Kind.ClassDeclaration texts ts refl h).1) (c.0 g rest))) h c
  | plain_kind p ↦ plain_statement k texts ts p c
]

pub statement_at : (t : Term) → has_shape (Place.one Sort.statement) t ≡ true → Claim off t → StatementAt t
statement_at absent h c = differ (sym h)
statement_at (list ts) h c = differ (sym h)
statement_at (node k texts ts) h c = statement_by k texts ts h c

pub embedded_at : (t : Term) → has_shape (Place.one Sort.body) t ≡ true → Claim off t → (g : Lead) (rest : Text) → Embedded (wrapped true never t) (led g (to true never t rest)) rest
embedded_at absent h c g rest = differ (sym h)
embedded_at (list ts) h c g rest = differ (sym h)
embedded_at (node k texts ts) h c g rest = let t = taken_by Sort.body k texts ts h in embedded (rw (t.taken, t.suited) refl) (plain_statement k texts ts t.taken c g rest)

-- ---- lists of statements

pub statements_at : (t : Term) (ts : Terms) → each_shaped (Place.one Sort.statement) (more t ts) ≡ true → Each off (more t ts) → (g : Lead) (rest : Text) → Statements (each_wrapped true never (more t ts)) (led g (separated_to blank (each_to true never (more t ts)) rest)) rest
statements_at t none h c g rest = next_statement (statement_at t (and_parts (has_shape (Place.one Sort.statement) t) true h).0 c.0 g rest) no_statements
statements_at t (more u us) h c g rest =
    let both = and_parts (has_shape (Place.one Sort.statement) t) (each_shaped (Place.one Sort.statement) (more u us)) h in
    next_statement (statement_at t both.0 c.0 g (32 ∷ separated_to blank (each_to true never (more u us)) rest)) (statements_at u us both.1 c.1 spaced rest)

block_with : (texts : List Text) (ts : Terms) → Fit (Place.many Sort.statement ∷ []) Kind.BlockStatement texts ts → Kids (λ n. off) 0 ts → (g : Lead) (rest : Text) → Block (bare true (node Kind.BlockStatement texts ts)) (led g (bare_to true (node Kind.BlockStatement texts ts) rest)) rest
block_with [] (more (list none) none) f c g rest = block (left_brace g) no_statements (right_brace flush)
block_with [] (more (list (more t ts)) none) f c g rest = block (left_brace g) (statements_at t ts (list_shape (Place.many Sort.statement) (more t ts) f.placed.0).1 c.0 spaced (32 ∷ 125 ∷ rest)) (right_brace spaced)
block_with [] (more absent none) f c g rest = differ (sym f.placed.0)
block_with [] (more (node k xs us) none) f c g rest = differ (sym f.placed.0)
block_with texts ts f c g rest = differ (sym f.counted)

pub block_at : (t : Term) → has_shape (Place.one (Sort.only Kind.BlockStatement)) t ≡ true → Claim off t → (g : Lead) (rest : Text) → Block (wrapped true never t) (led g (to true never t rest)) rest
block_at t h c = only Kind.BlockStatement (λ z. Claim off z → (g : Lead) (rest : Text) → Block (wrapped true never z) (led g (to true never z rest)) rest) (λ texts ts h c. block_with texts ts (fit_of (Sort.only Kind.BlockStatement) Kind.BlockStatement texts ts refl h).1 c.1) t h c

pub block_rule : Rule Kind.BlockStatement
block_rule m texts ts f c g rest = block_statement (block_with texts ts f c g rest)

-- ---- directives: a string as it is written

-- a text that ends in the quote, in front of which stands what passes
cut_last : (quote : ℕ) (test : Text → Bool) (s : Text) → passes test (without_last quote s) ≡ true → (x : Text) × (s ≡ x ++ quote ∷ []) × (test x ≡ true)
cut_last quote test [] h = differ (sym h)
cut_last quote test (c ∷ []) h = by (nat_eq c quote) refl h
  where
    by : (b : Bool) → nat_eq c quote ≡ b → passes test (if b then Some [] else None) ≡ true → (x : Text) × (c ∷ [] ≡ x ++ quote ∷ []) × (test x ≡ true)
    by true e h = ([], ap (λ z. z ∷ []) (eqb-true c quote e), h)
    by false e h = differ (sym h)
cut_last quote test (c ∷ d ∷ s) h =
    let inner = cut_last quote (λ x. test (c ∷ x)) (d ∷ s) (mapped (without_last quote (d ∷ s)) h) in
    (c ∷ inner.0, ap (λ z. c ∷ z) inner.1, inner.2)
  where
    mapped : (o : Option Text) → passes test (option_map (λ x. c ∷ x) o) ≡ true → passes (λ x. test (c ∷ x)) o ≡ true
    mapped None h = h
    mapped (Some x) h = h

quote_gap : (quote : ℕ) (rest : Text) → is_quote quote ≡ true → begins_gap (quote ∷ rest) ≡ false
quote_gap quote rest h = or_by (nat_eq quote 39) (nat_eq quote 34) (λ e. subst (λ z. begins_gap (z ∷ rest) ≡ false) (sym (eqb-true quote 39 e)) refl) (λ e. subst (λ z. begins_gap (z ∷ rest) ≡ false) (sym (eqb-true quote 34 e)) refl) h

some_value : (o : Option Text) → is_some o ≡ true → (v : Text) × (o ≡ Some v)
some_value None h = differ (sym h)
some_value (Some v) h = (v, refl)

pub raw_at : (raw : Text) → is_raw_string raw ≡ true → (g : Lead) (rest : Text) → (v : Text) × Token (led g (raw ++ rest)) (string raw v) rest
raw_at [] h g rest = differ (sym h)
raw_at (quote ∷ s) h g rest =
    let both = and_parts (is_quote quote) (passes (λ x. is_some (decoded quote x)) (without_last quote s)) h in
    let x = cut_last quote (λ x. is_some (decoded quote x)) s both.1 in
    let v = some_value (decoded quote x.0) x.2 in
    (v.0, subst (λ z. Token (led g (quote ∷ (z ++ rest))) (string (quote ∷ z) v.0) rest) (sym x.1) (subst (λ a. Token (led g (quote ∷ a)) (string (quote ∷ (x.0 ++ quote ∷ [])) v.0) rest) (sym (append_assoc x.0 (quote ∷ []) rest)) (token_of g (quote_gap quote (x.0 ++ quote ∷ rest) both.0) (is_string x.0 both.0 v.1))))

-- the directives of a body, with blanks between, or of a module, with line feeds
pub directives_at : (separator : Text) (l : Lead) → ((a : Text) → separator ++ a ≡ led l a) → (t : Term) (ts : Terms) → each_shaped (Place.one (Sort.only Kind.Directive)) (more t ts) ≡ true → (g : Lead) (rest : Text) → Directives (each_wrapped true never (more t ts)) (led g (separated_to separator (each_to true never (more t ts)) rest)) rest
directives_at separator l e t none h g rest =
    leaf Kind.Directive is_raw_string refl refl (λ texts. refl) (λ z. Directives (each_wrapped true never (more z none)) (led g (separated_to separator (each_to true never (more z none)) rest)) rest) (λ x r. directive (raw_at x r g (59 ∷ rest)).1 (written (semicolon_at flush)) no_directives) t (and_parts (has_shape (Place.one (Sort.only Kind.Directive)) t) true h).0
directives_at separator l e t (more u us) h g rest =
    let both = and_parts (has_shape (Place.one (Sort.only Kind.Directive)) t) (each_shaped (Place.one (Sort.only Kind.Directive)) (more u us)) h in
    leaf Kind.Directive is_raw_string refl refl (λ texts. refl) (λ z. Directives (each_wrapped true never (more z (more u us))) (led g (separated_to separator (each_to true never (more z (more u us))) rest)) rest) (λ x r.
    let tail : Text = separated_to separator (each_to true never (more u us)) rest in
    subst (λ a. Directives (each_wrapped true never (more (node Kind.Directive (x ∷ []) none) (more u us))) (led g (x ++ 59 ∷ a)) rest) (sym (e tail))
    (directive (raw_at x r g (59 ∷ led l tail)).1 (written (semicolon_at flush)) (directives_at separator l e u us both.1 l rest))) t both.0

-- ---- no statement is a string alone

string_held : (need : Term → Bool) → ((t : Term) → has_kind is_string_kind t ≡ true → need t ≡ true) → (t : Term) → has_kind is_string_kind (wrapped true need t) ≡ false
string_held need f absent = refl
string_held need f (list ts) = refl
string_held need f (node k texts ts) = by (is_string_kind k) refl
  where
    put_false : (b : Bool) → is_string_kind k ≡ false → has_kind is_string_kind (put b (bare (true || b) (node k texts ts))) ≡ false
    put_false true e = refl
    put_false false e = e

    by : (b : Bool) → is_string_kind k ≡ b → has_kind is_string_kind (wrapped true need (node k texts ts)) ≡ false
    by true e = rw (f (node k texts ts) e) refl
    by false e = put_false (is_held true need k texts ts) e

string_need : (texts : List Text) (t : Term) → has_kind is_string_kind t ≡ true → needs Kind.ExpressionStatement texts 0 t ≡ true
string_need texts t h = or_right (leads is_opener never t) (has_kind is_string_kind t) h
  where
    or_right : (a b : Bool) → b ≡ true → (a || b) || false ≡ true
    or_right true b h = refl
    or_right false b h = rw h refl

pub no_string : (t : Term) → is_string_statement (wrapped true never t) ≡ false
no_string absent = refl
no_string (list ts) = refl
no_string (node Kind.ExpressionStatement texts none) = refl
no_string (node Kind.ExpressionStatement texts (more e ts)) = string_held (needs Kind.ExpressionStatement texts 0) (string_need texts) e
no_string (node k texts ts) = refl

-- ---- { ds ss }

pub body_rule : Rule Kind.FunctionBody
body_rule m [] (more (list none) (more (list none) none)) f c g rest = body {ds = []} {ss = []} refl (left_brace g) no_directives no_statements (right_brace flush)
body_rule m [] (more (list none) (more (list (more t ts)) none)) f c g rest =
    body {ds = []} {ss = each_wrapped true never (more t ts)} (no_string t) (left_brace g) no_directives (statements_at t ts (list_shape (Place.many Sort.statement) (more t ts) f.placed.1.0).1 c.1.0 spaced (32 ∷ 125 ∷ rest)) (right_brace spaced)
body_rule m [] (more (list (more d ds)) (more (list none) none)) f c g rest =
    body {ds = each_wrapped true never (more d ds)} {ss = []} refl (left_brace g) (directives_at blank spaced (λ a. refl) d ds (list_shape (Place.many (Sort.only Kind.Directive)) (more d ds) f.placed.0).1 spaced (32 ∷ 125 ∷ rest)) no_statements (right_brace spaced)
body_rule m [] (more (list (more d ds)) (more (list (more t ts)) none)) f c g rest =
    body {ds = each_wrapped true never (more d ds)} {ss = each_wrapped true never (more t ts)} (no_string t) (left_brace g) (directives_at blank spaced (λ a. refl) d ds (list_shape (Place.many (Sort.only Kind.Directive)) (more d ds) f.placed.0).1 spaced _) (statements_at t ts (list_shape (Place.many Sort.statement) (more t ts) f.placed.1.0).1 c.1.0 spaced (32 ∷ 125 ∷ rest)) (right_brace spaced)
body_rule m [] (more absent (more t none)) f c g rest = differ (sym f.placed.0)
body_rule m [] (more (node k xs us) (more t none)) f c g rest = differ (sym f.placed.0)
body_rule m [] (more (list ds) (more absent none)) f c g rest = differ (sym f.placed.1.0)
body_rule m [] (more (list ds) (more (node k xs us) none)) f c g rest = differ (sym f.placed.1.0)
body_rule m texts ts f c g rest = differ (sym f.counted)
