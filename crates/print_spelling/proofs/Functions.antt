-- Functions, arrows and the functions of methods (ECMAScript 15.2 to 15.4, 15.8).
use Rattle.std.proofs.Common.{◌≡◌, refl, sym, subst, List, [], ◌∷◌, ◌++◌, Bool, true, false, ◌&&◌, ◌||◌, inl, inr, ◌⊎◌}
use Rattle.std.specs.Prelude.{codes}
use Rattle.js_term.specs.Term.{Text, is_text, Term, absent, list, node, Terms, none, more, flag}
use Rattle.js_term.specs.declared.kind.Kind.{Kind}
use Rattle.js_term.specs.Lexeme.{is_one_of}
use Rattle.js_syntax.specs.Tokens.{signs, opens_with, is_longest}
use Rattle.js_term.specs.Node.{binding_of}
use Rattle.js_syntax.specs.Lexical.{begins_gap}
use Rattle.js_syntax.specs.Texts as texts
use Rattle.js_syntax.specs.Texts.{is_free_name}
use Rattle.js_syntax.specs.Parts.{is_set, is_present}
use Rattle.js_syntax.specs.Nodes.{function_node}
use Rattle.js_syntax.specs.Sorts.{Sort, Place, is_expression, takes}
use Rattle.js_syntax.specs.Places.{places, function_places}
use Rattle.js_syntax.specs.Printable.{has_shape}
use Rattle.js_syntax.specs.Spelling.{Async, no_async, with_async, no_star, with_star, Naming, unnamed, named, Parameters, Body, FunctionText, function, ArrowHead, arrow_parameters, arrow_async, ArrowBody, block_body, concise_body, arrow, function_expression}
use Rattle.print_layout.specs.Needs.{never, is_looser, leads}
use Rattle.js_syntax.specs.Edges.{is_brace_kind}
use Rattle.print_layout.specs.Layout.{wrapped}
use Rattle.print_spelling.proofs.Openings.{is_opening}
use Rattle.print_spelling.proofs.Tokens.{differ, same_text, or_false, or_by, Lead, flush, spaced, led, stops, sign_at, word_at, name_at, same_line, opening_gap}
use Rattle.print_spelling.proofs.Spread.{To, to}
use Rattle.print_spelling.proofs.Fits.{Fit, fit_of, taken_by}
use Rattle.print_spelling.proofs.Shapes.{only, leaf}
use Rattle.print_spelling.proofs.Claims.{bare, bare_to, ends, through, opens_at, NodeExpr, ExpressionRule, of_stands, Claim, Kids, off}
use Rattle.print_spelling.proofs.Placed.{in_place_node, expression_meaning, loose_le, at_by}
use Rattle.print_spelling.proofs.Fronts.{opens_body}
use Rattle.print_spelling.proofs.Leaves.{free_parts}

-- ---- parameters and bodies

pub parameters_at : (t : Term) → has_shape (Place.one (Sort.only Kind.FormalParameters)) t ≡ true → Claim off t → (trails : Bool) (g : Lead) (rest : Text) → Parameters trails (wrapped true never t) (led g (to true never t rest)) rest
parameters_at t h c = only Kind.FormalParameters (λ z. Claim off z → (trails : Bool) (g : Lead) (rest : Text) → Parameters trails (wrapped true never z) (led g (to true never z rest)) rest) (λ xs ts h c. c.0) t h c

pub parameters_open : (t : Term) → has_shape (Place.one (Sort.only Kind.FormalParameters)) t ≡ true → (rest : Text) → is_opening (to true never t rest) ≡ true
parameters_open t h = only Kind.FormalParameters (λ z. (rest : Text) → is_opening (to true never z rest) ≡ true) (λ xs ts h rest. refl) t h

parameters_stop : (t : Term) → has_shape (Place.one (Sort.only Kind.FormalParameters)) t ≡ true → (rest : Text) → stops (to true never t rest) ≡ true
parameters_stop t h = only Kind.FormalParameters (λ z. (rest : Text) → stops (to true never z rest) ≡ true) (λ xs ts h rest. refl) t h

pub parameters_end : (t : Term) → has_shape (Place.one (Sort.only Kind.FormalParameters)) t ≡ true → (rest : Text) → ends (to true never t rest) false ≡ true
parameters_end t h = only Kind.FormalParameters (λ z. (rest : Text) → ends (to true never z rest) false ≡ true) (λ xs ts h rest. refl) t h

-- whether a `*` before such a text is a sign
abbrev starred : Text → Bool
starred a = is_one_of (codes "*") signs && (opens_with (codes "*") (42 ∷ a) && is_longest (codes "*") (42 ∷ a))

parameters_starred : (t : Term) → has_shape (Place.one (Sort.only Kind.FormalParameters)) t ≡ true → (rest : Text) → starred (to true never t rest) ≡ true
parameters_starred t h = only Kind.FormalParameters (λ z. (rest : Text) → starred (to true never z rest) ≡ true) (λ xs ts h rest. refl) t h

pub body_at : (t : Term) → has_shape (Place.one (Sort.only Kind.FunctionBody)) t ≡ true → Claim off t → (g : Lead) (rest : Text) → Body (wrapped true never t) (led g (to true never t rest)) rest
body_at t h c = only Kind.FunctionBody (λ z. Claim off z → (g : Lead) (rest : Text) → Body (wrapped true never z) (led g (to true never z rest)) rest) (λ xs ts h c. c.0) t h c

-- ---- flags

abbrev pub past_word : Text → Lead → Lead
past_word [] g = g
past_word (c ∷ cs) g = spaced

abbrev pub past_star : Text → Lead → Lead
past_star [] g = g
past_star (c ∷ cs) g = flush

pub one_word : (w x : Text) → texts.flag w x ≡ true → is_set x ≡ true → x ≡ w
one_word w [] h s = differ (sym s)
one_word w (c ∷ cs) h s = same_text (c ∷ cs) w (or_by (is_text (c ∷ cs) w) false (λ e. e) (λ e. differ (sym e)) h)

-- a flag is its word, or nothing
pub by_flag : (w : Text) (P : Text → Type 0) → ((b : Bool) → P (flag b w)) → (x : Text) → texts.flag w x ≡ true → P x
by_flag w P f [] h = f false
by_flag w P f (c ∷ cs) h = subst P (sym (one_word w (c ∷ cs) h refl)) (f true)

pub async_at : (x : Text) → texts.flag (codes "async") x ≡ true → (g : Lead) (rest : Text) → begins_gap rest ≡ false → Async x (led g (flag (is_set x) (codes "async ") ++ rest)) (led (past_word x g) rest)
async_at [] h g rest b = no_async
async_at (c ∷ cs) h g rest b =
    subst (λ z. Async z (led g (codes "async " ++ rest)) (32 ∷ rest)) (sym (one_word (codes "async") (c ∷ cs) h refl)) (with_async (word_at g (codes "async") refl refl refl) (same_line spaced rest refl b))

-- ---- functions

free_word : (x : Text) → is_free_name x ≡ true → (rest : Text) → stops rest ≡ true → Naming (binding_of x) (32 ∷ (x ++ rest)) rest
free_word x h rest s = let n = free_parts x h in named n.1 (name_at spaced n.0 s)

pub naming_at : (id : Term) → has_shape (Place.optional (Sort.only Kind.BindingIdentifier)) id ≡ true → (rest : Text) → stops rest ≡ true → Naming (wrapped true never id) (flag (is_present id) (codes " ") ++ to true never id rest) rest
naming_at absent h rest s = unnamed
naming_at (list ts) h rest s = differ (sym h)
naming_at (node k xs ts) h rest s = leaf Kind.BindingIdentifier is_free_name refl refl (λ texts. refl) (λ z. Naming (wrapped true never z) (32 ∷ to true never z rest) rest) (λ x n. free_word x n rest s) (node k xs ts) h

-- behind a word and a `*` stands a part behind a blank, or what stands behind it
pub part_stops : (need : Term → Bool) (t : Term) (word rest : Text) → stops rest ≡ true → stops (flag (is_present t) (32 ∷ word) ++ to true need t rest) ≡ true
part_stops need absent word rest s = s
part_stops need (list ts) word rest s = refl
part_stops need (node k xs ts) word rest s = refl

part_starred : (t : Term) (rest : Text) → starred rest ≡ true → starred (flag (is_present t) (codes " ") ++ to true never t rest) ≡ true
part_starred absent rest s = s
part_starred (list ts) rest s = refl
part_starred (node k xs ts) rest s = refl

-- the function by its flags: `*` or none
function_with : (k : Kind) (async star : Text) (g : Lead) (ps body : Term) (p b : To) → texts.flag (codes "async") async ≡ true → texts.flag (codes "*") star ≡ true → ((l : Lead) (rest : Text) → Parameters true ps (led l (p rest)) rest) → ((rest : Text) → stops (p rest) ≡ true) → ((rest : Text) → starred (p rest) ≡ true) → ((l : Lead) (rest : Text) → Body body (led l (b rest)) rest) → (id : Term) → has_shape (Place.optional (Sort.only Kind.BindingIdentifier)) id ≡ true → (rest : Text) → FunctionText k (function_node k async star (wrapped true never id) ps body) (led g (flag (is_set async) (codes "async ") ++ (codes "function" ++ (flag (is_set star) (codes "*") ++ (flag (is_present id) (codes " ") ++ to true never id (p (32 ∷ b rest))))))) rest
function_with k async [] g ps body p b ha hs fp sp st fb id h rest =
    let tail : Text = 32 ∷ b rest in
    function (async_at async ha g _ refl) (word_at (past_word async g) (codes "function") refl refl (part_stops never id [] (p tail) (sp tail))) no_star (naming_at id h (p tail) (sp tail)) (fp flush tail) (fb spaced rest)
function_with k async (c ∷ cs) g ps body p b ha hs fp sp st fb id h rest =
    let tail : Text = 32 ∷ b rest in
    subst (λ z. FunctionText k (function_node k async z (wrapped true never id) ps body) (led g (flag (is_set async) (codes "async ") ++ (codes "function" ++ (codes "*" ++ (flag (is_present id) (codes " ") ++ to true never id (p tail)))))) rest) (sym (one_word (codes "*") (c ∷ cs) hs refl))
    (function (async_at async ha g _ refl) (word_at (past_word async g) (codes "function") refl refl refl) (with_star (sign_at flush (codes "*") refl (part_starred id (p tail) (st tail)))) (naming_at id h (p tail) (sp tail)) (fp flush tail) (fb spaced rest))

pub declaration_is : (name : Place) → ((id : Term) → has_shape name id ≡ true → has_shape (Place.optional (Sort.only Kind.BindingIdentifier)) id ≡ true) → (xs : List Text) (ts : Terms) → Fit (function_places name) Kind.FunctionDeclaration xs ts → Kids (λ n. off) 0 ts → (g : Lead) (rest : Text) → FunctionText Kind.FunctionDeclaration (bare true (node Kind.FunctionDeclaration xs ts)) (led g (bare_to true (node Kind.FunctionDeclaration xs ts) rest)) rest
declaration_is name into (async ∷ star ∷ []) (more id (more ps (more body none))) f c g rest =
    function_with Kind.FunctionDeclaration async star g (wrapped true never ps) (wrapped true never body) (to true never ps) (to true never body) f.spoken.0 f.spoken.1.0 (parameters_at ps f.placed.1.0 c.1.0 true) (parameters_stop ps f.placed.1.0) (parameters_starred ps f.placed.1.0) (body_at body f.placed.1.1.0 c.1.1.0) id (into id f.placed.0) rest
declaration_is name into xs ts f c g rest = differ (sym f.counted)

pub function_is : (name : Place) → ((id : Term) → has_shape name id ≡ true → has_shape (Place.optional (Sort.only Kind.BindingIdentifier)) id ≡ true) → (xs : List Text) (ts : Terms) → Fit (function_places name) Kind.FunctionExpression xs ts → Kids (λ n. off) 0 ts → NodeExpr (node Kind.FunctionExpression xs ts)
function_is name into (async ∷ star ∷ []) (more id (more ps (more body none))) f c i n =
    of_stands (λ g rest e. function_expression (function_with Kind.FunctionExpression async star g (wrapped true never ps) (wrapped true never body) (to true never ps) (to true never body) f.spoken.0 f.spoken.1.0 (parameters_at ps f.placed.1.0 c.1.0 true) (parameters_stop ps f.placed.1.0) (parameters_starred ps f.placed.1.0) (body_at body f.placed.1.1.0 c.1.1.0) id (into id f.placed.0) rest)) (opens_at (λ rest. function_opens async _))
  where
    function_opens : (x : Text) (a : Text) → is_opening (flag (is_set x) (codes "async ") ++ (codes "function" ++ a)) ≡ true
    function_opens [] a = refl
    function_opens (d ∷ ds) a = refl
function_is name into xs ts f c i n = differ (sym f.counted)

-- ---- arrows

arrow_kind : (k : Kind) → takes Sort.arrow_body k ≡ true → (k ≡ Kind.FunctionBody) ⊎ (is_expression k ≡ true)
arrow_kind Kind.FunctionBody h = inl refl
arrow_kind k h = inr h

abbrev body_need : Term → Bool
body_need t = leads is_brace_kind never t || is_looser 2 t

abbrev ArrowBodyAt : Bool → Term → Type 0
ArrowBodyAt i t = (rest : Text) → ends rest false ≡ true → ArrowBody i (wrapped i body_need t) (32 ∷ to i body_need t rest) rest

-- a bare `in` may stand in each part of a body
body_kept : (i : Bool) (xs : List Text) (ts : Terms) → Fit (places Kind.FunctionBody xs) Kind.FunctionBody xs ts → ((rest : Text) → Body (bare true (node Kind.FunctionBody xs ts)) (32 ∷ bare_to true (node Kind.FunctionBody xs ts) rest) rest) → ArrowBodyAt i (node Kind.FunctionBody xs ts)
body_kept true [] (more ds (more ss none)) f b rest e = block_body (b rest)
body_kept false [] (more ds (more ss none)) f b rest e = block_body (b rest)
body_kept i xs ts f b rest e = differ (sym f.counted)

concise : (i : Bool) (k : Kind) (xs : List Text) (ts : Terms) → is_expression k ≡ true → Claim off (node k xs ts) → ArrowBodyAt i (node k xs ts)
concise i k xs ts x c rest e =
    let t : Term = node k xs ts in
    let p = at_by 2 refl i body_need t (λ z. loose_le 2 t (or_false (leads is_brace_kind never t) (is_looser 2 t) z).1) (in_place_node i body_need k xs ts (expression_meaning off k t x c.0)) in
    concise_body (opens_body i body_need t refl (λ z. (or_false (leads is_brace_kind never t) (is_looser 2 t) z).0)) (p.stands spaced (through _ rest e))

arrow_body_at : (i : Bool) (t : Term) → has_shape (Place.one Sort.arrow_body) t ≡ true → Claim off t → ArrowBodyAt i t
arrow_body_at i absent h c = differ (sym h)
arrow_body_at i (list ts) h c = differ (sym h)
arrow_body_at i (node k xs ts) h c = elim (arrow_kind k (taken_by Sort.arrow_body k xs ts h).taken) as (λ z. ArrowBodyAt i (node k xs ts)) [
  | inl e ↦ subst (λ j. has_shape (Place.one Sort.arrow_body) (node j xs ts) ≡ true → Claim off (node j xs ts) → ArrowBodyAt i (node j xs ts)) (sym e) (λ h c. body_kept i xs ts (fit_of Sort.arrow_body Kind.FunctionBody xs ts refl h).1 (c.0 spaced)) h c
  | inr x ↦ concise i k xs ts x c
]

head_at : (async : Text) → texts.flag (codes "async") async ≡ true → (ps : Term) → has_shape (Place.one (Sort.only Kind.FormalParameters)) ps ≡ true → Claim off ps → (g : Lead) (rest : Text) → ArrowHead async (wrapped true never ps) (led g (flag (is_set async) (codes "async ") ++ to true never ps rest)) rest
head_at [] h ps hp c g rest = arrow_parameters (parameters_at ps hp c true g rest)
head_at (d ∷ ds) h ps hp c g rest =
    subst (λ z. ArrowHead z (wrapped true never ps) (led g (codes "async " ++ to true never ps rest)) rest) (sym (one_word (codes "async") (d ∷ ds) h refl))
    (arrow_async (word_at g (codes "async") refl refl refl) (same_line spaced (to true never ps rest) refl (opening_gap (to true never ps rest) (parameters_open ps hp rest))) (arrow_parameters (parameters_at ps hp c true spaced rest)))

pub arrow_rule : ExpressionRule Kind.ArrowFunctionExpression
arrow_rule (async ∷ []) (more ps (more e none)) m c i n =
    of_stands (λ g rest h. arrow (head_at async m.spoken.0 ps m.placed.0 c.0 g _) (same_line spaced _ refl refl) (sign_at spaced (codes "=>") refl refl) (arrow_body_at i e m.placed.1.0 c.1.0 rest h)) (opens_at (λ rest. opening async _))
  where
    opening : (x : Text) (a : Text) → is_opening (flag (is_set x) (codes "async ") ++ to true never ps a) ≡ true
    opening [] a = parameters_open ps m.placed.0 a
    opening (d ∷ ds) a = refl
arrow_rule xs ts m c i n = differ (sym m.counted)
