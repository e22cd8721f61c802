-- Members, calls and chains that stand in a text are read.
use Rattle.std.proofs.Common.{◌≡◌, ◌≤◌, ◌<◌, ℕ, zero, suc, Bool, true, false, not, ◌&&◌, if◌then◌else◌, nat_le, nat_eq, map, List, [], ◌∷◌, length, Option, Some, None, refl, sym, subst, ◌∙◌, ap, arith, codes}
use Rattle.std.specs.Str.{IsUtf8}
use Rattle.std.proofs.lemmas.Bool.{false≢true, not-true, leb-true}
use Rattle.std.proofs.lemmas.Bool.Decides.{nat_tests}
use Rattle.js_term.specs.Term.{Text, Term, all, depth, depths}
use Rattle.js_term.specs.declared.kind.Kind.{Kind}
use Rattle.js_term.specs.Lexeme.{is_one_of}
use Rattle.js_syntax.specs.Nodes.{of_part, call_link, static_link, computed_link, private_link}
use Rattle.js_syntax.specs.Tokens.{Lexeme, word, private_name, number, big_integer, string, regexp, no_substitution, template_head, template_middle, template_tail, sign}
use Rattle.js_syntax.specs.Edges.{full, edge, is_update, member_level}
use Rattle.js_syntax.proofs.Fronts.{among}
use Rattle.js_tokens.specs.Next.{lexeme}
use Rattle.js_reading.specs.declared.goal.Goal.{Goal}
use Rattle.js_reading.specs.Reading.{Found, closed, Reading, ◌>>=◌, same_line}
use Rattle.js_reading.specs.Operators.{sign_binds, binds}
use Rattle.js_reading.specs.Parts.{arguments}
use Rattle.js_reading.specs.Expressions.{at, is_link, dotted, computed, called, optional_link, link_by, links, chain}
use Rattle.js_reading.specs.Read.{read}
use Rattle.js_reading.proofs.TokensThere.{Seen, sees_by, expect_read}
use Rattle.js_reading.proofs.Lists.{ending_end}
use Rattle.js_reading.proofs.Follows.{tightness, tightness_by, broken, takes_name, holds, is_full}
use Rattle.js_reading.proofs.Climbs.{whole, quiet, quiet_other, IsRead, full_low, sign_joins, joined_read}
use Rattle.js_reading.proofs.Operations.{extends_sign}
use Rattle.js_reading.proofs.Listings.{IsReadExpression, expression_before, FoundGroup, item_of}

-- ---- links

-- Behind this sign stands what makes of the object a link.
pub record LinkRead (s : Text) (o e : Term) (b c : Text) : Type 0 where
  pub rest : Text
  pub tok : Seen (sign s) b rest
  pub utf8 : IsUtf8 c
  pub shorter : length c < length rest
  pub deep : depth o < depth e
  pub ends : edge e ≡ full
  pub reads : (limit : ℕ) → depth e ≤ suc limit → link_by (read limit) o s rest ≡ Some (e, c)

dotted_word : (sub : Goal → Text → Reading Found) (optional : Bool) (o : Term) {x m c : Text} → Seen (word x) m c → dotted sub optional o m ≡ Some (static_link optional o x, c)
unfolding dotted
dotted_word sub optional o tok = rw (tok.lexeme_is, tok.after_is)

dotted_private : (sub : Goal → Text → Reading Found) (optional : Bool) (o : Term) {x m c : Text} → Seen (private_name x) m c → dotted sub optional o m ≡ Some (private_link optional o x, c)
unfolding dotted
dotted_private sub optional o tok = rw (tok.lexeme_is, tok.after_is)

computed_there : (optional : Bool) (o : Term) {e : Term} {m d c : Text} (limit : ℕ) → IsReadExpression true e m d → Seen (sign (codes "]")) d c → depth e ≤ limit → computed (read limit) optional o m ≡ Some (computed_link optional o e, c)
unfolding computed
computed_there optional o {d = d} limit x tok fits = rw (expression_before x limit fits (ending_end (codes "]") d refl (sees_by (codes "]") tok)) (sees_by (codes ",") tok), expect_read tok)

-- the arguments of a call
pub record ArgumentsRead (es : List Term) (b c : Text) : Type 0 where
  pub rest : Text
  pub tok : Seen (sign (codes "(")) b rest
  pub utf8 : IsUtf8 c
  pub shorter : length c < length rest
  pub reads : (limit : ℕ) → depths (all es) ≤ limit → arguments (read limit) rest ≡ Some (es, c)

arguments_there : {es : List Term} {m d c : Text} (limit : ℕ) → FoundGroup (item_of true) es m d → Seen (sign (codes ")")) d c → depths (all es) ≤ limit → arguments (read limit) m ≡ Some (es, c)
unfolding arguments
arguments_there limit g tok fits =
    let r = g.reads limit fits in
    let t = g.trees_are in
    rw (r.reads (codes ")") refl (sees_by (codes ")") tok), expect_read tok, t)

pub arguments_read : {es : List Term} {b m d c : Text} → Seen (sign (codes "(")) b m → FoundGroup (item_of true) es m d → Seen (sign (codes ")")) d c → ArgumentsRead es b c
arguments_read {es} {m = m} tok g tok' = record {
  rest = m;
  tok = tok;
  utf8 = tok'.utf8;
  shorter = let r = g.reads (depths (all es)) (omega arith) in let s = r.short in let s' = tok'.shorter in omega arith;
  reads = λ limit fits. arguments_there limit g tok' fits;
}

pub called_there : (optional : Bool) (f : Term) {es : List Term} {b c : Text} (limit : ℕ) (x : ArgumentsRead es b c) → depths (all es) ≤ limit → called (read limit) optional f x.rest ≡ Some (call_link optional f (all es), c)
unfolding called
called_there optional f limit x fits = rw (x.reads limit fits)

pub dot_link : (o : Term) {x b m c : Text} → Seen (sign (codes ".")) b m → Seen (word x) m c → LinkRead (codes ".") o (static_link false o x) b c
dot_link o {m = m} tok tok' = record { rest = m; tok = tok; utf8 = tok'.utf8; shorter = tok'.shorter; deep = omega arith; ends = refl; reads = λ limit fits. dotted_word (read limit) false o tok' }

pub private_dot_link : (o : Term) {x b m c : Text} → Seen (sign (codes ".")) b m → Seen (private_name x) m c → LinkRead (codes ".") o (private_link false o x) b c
private_dot_link o {m = m} tok tok' = record { rest = m; tok = tok; utf8 = tok'.utf8; shorter = tok'.shorter; deep = omega arith; ends = refl; reads = λ limit fits. dotted_private (read limit) false o tok' }

pub bracket_link : (o : Term) {e : Term} {b m d c : Text} → Seen (sign (codes "[")) b m → IsReadExpression true e m d → Seen (sign (codes "]")) d c → LinkRead (codes "[") o (computed_link false o e) b c
bracket_link o {m = m} tok x tok' = record {
  rest = m;
  tok = tok;
  utf8 = tok'.utf8;
  shorter = let s = x.shorter in let s' = tok'.shorter in omega arith;
  deep = omega arith;
  ends = refl;
  reads = λ limit fits. computed_there false o limit x tok' (omega arith);
}

pub call_link_read : (o : Term) {es : List Term} {b c : Text} → ArgumentsRead es b c → LinkRead (codes "(") o (call_link false o (all es)) b c
call_link_read o x = record { rest = x.rest; tok = x.tok; utf8 = x.utf8; shorter = x.shorter; deep = omega arith; ends = refl; reads = λ limit fits. called_there false o limit x (omega arith) }

-- behind `?.`
optional_word : (sub : Goal → Text → Reading Found) (o : Term) {x m c : Text} → Seen (word x) m c → optional_link sub o m ≡ Some (static_link true o x, c)
unfolding optional_link
optional_word sub o {m = m} tok = rw (tok.lexeme_is) (dotted_word sub true o tok)

optional_private : (sub : Goal → Text → Reading Found) (o : Term) {x m c : Text} → Seen (private_name x) m c → optional_link sub o m ≡ Some (private_link true o x, c)
unfolding optional_link
optional_private sub o {m = m} tok = rw (tok.lexeme_is) (dotted_private sub true o tok)

optional_bracket : (sub : Goal → Text → Reading Found) (o : Term) {m c : Text} → Seen (sign (codes "[")) m c → optional_link sub o m ≡ computed sub true o c
unfolding optional_link
optional_bracket sub o tok = rw (tok.lexeme_is, tok.after_is)

optional_call : (sub : Goal → Text → Reading Found) (o : Term) {m c : Text} → Seen (sign (codes "(")) m c → optional_link sub o m ≡ called sub true o c
unfolding optional_link
optional_call sub o tok = rw (tok.lexeme_is, tok.after_is)

pub chain_dot : (o : Term) {x b m c : Text} → Seen (sign (codes "?.")) b m → Seen (word x) m c → LinkRead (codes "?.") o (static_link true o x) b c
chain_dot o {m = m} tok tok' = record { rest = m; tok = tok; utf8 = tok'.utf8; shorter = tok'.shorter; deep = omega arith; ends = refl; reads = λ limit fits. optional_word (read limit) o tok' }

pub chain_private : (o : Term) {x b m c : Text} → Seen (sign (codes "?.")) b m → Seen (private_name x) m c → LinkRead (codes "?.") o (private_link true o x) b c
chain_private o {m = m} tok tok' = record { rest = m; tok = tok; utf8 = tok'.utf8; shorter = tok'.shorter; deep = omega arith; ends = refl; reads = λ limit fits. optional_private (read limit) o tok' }

pub chain_bracket : (o : Term) {e : Term} {b m g d c : Text} → Seen (sign (codes "?.")) b m → Seen (sign (codes "[")) m g → IsReadExpression true e g d → Seen (sign (codes "]")) d c → LinkRead (codes "?.") o (computed_link true o e) b c
chain_bracket o {m = m} tok open' x tok' = record {
  rest = m;
  tok = tok;
  utf8 = tok'.utf8;
  shorter = let s = x.shorter in let s' = tok'.shorter in let s'' = open'.shorter in omega arith;
  deep = omega arith;
  ends = refl;
  reads = λ limit fits. optional_bracket (read limit) o open' ∙ computed_there true o limit x tok' (omega arith);
}

pub chain_call : (o : Term) {es : List Term} {b m c : Text} → Seen (sign (codes "?.")) b m → ArgumentsRead es m c → LinkRead (codes "?.") o (call_link true o (all es)) b c
chain_call o {m = m} tok x = let open' = x.tok in record {
  rest = m;
  tok = tok;
  utf8 = x.utf8;
  shorter = let s = x.shorter in let s' = open'.shorter in omega arith;
  deep = omega arith;
  ends = refl;
  reads = λ limit fits. optional_call (read limit) o x.tok ∙ called_there true o limit x (omega arith);
}

-- ---- members and calls

pub member_range : (n : ℕ) → 19 ≤ n → (19 ≤ member_level n) × (member_level n ≤ n) × (member_level n ≤ 20)
member_range n h = go (nat_eq n 19) refl
  where
    go : (t : Bool) → nat_eq n 19 ≡ t → (19 ≤ (if t then 19 else 20)) × ((if t then 19 else 20) ≤ n) × ((if t then 19 else 20) ≤ 20)
    go true e = (omega arith, h, omega arith)
    go false e = (omega arith, grind (arith, nat_tests), omega arith)

pub dot_read : {i : Bool} {n : ℕ} {o e : Term} {p : Bool} {a b c : Text} → 19 ≤ n → IsRead i (depth o) (whole o n p) a b → LinkRead (codes ".") o e b c → IsRead i (depth e) (closed e (member_level n)) a c
dot_read {i} {n} {o} {e} {p} high object x =
    let tok = x.tok in
    let range = member_range n high in
    let r0 = range.0 in
    let r1 = range.1 in
    let r2 = range.2 in
    let ends = x.ends in
    joined_read 21 object (sign_joins tok (omega arith) refl high refl refl refl) (quiet_other o _ (sees_by (codes "(") tok)) (let d = x.deep in omega arith) (omega arith) r1 (omega arith) (object.calls high) (let s = tok.shorter in let s' = x.shorter in omega arith)
    (is_full ends) (omega arith) (λ h. omega arith) (λ h h'. omega arith) (λ h. omega arith)
    (λ limit fits h. extends_sign (read limit) i o n p tok refl ∙ ap (λ r. r >>= at (member_level n)) (x.reads limit fits))

pub bracket_read : {i : Bool} {n : ℕ} {o e : Term} {p : Bool} {a b c : Text} → 19 ≤ n → IsRead i (depth o) (whole o n p) a b → LinkRead (codes "[") o e b c → IsRead i (depth e) (closed e (member_level n)) a c
bracket_read {i} {n} {o} {e} {p} high object x =
    let tok = x.tok in
    let range = member_range n high in
    let r0 = range.0 in
    let r1 = range.1 in
    let r2 = range.2 in
    let ends = x.ends in
    joined_read 21 object (sign_joins tok (omega arith) refl high refl refl refl) (quiet_other o _ (sees_by (codes "(") tok)) (let d = x.deep in omega arith) (omega arith) r1 (omega arith) (object.calls high) (let s = tok.shorter in let s' = x.shorter in omega arith)
    (is_full ends) (omega arith) (λ h. omega arith) (λ h h'. omega arith) (λ h. omega arith)
    (λ limit fits h. extends_sign (read limit) i o n p tok refl ∙ ap (λ r. r >>= at (member_level n)) (x.reads limit fits))

-- a call of anything but the name `async`
pub plain_call_read : {i : Bool} {n : ℕ} {f : Term} {es : List Term} {p : Bool} {a b c : Text} → 19 ≤ n → quiet f b ≡ true → IsRead i (depth f) (whole f n p) a b → ArgumentsRead es b c → IsRead i (depth (call_link false f (all es))) (closed (call_link false f (all es)) 19) a c
plain_call_read {i} {n} {f} {es} {p} high q callee x =
    let tok = x.tok in
    joined_read 21 callee (sign_joins tok (omega arith) refl high refl refl refl) q (omega arith) (omega arith) (omega arith) (omega arith) (callee.calls high) (let s = tok.shorter in let s' = x.shorter in omega arith)
    (is_full refl) (omega arith) (λ h. omega arith) (λ h h'. absurd (omega arith)) (λ h. omega arith)
    (λ limit fits h. extends_sign (read limit) i f n p tok refl ∙ ap (λ r. r >>= at 19) (called_there false f limit x (omega arith)))

-- ---- chains (13.3.9)

abbrev pub link_signs : List Text
link_signs = map codes ("?." ∷ "." ∷ "[" ∷ "(" ∷ [])

links_turn : {s : Text} {o e : Term} {b c : Text} (limit n : ℕ) → is_one_of s link_signs ≡ true → (x : LinkRead s o e b c) → depth e ≤ suc limit → links (read limit) (suc n) o b ≡ links (read limit) n e c
unfolding links
links_turn {s} {o} {e} {b} {c} limit n is x fits = let tok = x.tok in rw (tok.lexeme_is, is, tok.after_is, x.reads limit fits)

links_stop : (sub : Goal → Text → Reading Found) (n : ℕ) (o : Term) (b : Text) → is_link (lexeme b) ≡ false → links sub n o b ≡ Some (o, b)
unfolding links
links_stop sub zero o b h = refl
links_stop sub (suc n) o b h = rw h

pub record ChainRun (limit : ℕ) (base : Term) (rest : Text) (e : Term) (b : Text) : Type 0 where
  pub first : Term
  pub text : Text
  pub first_is : optional_link (read limit) base rest ≡ Some (first, text)
  pub turns : ℕ
  pub enough : length b ≤ turns
  pub same : links (read limit) (length text) first text ≡ links (read limit) turns e b

pub record SpineRead (i : Bool) (e : Term) (a b : Text) : Type 0 where
  pub base : Term
  pub level : ℕ
  pub barred : Bool
  pub text : Text
  pub read_base : IsRead i (depth base) (whole base level barred) a text
  pub high : 19 ≤ level
  pub rest : Text
  pub tok : Seen (sign (codes "?.")) text rest
  pub utf8 : IsUtf8 b
  pub deep : depth base < depth e
  pub shorter : length b < length rest
  pub run : (limit : ℕ) → depth e ≤ suc limit → ChainRun limit base rest e b

pub first_link_read : {i : Bool} {n : ℕ} {o e : Term} {p : Bool} {a b c : Text} → 19 ≤ n → IsRead i (depth o) (whole o n p) a b → LinkRead (codes "?.") o e b c → SpineRead i e a c
first_link_read {n = n} {o = o} {e = e} {p = p} {b = b} {c = c} high r x = record {
  base = o;
  level = n;
  barred = p;
  text = b;
  read_base = r;
  high = high;
  rest = x.rest;
  tok = x.tok;
  utf8 = x.utf8;
  deep = x.deep;
  shorter = x.shorter;
  run = λ limit fits. record { first = e; text = c; first_is = x.reads limit fits; turns = length c; enough = omega arith; same = refl };
}

run_on : {s : Text} {base o e : Term} {rest b c : Text} (limit : ℕ) → is_one_of s link_signs ≡ true → (x : LinkRead s o e b c) → depth e ≤ suc limit → ChainRun limit base rest o b → ChainRun limit base rest e c
run_on {s} {base} {o} {e} {rest} {b} {c} limit is x fits run = go run.turns run.enough run.same
  where
    go : (n : ℕ) → length b ≤ n → links (read limit) (length run.text) run.first run.text ≡ links (read limit) n o b → ChainRun limit base rest e c
    go zero enough same = absurd (let tok = x.tok in let s = tok.shorter in omega arith)
    go (suc n) enough same = record { first = run.first; text = run.text; first_is = run.first_is; turns = n; enough = let tok = x.tok in let s = tok.shorter in let s' = x.shorter in omega arith; same = same ∙ links_turn limit n is x fits }

pub next_link_read : {i : Bool} {s : Text} {o e : Term} {a b c : Text} → is_one_of s link_signs ≡ true → SpineRead i o a b → LinkRead s o e b c → SpineRead i e a c
next_link_read is r x = record {
  base = r.base;
  level = r.level;
  barred = r.barred;
  text = r.text;
  read_base = r.read_base;
  high = r.high;
  rest = r.rest;
  tok = r.tok;
  utf8 = x.utf8;
  deep = let d = r.deep in let d' = x.deep in omega arith;
  shorter = let s = r.shorter in let tok = x.tok in let s' = tok.shorter in let s'' = x.shorter in omega arith;
  run = λ limit fits. run_on limit is x fits (r.run limit (let d = x.deep in omega arith));
}

link_by_tight : (t : Bool) (o : Option Lexeme) (line i : Bool) → is_link o ≡ true → 18 ≤ tightness_by t (broken o line) i (binds i o)
link_by_tight true o line i h = omega arith
link_by_tight false None line i h = absurd (false≢true h)
link_by_tight false (Some (sign s)) line i h =
    let low = leb-true 18 (sign_binds s) (among (λ t. nat_le 18 (sign_binds t)) link_signs s refl h) in
    subst (λ (u : Bool). 18 ≤ tightness_by false (u && not line) i (sign_binds s)) (sym (not-true (is_update s) (among (λ t. not (is_update t)) link_signs s refl h))) low
link_by_tight false (Some (word x)) line i h = absurd (false≢true h)
link_by_tight false (Some (private_name x)) line i h = absurd (false≢true h)
link_by_tight false (Some (number x)) line i h = absurd (false≢true h)
link_by_tight false (Some (big_integer x)) line i h = absurd (false≢true h)
link_by_tight false (Some (string x v)) line i h = absurd (false≢true h)
link_by_tight false (Some (regexp x v)) line i h = absurd (false≢true h)
link_by_tight false (Some (no_substitution x)) line i h = absurd (false≢true h)
link_by_tight false (Some (template_head x)) line i h = absurd (false≢true h)
link_by_tight false (Some (template_middle x)) line i h = absurd (false≢true h)
link_by_tight false (Some (template_tail x)) line i h = absurd (false≢true h)

link_tight : (i : Bool) (b : Text) → is_link (lexeme b) ≡ true → 18 ≤ tightness i b
unfolding tightness
link_tight i b h = link_by_tight (takes_name b) (lexeme b) (same_line b) i h

no_link : (i : Bool) (b : Text) → holds i full 17 b ≡ true → is_link (lexeme b) ≡ false
no_link i b h = go (is_link (lexeme b)) refl
  where
    go : (t : Bool) → is_link (lexeme b) ≡ t → is_link (lexeme b) ≡ false
    go false e = e
    go true e = absurd (let x = link_tight i b e in let y = full_low i 17 b h in omega arith)

chain_there : (limit : ℕ) {base e : Term} {rest b : Text} → ChainRun limit base rest e b → is_link (lexeme b) ≡ false → chain (read limit) base rest ≡ Some (closed (of_part Kind.ChainExpression e) 18, b)
unfolding chain
chain_there limit {e = e} {b = b} run h = let x = run.first_is in rw (x, run.same ∙ links_stop (read limit) run.turns e b h)

pub chain_read : {i : Bool} {e : Term} {a b : Text} → SpineRead i e a b → IsRead i (depth (of_part Kind.ChainExpression e)) (closed (of_part Kind.ChainExpression e) 18) a b
chain_read {i} {e} {a} {b} r =
    let tok = r.tok in
    let high = r.high in
    let base = r.read_base in
    joined_read 17 base (sign_joins tok (omega arith) refl high refl refl refl) (quiet_other r.base r.text (sees_by (codes "(") tok)) (let d = r.deep in omega arith) (omega arith) (omega arith) (omega arith) (let c = base.calls high in omega arith) (let s = tok.shorter in let s' = r.shorter in omega arith)
    (is_full refl) (omega arith) (λ h. omega arith) (λ h h'. absurd (omega arith)) (λ h. absurd (omega arith))
    (λ limit fits h. extends_sign (read limit) i r.base r.level r.barred tok refl ∙ chain_there limit (r.run limit (omega arith)) (no_link i b h))
