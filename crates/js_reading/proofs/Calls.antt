-- Calls, `new`, `super` and imports that stand in a text are read.
use Rattle.std.proofs.Common.{◌≡◌, ◌≤◌, ◌<◌, ℕ, zero, suc, Bool, true, false, ◌&&◌, if◌then◌else◌, nat_le, List, length, Some, None, refl, sym, subst, ◌⊎◌, inl, inr, ◌∙◌, ap, arith, codes}
use Rattle.std.specs.Str.{IsUtf8}
use Rattle.std.proofs.lemmas.Bool.{false≢true, le-leb, lt-leb, cases_lt}
use Rattle.js_term.specs.Term.{Text, Term, absent, none, all, depth, depths}
use Rattle.js_term.specs.declared.kind.Kind.{Kind}
use Rattle.js_term.specs.Node.{identifier_of}
use Rattle.js_syntax.specs.Nodes.{alone, of_parts, call_link, super_of, new_of}
use Rattle.js_syntax.specs.Tokens.{word, sign}
use Rattle.js_syntax.specs.Edges.{Edge, full, edge, is_private_member}
use Rattle.js_tokens.specs.Next.{lexeme, after}
use Rattle.js_reading.specs.declared.goal.Goal.{Goal}
use Rattle.js_reading.specs.declared.goal.Goal.TheVariants as goal
use Rattle.js_reading.specs.Reading.{Found, closed, Reading, ◌>>=◌, sees, same_line, arrow_here}
use Rattle.js_reading.specs.Operators.{goes_on}
use Rattle.js_reading.specs.Parts.{arguments}
use Rattle.js_reading.specs.Expressions.{at, is_bare_new, constructed_by, new_expression, second_argument, import_options, import_call, import_expression, super_member, super_expression, async_parenthesized, async_by, async_expression, prefix, climb, at_level, callee}
use Rattle.js_reading.specs.Read.{read}
use Rattle.js_reading.proofs.TokensThere.{Seen, sees_by, sees_word_by, expect_read, expect_word_read}
use Rattle.js_reading.proofs.Opens.{begins, no_sign_there}
use Rattle.js_reading.proofs.Lists.{is_end, ending_end, sees_sign}
use Rattle.js_reading.proofs.Follows.{tightness, takes_name, sign_takes, holds, Ends, is_full, is_updated, is_loose, end_holds, stops, wider}
use Rattle.js_reading.proofs.Climbs.{whole, quiet_not_async, quiet_broken, is_async, IsRead, Reach, first_reach, climb_stops, full_low, paren_tight, no_name, sign_joins, lower_read, grow, right_read}
use Rattle.js_reading.proofs.Leaves.{word_there, no_arrow, name_prefix, leaf_read}
use Rattle.js_reading.proofs.Operations.{extends_sign}
use Rattle.js_reading.proofs.Listings.{FoundGroup, item_of}
use Rattle.js_reading.proofs.Links.{LinkRead, ArgumentsRead, arguments_read, called_there, plain_call_read}

-- ---- calls

-- the arguments of a call, and the same before it is known that no arrow stands behind them
pub record CallRead (es : List Term) (b c : Text) : Type 0 where
  pub rest : Text
  pub last : Text
  pub open' : Seen (sign (codes "(")) b rest
  pub outer : FoundGroup (item_of true) es rest last
  pub inner : FoundGroup (item_of false) es rest last
  pub close : Seen (sign (codes ")")) last c

pub call_arguments : {es : List Term} {b c : Text} → CallRead es b c → ArgumentsRead es b c
call_arguments x = arguments_read x.open' x.outer x.close

async_items : (i : Bool) (limit : ℕ) {es : List Term} {b c : Text} (x : CallRead es b c) → depths (all es) ≤ limit → arrow_here c ≡ false → async_parenthesized (read limit) i x.rest ≡ Some (closed (call_link false (identifier_of (codes "async")) (all es)) 19, c)
unfolding async_parenthesized
async_items i limit x fits h =
    let g = x.inner in
    let r = g.reads limit fits in
    let t = g.trees_are in
    let w = g.covers_are in
    rw (r.reads (codes ")") refl (sees_by (codes ")") x.close), expect_read x.close, h, w, t)

async_begun : (sub : Goal → Text → Reading Found) (i : Bool) (least : ℕ) {b m : Text} → least ≤ 2 → Seen (sign (codes "(")) b m → async_by sub i least b ≡ async_parenthesized sub i m
unfolding async_by
async_begun sub i least low tok = rw (sees_word_by (codes "function") tok, tok.lexeme_is, le-leb least 2 low, sees_by (codes "(") tok, tok.after_is)

async_lined : (sub : Goal → Text → Reading Found) (i : Bool) (least : ℕ) {b m : Text} → least ≤ 2 → same_line b ≡ true → Seen (sign (codes "(")) b m → async_expression sub i least b ≡ async_parenthesized sub i m
unfolding async_expression
async_lined sub i least low line tok = rw line (async_begun sub i least low tok)

and_not : (p q : Bool) → p ≡ false → (p && q) ≡ false
and_not true q h = absurd (false≢true (sym h))
and_not false q h = refl

-- a call of the name `async` with its arguments on the same line
async_call_read : {i : Bool} {es : List Term} {a b c : Text} → Seen (word (codes "async")) a b → same_line b ≡ true → CallRead es b c → IsRead i (depth (call_link false (identifier_of (codes "async")) (all es))) (closed (call_link false (identifier_of (codes "async")) (all es)) 19) a c
async_call_read {i} {es} {a} {b} {c} tok line x =
    let open' = x.open' in
    let args = call_arguments x in
    let args_tok = args.tok in
    record {
      shorter = let s1 = tok.shorter in let s2 = args_tok.shorter in let s3 = args.shorter in omega arith;
      high = omega arith;
      deep = omega arith;
      ends = is_full refl;
      keeps = 21;
      some = omega arith;
      wide = λ h. omega arith;
      tight = λ n h h' h''. omega arith;
      calls = λ h. omega arith;
      reach = λ limit least low fits k q. by_least limit least low fits (no_name i c k) (cases_lt 2 least);
    }
  where
    by_least : (limit least : ℕ) → least ≤ 19 → depth (call_link false (identifier_of (codes "async")) (all es)) ≤ suc limit → takes_name c ≡ false → (2 < least) ⊎ (least ≤ 2) → Reach i limit least (closed (call_link false (identifier_of (codes "async")) (all es)) 19) a c
    by_least limit least low fits free (inr below) = first_reach limit least low (word_there (read limit) i least tok ∙ async_lined (read limit) i least below line x.open' ∙ async_items i limit x (omega arith) (no_arrow c free))
    by_least limit least low fits free (inl above) =
        let args = call_arguments x in
        let args_tok = args.tok in
        let j = sign_joins {i = i} {m = 21} {k = 19} args.tok (omega arith) refl (omega arith) refl refl refl in
        grow limit least
        (first_reach limit least (omega arith) (name_prefix (read limit) i least refl tok (sign_takes (codes "(") b args_tok.lexeme_is refl) (λ _ _. and_not (nat_le least 2) (sees (codes "(") b) (lt-leb least 2 above))))
        (let s1 = args_tok.shorter in let s2 = args.shorter in omega arith) j.some (let g = j.gives_is in rw g low) j.needs_low j.suit
        (extends_sign (read limit) i (identifier_of (codes "async")) 21 false args.tok refl ∙ ap (λ r. r >>= at 19) (called_there false (identifier_of (codes "async")) limit args (omega arith)))

-- what is known of a callee that is the name `async`
abbrev pub AsyncToken : Term → Text → Text → Type 0
AsyncToken f a b = is_async f ≡ true → (f ≡ identifier_of (codes "async")) × Seen (word (codes "async")) a b

pub call_read : {i : Bool} {n : ℕ} {f : Term} {es : List Term} {p : Bool} {a b c : Text} → 19 ≤ n → AsyncToken f a b → IsRead i (depth f) (whole f n p) a b → CallRead es b c → IsRead i (depth (call_link false f (all es))) (closed (call_link false f (all es)) 19) a c
call_read {i} {n} {f} {es} {p} {a} {b} {c} high token callee x = go (is_async f) refl (same_line b) refl
  where
    go : (t : Bool) → is_async f ≡ t → (l : Bool) → same_line b ≡ l → IsRead i (depth (call_link false f (all es))) (closed (call_link false f (all es)) 19) a c
    go false e l e' = plain_call_read high (quiet_not_async f b e) callee (call_arguments x)
    go true e false e' = plain_call_read high (quiet_broken f b e') callee (call_arguments x)
    go true e true e' = let known = token e in subst (λ (g : Term). IsRead i (depth (call_link false g (all es))) (closed (call_link false g (all es)) 19) a c) (sym known.0) (async_call_read known.1 e' x)

-- ---- new (13.3.5)

callee_from : (sub : Goal → Text → Reading Found) (i : Bool) (a : Text) (x : Found × Text) → at_level sub i 20 a ≡ Some x → callee sub i a ≡ Some x
unfolding at_level callee
callee_from sub i a x h = go (prefix sub i 20 a) h
  where
    by_level : (t : Bool) (y z : Reading Found) → (if t then y else None) ≡ Some x → (if t then y else z) ≡ Some x
    by_level true y z h = h
    by_level false y z h = absurd (cc)

    go : (r : Reading Found) → (r >>= λ f b. if nat_le 20 f.level then climb sub i 20 (length b) f b else None) ≡ Some x → (r >>= λ f b. if nat_le 20 f.level then climb sub i 20 (length b) f b else if is_bare_new f.tree then Some (f, b) else None) ≡ Some x
    go None h = absurd (cc)
    go (Some y) h = by_level (nat_le 20 (y.0).level) _ _ h

callee_step : {i : Bool} {f : Found} {a b : Text} (limit : ℕ) → Reach i limit 20 f a b → goes_on i 20 f b ≡ false → callee (read limit) i a ≡ Some (f, b)
callee_step {i} {f} {a} {b} limit r stop = callee_from (read limit) i a (f, b) (r.same ∙ climb_stops i limit r.turns 20 f b stop)

callee_found : {i : Bool} {d : ℕ} {f : Found} {a b : Text} (r : IsRead i d f a b) → (limit : ℕ) → 20 ≤ f.level → d ≤ limit → holds i (edge f.tree) r.keeps b ≡ true → goes_on i 20 f b ≡ false → read limit (goal.Callee i) a ≡ Some (f, b)
unfolding read
callee_found r zero high fits k stop = absurd (let s = r.deep in omega arith)
callee_found r (suc limit) high fits k stop = callee_step limit (r.reach limit 20 high fits k (λ low. absurd (omega arith))) stop

paren_stops : (i : Bool) (f : Found) {b c : Text} → Seen (sign (codes "(")) b c → goes_on i 20 f b ≡ false
unfolding goes_on
paren_stops i f tok = rw (tok.lexeme_is) refl

high_full : {n : ℕ} {x : Edge} → Ends n x → 18 ≤ n → x ≡ full
high_full (is_full e) h = e
high_full (is_updated e top) h = absurd (omega arith)
high_full (is_loose e top) h = absurd (omega arith)

low_tight_holds : (i : Bool) (k : ℕ) (b : Text) → tightness i b ≤ k → holds i full k b ≡ true
unfolding holds
low_tight_holds i k b h = le-leb (tightness i b) k h

constructed_there : {i : Bool} {n : ℕ} {f : Term} {p : Bool} {es : List Term} {b c d : Text} (limit : ℕ) → 20 ≤ n → begins (lexeme b) ≡ true → IsRead i (depth f) (whole f n p) b c → (x : ArgumentsRead es c d) → depth f ≤ limit → depths (all es) ≤ limit → new_expression (read limit) i b ≡ Some (closed (new_of f (all es)) 20, d)
unfolding new_expression
constructed_there {i} {n} {f} {p} {b = b} {c = c} limit high starts r x fits fits' =
    let tok = x.tok in
    let is_paren = sees_by (codes "(") tok in
    let holding = subst (λ e. holds i e r.keeps c ≡ true) (sym (high_full r.ends (omega arith))) (low_tight_holds i r.keeps c (let t = paren_tight i c is_paren in let k = r.calls (omega arith) in omega arith)) in
    rw (no_sign_there (codes ".") b starts refl, callee_found r limit high fits holding (paren_stops i (whole f n p) tok), le-leb 20 n high, is_paren, tok.after_is, x.reads limit fits')

pub construction_read : {i : Bool} {n : ℕ} {f : Term} {p : Bool} {es : List Term} {a b c d : Text} → Seen (word (codes "new")) a b → 20 ≤ n → begins (lexeme b) ≡ true → IsRead i (depth f) (whole f n p) b c → ArgumentsRead es c d → IsRead i (depth (new_of f (all es))) (closed (new_of f (all es)) 20) a d
construction_read {i} tok high starts r x =
    let args_tok = x.tok in
    lower_read 21 (let s1 = tok.shorter in let s2 = r.shorter in let s3 = args_tok.shorter in let s4 = x.shorter in omega arith) (omega arith) (omega arith) (is_full refl) (omega arith) (λ h. omega arith) (λ h h'. absurd (omega arith)) (λ h. omega arith)
    (λ limit least low fits h. word_there (read limit) i least tok ∙ constructed_there limit high starts r x (omega arith) (omega arith))

-- a `new` without arguments, as an expression and as what is constructed
pub record BareRead (i : Bool) (e : Term) (a b : Text) : Type 0 where
  pub utf8 : IsUtf8 b
  pub shorter : length b < length a
  pub deep : 0 < depth e
  pub ends : edge e ≡ full
  pub bare : is_bare_new e ≡ true
  pub reads : (limit least : ℕ) → depth e ≤ suc limit → holds i full 17 b ≡ true → prefix (read limit) i least a ≡ Some (closed e 18, b)

no_paren : (i : Bool) (b : Text) → holds i full 17 b ≡ true → sees (codes "(") b ≡ false
no_paren i b h = go (sees (codes "(") b) refl
  where
    go : (t : Bool) → sees (codes "(") b ≡ t → sees (codes "(") b ≡ false
    go false e = e
    go true e = absurd (let x = paren_tight i b e in let y = full_low i 17 b h in omega arith)

constructed_bare : (sub : Goal → Text → Reading Found) (f : Term) (n : ℕ) (b : Text) → sees (codes "(") b ≡ false → constructed_by sub f n b ≡ Some (closed (new_of f none) 18, b)
constructed_bare sub f n b h = rw h (go (nat_le 20 n))
  where
    go : (t : Bool) → (if t && false then (arguments sub (after b) >>= λ es c. Some (closed (new_of f (all es)) 20, c)) else Some (closed (new_of f none) 18, b)) ≡ Some (closed (new_of f none) 18, b)
    go true = refl
    go false = refl

bare_member_there : {i : Bool} {n : ℕ} {f : Term} {p : Bool} {b c : Text} (limit : ℕ) → 20 ≤ n → begins (lexeme b) ≡ true → IsRead i (depth f) (whole f n p) b c → depth f ≤ limit → holds i full 17 c ≡ true → new_expression (read limit) i b ≡ Some (closed (new_of f none) 18, c)
unfolding new_expression
bare_member_there {i} {n} {f} {p} {b = b} {c = c} limit high starts r fits h =
    let ends = high_full r.ends (omega arith) in
    let here = subst (λ e. holds i e 17 c ≡ true) (sym ends) h in
    rw (no_sign_there (codes ".") b starts refl, callee_found r limit high fits (wider i (edge f) 17 r.keeps c (let w = r.wide (omega arith) in omega arith) here) (stops i 20 17 (whole f n p) (edge f) c r.ends here (omega arith) (omega arith))) (constructed_bare (read limit) f n c (no_paren i c h))

pub bare_member_read : {i : Bool} {n : ℕ} {f : Term} {p : Bool} {a b c : Text} → Seen (word (codes "new")) a b → 20 ≤ n → begins (lexeme b) ≡ true → IsRead i (depth f) (whole f n p) b c → IsUtf8 c → BareRead i (new_of f none) a c
bare_member_read {i} tok high starts r u = record {
  utf8 = u;
  shorter = let s1 = tok.shorter in let s2 = r.shorter in omega arith;
  deep = omega arith;
  ends = refl;
  bare = refl;
  reads = λ limit least fits h. word_there (read limit) i least tok ∙ bare_member_there limit high starts r (omega arith) h;
}

bare_callee : {i : Bool} {e : Term} {a b : Text} (limit : ℕ) → BareRead i e a b → depth e ≤ suc limit → holds i full 17 b ≡ true → callee (read limit) i a ≡ Some (closed e 18, b)
unfolding callee
bare_callee limit r fits h = rw (r.reads limit 20 fits h, r.bare)

bare_found : {i : Bool} {e : Term} {a b : Text} (limit : ℕ) → BareRead i e a b → depth e ≤ limit → holds i full 17 b ≡ true → read limit (goal.Callee i) a ≡ Some (closed e 18, b)
unfolding read
bare_found zero r fits h = absurd (let d = r.deep in omega arith)
bare_found (suc limit) r fits h = bare_callee limit r fits h

bare_bare_there : {i : Bool} {f : Term} {b c : Text} (limit : ℕ) → begins (lexeme b) ≡ true → BareRead i f b c → depth f ≤ limit → holds i full 17 c ≡ true → new_expression (read limit) i b ≡ Some (closed (new_of f none) 18, c)
unfolding new_expression
bare_bare_there {i} {f} {b} {c} limit starts r fits h = rw (no_sign_there (codes ".") b starts refl, bare_found limit r fits h) (constructed_bare (read limit) f 18 c (no_paren i c h))

pub bare_bare_read : {i : Bool} {f : Term} {a b c : Text} → Seen (word (codes "new")) a b → begins (lexeme b) ≡ true → BareRead i f b c → BareRead i (new_of f none) a c
bare_bare_read {i} tok starts r = record {
  utf8 = r.utf8;
  shorter = let s1 = tok.shorter in let s2 = r.shorter in omega arith;
  deep = omega arith;
  ends = refl;
  bare = refl;
  reads = λ limit least fits h. word_there (read limit) i least tok ∙ bare_bare_there limit starts r (omega arith) h;
}

pub bare_construction_read : {i : Bool} {e : Term} {a b : Text} → BareRead i e a b → IsRead i (depth e) (closed e 18) a b
bare_construction_read {i} {e} {b = b} r =
    let ends = r.ends in
    lower_read 17 r.shorter (omega arith) r.deep (is_full ends) (omega arith) (λ h. omega arith) (λ h h'. absurd (omega arith)) (λ h. absurd (omega arith))
    (λ limit least low fits h. r.reads limit least fits (subst (λ x. holds i x 17 b ≡ true) ends h))

target_there : (sub : Goal → Text → Reading Found) (i : Bool) {b c d : Text} → Seen (sign (codes ".")) b c → Seen (word (codes "target")) c d → new_expression sub i b ≡ Some (closed (alone Kind.NewTarget) 21, d)
unfolding new_expression
target_there sub i tok tok' = rw (sees_by (codes ".") tok, tok.after_is, expect_word_read tok')

pub new_target_read : {i : Bool} {a b c d : Text} → Seen (word (codes "new")) a b → Seen (sign (codes ".")) b c → Seen (word (codes "target")) c d → IsRead i 1 (closed (alone Kind.NewTarget) 21) a d
new_target_read {i} tok tok' tok'' = leaf_read refl (let s1 = tok.shorter in let s2 = tok'.shorter in let s3 = tok''.shorter in omega arith) (omega arith) (λ limit least. word_there (read limit) i least tok ∙ target_there (read limit) i tok' tok'')

-- ---- super (13.3.7)

super_dot_there : {e : Term} {b c : Text} (limit : ℕ) (x : LinkRead (codes ".") super_of e b c) → depth e ≤ suc limit → is_private_member e ≡ false → super_expression (read limit) b ≡ Some (closed e 20, c)
unfolding super_expression
super_dot_there limit x fits public = let tok = x.tok in rw (sees_by (codes ".") tok, tok.after_is) (ap (λ r. r >>= super_member (read limit)) (x.reads limit fits) ∙ rw public refl)

super_bracket_there : {e : Term} {b c : Text} (limit : ℕ) (x : LinkRead (codes "[") super_of e b c) → depth e ≤ suc limit → is_private_member e ≡ false → super_expression (read limit) b ≡ Some (closed e 20, c)
unfolding super_expression
super_bracket_there limit x fits public = let tok = x.tok in rw (sees_by (codes ".") tok, sees_by (codes "[") tok, tok.after_is) (ap (λ r. r >>= super_member (read limit)) (x.reads limit fits) ∙ rw public refl)

pub super_dot_read : {i : Bool} {e : Term} {a b c : Text} → Seen (word (codes "super")) a b → LinkRead (codes ".") super_of e b c → is_private_member e ≡ false → IsRead i (depth e) (closed e 20) a c
super_dot_read {i} tok x public =
    let ends = x.ends in
    let link_tok = x.tok in
    let d = x.deep in
    lower_read 21 (let s1 = tok.shorter in let s2 = link_tok.shorter in let s3 = x.shorter in omega arith) (omega arith) (omega arith) (is_full ends) (omega arith) (λ h. omega arith) (λ h h'. absurd (omega arith)) (λ h. omega arith)
    (λ limit least low fits h. word_there (read limit) i least tok ∙ super_dot_there limit x fits public)

pub super_bracket_read : {i : Bool} {e : Term} {a b c : Text} → Seen (word (codes "super")) a b → LinkRead (codes "[") super_of e b c → is_private_member e ≡ false → IsRead i (depth e) (closed e 20) a c
super_bracket_read {i} tok x public =
    let ends = x.ends in
    let link_tok = x.tok in
    let d = x.deep in
    lower_read 21 (let s1 = tok.shorter in let s2 = link_tok.shorter in let s3 = x.shorter in omega arith) (omega arith) (omega arith) (is_full ends) (omega arith) (λ h. omega arith) (λ h h'. absurd (omega arith)) (λ h. omega arith)
    (λ limit least low fits h. word_there (read limit) i least tok ∙ super_bracket_there limit x fits public)

super_call_there : {es : List Term} {b c : Text} (limit : ℕ) (x : ArgumentsRead es b c) → depths (all es) ≤ limit → super_expression (read limit) b ≡ Some (closed (call_link false super_of (all es)) 19, c)
unfolding super_expression
super_call_there limit x fits = let tok = x.tok in rw (sees_by (codes ".") tok, sees_by (codes "[") tok, expect_read tok) (ap (λ r. r >>= at 19) (called_there false super_of limit x fits))

pub super_call_read : {i : Bool} {es : List Term} {a b c : Text} → Seen (word (codes "super")) a b → ArgumentsRead es b c → IsRead i (depth (call_link false super_of (all es))) (closed (call_link false super_of (all es)) 19) a c
super_call_read {i} tok x =
    let link_tok = x.tok in
    lower_read 21 (let s1 = tok.shorter in let s2 = link_tok.shorter in let s3 = x.shorter in omega arith) (omega arith) (omega arith) (is_full refl) (omega arith) (λ h. omega arith) (λ h h'. absurd (omega arith)) (λ h. omega arith)
    (λ limit least low fits h. word_there (read limit) i least tok ∙ super_call_there limit x (omega arith))

-- ---- imports (13.3.10)

meta_there : (sub : Goal → Text → Reading Found) {b c d : Text} → Seen (sign (codes ".")) b c → Seen (word (codes "meta")) c d → import_expression sub b ≡ Some (closed (alone Kind.ImportMeta) 21, d)
unfolding import_expression
meta_there sub tok tok' = rw (sees_by (codes ".") tok, tok.after_is, expect_word_read tok')

pub import_meta_read : {i : Bool} {a b c d : Text} → Seen (word (codes "import")) a b → Seen (sign (codes ".")) b c → Seen (word (codes "meta")) c d → IsRead i 1 (closed (alone Kind.ImportMeta) 21) a d
import_meta_read {i} tok tok' tok'' = leaf_read refl (let s1 = tok.shorter in let s2 = tok'.shorter in let s3 = tok''.shorter in omega arith) (omega arith) (λ limit least. word_there (read limit) i least tok ∙ meta_there (read limit) tok' tok'')

-- the second argument, before the parenthesis that closes
pub record OptionsRead (o : Term) (b c : Text) : Type 0 where
  pub utf8 : IsUtf8 c
  pub short : length c ≤ length b
  -- what stands behind the first argument ends it
  pub end : sees (codes ")") c ≡ true → is_end (lexeme b) ≡ true
  pub reads : (limit : ℕ) → depth o ≤ limit → sees (codes ")") c ≡ true → import_options (read limit) b ≡ Some (o, c)

no_comma_paren : (b : Text) → sees (codes ")") b ≡ true → sees (codes ",") b ≡ false
unfolding sees
no_comma_paren b h = let is = sees_sign (codes ")") b h in rw is refl

no_options_there : (sub : Goal → Text → Reading Found) (b : Text) → sees (codes ")") b ≡ true → import_options sub b ≡ Some (absent, b)
unfolding import_options
no_options_there sub b h = rw (no_comma_paren b h)

pub no_options_read : {b : Text} → IsUtf8 b → OptionsRead absent b b
no_options_read {b} u = record { utf8 = u; short = omega arith; end = λ h. ending_end (codes ")") b refl h; reads = λ limit fits h. no_options_there (read limit) b h }

comma_there : (sub : Goal → Text → Reading Found) {b c : Text} → Seen (sign (codes ",")) b c → sees (codes ")") c ≡ true → import_options sub b ≡ Some (absent, c)
unfolding import_options second_argument
comma_there sub tok h = rw (sees_by (codes ",") tok, tok.after_is, h)

pub no_options_comma_read : {b c : Text} → Seen (sign (codes ",")) b c → OptionsRead absent b c
no_options_comma_read {b} tok = record { utf8 = tok.utf8; short = let s = tok.shorter in omega arith; end = λ h. ending_end (codes ",") b refl (sees_by (codes ",") tok); reads = λ limit fits h. comma_there (read limit) tok h }

options_there : {n : ℕ} {e : Term} {p : Bool} {b c d : Text} (limit : ℕ) → Seen (sign (codes ",")) b c → begins (lexeme c) ≡ true → IsRead true (depth e) (whole e n p) c d → depth e ≤ limit → sees (codes ")") d ≡ true → import_options (read limit) b ≡ Some (e, d)
unfolding import_options second_argument
options_there {e = e} {c = c} {d = d} limit tok starts r fits h = rw (sees_by (codes ",") tok, tok.after_is, no_sign_there (codes ")") c starts refl, right_read r limit fits (end_holds true (edge e) 1 d (ending_end (codes ")") d refl h)), no_comma_paren d h)

pub options_read : {n : ℕ} {e : Term} {p : Bool} {b c d : Text} → Seen (sign (codes ",")) b c → begins (lexeme c) ≡ true → IsRead true (depth e) (whole e n p) c d → IsUtf8 d → OptionsRead e b d
options_read {b = b} tok starts r u = record { utf8 = u; short = let s = tok.shorter in let s' = r.shorter in omega arith; end = λ h. ending_end (codes ",") b refl (sees_by (codes ",") tok); reads = λ limit fits h. options_there limit tok starts r fits h }

options_comma_there : {n : ℕ} {e : Term} {p : Bool} {b c d f : Text} (limit : ℕ) → Seen (sign (codes ",")) b c → begins (lexeme c) ≡ true → IsRead true (depth e) (whole e n p) c d → Seen (sign (codes ",")) d f → depth e ≤ limit → import_options (read limit) b ≡ Some (e, f)
unfolding import_options second_argument
options_comma_there {e = e} {c = c} {d = d} limit tok starts r tok' fits = rw (sees_by (codes ",") tok, tok.after_is, no_sign_there (codes ")") c starts refl, right_read r limit fits (end_holds true (edge e) 1 d (ending_end (codes ",") d refl (sees_by (codes ",") tok'))), sees_by (codes ",") tok', tok'.after_is)

pub options_comma_read : {n : ℕ} {e : Term} {p : Bool} {b c d f : Text} → Seen (sign (codes ",")) b c → begins (lexeme c) ≡ true → IsRead true (depth e) (whole e n p) c d → Seen (sign (codes ",")) d f → OptionsRead e b f
options_comma_read {b = b} tok starts r tok' = record { utf8 = tok'.utf8; short = let s = tok.shorter in let s' = r.shorter in let s'' = tok'.shorter in omega arith; end = λ h. ending_end (codes ",") b refl (sees_by (codes ",") tok); reads = λ limit fits h. options_comma_there limit tok starts r tok' fits }

import_there : {n : ℕ} {e o : Term} {p : Bool} {b c d f g : Text} (limit : ℕ) → Seen (sign (codes "(")) b c → IsRead true (depth e) (whole e n p) c d → OptionsRead o d f → Seen (sign (codes ")")) f g → depth e ≤ limit → depth o ≤ limit → import_expression (read limit) b ≡ Some (closed (of_parts Kind.ImportExpression e o) 19, g)
unfolding import_expression import_call
import_there {e = e} {d = d} limit tok r x tok' fits fits' =
    let closes = sees_by (codes ")") tok' in
    rw (sees_by (codes ".") tok, expect_read tok, right_read r limit fits (end_holds true (edge e) 1 d (x.end closes)), x.reads limit fits' closes, expect_read tok')

pub import_call_read : {i : Bool} {n : ℕ} {e o : Term} {p : Bool} {a b c d f g : Text} → Seen (word (codes "import")) a b → Seen (sign (codes "(")) b c → IsRead true (depth e) (whole e n p) c d → OptionsRead o d f → Seen (sign (codes ")")) f g → IsRead i (depth (of_parts Kind.ImportExpression e o)) (closed (of_parts Kind.ImportExpression e o) 19) a g
import_call_read {i} tok tok' r x tok'' =
    lower_read 21 (let s1 = tok.shorter in let s2 = tok'.shorter in let s3 = r.shorter in let s4 = x.short in let s5 = tok''.shorter in omega arith) (omega arith) (omega arith) (is_full refl) (omega arith) (λ h. omega arith) (λ h h'. absurd (omega arith)) (λ h. omega arith)
    (λ limit least low fits h. word_there (read limit) i least tok ∙ import_there limit tok' r x tok'' (omega arith) (omega arith))
