-- Assignments and arrow functions that stand in a text are read.
use Rattle.std.proofs.Common.{◌≡◌, ◌≤◌, ◌<◌, ℕ, suc, Bool, true, false, not, ◌&&◌, ◌||◌, if◌then◌else◌, nat_le, nat_eq, List, [], ◌∷◌, length, Some, refl, sym, subst, ◌∙◌, ap, arith, codes}
use Rattle.std.specs.Str.{IsUtf8}
use Rattle.std.proofs.lemmas.Bool.{false≢true, not-true, eqb-true, le-leb}
use Rattle.js_term.specs.Term.{Text, is_text, Term, node, two, depth}
use Rattle.js_term.specs.declared.kind.Kind.{Kind}
use Rattle.js_term.specs.Lexeme.{is_reserved, is_one_of}
use Rattle.js_syntax.specs.Nodes.{marked}
use Rattle.js_syntax.specs.Texts.{assignment_operators}
use Rattle.js_syntax.specs.Tokens.{word, sign}
use Rattle.js_syntax.specs.Edges.{loose, edge, is_simple_target, is_update, member_level, is_coalesce_left, begins_with_brace}
use Rattle.js_syntax.proofs.Fronts.{same_text, among}
use Rattle.js_reading.specs.declared.goal.Goal.{Goal}
use Rattle.js_reading.specs.declared.goal.Goal.TheVariants as goal
use Rattle.js_reading.specs.Reading.{Found, closed, Reading, sees, same_line, arrow_here}
use Rattle.js_reading.specs.Operators.{sign_binds, sign_gives, sign_needs}
use Rattle.js_reading.specs.Targets.{target_of}
use Rattle.js_reading.specs.Parts.{part}
use Rattle.js_reading.specs.Functions.{body}
use Rattle.js_reading.specs.Expressions.{assigned_in, parameters_in, named_parameters, arrow_body, arrow, parenthesized, async_parenthesized, named, async_by, async_expression, extended, word_prefix, prefix}
use Rattle.js_reading.specs.Read.{read}
use Rattle.js_reading.proofs.TokensThere.{Seen, sees_by, sees_word_by, expect_read}
use Rattle.js_reading.proofs.Opens.{Opens}
use Rattle.js_reading.proofs.Lists.{ReadsGroup}
use Rattle.js_reading.proofs.Follows.{holds, Ends, is_loose}
use Rattle.js_reading.proofs.Climbs.{whole, quiet_other, IsRead, right_read, sign_joins, joined_read, lower_read, ends_low}
use Rattle.js_reading.proofs.Leaves.{not_text, word_there}
use Rattle.js_reading.proofs.Leaves as leaves
use Rattle.js_reading.proofs.Listings.{StandsRead, item_of}

-- ---- assignments (13.15)

-- What stands as a target is read as an expression, or what may become one, and made the target before the operator.
pub record TargetRead (i : Bool) (t : Term) (a b : Text) : Type 0 where
  pub utf8 : IsUtf8 b
  pub found : Found
  pub read : IsRead i (depth t) found a b
  pub high : 19 ≤ found.level
  pub assigned : (op : Text) → is_simple_target t || is_text op (codes "=") ≡ true → assigned_in op found ≡ Some t

simple_target : (t : Term) → is_simple_target t ≡ true → target_of false t ≡ Some t
simple_target (node Kind.Identifier texts ts) h = refl
simple_target (node Kind.StaticMemberExpression texts ts) h = refl
simple_target (node Kind.ComputedMemberExpression texts ts) h = refl
simple_target (node Kind.PrivateFieldExpression texts ts) h = refl
simple_target t h = absurd (false≢true h)

simple_assigned : (op : Text) (t : Term) (n : ℕ) (p : Bool) → is_simple_target t ≡ true → p ≡ false → assigned_in op (whole t n p) ≡ Some t
simple_assigned op t n p is free = rw (free, simple_target t is, is) (go (is_text op (codes "=")))
  where
    go : (b : Bool) → (if b then Some t else Some t) ≡ Some t
    go true = refl
    go false = refl

pub simple_target_read : {i : Bool} {n : ℕ} {t : Term} {a b : Text} → is_simple_target t ≡ true → 19 ≤ n → StandsRead i n t a b → TargetRead i t a b
simple_target_read {n = n} {t = t} is high x = record { utf8 = x.utf8; found = whole t n x.barred; read = x.read; high = high; assigned = λ op h. simple_assigned op t n x.barred is (x.simple is) }

assignment_there : {i : Bool} {n : ℕ} {t e : Term} {q : Bool} {b c d : Text} (limit : ℕ) (f : Found) (op : Text) → is_one_of op assignment_operators ≡ true → assigned_in op f ≡ Some t → Seen (sign op) b c → IsRead i (depth e) (whole e n q) c d → depth e ≤ limit → holds i (edge e) 1 d ≡ true → extended (read limit) i f b ≡ Some (closed (marked Kind.AssignmentExpression op (two t e)) 2, d)
unfolding extended
assignment_there limit f op is h tok r fits e = rw (tok.lexeme_is, is, h, tok.after_is, right_read r limit fits e)

pub assignment_read : {i : Bool} {n : ℕ} {op : Text} {t e : Term} {q : Bool} {a b c d : Text} → is_one_of op assignment_operators ≡ true → is_simple_target t || is_text op (codes "=") ≡ true → TargetRead i t a b → Seen (sign op) b c → IsRead i (depth e) (whole e n q) c d → IsRead i (depth (marked Kind.AssignmentExpression op (two t e))) (closed (marked Kind.AssignmentExpression op (two t e)) 2) a d
assignment_read {i} {n} {op} {t} {e} {q} {a} {b} {c} {d} is allowed x tok r =
    let f = x.found in
    let left = x.read in
    let high = x.high in
    let binds_is : sign_binds op ≡ 2 = eqb-true (sign_binds op) 2 (among (λ s. nat_eq (sign_binds s) 2) assignment_operators op refl is) in
    let needs_is : sign_needs op ≡ 19 = eqb-true (sign_needs op) 19 (among (λ s. nat_eq (sign_needs s) 19) assignment_operators op refl is) in
    joined_read 1 left
    (sign_joins tok (omega arith) (gives_two f.level op is binds_is) (omega arith) (not-true (is_update op) (among (λ s. not (is_update s)) assignment_operators op refl is)) (no_coalesce f.level op is) (not-true (is_text op (codes "=>")) (among (λ s. not (is_text s (codes "=>"))) assignment_operators op refl is)))
    (quiet_other f.tree b (sees_by (codes "(") tok ∙ not-true (is_text op (codes "(")) (among (λ s. not (is_text s (codes "("))) assignment_operators op refl is)))
    (omega arith) (omega arith) (omega arith) (omega arith) (let k = left.calls high in omega arith) (let s = tok.shorter in let s' = r.shorter in omega arith)
    (ends_low r.ends) (omega arith) (λ h. absurd (omega arith)) (λ h. absurd (omega arith)) (λ h. absurd (omega arith))
    (λ limit fits h. assignment_there limit f op is (x.assigned op allowed) tok r (omega arith) h)
  where
    gives_two : (n : ℕ) (op : Text) → is_one_of op assignment_operators ≡ true → sign_binds op ≡ 2 → sign_gives n op ≡ 2
    gives_two n op is e = ap (λ (z : Bool). if z then member_level n else sign_binds op) (not-true (is_one_of op (codes "[" ∷ codes "." ∷ [])) (among (λ s. not (is_one_of s (codes "[" ∷ codes "." ∷ []))) assignment_operators op refl is)) ∙ e

    no_coalesce : (n : ℕ) (op : Text) → is_one_of op assignment_operators ≡ true → not (is_text op (codes "??")) || is_coalesce_left n ≡ true
    no_coalesce n op is = rw (not-true (is_text op (codes "??")) (among (λ s. not (is_text s (codes "??"))) assignment_operators op refl is)) refl

-- ---- what stands behind an arrow (15.3)

pub record ArrowBodyRead (i : Bool) (t : Term) (a b : Text) : Type 0 where
  pub utf8 : IsUtf8 b
  pub shorter : length b < length a
  pub ends : Ends 2 (edge t)
  pub reads : (limit : ℕ) → depth t ≤ limit → holds i (edge t) 1 b ≡ true → arrow_body (read limit) i a ≡ Some (t, b)

block_there : (sub : Goal → Text → Reading Found) (i : Bool) (a : Text) {t : Term} {b : Text} → sees (codes "{") a ≡ true → body sub a ≡ Some (t, b) → arrow_body sub i a ≡ Some (t, b)
unfolding arrow_body
block_there sub i a is h = rw (is, h)

pub block_body_read : {i : Bool} {t : Term} {a b : Text} → IsUtf8 b → length b < length a → edge t ≡ loose → sees (codes "{") a ≡ true → ((limit : ℕ) → depth t ≤ limit → body (read limit) a ≡ Some (t, b)) → ArrowBodyRead i t a b
block_body_read {i} {a = a} u shorter ends is reads = record { utf8 = u; shorter = shorter; ends = is_loose ends (omega arith); reads = λ limit fits h. block_there (read limit) i a is (reads limit fits) }

concise_there : (sub : Goal → Text → Reading Found) (i : Bool) (a : Text) {t : Term} {b : Text} → sees (codes "{") a ≡ false → part sub (goal.Expression 2 i) a ≡ Some (t, b) → arrow_body sub i a ≡ Some (t, b)
unfolding arrow_body
concise_there sub i a is h = rw (is, h)

pub concise_body_read : {i : Bool} {n : ℕ} {e : Term} {a b : Text} → begins_with_brace e ≡ false → Opens e a → StandsRead i n e a b → ArrowBodyRead i e a b
concise_body_read {i} {a = a} free opens x = let r = x.read in record {
  utf8 = x.utf8;
  shorter = r.shorter;
  ends = ends_low r.ends;
  reads = λ limit fits h. let o = opens.brace in concise_there (read limit) i a (sym o ∙ free) (right_read r limit fits h);
}

-- ---- what stands in front of an arrow

-- Reading what stands there goes on behind the arrow.
pub record HeadRead (async : Text) (ps : Term) (a b : Text) : Type 0 where
  pub utf8 : IsUtf8 b
  pub shorter : length b < length a
  pub reads : (i : Bool) (limit least : ℕ) {c : Text} → least ≤ 2 → depth ps ≤ suc limit → same_line b ≡ true → Seen (sign (codes "=>")) b c → prefix (read limit) i least a ≡ arrow (read limit) i async ps c

arrow_there : {i : Bool} {t : Term} {g h : Text} (limit : ℕ) (async : Text) (ps : Term) → ArrowBodyRead i t g h → depth t ≤ limit → holds i (edge t) 1 h ≡ true → arrow (read limit) i async ps g ≡ Some (closed (marked Kind.ArrowFunctionExpression async (two ps t)) 2, h)
unfolding arrow
arrow_there limit async ps x fits h = rw (x.reads limit fits h)

pub arrow_read : {i : Bool} {async : Text} {ps t : Term} {a b c d : Text} → HeadRead async ps a b → same_line b ≡ true → Seen (sign (codes "=>")) b c → ArrowBodyRead i t c d → IsRead i (depth (marked Kind.ArrowFunctionExpression async (two ps t))) (closed (marked Kind.ArrowFunctionExpression async (two ps t)) 2) a d
arrow_read {i} {async} {ps} x line tok y =
    lower_read 1 (let s1 = x.shorter in let s2 = tok.shorter in let s3 = y.shorter in omega arith) (omega arith) (omega arith) y.ends (omega arith) (λ h. absurd (omega arith)) (λ h. absurd (omega arith)) (λ h. absurd (omega arith))
    (λ limit least low fits h. x.reads i limit least low (omega arith) line tok ∙ arrow_there limit async ps y (omega arith) h)

arrow_seen : {b c : Text} → same_line b ≡ true → Seen (sign (codes "=>")) b c → arrow_here b ≡ true
unfolding arrow_here
arrow_seen line tok = rw (sees_by (codes "=>") tok, line) refl

-- one name

named_arrow : (sub : Goal → Text → Reading Found) (i : Bool) (x : Text) {b c : Text} → same_line b ≡ true → Seen (sign (codes "=>")) b c → named sub i x b ≡ arrow sub i [] (named_parameters x) c
unfolding named
named_arrow sub i x line tok = rw (arrow_seen line tok, tok.after_is)

and_no : (p : Bool) → (p && false) ≡ false
and_no true = refl
and_no false = refl

async_name_arrow : (sub : Goal → Text → Reading Found) (i : Bool) (least : ℕ) {b c : Text} → same_line b ≡ true → Seen (sign (codes "=>")) b c → async_expression sub i least b ≡ named sub i (codes "async") b
unfolding async_expression async_by
async_name_arrow sub i least {b} line tok = rw (line, sees_word_by (codes "function") tok, tok.lexeme_is, sees_by (codes "(") tok, and_no (nat_le least 2))

name_head : (sub : Goal → Text → Reading Found) (i : Bool) (least : ℕ) {x a b c : Text} → is_reserved x ≡ false → Seen (word x) a b → same_line b ≡ true → Seen (sign (codes "=>")) b c → prefix sub i least a ≡ arrow sub i [] (named_parameters x) c
name_head sub i least {x} {a} {b} {c} free tok line tok' = word_there sub i least tok ∙ go (is_text x (codes "async")) refl
  where
    go : (t : Bool) → is_text x (codes "async") ≡ t → word_prefix sub i least x b ≡ arrow sub i [] (named_parameters x) c
    go false e = leaves.plain_there sub i least x b free e ∙ named_arrow sub i x line tok'
    go true e = subst (λ (y : Text). word_prefix sub i least y b ≡ arrow sub i [] (named_parameters y) c) (sym (same_text x (codes "async") e)) (async_name_arrow sub i least line tok' ∙ named_arrow sub i (codes "async") line tok')

pub name_head_read : {x a b : Text} → is_reserved x ≡ false → Seen (word x) a b → HeadRead [] (named_parameters x) a b
name_head_read free tok = record { utf8 = tok.utf8; shorter = tok.shorter; reads = λ i limit least low fits line tok'. name_head (read limit) i least free tok line tok' }

async_named_arrow : (sub : Goal → Text → Reading Found) (i : Bool) (least : ℕ) {x b c d : Text} → is_reserved x ≡ false → same_line b ≡ true → Seen (word x) b c → same_line c ≡ true → Seen (sign (codes "=>")) c d → async_expression sub i least b ≡ arrow sub i (codes "async") (named_parameters x) d
unfolding async_expression async_by
async_named_arrow sub i least {x} free line tok line' tok' = rw (line, sees_word_by (codes "function") tok, not_text x (codes "function") free refl, tok.lexeme_is, tok.after_is, free, arrow_seen line' tok', tok'.after_is)

pub async_name_head_read : {x a b c : Text} → is_reserved x ≡ false → Seen (word (codes "async")) a b → same_line b ≡ true → Seen (word x) b c → HeadRead (codes "async") (named_parameters x) a c
async_name_head_read free tok line tok' = record {
  utf8 = tok'.utf8;
  shorter = let s = tok.shorter in let s' = tok'.shorter in omega arith;
  reads = λ i limit least low fits line' arrow'. word_there (read limit) i least tok ∙ async_named_arrow (read limit) i least free line tok' line' arrow';
}

-- parameters in parentheses, which are read as what may become them
pub record ParametersRead (ps : Term) (a b : Text) : Type 0 where
  pub rest : Text
  pub last : Text
  pub found : List Found
  pub comma : Bool
  pub open' : Seen (sign (codes "(")) a rest
  pub close : Seen (sign (codes ")")) last b
  pub parameters_are : parameters_in found comma ≡ Some ps
  pub reads : (limit : ℕ) → depth ps ≤ suc limit → ReadsGroup (item_of false limit) found comma rest last

parenthesized_arrow : (i : Bool) (limit least : ℕ) {ps : Term} {a b c : Text} (x : ParametersRead ps a b) → depth ps ≤ suc limit → same_line b ≡ true → Seen (sign (codes "=>")) b c → prefix (read limit) i least a ≡ arrow (read limit) i [] ps c
unfolding prefix parenthesized
parenthesized_arrow i limit least x fits line tok =
    let o = x.open' in
    let r = x.reads limit fits in
    let h = x.parameters_are in
    rw (o.lexeme_is, o.after_is, r.reads (codes ")") refl (sees_by (codes ")") x.close), expect_read x.close, arrow_seen line tok, h, tok.after_is)

parameters_shorter : {ps : Term} {a b : Text} → ParametersRead ps a b → length b < length a
parameters_shorter {ps} x =
    let o = x.open' in
    let k = x.close in
    let r = x.reads (depth ps) (omega arith) in
    let s1 = o.shorter in
    let s2 = k.shorter in
    let s3 = r.short in
    omega arith

parameters_utf8 : {ps : Term} {a b : Text} → ParametersRead ps a b → IsUtf8 b
parameters_utf8 x = let k = x.close in k.utf8

pub parameters_head_read : {ps : Term} {a b : Text} → ParametersRead ps a b → HeadRead [] ps a b
parameters_head_read x = record { utf8 = parameters_utf8 x; shorter = parameters_shorter x; reads = λ i limit least low fits line tok. parenthesized_arrow i limit least x fits line tok }

async_parameters : (i : Bool) (limit least : ℕ) {ps : Term} {b c d : Text} (x : ParametersRead ps b c) → least ≤ 2 → depth ps ≤ suc limit → same_line b ≡ true → same_line c ≡ true → Seen (sign (codes "=>")) c d → async_expression (read limit) i least b ≡ arrow (read limit) i (codes "async") ps d
unfolding async_expression async_by async_parenthesized
async_parameters i limit least x low fits line line' tok =
    let o = x.open' in
    let r = x.reads limit fits in
    let h = x.parameters_are in
    rw (line, sees_word_by (codes "function") o, o.lexeme_is, le-leb least 2 low, sees_by (codes "(") o, o.after_is, r.reads (codes ")") refl (sees_by (codes ")") x.close), expect_read x.close, arrow_seen line' tok, h, tok.after_is)

pub async_parameters_head_read : {ps : Term} {a b c : Text} → Seen (word (codes "async")) a b → same_line b ≡ true → ParametersRead ps b c → HeadRead (codes "async") ps a c
async_parameters_head_read tok line x = record {
  utf8 = parameters_utf8 x;
  shorter = let s = tok.shorter in let s' = parameters_shorter x in omega arith;
  reads = λ i limit least low fits line' arrow'. word_there (read limit) i least tok ∙ async_parameters i limit least x low fits line line' arrow';
}
