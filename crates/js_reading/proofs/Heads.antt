-- Loops with `for` that stand in a text are read, by what stands in their heads.
use Rattle.std.proofs.Common.{◌≡◌, ◌≤◌, ◌<◌, ℕ, suc, true, false, ◌&&◌, List, [], ◌∷◌, length, Option, Some, None, inl, refl, ◌∙◌, ap, arith, codes}
use Rattle.std.specs.Str.{IsUtf8}
use Rattle.std.proofs.lemmas.Bool.{not_from_false, and_from, and_left, or_right}
use Rattle.js_term.specs.Term.{Text, is_text, Term, absent, all, depth, depths}
use Rattle.js_term.specs.declared.kind.Kind.{Kind}
use Rattle.js_term.specs.Lexeme.{is_one_of}
use Rattle.js_term.specs.Node.{sequence_of}
use Rattle.js_syntax.specs.Nodes.{variables_of, declarator_of, for_of, for_each}
use Rattle.js_syntax.specs.Printable.{ends_open, is_named}
use Rattle.js_syntax.specs.Tokens.{Lexeme, word, private_name, number, big_integer, string, regexp, no_substitution, template_head, template_middle, template_tail, sign}
use Rattle.js_syntax.specs.Edges.{edge}
use Rattle.js_tokens.specs.Next.{lexeme}
use Rattle.js_reading.specs.declared.goal.Goal.{Goal}
use Rattle.js_reading.specs.declared.goal.Goal.TheVariants as goal
use Rattle.js_reading.specs.Reading.{Found, Reading, ◌>>=◌, sees, sees_word, arrow_here}
use Rattle.js_reading.specs.Statements.{initial, repeated, sees_each, declared_head, more_declarators, found_head, more_expressions, head_by, head, perhaps, for_plain, for_in, for_of_each, for_repeated, for_statement, word_statement, statement}
use Rattle.js_reading.specs.Read.{read}
use Rattle.js_reading.proofs.Each.{no_sign_by}
use Rattle.js_reading.proofs.TokensThere.{Seen, sees_by, sees_word_by, expect_read, expect_word_read}
use Rattle.js_reading.proofs.TokensEnd.{lexeme_sees}
use Rattle.js_reading.proofs.Opens.{begins, begins_by, word_among, no_sign_there}
use Rattle.js_reading.proofs.Lists.{is_ending, is_end, ending_end, sees_sign}
use Rattle.js_reading.proofs.Follows.{tightness, end_holds, tight_holds}
use Rattle.js_reading.proofs.Climbs.{place_found, right_read}
use Rattle.js_reading.proofs.Operations.{word_tight}
use Rattle.js_reading.proofs.Listings.{StandsRead, ExpressionsRead, IsReadExpression, expression_before, found_expression}
use Rattle.js_reading.proofs.Arrows.{TargetRead}
use Rattle.js_reading.proofs.Claims.{IsReadPattern}
use Rattle.js_reading.proofs.Functions.{initializer_before, bound_read}
use Rattle.js_reading.proofs.StatementStarts.{starts, Follows, IsReadStatement, word_there}
use Rattle.js_reading.proofs.StatementsThere.{IsReadEmbedded, embedded_reads}
use Rattle.js_reading.proofs.Declarations.{IsReadDeclarators, last_declarator, and_declarator, reads_declarators, declarators_there}

-- ---- by the first token

found_by : (sub : Goal → Text → Reading Found) (a : Text) (o : Option Lexeme) → begins o ≡ true → head_by sub o a ≡ (sub (goal.Expression 2 false) a >>= found_head sub)
found_by sub a (Some (word x)) h = rw (word_among (codes "var") (Some (word x)) h refl, word_among (codes "let") (Some (word x)) h refl, word_among (codes "const") (Some (word x)) h refl)
found_by sub a None h = refl
found_by sub a (Some (sign s)) h = refl
found_by sub a (Some (private_name x)) h = refl
found_by sub a (Some (number x)) h = refl
found_by sub a (Some (big_integer x)) h = refl
found_by sub a (Some (string x v)) h = refl
found_by sub a (Some (regexp x v)) h = refl
found_by sub a (Some (no_substitution x)) h = refl
found_by sub a (Some (template_head x)) h = refl
found_by sub a (Some (template_middle x)) h = refl
found_by sub a (Some (template_tail x)) h = refl

found_there : (sub : Goal → Text → Reading Found) (a : Text) → begins (lexeme a) ≡ true → head sub a ≡ (sub (goal.Expression 2 false) a >>= found_head sub)
unfolding head
found_there sub a h = rw (no_sign_there (codes ";") a h refl) (found_by sub a (lexeme a) h)

declared_there : (sub : Goal → Text → Reading Found) {kind a b : Text} → is_one_of kind (codes "var" ∷ codes "let" ∷ codes "const" ∷ []) ≡ true → Seen (word kind) a b → head sub a ≡ declared_head sub kind b
unfolding head
declared_there sub is tok = rw (sees_by (codes ";") tok, tok.lexeme_is, is, tok.after_is)

-- ---- what is assigned in turn

-- before `in` or `of`
pub record Repeats (b : Text) : Type 0 where
  pub each : sees_each b ≡ true
  pub loose : tightness false b ≤ 1

pub in_repeats : {b c : Text} → Seen (word (codes "in")) b c → Repeats b
unfolding sees_each
in_repeats tok = record { each = rw (sees_word_by (codes "in") tok) refl; loose = let t = word_tight false (codes "in") tok refl refl in omega arith }

-- an expression begins with no arrow
no_arrow : (a : Text) → begins (lexeme a) ≡ true → arrow_here a ≡ false
unfolding arrow_here
no_arrow a h = and_left (sees (codes "=>") a) _ (no_sign_there (codes "=>") a h refl)

pub of_repeats : {b c : Text} → Seen (word (codes "of")) b c → begins (lexeme c) ≡ true → Repeats b
unfolding sees_each
of_repeats {c = c} tok h = record { each = rw (sees_word_by (codes "in") tok, sees_word_by (codes "of") tok) refl; loose = let t = word_tight false (codes "of") tok refl (rw (tok.after_is) (no_arrow c h)) in omega arith }

pub record IsReadLeft (left : Term) (a b : Text) : Type 0 where
  pub utf8 : IsUtf8 b
  pub shorter : length b < length a
  pub reads : (limit : ℕ) → depth left ≤ limit → Repeats b → head (read limit) a ≡ Some (repeated left, b)

variable_reads : {kind : Text} {p : Term} {a b c : Text} (limit : ℕ) → is_one_of kind (codes "var" ∷ codes "let" ∷ codes "const" ∷ []) ≡ true → Seen (word kind) a b → IsReadPattern p b c → depth p ≤ limit → Repeats c → head (read limit) a ≡ Some (repeated (variables_of kind (declarator_of p absent ∷ [])), c)
unfolding declared_head
variable_reads limit is tok x fits w = declared_there (read limit) is tok ∙ rw (bound_read x limit fits, w.each)

pub left_variable_read : {kind : Text} {p : Term} {a b c : Text} → is_one_of kind (codes "var" ∷ codes "let" ∷ codes "const" ∷ []) ≡ true → Seen (word kind) a b → IsReadPattern p b c → IsReadLeft (variables_of kind (declarator_of p absent ∷ [])) a c
left_variable_read is tok x = record {
  utf8 = x.utf8;
  shorter = let s1 = tok.shorter in let s2 = x.shorter in omega arith;
  reads = λ limit fits w. variable_reads limit is tok x (omega arith) w;
}

target_there : {t : Term} {a b : Text} (x : TargetRead false t a b) (limit : ℕ) → depth t ≤ limit → Repeats b → read limit (goal.Expression 2 false) a ≡ Some (x.found, b)
target_there {b = b} x limit fits w =
    let f = x.found in
    let r = x.read in
    let high = x.high in
    place_found r limit 2 1 (omega arith) (omega arith) (omega arith) (inl (omega arith)) fits (tight_holds false (edge f.tree) f.level 1 b r.ends (omega arith) w.loose)

target_reads : {t : Term} {a b : Text} (limit : ℕ) → begins (lexeme a) ≡ true → TargetRead false t a b → depth t ≤ limit → Repeats b → head (read limit) a ≡ Some (repeated t, b)
unfolding found_head
target_reads {t} {a} limit starts x fits w = found_there (read limit) a starts ∙ rw (target_there x limit fits w, w.each, x.assigned (codes "=") (or_right _ _ refl))

pub left_target_read : {t : Term} {a b : Text} → begins (lexeme a) ≡ true → TargetRead false t a b → IsReadLeft t a b
left_target_read starts x = let r = x.read in record { utf8 = x.utf8; shorter = r.shorter; reads = λ limit fits w. target_reads limit starts x fits w }

-- ---- the first part of a plain one

pub record IsReadInit (init : Term) (a b : Text) : Type 0 where
  pub utf8 : IsUtf8 b
  pub short : length b ≤ length a
  pub reads : (limit : ℕ) → depth init ≤ limit → sees (codes ";") b ≡ true → head (read limit) a ≡ Some (initial init, b)

pub no_init_read : {a : Text} → IsUtf8 a → IsReadInit absent a a
unfolding head
no_init_read u = record { utf8 = u; short = omega arith; reads = λ limit fits h. rw h }

-- behind what a sign ends
record Before (s b : Text) : Type 0 where
  end : is_end (lexeme b) ≡ true
  comma : sees (codes ",") b ≡ is_text s (codes ",")
  no_each : sees_each b ≡ false

before : (s b : Text) → is_ending s ≡ true → sees s b ≡ true → Before s b
unfolding sees_each sees_word
before s b h is = let l = sees_sign s b is in record { end = ending_end s b h is; comma = lexeme_sees (codes ",") b _ l; no_each = rw l refl }

init_variables_there : {ds : List Term} {a b : Text} (limit : ℕ) (kind : Text) → IsReadDeclarators false ds a b → depths (all ds) ≤ limit → sees (codes ";") b ≡ true → declared_head (read limit) kind a ≡ Some (initial (variables_of kind ds), b)
unfolding declared_head more_declarators
init_variables_there {b = b} limit kind (last_declarator x) fits h =
    let w = before (codes ";") b refl h in
    rw (bound_read x.pattern limit (omega arith), x.each w.no_each, initializer_before x.value limit (omega arith) w.end, w.comma)
init_variables_there {b = b} limit kind (and_declarator {b = m} {c = c} x tok rest) fits h =
    let v = before (codes ",") m refl (sees_by (codes ",") tok) in
    let w = before (codes ";") b refl h in
    let r = reads_declarators rest in
    rw (
      bound_read x.pattern limit (omega arith),
      x.each v.no_each,
      initializer_before x.value limit (omega arith) v.end,
      v.comma,
      tok.after_is,
      declarators_there r limit (omega arith) (and_from _ _ (end_holds false (edge r.last) 1 b w.end) (not_from_false _ (no_sign_by is_end (codes "=") b w.end refl))) w.comma,
    )

pub init_variables_read : {kind : Text} {ds : List Term} {a b c : Text} → is_one_of kind (codes "var" ∷ codes "let" ∷ codes "const" ∷ []) ≡ true → Seen (word kind) a b → IsReadDeclarators false ds b c → IsReadInit (variables_of kind ds) a c
init_variables_read {kind} is tok x = let r = reads_declarators x in record {
  utf8 = r.utf8;
  short = let s1 = tok.shorter in let s2 = r.shorter in omega arith;
  reads = λ limit fits h. declared_there (read limit) is tok ∙ init_variables_there limit kind x (omega arith) h;
}

single_reads : {n : ℕ} {e : Term} {a b : Text} (limit : ℕ) → StandsRead false n e a b → begins (lexeme a) ≡ true → depth e ≤ limit → sees (codes ";") b ≡ true → head (read limit) a ≡ Some (initial e, b)
unfolding found_head more_expressions
single_reads {a = a} {b} limit x starts fits h = let w = before (codes ";") b refl h in found_there (read limit) a starts ∙ rw (found_expression x.read limit fits w.end, w.no_each, w.comma)

pub single_init_read : {n : ℕ} {e : Term} {a b : Text} → StandsRead false n e a b → begins (lexeme a) ≡ true → IsReadInit e a b
single_init_read x starts = let r = x.read in record { utf8 = x.utf8; short = let s = r.shorter in omega arith; reads = λ limit fits h. single_reads limit x starts fits h }

sequence_reads : {n : ℕ} {e : Term} {es : List Term} {a b c d : Text} (limit : ℕ) → StandsRead false n e a b → begins (lexeme a) ≡ true → Seen (sign (codes ",")) b c → ExpressionsRead false es c d → depth e ≤ limit → depths (all es) ≤ limit → sees (codes ";") d ≡ true → head (read limit) a ≡ Some (initial (sequence_of (all (e ∷ es))), d)
unfolding found_head more_expressions
sequence_reads {e = e} {a = a} {b} {c} {d} limit x starts tok rest fits fits' h =
    let v = before (codes ",") b refl (sees_by (codes ",") tok) in
    let w = before (codes ";") d refl h in
    let r = rest.reads limit fits' in
    found_there (read limit) a starts
    ∙ rw (found_expression x.read limit fits v.end, v.no_each, v.comma, tok.after_is, r.separated (length c) (e ∷ []) (omega arith) refl (end_holds false _ 1 d w.end) w.comma)

pub sequence_init_read : {n : ℕ} {e : Term} {es : List Term} {a b c d : Text} → StandsRead false n e a b → begins (lexeme a) ≡ true → Seen (sign (codes ",")) b c → ExpressionsRead false es c d → IsReadInit (sequence_of (all (e ∷ es))) a d
sequence_init_read x starts tok rest = let r = x.read in record {
  utf8 = rest.utf8;
  short = let s1 = r.shorter in let s2 = tok.shorter in let s3 = rest.shorter in omega arith;
  reads = λ limit fits h. sequence_reads limit x starts tok rest (omega arith) (omega arith) h;
}

-- ---- its other parts

-- an expression, or nothing, before a sign that ends it
pub record IsReadPerhaps (e : Term) (a b : Text) : Type 0 where
  pub utf8 : IsUtf8 b
  pub short : length b ≤ length a
  pub reads : (limit : ℕ) (s : Text) → depth e ≤ limit → begins_by (sign s) ≡ false → is_ending s ≡ true → is_text s (codes ",") ≡ false → sees s b ≡ true → perhaps (read limit) s a ≡ Some (e, b)

pub perhaps_not_read : {a : Text} → IsUtf8 a → IsReadPerhaps absent a a
unfolding perhaps
perhaps_not_read u = record { utf8 = u; short = omega arith; reads = λ limit s fits other ending apart h. rw h }

pub perhaps_read : {e : Term} {a b : Text} → begins (lexeme a) ≡ true → IsReadExpression true e a b → IsReadPerhaps e a b
unfolding perhaps
perhaps_read {a = a} {b} starts x = record {
  utf8 = x.utf8;
  short = let s = x.shorter in omega arith;
  reads = λ limit s fits other ending apart h. let w = before s b ending h in rw (no_sign_there s a starts other, expression_before x limit fits w.end (w.comma ∙ apart));
}

-- ---- the loops

for_reads : {init test update s : Term} {a b c d e f g h j k : Text} (limit : ℕ) → Seen (word (codes "for")) a b → Seen (sign (codes "(")) b c → IsReadInit init c d → Seen (sign (codes ";")) d e → IsReadPerhaps test e f → Seen (sign (codes ";")) f g → IsReadPerhaps update g h → Seen (sign (codes ")")) h j → IsReadEmbedded s j k → depth (for_of init test update s) ≤ suc limit → Follows k → (sees_word (codes "else") k && ends_open s) ≡ false → statement (read limit) a ≡ Some (for_of init test update s, k)
unfolding word_statement for_statement for_plain
for_reads limit t open' x y z y' z' close r fits w calm =
    word_there (read limit) t ∙ rw (
      t.after_is,
      sees_word_by (codes "await") open',
      expect_read open',
      x.reads limit (omega arith) (sees_by (codes ";") y),
      expect_read y,
      z.reads limit (codes ";") (omega arith) refl refl refl (sees_by (codes ";") y'),
      expect_read y',
      z'.reads limit (codes ")") (omega arith) refl refl refl (sees_by (codes ")") close),
      expect_read close,
      embedded_reads limit r (omega arith) w calm,
    )

pub for_read : {init test update s : Term} {a b c d e f g h j k : Text} → Seen (word (codes "for")) a b → Seen (sign (codes "(")) b c → IsReadInit init c d → Seen (sign (codes ";")) d e → IsReadPerhaps test e f → Seen (sign (codes ";")) f g → IsReadPerhaps update g h → Seen (sign (codes ")")) h j → IsReadEmbedded s j k → IsReadStatement (for_of init test update s) a k
for_read t open' x y z y' z' close r = let q = r.read in record {
  utf8 = q.utf8;
  shorter = let s1 = t.shorter in let s2 = open'.shorter in let s3 = x.short in let s4 = y.shorter in let s5 = z.short in let s6 = y'.shorter in let s7 = z'.short in let s8 = close.shorter in let s9 = q.shorter in omega arith;
  begun = ap starts t.lexeme_is;
  deep = omega arith;
  reads = λ limit fits w calm. for_reads limit t open' x y z y' z' close r fits w calm;
}

for_in_reads : {left right s : Term} {a b c d e f g h : Text} (limit : ℕ) → Seen (word (codes "for")) a b → Seen (sign (codes "(")) b c → IsReadLeft left c d → Seen (word (codes "in")) d e → IsReadExpression true right e f → Seen (sign (codes ")")) f g → IsReadEmbedded s g h → depth (for_each Kind.ForInStatement [] left right s) ≤ suc limit → Follows h → (sees_word (codes "else") h && ends_open s) ≡ false → statement (read limit) a ≡ Some (for_each Kind.ForInStatement [] left right s, h)
unfolding word_statement for_statement for_repeated for_in
for_in_reads limit t open' x k y close r fits w calm =
    word_there (read limit) t ∙ rw (
      t.after_is,
      sees_word_by (codes "await") open',
      expect_read open',
      x.reads limit (omega arith) (in_repeats k),
      sees_word_by (codes "in") k,
      k.after_is,
      expression_before y limit (omega arith) (ap is_end close.lexeme_is) (sees_by (codes ",") close),
      expect_read close,
      embedded_reads limit r (omega arith) w calm,
    )

pub for_in_read : {left right s : Term} {a b c d e f g h : Text} → Seen (word (codes "for")) a b → Seen (sign (codes "(")) b c → IsReadLeft left c d → Seen (word (codes "in")) d e → IsReadExpression true right e f → Seen (sign (codes ")")) f g → IsReadEmbedded s g h → IsReadStatement (for_each Kind.ForInStatement [] left right s) a h
for_in_read t open' x k y close r = let q = r.read in record {
  utf8 = q.utf8;
  shorter = let s1 = t.shorter in let s2 = open'.shorter in let s3 = x.shorter in let s4 = k.shorter in let s5 = y.shorter in let s6 = close.shorter in let s7 = q.shorter in omega arith;
  begun = ap starts t.lexeme_is;
  deep = omega arith;
  reads = λ limit fits w calm. for_in_reads limit t open' x k y close r fits w calm;
}

-- behind `of`
each_reads : {n : ℕ} {right s : Term} {a b c d : Text} (limit : ℕ) (await : Text) (left : Term) → StandsRead true n right a b → Seen (sign (codes ")")) b c → IsReadEmbedded s c d → depth right ≤ limit → depth s ≤ limit → Follows d → (sees_word (codes "else") d && ends_open s) ≡ false → for_of_each (read limit) await left a ≡ Some (for_each Kind.ForOfStatement (await ∷ []) left right s, d)
unfolding for_of_each
each_reads {b = b} limit await left y close r fits fits' w calm = rw (right_read y.read limit fits (end_holds true _ 1 b (ap is_end close.lexeme_is)), expect_read close, embedded_reads limit r fits' w calm)

for_of_reads : {n : ℕ} {left right s : Term} {a b c d e f g h : Text} (limit : ℕ) → is_named (codes "async") left ≡ false → Seen (word (codes "for")) a b → Seen (sign (codes "(")) b c → IsReadLeft left c d → Seen (word (codes "of")) d e → begins (lexeme e) ≡ true → StandsRead true n right e f → Seen (sign (codes ")")) f g → IsReadEmbedded s g h → depth (for_each Kind.ForOfStatement ([] ∷ []) left right s) ≤ suc limit → Follows h → (sees_word (codes "else") h && ends_open s) ≡ false → statement (read limit) a ≡ Some (for_each Kind.ForOfStatement ([] ∷ []) left right s, h)
unfolding word_statement for_statement for_repeated
for_of_reads {left = left} limit named t open' x k begun y close r fits w calm =
    word_there (read limit) t ∙ rw (
      t.after_is,
      sees_word_by (codes "await") open',
      expect_read open',
      x.reads limit (omega arith) (of_repeats k begun),
      sees_word_by (codes "in") k,
      named,
      expect_word_read k,
      each_reads limit [] left y close r (omega arith) (omega arith) w calm,
    )

pub for_of_read : {n : ℕ} {left right s : Term} {a b c d e f g h : Text} → is_named (codes "async") left ≡ false → Seen (word (codes "for")) a b → Seen (sign (codes "(")) b c → IsReadLeft left c d → Seen (word (codes "of")) d e → begins (lexeme e) ≡ true → StandsRead true n right e f → Seen (sign (codes ")")) f g → IsReadEmbedded s g h → IsReadStatement (for_each Kind.ForOfStatement ([] ∷ []) left right s) a h
for_of_read named t open' x k begun y close r = let p = y.read in let q = r.read in record {
  utf8 = q.utf8;
  shorter = let s1 = t.shorter in let s2 = open'.shorter in let s3 = x.shorter in let s4 = k.shorter in let s5 = p.shorter in let s6 = close.shorter in let s7 = q.shorter in omega arith;
  begun = ap starts t.lexeme_is;
  deep = omega arith;
  reads = λ limit fits w calm. for_of_reads limit named t open' x k begun y close r fits w calm;
}

for_await_reads : {n : ℕ} {left right s : Term} {a b c d e f g h j : Text} (limit : ℕ) → Seen (word (codes "for")) a b → Seen (word (codes "await")) b c → Seen (sign (codes "(")) c d → IsReadLeft left d e → Seen (word (codes "of")) e f → begins (lexeme f) ≡ true → StandsRead true n right f g → Seen (sign (codes ")")) g h → IsReadEmbedded s h j → depth (for_each Kind.ForOfStatement (codes "await" ∷ []) left right s) ≤ suc limit → Follows j → (sees_word (codes "else") j && ends_open s) ≡ false → statement (read limit) a ≡ Some (for_each Kind.ForOfStatement (codes "await" ∷ []) left right s, j)
unfolding word_statement for_statement
for_await_reads {left = left} limit t t' open' x k begun y close r fits w calm =
    word_there (read limit) t ∙ rw (
      t.after_is,
      sees_word_by (codes "await") t',
      t'.after_is,
      expect_read open',
      x.reads limit (omega arith) (of_repeats k begun),
      expect_word_read k,
      each_reads limit (codes "await") left y close r (omega arith) (omega arith) w calm,
    )

pub for_await_read : {n : ℕ} {left right s : Term} {a b c d e f g h j : Text} → Seen (word (codes "for")) a b → Seen (word (codes "await")) b c → Seen (sign (codes "(")) c d → IsReadLeft left d e → Seen (word (codes "of")) e f → begins (lexeme f) ≡ true → StandsRead true n right f g → Seen (sign (codes ")")) g h → IsReadEmbedded s h j → IsReadStatement (for_each Kind.ForOfStatement (codes "await" ∷ []) left right s) a j
for_await_read t t' open' x k begun y close r = let p = y.read in let q = r.read in record {
  utf8 = q.utf8;
  shorter = let s0 = t'.shorter in let s1 = t.shorter in let s2 = open'.shorter in let s3 = x.shorter in let s4 = k.shorter in let s5 = p.shorter in let s6 = close.shorter in let s7 = q.shorter in omega arith;
  begun = ap starts t.lexeme_is;
  deep = omega arith;
  reads = λ limit fits w calm. for_await_reads limit t t' open' x k begun y close r fits w calm;
}
