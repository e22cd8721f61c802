-- Statements with `switch` and `try` that stand in a text are read.
use Rattle.std.proofs.Common.{◌≡◌, ◌≤◌, ◌<◌, ℕ, zero, suc, Bool, true, false, ◌||◌, List, [], ◌∷◌, ◌++◌, length, Some, refl, ◌∙◌, ap, append_assoc, append-nil, arith, codes, subst}
use Rattle.std.specs.Str.{IsUtf8}
use Rattle.js_term.specs.Term.{Text, Term, absent, list, two, all, depth, depths}
use Rattle.js_term.specs.declared.kind.Kind.{Kind}
use Rattle.js_syntax.specs.Parts.{is_present}
use Rattle.js_syntax.specs.Nodes.{of_part, of_parts, three, case_of, try_of}
use Rattle.js_syntax.specs.Printable.{is_switch, is_try}
use Rattle.js_syntax.specs.Tokens.{word, sign}
use Rattle.js_tokens.specs.Next.{lexeme}
use Rattle.js_reading.specs.Reading.{sees, sees_word}
use Rattle.js_reading.specs.Statements.{inner, case_statements, case_test, case_clause, cases, switch_statement, catch_clause, handler, finalizer, try_statement, word_statement, statement}
use Rattle.js_reading.specs.Read.{read}
use Rattle.js_reading.proofs.TokensEnd.{lexeme_sees}
use Rattle.std.proofs.lemmas.Bool.{false≢true}
use Rattle.js_reading.proofs.TokensThere.{Seen, sees_by, sees_word_by, expect_read, expect_word_read}
use Rattle.js_reading.proofs.Lists.{is_end}
use Rattle.js_reading.proofs.Listings.{IsReadExpression, expression_before}
use Rattle.js_reading.proofs.Claims.{IsReadPattern}
use Rattle.js_reading.proofs.Functions.{bound_read}
use Rattle.js_reading.proofs.StatementStarts.{starts, starts_no_sign, starts_no_word, Follows, IsReadStatement, word_there, word_read}
use Rattle.js_reading.proofs.StatementsThere.{IsReadCondition, IsReadBlock, ReadsList, Closes, token_closes, brace_closes, StatementsFollow}

-- ---- the statements of a case

-- where they end
abbrev ends_case : Text → Bool
ends_case a = sees (codes "}") a || sees_word (codes "case") a || sees_word (codes "default") a

case_list : (limit : ℕ) → ReadsList limit ends_case (case_statements (read limit))
unfolding case_statements inner
case_list limit = record {
  stops = λ n found a h. rw h;
  goes = λ n found s a b h part. rw (h, part);
  apart = λ a h. rw (starts_no_sign (codes "}") a h refl, starts_no_word (codes "case") a h refl, starts_no_word (codes "default") a h refl) refl;
}

-- ---- cases

-- `case e` or `default`, before the colon
pub record IsReadTest (e : Term) (a b : Text) : Type 0 where
  pub utf8 : IsUtf8 b
  pub shorter : length b < length a
  pub closes : Closes a
  pub ends : ends_case a ≡ true
  pub no_brace : sees (codes "}") a ≡ false
  pub reads : (limit : ℕ) → depth e ≤ limit → lexeme b ≡ Some (sign (codes ":")) → case_test (read limit) a ≡ Some (e, b)

pub case_test_read : {e : Term} {a b c : Text} → Seen (word (codes "case")) a b → IsReadExpression true e b c → IsReadTest e a c
unfolding case_test
case_test_read {c = c} tok x = record {
  utf8 = x.utf8;
  shorter = let s1 = tok.shorter in let s2 = x.shorter in omega arith;
  closes = token_closes tok refl refl;
  ends = rw (sees_by (codes "}") tok, sees_word_by (codes "case") tok) refl;
  no_brace = sees_by (codes "}") tok;
  reads = λ limit fits colon. rw (sees_word_by (codes "default") tok, expect_word_read tok, expression_before x limit fits (ap is_end colon) (lexeme_sees (codes ",") c _ colon));
}

pub default_test_read : {a b : Text} → Seen (word (codes "default")) a b → IsReadTest absent a b
unfolding case_test
default_test_read tok = record {
  utf8 = tok.utf8;
  shorter = tok.shorter;
  closes = token_closes tok refl refl;
  ends = rw (sees_by (codes "}") tok, sees_word_by (codes "case") tok, sees_word_by (codes "default") tok) refl;
  no_brace = sees_by (codes "}") tok;
  reads = λ limit fits colon. rw (sees_word_by (codes "default") tok, tok.after_is);
}

-- cases up to the brace
pub record IsReadCases (cs : List Term) (a b : Text) : Type 0 where
  pub utf8 : IsUtf8 b
  pub short : length b ≤ length a
  pub closes : sees (codes "}") b ≡ true → Closes a
  pub ends : sees (codes "}") b ≡ true → ends_case a ≡ true
  pub reads : (limit n : ℕ) (found : List Term) → depths (all cs) ≤ limit → length a ≤ n → sees (codes "}") b ≡ true → cases (read limit) n found a ≡ Some (found ++ cs, b)

no_cases_there : {a : Text} (limit n : ℕ) (found : List Term) → Closes a → length a ≤ n → sees (codes "}") a ≡ true → cases (read limit) n found a ≡ Some (found ++ [], a)
unfolding cases
no_cases_there limit zero found closes enough is = absurd (let s = closes.some in omega arith)
no_cases_there limit (suc n) found closes enough is = rw (is, append-nil found)

pub no_cases_read : {a : Text} → IsUtf8 a → IsReadCases [] a a
no_cases_read {a} u = record {
  utf8 = u;
  short = omega arith;
  closes = λ h. brace_closes a u h;
  ends = λ h. rw h refl;
  reads = λ limit n found fits enough is. no_cases_there limit n found (brace_closes a u is) enough is;
}

case_there : {e : Term} {ss : List Term} {a b c d : Text} (limit : ℕ) → IsReadTest e a b → Seen (sign (codes ":")) b c → StatementsFollow ss c d → Closes d → ends_case d ≡ true → depth e ≤ limit → depths (all ss) ≤ limit → case_clause (read limit) a ≡ Some (case_of e ss, d)
unfolding case_clause
case_there {c = c} limit t colon x closes ends fits fits' = rw (t.reads limit fits colon.lexeme_is, expect_read colon, x.listed limit (length c) [] ends_case (case_statements (read limit)) (case_list limit) fits' (omega arith) closes ends)

case_reads : {e : Term} {ss cs : List Term} {a b c d f : Text} → IsReadTest e a b → Seen (sign (codes ":")) b c → StatementsFollow ss c d → IsReadCases cs d f → (limit n : ℕ) (found : List Term) → depths (all (case_of e ss ∷ cs)) ≤ limit → length a ≤ n → sees (codes "}") f ≡ true → cases (read limit) n found a ≡ Some (found ++ case_of e ss ∷ cs, f)
unfolding cases
case_reads t colon x rest limit zero found fits enough is = absurd (let s = t.shorter in omega arith)
case_reads {e} {ss} {cs} t colon x rest limit (suc n) found fits enough is =
    let s1 = t.shorter in
    let s2 = colon.shorter in
    let s3 = x.read.short in
    rw (t.no_brace, case_there limit t colon x (rest.closes is) (rest.ends is) (omega arith) (omega arith), rest.reads limit n (found ++ case_of e ss ∷ []) (omega arith) (omega arith) is, append_assoc found (case_of e ss ∷ []) cs)

pub next_case_read : {e : Term} {ss cs : List Term} {a b c d f : Text} → IsReadTest e a b → Seen (sign (codes ":")) b c → StatementsFollow ss c d → IsReadCases cs d f → IsReadCases (case_of e ss ∷ cs) a f
next_case_read t colon x rest = record {
  utf8 = rest.utf8;
  short = let s1 = t.shorter in let s2 = colon.shorter in let s3 = x.read.short in let s4 = rest.short in omega arith;
  closes = λ h. t.closes;
  ends = λ h. t.ends;
  reads = λ limit n found fits enough is. case_reads t colon x rest limit n found fits enough is;
}

switch_there : {e : Term} {cs : List Term} {a b c d f g : Text} (limit : ℕ) → is_switch (two e (list (all cs))) ≡ true → Seen (word (codes "switch")) a b → IsReadCondition e b c → Seen (sign (codes "{")) c d → IsReadCases cs d f → Seen (sign (codes "}")) f g → depth e ≤ limit → depths (all cs) ≤ limit → word_statement (read limit) (codes "switch") a ≡ Some (of_parts Kind.SwitchStatement e (list (all cs)), g)
unfolding word_statement switch_statement
switch_there {d = d} limit sound t x open' y close fits fits' = rw (t.after_is, x.reads limit fits, expect_read open', y.reads limit (length d) [] fits' (omega arith) (sees_by (codes "}") close), expect_read close, sound)

pub switch_read : {e : Term} {cs : List Term} {a b c d f g : Text} → is_switch (two e (list (all cs))) ≡ true → Seen (word (codes "switch")) a b → IsReadCondition e b c → Seen (sign (codes "{")) c d → IsReadCases cs d f → Seen (sign (codes "}")) f g → IsReadStatement (of_parts Kind.SwitchStatement e (list (all cs))) a g
switch_read sound t x open' y close = word_read t refl (omega arith) close.utf8 (let s2 = x.shorter in let s3 = open'.shorter in let s4 = y.short in let s5 = close.shorter in omega arith) (λ limit fits. switch_there limit sound t x open' y close (omega arith) (omega arith))

-- ---- try

-- a handler, or none where no `catch` follows
pub record IsReadHandler (h : Term) (a b : Text) : Type 0 where
  pub utf8 : IsUtf8 b
  pub short : length b ≤ length a
  pub reads : (limit : ℕ) → depth h ≤ limit → (is_present h ≡ false → sees_word (codes "catch") b ≡ false) → handler (read limit) a ≡ Some (h, b)

pub no_handler_read : {a : Text} → IsUtf8 a → IsReadHandler absent a a
unfolding handler
no_handler_read u = record { utf8 = u; short = omega arith; reads = λ limit fits none. rw (none refl) }

bare_there : {s : Term} {a b c : Text} (limit : ℕ) → Seen (word (codes "catch")) a b → IsReadBlock s b c → depth s ≤ suc limit → handler (read limit) a ≡ Some (of_parts Kind.CatchClause absent s, c)
unfolding handler catch_clause
bare_there {b = b} limit t x fits = rw (sees_word_by (codes "catch") t, t.after_is, lexeme_sees (codes "(") b _ x.opens, x.reads limit fits)

pub bare_handler_read : {s : Term} {a b c : Text} → Seen (word (codes "catch")) a b → IsReadBlock s b c → IsReadHandler (of_parts Kind.CatchClause absent s) a c
bare_handler_read t x = record {
  utf8 = x.utf8;
  short = let s1 = t.shorter in let s2 = x.shorter in omega arith;
  reads = λ limit fits none. bare_there limit t x (omega arith);
}

catch_there : {p s : Term} {a b c d e f : Text} (limit : ℕ) → Seen (word (codes "catch")) a b → Seen (sign (codes "(")) b c → IsReadPattern p c d → Seen (sign (codes ")")) d e → IsReadBlock s e f → depth p ≤ limit → depth s ≤ suc limit → handler (read limit) a ≡ Some (of_parts Kind.CatchClause (of_part Kind.CatchParameter p) s, f)
unfolding handler catch_clause
catch_there limit t open' x close y fits fits' = rw (sees_word_by (codes "catch") t, t.after_is, sees_by (codes "(") open', open'.after_is, bound_read x limit fits, expect_read close, y.reads limit fits')

pub handler_read : {p s : Term} {a b c d e f : Text} → Seen (word (codes "catch")) a b → Seen (sign (codes "(")) b c → IsReadPattern p c d → Seen (sign (codes ")")) d e → IsReadBlock s e f → IsReadHandler (of_parts Kind.CatchClause (of_part Kind.CatchParameter p) s) a f
handler_read t open' x close y = record {
  utf8 = y.utf8;
  short = let s1 = t.shorter in let s2 = open'.shorter in let s3 = x.shorter in let s4 = close.shorter in let s5 = y.shorter in omega arith;
  reads = λ limit fits none. catch_there limit t open' x close y (omega arith) (omega arith);
}

-- a finalizer, or none where no `finally` follows
pub record IsReadFinalizer (f : Term) (a b : Text) : Type 0 where
  pub utf8 : IsUtf8 b
  pub short : length b ≤ length a
  pub no_catch : is_present f ≡ true → sees_word (codes "catch") a ≡ false
  pub reads : (limit : ℕ) → depth f ≤ limit → sees_word (codes "finally") b ≡ false → finalizer (read limit) a ≡ Some (f, b)

pub no_finalizer_read : {a : Text} → IsUtf8 a → IsReadFinalizer absent a a
unfolding finalizer
no_finalizer_read u = record { utf8 = u; short = omega arith; no_catch = λ h. absurd (false≢true h); reads = λ limit fits none. rw none }

finally_there : {s : Term} {a b c : Text} (limit : ℕ) → Seen (word (codes "finally")) a b → IsReadBlock s b c → depth s ≤ suc limit → finalizer (read limit) a ≡ Some (s, c)
unfolding finalizer
finally_there limit t x fits = rw (sees_word_by (codes "finally") t, t.after_is, x.reads limit fits)

pub finalizer_read : {s : Term} {a b c : Text} → Seen (word (codes "finally")) a b → IsReadBlock s b c → IsReadFinalizer s a c
finalizer_read t x = record {
  utf8 = x.utf8;
  short = let s1 = t.shorter in let s2 = x.shorter in omega arith;
  no_catch = λ h. sees_word_by (codes "catch") t;
  reads = λ limit fits none. finally_there limit t x (omega arith);
}

either_there : (h f : Term) → is_present h || is_present f ≡ true → is_present h ≡ false → is_present f ≡ true
either_there h f any none = subst (λ k. k || is_present f ≡ true) none any

try_reads : {s h f : Term} {a b c d e : Text} (limit : ℕ) → is_try (three s h f) ≡ true → Seen (word (codes "try")) a b → IsReadBlock s b c → IsReadHandler h c d → IsReadFinalizer f d e → depth (try_of s h f) ≤ suc limit → Follows e → statement (read limit) a ≡ Some (try_of s h f, e)
unfolding word_statement try_statement
try_reads {s} {h} {f} limit sound t x y z fits w =
    word_there (read limit) t ∙ rw (t.after_is, x.reads limit (omega arith), y.reads limit (omega arith) (λ none. z.no_catch (either_there h f sound none)), z.reads limit (omega arith) w.no_finally, sound)

pub try_read : {s h f : Term} {a b c d e : Text} → is_try (three s h f) ≡ true → Seen (word (codes "try")) a b → IsReadBlock s b c → IsReadHandler h c d → IsReadFinalizer f d e → IsReadStatement (try_of s h f) a e
try_read sound t x y z = record {
  utf8 = z.utf8;
  shorter = let s1 = t.shorter in let s2 = x.shorter in let s3 = y.short in let s4 = z.short in omega arith;
  begun = ap starts t.lexeme_is;
  deep = omega arith;
  reads = λ limit fits w h. try_reads limit sound t x y z fits w;
}
