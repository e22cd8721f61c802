-- Statements that stand in a text are read, from what is read of their parts.
use Rattle.std.proofs.Common.{◌≡◌, ◌≤◌, ◌<◌, ℕ, zero, suc, Bool, true, false, ◌&&◌, List, [], ◌∷◌, ◌++◌, length, Some, refl, sym, ◌∙◌, ap, append_assoc, append-nil, arith, codes}
use Rattle.std.specs.Str.{IsUtf8}
use Rattle.js_term.specs.Term.{Text, Term, absent, list, node, all, depth, depths}
use Rattle.js_term.specs.declared.kind.Kind.{Kind}
use Rattle.js_syntax.specs.Nodes.{of_parts, block_of, if_of}
use Rattle.js_syntax.specs.Printable.{ends_open}
use Rattle.js_syntax.specs.Tokens.{word, sign, Lexeme}
use Rattle.js_syntax.specs.Edges.{is_body}
use Rattle.js_syntax.specs.Spelling.{DoEnd}
use Rattle.js_tokens.specs.Next.{lexeme}
use Rattle.js_reading.specs.declared.goal.Goal.TheVariants as goal
use Rattle.js_reading.specs.Reading.{closed, Reading, sees, sees_word, is_word}
use Rattle.js_reading.specs.Functions.{statements}
use Rattle.js_reading.specs.Statements.{inner, embedded, condition, block, alternate, if_statement, while_statement, do_statement, word_statement, statement}
use Rattle.js_reading.specs.Read.{read}
use Rattle.js_reading.proofs.TokensThere.{Seen, sees_by, sees_word_by, expect_read, expect_word_read, see_sign}
use Rattle.js_reading.proofs.TokensEnd.{do_end_read, do_end_utf8, do_end_short}
use Rattle.js_reading.proofs.Each.{seen}
use Rattle.js_reading.proofs.Lists.{is_end}
use Rattle.js_reading.proofs.Listings.{IsReadExpression, expression_before}
use Rattle.js_reading.proofs.Claims.{IsReadStatements}
use Rattle.js_reading.proofs.Functions.{closed_statements}
use Rattle.js_reading.proofs.StatementStarts.{starts, starts_no_sign, starts_no_word, Follows, starts_follow, token_follows, IsReadStatement, goes_behind, word_there}

-- ---- a statement as a part

statement_goal : {s : Term} {a b : Text} → IsReadStatement s a b → (limit : ℕ) → depth s ≤ limit → Follows b → (sees_word (codes "else") b && ends_open s) ≡ false → read limit goal.Statement a ≡ Some (closed s 0, b)
unfolding read
statement_goal r zero fits w h = absurd (let s = r.deep in omega arith)
statement_goal r (suc limit) fits w h = rw (r.reads limit fits w h)

pub statement_part : {s : Term} {a b : Text} → IsReadStatement s a b → (limit : ℕ) → depth s ≤ limit → Follows b → (sees_word (codes "else") b && ends_open s) ≡ false → inner (read limit) a ≡ Some (s, b)
unfolding inner
statement_part r limit fits w h = rw (statement_goal r limit fits w h)

pub record IsReadEmbedded (s : Term) (a b : Text) : Type 0 where
  pub body : is_body s ≡ true
  pub read : IsReadStatement s a b

pub embedded_read : {s : Term} {a b : Text} → is_body s ≡ true → IsReadStatement s a b → IsReadEmbedded s a b
embedded_read h r = record { body = h; read = r }

pub embedded_reads : {s : Term} {a b : Text} (limit : ℕ) → IsReadEmbedded s a b → depth s ≤ limit → Follows b → (sees_word (codes "else") b && ends_open s) ≡ false → embedded (read limit) a ≡ Some (s, b)
unfolding embedded
embedded_reads limit r fits w h = rw (statement_part r.read limit fits w h, r.body)

-- ( e )
condition_reads : {e : Term} {a b c d : Text} (limit : ℕ) → Seen (sign (codes "(")) a b → IsReadExpression true e b c → Seen (sign (codes ")")) c d → depth e ≤ limit → condition (read limit) a ≡ Some (e, d)
unfolding condition
condition_reads limit open' x close fits = rw (expect_read open', expression_before x limit fits (ap is_end close.lexeme_is) (sees_by (codes ",") close), expect_read close)

-- where both are asked for, one is not
no_both : (p q : Bool) → p ≡ false → (p && q) ≡ false
no_both true q h = absurd (cc)
no_both false q h = refl

only_left : (p : Bool) → (p && true) ≡ false → p ≡ false
only_left true h = h
only_left false h = refl

-- ---- blocks

block_reads : {ss : List Term} {a b c d : Text} (limit : ℕ) → Seen (sign (codes "{")) a b → IsReadStatements ss b c → Seen (sign (codes "}")) c d → depths (all ss) ≤ limit → block (read limit) a ≡ Some (block_of ss, d)
unfolding block
block_reads limit open' r close fits = rw (expect_read open', closed_statements r close limit fits)

pub record IsReadBlock (s : Term) (a b : Text) : Type 0 where
  pub utf8 : IsUtf8 b
  pub shorter : length b < length a
  pub deep : 0 < depth s
  pub opens : lexeme a ≡ Some (sign (codes "{"))
  pub reads : (limit : ℕ) → depth s ≤ suc limit → block (read limit) a ≡ Some (s, b)

pub block_read : {ss : List Term} {a b c d : Text} → Seen (sign (codes "{")) a b → IsReadStatements ss b c → Seen (sign (codes "}")) c d → IsReadBlock (block_of ss) a d
block_read open' r close = record {
  utf8 = close.utf8;
  shorter = let s = open'.shorter in let k = r.short in let z = close.shorter in omega arith;
  deep = omega arith;
  opens = open'.lexeme_is;
  reads = λ limit fits. block_reads limit open' r close (omega arith);
}

block_there : {s : Term} {a b : Text} (limit : ℕ) → IsReadBlock s a b → depth s ≤ suc limit → statement (read limit) a ≡ Some (s, b)
unfolding statement
block_there limit x fits = rw x.opens (x.reads limit fits)

pub block_statement_read : {s : Term} {a b : Text} → IsReadBlock s a b → IsReadStatement s a b
block_statement_read x = record { utf8 = x.utf8; shorter = x.shorter; begun = ap starts x.opens; deep = x.deep; reads = λ limit fits w h. block_there limit x fits }

-- ---- lists of statements

-- what reads statements up to where a list of them ends
pub record ReadsList (limit : ℕ) (ends : Text → Bool) (reader : ℕ → List Term → Text → Reading (List Term)) : Type 0 where
  pub stops : (n : ℕ) (found : List Term) (a : Text) → ends a ≡ true → reader (suc n) found a ≡ Some (found, a)
  pub goes : (n : ℕ) (found : List Term) (s : Term) (a b : Text) → ends a ≡ false → read limit goal.Statement a ≡ Some (closed s 0, b) → reader (suc n) found a ≡ reader n (found ++ s ∷ []) b
  pub apart : (a : Text) → starts (lexeme a) ≡ true → ends a ≡ false

-- where one ends, something is left that goes on with no statement
pub record Closes (b : Text) : Type 0 where
  pub some : 0 < length b
  pub follows : Follows b
  pub no_else : sees_word (codes "else") b ≡ false

pub token_closes : {l : Lexeme} {b c : Text} → Seen l b c → goes_behind (Some l) ≡ false → is_word (codes "else") (Some l) ≡ false → Closes b
token_closes t h h' = record { some = let s = t.shorter in omega arith; follows = token_follows t h; no_else = sees_word_by (codes "else") t ∙ h' }

-- up to the brace
braced_list : (limit : ℕ) → ReadsList limit (sees (codes "}")) (statements (read limit))
unfolding statements
braced_list limit = record {
  stops = λ n found a h. rw h;
  goes = λ n found s a b h part. rw (h, part);
  apart = λ a h. starts_no_sign (codes "}") a h refl;
}

pub brace_closes : (b : Text) → IsUtf8 b → sees (codes "}") b ≡ true → Closes b
brace_closes b u h = token_closes (see_sign (seen (codes "}") b u h).token u) refl refl

-- statements are read, whatever ends the list of them
abbrev pub IsListed : List Term → Text → Text → Type 0
IsListed ss a b =
    (limit n : ℕ) (found : List Term) (ends : Text → Bool) (reader : ℕ → List Term → Text → Reading (List Term)) → ReadsList limit ends reader → depths (all ss) ≤ limit → length a ≤ n → Closes b → ends b ≡ true → reader n found a ≡ Some (found ++ ss, b)

-- statements behind which nothing goes on with them
pub record StatementsFollow (ss : List Term) (a b : Text) : Type 0 where
  pub read : IsReadStatements ss a b
  pub calm : sees_word (codes "else") b ≡ false → sees_word (codes "else") a ≡ false
  pub follows : Follows b → Follows a
  pub listed : IsListed ss a b

braced : {ss : List Term} {a b : Text} → IsUtf8 b → length b ≤ length a → IsListed ss a b → IsReadStatements ss a b
braced {b = b} u short listed = record { utf8 = u; short = short; reads = λ limit n found fits enough is. listed limit n found (sees (codes "}")) (statements (read limit)) (braced_list limit) fits enough (brace_closes b u is) is }

none_listed : {a : Text} → IsListed [] a a
none_listed {a} limit zero found ends reader by fits enough closes is = absurd (let s = closes.some in omega arith)
none_listed {a} limit (suc n) found ends reader by fits enough closes is = by.stops n found a is ∙ ap (λ ss. Some (ss, a)) (sym (append-nil found))

pub no_statements_read : {a : Text} → IsUtf8 a → StatementsFollow [] a a
no_statements_read u = record { read = braced u (omega arith) none_listed; calm = λ h. h; follows = λ h. h; listed = none_listed }

next_listed : {s : Term} {ss : List Term} {a b c : Text} → IsReadStatement s a b → StatementsFollow ss b c → IsListed (s ∷ ss) a c
next_listed r rest limit zero found ends reader by fits enough closes is = absurd (let s = r.shorter in omega arith)
next_listed {s} {ss} {a} {b} {c} r rest limit (suc n) found ends reader by fits enough closes is =
    let s1 = r.shorter in
    let part = statement_goal r limit (omega arith) (rest.follows closes.follows) (no_both (sees_word (codes "else") b) (ends_open s) (rest.calm closes.no_else)) in
    by.goes n found s a b (by.apart a r.begun) part
    ∙ rest.listed limit n (found ++ s ∷ []) ends reader by (omega arith) (omega arith) closes is
    ∙ ap (λ ts. Some (ts, c)) (append_assoc found (s ∷ []) ss)

pub next_statement_read : {s : Term} {ss : List Term} {a b c : Text} → IsReadStatement s a b → StatementsFollow ss b c → StatementsFollow (s ∷ ss) a c
next_statement_read {a = a} r rest = record {
  read = braced rest.read.utf8 (let s = r.shorter in let k = rest.read.short in omega arith) (next_listed r rest);
  calm = λ h. starts_no_word (codes "else") a r.begun refl;
  follows = λ h. starts_follow a r.begun;
  listed = next_listed r rest;
}

-- ---- if and the loops

pub record IsReadCondition (e : Term) (a d : Text) : Type 0 where
  pub utf8 : IsUtf8 d
  pub shorter : length d < length a
  pub reads : (limit : ℕ) → depth e ≤ limit → condition (read limit) a ≡ Some (e, d)

pub condition_read : {e : Term} {a b c d : Text} → Seen (sign (codes "(")) a b → IsReadExpression true e b c → Seen (sign (codes ")")) c d → IsReadCondition e a d
condition_read open' x close = record {
  utf8 = close.utf8;
  shorter = let s1 = open'.shorter in let s2 = x.shorter in let s3 = close.shorter in omega arith;
  reads = λ limit fits. condition_reads limit open' x close fits;
}

if_reads : {e s : Term} {a b c d : Text} (limit : ℕ) → Seen (word (codes "if")) a b → IsReadCondition e b c → IsReadEmbedded s c d → depth e ≤ limit → depth s ≤ limit → Follows d → sees_word (codes "else") d ≡ false → statement (read limit) a ≡ Some (if_of e s absent, d)
unfolding word_statement if_statement alternate
if_reads {s = s} {d = d} limit t x y fits fits' w calm = word_there (read limit) t ∙ rw (t.after_is, x.reads limit fits, embedded_reads limit y fits' w (no_both (sees_word (codes "else") d) (ends_open s) calm), calm)

pub if_read : {e s : Term} {a b c d : Text} → Seen (word (codes "if")) a b → IsReadCondition e b c → IsReadEmbedded s c d → IsReadStatement (if_of e s absent) a d
if_read t x y = let r = y.read in record {
  utf8 = r.utf8;
  shorter = let s1 = t.shorter in let s2 = x.shorter in let s3 = r.shorter in omega arith;
  begun = ap starts t.lexeme_is;
  deep = omega arith;
  reads = λ limit fits w h. if_reads limit t x y (omega arith) (omega arith) w (only_left _ h);
}

while_reads : {e s : Term} {a b c d : Text} (limit : ℕ) → Seen (word (codes "while")) a b → IsReadCondition e b c → IsReadEmbedded s c d → depth e ≤ limit → depth s ≤ limit → Follows d → (sees_word (codes "else") d && ends_open s) ≡ false → statement (read limit) a ≡ Some (of_parts Kind.WhileStatement e s, d)
unfolding word_statement while_statement
while_reads limit t x y fits fits' w h = word_there (read limit) t ∙ rw (t.after_is, x.reads limit fits, embedded_reads limit y fits' w h)

pub while_read : {e s : Term} {a b c d : Text} → Seen (word (codes "while")) a b → IsReadCondition e b c → IsReadEmbedded s c d → IsReadStatement (of_parts Kind.WhileStatement e s) a d
while_read t x y = let r = y.read in record {
  utf8 = r.utf8;
  shorter = let s1 = t.shorter in let s2 = x.shorter in let s3 = r.shorter in omega arith;
  begun = ap starts t.lexeme_is;
  deep = omega arith;
  reads = λ limit fits w h. while_reads limit t x y (omega arith) (omega arith) w h;
}

do_reads : {e s : Term} {a b c d f g : Text} (limit : ℕ) → Seen (word (codes "do")) a b → IsReadEmbedded s b c → Seen (word (codes "while")) c d → IsReadCondition e d f → DoEnd f g → depth e ≤ limit → depth s ≤ limit → statement (read limit) a ≡ Some (of_parts Kind.DoWhileStatement s e, g)
unfolding word_statement do_statement
do_reads {s = s} {c = c} limit t y t' x end fits fits' =
    word_there (read limit) t ∙ rw (t.after_is, embedded_reads limit y fits' (token_follows t' refl) (no_both (sees_word (codes "else") c) (ends_open s) (sees_word_by (codes "else") t')), expect_word_read t', x.reads limit fits, do_end_read end x.utf8)

pub do_read : {e s : Term} {a b c d f g : Text} → Seen (word (codes "do")) a b → IsReadEmbedded s b c → Seen (word (codes "while")) c d → IsReadCondition e d f → DoEnd f g → IsReadStatement (of_parts Kind.DoWhileStatement s e) a g
do_read t y t' x end = let r = y.read in record {
  utf8 = do_end_utf8 end x.utf8;
  shorter = let s1 = t.shorter in let s2 = r.shorter in let s3 = t'.shorter in let s4 = x.shorter in let s5 = do_end_short end x.utf8 in omega arith;
  begun = ap starts t.lexeme_is;
  deep = omega arith;
  reads = λ limit fits w h. do_reads limit t y t' x end (omega arith) (omega arith);
}

present_ends : (e s t : Term) → 0 < depth t → ends_open (if_of e s t) ≡ ends_open t
present_ends e s absent h = absurd (omega arith)
present_ends e s (list ts) h = refl
present_ends e s (node k texts ts) h = refl

if_else_reads : {e s t : Term} {a b c d f g : Text} (limit : ℕ) → ends_open s ≡ false → Seen (word (codes "if")) a b → IsReadCondition e b c → IsReadEmbedded s c d → Seen (word (codes "else")) d f → IsReadEmbedded t f g → depth e ≤ limit → depth s ≤ limit → depth t ≤ limit → Follows g → (sees_word (codes "else") g && ends_open t) ≡ false → statement (read limit) a ≡ Some (if_of e s t, g)
unfolding word_statement if_statement alternate
if_else_reads {s = s} {d = d} limit shut t x y t' z fits fits' fits'' w h =
    word_there (read limit) t ∙ rw (t.after_is, x.reads limit fits, embedded_reads limit y fits' (token_follows t' refl) (shut_in (sees_word (codes "else") d) shut), sees_word_by (codes "else") t', t'.after_is, embedded_reads limit z fits'' w h, shut)
  where
    shut_in : (p : Bool) → ends_open s ≡ false → (p && ends_open s) ≡ false
    shut_in true e = e
    shut_in false e = refl

pub if_else_read : {e s t : Term} {a b c d f g : Text} → ends_open s ≡ false → Seen (word (codes "if")) a b → IsReadCondition e b c → IsReadEmbedded s c d → Seen (word (codes "else")) d f → IsReadEmbedded t f g → IsReadStatement (if_of e s t) a g
if_else_read {e} {s} {t} {g = g} shut w x y w' z = let r = y.read in let q = z.read in record {
  utf8 = q.utf8;
  shorter = let s1 = w.shorter in let s2 = x.shorter in let s3 = r.shorter in let s4 = w'.shorter in let s5 = q.shorter in omega arith;
  begun = ap starts w.lexeme_is;
  deep = omega arith;
  reads = λ limit fits v h. if_else_reads limit shut w x y w' z (omega arith) (omega arith) (omega arith) v (ap (λ (k : Bool). sees_word (codes "else") g && k) (sym (present_ends e s t q.deep)) ∙ h);
}
