-- Bodies that stand in a text are read: their directives end where no string token alone begins a statement.
use Rattle.std.proofs.Common.{◌≡◌, ◌≤◌, ℕ, zero, suc, Bool, true, false, if◌then◌else◌, List, [], ◌∷◌, ◌++◌, length, Some, None, refl, sym, ◌∙◌, ap, arith, codes}
use Rattle.std.specs.Str.{IsUtf8}
use Rattle.std.proofs.lemmas.Bool.{false≢true}
use Rattle.js_term.specs.Term.{Text, Term, all, depths}
use Rattle.js_term.specs.Node.{string_of, statement_of}
use Rattle.js_syntax.specs.Nodes.{body_node}
use Rattle.js_syntax.specs.Tokens.{string, sign}
use Rattle.js_syntax.specs.Edges.{full, loose, edge, is_string_statement, begins_with_string}
use Rattle.js_syntax.specs.Spelling as spell
use Rattle.js_syntax.specs.Spelling.{Semicolon, Directives, Body}
use Rattle.js_tokens.specs.Next.{lexeme, after}
use Rattle.js_reading.specs.declared.goal.Goal.{Goal}
use Rattle.js_reading.specs.declared.goal.Goal.TheVariants as goal
use Rattle.js_reading.specs.Reading.{Found, closed, Reading, ◌>>=◌, sees}
use Rattle.js_reading.specs.Functions.{directive_by, statements}
use Rattle.js_reading.specs.Statements.{effect, statement}
use Rattle.js_reading.specs.Read.{read}
use Rattle.js_reading.proofs.TokensThere.{Seen, see, sees_by}
use Rattle.js_reading.proofs.TokensEnd.{lexeme_sees, semicolon_read, semicolon_utf8, semicolon_short}
use Rattle.js_reading.proofs.Opens.{begins}
use Rattle.js_reading.proofs.Leaves.{string_read}
use Rattle.js_reading.proofs.Listings.{stands, single_read}
use Rattle.js_reading.proofs.Claims.{IsReadStatements}
use Rattle.js_reading.proofs.Jumping as jumping
use Rattle.js_reading.proofs.SoundFunctions.{Directed, directive_each}
use Rattle.js_reading.proofs.Functions.{IsReadDirectives, no_directives_read, directive_read, IsReadBody, body_read}
use Rattle.js_reading.proofs.Arrows.{ArrowBodyRead, block_body_read}

-- ---- a string token alone, as a statement

alone_there : {raw v a b c : Text} → Seen (string raw v) a b → Semicolon full b c → (limit : ℕ) → 1 ≤ limit → statement (read limit) a ≡ Some (statement_of (string_of v), c)
unfolding statement effect
alone_there x end limit fits = rw (x.lexeme_is, jumping.ended_expression (single_read (stands (string_read x) x.utf8) (ap begins x.lexeme_is)) end limit fits)

alone_goal : {raw v a b c : Text} → Seen (string raw v) a b → Semicolon full b c → (limit : ℕ) → 2 ≤ limit → read limit goal.Statement a ≡ Some (closed (statement_of (string_of v)) 0, c)
unfolding read
alone_goal x end zero fits = absurd (omega arith)
alone_goal x end (suc limit) fits = rw (alone_there x end limit (omega arith))

-- a directive that stands at the front, with what is read there as a statement
pub record DirectiveThere (a : Text) : Type 0 where
  pub raw : Text
  pub value : Text
  pub behind : Text
  pub rest : Text
  pub token : Seen (string raw value) a behind
  pub reads : (limit : ℕ) → 2 ≤ limit → read limit goal.Statement a ≡ Some (closed (statement_of (string_of value)) 0, rest)

directive_seen : {raw a b : Text} → Directed raw a b → IsUtf8 a → DirectiveThere a
directive_seen {raw} {b = b} d u = let x = see d.token u refl in record { raw = raw; value = d.value; behind = d.middle; rest = b; token = x; reads = λ limit fits. alone_goal x d.end limit fits }

-- no directive is there where that cannot be
pub no_directive_by : {a : Text} → IsUtf8 a → (DirectiveThere a → ⊥) → directive_by (lexeme a) (after a) ≡ None
no_directive_by {a} u none' = go (directive_by (lexeme a) (after a)) refl
  where
    go : (r : Reading Text) → directive_by (lexeme a) (after a) ≡ r → directive_by (lexeme a) (after a) ≡ None
    go None is = is
    go (Some p) is = absurd (none' (directive_seen ((directive_each a u).holds p.0 p.1 is) u))

-- ---- the first of the statements that are read

abbrev first_string : Reading (List Term) → Bool
first_string None = false
first_string (Some p) = begins_with_string p.0

first_kept : (sub : Goal → Text → Reading Found) (n : ℕ) (t : Term) (found ys : List Term) (a b : Text) → statements sub n (t ∷ found) a ≡ Some (ys, b) → is_string_statement t ≡ begins_with_string ys
unfolding statements
first_kept sub zero t found ys a b h = absurd (cc)
first_kept sub (suc n) t found ys a b h = go (λ fs c e. first_kept sub n t fs ys c b e) (sees (codes "}") a) (sub goal.Statement a) h
  where
    go : ((fs : List Term) (c : Text) → statements sub n (t ∷ fs) c ≡ Some (ys, b) → is_string_statement t ≡ begins_with_string ys) → (k : Bool) (r : Reading Found) → (if k then Some (t ∷ found, a) else (r >>= λ f c. statements sub n (t ∷ (found ++ f.tree ∷ [])) c)) ≡ Some (ys, b) → is_string_statement t ≡ begins_with_string ys
    go again true r e = ap first_string e
    go again false None e = absurd (cc)
    go again false (Some p) e = again (found ++ p.0.tree ∷ []) p.1 e

turned : (sub : Goal → Text → Reading Found) (n : ℕ) (t : Term) {a b : Text} → sees (codes "}") a ≡ false → sub goal.Statement a ≡ Some (closed t 0, b) → statements sub (suc n) [] a ≡ statements sub n (t ∷ []) b
unfolding statements
turned sub n t open' is = rw (open', is)

string_first : {ss : List Term} {a b : Text} → DirectiveThere a → IsReadStatements ss a b → sees (codes "}") b ≡ true → begins_with_string ss ≡ true
string_first {ss} {a} {b} d r close =
    let limit = suc (suc (depths (all ss))) in
    let t = statement_of (string_of d.value) in
    let whole = r.reads limit (suc (length a)) [] (omega arith) (omega arith) close in
    sym (first_kept (read limit) (length a) t [] ss d.rest b (sym (turned (read limit) (length a) t (sees_by (codes "}") d.token) (d.reads limit (omega arith))) ∙ whole))

-- Where the first statement is no string token alone, no directive stands.
pub no_directive_there : {ss : List Term} {a b : Text} → IsUtf8 a → IsReadStatements ss a b → sees (codes "}") b ≡ true → begins_with_string ss ≡ false → directive_by (lexeme a) (after a) ≡ None
no_directive_there u r close free = no_directive_by u (λ d. false≢true (sym free ∙ string_first d r close))

-- ---- directives and bodies

pub directives_text_read : {ds : List Term} {a b : Text} → Directives ds a b → IsUtf8 a → IsReadDirectives ds a b
directives_text_read spell.no_directives u = no_directives_read u
directives_text_read (spell.directive tok end rest) u = let x = see tok u refl in let r = directives_text_read rest (semicolon_utf8 end x.utf8) in directive_read x (semicolon_read end x.utf8) (semicolon_short end x.utf8) r

pub body_text : {ds ss : List Term} {a b c d e : Text} → begins_with_string ss ≡ false → Seen (sign (codes "{")) a b → IsReadDirectives ds b c → IsReadStatements ss c d → Seen (sign (codes "}")) d e → IsReadBody (body_node ds ss) a e
body_text free opens x y closes = body_read opens x (no_directive_there x.utf8 y (sees_by (codes "}") closes) free) y closes

-- the body of an arrow
pub arrow_body_text : {i : Bool} {t : Term} {a b : Text} → Body t a b → IsReadBody t a b → ArrowBodyRead i t a b
arrow_body_text {a = a} s r = block_body_read r.utf8 r.shorter (body_loose s) (lexeme_sees (codes "{") a _ r.opens) (λ limit fits. r.reads limit fits)
  where
    body_loose : {t : Term} {a b : Text} → Body t a b → edge t ≡ loose
    body_loose (spell.body free x ds ss y) = refl
