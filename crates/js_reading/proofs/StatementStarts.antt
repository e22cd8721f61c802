-- With what the text of a statement begins, and what may follow one.
use Rattle.std.proofs.Common.{◌≡◌, ◌≤◌, ◌<◌, ℕ, suc, Bool, true, false, ◌&&◌, ◌||◌, List, [], ◌∷◌, length, map, Option, Some, None, refl, sym, ◌∙◌, ap, codes, subst, arith}
use Rattle.std.specs.Str.{IsUtf8}
use Rattle.std.proofs.lemmas.Bool.{false≢true, or_parts}
use Rattle.js_term.specs.Term.{Text, is_text, Term, depth}
use Rattle.js_term.specs.Lexeme.{is_one_of}
use Rattle.js_syntax.specs.Printable.{ends_open}
use Rattle.js_syntax.specs.Spelling.{Semicolon}
use Rattle.js_syntax.specs.Edges.{Edge}
use Rattle.js_syntax.specs.Tokens.{Lexeme, word, private_name, number, big_integer, string, no_substitution, template_head, sign, regexp, template_middle, template_tail}
use Rattle.js_tokens.specs.Next.{lexeme}
use Rattle.js_reading.specs.Reading.{Found, Reading, is_sign, is_word, sees, sees_word, at_end}
use Rattle.js_reading.specs.declared.goal.Goal.{Goal}
use Rattle.js_reading.specs.Statements.{word_statement, statement}
use Rattle.js_reading.specs.Read.{read}
use Rattle.js_reading.proofs.Each.{no_sign_by, no_word_by, is_end as at_its_end}
use Rattle.js_reading.proofs.TokensThere.{Seen}
use Rattle.js_reading.proofs.TokensEnd.{end_lexeme, Ended, by_sign, by_stop, ended}
use Rattle.js_reading.proofs.Opens.{begins, begins_by}

-- the words that begin a statement and no expression
abbrev pub statement_words : List Text
statement_words = map codes ("var" ∷ "let" ∷ "const" ∷ "if" ∷ "do" ∷ "while" ∷ "for" ∷ "continue" ∷ "break" ∷ "return" ∷ "switch" ∷ "throw" ∷ "try" ∷ "debugger" ∷ [])

abbrev pub starts_by : Lexeme → Bool
starts_by (word x) = begins_by (word x) || is_one_of x statement_words
starts_by (sign s) = begins_by (sign s) || is_text s (codes ";")
starts_by l = begins_by l

abbrev pub starts : Option Lexeme → Bool
starts None = false
starts (Some l) = starts_by l

-- no statement begins with this sign, with this word
pub starts_no_sign : (s a : Text) → starts (lexeme a) ≡ true → starts_by (sign s) ≡ false → sees s a ≡ false
starts_no_sign s a h other = no_sign_by starts s a h other

pub starts_no_word : (x a : Text) → starts (lexeme a) ≡ true → starts_by (word x) ≡ false → sees_word x a ≡ false
starts_no_word x a h other = no_word_by starts x a h other

pub starts_no_end : (a : Text) → starts (lexeme a) ≡ true → at_end a ≡ false
starts_no_end a h = go (at_end a) refl
  where
    go : (b : Bool) → at_end a ≡ b → at_end a ≡ false
    go false e = e
    go true e = absurd (false≢true (sym (ap starts (end_lexeme a (at_its_end a e))) ∙ h))

-- what begins an expression begins a statement
pub begins_starts : (o : Option Lexeme) → begins o ≡ true → starts o ≡ true
begins_starts None h = absurd (false≢true h)
begins_starts (Some (word x)) h = left (begins_by (word x)) (is_one_of x statement_words) h
  where
    left : (p q : Bool) → p ≡ true → (p || q) ≡ true
    left true q h = refl
    left false q h = absurd (cc)
begins_starts (Some (sign s)) h = left (begins_by (sign s)) (is_text s (codes ";")) h
  where
    left : (p q : Bool) → p ≡ true → (p || q) ≡ true
    left true q h = refl
    left false q h = absurd (cc)
begins_starts (Some (private_name x)) h = h
begins_starts (Some (number x)) h = h
begins_starts (Some (big_integer x)) h = h
begins_starts (Some (string x v)) h = h
begins_starts (Some (regexp x v)) h = h
begins_starts (Some (no_substitution x)) h = h
begins_starts (Some (template_head x)) h = h
begins_starts (Some (template_middle x)) h = h
begins_starts (Some (template_tail x)) h = h

-- What comes behind a statement goes on with none: with no declaration, no label, and no `try`.
pub record Follows (b : Text) : Type 0 where
  pub no_comma : sees (codes ",") b ≡ false
  pub no_equals : sees (codes "=") b ≡ false
  pub no_colon : sees (codes ":") b ≡ false
  pub no_finally : sees_word (codes "finally") b ≡ false

pub starts_follow : (b : Text) → starts (lexeme b) ≡ true → Follows b
starts_follow b h = record {
  no_comma = starts_no_sign (codes ",") b h refl;
  no_equals = starts_no_sign (codes "=") b h refl;
  no_colon = starts_no_sign (codes ":") b h refl;
  no_finally = starts_no_word (codes "finally") b h refl;
}

-- a token other than these, or none
abbrev pub goes_behind : Option Lexeme → Bool
goes_behind o = is_sign (codes ",") o || (is_sign (codes "=") o || (is_sign (codes ":") o || is_word (codes "finally") o))

pub behind_follows : (b : Text) → goes_behind (lexeme b) ≡ false → Follows b
unfolding sees sees_word
behind_follows b h =
    let (comma, h1) = or_parts (is_sign (codes ",") (lexeme b)) _ h in
    let (equals, h2) = or_parts (is_sign (codes "=") (lexeme b)) _ h1 in
    let (colon, finally) = or_parts (is_sign (codes ":") (lexeme b)) _ h2 in
    record { no_comma = comma; no_equals = equals; no_colon = colon; no_finally = finally }

pub token_follows : {l : Lexeme} {b c : Text} → Seen l b c → goes_behind (Some l) ≡ false → Follows b
token_follows {b = b} x h = behind_follows b (ap goes_behind x.lexeme_is ∙ h)

pub end_follows : (b : Text) → at_end b ≡ true → Follows b
end_follows b h = behind_follows b (ap goes_behind (end_lexeme b (at_its_end b h)))

-- where a semicolon is left out, the statement ends
pub semicolon_follows : {x : Edge} {b c : Text} → Semicolon x b c → IsUtf8 b → Follows c → Follows b
semicolon_follows {x} {b} {c} end u w = go (ended end u)
  where
    go : Ended x b c → Follows b
    go (by_sign t) = token_follows t refl
    go (by_stop same st) = subst Follows (sym same) w

-- A statement is read before what goes on with none, and before no `else` where it ends in an `if` without one.
pub record IsReadStatement (s : Term) (a b : Text) : Type 0 where
  pub utf8 : IsUtf8 b
  pub shorter : length b < length a
  pub begun : starts (lexeme a) ≡ true
  pub deep : 0 < depth s
  pub reads : (limit : ℕ) → depth s ≤ suc limit → Follows b → (sees_word (codes "else") b && ends_open s) ≡ false → statement (read limit) a ≡ Some (s, b)

-- ---- by the word in front

pub word_there : {x : Text} (sub : Goal → Text → Reading Found) {a b : Text} → Seen (word x) a b → statement sub a ≡ word_statement sub x a
unfolding statement
word_there sub t = rw (t.lexeme_is)

-- one that is read whatever follows
pub word_read : {x : Text} {s : Term} {a b c : Text} → Seen (word x) a b → starts (Some (word x)) ≡ true → 0 < depth s → IsUtf8 c → length c ≤ length b → ((limit : ℕ) → depth s ≤ suc limit → word_statement (read limit) x a ≡ Some (s, c)) → IsReadStatement s a c
word_read t begun deep u short reads = record {
  utf8 = u;
  shorter = let s = t.shorter in omega arith;
  begun = ap starts t.lexeme_is ∙ begun;
  deep = deep;
  reads = λ limit fits w h. word_there (read limit) t ∙ reads limit fits;
}
