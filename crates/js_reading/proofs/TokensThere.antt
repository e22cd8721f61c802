-- Tokens that stand in a text are read.
use Rattle.std.proofs.Common.{◌≡◌, ◌<◌, Bool, true, false, [], ◌∷◌, length, Option, Some, refl, ◌∙◌, ap, codes}
use Rattle.std.specs.Str.{IsUtf8}
use Rattle.std.proofs.lemmas.Bool.{false≢true, eq-eqb}
use Rattle.js_term.specs.Term.{Text, is_text}
use Rattle.js_term.specs.Lexeme.{is_reserved, is_one_of}
use Rattle.js_syntax.specs.Lexical.{begins}
use Rattle.js_syntax.specs.Tokens.{Lexeme, word, private_name, number, big_integer, string, regexp, no_substitution, template_head, template_middle, template_tail, sign, Lexed, is_private_name, is_number, is_bigint, is_string, is_regexp, is_no_substitution, is_head, is_middle, is_tail, is_punctuator, Front, Token, Word, Sign, SameLine, AtEnd}
use Rattle.js_syntax.specs.Tokens as token
use Rattle.js_tokens.specs.Looks.{is_div_lexeme, is_regexp_lexeme, is_tail_lexeme}
use Rattle.js_tokens.specs.Next.{cut, cut_behind, next, next_regexp, next_tail, lexeme, after, lexeme_in, rest_in, punctuator_cut}
use Rattle.js_tokens.proofs.TokenLaws.{token_there}
use Rattle.js_tokens.proofs.GoalLaws.{regexp_token_there, tail_token_there}
use Rattle.js_tokens.proofs.Shorter.{token_shorter}
use Rattle.js_tokens.proofs.GapLaws.{front_there, same_line_there, at_end_there}
use Rattle.js_reading.specs.Reading.{is_sign, is_word, sees, sees_word, same_line, at_end, expect, expect_word, name, binding, string_token}
use Rattle.js_reading.proofs.Utf8.{next_utf8, regexp_utf8, tail_utf8}

-- The token at the front, and what it leaves.
pub record Seen (l : Lexeme) (a b : Text) : Type 0 where
  pub lexeme_is : lexeme a ≡ Some l
  pub after_is : after a ≡ b
  pub shorter : length b < length a
  pub utf8 : IsUtf8 b

pub see : {l : Lexeme} {a b : Text} → Token a l b → IsUtf8 a → is_div_lexeme l ≡ true → Seen l a b
unfolding lexeme after
see {l} {a} {b} tok u goal =
    let is = token_there tok u goal in
    record { lexeme_is = ap lexeme_in is; after_is = ap (rest_in a) is; shorter = token_shorter tok; utf8 = next_utf8 a u l b is }

pub see_sign : {s a b : Text} → Sign s a b → IsUtf8 a → Seen (sign s) a b
see_sign tok u = see tok u refl

pub see_word : {x a b : Text} → Word x a b → IsUtf8 a → Seen (word x) a b
see_word tok u = see tok u refl

-- ---- what is asked of it

pub same_itself : (s : Text) → is_text s s ≡ true
same_itself [] = refl
same_itself (c ∷ s) = rw (eq-eqb c c refl, same_itself s)

pub sees_by : {l : Lexeme} {a b : Text} (s : Text) → Seen l a b → sees s a ≡ is_sign s (Some l)
unfolding sees
sees_by s x = ap (is_sign s) x.lexeme_is

pub sees_word_by : {l : Lexeme} {a b : Text} (s : Text) → Seen l a b → sees_word s a ≡ is_word s (Some l)
unfolding sees_word
sees_word_by s x = ap (is_word s) x.lexeme_is

pub on_line : (a : Text) → SameLine a → same_line a ≡ true
unfolding same_line
on_line a h = same_line_there a h

pub at_its_end : (a : Text) → AtEnd a → at_end a ≡ true
unfolding at_end
at_its_end a h = at_end_there a h

-- ---- where a regular expression or the rest of a template stands

-- a slash is at the front
abbrev pub is_slash_sign : Option Lexeme → Bool
is_slash_sign (Some (sign s)) = is_one_of s (codes "/" ∷ codes "/=" ∷ [])
is_slash_sign o = false

slash_cut : (s : Text) → is_slash_sign (lexeme_in (cut (47 ∷ s))) ≡ true
unfolding cut punctuator_cut
slash_cut s = go (begins (codes "=") s) refl
  where
    go : (b : Bool) → begins (codes "=") s ≡ b → is_slash_sign (lexeme_in (cut (47 ∷ s))) ≡ true
    go true e = rw e refl
    go false e = rw e refl

pub slash_there : {pattern flags a b : Text} → Token a (regexp pattern flags) b → is_slash_sign (lexeme a) ≡ true
unfolding lexeme next
slash_there {pattern} {flags} {a} {b} tok = ap (λ g. is_slash_sign (lexeme_in (cut_behind g))) (front_there tok.front) ∙ go tok.lexed refl
  where
    go : {l : Lexeme} {m rest : Text} → Lexed l m rest → is_regexp_lexeme l ≡ true → is_slash_sign (lexeme_in (cut m)) ≡ true
    go (is_regexp flags h f stops) e = slash_cut _
    go (token.is_word named stops) e = absurd (false≢true e)
    go (is_private_name named stops) e = absurd (false≢true e)
    go (is_number h stops point) e = absurd (false≢true e)
    go (is_bigint h stops) e = absurd (false≢true e)
    go (is_string s q d) e = absurd (false≢true e)
    go (is_no_substitution s h) e = absurd (false≢true e)
    go (is_head s h) e = absurd (false≢true e)
    go (is_middle s h) e = absurd (false≢true e)
    go (is_tail s h) e = absurd (false≢true e)
    go (is_punctuator h opens longest) e = absurd (false≢true e)

brace_cut : (s : Text) → lexeme_in (cut (125 ∷ s)) ≡ Some (sign (codes "}"))
unfolding cut punctuator_cut
brace_cut s = refl

pub tail_there : {l : Lexeme} {a b : Text} → Token a l b → is_tail_lexeme l ≡ true → lexeme a ≡ Some (sign (codes "}"))
unfolding lexeme next
tail_there {l} {a} {b} tok goal = ap (λ g. lexeme_in (cut_behind g)) (front_there tok.front) ∙ go tok.lexed goal
  where
    go : {l : Lexeme} {m rest : Text} → Lexed l m rest → is_tail_lexeme l ≡ true → lexeme_in (cut m) ≡ Some (sign (codes "}"))
    go (is_middle s h) e = brace_cut _
    go (is_tail s h) e = brace_cut _
    go (is_regexp flags h f stops) e = absurd (false≢true e)
    go (token.is_word named stops) e = absurd (false≢true e)
    go (is_private_name named stops) e = absurd (false≢true e)
    go (is_number h stops point) e = absurd (false≢true e)
    go (is_bigint h stops) e = absurd (false≢true e)
    go (is_string s q d) e = absurd (false≢true e)
    go (is_no_substitution s h) e = absurd (false≢true e)
    go (is_head s h) e = absurd (false≢true e)
    go (is_punctuator h opens longest) e = absurd (false≢true e)

-- a regular expression at the front
pub record SeenRegexp (pattern flags a b : Text) : Type 0 where
  pub slash : is_slash_sign (lexeme a) ≡ true
  pub regexp_is : next_regexp a ≡ Some (regexp pattern flags, b)
  pub shorter : length b < length a
  pub utf8 : IsUtf8 b

pub see_regexp : {pattern flags a b : Text} → Token a (regexp pattern flags) b → IsUtf8 a → SeenRegexp pattern flags a b
see_regexp {pattern} {flags} {a} {b} tok u =
    let is = regexp_token_there tok u refl in
    record { slash = slash_there tok; regexp_is = is; shorter = token_shorter tok; utf8 = regexp_utf8 a u (regexp pattern flags) b is }

-- the rest of a template behind a substitution
pub record SeenTail (l : Lexeme) (a b : Text) : Type 0 where
  pub lexeme_is : lexeme a ≡ Some (sign (codes "}"))
  pub tail_is : next_tail a ≡ Some (l, b)
  pub shorter : length b < length a
  pub utf8 : IsUtf8 b

pub see_tail : {l : Lexeme} {a b : Text} → Token a l b → IsUtf8 a → is_tail_lexeme l ≡ true → SeenTail l a b
see_tail {l} {a} {b} tok u goal =
    let is = tail_token_there tok u goal in
    record { lexeme_is = tail_there tok goal; tail_is = is; shorter = token_shorter tok; utf8 = tail_utf8 a u l b is }

-- ---- what reads it

pub expect_read : {s a b : Text} → Seen (sign s) a b → expect s a ≡ Some (tt, b)
unfolding expect
expect_read {s} {a} {b} x = rw (sees_by s x, same_itself s, x.after_is)

pub expect_word_read : {s a b : Text} → Seen (word s) a b → expect_word s a ≡ Some (tt, b)
unfolding expect_word
expect_word_read {s} x = rw (sees_word_by s x, same_itself s, x.after_is)

pub name_read : {x a b : Text} → Seen (word x) a b → name a ≡ Some (x, b)
unfolding name
name_read x = rw (x.lexeme_is, x.after_is)

pub binding_read : {x a b : Text} → is_reserved x ≡ false → Seen (word x) a b → binding a ≡ Some (x, b)
unfolding binding
binding_read free x = rw (name_read x, free)

pub string_token_read : {raw v a b : Text} → Seen (string raw v) a b → string_token a ≡ Some ((raw, v), b)
unfolding string_token
string_token_read x = rw (x.lexeme_is, x.after_is)
