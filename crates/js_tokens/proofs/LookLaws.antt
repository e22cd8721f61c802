-- What the cursor answers stands in the text that is left, and what stands there it answers.
use Rattle.std.proofs.Common.{◌≡◌, refl, ℕ, ◌≤◌, Bool, true, false, Option, None, Some, length, ap, sym, subst, ◌∙◌, arith}
use Rattle.std.specs.Str.{IsUtf8}
use Rattle.std.proofs.lemmas.List.{length-append}
use Rattle.js_term.specs.Term.{Text}
use Rattle.js_syntax.specs.Tokens.{Lexeme, Token, SameLine, AtEnd}
use Rattle.js_tokens.specs.Gaps.{Behind, gap, front, is_same_line, is_at_end}
use Rattle.js_tokens.specs.Gaps as gaps
use Rattle.js_tokens.specs.Looks.{is_div_lexeme, is_regexp_lexeme, is_tail_lexeme, Finds, Tells}
use Rattle.js_tokens.specs.Lexemes.{front_by, IsAhead}
use Rattle.js_tokens.specs.Next.{Cut, lexeme_in, rest_in, next, lexeme, after, goal_behind, regexp_cut, tail_cut, next_regexp, next_tail}
use Rattle.js_tokens.specs.declared.lexeme.Token as token
use Rattle.js_tokens.proofs.GapLaws.{front_found, same_line_there, same_line_found, at_end_there, at_end_found}
use Rattle.js_tokens.proofs.TokenLaws.{gap_leaves, token_found, token_there}
use Rattle.js_tokens.proofs.Shorter.{token_shorter}
use Rattle.js_tokens.proofs.GoalLaws.{regexp_token_found, regexp_token_there, tail_token_found, tail_token_there}

finds : (goal : Lexeme → Bool) (a : Text) (cut : Cut) → ((l : Lexeme) (b : Text) → cut ≡ Some (l, b) → Token a l b) → ((l : Lexeme) (b : Text) → goal l ≡ true → Token a l b → cut ≡ Some (l, b)) → Finds goal a (lexeme_in cut) (rest_in a cut)
finds goal a None f t = record { found = λ l e. absurd (cc); there = λ l b g h. absurd (let no = t l b g h in cc) }
finds goal a (Some (k, r)) f t = record {
  found = λ l e. let same : k ≡ l = cc in f l r (ap (λ z. Some (z, r)) same);
  there = λ l b g h. let pair : ◌≡◌ {A = Lexeme × Text} (k, r) (l, b) = (let is = t l b g h in cc) in (ap (λ p. Some p.0) pair, ap (λ p. p.1) pair);
}

pub finds_token : (a : Text) (o : Option Lexeme) → IsUtf8 a → o ≡ lexeme a → Finds is_div_lexeme a o (after a)
unfolding lexeme after
finds_token a o u e = subst (λ z. Finds is_div_lexeme a z (after a)) (sym e) (finds is_div_lexeme a (next a) (token_found a u) (λ l b g h. token_there h u g))

pub finds_regexp : (a : Text) (o : Option Lexeme) (b : Text) → IsUtf8 a → o ≡ lexeme_in (next_regexp a) → b ≡ rest_in a (next_regexp a) → Finds is_regexp_lexeme a o b
finds_regexp a o b u e f =
    let is = finds is_regexp_lexeme a (next_regexp a) (regexp_token_found a u) (λ l b g h. regexp_token_there h u g) in
    subst (λ z. Finds is_regexp_lexeme a z b) (sym e) (subst (λ z. Finds is_regexp_lexeme a (lexeme_in (next_regexp a)) z) (sym f) is)

pub finds_tail : (a : Text) (o : Option Lexeme) (b : Text) → IsUtf8 a → o ≡ lexeme_in (next_tail a) → b ≡ rest_in a (next_tail a) → Finds is_tail_lexeme a o b
finds_tail a o b u e f =
    let is = finds is_tail_lexeme a (next_tail a) (tail_token_found a u) (λ l b g h. tail_token_there h u g) in
    subst (λ z. Finds is_tail_lexeme a z b) (sym e) (subst (λ z. Finds is_tail_lexeme a (lexeme_in (next_tail a)) z) (sym f) is)

pub tells_same_line : (a : Text) (b : Bool) → b ≡ is_same_line (front a) → Tells (SameLine a) b
tells_same_line a b e = subst (Tells (SameLine a)) (sym e) (record { holds = same_line_found a; is_true = same_line_there a })

pub tells_at_end : (a : Text) (b : Bool) → b ≡ is_at_end (front a) → Tells (AtEnd a) b
tells_at_end a b e = subst (Tells (AtEnd a)) (sym e) (record { holds = at_end_found a; is_true = at_end_there a })

-- ---- no more is left behind a token

shorter : (n : ℕ) (a : Text) (l : Lexeme) (b : Text) → length a ≤ n → Token a l b → length b ≤ n
shorter n a l b h t = let less = token_shorter t in omega arith

pub token_within : (n : ℕ) (a : Text) (l : Lexeme) (b : Text) → length a ≤ n → IsUtf8 a → Some (l, b) ≡ next a → length b ≤ n
token_within n a l b h u e = shorter n a l b h (token_found a u l b (sym e))

-- the flag of the gap is no matter of the token
goal_front : (c : ℕ) (f : Text → Cut) (sound line : Bool) (ahead : Text) → goal_behind c f (front_by sound false ahead) ≡ goal_behind c f (front_by sound line ahead)
goal_front c f true line ahead = refl
goal_front c f false line ahead = refl

pub regexp_ahead : {a : Text} {sound line : Bool} {ahead : Text} {t : Option token.Token} → IsAhead a sound line ahead t → goal_behind 47 regexp_cut (front_by sound false ahead) ≡ next_regexp a
unfolding next_regexp
regexp_ahead {a} {sound} {line} {ahead} h = goal_front 47 regexp_cut sound line ahead ∙ ap (goal_behind 47 regexp_cut) h.gap_is

pub tail_ahead : {a : Text} {sound line : Bool} {ahead : Text} {t : Option token.Token} → IsAhead a sound line ahead t → goal_behind 125 tail_cut (front_by sound false ahead) ≡ next_tail a
unfolding next_tail
tail_ahead {a} {sound} {line} {ahead} h = goal_front 125 tail_cut sound line ahead ∙ ap (goal_behind 125 tail_cut) h.gap_is

pub regexp_within : (n : ℕ) (a : Text) (l : Lexeme) (b : Text) → length a ≤ n → IsUtf8 a → Some (l, b) ≡ next_regexp a → length b ≤ n
regexp_within n a l b h u e = shorter n a l b h (regexp_token_found a u l b (sym e))

pub tail_within : (n : ℕ) (a : Text) (l : Lexeme) (b : Text) → length a ≤ n → IsUtf8 a → Some (l, b) ≡ next_tail a → length b ≤ n
tail_within n a l b h u e = shorter n a l b h (tail_token_found a u l b (sym e))

pub ahead_within : (n : ℕ) (a : Text) → length a ≤ n → length (gaps.ahead a) ≤ n
unfolding gaps.ahead
ahead_within n a h = go (gap false a) refl
  where
    go : (g : Behind) → gap false a ≡ g → length (gaps.ahead_by a g) ≤ n
    go None e = h
    go (Some (line, m)) e =
        let leaves = gap_leaves (front_found line a m e).gap in
        omega (arith, ap length leaves.is, length-append leaves.front m)
