-- The hashbang that is cut is the grammar's.
use Rattle.std.proofs.Common.{◌≡◌, ◌≢◌, refl, Bool, true, false, not, ◌||◌, List, [], ◌∷◌, ◌++◌, Option, None, Some, MatchOption, ap, sym, subst, ◌∙◌, arith}
use Rattle.std.specs.Prelude.{codes, nat_eq, ◌&&◌}
use Rattle.std.specs.Borrow.{Bor}
use Rattle.std.specs.Str.{IsUtf8}
use Rattle.std.proofs.lemmas.Bool.{true≢false, false≢true, eqb-true}
use Rattle.js_term.specs.Term.{Text}
use Rattle.js_syntax.specs.Lexical.{begins, begins_any, line_ends, has_line_end, ends_line}
use Rattle.js_syntax.specs.Modules as modules
use Rattle.js_syntax.specs.Modules.{no_hashbang, hashbang}
use Rattle.js_syntax.specs.Tokens.{Lexeme, Token, AtEnd, regexp, template_middle, template_tail}
use Rattle.js_tokens.specs.Gaps.{gap}
use Rattle.js_tokens.specs.Lexemes.{IsCut}
use Rattle.js_tokens.specs.Looks.{is_div_lexeme, is_regexp_lexeme, is_tail_lexeme}
use Rattle.js_tokens.specs.Next.{next, cut, private_identifier_cut, next_regexp, next_tail}
use Rattle.js_tokens.specs.Strings.{before}
use Rattle.js_tokens.proofs.Beginnings.{Split, none_before, begins_split}
use Rattle.js_tokens.proofs.Cuts.{ascii_cut}
use Rattle.js_tokens.proofs.GapLaws.{across, ends_free, at_end_there}
use Rattle.js_tokens.proofs.GoalLaws.{regexp_token_there, tail_token_there}
use Rattle.js_tokens.proofs.StringLaws.{before_is}
use Rattle.js_tokens.proofs.TokenLaws.{token_there, cut_utf8, end_opens}
use Rattle.js_literals.specs.Hashbangs.{behind_line, CutsHashbang}

-- ---- a line

pub record IsLine (s front rest : Text) : Type 0 where
  pub is : s ≡ front ++ rest
  pub plain : has_line_end front ≡ false
  pub stops : ends_line rest ≡ true

record Line (s : Text) : Type 0 where
  front : Text
  line : IsLine s front (behind_line s)

line_of : (s : Text) → Line s
line_of [] = record { front = []; line = record { is = refl; plain = refl; stops = refl } }
line_of (c ∷ s) = go (begins_any line_ends (c ∷ s)) refl (line_of s)
  where
    go : (b : Bool) → begins_any line_ends (c ∷ s) ≡ b → Line s → Line (c ∷ s)
    go true e more = record { front = []; line = rw e (record { is = refl; plain = refl; stops = e }) }
    go false e more =
        let none = none_before line_ends (c ∷ more.front) (behind_line s) (subst (λ z. begins_any line_ends (c ∷ z) ≡ false) more.line.is e) in
        record { front = c ∷ more.front; line = rw e (record { is = ap (λ z. c ∷ z) more.line.is; plain = rw none more.line.plain; stops = more.line.stops }) }

or_none : (a b : Bool) → (a || b) ≡ false → (a ≡ false) × (b ≡ false)
or_none true b e = absurd (true≢false e)
or_none false b e = (refl, e)

line_there : (x a : Text) → has_line_end x ≡ false → ends_line a ≡ true → behind_line (x ++ a) ≡ a
line_there [] [] e h = refl
line_there [] (c ∷ s) e h = rw h refl
line_there (c ∷ x) a e h =
    let parts = or_none (begins_any line_ends (c ∷ x)) (has_line_end x) e in
    let none : begins_any line_ends (c ∷ (x ++ a)) ≡ false = across c x a (ends_free a h) ∙ parts.0 in
    rw none (line_there x a parts.1 h)

-- ---- the mark

pub no_first : (text : Text) → ((rest : Text) → text ≢ 35 ∷ rest) → begins (codes "#!") text ≡ false
no_first [] h = refl
no_first (c ∷ s) h = go (nat_eq 35 c) refl
  where
    go : (b : Bool) → nat_eq 35 c ≡ b → (b && begins (33 ∷ []) s) ≡ false
    go true e = let same : 35 ≡ c = eqb-true 35 c e in absurd (h s (ap (λ z. z ∷ s) (sym same)))
    go false e = refl

pub no_second : (text behind : Text) → text ≡ 35 ∷ behind → ((rest : Text) → behind ≢ 33 ∷ rest) → begins (codes "#!") text ≡ false
no_second text [] e h = ap (begins (codes "#!")) e
no_second text (c ∷ s) e h = ap (begins (codes "#!")) e ∙ go (nat_eq 33 c) refl
  where
    go : (b : Bool) → nat_eq 33 c ≡ b → (b && true) ≡ false
    go true e = let same : 33 ≡ c = eqb-true 33 c e in absurd (h s (ap (λ z. z ∷ s) (sym same)))
    go false e = refl

pub both : (text behind : Text) (r : Option (Bor Text)) → text ≡ 35 ∷ behind → MatchOption r ((rest : Text) → behind ≢ 33 ∷ rest) (λ rest. behind ≡ 33 ∷ rest.now) → MatchOption r (begins (codes "#!") text ≡ false) (λ rest. text ≡ 35 ∷ 33 ∷ rest.now)
both text behind None is h = no_second text behind is h
both text behind (Some rest) is h = is ∙ ap (λ z. 35 ∷ z) h

-- ---- no token stands there, and the text does not end

gap_none : (s : Text) → gap false (35 ∷ 33 ∷ s) ≡ Some (false, 35 ∷ 33 ∷ s)
gap_none s = refl

next_none : (s : Text) → next (35 ∷ 33 ∷ s) ≡ None
unfolding next cut private_identifier_cut
next_none s = refl

regexp_none : (s : Text) → next_regexp (35 ∷ 33 ∷ s) ≡ None
unfolding next_regexp
regexp_none s = refl

tail_none : (s : Text) → next_tail (35 ∷ 33 ∷ s) ≡ None
unfolding next_tail
tail_none s = refl

token_none : (s : Text) (l : Lexeme) (b : Text) → IsUtf8 (35 ∷ 33 ∷ s) → ¬ (Token (35 ∷ 33 ∷ s) l b)
token_none s l b u t = go (is_div_lexeme l) (is_regexp_lexeme l) (is_tail_lexeme l) refl refl refl (some_goal l)
  where
    go : (d r k : Bool) → is_div_lexeme l ≡ d → is_regexp_lexeme l ≡ r → is_tail_lexeme l ≡ k → (d || (r || k)) ≡ true → ⊥
    go true r k e f g h = let found : next (35 ∷ 33 ∷ s) ≡ Some (l, b) = token_there t u e in let none = next_none s in cc
    go false true k e f g h = let found : next_regexp (35 ∷ 33 ∷ s) ≡ Some (l, b) = regexp_token_there t u f in let none = regexp_none s in cc
    go false false true e f g h = let found : next_tail (35 ∷ 33 ∷ s) ≡ Some (l, b) = tail_token_there t u g in let none = tail_none s in cc
    go false false false e f g h = false≢true h

    some_goal : (l : Lexeme) → (is_div_lexeme l || (is_regexp_lexeme l || is_tail_lexeme l)) ≡ true
    some_goal (regexp pattern flags) = refl
    some_goal (template_middle x) = refl
    some_goal (template_tail x) = refl
    some_goal l = refl

-- ---- the whole answer

mark_split : (text : Text) → begins (codes "#!") text ≡ true → Split (codes "#!") text
mark_split text e = begins_split (codes "#!") text e

no_token_there : (text : Text) → IsUtf8 text → begins (codes "#!") text ≡ true → (l : Lexeme) (b : Text) → ¬ (Token text l b)
no_token_there text u e l b t =
    let split = mark_split text e in
    token_none split.rest l b (subst IsUtf8 split.is u) (subst (λ z. Token z l b) split.is t)

no_end_there : (text : Text) → begins (codes "#!") text ≡ true → ¬ (AtEnd text)
no_end_there text e t = let split = mark_split text e in false≢true (at_end_there (35 ∷ 33 ∷ split.rest) (subst AtEnd split.is t))

record IsOpened (x text b : Text) : Type 0 where
  is : text ≡ 35 ∷ 33 ∷ (x ++ b)
  plain : has_line_end x ≡ false
  stops : ends_line b ≡ true

not_true : (b : Bool) → not b ≡ true → b ≡ false
not_true true e = absurd (false≢true e)
not_true false e = refl

opened : {texts : List Text} {text b : Text} → modules.Hashbang texts text b → (x : Text) → texts ≡ x ∷ [] → IsOpened x text b
opened (no_hashbang {a}) x e = absurd (cc)
opened (hashbang {x = y} {a} plain stops) x e =
    let same : y ≡ x = cc in
    subst (λ z. IsOpened z (35 ∷ 33 ∷ (y ++ a)) a) same (record { is = refl; plain = not_true (has_line_end y) plain; stops = stops })

opened_begins : (x text b : Text) → IsOpened x text b → begins (codes "#!") text ≡ true
opened_begins x text b o = ap (begins (codes "#!")) o.is

pub cuts_none : (text : Text) → IsUtf8 text → begins (codes "#!") text ≡ false → CutsHashbang text [] text
cuts_none text u e = record {
  found = no_hashbang;
  there = λ x b h. absurd (false≢true (sym e ∙ opened_begins x text b (opened h x refl)));
  begins_none = λ h. e;
  no_token = no_token_there text u;
  no_end = no_end_there text;
}

pub behind_mark_utf8 : (text behind : Text) → IsUtf8 text → text ≡ 35 ∷ 33 ∷ behind → IsUtf8 behind
behind_mark_utf8 text behind u is = let cut = ascii_cut text (35 ∷ []) 33 behind u is (omega arith) in cut.utf8

pub line_cut : (s : Text) → IsUtf8 s → IsCut s (behind_line s)
line_cut s u =
    let l = line_of s in
    record { front = l.front; is = l.line.is; utf8 = cut_utf8 l.front (behind_line s) (subst IsUtf8 l.line.is u) (end_opens (behind_line s) l.line.stops) }

pub cuts_some : (text behind line rest : Text) → IsUtf8 text → text ≡ 35 ∷ 33 ∷ behind → line ≡ before behind (behind_line behind) → rest ≡ behind_line behind → CutsHashbang text (line ∷ []) rest
cuts_some text behind line rest u is l r =
    let found = line_of behind in
    let line_is : line ≡ found.front = l ∙ before_is behind found.front (behind_line behind) found.line.is in
    let text_is : text ≡ 35 ∷ 33 ∷ (found.front ++ behind_line behind) = is ∙ ap (λ z. 35 ∷ 33 ∷ z) found.line.is in
    let plain : not (has_line_end found.front) ≡ true = ap not found.line.plain in
    record {
      found =
          subst (λ z. modules.Hashbang (line ∷ []) text z) (sym r)
          (subst (λ z. modules.Hashbang (z ∷ []) text (behind_line behind)) (sym line_is)
          (subst (λ z. modules.Hashbang (found.front ∷ []) z (behind_line behind)) (sym text_is) (hashbang plain found.line.stops)));
      there = λ x b h.
          let o = opened h x refl in
          let same : behind ≡ x ++ b = (let whole : 35 ∷ 33 ∷ behind ≡ 35 ∷ 33 ∷ (x ++ b) = sym is ∙ o.is in cc) in
          let rest_is : behind_line behind ≡ b = ap behind_line same ∙ line_there x b o.plain o.stops in
          let front_is : line ≡ x = l ∙ before_is behind x (behind_line behind) (same ∙ ap (λ z. x ++ z) (sym rest_is)) in
          (ap (λ z. z ∷ []) front_is, r ∙ rest_is);
      begins_none = λ h. absurd (cc);
      no_token = no_token_there text u;
      no_end = no_end_there text;
    }
