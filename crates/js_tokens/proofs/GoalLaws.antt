-- The other goals: regular expressions and the rests of templates.
use Rattle.std.proofs.Common.{◌≡◌, refl, ℕ, ◌<◌, Bool, true, false, not, if◌then◌else◌, [], ◌∷◌, ◌++◌, Option, None, Some, sym, ap, subst, ◌∙◌, arith}
use Rattle.std.specs.Prelude.{nat_eq}
use Rattle.std.specs.List.{list_all}
use Rattle.std.specs.Str.{IsUtf8}
use Rattle.std.proofs.lemmas.Bool.{and_parts, eqb-true, false≢true}
use Rattle.std.proofs.lemmas.Bool.Decides.{nat_tests}
use Rattle.js_term.specs.Term.{Text}
use Rattle.js_term.specs.Lexeme.{is_part}
use Rattle.js_syntax.specs.Lexical.{has_byte, flag_letters, begins_part, is_regexp_body, is_regexp_rest, are_regexp_flags, in_order, normal_lines, are_template_characters}
use Rattle.js_syntax.specs.Tokens.{Lexeme, regexp, template_middle, template_tail, Lexed, is_word, is_private_name, is_number, is_bigint, is_string, is_regexp, is_no_substitution, is_head, is_middle, is_tail, is_punctuator, Token}
use Rattle.js_tokens.specs.Gaps.{Behind, gap}
use Rattle.js_tokens.specs.Names.{name_run, behind_name}
use Rattle.js_tokens.specs.Strings.{before}
use Rattle.js_tokens.specs.Templates.{template_end, body_end}
use Rattle.js_tokens.specs.Looks.{is_regexp_lexeme, is_tail_lexeme}
use Rattle.js_tokens.specs.Next.{Cut, cut_if, regexp_by, regexp_cut, tail_by, tail_cut, behind_first, goal_behind, next_regexp, next_tail}
use Rattle.js_tokens.proofs.GapLaws.{front_there, front_found}
use Rattle.js_tokens.proofs.NameLaws.{behind_byte, name_whole, behind_name_stops, behind_name_none}
use Rattle.js_tokens.proofs.StringLaws.{before_is}
use Rattle.js_tokens.proofs.TemplateLaws.{part_found, head_there, tail_there, body_there, body_found}
use Rattle.js_tokens.proofs.TokenLaws.{gap_utf8}
use Rattle.js_tokens.proofs.Cuts.{ascii_cut}

-- ---- what is found stands there

regexp_found : (s : Text) → IsUtf8 (47 ∷ s) → (l : Lexeme) (b : Text) → regexp_cut s ≡ Some (l, b) → Lexed l (47 ∷ s) b
unfolding regexp_cut
regexp_found s u l b e = go (body_end false s) refl e
  where
    pick : (k : Bool) (x : Lexeme) (t : Text) → cut_if k x t ≡ Some (l, b) → (k ≡ true → Lexed x (47 ∷ s) t) → Lexed l (47 ∷ s) b
    pick true x t e h = let pair : ◌≡◌ {A = Lexeme × Text} (x, t) (l, b) = cc in subst (λ (p : Lexeme × Text). Lexed p.0 (47 ∷ s) p.1) pair (h refl)
    pick false x t e h = absurd (cc)

    go : (o : Option Text) → body_end false s ≡ o → regexp_by s o ≡ Some (l, b) → Lexed l (47 ∷ s) b
    go None is e = absurd (cc)
    go (Some rest) is e = pick _ _ _ e (λ h.
        let r = body_found false s rest is in
        let both = and_parts (is_regexp_body (before s (47 ∷ rest))) _ h in
        let pattern_is = before_is s r.front (47 ∷ rest) r.is in
        let left = (ascii_cut (47 ∷ s) (47 ∷ r.front) 47 rest u (ap (λ z. 47 ∷ z) r.is) (omega arith)).utf8 in
        let split : rest ≡ before rest (behind_name rest) ++ behind_name rest = name_whole rest left ∙ ap (λ z. z ++ behind_name rest) (sym (before_is rest (name_run rest) (behind_name rest) (name_whole rest left))) in
        let whole : s ≡ before s (47 ∷ rest) ++ 47 ∷ (before rest (behind_name rest) ++ behind_name rest) = r.is ∙ ap (λ z. z ++ 47 ∷ rest) (sym pattern_is) ∙ ap (λ z. before s (47 ∷ rest) ++ 47 ∷ z) split in
        subst (λ z. Lexed (regexp (before s (47 ∷ rest)) (in_order (before rest (behind_name rest)))) (47 ∷ z) (behind_name rest)) (sym whole) (is_regexp (before rest (behind_name rest)) both.0 both.1 (behind_name_stops rest left)))

tail_found : (s : Text) (l : Lexeme) (b : Text) → tail_cut s ≡ Some (l, b) → Lexed l (125 ∷ s) b
unfolding tail_cut
tail_found s l b e = go (template_end s) refl e
  where
    same : (x : Lexeme) (t : Text) → ◌≡◌ {A = Cut} (Some (x, t)) (Some (l, b)) → Lexed x (125 ∷ s) t → Lexed l (125 ∷ s) b
    same x t e h = let pair : ◌≡◌ {A = Lexeme × Text} (x, t) (l, b) = cc in subst (λ (p : Lexeme × Text). Lexed p.0 (125 ∷ s) p.1) pair h

    go : (o : Option (Bool × Text)) → template_end s ≡ o → tail_by s o ≡ Some (l, b) → Lexed l (125 ∷ s) b
    go None is e = absurd (cc)
    go (Some (false, rest)) is e =
        let r = part_found s false rest is in
        same _ _ e (subst (λ z. Lexed (template_tail (normal_lines z)) (125 ∷ s) rest) (sym (before_is s r.front (96 ∷ rest) r.is)) (subst (λ z. Lexed (template_tail (normal_lines r.front)) (125 ∷ z) rest) (sym r.is) (is_tail r.front r.characters)))
    go (Some (true, rest)) is e =
        let r = part_found s true rest is in
        same _ _ e (subst (λ z. Lexed (template_middle (normal_lines z)) (125 ∷ s) rest) (sym (before_is s r.front (36 ∷ 123 ∷ rest) r.is)) (subst (λ z. Lexed (template_middle (normal_lines r.front)) (125 ∷ z) rest) (sym r.is) (is_middle r.front r.characters)))

-- ---- what stands there is found

letter_part : (c : ℕ) → has_byte flag_letters c ≡ true → is_part c ≡ true
letter_part c e = grind (arith, nat_tests)

behind_flags : (f r : Text) → list_all (has_byte flag_letters) f ≡ true → behind_name (f ++ r) ≡ behind_name r
behind_flags [] r e = refl
behind_flags (c ∷ f) r e = let both = and_parts (has_byte flag_letters c) _ e in behind_byte c (f ++ r) (letter_part c both.0) ∙ behind_flags f r both.1

letter_byte : (c : ℕ) → has_byte flag_letters c ≡ true → c < 128
letter_byte c e = grind (arith, nat_tests)

last_utf8 : (f r : Text) → list_all (has_byte flag_letters) f ≡ true → IsUtf8 (f ++ r) → IsUtf8 r
last_utf8 [] r e u = u
last_utf8 (c ∷ f) r e u = let both = and_parts (has_byte flag_letters c) _ e in last_utf8 f r both.1 (ascii_cut (c ∷ (f ++ r)) [] c (f ++ r) u refl (letter_byte c both.0)).utf8

body_parts : (x : Text) → is_regexp_body x ≡ true → is_regexp_rest false x ≡ true
body_parts [] e = absurd (false≢true e)
body_parts (c ∷ x) e = (and_parts (not (nat_eq c 42)) _ e).1

pub regexp_there : (pattern flags rest : Text) → IsUtf8 (47 ∷ (pattern ++ 47 ∷ (flags ++ rest))) → is_regexp_body pattern ≡ true → are_regexp_flags flags ≡ true → begins_part rest ≡ false → regexp_cut (pattern ++ 47 ∷ (flags ++ rest)) ≡ Some (regexp pattern (in_order flags), rest)
unfolding regexp_cut
regexp_there pattern flags rest u body ok stops =
    let s = pattern ++ 47 ∷ (flags ++ rest) in
    let all = (and_parts (list_all (has_byte flag_letters) flags) _ ok).0 in
    let left = (ascii_cut (47 ∷ s) (47 ∷ pattern) 47 (flags ++ rest) u refl (omega arith)).utf8 in
    let more = last_utf8 flags rest all left in
    let rest_is : behind_name (flags ++ rest) ≡ rest = behind_flags flags rest all ∙ behind_name_none rest more stops in
    let flags_is : before (flags ++ rest) (behind_name (flags ++ rest)) ≡ flags = ap (before (flags ++ rest)) rest_is ∙ before_is (flags ++ rest) flags rest refl in
    let pattern_is : before s (47 ∷ (flags ++ rest)) ≡ pattern = before_is s pattern (47 ∷ (flags ++ rest)) refl in
    ap (regexp_by s) (body_there false pattern (flags ++ rest) (body_parts pattern body)) ∙ (rw (flags_is, pattern_is, rest_is, body, ok) refl)

pub tail_is_there : (s rest : Text) → are_template_characters s ≡ true → tail_cut (s ++ 96 ∷ rest) ≡ Some (template_tail (normal_lines s), rest)
unfolding tail_cut
tail_is_there s rest e = ap (tail_by (s ++ 96 ∷ rest)) (tail_there s rest e) ∙ ap (λ z. Some (template_tail (normal_lines z), rest)) (before_is (s ++ 96 ∷ rest) s (96 ∷ rest) refl)

pub middle_is_there : (s rest : Text) → are_template_characters s ≡ true → tail_cut (s ++ 36 ∷ 123 ∷ rest) ≡ Some (template_middle (normal_lines s), rest)
unfolding tail_cut
middle_is_there s rest e = ap (tail_by (s ++ 36 ∷ 123 ∷ rest)) (head_there s rest e) ∙ ap (λ z. Some (template_middle (normal_lines z), rest)) (before_is (s ++ 36 ∷ 123 ∷ rest) s (36 ∷ 123 ∷ rest) refl)

-- ---- behind a gap

first_found : (b : ℕ) (f : Text → Cut) (m : Text) (l : Lexeme) (rest : Text) → ((s : Text) → f s ≡ Some (l, rest) → IsUtf8 (b ∷ s) → Lexed l (b ∷ s) rest) → IsUtf8 m → behind_first b f m ≡ Some (l, rest) → Lexed l m rest
first_found b f [] l rest h u e = absurd (cc)
first_found b f (c ∷ s) l rest h u e = go (nat_eq c b) refl e
  where
    go : (k : Bool) → nat_eq c b ≡ k → (if k then f s else None) ≡ Some (l, rest) → Lexed l (c ∷ s) rest
    go true is e = subst (λ z. Lexed l (z ∷ s) rest) (sym (eqb-true c b is)) (h s e (subst (λ z. IsUtf8 (z ∷ s)) (eqb-true c b is) u))
    go false is e = absurd (cc)

goal_found : (b : ℕ) (f : Text → Cut) (a : Text) (l : Lexeme) (rest : Text) → ((s : Text) → f s ≡ Some (l, rest) → IsUtf8 (b ∷ s) → Lexed l (b ∷ s) rest) → IsUtf8 a → goal_behind b f (gap false a) ≡ Some (l, rest) → Token a l rest
goal_found b f a l rest h u e = go (gap false a) refl e
  where
    go : (g : Behind) → gap false a ≡ g → goal_behind b f g ≡ Some (l, rest) → Token a l rest
    go None is e = absurd (cc)
    go (Some (line, m)) is e =
        let front = front_found line a m is in
        record { line = line; middle = m; front = front; lexed = first_found b f m l rest h (gap_utf8 front.gap u) e }

pub regexp_token_found : (a : Text) → IsUtf8 a → (l : Lexeme) (b : Text) → next_regexp a ≡ Some (l, b) → Token a l b
unfolding next_regexp
regexp_token_found a u l b e = goal_found 47 regexp_cut a l b (λ s h v. regexp_found s v l b h) u e

pub tail_token_found : (a : Text) → IsUtf8 a → (l : Lexeme) (b : Text) → next_tail a ≡ Some (l, b) → Token a l b
unfolding next_tail
tail_token_found a u l b e = goal_found 125 tail_cut a l b (λ s h v. tail_found s l b h) u e

-- The token that stands there is found.
pub regexp_token_there : {a b : Text} {l : Lexeme} → Token a l b → IsUtf8 a → is_regexp_lexeme l ≡ true → next_regexp a ≡ Some (l, b)
unfolding next_regexp
regexp_token_there {a} {b} {l} t u goal = ap (goal_behind 47 regexp_cut) (front_there t.front) ∙ there t.lexed (gap_utf8 t.front.gap u) goal
  where
    there : {l : Lexeme} {m rest : Text} → Lexed l m rest → IsUtf8 m → is_regexp_lexeme l ≡ true → behind_first 47 regexp_cut m ≡ Some (l, rest)
    there (is_regexp {pattern} flags {rest} p f stops) u e = regexp_there pattern flags rest u p f stops
    there (is_word named stops) u e = absurd (false≢true e)
    there (is_private_name named stops) u e = absurd (false≢true e)
    there (is_number h stops point) u e = absurd (false≢true e)
    there (is_bigint h stops) u e = absurd (false≢true e)
    there (is_string s q d) u e = absurd (false≢true e)
    there (is_no_substitution s h) u e = absurd (false≢true e)
    there (is_head s h) u e = absurd (false≢true e)
    there (is_middle s h) u e = absurd (false≢true e)
    there (is_tail s h) u e = absurd (false≢true e)
    there (is_punctuator h opens longest) u e = absurd (false≢true e)

pub tail_token_there : {a b : Text} {l : Lexeme} → Token a l b → IsUtf8 a → is_tail_lexeme l ≡ true → next_tail a ≡ Some (l, b)
unfolding next_tail
tail_token_there {a} {b} {l} t u goal = ap (goal_behind 125 tail_cut) (front_there t.front) ∙ there t.lexed goal
  where
    there : {l : Lexeme} {m rest : Text} → Lexed l m rest → is_tail_lexeme l ≡ true → behind_first 125 tail_cut m ≡ Some (l, rest)
    there (is_middle s {rest} h) e = middle_is_there s rest h
    there (is_tail s {rest} h) e = tail_is_there s rest h
    there (is_regexp flags p f stops) e = absurd (false≢true e)
    there (is_word named stops) e = absurd (false≢true e)
    there (is_private_name named stops) e = absurd (false≢true e)
    there (is_number h stops point) e = absurd (false≢true e)
    there (is_bigint h stops) e = absurd (false≢true e)
    there (is_string s q d) e = absurd (false≢true e)
    there (is_no_substitution s h) e = absurd (false≢true e)
    there (is_head s h) e = absurd (false≢true e)
    there (is_punctuator h opens longest) e = absurd (false≢true e)
