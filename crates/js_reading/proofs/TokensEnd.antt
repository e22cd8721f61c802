-- A semicolon that stands in a text, or may be left out there, is read.
use Rattle.std.proofs.Common.{◌≡◌, ◌≤◌, Bool, true, false, not, ◌||◌, [], ◌∷◌, length, Option, Some, None, refl, sym, ◌∙◌, ap, arith, codes}
use Rattle.std.specs.Str.{IsUtf8}
use Rattle.std.specs.List.{list_all}
use Rattle.std.proofs.lemmas.Bool.{false≢true, not-true}
use Rattle.js_term.specs.Term.{Text, is_text}
use Rattle.js_syntax.specs.Tokens.{Lexeme, word, private_name, number, big_integer, string, regexp, no_substitution, template_head, template_middle, template_tail, sign, Front, Token, AtEnd}
use Rattle.js_syntax.specs.Edges.{Edge, full, updated, loose, exports, accessor, static, plain, is_sign_among, goes_on_with}
use Rattle.js_syntax.specs.Spelling as spell
use Rattle.js_syntax.specs.Spelling.{Semicolon, DoEnd}
use Rattle.js_syntax.proofs.Fronts.{among}
use Rattle.js_tokens.specs.Gaps.{Behind, gap, is_same_line, is_at_end}
use Rattle.js_tokens.specs.Next.{lexeme, lexeme_in, cut, cut_behind, next}
use Rattle.js_tokens.proofs.GapLaws.{front_there}
use Rattle.js_reading.specs.Reading.{is_sign, sees, same_line, at_end, goes_on_at, left_out, semicolon, do_end_by, do_end, sees_word, is_word}
use Rattle.js_reading.proofs.Opens.{begins}
use Rattle.js_reading.proofs.TokensThere.{Seen, see, see_sign, sees_by, at_its_end, slash_there, is_slash_sign, tail_there}

pub end_lexeme : (a : Text) → AtEnd a → lexeme a ≡ None
unfolding lexeme next cut
end_lexeme a end = ap (λ g. lexeme_in (cut_behind g)) (front_there end.front)

pub no_lexeme : (s a : Text) → lexeme a ≡ None → sees s a ≡ false
unfolding sees
no_lexeme s a is = ap (is_sign s) is

end_gap : (g : Behind) → is_at_end g ≡ true → lexeme_in (cut_behind g) ≡ None
unfolding cut
end_gap None h = absurd (false≢true h)
end_gap (Some (line, [])) h = refl
end_gap (Some (line, c ∷ s)) h = absurd (false≢true h)

pub end_none : (a : Text) → at_end a ≡ true → lexeme a ≡ None
unfolding lexeme next at_end
end_none a h = end_gap (gap false a) h

pub some_none : (l : Lexeme) → ◌≡◌ {A = Option Lexeme} None (Some l) → ⊥
some_none l h = cc

pub seen_not_end : {l : Lexeme} {a b : Text} → Seen l a b → at_end a ≡ false
seen_not_end {l} {a} x = go (at_end a) refl
  where
    go : (t : Bool) → at_end a ≡ t → at_end a ≡ false
    go false e = e
    go true e = absurd (some_none l (sym (end_none a e) ∙ x.lexeme_is))

pub not_at_end : (a : Text) → begins (lexeme a) ≡ true → at_end a ≡ false
not_at_end a h = go (at_end a) refl
  where
    go : (t : Bool) → at_end a ≡ t → at_end a ≡ false
    go false e = e
    go true e = absurd (false≢true (ap begins (sym (end_none a e)) ∙ h))

pub lexeme_sees : (s a : Text) (o : Option Lexeme) → lexeme a ≡ o → sees s a ≡ is_sign s o
unfolding sees
lexeme_sees s a o is = ap (is_sign s) is

pub lexeme_sees_word : (x a : Text) (o : Option Lexeme) → lexeme a ≡ o → sees_word x a ≡ is_word x o
unfolding sees_word
lexeme_sees_word x a o is = ap (is_word x) is

pub broken_line : {a m : Text} → Front true a m → same_line a ≡ false
unfolding same_line
broken_line f = ap is_same_line (front_there f)

-- ---- the token behind a line end, by the default goal

-- a slash there goes on with nothing with which no regular expression does
slash_stops : (e : Edge) (pattern flags : Text) (o : Option Lexeme) → is_slash_sign o ≡ true → goes_on_with e (regexp pattern flags) ≡ false → goes_on_at e o ≡ false
slash_stops e p f None h stops = absurd (false≢true h)
slash_stops full p f (Some (sign s)) h stops = absurd (false≢true (sym stops))
slash_stops updated p f (Some (sign s)) h stops = absurd (false≢true (sym stops))
slash_stops loose p f (Some (sign s)) h stops = not-true _ (among (λ t. not (goes_on_with loose (sign t))) (codes "/" ∷ codes "/=" ∷ []) s refl h)
slash_stops exports p f (Some (sign s)) h stops = refl
slash_stops accessor p f (Some (sign s)) h stops = not-true _ (among (λ t. not (goes_on_with accessor (sign t))) (codes "/" ∷ codes "/=" ∷ []) s refl h)
slash_stops static p f (Some (sign s)) h stops = not-true _ (among (λ t. not (goes_on_with static (sign t))) (codes "/" ∷ codes "/=" ∷ []) s refl h)
slash_stops plain p f (Some (sign s)) h stops = refl
slash_stops e p f (Some (word x)) h stops = absurd (false≢true h)
slash_stops e p f (Some (private_name x)) h stops = absurd (false≢true h)
slash_stops e p f (Some (number x)) h stops = absurd (false≢true h)
slash_stops e p f (Some (big_integer x)) h stops = absurd (false≢true h)
slash_stops e p f (Some (string x v)) h stops = absurd (false≢true h)
slash_stops e p f (Some (regexp x v)) h stops = absurd (false≢true h)
slash_stops e p f (Some (no_substitution x)) h stops = absurd (false≢true h)
slash_stops e p f (Some (template_head x)) h stops = absurd (false≢true h)
slash_stops e p f (Some (template_middle x)) h stops = absurd (false≢true h)
slash_stops e p f (Some (template_tail x)) h stops = absurd (false≢true h)

pub slash_other : (s : Text) (o : Option Lexeme) → is_slash_sign o ≡ true → list_all (λ t. not (is_text t s)) (codes "/" ∷ codes "/=" ∷ []) ≡ true → is_sign s o ≡ false
slash_other s None h all = refl
slash_other s (Some (sign t)) h all = not-true _ (among (λ t. not (is_text t s)) (codes "/" ∷ codes "/=" ∷ []) t all h)
slash_other s (Some (word x)) h all = refl
slash_other s (Some (private_name x)) h all = refl
slash_other s (Some (number x)) h all = refl
slash_other s (Some (big_integer x)) h all = refl
slash_other s (Some (string x v)) h all = refl
slash_other s (Some (regexp x v)) h all = refl
slash_other s (Some (no_substitution x)) h all = refl
slash_other s (Some (template_head x)) h all = refl
slash_other s (Some (template_middle x)) h all = refl
slash_other s (Some (template_tail x)) h all = refl

-- What stands behind the place where a semicolon may be left out.
pub record Stops (e : Edge) (a : Text) : Type 0 where
  pub no_semicolon : sees (codes ";") a ≡ false
  pub left : left_out e a ≡ true

or_three : (p q r : Bool) → r ≡ true → (p || q || r) ≡ true
or_three true q r h = refl
or_three false true r h = refl
or_three false false r h = h

left_behind : (e : Edge) (a : Text) → same_line a ≡ false → goes_on_at e (lexeme a) ≡ false → left_out e a ≡ true
unfolding left_out
left_behind e a line stops = or_three (sees (codes "}") a) (at_end a) _ (rw (line, stops) refl)

or_first : (p q r : Bool) → p ≡ true → (p || q || r) ≡ true
or_first true q r h = refl
or_first false q r h = absurd (false≢true h)

or_second : (p q r : Bool) → q ≡ true → (p || q || r) ≡ true
or_second true q r h = refl
or_second false true r h = refl
or_second false false r h = absurd (false≢true h)

left_brace : (e : Edge) (a : Text) → sees (codes "}") a ≡ true → left_out e a ≡ true
unfolding left_out
left_brace e a h = or_first (sees (codes "}") a) (at_end a) _ h

left_end : (e : Edge) (a : Text) → at_end a ≡ true → left_out e a ≡ true
unfolding left_out
left_end e a h = or_second (sees (codes "}") a) (at_end a) _ h

plainly_behind : {e : Edge} {l : Lexeme} {a b : Text} → Seen l a b → same_line a ≡ false → is_sign (codes ";") (Some l) ≡ false → goes_on_with e l ≡ false → Stops e a
plainly_behind {e} {a = a} x line other stops = record {
  no_semicolon = sees_by (codes ";") x ∙ other;
  left = left_behind e a line (ap (goes_on_at e) x.lexeme_is ∙ stops);
}

or_false : (b : Bool) → (b || false) ≡ false → b ≡ false
or_false true h = absurd (false≢true (sym h))
or_false false h = refl

behind_stops : {e : Edge} {l : Lexeme} {a b : Text} → Token a l b → IsUtf8 a → same_line a ≡ false → is_sign_among (codes ";" ∷ []) l ≡ false → goes_on_with e l ≡ false → Stops e a
behind_stops {e} {l = regexp p f} {a} tok u line other stops = record {
  no_semicolon = lexeme_sees (codes ";") a (lexeme a) refl ∙ slash_other (codes ";") (lexeme a) (slash_there tok) refl;
  left = left_behind e a line (slash_stops e p f (lexeme a) (slash_there tok) stops);
}
behind_stops {e} {l = template_middle raw} {a} tok u line other stops = record {
  no_semicolon = lexeme_sees (codes ";") a _ (tail_there tok refl);
  left = left_brace e a (lexeme_sees (codes "}") a _ (tail_there tok refl));
}
behind_stops {e} {l = template_tail raw} {a} tok u line other stops = record {
  no_semicolon = lexeme_sees (codes ";") a _ (tail_there tok refl);
  left = left_brace e a (lexeme_sees (codes "}") a _ (tail_there tok refl));
}
behind_stops {l = sign s} tok u line other stops = plainly_behind (see tok u refl) line (or_false _ other) stops
behind_stops {l = word x} tok u line other stops = plainly_behind (see tok u refl) line refl stops
behind_stops {l = private_name x} tok u line other stops = plainly_behind (see tok u refl) line refl stops
behind_stops {l = number x} tok u line other stops = plainly_behind (see tok u refl) line refl stops
behind_stops {l = big_integer x} tok u line other stops = plainly_behind (see tok u refl) line refl stops
behind_stops {l = string x v} tok u line other stops = plainly_behind (see tok u refl) line refl stops
behind_stops {l = no_substitution x} tok u line other stops = plainly_behind (see tok u refl) line refl stops
behind_stops {l = template_head x} tok u line other stops = plainly_behind (see tok u refl) line refl stops

-- ---- the semicolon

-- what a semicolon, or the place where it is left out, looks like from in front
pub data Ended (e : Edge) (a b : Text) : Type 0 where
  by_sign : Seen (sign (codes ";")) a b → Ended e a b
  by_stop : a ≡ b → Stops e a → Ended e a b

pub ended : {e : Edge} {a b : Text} → Semicolon e a b → IsUtf8 a → Ended e a b
ended (spell.written tok) u = by_sign (see_sign tok u)
ended {e} (spell.before_brace {a} tok) u = let x = see_sign tok u in by_stop refl (record { no_semicolon = sees_by (codes ";") x; left = left_brace e a (sees_by (codes "}") x) })
ended {e} (spell.at_end {a} end) u = by_stop refl (record { no_semicolon = no_lexeme (codes ";") a (end_lexeme a end); left = left_end e a (at_its_end a end) })
ended (spell.behind_line {l} {a} {m} {b} front lexed other stops) u = by_stop refl (behind_stops (record { line = true; middle = m; front = front; lexed = lexed }) u (broken_line front) other stops)

ended_read : {e : Edge} {a b : Text} → Ended e a b → semicolon e a ≡ Some (tt, b)
unfolding semicolon
ended_read (by_sign x) = rw (sees_by (codes ";") x, x.after_is)
ended_read (by_stop same x) = let h = x.no_semicolon in let h' = x.left in rw (h, h', same)

pub semicolon_read : {e : Edge} {a b : Text} → Semicolon e a b → IsUtf8 a → semicolon e a ≡ Some (tt, b)
semicolon_read h u = ended_read (ended h u)

pub semicolon_utf8 : {e : Edge} {a b : Text} → Semicolon e a b → IsUtf8 a → IsUtf8 b
semicolon_utf8 (spell.written tok) u = let x = see_sign tok u in x.utf8
semicolon_utf8 (spell.before_brace tok) u = u
semicolon_utf8 (spell.at_end end) u = u
semicolon_utf8 (spell.behind_line front lexed other stops) u = u

pub semicolon_short : {e : Edge} {a b : Text} → Semicolon e a b → IsUtf8 a → length b ≤ length a
semicolon_short (spell.written tok) u = let x = see_sign tok u in let s = x.shorter in omega arith
semicolon_short (spell.before_brace tok) u = omega arith
semicolon_short (spell.at_end end) u = omega arith
semicolon_short (spell.behind_line front lexed other stops) u = omega arith

-- ---- behind `do s while (e)`

do_stops : {l : Lexeme} {a b : Text} → Token a l b → IsUtf8 a → is_sign_among (codes ";" ∷ []) l ≡ false → do_end a ≡ Some (tt, a)
unfolding do_end
do_stops {l = regexp p f} {a} tok u other = rw (lexeme_sees (codes ";") a (lexeme a) refl ∙ slash_other (codes ";") (lexeme a) (slash_there tok) refl) (go (lexeme a) (slash_there tok))
  where
    go : (o : Option Lexeme) → is_slash_sign o ≡ true → do_end_by o (at_end a) a ≡ Some (tt, a)
    go None h = absurd (false≢true h)
    go (Some l) h = refl
do_stops {l = template_middle raw} {a} tok u other = rw (lexeme_sees (codes ";") a _ (tail_there tok refl), tail_there tok refl)
do_stops {l = template_tail raw} {a} tok u other = rw (lexeme_sees (codes ";") a _ (tail_there tok refl), tail_there tok refl)
do_stops {l = sign s} tok u other = let x = see tok u refl in rw (sees_by (codes ";") x ∙ or_false _ other, x.lexeme_is)
do_stops {l = word w} tok u other = let x = see tok u refl in rw (sees_by (codes ";") x, x.lexeme_is)
do_stops {l = private_name w} tok u other = let x = see tok u refl in rw (sees_by (codes ";") x, x.lexeme_is)
do_stops {l = number w} tok u other = let x = see tok u refl in rw (sees_by (codes ";") x, x.lexeme_is)
do_stops {l = big_integer w} tok u other = let x = see tok u refl in rw (sees_by (codes ";") x, x.lexeme_is)
do_stops {l = string w v} tok u other = let x = see tok u refl in rw (sees_by (codes ";") x, x.lexeme_is)
do_stops {l = no_substitution w} tok u other = let x = see tok u refl in rw (sees_by (codes ";") x, x.lexeme_is)
do_stops {l = template_head w} tok u other = let x = see tok u refl in rw (sees_by (codes ";") x, x.lexeme_is)

pub do_end_read : {a b : Text} → DoEnd a b → IsUtf8 a → do_end a ≡ Some (tt, b)
unfolding do_end
do_end_read (spell.do_written tok) u = let x = see_sign tok u in rw (sees_by (codes ";") x, x.after_is)
do_end_read (spell.do_at_end {a} end) u = rw (no_lexeme (codes ";") a (end_lexeme a end), end_lexeme a end, at_its_end a end)
do_end_read (spell.do_left_out tok other) u = do_stops tok u other

pub do_end_utf8 : {a b : Text} → DoEnd a b → IsUtf8 a → IsUtf8 b
do_end_utf8 (spell.do_written tok) u = let x = see_sign tok u in x.utf8
do_end_utf8 (spell.do_at_end end) u = u
do_end_utf8 (spell.do_left_out tok other) u = u

pub do_end_short : {a b : Text} → DoEnd a b → IsUtf8 a → length b ≤ length a
do_end_short (spell.do_written tok) u = let x = see_sign tok u in let s = x.shorter in omega arith
do_end_short (spell.do_at_end end) u = omega arith
do_end_short (spell.do_left_out tok other) u = omega arith
