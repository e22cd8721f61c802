-- The function of the token at the front is the relation of the grammar: what it finds stands there, and what stands
-- there it finds.
use Rattle.std.proofs.Common.{◌≡◌, ℕ, suc, ◌+◌, ◌<◌, ◌≤◌, Bool, true, false, ◌&&◌, ◌||◌, not, if◌then◌else◌, nat_eq, ◌==◌, [], ◌∷◌, ◌++◌, length, Option, None, Some, refl, sym, ap, ◌∙◌, subst, append_assoc, arith}
use Rattle.std.proofs.lemmas.Bool.{and_parts}
use Rattle.std.proofs.lemmas.Bool.Decides.{nat_tests}
use Rattle.std.proofs.lemmas.List.{length-append}
use Rattle.std.specs.List.{prefix_len, list_all}
use Rattle.js_term.specs.Term.{Text, is_text}
use Rattle.js_term.specs.Lexeme.{Manner, narrow, whole, Lexeme, word, number, string, sign, Characters, IsSpelled, Token, AtEnd, is_blank, is_start, is_part, is_digit, is_quote, is_sign, is_plain, is_word, is_decimal, goes_on, goes_on_number, not_next, front}
use Rattle.js_term.specs.Lexeme as spec
use Rattle.js_lex.specs.Next.{run, behind, Cut, closed_by, cut_word, cut_number, cut_string, cut, next, lexeme, lexeme_in, rest_in, after, same_lexeme, is_found, sees}
use Rattle.js_lex.proofs.Runs.{run_behind, run_passes, run_found, behind_found, front_behind}

pub is_byte : (c d : ℕ) → nat_eq c d ≡ true → c ≡ d
is_byte c d h = grind (arith, nat_tests)

-- ---- what is found stands there

record Front (text : Text) (l : Lexeme) (rest : Text) : Type 0 where
  spelled : Text
  whole_is : text ≡ spelled ++ rest
  is_spelled : IsSpelled narrow l spelled rest

record EachCut (text : Text) (found : Cut) : Type 0 where
  holds : (l : Lexeme) (rest : Text) → found ≡ Some (l, rest) → Front text l rest

no_cut : {text : Text} → EachCut text None
no_cut = record { holds = λ l rest h. absurd (cc) }

some_cut : {text : Text} (l : Lexeme) (rest : Text) → Front text l rest → EachCut text (Some (l, rest))
some_cut {text = text} l rest h = record { holds = λ k b e. let pair : ◌≡◌ {A = Lexeme × Text} (l, rest) (k, b) = cc in subst (λ (p : Lexeme × Text). Front text p.0 p.1) pair h }

each_if : {text : Text} (b : Bool) (x y : Cut) → (b ≡ true → EachCut text x) → (b ≡ false → EachCut text y) → EachCut text (if b then x else y)
each_if true x y h h' = h refl
each_if false x y h h' = h' refl

start_is_part : (c : ℕ) → is_start c ≡ true → is_part c ≡ true
start_is_part c h = rw h

run_first : (p : ℕ → Bool) (c : ℕ) (cs : Text) → p c ≡ true → run p (c ∷ cs) ≡ c ∷ run p cs
run_first p c cs h = let one : 1 + prefix_len p cs ≡ suc (prefix_len p cs) = omega arith in rw (h, one)

word_is : (c : ℕ) (cs : Text) → is_start c ≡ true → is_word (run is_part (c ∷ cs)) ≡ true
word_is c cs h = rw (run_first is_part c cs (start_is_part c h), h) (run_passes is_part cs)

word_each : (c : ℕ) (cs : Text) → is_start c ≡ true → EachCut (c ∷ cs) (cut_word (c ∷ cs))
unfolding cut_word
word_each c cs h = each_if (not_next goes_on (behind is_part (c ∷ cs))) _ _
    (λ stops. some_cut _ _ (record { spelled = run is_part (c ∷ cs); whole_is = run_behind is_part (c ∷ cs); is_spelled = spec.is_name (word_is c cs h) stops }))
    (λ _. no_cut)

number_each : (text : Text) → EachCut text (cut_number text)
unfolding cut_number
number_each text = each_if (is_decimal (run is_digit text) && not_next goes_on_number (behind is_digit text)) _ _
    (λ h. let (decimal, stops) = and_parts (is_decimal (run is_digit text)) (not_next goes_on_number (behind is_digit text)) h in
    some_cut _ _ (record { spelled = run is_digit text; whole_is = run_behind is_digit text; is_spelled = spec.is_number decimal stops }))
    (λ _. no_cut)

plain_characters : (quote : ℕ) (s : Text) → list_all (is_plain quote) s ≡ true → Characters narrow quote s s
plain_characters quote [] h = spec.no_more
plain_characters quote (c ∷ s) h = let (one, rest) = and_parts (is_plain quote c) (list_all (is_plain quote) s) h in spec.plain one (plain_characters quote s rest)

string_each : (quote : ℕ) (text value rest : Text) → is_quote quote ≡ true → list_all (is_plain quote) value ≡ true → text ≡ value ++ rest → EachCut (quote ∷ text) (closed_by quote value rest)
string_each quote text value [] h all e = no_cut
string_each quote text value (c ∷ rest) h all e = each_if (nat_eq c quote) _ _
    (λ same. some_cut _ _ (record {
      spelled = quote ∷ (value ++ quote ∷ []);
      whole_is = ap (λ (z : Text). quote ∷ z) (e ∙ ap (λ (d : ℕ). value ++ (d ∷ rest)) (is_byte c quote same) ∙ sym (append_assoc value (quote ∷ []) rest));
      is_spelled = spec.is_string h (plain_characters quote value all);
    }))
    (λ _. no_cut)

cut_each : (text : Text) → EachCut text (cut text)
unfolding cut cut_string
cut_each [] = no_cut
cut_each (c ∷ cs) =
    each_if (is_start c) _ _ (λ h. word_each c cs h) (λ _.
    each_if (is_digit c) _ _ (λ _. number_each (c ∷ cs)) (λ _.
    each_if (is_quote c) _ _ (λ h. string_each c cs _ _ h (run_passes (is_plain c) cs) (run_behind (is_plain c) cs)) (λ _.
    each_if (is_sign c) _ _ (λ h. some_cut _ _ (record { spelled = c ∷ []; whole_is = refl; is_spelled = spec.is_mark h })) (λ _. no_cut))))

-- What is found is the token that stands there.
pub next_found : (a : Text) (l : Lexeme) (b : Text) → next a ≡ Some (l, b) → Token narrow a l b
unfolding next
next_found a l b h =
    let f = (cut_each (front a)).holds l b h in
    record {
      gap = run is_blank a;
      spelled = f.spelled;
      whole_is = run_behind is_blank a ∙ ap (λ (z : Text). run is_blank a ++ z) (sym (front_behind a) ∙ f.whole_is);
      blank = run_passes is_blank a;
      is_spelled = f.is_spelled;
    }

-- ---- what stands there is found

record Finds (l : Lexeme) (spelled rest : Text) : Type 0 where
  bare : front (spelled ++ rest) ≡ spelled ++ rest
  finds : cut (spelled ++ rest) ≡ Some (l, rest)
  some : 0 < length spelled

front_stops : (c : ℕ) (cs : Text) → is_blank c ≡ false → front (c ∷ cs) ≡ c ∷ cs
front_stops c cs h = rw h

start_not_blank : (c : ℕ) → is_start c ≡ true → is_blank c ≡ false
start_not_blank c h = grind (arith, nat_tests)

digit_not_blank : (c : ℕ) → is_digit c ≡ true → is_blank c ≡ false
digit_not_blank c h = grind (arith, nat_tests)

digit_not_start : (c : ℕ) → is_digit c ≡ true → is_start c ≡ false
digit_not_start c h = grind (arith, nat_tests)

-- a byte that is neither a blank, nor begins a word or a number
record Apart (c : ℕ) : Type 0 where
  not_blank : is_blank c ≡ false
  not_start : is_start c ≡ false
  not_digit : is_digit c ≡ false

quote_apart : (c : ℕ) → is_quote c ≡ true → Apart c
quote_apart c h = record { not_blank = grind (arith, nat_tests); not_start = grind (arith, nat_tests); not_digit = grind (arith, nat_tests) }

sign_apart : (c : ℕ) → is_sign c ≡ true → Apart c
sign_apart c h = record { not_blank = grind (arith, nat_tests); not_start = grind (arith, nat_tests); not_digit = grind (arith, nat_tests) }

sign_not_quote : (c : ℕ) → is_sign c ≡ true → is_quote c ≡ false
sign_not_quote c h = grind (arith, nat_tests)

or_false : (b c : Bool) → not (b || c) ≡ true → not b ≡ true
or_false true c h = h
or_false false c h = refl

no_part : (rest : Text) → not_next goes_on rest ≡ true → not_next is_part rest ≡ true
no_part [] h = refl
no_part (c ∷ cs) h = or_false (is_part c) _ h

no_digit : (rest : Text) → not_next goes_on_number rest ≡ true → not_next is_digit rest ≡ true
no_digit [] h = refl
no_digit (c ∷ cs) h = grind (arith, nat_tests)

word_cut : (text x rest : Text) → run is_part text ≡ x → behind is_part text ≡ rest → not_next goes_on rest ≡ true → cut_word text ≡ Some (word x, rest)
unfolding cut_word
word_cut text x rest e e' stops = rw (e, e', stops)

number_cut : (text x rest : Text) → run is_digit text ≡ x → behind is_digit text ≡ rest → is_decimal x ≡ true → not_next goes_on_number rest ≡ true → cut_number text ≡ Some (number x, rest)
unfolding cut_number
number_cut text x rest e e' decimal stops = rw (e, e', decimal, stops)

name_finds : (x rest : Text) → is_word x ≡ true → not_next goes_on rest ≡ true → Finds (word x) x rest
unfolding cut
name_finds [] rest h stops = absurd (cc)
name_finds (c ∷ cs) rest h stops =
    let (begins, more) = and_parts (is_start c) (list_all is_part cs) h in
    let all : list_all is_part (c ∷ cs) ≡ true = rw (start_is_part c begins) more in
    record {
      bare = front_stops c (cs ++ rest) (start_not_blank c begins);
      finds = rw begins (word_cut ((c ∷ cs) ++ rest) (c ∷ cs) rest (run_found is_part (c ∷ cs) rest all (no_part rest stops)) (behind_found is_part (c ∷ cs) rest all (no_part rest stops)) stops);
      some = omega arith;
    }

decimal_digits : (c : ℕ) (cs : Text) → is_decimal (c ∷ cs) ≡ true → list_all is_digit (c ∷ cs) ≡ true
decimal_digits c [] h = rw h
decimal_digits c (d ∷ ds) h =
    let (one, more) = and_parts _ (list_all is_digit (d ∷ ds)) h in
    let first : is_digit c ≡ true = grind (arith, nat_tests) in rw first more

number_finds : (x rest : Text) → is_decimal x ≡ true → not_next goes_on_number rest ≡ true → Finds (number x) x rest
unfolding cut
number_finds [] rest h stops = absurd (cc)
number_finds (c ∷ cs) rest h stops =
    let all = decimal_digits c cs h in
    let (digit, _) = and_parts (is_digit c) (list_all is_digit cs) all in
    record {
      bare = front_stops c (cs ++ rest) (digit_not_blank c digit);
      finds = rw (digit_not_start c digit, digit) (number_cut ((c ∷ cs) ++ rest) (c ∷ cs) rest (run_found is_digit (c ∷ cs) rest all (no_digit rest stops)) (behind_found is_digit (c ∷ cs) rest all (no_digit rest stops)) h stops);
      some = omega arith;
    }

-- in the narrow spelling a value stands as it is
record IsPlainText (quote : ℕ) (value spelled : Text) : Type 0 where
  same : spelled ≡ value
  all : list_all (is_plain quote) value ≡ true

characters_plain : {quote : ℕ} {value spelled : Text} → Characters narrow quote value spelled → IsPlainText quote value spelled
characters_plain spec.no_more = record { same = refl; all = refl }
characters_plain (spec.plain {c} h cs) = let r = characters_plain cs in record { same = ap (λ (z : Text). c ∷ z) r.same; all = rw h r.all }
characters_plain (spec.escape m h cs) = absurd (let no : narrow ≡ whole = m in cc)

quote_not_plain : (quote : ℕ) → is_plain quote quote ≡ false
quote_not_plain quote = grind (arith, nat_tests)

string_finds : (quote : ℕ) (value rest : Text) → is_quote quote ≡ true → list_all (is_plain quote) value ≡ true → Finds (string value) (quote ∷ (value ++ quote ∷ [])) rest
unfolding cut cut_string
string_finds quote value rest h all =
    let apart = quote_apart quote h in
    let stops : not_next (is_plain quote) (quote ∷ rest) ≡ true = rw (quote_not_plain quote) refl in
    let seam : (value ++ quote ∷ []) ++ rest ≡ value ++ (quote ∷ rest) = append_assoc value (quote ∷ []) rest in
    let same : nat_eq quote quote ≡ true = grind (arith, nat_tests) in
    record {
      bare = front_stops quote _ apart.not_blank;
      finds = rw (apart.not_start, apart.not_digit, h, seam, run_found (is_plain quote) value (quote ∷ rest) all stops, behind_found (is_plain quote) value (quote ∷ rest) all stops, same);
      some = omega arith;
    }

sign_finds : (c : ℕ) (rest : Text) → is_sign c ≡ true → Finds (sign c) (c ∷ []) rest
unfolding cut
sign_finds c rest h =
    let apart = sign_apart c h in
    record {
      bare = front_stops c rest apart.not_blank;
      finds = rw (apart.not_start, apart.not_digit, sign_not_quote c h, h);
      some = omega arith;
    }

spelled_finds : {l : Lexeme} {spelled rest : Text} → IsSpelled narrow l spelled rest → Finds l spelled rest
spelled_finds (spec.is_name {x} {rest} h stops) = name_finds x rest h stops
spelled_finds (spec.is_number {x} {rest} h stops) = number_finds x rest h stops
spelled_finds (spec.is_string {quote} {value} {spelled} {rest} h cs) =
    let r = characters_plain cs in
    rw r.same (string_finds quote value rest h r.all)
spelled_finds (spec.is_mark {c} {rest} h) = sign_finds c rest h

front_gap : (gap text : Text) → list_all is_blank gap ≡ true → front (gap ++ text) ≡ front text
front_gap [] text h = refl
front_gap (c ∷ cs) text h = let (one, more) = and_parts (is_blank c) (list_all is_blank cs) h in rw one (front_gap cs text more)

-- The token that stands there is found.
pub next_there : (a : Text) (l : Lexeme) (b : Text) → Token narrow a l b → next a ≡ Some (l, b)
unfolding next
next_there a l b t =
    let f = spelled_finds t.is_spelled in
    let here : front a ≡ t.spelled ++ b = ap front t.whole_is ∙ front_gap t.gap (t.spelled ++ b) t.blank ∙ f.bare in
    ap cut here ∙ f.finds

-- A token takes some of the text.
pub next_shorter : (a : Text) (l : Lexeme) (b : Text) → Token narrow a l b → length b < length a
next_shorter a l b t =
    let f = spelled_finds t.is_spelled in let some = f.some in
    rw t.whole_is (simp length-append (omega arith))

cut_shorter : (text : Text) (l : Lexeme) (rest : Text) → cut text ≡ Some (l, rest) → length rest < length text
cut_shorter text l rest h =
    let f = (cut_each text).holds l rest h in
    let some = (spelled_finds f.is_spelled).some in
    rw f.whole_is (simp length-append (omega arith))

front_all : (a : Text) → AtEnd a → front a ≡ []
front_all [] h = refl
front_all (c ∷ cs) h = let (one, more) = and_parts (is_blank c) (list_all is_blank cs) h in rw one (front_all cs more)

-- At the end no token is found.
pub at_end : (a : Text) → AtEnd a → next a ≡ None
unfolding next cut
at_end a h = rw (front_all a h)

front_some_more : (c : ℕ) (cs : Text) → (list_all is_blank cs ≡ false → 0 < length (front cs)) → (b : Bool) → is_blank c ≡ b → list_all is_blank (c ∷ cs) ≡ false → 0 < length (front (c ∷ cs))
front_some_more c cs more true e h = rw e (more (rw e at h))
front_some_more c cs more false e h = rw e (omega arith)

front_some : (a : Text) → list_all is_blank a ≡ false → 0 < length (front a)
front_some [] h = absurd (cc)
front_some (c ∷ cs) h = front_some_more c cs (front_some cs) (is_blank c) refl h

-- the end is there where nothing is in front
pub ends : (a : Text) (n : ℕ) → n ≡ length (front a) → (n == 0) ≡ list_all is_blank a
ends a n is = go (list_all is_blank a) refl
  where
    go : (c : Bool) → list_all is_blank a ≡ c → (n == 0) ≡ c
    go true e = let none : n ≡ 0 = is ∙ ap length (front_all a e) in rw none refl
    go false e = let some = front_some a e in grind (arith, nat_tests)

-- what is behind a token that was found is shorter
pub rest_within : (t : Cut) (l : Lexeme) (rest text a : Text) → t ≡ Some (l, rest) → t ≡ cut text → length text ≤ length a → length rest ≤ length a
rest_within t l rest text a e h within = let s = cut_shorter text l rest (sym h ∙ e) in omega arith

-- ---- the same by the lexeme and what is behind it

pub record Found (a : Text) (l : Lexeme) (b : Text) : Type 0 where
  pub lexeme_is : lexeme a ≡ Some l
  pub after_is : after a ≡ b
  pub shorter : length b < length a

pub token_found : {a b : Text} {l : Lexeme} → Token narrow a l b → Found a l b
unfolding lexeme after
token_found {a} {b} {l} t =
    let e = next_there a l b t in
    record { lexeme_is = ap lexeme_in e; after_is = ap (rest_in a) e; shorter = next_shorter a l b t }

pub token_there : (a : Text) (l : Lexeme) → lexeme a ≡ Some l → Token narrow a l (after a)
unfolding lexeme after
token_there a l h = go (next a) refl h
  where
    go : (t : Cut) → next a ≡ t → lexeme_in t ≡ Some l → Token narrow a l (rest_in a t)
    go None e h = absurd (cc)
    go (Some p) e h = let same : p.0 ≡ l = cc in subst (λ (k : Lexeme). Token narrow a k p.1) same (next_found a p.0 p.1 e)

pub at_end_lexeme : (a : Text) → AtEnd a → lexeme a ≡ None
unfolding lexeme
at_end_lexeme a h = ap lexeme_in (at_end a h)

pub text_is : (x y : Text) → is_text x y ≡ true → x ≡ y
text_is [] [] h = refl
text_is [] (d ∷ ds) h = absurd (cc)
text_is (c ∷ cs) [] h = absurd (cc)
text_is (c ∷ cs) (d ∷ ds) h =
    let (one, more) = and_parts (nat_eq c d) (is_text cs ds) h in
    let first = is_byte c d one in
    let rest = text_is cs ds more in cc

pub is_text_same : (x : Text) → is_text x x ≡ true
is_text_same [] = refl
is_text_same (c ∷ cs) = let one : nat_eq c c ≡ true = grind (arith, nat_tests) in rw (one, is_text_same cs)

same_is : (k l : Lexeme) → same_lexeme k l ≡ true → l ≡ k
same_is (word x) (word y) h = ap word (text_is y x h)
same_is (sign c) (sign d) h = ap sign (is_byte d c h)
same_is (word x) (number y) h = absurd (cc)
same_is (word x) (string y) h = absurd (cc)
same_is (word x) (sign d) h = absurd (cc)
same_is (sign c) (word y) h = absurd (cc)
same_is (sign c) (number y) h = absurd (cc)
same_is (sign c) (string y) h = absurd (cc)
same_is (number x) l h = absurd (cc)
same_is (string x) l h = absurd (cc)

found_is : (k : Lexeme) (o : Option Lexeme) → is_found k o ≡ true → o ≡ Some k
found_is k None h = absurd (cc)
found_is k (Some l) h = ap (λ (x : Lexeme). Some x) (same_is k l h)

-- A token that is seen stands there.
pub seen : (k : Lexeme) (a : Text) → sees k a ≡ true → Token narrow a k (after a)
unfolding sees
seen k a h = token_there a k (found_is k (lexeme a) h)

-- what is seen of a token
pub sees_by : (k l : Lexeme) (a : Text) → lexeme a ≡ Some l → sees k a ≡ same_lexeme k l
unfolding sees
sees_by k l a h = ap (is_found k) h

-- what stands in front where a token stands
pub token_front : {a b : Text} {l : Lexeme} (t : Token narrow a l b) → front a ≡ t.spelled ++ b
token_front {a} {b} {l} t = ap front t.whole_is ∙ front_gap t.gap (t.spelled ++ b) t.blank ∙ (spelled_finds t.is_spelled).bare
