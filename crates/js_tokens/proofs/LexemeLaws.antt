-- The functions of the token at the front are the relation of the grammar.
use Rattle.std.proofs.Common.{◌≡◌, refl, ℕ, ◌<◌, Bool, true, false, not, ◌&&◌, ◌||◌, if◌then◌else◌, [], ◌∷◌, ◌++◌, length, drop, Option, None, Some, inl, inr, sym, ap, subst, ◌∙◌, arith}
use Rattle.std.specs.Prelude.{nat_eq, nat_lt, codes}
use Rattle.std.specs.Str.{IsUtf8}
use Rattle.std.proofs.lemmas.Bool.{and_parts, or_cases, eqb-true, false≢true}
use Rattle.std.proofs.lemmas.Bool.Decides.{nat_tests}
use Rattle.std.proofs.lemmas.Str.{encode_ascii, IsUtf8-encode}
use Rattle.std.proofs.Math.Seq.{drop-append_seam}
use Rattle.js_term.specs.Term.{Text}
use Rattle.js_term.specs.Lexeme.{is_digit, is_quote, is_start, is_part, is_one_of}
use Rattle.std.specs.Str.{chars}
use Rattle.std.proofs.Common.{append_assoc}
use Rattle.js_chars.specs.Names.{is_identifier_start}
use Rattle.js_term.specs.Lexeme.{between}
use Rattle.js_syntax.specs.Lexical.{is_e, up_to, onward, is_mantissa, are_digits, is_radix_integer, is_decimal_literal, without_last, is_name, begins_part, begins_start_or_digit, first_passes, is_point, is_integer, is_numeral, is_big_integer, is_raw_string, normal_lines, decoded, are_template_characters, begins}
use Rattle.js_syntax.specs.Tokens.{Lexeme, word, private_name, number, big_integer, string, regexp, no_substitution, template_head, template_middle, template_tail, sign, signs, opens_with, is_longest, Lexed, is_word, is_private_name, is_number, is_bigint, is_string, is_regexp, is_no_substitution, is_head, is_middle, is_tail, is_punctuator}
use Rattle.js_tokens.specs.Names.{begins_name, name_run, behind_name}
use Rattle.js_tokens.specs.Punctuators.{punctuator_at}
use Rattle.js_tokens.specs.Strings.{before, string_rest, string_value, value_in}
use Rattle.js_tokens.specs.Templates.{template_end}
use Rattle.js_tokens.specs.Numbers.{number_rest}
use Rattle.js_tokens.specs.Looks.{is_div_lexeme}
use Rattle.js_tokens.specs.Next.{Cut, cut_if, identifier_name_cut, private_identifier_cut, numeric_literal_by, numeric_literal_cut, string_literal_by, string_literal_cut, template_by, template_cut, punctuator_by, punctuator_cut, cut}
use Rattle.js_tokens.proofs.Beginnings.{each_of, begins_split}
use Rattle.js_tokens.proofs.NameLaws.{name_found, name_there, behind_utf8}
use Rattle.js_tokens.proofs.PunctuatorLaws.{punctuator_found, punctuator_there}
use Rattle.js_tokens.proofs.StringLaws.{before_is, string_found, string_there}
use Rattle.js_tokens.proofs.TemplateLaws.{part_found, head_there, tail_there}
use Rattle.js_tokens.proofs.NumberLaws.{number_there, big_there, big_parts, number_end, no_numeral}

-- ---- what is found stands there

record Each (text : Text) (found : Cut) : Type 0 where
  holds : (l : Lexeme) (rest : Text) → found ≡ Some (l, rest) → Lexed l text rest

each_none : (text : Text) → Each text None
each_none text = record { holds = λ l b e. absurd (cc) }

each_some : (text : Text) (l : Lexeme) (b : Text) → Lexed l text b → Each text (Some (l, b))
each_some text l b h = record { holds = λ k d e. let pair : ◌≡◌ {A = Lexeme × Text} (l, b) (k, d) = cc in subst (λ (p : Lexeme × Text). Lexed p.0 text p.1) pair h }

each_if : (text : Text) (b : Bool) (x y : Cut) → (b ≡ true → Each text x) → (b ≡ false → Each text y) → Each text (if b then x else y)
each_if text true x y h k = h refl
each_if text false x y h k = k refl

at_byte : (P : ℕ → Type 0) (c d : ℕ) → nat_eq c d ≡ true → P d → P c
at_byte P c d e h = subst P (sym (eqb-true c d e)) h

not_true : (b : Bool) → not b ≡ true → b ≡ false
not_true true e = absurd (false≢true e)
not_true false e = refl

word_each : (text : Text) → IsUtf8 text → Each text (identifier_name_cut text)
unfolding identifier_name_cut
word_each text u = each_if text (begins_name text) _ _
    (λ h. let n = name_found text u h in each_some text _ _ (subst (λ z. Lexed (word (name_run text)) z (behind_name text)) (sym n.whole) (is_word n.named n.stops)))
    (λ h. each_none text)

private_each : (s : Text) → IsUtf8 s → Each (35 ∷ s) (private_identifier_cut s)
unfolding private_identifier_cut
private_each s u = each_if (35 ∷ s) (begins_name s) _ _
    (λ h. let n = name_found s u h in each_some (35 ∷ s) _ _ (subst (λ z. Lexed (private_name (name_run s)) (35 ∷ z) (behind_name s)) (sym n.whole) (is_private_name n.named n.stops)))
    (λ h. each_none (35 ∷ s))

number_each : (text : Text) → Each text (numeric_literal_cut text)
unfolding numeric_literal_cut
number_each text =
    let rest = number_rest text in
    let raw = before text rest in
    let e = number_end text in
    let whole : text ≡ raw ++ rest = e.is ∙ ap (λ z. z ++ rest) (sym (before_is text e.front rest e.is)) in
    each_if text (is_numeral raw && (not (begins_start_or_digit rest) && not (is_integer raw && first_passes is_point rest))) _ _
    (λ h. let both = and_parts (is_numeral raw) _ h in let more = and_parts (not (begins_start_or_digit rest)) _ both.1 in
    each_some text (number raw) rest (subst (λ z. Lexed (number raw) z rest) (sym whole) (is_number both.0 (not_true _ more.0) (not_true _ more.1))))
    (λ n. each_if text (is_big_integer raw && not (begins_start_or_digit rest)) _ _
    (λ h. let both = and_parts (is_big_integer raw) _ h in each_some text (big_integer raw) rest (subst (λ z. Lexed (big_integer raw) z rest) (sym whole) (is_bigint both.0 (not_true _ both.1))))
    (λ h. each_none text))

string_each : (text : Text) → Each text (string_literal_cut text)
unfolding string_literal_cut
string_each text = go (string_rest text) refl
  where
    go : (o : Option Text) → string_rest text ≡ o → Each text (string_literal_by text o)
    go None e = each_none text
    go (Some rest) e = each_if text (is_raw_string (before text rest)) _ _
        (λ h. let r = string_found text rest e h in
        each_some text (string (before text rest) (value_in (string_value (before text rest)))) rest
        (subst (λ z. Lexed (string z (value_in (string_value (before text rest)))) text rest) (sym r.raw_is) (subst (λ z. Lexed (string (r.quote ∷ (r.front ++ r.quote ∷ [])) (value_in (string_value (before text rest)))) z rest) (sym r.is) (is_string r.front r.quoted r.value_is))))
        (λ h. each_none text)

template_each : (s : Text) → Each (96 ∷ s) (template_cut s)
unfolding template_cut
template_each s = go (template_end s) refl
  where
    go : (o : Option (Bool × Text)) → template_end s ≡ o → Each (96 ∷ s) (template_by s o)
    go None e = each_none (96 ∷ s)
    go (Some (false, rest)) e =
        let r = part_found s false rest e in
        each_some (96 ∷ s) _ rest (subst (λ z. Lexed (no_substitution (normal_lines z)) (96 ∷ s) rest) (sym (before_is s r.front (96 ∷ rest) r.is)) (subst (λ z. Lexed (no_substitution (normal_lines r.front)) (96 ∷ z) rest) (sym r.is) (is_no_substitution r.front r.characters)))
    go (Some (true, rest)) e =
        let r = part_found s true rest e in
        each_some (96 ∷ s) _ rest (subst (λ z. Lexed (template_head (normal_lines z)) (96 ∷ s) rest) (sym (before_is s r.front (36 ∷ 123 ∷ rest) r.is)) (subst (λ z. Lexed (template_head (normal_lines r.front)) (96 ∷ z) rest) (sym r.is) (is_head r.front r.characters)))

punctuator_each : (text : Text) → Each text (punctuator_cut text)
unfolding punctuator_cut
punctuator_each text = go (punctuator_at text) refl
  where
    go : (o : Option Text) → punctuator_at text ≡ o → Each text (punctuator_by text o)
    go None e = each_none text
    go (Some s) e =
        let h = punctuator_found text s e in
        let split = begins_split s text (and_parts (begins s text) _ h.opens).0 in
        let rest_is : drop (length s) text ≡ split.rest = ap (drop (length s)) split.is ∙ drop-append_seam s split.rest in
        each_some text (sign s) (drop (length s) text) (subst (λ z. Lexed (sign s) text z) (sym rest_is) (subst (λ z. Lexed (sign s) z split.rest) (sym split.is) (is_punctuator h.is_one (subst (λ z. opens_with s z ≡ true) split.is h.opens) (subst (λ z. is_longest s z ≡ true) split.is h.longest))))

byte_utf8 : (c : ℕ) → c < 128 → IsUtf8 (c ∷ [])
byte_utf8 c ascii = subst IsUtf8 (encode_ascii c ascii) (IsUtf8-encode c (grind arith))

cut_each : (text : Text) → IsUtf8 text → Each text (cut text)
unfolding cut
cut_each [] u = each_none []
cut_each (c ∷ s) u =
    each_if (c ∷ s) (is_quote c) _ _ (λ h. string_each (c ∷ s)) (λ n0.
    each_if (c ∷ s) (nat_eq c 96) _ _ (λ h. at_byte (λ d. Each (d ∷ s) (template_cut s)) c 96 h (template_each s)) (λ n1.
    each_if (c ∷ s) (nat_eq c 35) _ _ (λ h. at_byte (λ d. Each (d ∷ s) (private_identifier_cut s)) c 35 h (private_each s (behind_utf8 (c ∷ []) s (byte_utf8 c (grind (arith, nat_tests))) u))) (λ n2.
    each_if (c ∷ s) (is_digit c || (nat_eq c 46 && first_passes is_digit s)) _ _ (λ h. number_each (c ∷ s)) (λ n3.
    each_if (c ∷ s) (begins_name (c ∷ s)) _ _ (λ h. word_each (c ∷ s) u) (λ n4. punctuator_each (c ∷ s))))))

-- What is found is the token that stands there.
pub cut_found : (text : Text) → IsUtf8 text → (l : Lexeme) (rest : Text) → cut text ≡ Some (l, rest) → Lexed l text rest
cut_found text u = (cut_each text u).holds

-- ---- what stands there is found

record Apart (c : ℕ) : Type 0 where
  no_quote : is_quote c ≡ false
  no_backtick : nat_eq c 96 ≡ false
  no_hash : nat_eq c 35 ≡ false

start_apart : (c : ℕ) → is_start c ≡ true → (Apart c) × (is_digit c ≡ false) × (nat_eq c 46 ≡ false)
start_apart c e = (record { no_quote = grind (arith, nat_tests); no_backtick = grind (arith, nat_tests); no_hash = grind (arith, nat_tests) }, grind (arith, nat_tests), grind (arith, nat_tests))

wide_apart : (c : ℕ) → nat_lt c 128 ≡ false → (Apart c) × (is_digit c ≡ false) × (nat_eq c 46 ≡ false)
wide_apart c e = (record { no_quote = grind (arith, nat_tests); no_backtick = grind (arith, nat_tests); no_hash = grind (arith, nat_tests) }, grind (arith, nat_tests), grind (arith, nat_tests))

name_apart : (c : ℕ) (s : Text) → begins_name (c ∷ s) ≡ true → (Apart c) × (is_digit c ≡ false) × (nat_eq c 46 ≡ false)
name_apart c s e = go (nat_lt c 128) refl e
  where
    go : (b : Bool) → nat_lt c 128 ≡ b → (if b then is_start c else first_passes is_identifier_start (chars (c ∷ s))) ≡ true → (Apart c) × (is_digit c ≡ false) × (nat_eq c 46 ≡ false)
    go true is e = start_apart c e
    go false is e = wide_apart c is

cut_name : (m : Text) → begins_name m ≡ true → cut m ≡ identifier_name_cut m
unfolding cut
cut_name [] e = absurd (false≢true e)
cut_name (c ∷ s) e =
    let a = name_apart c s e in
    let q = a.0.no_quote in let b = a.0.no_backtick in let h = a.0.no_hash in let d = a.1 in let p = a.2 in
    rw (q, b, h, d, p) (go (begins_name (c ∷ s)) e)
  where
    go : (b : Bool) → b ≡ true → (if b then identifier_name_cut (c ∷ s) else punctuator_cut (c ∷ s)) ≡ identifier_name_cut (c ∷ s)
    go true e = refl
    go false e = absurd (false≢true e)

word_there : (x rest : Text) → IsUtf8 (x ++ rest) → is_name x ≡ true → begins_part rest ≡ false → cut (x ++ rest) ≡ Some (word x, rest)
unfolding identifier_name_cut
word_there x rest u named stops =
    let n = name_there x rest u named stops in
    let n0 = n.0 in let n1 = n.1 in let n2 = n.2 in
    cut_name (x ++ rest) n.0 ∙ (rw (n0, n1, n2) refl)

private_there : (x rest : Text) → IsUtf8 (35 ∷ (x ++ rest)) → is_name x ≡ true → begins_part rest ≡ false → cut (35 ∷ (x ++ rest)) ≡ Some (private_name x, rest)
unfolding cut private_identifier_cut
private_there x rest u named stops =
    let n = name_there x rest (behind_utf8 (35 ∷ []) (x ++ rest) (byte_utf8 35 (omega arith)) u) named stops in
    let n0 = n.0 in let n1 = n.1 in let n2 = n.2 in
    rw (n0, n1, n2) refl

-- ---- numbers

abbrev opens_number : Text → Bool
opens_number [] = false
opens_number (c ∷ s) = is_digit c || (nat_eq c 46 && first_passes is_digit s)

digit_apart : (c : ℕ) → is_digit c ≡ true → Apart c
digit_apart c e = record { no_quote = grind (arith, nat_tests); no_backtick = grind (arith, nat_tests); no_hash = grind (arith, nat_tests) }

point_apart : (c : ℕ) → nat_eq c 46 ≡ true → Apart c
point_apart c e = record { no_quote = grind (arith, nat_tests); no_backtick = grind (arith, nat_tests); no_hash = grind (arith, nat_tests) }

cut_opens : (m : Text) → opens_number m ≡ true → cut m ≡ numeric_literal_cut m
unfolding cut
cut_opens [] e = absurd (false≢true e)
cut_opens (c ∷ s) e =
    let a = elim (or_cases (is_digit c) _ e) as (λ v. Apart c) [ inl digit ↦ digit_apart c digit | inr point ↦ point_apart c (and_parts (nat_eq c 46) _ point).0 ] in
    let q = a.no_quote in let b = a.no_backtick in let h = a.no_hash in
    rw (q, b, h) (go (is_digit c || (nat_eq c 46 && first_passes is_digit s)) e)
  where
    go : (b : Bool) → b ≡ true → (if b then numeric_literal_cut (c ∷ s) else if begins_name (c ∷ s) then identifier_name_cut (c ∷ s) else punctuator_cut (c ∷ s)) ≡ numeric_literal_cut (c ∷ s)
    go true e = refl
    go false e = absurd (false≢true e)

stops_part : (r : Text) → begins_start_or_digit r ≡ false → first_passes is_part r ≡ false
stops_part [] e = refl
stops_part (c ∷ r) e = go (nat_lt c 128) refl e
  where
    go : (b : Bool) → nat_lt c 128 ≡ b → (if b then is_start c || is_digit c else first_passes is_identifier_start (chars (c ∷ r))) ≡ false → is_part c ≡ false
    go true is e = e
    go false is e = grind (arith, nat_tests)

or_first : (a b : Bool) → a ≡ true → (a || b) ≡ true
or_first true b e = refl
or_first false b e = absurd (false≢true e)

digit_opens : (c : ℕ) (s : Text) → is_digit c ≡ true → opens_number (c ∷ s) ≡ true
digit_opens c s e = or_first (is_digit c) _ e

integer_opens : (x r : Text) → is_integer x ≡ true → opens_number (x ++ r) ≡ true
integer_opens [] r e = absurd (false≢true e)
integer_opens (c ∷ []) r e = digit_opens c r e
integer_opens (c ∷ d ∷ x) r e = let first = (and_parts (between 49 57 c) _ e).0 in digit_opens c (d ∷ (x ++ r)) (grind (arith, nat_tests))

radix_opens : (x r : Text) → is_radix_integer x ≡ true → opens_number (x ++ r) ≡ true
radix_opens [] r e = absurd (false≢true e)
radix_opens (z ∷ []) r e = absurd (false≢true e)
radix_opens (z ∷ k ∷ ds) r e = let first = (and_parts (nat_eq z 48) _ e).0 in digit_opens z (k ∷ (ds ++ r)) (grind (arith, nat_tests))

first_of_digits : (ds : Text) → are_digits is_digit ds ≡ true → first_passes is_digit ds ≡ true
first_of_digits [] e = e
first_of_digits (c ∷ []) e = e
first_of_digits (c ∷ d ∷ ds) e = (and_parts (is_digit c) _ e).0

first_up_to : (cs r : Text) → first_passes is_digit (up_to is_e cs) ≡ true → first_passes is_digit (cs ++ r) ≡ true
first_up_to [] r e = absurd (false≢true e)
first_up_to (c ∷ cs) r e = go (is_e c) e
  where
    go : (b : Bool) → first_passes is_digit (if b then [] else c ∷ up_to is_e cs) ≡ true → is_digit c ≡ true
    go true e = absurd (false≢true e)
    go false e = e

or_second : (a b : Bool) → b ≡ true → (a || b) ≡ true
or_second true b e = refl
or_second false b e = e

decimal_opens : (x r : Text) → is_decimal_literal x ≡ true → opens_number (x ++ r) ≡ true
decimal_opens [] r e = absurd (false≢true e)
decimal_opens (c ∷ cs) r e = by_e (is_e c) (and_parts (is_mantissa (up_to is_point (up_to is_e (c ∷ cs))) (onward is_point (up_to is_e (c ∷ cs)))) _ e).0
  where
    by_point : (p : Bool) → nat_eq c 46 ≡ p → is_mantissa (if p then [] else c ∷ up_to is_point (up_to is_e cs)) (if p then c ∷ up_to is_e cs else onward is_point (up_to is_e cs)) ≡ true → opens_number (c ∷ (cs ++ r)) ≡ true
    by_point true is e = or_second (is_digit c) _ (let digit = first_up_to cs r (first_of_digits (up_to is_e cs) e) in rw (is, digit) refl)
    by_point false is e = digit_opens c (cs ++ r) (whole (up_to is_point (up_to is_e cs)) (onward is_point (up_to is_e cs)) e)
      where
        first : (w : Text) → is_integer (c ∷ w) ≡ true → is_digit c ≡ true
        first [] e = e
        first (d ∷ w) e = let h = (and_parts (between 49 57 c) _ e).0 in grind (arith, nat_tests)

        whole : (w f : Text) → is_mantissa (c ∷ w) f ≡ true → is_digit c ≡ true
        whole w [] e = first w e
        whole w (p ∷ []) e = first w e
        whole w (p ∷ d ∷ ds) e = first w (and_parts (is_integer (c ∷ w)) _ e).0

    by_e : (b : Bool) → is_mantissa (up_to is_point (if b then [] else c ∷ up_to is_e cs)) (onward is_point (if b then [] else c ∷ up_to is_e cs)) ≡ true → opens_number (c ∷ (cs ++ r)) ≡ true
    by_e true e = absurd (false≢true e)
    by_e false e = by_point (nat_eq c 46) refl e

numeral_opens : (x r : Text) → is_numeral x ≡ true → opens_number (x ++ r) ≡ true
numeral_opens x r e = elim (or_cases (is_radix_integer x) (is_decimal_literal x) e) as (λ v. opens_number (x ++ r) ≡ true) [ inl radix ↦ radix_opens x r radix | inr decimal ↦ decimal_opens x r decimal ]

big_opens : (x r : Text) → is_big_integer x ≡ true → opens_number (x ++ r) ≡ true
big_opens x r e =
    let p = big_parts x (without_last 110 x) refl e in
    let whole : x ++ r ≡ p.front ++ 110 ∷ r = ap (λ z. z ++ r) p.is ∙ append_assoc p.front (110 ∷ []) r in
    ap opens_number whole ∙ (elim (or_cases (is_integer p.front) (is_radix_integer p.front) p.numeral) as (λ v. opens_number (p.front ++ 110 ∷ r) ≡ true) [ inl integer ↦ integer_opens p.front (110 ∷ r) integer | inr radix ↦ radix_opens p.front (110 ∷ r) radix ])

point_of : (a b : Bool) → (a && b) ≡ false → a ≡ true → b ≡ false
point_of true b e h = e
point_of false b e h = absurd (false≢true h)

numeral_there : (x rest : Text) → is_numeral x ≡ true → begins_start_or_digit rest ≡ false → (is_integer x && first_passes is_point rest) ≡ false → cut (x ++ rest) ≡ Some (number x, rest)
unfolding numeric_literal_cut
numeral_there x rest e stops point =
    let rest_is = number_there x rest e (stops_part rest stops) (point_of _ _ point) in
    let raw_is = before_is (x ++ rest) x rest refl in
    cut_opens (x ++ rest) (numeral_opens x rest e) ∙ ap (λ z. numeric_literal_by (before (x ++ rest) z) z) rest_is ∙ ap (λ z. numeric_literal_by z rest) raw_is ∙ (rw (e, stops, point) refl)

bigint_there : (x rest : Text) → is_big_integer x ≡ true → begins_start_or_digit rest ≡ false → cut (x ++ rest) ≡ Some (big_integer x, rest)
unfolding numeric_literal_cut
bigint_there x rest e stops =
    let rest_is = big_there x rest e (stops_part rest stops) in
    let raw_is = before_is (x ++ rest) x rest refl in
    let other = no_numeral x e in
    cut_opens (x ++ rest) (big_opens x rest e) ∙ ap (λ z. numeric_literal_by (before (x ++ rest) z) z) rest_is ∙ ap (λ z. numeric_literal_by z rest) raw_is ∙ (rw (other, e, stops) refl)

-- ---- strings, templates

text_there : (quote : ℕ) (s value rest : Text) → is_quote quote ≡ true → decoded quote s ≡ Some value → cut (quote ∷ (s ++ quote ∷ rest)) ≡ Some (string (quote ∷ (s ++ quote ∷ [])) value, rest)
unfolding cut string_literal_cut
text_there quote s value rest q e =
    let r = string_there quote s value rest q e in
    let r0 = r.rest_is in let r1 = r.raw_is in let r2 = r.is_raw in let r3 = r.value_is in
    rw q (ap (string_literal_by (quote ∷ (s ++ quote ∷ rest))) r0 ∙ choose (is_raw_string (before (quote ∷ (s ++ quote ∷ rest)) rest)) r2 ∙ ap (λ z. Some (string z (value_in (string_value (before (quote ∷ (s ++ quote ∷ rest)) rest))), rest)) r1 ∙ ap (λ z. Some (string (quote ∷ (s ++ quote ∷ [])) z, rest)) r3)
  where
    choose : {l : Lexeme} (b : Bool) → b ≡ true → cut_if b l rest ≡ Some (l, rest)
    choose true e = refl
    choose false e = absurd (false≢true e)

whole_there : (s rest : Text) → are_template_characters s ≡ true → cut (96 ∷ (s ++ 96 ∷ rest)) ≡ Some (no_substitution (normal_lines s), rest)
unfolding cut template_cut
whole_there s rest e = ap (template_by (s ++ 96 ∷ rest)) (tail_there s rest e) ∙ ap (λ z. Some (no_substitution (normal_lines z), rest)) (before_is (s ++ 96 ∷ rest) s (96 ∷ rest) refl)

opening_there : (s rest : Text) → are_template_characters s ≡ true → cut (96 ∷ (s ++ 36 ∷ 123 ∷ rest)) ≡ Some (template_head (normal_lines s), rest)
unfolding cut template_cut
opening_there s rest e = ap (template_by (s ++ 36 ∷ 123 ∷ rest)) (head_there s rest e) ∙ ap (λ z. Some (template_head (normal_lines z), rest)) (before_is (s ++ 36 ∷ 123 ∷ rest) s (36 ∷ 123 ∷ rest) refl)

-- ---- signs

abbrev is_cut : Text → Type 0
is_cut s = (rest : Text) → opens_with s (s ++ rest) ≡ true → cut (s ++ rest) ≡ punctuator_cut (s ++ rest)

point_cut : is_cut (codes ".")
unfolding cut
point_cut rest e = let no = not_true (first_passes is_digit rest) e in rw no refl

sign_is_cut : (s : Text) → is_one_of s signs ≡ true → is_cut s
unfolding cut
sign_is_cut s e = each_of is_cut signs s ((λ rest f. refl), ((λ rest f. refl), ((λ rest f. refl), ((λ rest f. refl), ((λ rest f. refl), ((λ rest f. refl), (point_cut, ((λ rest f. refl), ((λ rest f. refl), ((λ rest f. refl), ((λ rest f. refl), ((λ rest f. refl), ((λ rest f. refl), ((λ rest f. refl), ((λ rest f. refl), ((λ rest f. refl), ((λ rest f. refl), ((λ rest f. refl), ((λ rest f. refl), ((λ rest f. refl), ((λ rest f. refl), ((λ rest f. refl), ((λ rest f. refl), ((λ rest f. refl), ((λ rest f. refl), ((λ rest f. refl), ((λ rest f. refl), ((λ rest f. refl), ((λ rest f. refl), ((λ rest f. refl), ((λ rest f. refl), ((λ rest f. refl), ((λ rest f. refl), ((λ rest f. refl), ((λ rest f. refl), ((λ rest f. refl), ((λ rest f. refl), ((λ rest f. refl), ((λ rest f. refl), ((λ rest f. refl), ((λ rest f. refl), ((λ rest f. refl), ((λ rest f. refl), ((λ rest f. refl), ((λ rest f. refl), ((λ rest f. refl), ((λ rest f. refl), ((λ rest f. refl), ((λ rest f. refl), ((λ rest f. refl), ((λ rest f. refl), ((λ rest f. refl), ((λ rest f. refl), ((λ rest f. refl), ((λ rest f. refl), ((λ rest f. refl), ((λ rest f. refl), tt))))))))))))))))))))))))))))))))))))))))))))))))))))))))) e

punctuator_is_there : (s rest : Text) → is_one_of s signs ≡ true → opens_with s (s ++ rest) ≡ true → is_longest s (s ++ rest) ≡ true → cut (s ++ rest) ≡ Some (sign s, rest)
unfolding punctuator_cut
punctuator_is_there s rest e opens longest =
    sign_is_cut s e rest opens ∙ ap (punctuator_by (s ++ rest)) (punctuator_there s rest (record { is_one = e; opens = opens; longest = longest })) ∙ ap (λ z. Some (sign s, z)) (drop-append_seam s rest)

-- The token that stands there is found.
pub cut_there : {l : Lexeme} {m rest : Text} → Lexed l m rest → IsUtf8 m → is_div_lexeme l ≡ true → cut m ≡ Some (l, rest)
cut_there (is_word {x} {rest} named stops) u goal = word_there x rest u named stops
cut_there (is_private_name {x} {rest} named stops) u goal = private_there x rest u named stops
cut_there (is_number {x} {rest} e stops point) u goal = numeral_there x rest e stops point
cut_there (is_bigint {x} {rest} e stops) u goal = bigint_there x rest e stops
cut_there (is_string {quote} s {value} {rest} q e) u goal = text_there quote s value rest q e
cut_there (is_regexp flags p f stops) u goal = absurd (false≢true goal)
cut_there (is_no_substitution s {rest} e) u goal = whole_there s rest e
cut_there (is_head s {rest} e) u goal = opening_there s rest e
cut_there (is_middle s e) u goal = absurd (false≢true goal)
cut_there (is_tail s e) u goal = absurd (false≢true goal)
cut_there (is_punctuator {s} {rest} e opens longest) u goal = punctuator_is_there s rest e opens longest
