-- Tokens of ASCII texts, behind a gap of blanks and before a rest. The premises are `refl` at texts that are written out.
use Rattle.std.proofs.Common.{◌≡◌, ℕ, ◌<◌, Bool, true, false, not, ◌&&◌, ◌||◌, cond, [], ◌∷◌, ◌++◌, Some, arith, refl, sym, ap, subst, ◌∙◌}
use Rattle.std.specs.Prelude.{nat_eq, nat_lt}
use Rattle.std.specs.List.{list_all, list_any}
use Rattle.std.proofs.lemmas.Bool.{and_parts, and_from, or_parts, ne_eqb, or_left, not-true, lt-ltb, agree_below, agree_below_at, false≢true}
use Rattle.std.proofs.lemmas.Bool.Decides.{nat_tests}
use Rattle.js_term.specs.Term.{Text}
use Rattle.js_term.specs.Lexeme.{is_line_end, is_blank, is_digit, is_start, is_part, goes_on, is_word, not_next, is_quote, is_one_of}
use Rattle.js_chars.specs.Names.{is_identifier_start, is_identifier_part, is_identifier_name}
use Rattle.std.specs.Str.{is_utf8, chars}
use Rattle.js_syntax.specs.Lexical.{white_space, line_ends, begins_gap, is_ascii, is_name, first_passes, begins_part, begins_start_or_digit, is_integer, is_point, is_numeral, is_big_integer, decoded, are_template_characters, normal_lines, is_regexp_body, are_regexp_flags, in_order}
use Rattle.js_syntax.specs.Tokens.{Gap, no_gap, blank, line_end, Front, SameLine, AtEnd, word, private_name, number, big_integer, string, regexp, no_substitution, template_head, template_middle, template_tail, sign, signs, opens_with, is_longest, Lexed, Lexeme, Token, is_number, is_private_name, is_bigint, is_string, is_regexp, is_no_substitution, is_head, is_middle, is_tail, is_punctuator}
use Rattle.js_syntax.specs.Tokens

-- ---- bytes

part_below : (c : ℕ) → is_part c ≡ true → c < 128
part_below c e = grind (arith, nat_tests)

-- what a computation shows for each byte of ASCII
implied : (a b : Bool) → not a || b ≡ true → a ≡ true → b ≡ true
implied true b e h = e
implied false b e h = absurd (false≢true h)

abbrev always : ℕ → Bool
always c = true

pub from_table : (p q : ℕ → Bool) (c : ℕ) → agree_below (λ d. not (p d) || q d) always 128 ≡ true → c < 128 → p c ≡ true → q c ≡ true
from_table p q c table below e = implied (p c) (q c) (agree_below_at (λ d. not (p d) || q d) always 128 c table below) e

part_ascii : (c : ℕ) → is_part c ≡ true → is_ascii c ≡ true
part_ascii c e = lt-ltb c 128 (part_below c e)

parts_ascii : (x : Text) → list_all is_part x ≡ true → list_all is_ascii x ≡ true
parts_ascii [] e = refl
parts_ascii (c ∷ cs) e = let both = and_parts (is_part c) (list_all is_part cs) e in and_from _ _ (part_ascii c both.0) (parts_ascii cs both.1)

start_part : (c : ℕ) → is_start c ≡ true → is_part c ≡ true
start_part c e = or_left (is_start c) (is_digit c) e

word_parts : (x : Text) → is_word x ≡ true → list_all is_part x ≡ true
word_parts [] e = refl
word_parts (c ∷ cs) e = let both = and_parts (is_start c) (list_all is_part cs) e in and_from _ _ (start_part c both.0) both.1

-- ---- names

pub ascii_name : (x : Text) → is_word x ≡ true → is_name x ≡ true
ascii_name x e = ap (λ b. cond b (is_word x) (is_utf8 x && is_identifier_name (chars x))) (parts_ascii x (word_parts x e)) ∙ e

-- a byte that does not go on with a word
ends_word : (c : ℕ) → not (goes_on c) ≡ true → (is_ascii c ≡ true) × (is_part c ≡ false)
ends_word c e =
    let parts = or_parts (is_part c) (nat_lt 127 c) (not-true (goes_on c) e) in
    (grind (arith, nat_tests), parts.0)

pub ascii_end : (rest : Text) → not_next goes_on rest ≡ true → begins_part rest ≡ false
ascii_end [] e = refl
ascii_end (c ∷ cs) e = let ends = ends_word c e in ap (λ b. cond b (is_part c) (first_passes is_identifier_part (chars (c ∷ cs)))) ends.0 ∙ ends.1

pub ascii_end_of_number : (rest : Text) → not_next goes_on rest ≡ true → begins_start_or_digit rest ≡ false
ascii_end_of_number [] e = refl
ascii_end_of_number (c ∷ cs) e = let ends = ends_word c e in ap (λ b. cond b (is_start c || is_digit c) (first_passes is_identifier_start (chars (c ∷ cs)))) ends.0 ∙ ends.1

-- ---- gaps

blank_below : (c : ℕ) → is_blank c ≡ true → c < 128
blank_below c e = grind (arith, nat_tests)

is_single_blank : (c : ℕ) → is_blank c ≡ true → is_line_end c ≡ false → is_one_of (c ∷ []) white_space ≡ true
is_single_blank c e not_end =
    let table = agree_below_at (λ d. not (is_blank d) || (is_line_end d || is_one_of (d ∷ []) white_space)) always 128 c refl (blank_below c e) in
    ap (λ b. b || is_one_of (c ∷ []) white_space) (sym not_end) ∙ implied (is_blank c) (is_line_end c || is_one_of (c ∷ []) white_space) table e

is_single_end : (c : ℕ) → is_line_end c ≡ true → is_one_of (c ∷ []) line_ends ≡ true
is_single_end c e =
    let below : c < 128 = grind (arith, nat_tests) in
    implied (is_line_end c) (is_one_of (c ∷ []) line_ends) (agree_below_at (λ d. not (is_line_end d) || is_one_of (d ∷ []) line_ends) always 128 c refl below) e

gap_behind : (c : ℕ) (line : Bool) {a b : Text} → is_blank c ≡ true → Gap line a b → Gap (is_line_end c || line) (c ∷ a) b
gap_behind c line {a} {b} e gap =
    elim (is_line_end c) as (λ x. is_line_end c ≡ x → Gap (x || line) (c ∷ a) b) [
      | true ↦ λ ends. line_end (c ∷ []) (is_single_end c ends) gap
      | false ↦ λ ends. blank (c ∷ []) (is_single_blank c e ends) gap
    ] refl

pub gap_of : (gap rest : Text) → list_all is_blank gap ≡ true → Gap (list_any is_line_end gap) (gap ++ rest) rest
gap_of [] rest e = no_gap
gap_of (c ∷ cs) rest e = let both = and_parts (is_blank c) (list_all is_blank cs) e in gap_behind c (list_any is_line_end cs) both.0 (gap_of cs rest both.1)

pub front_of : (gap rest : Text) → list_all is_blank gap ≡ true → begins_gap rest ≡ false → Front (list_any is_line_end gap) (gap ++ rest) rest
front_of gap rest e ends = record { gap = gap_of gap rest e; ends = ends }

pub same_line_of : (gap rest : Text) → list_all is_blank gap ≡ true → list_any is_line_end gap ≡ false → begins_gap rest ≡ false → SameLine (gap ++ rest)
same_line_of gap rest e same ends = record { rest = rest; front = subst (λ line. Front line (gap ++ rest) rest) same (front_of gap rest e ends) }

pub at_end_of : (gap : Text) → list_all is_blank gap ≡ true → AtEnd (gap ++ [])
at_end_of gap e = record { line = list_any is_line_end gap; front = front_of gap [] e refl }

-- ---- tokens

pub token_of : (gap middle : Text) (l : Lexeme) (rest : Text) → list_all is_blank gap ≡ true → begins_gap middle ≡ false → Lexed l middle rest → Token (gap ++ middle) l rest
token_of gap middle l rest e ends lexed = record { line = list_any is_line_end gap; middle = middle; front = front_of gap middle e ends; lexed = lexed }

part_no_gap : (c : ℕ) (rest : Text) → is_part c ≡ true → begins_gap (c ∷ rest) ≡ false
part_no_gap c rest e = not-true _ (implied (is_part c) (not (begins_gap (c ∷ rest))) (agree_below_at (λ d. not (is_part d) || not (begins_gap (d ∷ rest))) always 128 c refl (part_below c e)) e)

word_no_gap : (x rest : Text) → is_word x ≡ true → begins_gap (x ++ rest) ≡ false
word_no_gap [] rest e = absurd (false≢true e)
word_no_gap (c ∷ cs) rest e = part_no_gap c (cs ++ rest) (start_part c (and_parts (is_start c) (list_all is_part cs) e).0)

pub word_token : (gap x rest : Text) → list_all is_blank gap ≡ true → is_word x ≡ true → not_next goes_on rest ≡ true → Token (gap ++ (x ++ rest)) (word x) rest
word_token gap x rest e w ends = token_of gap (x ++ rest) (word x) rest e (word_no_gap x rest w) (Tokens.is_word (ascii_name x w) (ascii_end rest ends))

pub private_token : (gap x rest : Text) → list_all is_blank gap ≡ true → is_word x ≡ true → not_next goes_on rest ≡ true → Token (gap ++ 35 ∷ (x ++ rest)) (private_name x) rest
private_token gap x rest e w ends = token_of gap (35 ∷ (x ++ rest)) (private_name x) rest e refl (is_private_name (ascii_name x w) (ascii_end rest ends))

pub number_token : (gap x rest : Text) → list_all is_blank gap ≡ true → begins_gap (x ++ rest) ≡ false → is_numeral x ≡ true → not_next goes_on rest ≡ true → is_integer x && first_passes is_point rest ≡ false → Token (gap ++ (x ++ rest)) (number x) rest
number_token gap x rest e no_gap_here numeral ends point = token_of gap (x ++ rest) (number x) rest e no_gap_here (is_number numeral (ascii_end_of_number rest ends) point)

pub bigint_token : (gap x rest : Text) → list_all is_blank gap ≡ true → begins_gap (x ++ rest) ≡ false → is_big_integer x ≡ true → not_next goes_on rest ≡ true → Token (gap ++ (x ++ rest)) (big_integer x) rest
bigint_token gap x rest e no_gap_here whole ends = token_of gap (x ++ rest) (big_integer x) rest e no_gap_here (is_bigint whole (ascii_end_of_number rest ends))

quote_no_gap : (quote : ℕ) (rest : Text) → is_quote quote ≡ true → begins_gap (quote ∷ rest) ≡ false
quote_no_gap quote rest e =
    let below : quote < 128 = grind (arith, nat_tests) in
    not-true _ (implied (is_quote quote) (not (begins_gap (quote ∷ rest))) (agree_below_at (λ d. not (is_quote d) || not (begins_gap (d ∷ rest))) always 128 quote refl below) e)

pub string_token : (gap : Text) (quote : ℕ) (s value rest : Text) → list_all is_blank gap ≡ true → is_quote quote ≡ true → decoded quote s ≡ Some value → Token (gap ++ quote ∷ (s ++ quote ∷ rest)) (string (quote ∷ (s ++ quote ∷ [])) value) rest
string_token gap quote s value rest e q d = token_of gap (quote ∷ (s ++ quote ∷ rest)) (string (quote ∷ (s ++ quote ∷ [])) value) rest e (quote_no_gap quote (s ++ quote ∷ rest) q) (is_string s q d)

other_front : (d c : ℕ) (cs : Text) → (is_regexp_body (d ∷ cs) ≡ true → ⊥) → is_regexp_body (c ∷ cs) ≡ true → nat_eq d c ≡ false
other_front d c cs none e = ne_eqb d c (λ same. none (subst (λ x. is_regexp_body (x ∷ cs) ≡ true) (sym same) e))

pattern_no_gap : (pattern rest : Text) → is_regexp_body pattern ≡ true → begins_gap (47 ∷ (pattern ++ rest)) ≡ false
pattern_no_gap [] rest e = absurd (false≢true e)
pattern_no_gap (c ∷ cs) rest e =
    let no_slash = other_front 47 c cs false≢true e in
    let no_star = other_front 42 c cs false≢true e in
    ap (λ b. b && true || (nat_eq 42 c && true || false)) no_slash ∙ ap (λ b. b && true || false) no_star

pub regexp_token : (gap pattern flags rest : Text) → list_all is_blank gap ≡ true → is_regexp_body pattern ≡ true → are_regexp_flags flags ≡ true → not_next goes_on rest ≡ true → Token (gap ++ 47 ∷ (pattern ++ 47 ∷ (flags ++ rest))) (regexp pattern (in_order flags)) rest
regexp_token gap pattern flags rest e body flagged ends = token_of gap (47 ∷ (pattern ++ 47 ∷ (flags ++ rest))) (regexp pattern (in_order flags)) rest e (pattern_no_gap pattern (47 ∷ (flags ++ rest)) body) (is_regexp flags body flagged (ascii_end rest ends))

pub sign_token : (gap s rest : Text) → list_all is_blank gap ≡ true → begins_gap (s ++ rest) ≡ false → is_one_of s signs ≡ true → opens_with s (s ++ rest) ≡ true → is_longest s (s ++ rest) ≡ true → Token (gap ++ (s ++ rest)) (sign s) rest
sign_token gap s rest e no_gap_here is opens longest = token_of gap (s ++ rest) (sign s) rest e no_gap_here (is_punctuator is opens longest)

-- ---- the parts of templates

pub template_token : (gap s rest : Text) → list_all is_blank gap ≡ true → are_template_characters s ≡ true → Token (gap ++ 96 ∷ (s ++ 96 ∷ rest)) (no_substitution (normal_lines s)) rest
template_token gap s rest e t = token_of gap (96 ∷ (s ++ 96 ∷ rest)) (no_substitution (normal_lines s)) rest e refl (is_no_substitution s t)

pub head_token : (gap s rest : Text) → list_all is_blank gap ≡ true → are_template_characters s ≡ true → Token (gap ++ 96 ∷ (s ++ 36 ∷ 123 ∷ rest)) (template_head (normal_lines s)) rest
head_token gap s rest e t = token_of gap (96 ∷ (s ++ 36 ∷ 123 ∷ rest)) (template_head (normal_lines s)) rest e refl (is_head s t)

pub middle_token : (gap s rest : Text) → list_all is_blank gap ≡ true → are_template_characters s ≡ true → Token (gap ++ 125 ∷ (s ++ 36 ∷ 123 ∷ rest)) (template_middle (normal_lines s)) rest
middle_token gap s rest e t = token_of gap (125 ∷ (s ++ 36 ∷ 123 ∷ rest)) (template_middle (normal_lines s)) rest e refl (is_middle s t)

pub tail_token : (gap s rest : Text) → list_all is_blank gap ≡ true → are_template_characters s ≡ true → Token (gap ++ 125 ∷ (s ++ 96 ∷ rest)) (template_tail (normal_lines s)) rest
tail_token gap s rest e t = token_of gap (125 ∷ (s ++ 96 ∷ rest)) (template_tail (normal_lines s)) rest e refl (is_tail s t)
