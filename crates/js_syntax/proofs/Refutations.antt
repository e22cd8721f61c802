-- Texts that spell no module.
use Rattle.std.proofs.Common.{◌≡◌, refl, ℕ, ◌<◌, Bool, true, false, not, ◌&&◌, ◌||◌, ◌⊎◌, inl, inr, List, [], ◌∷◌, ◌++◌, arith, sym, ap, subst, ◌∙◌}
use Rattle.std.specs.Prelude.{codes, nat_eq}
use Rattle.std.specs.List.{list_all}
use Rattle.std.proofs.lemmas.Bool.{and_parts, or_left, or_right, or_cases, cases_Bool, and_from, eq-eqb, eqb-true, ltb-true, not-true, false≢true, true≢false}
use Rattle.js_term.specs.Term.{Text, Term, is_text}
use Rattle.js_term.specs.Lexeme.{is_one_of, is_quote, is_start}
use Rattle.js_syntax.specs.Lexical.{begins, begins_any, has_any, has_byte, begins_gap, white_space, line_ends, is_ascii, is_name, is_numeral, is_big_integer, begins_start_or_digit}
use Rattle.js_syntax.specs.Tokens.{Gap, no_gap, blank, line_end, line_comment, block_comment, Front, AtEnd, Lexeme, sign, signs, Lexed, is_private_name, is_number, is_bigint, is_string, is_regexp, is_no_substitution, is_head, is_middle, is_tail, is_punctuator, Token}
use Rattle.js_syntax.specs.Tokens
use Rattle.js_syntax.specs.Refuted.{Refuted}
use Rattle.js_syntax.specs.Spelling.{Directives, no_directives, directive}
use Rattle.js_syntax.specs.Modules.{Spells, spells, Hashbang, no_hashbang, hashbang, ModuleItems, no_more_items, next_item}
use Rattle.js_syntax.proofs.Ascii.{from_table}
use Rattle.js_syntax.proofs.Placed.{stands_fits}
use Rattle.js_syntax.proofs.First.{begins_item, First, first_token, module_item_first}
use Rattle.js_syntax.proofs.Fronts.{may_begin, is_string_token, lexed_may, among, implies, same_text, name_start}

-- ---- a module has a first token, or none

items_first : {ss : List Term} {c d text : Text} → ModuleItems ss c d → c ≡ text → AtEnd d → (First text → ⊥) → AtEnd text
items_first no_more_items e end none = subst AtEnd e end
items_first (next_item item more) e end none = absurd (none (subst First e (module_item_first item)))

directives_first : {ds ss : List Term} {b c d text : Text} → Directives ds b c → b ≡ text → ModuleItems ss c d → AtEnd d → (First text → ⊥) → AtEnd text
directives_first no_directives e items end none = items_first items e end none
directives_first (directive token semicolon more) e items end none = absurd (none (subst First e (first_token token refl)))

hashbang_first : {hs : List Text} {ds ss : List Term} {a b c d : Text} → Hashbang hs a b → begins (codes "#!") a ≡ false → Directives ds b c → ModuleItems ss c d → AtEnd d → (First a → ⊥) → AtEnd a
hashbang_first no_hashbang e ds items end none = directives_first ds refl items end none
hashbang_first (hashbang h ends) e ds items end none = absurd (true≢false e)

pub no_module : {a : Text} {t : Term} → begins (codes "#!") a ≡ false → (First a → ⊥) → (AtEnd a → ⊥) → Spells a t → ⊥
no_module e none some (spells no_string h ds items end) = some (hashbang_first h e ds items end none)

-- ---- where no gap begins

begins_itself : (w a : Text) → begins w (w ++ a) ≡ true
begins_itself [] a = refl
begins_itself (c ∷ cs) a = and_from _ _ (eq-eqb c c refl) (begins_itself cs a)

one_begins : (w a : Text) (ps : List Text) → is_one_of w ps ≡ true → begins_any ps (w ++ a) ≡ true
one_begins w a [] e = absurd (false≢true e)
one_begins w a (p ∷ ps) e =
    elim (or_cases (is_text w p) (is_one_of w ps) e) as (λ x. begins p (w ++ a) || begins_any ps (w ++ a) ≡ true) [
      | inl same ↦ or_left _ _ (ap (λ x. begins x (w ++ a)) (sym (same_text w p same)) ∙ begins_itself w a)
      | inr other ↦ or_right _ _ (one_begins w a ps other)
    ]

no_gap_at : {line : Bool} {a b : Text} → Gap line a b → begins_gap a ≡ false → a ≡ b
no_gap_at no_gap e = refl
no_gap_at (blank w {a} is more) e = absurd (true≢false (sym (or_left _ _ (one_begins w a white_space is)) ∙ e))
no_gap_at (line_end w {a} is more) e = absurd (true≢false (sym (or_right (begins_any white_space (w ++ a)) _ (or_left _ _ (one_begins w a line_ends is))) ∙ e))
no_gap_at (line_comment x no_end ends more) e = absurd (true≢false e)
no_gap_at (block_comment x no_end more) e = absurd (true≢false e)

lexed_at : {l : Lexeme} {a b : Text} → Token a l b → begins_gap a ≡ false → Lexed l a b
lexed_at {l} {a} {b} token e = subst (λ m. Lexed l m b) (sym (no_gap_at token.front.gap e)) token.lexed

end_is_empty : {a : Text} → AtEnd a → begins_gap a ≡ false → a ≡ []
end_is_empty end e = no_gap_at end.front.gap e

-- ---- strings

has_byte_behind : (s : Text) (c : ℕ) (rest : Text) → has_byte (s ++ c ∷ rest) c ≡ true
has_byte_behind [] c rest = or_left _ _ (eq-eqb c c refl)
has_byte_behind (d ∷ ds) c rest = or_right (nat_eq c d) _ (has_byte_behind ds c rest)

-- a quote, and one of its kind behind it
abbrev is_closed : Text → Bool
is_closed [] = false
is_closed (c ∷ cs) = is_quote c && has_byte cs c

string_closed : {l : Lexeme} {m rest : Text} → Lexed l m rest → is_string_token l ≡ true → is_closed m ≡ true
string_closed (is_string {quote} s {value} {rest} q d) e = and_from _ _ q (has_byte_behind s quote rest)
string_closed (Tokens.is_word _ _) e = absurd (false≢true e)
string_closed _ e = absurd (false≢true e)

-- a first token is a string, or begins as others do
front_of_first : (c : ℕ) (cs : Text) → begins_gap (c ∷ cs) ≡ false → First (c ∷ cs) → (is_closed (c ∷ cs) ≡ true) ⊎ (may_begin c ≡ true)
front_of_first c cs e first =
    elim (cases_Bool (is_string_token first.lexeme)) as (λ x. (is_closed (c ∷ cs) ≡ true) ⊎ (may_begin c ≡ true)) [
      | inl is ↦ inl (string_closed (lexed_at first.token e) is)
      | inr other ↦ inr (lexed_may (lexed_at first.token e) first.begins other)
    ]

none_begins : (c : ℕ) (cs : Text) (t : Term) → begins (codes "#!") (c ∷ cs) ≡ false → begins_gap (c ∷ cs) ≡ false → is_closed (c ∷ cs) ≡ false → may_begin c ≡ false → Spells (c ∷ cs) t → ⊥
none_begins c cs t bang gap unclosed other =
    no_module bang (λ first. elim (front_of_first c cs gap first) as (λ x. ⊥) [ inl closed ↦ true≢false (sym closed ∙ unclosed) | inr may ↦ true≢false (sym may ∙ other) ]) (λ end. let empty = end_is_empty end gap in cc)

pub open_string : (rest : Text) (t : Term) → has_byte rest 39 ≡ false → Spells (39 ∷ rest) t → ⊥
open_string rest t e = none_begins 39 rest t refl refl e refl

-- ---- bytes that begin nothing

below_of : (c : ℕ) (ds : Text) → list_all is_ascii ds ≡ true → has_byte ds c ≡ true → c < 128
below_of c [] all e = absurd (false≢true e)
below_of c (d ∷ ds) all e =
    let both = and_parts (is_ascii d) (list_all is_ascii ds) all in
    elim (or_cases (nat_eq c d) (has_byte ds c) e) as (λ x. c < 128) [
      | inl same ↦ let small = ltb-true d 128 both.0 in let is = eqb-true c d same in omega arith
      | inr other ↦ below_of c ds both.1 other
    ]

abbrev wrong : Text
wrong = codes ")]},:=?*%<>&|^@\\"

pub wrong_front : (c : ℕ) (rest : Text) (t : Term) → has_byte wrong c ≡ true → Spells (c ∷ rest) t → ⊥
wrong_front c rest t e =
    let below = below_of c wrong refl e in
    let no_bang : not (nat_eq 35 c) ≡ true = from_table (has_byte wrong) (λ d. not (nat_eq 35 d)) c refl below e in
    let gap : not (begins_gap (c ∷ rest)) ≡ true = from_table (has_byte wrong) (λ d. not (begins_gap (d ∷ rest))) c refl below e in
    let no_quote : not (is_quote c) ≡ true = from_table (has_byte wrong) (λ d. not (is_quote d)) c refl below e in
    let other : not (may_begin c) ≡ true = from_table (has_byte wrong) (λ d. not (may_begin d)) c refl below e in
    none_begins c rest t (ap (λ b. b && begins (codes "!") rest) (not-true _ no_bang)) (not-true _ gap) (ap (λ b. b && has_byte rest c) (not-true _ no_quote)) (not-true _ other)

-- ---- comments

has_end : (x a : Text) → has_any (codes "*/" ∷ []) (x ++ 42 ∷ 47 ∷ a) ≡ true
has_end [] a = refl
has_end (c ∷ cs) a = or_right (begins_any (codes "*/" ∷ []) (c ∷ (cs ++ 42 ∷ 47 ∷ a))) _ (has_end cs a)

abbrev behind_two : Text → Text
behind_two (c ∷ d ∷ ds) = ds
behind_two cs = []

open_gap : {line : Bool} {a b : Text} → Gap line a b → (rest : Text) → a ≡ 47 ∷ 42 ∷ rest → has_any (codes "*/" ∷ []) rest ≡ false → begins_gap b ≡ false → ⊥
open_gap no_gap rest e never ends = true≢false (sym (ap begins_gap e) ∙ ends)
open_gap (blank w {a} is more) rest e never ends =
    true≢false (sym (ap (begins (codes "/")) e) ∙ not-true _ (among (λ x. not (begins (codes "/") (x ++ a))) white_space w refl is))
open_gap (line_end w {a} is more) rest e never ends =
    true≢false (sym (ap (begins (codes "/")) e) ∙ not-true _ (among (λ x. not (begins (codes "/") (x ++ a))) line_ends w refl is))
open_gap (line_comment x no_end stops more) rest e never ends = true≢false (ap (begins (codes "//")) e)
open_gap (block_comment x {a} no_end more) rest e never ends =
    true≢false (sym (has_end x a) ∙ ap (λ y. has_any (codes "*/" ∷ []) (behind_two y)) e ∙ never)

pub open_comment : (rest : Text) (t : Term) → has_any (codes "*/" ∷ []) rest ≡ false → Spells (47 ∷ 42 ∷ rest) t → ⊥
open_comment rest t e = no_module refl (λ first. open_gap first.token.front.gap rest refl e first.token.front.ends) (λ end. open_gap end.front.gap rest refl e refl)

-- ---- a radix without digits

abbrev front_byte : Text → ℕ
front_byte [] = 0
front_byte (c ∷ cs) = c

no_zero_name : (x rest : Text) → is_name x ≡ true → x ++ rest ≡ codes "0x" → ⊥
no_zero_name [] rest name e = false≢true name
no_zero_name (c ∷ cs) rest name e =
    let zero_is : c ≡ 48 = ap front_byte e in
    true≢false (sym (name_start c cs (list_all is_ascii (c ∷ cs)) (omega arith) name) ∙ ap is_start zero_is)

no_zero_number : (x rest : Text) → is_numeral x ≡ true → begins_start_or_digit rest ≡ false → x ++ rest ≡ codes "0x" → ⊥
no_zero_number [] rest numeral ends e = false≢true numeral
no_zero_number (c ∷ []) rest numeral ends e = let is : rest ≡ codes "x" = cc in true≢false (sym (ap begins_start_or_digit is) ∙ ends)
no_zero_number (c ∷ d ∷ []) rest numeral ends e =
    let c_is : c ≡ 48 = cc in
    let d_is : d ≡ 120 = cc in
    false≢true (sym (ap (λ y. is_numeral (y ∷ d ∷ [])) c_is ∙ ap (λ y. is_numeral (48 ∷ y ∷ [])) d_is) ∙ numeral)
no_zero_number (c ∷ d ∷ b ∷ bs) rest numeral ends e = cc

no_zero_bigint : (x rest : Text) → is_big_integer x ≡ true → begins_start_or_digit rest ≡ false → x ++ rest ≡ codes "0x" → ⊥
no_zero_bigint [] rest whole ends e = false≢true whole
no_zero_bigint (c ∷ []) rest whole ends e = let is : rest ≡ codes "x" = cc in true≢false (sym (ap begins_start_or_digit is) ∙ ends)
no_zero_bigint (c ∷ d ∷ []) rest whole ends e =
    let c_is : c ≡ 48 = cc in
    let d_is : d ≡ 120 = cc in
    false≢true (sym (ap (λ y. is_big_integer (y ∷ d ∷ [])) c_is ∙ ap (λ y. is_big_integer (48 ∷ y ∷ [])) d_is) ∙ whole)
no_zero_bigint (c ∷ d ∷ b ∷ bs) rest whole ends e = cc

no_zero : {l : Lexeme} {m rest : Text} → Lexed l m rest → begins_item l ≡ true → m ≡ codes "0x" → ⊥
no_zero (Tokens.is_word {x} {rest} name ends) b e = no_zero_name x rest name e
no_zero (is_private_name name ends) b e = true≢false (ap (begins (codes "#")) e)
no_zero (is_number {x} {rest} numeral ends point) b e = no_zero_number x rest numeral ends e
no_zero (is_bigint {x} {rest} whole ends) b e = no_zero_bigint x rest whole ends e
no_zero (is_string {quote} s q d) b e = true≢false (sym q ∙ ap (λ y. is_quote (front_byte y)) e)
no_zero (is_regexp flags p f ends) b e = true≢false (ap (begins (codes "/")) e)
no_zero (is_no_substitution s t) b e = true≢false (ap (begins (codes "`")) e)
no_zero (is_head s t) b e = true≢false (ap (begins (codes "`")) e)
no_zero (is_middle s t) b e = true≢false (ap (begins (codes "}")) e)
no_zero (is_tail s t) b e = true≢false (ap (begins (codes "}")) e)
no_zero (is_punctuator {s} {rest} is opens longest) b e =
    let other = implies _ _ (among (λ t. not (begins_item (sign t)) || not (begins (codes "0") (t ++ rest))) signs s refl is) b in
    true≢false (sym (ap (begins (codes "0")) e) ∙ not-true _ other)

pub no_digits : (t : Term) → Spells (codes "0x") t → ⊥
no_digits t = no_module refl (λ first. no_zero (lexed_at first.token refl) first.begins refl) (λ end. let empty = end_is_empty end refl in cc)

pub refuted : Refuted
refuted = record {
  a_wrong_front = wrong_front;
  an_open_string = open_string;
  an_open_comment = open_comment;
  no_digits = no_digits;
  a_power_of_a_sign = λ s. false≢true (stands_fits s);
  an_or_of_a_coalescing = λ s. false≢true (stands_fits s);
  a_coalescing_of_an_or = λ s. false≢true (stands_fits s);
  a_new_of_a_call = λ s. false≢true (stands_fits s);
  a_call_goes_on = refl;
  a_division_goes_on = refl;
  no_call_of_an_update = refl;
  an_update_ends = refl;
  a_key_goes_on = refl;
  no_generator_behind_get = refl;
  no_call_is_a_target = refl;
}
