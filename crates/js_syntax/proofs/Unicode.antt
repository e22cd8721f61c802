-- The tests of names on ASCII texts and Unicode's sets agree.
use Rattle.std.proofs.Common.{◌≡◌, refl, ℕ, ◌<◌, Bool, true, false, ◌&&◌, ◌||◌, cond, [], ◌∷◌, arith, sym, ap, subst, ◌∙◌}
use Rattle.std.specs.Prelude.{nat_eq, nat_lt}
use Rattle.std.specs.Char.{is_ascii_alphabetic, is_ascii_alphanumeric}
use Rattle.std.specs.List.{list_all}
use Rattle.std.specs.Str.{IsUtf8, is_utf8, chars}
use Rattle.std.proofs.lemmas.Bool.{agree_below_at, and_parts, ltb-true}
use Rattle.std.proofs.lemmas.Bool.Decides.{nat_tests}
use Rattle.std.proofs.lemmas.Str.{IsUtf8-append, IsUtf8-encode, IsUtf8-nil, chars-nil, encode_ascii, is_utf8-from_IsUtf8}
use Rattle.unicode_ident.proofs.IdentLemmas.{is_xid_start-ascii, is_xid_continue-ascii}
use Rattle.js_chars.specs.Names.{is_identifier_start, is_identifier_part, is_identifier_name}
use Rattle.js_term.specs.Term.{Text}
use Rattle.js_term.specs.Lexeme.{is_digit, is_start, is_part, is_word}
use Rattle.js_syntax.specs.Lexical.{is_ascii, first_passes, begins_part, begins_start_or_digit}
use Rattle.js_syntax.specs.Names.{NamesAgree}

-- ---- one byte

abbrev letter_start : ℕ → Bool
letter_start c = is_ascii_alphabetic c || nat_eq c 36 || nat_eq c 95

abbrev letter_part : ℕ → Bool
letter_part c = (is_ascii_alphanumeric c || nat_eq c 95) || nat_eq c 36 || nat_eq c 95 || nat_eq c 0x200C || nat_eq c 0x200D

pub start-ascii : (c : ℕ) → c < 128 → is_identifier_start c ≡ is_start c
start-ascii c ascii = ap (λ b. b || nat_eq c 36 || nat_eq c 95) (is_xid_start-ascii c ascii) ∙ agree_below_at letter_start is_start 128 c refl ascii

part-ascii : (c : ℕ) → c < 128 → is_identifier_part c ≡ is_part c
part-ascii c ascii = ap (λ b. b || nat_eq c 36 || nat_eq c 95 || nat_eq c 0x200C || nat_eq c 0x200D) (is_xid_continue-ascii c ascii) ∙ agree_below_at letter_part is_part 128 c refl ascii

pub chars_ascii : (c : ℕ) (cs : Text) → nat_lt c 128 ≡ true → chars (c ∷ cs) ≡ c ∷ chars cs
unfolding chars
chars_ascii c [] e = rw e refl
chars_ascii c (d ∷ ds) e = rw e refl

byte_utf8 : (c : ℕ) → c < 128 → IsUtf8 (c ∷ [])
byte_utf8 c ascii = subst IsUtf8 (encode_ascii c ascii) (IsUtf8-encode c (grind arith))

-- ---- texts of ASCII

ascii_chars : (x : Text) → list_all is_ascii x ≡ true → (IsUtf8 x) × (chars x ≡ x)
ascii_chars [] e = (IsUtf8-nil, chars-nil)
ascii_chars (c ∷ cs) e =
    let both = and_parts (is_ascii c) (list_all is_ascii cs) e in
    let more = ascii_chars cs both.1 in
    (IsUtf8-append (c ∷ []) cs (byte_utf8 c (ltb-true c 128 both.0)) more.0, chars_ascii c cs both.0 ∙ ap (λ x. c ∷ x) more.1)

ascii_parts : (x : Text) → list_all is_ascii x ≡ true → list_all is_identifier_part x ≡ list_all is_part x
ascii_parts [] e = refl
ascii_parts (c ∷ cs) e =
    let both = and_parts (is_ascii c) (list_all is_ascii cs) e in
    ap (λ b. b && list_all is_identifier_part cs) (part-ascii c (ltb-true c 128 both.0)) ∙ ap (λ b. is_part c && b) (ascii_parts cs both.1)

ascii_name : (x : Text) → list_all is_ascii x ≡ true → is_identifier_name x ≡ is_word x
ascii_name [] e = refl
ascii_name (c ∷ cs) e =
    let both = and_parts (is_ascii c) (list_all is_ascii cs) e in
    ap (λ b. b && list_all is_identifier_part cs) (start-ascii c (ltb-true c 128 both.0)) ∙ ap (λ b. is_start c && b) (ascii_parts cs both.1)

name_agrees : (x : Text) (ascii : Bool) → list_all is_ascii x ≡ ascii → cond ascii (is_word x) (is_utf8 x && is_identifier_name (chars x)) ≡ (is_utf8 x && is_identifier_name (chars x))
name_agrees x true e =
    let is = ascii_chars x e in
    sym (ap (λ b. b && is_identifier_name (chars x)) (is_utf8-from_IsUtf8 x is.0) ∙ ap is_identifier_name is.1 ∙ ascii_name x e)
name_agrees x false e = refl

-- ---- the front of a text

part_agrees : (c : ℕ) (cs : Text) (ascii : Bool) → is_ascii c ≡ ascii → cond ascii (is_part c) (first_passes is_identifier_part (chars (c ∷ cs))) ≡ first_passes is_identifier_part (chars (c ∷ cs))
part_agrees c cs true e = sym (ap (first_passes is_identifier_part) (chars_ascii c cs e) ∙ part-ascii c (ltb-true c 128 e))
part_agrees c cs false e = refl

part_front : (x : Text) → begins_part x ≡ first_passes is_identifier_part (chars x)
part_front [] = sym (ap (first_passes is_identifier_part) chars-nil)
part_front (c ∷ cs) = part_agrees c cs (is_ascii c) refl

or_no : (a b : Bool) → b ≡ false → a ≡ (a || b)
or_no true b e = refl
or_no false b e = sym e

start_agrees : (c : ℕ) (cs : Text) (ascii : Bool) → is_ascii c ≡ ascii → cond ascii (is_start c || is_digit c) (first_passes is_identifier_start (chars (c ∷ cs))) ≡ (first_passes is_identifier_start (chars (c ∷ cs)) || is_digit c)
start_agrees c cs true e = sym (ap (λ b. b || is_digit c) (ap (first_passes is_identifier_start) (chars_ascii c cs e) ∙ start-ascii c (ltb-true c 128 e)))
start_agrees c cs false e = or_no _ (is_digit c) (grind (arith, nat_tests))

start_front : (x : Text) → begins_start_or_digit x ≡ (first_passes is_identifier_start (chars x) || first_passes is_digit x)
start_front [] = sym (ap (λ cs. first_passes is_identifier_start cs || false) chars-nil)
start_front (c ∷ cs) = start_agrees c cs (is_ascii c) refl

pub names_agree : NamesAgree
names_agree = record { a_name = λ x. name_agrees x (list_all is_ascii x) refl; a_part = part_front; a_start_or_digit = start_front }
