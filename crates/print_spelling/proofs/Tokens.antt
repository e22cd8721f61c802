-- Tokens as they are printed: at the front, behind a blank, or behind a line feed.
use Rattle.std.proofs.Common.{◌≡◌, refl, sym, subst, ℕ, List, [], ◌∷◌, ◌++◌, append_assoc, codes, Bool, true, false, not, ◌&&◌, ◌||◌, nat_eq, Some}
use Rattle.std.proofs.lemmas.Bool.{and_parts, not-true, eqb-true, true≢false}
use Rattle.std.specs.List.{list_all}
use Rattle.std.specs.Cmp.Lexicographic.{bytes_decides}
use Rattle.js_term.specs.Term.{Text, is_text}
use Rattle.js_term.specs.Lexeme.{is_part, is_one_of}
use Rattle.js_syntax.specs.Lexical.{begins, begins_gap, is_ascii, is_name, begins_part, begins_start_or_digit, first_passes, is_integer, is_point, is_numeral, is_big_integer, decoded}
use Rattle.js_syntax.specs.Tokens.{no_gap, blank, line_end, Front, SameLine, Lexeme, private_name, number, big_integer, string, signs, opens_with, is_longest, Lexed, is_word, is_private_name, is_number, is_bigint, is_string, is_punctuator, Token, Word, Sign}
use Rattle.print_spelling.specs.Laws.{Strings}
use Rattle.print_layout.specs.Rows as rows
use Rattle.print_layout.specs.Rows.{all_escaped, quoted}
use Rattle.print_spelling.proofs.Openings.{is_fresh, is_opening, name_opening, number_opening, bigint_opening, name_after_point}

pub differ : {A : Type 0} → true ≡ false → A
differ e = absurd (true≢false e)

pub same_text : (x y : Text) → is_text x y ≡ true → x ≡ y
same_text x y e = (bytes_decides x y).0 e

pub or_false : (a b : Bool) → a || b ≡ false → (a ≡ false) × (b ≡ false)
or_false true b h = differ h
or_false false b h = (refl, h)

pub or_by : {A : Type 0} (a b : Bool) → (a ≡ true → A) → (b ≡ true → A) → a || b ≡ true → A
or_by true b f g h = f refl
or_by false b f g h = g h

-- what a computation shows for each text of a list
pub among : (test : Text → Bool) (xs : List Text) (x : Text) → list_all test xs ≡ true → is_one_of x xs ≡ true → test x ≡ true
among test [] x h e = differ (sym e)
among test (y ∷ ys) x h e =
    let both = and_parts (test y) (list_all test ys) h in
    or_by (is_text x y) (is_one_of x ys) (λ s. subst (λ z. test z ≡ true) (sym (same_text x y s)) both.0) (λ k. among test ys x both.1 k) e

-- what stands before a token
pub data Lead : Type 0 where
  flush : Lead
  spaced : Lead
  below : Lead

abbrev pub led : Lead → Text → Text
led flush a = a
led spaced a = 32 ∷ a
led below a = 10 ∷ a

abbrev pub ends_line : Lead → Bool
ends_line flush = false
ends_line spaced = false
ends_line below = true

pub front_of : (g : Lead) (a : Text) → begins_gap a ≡ false → Front (ends_line g) (led g a) a
front_of flush a h = record { gap = no_gap; ends = h }
front_of spaced a h = record { gap = blank (32 ∷ []) refl no_gap; ends = h }
front_of below a h = record { gap = line_end (10 ∷ []) refl no_gap; ends = h }

pub token_of : (g : Lead) {l : Lexeme} {a b : Text} → begins_gap a ≡ false → Lexed l a b → Token (led g a) l b
token_of g {a = a} h x = record { line = ends_line g; middle = a; front = front_of g a h; lexed = x }

pub same_line : (g : Lead) (a : Text) → ends_line g ≡ false → begins_gap a ≡ false → SameLine (led g a)
same_line g a e h = record { rest = a; front = subst (λ b. Front b (led g a) a) e (front_of g a h) }

-- What follows a word or a number: an ASCII byte that goes on with neither. A point goes on with a number.
abbrev pub stops : Text → Bool
stops [] = true
stops (c ∷ cs) = is_ascii c && not (is_part c)

abbrev pub no_point : Text → Bool
no_point rest = not (first_passes is_point rest)

pub stop_part : (rest : Text) → stops rest ≡ true → begins_part rest ≡ false
stop_part [] h = refl
stop_part (c ∷ cs) h = let both = and_parts (is_ascii c) (not (is_part c)) h in rw both.0 (not-true _ both.1)

pub stop_number : (rest : Text) → stops rest ≡ true → begins_start_or_digit rest ≡ false
stop_number [] h = refl
stop_number (c ∷ cs) h = let both = and_parts (is_ascii c) (not (is_part c)) h in rw both.0 (not-true _ both.1)

-- ---- signs, and words that are written out: the premises are `refl` where the front of the rest is known

pub sign_at : (g : Lead) (s : Text) {rest : Text} → begins_gap (s ++ rest) ≡ false → is_one_of s signs && (opens_with s (s ++ rest) && is_longest s (s ++ rest)) ≡ true → Sign s (led g (s ++ rest)) rest
sign_at g s {rest} h e =
    let one = and_parts (is_one_of s signs) _ e in
    let two = and_parts (opens_with s (s ++ rest)) _ one.1 in
    token_of g h (is_punctuator one.0 two.0 two.1)

pub word_at : (g : Lead) (x : Text) {rest : Text} → begins_gap (x ++ rest) ≡ false → is_name x ≡ true → stops rest ≡ true → Word x (led g (x ++ rest)) rest
word_at g x {rest} h n e = token_of g h (is_word n (stop_part rest e))

pub left_parenthesis : (g : Lead) {rest : Text} → Sign (codes "(") (led g (40 ∷ rest)) rest
left_parenthesis g = sign_at g (codes "(") refl refl

pub right_parenthesis : (g : Lead) {rest : Text} → Sign (codes ")") (led g (41 ∷ rest)) rest
right_parenthesis g = sign_at g (codes ")") refl refl

pub left_bracket : (g : Lead) {rest : Text} → Sign (codes "[") (led g (91 ∷ rest)) rest
left_bracket g = sign_at g (codes "[") refl refl

pub right_bracket : (g : Lead) {rest : Text} → Sign (codes "]") (led g (93 ∷ rest)) rest
right_bracket g = sign_at g (codes "]") refl refl

pub left_brace : (g : Lead) {rest : Text} → Sign (codes "{") (led g (123 ∷ rest)) rest
left_brace g = sign_at g (codes "{") refl refl

pub right_brace : (g : Lead) {rest : Text} → Sign (codes "}") (led g (125 ∷ rest)) rest
right_brace g = sign_at g (codes "}") refl refl

pub comma_at : (g : Lead) {rest : Text} → Sign (codes ",") (led g (44 ∷ rest)) rest
comma_at g = sign_at g (codes ",") refl refl

pub semicolon_at : (g : Lead) {rest : Text} → Sign (codes ";") (led g (59 ∷ rest)) rest
semicolon_at g = sign_at g (codes ";") refl refl

pub colon_at : (g : Lead) {rest : Text} → Sign (codes ":") (led g (58 ∷ rest)) rest
colon_at g = sign_at g (codes ":") refl refl

pub dots_at : (g : Lead) {rest : Text} → Sign (codes "...") (led g (46 ∷ 46 ∷ 46 ∷ rest)) rest
dots_at g = sign_at g (codes "...") refl refl

-- ---- names and numbers

pub fresh_gap : (a : Text) → is_fresh a ≡ true → begins_gap a ≡ false
fresh_gap a h = not-true (begins_gap a) (and_parts (not (begins (codes "=") a)) _ h).1

pub opening_fresh : (a : Text) → is_opening a ≡ true → is_fresh a ≡ true
opening_fresh a h = (and_parts (is_fresh a) _ h).0

pub opening_gap : (a : Text) → is_opening a ≡ true → begins_gap a ≡ false
opening_gap a h = fresh_gap a (opening_fresh a h)

pub name_at : (g : Lead) {x rest : Text} → is_name x ≡ true → stops rest ≡ true → Word x (led g (x ++ rest)) rest
name_at g {x} {rest} n e = word_at g x (opening_gap (x ++ rest) (name_opening x rest n)) n e

pub private_at : (g : Lead) {x rest : Text} → is_name x ≡ true → stops rest ≡ true → Token (led g (35 ∷ (x ++ rest))) (private_name x) rest
private_at g {x} {rest} n e = token_of g refl (is_private_name n (stop_part rest e))

and_false : (a b : Bool) → b ≡ false → a && b ≡ false
and_false true b h = h
and_false false b h = refl

pub number_at : (g : Lead) {x rest : Text} → is_numeral x ≡ true → stops rest ≡ true → no_point rest ≡ true → Token (led g (x ++ rest)) (number x) rest
number_at g {x} {rest} n e p = token_of g (opening_gap (x ++ rest) (number_opening x rest n)) (is_number n (stop_number rest e) (and_false (is_integer x) (first_passes is_point rest) (not-true _ p)))

pub bigint_at : (g : Lead) {x rest : Text} → is_big_integer x ≡ true → stops rest ≡ true → Token (led g (x ++ rest)) (big_integer x) rest
bigint_at g {x} {rest} n e = token_of g (opening_gap (x ++ rest) (bigint_opening x rest n)) (is_bigint n (stop_number rest e))

-- a point before a name
pub point_at : (x rest : Text) → is_name x ≡ true → Sign (codes ".") (46 ∷ (x ++ rest)) (x ++ rest)
point_at x rest n = sign_at flush (codes ".") refl (name_after_point x rest n)

-- ---- strings

equal : (c d : ℕ) → nat_eq c d ≡ true → c ≡ d
equal c d e = eqb-true c d e

one_more : (c : ℕ) (cs spelled : Text) → decoded 39 spelled ≡ Some cs → decoded 39 (rows.escaped c ++ spelled) ≡ Some (c ∷ cs)
one_more c cs spelled r = by (nat_eq c 92) refl (nat_eq c 39) refl (nat_eq c 10) refl (nat_eq c 13) refl
  where
    by : (p : Bool) → nat_eq c 92 ≡ p → (q : Bool) → nat_eq c 39 ≡ q → (s : Bool) → nat_eq c 10 ≡ s → (t : Bool) → nat_eq c 13 ≡ t → decoded 39 (rows.escaped c ++ spelled) ≡ Some (c ∷ cs)
    by true e q f s g t h = rw (e, r, sym (equal c 92 e)) refl
    by false e true f s g t h = rw (e, f, r, sym (equal c 39 f)) refl
    by false e false f true g t h = rw (e, f, g, r, sym (equal c 10 g)) refl
    by false e false f false g true h = rw (e, f, g, h, r, sym (equal c 13 h)) refl
    by false e false f false g false h = rw (e, f, g, h) (rw (e, f, g, h, r) refl)

-- what is written between the quotes is the value
pub characters : (value : Text) → decoded 39 (all_escaped value) ≡ Some value
characters [] = refl
characters (c ∷ cs) = one_more c cs (all_escaped cs) (characters cs)

pub string_at : (g : Lead) {value rest : Text} → Token (led g (quoted value ++ rest)) (string (quoted value) value) rest
string_at g {value} {rest} =
    subst (λ a. Token (led g (39 ∷ a)) (string (quoted value) value) rest) (sym (append_assoc (all_escaped value) (39 ∷ []) rest))
    (token_of g refl (is_string {quote = 39} (all_escaped value) refl (characters value)))

pub printed_strings : Strings
printed_strings value rest = string_at flush {value = value} {rest = rest}
