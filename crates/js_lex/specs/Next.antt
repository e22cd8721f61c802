-- The token at the front of a text, as a function: where one stands in the narrow spelling, and no other can.
use Rattle.std.specs.Prelude.{ℕ, [], ◌∷◌, Option, None, Some, Bool, false, ◌&&◌, if◌then◌else◌, nat_eq, take, drop}
use Rattle.std.specs.List.{prefix_len}
use Rattle.js_term.specs.Term.{Text, is_text}
use Rattle.js_term.specs.Lexeme.{Lexeme, word, number, string, sign, is_start, is_part, is_digit, is_quote, is_sign, is_plain, is_decimal, goes_on, goes_on_number, not_next, front}

-- the bytes at the front that pass a test, and what is behind them
abbrev pub run : (ℕ → Bool) → Text → Text
run p text = take (prefix_len p text) text

abbrev pub behind : (ℕ → Bool) → Text → Text
behind p text = drop (prefix_len p text) text

-- a lexeme, and the rest behind it
abbrev pub Cut : Type 0
Cut = Option (Lexeme × Text)

abbrev pub cut_if : Bool → Lexeme → Text → Cut
cut_if b l rest = if b then Some (l, rest) else None

unfoldable pub cut_word : Text → Cut
cut_word text = cut_if (not_next goes_on (behind is_part text)) (word (run is_part text)) (behind is_part text)

unfoldable pub cut_number : Text → Cut
cut_number text = cut_if (is_decimal (run is_digit text) && not_next goes_on_number (behind is_digit text)) (number (run is_digit text)) (behind is_digit text)

abbrev pub closed_by : ℕ → Text → Text → Cut
closed_by quote value [] = None
closed_by quote value (c ∷ rest) = cut_if (nat_eq c quote) (string value) rest

-- behind the quote that opens it
unfoldable pub cut_string : ℕ → Text → Cut
cut_string quote text = closed_by quote (run (is_plain quote) text) (behind (is_plain quote) text)

-- of a text without a gap at its front
unfoldable pub cut : Text → Cut
cut [] = None
cut (c ∷ cs) =
    if is_start c then cut_word (c ∷ cs)
    else if is_digit c then cut_number (c ∷ cs)
    else if is_quote c then cut_string c cs
    else cut_if (is_sign c) (sign c) cs

unfoldable pub next : Text → Cut
next text = cut (front text)

abbrev pub lexeme_in : Cut → Option Lexeme
lexeme_in None = None
lexeme_in (Some p) = Some p.0

abbrev pub rest_in : Text → Cut → Text
rest_in text None = text
rest_in text (Some p) = p.1

-- the lexeme at the front
unfoldable pub lexeme : Text → Option Lexeme
lexeme text = lexeme_in (next text)

-- the text behind the token at the front, or the whole text where none is there
unfoldable pub after : Text → Text
after text = rest_in text (next text)

abbrev pub same_lexeme : Lexeme → Lexeme → Bool
same_lexeme (word x) (word y) = is_text y x
same_lexeme (sign c) (sign d) = nat_eq d c
same_lexeme l k = false

abbrev pub is_found : Lexeme → Option Lexeme → Bool
is_found l None = false
is_found l (Some k) = same_lexeme l k

-- whether the token at the front is this word or this sign
unfoldable pub sees : Lexeme → Text → Bool
sees l text = is_found l (lexeme text)
