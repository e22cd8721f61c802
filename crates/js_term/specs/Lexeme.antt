-- The tokens of a module's text (ECMAScript 12), as far as small modules and the runner's forms need them.
-- A text is its bytes in UTF-8. `narrow` is the spelling that the reader takes: it has no escapes in strings.
use Rattle.std.specs.Prelude.{◌≡◌, ℕ, List, [], ◌∷◌, ◌++◌, map, Option, None, Some, Bool, true, false, not, ◌&&◌, ◌||◌, if◌then◌else◌, nat_eq, nat_lt, codes}
use Rattle.js_term.specs.Term.{Text, is_text}
use Rattle.std.specs.List.{list_all}

pub data Manner : Type 0 where
  narrow : Manner
  whole : Manner

abbrev pub between : ℕ → ℕ → ℕ → Bool
between low high c = not (nat_lt c low) && not (nat_lt high c)

-- space, tab, line feed and carriage return (12.2, 12.3)
abbrev pub is_line_end : ℕ → Bool
is_line_end c = nat_eq c 10 || nat_eq c 13

abbrev pub is_blank : ℕ → Bool
is_blank c = nat_eq c 32 || nat_eq c 9 || is_line_end c

abbrev pub is_digit : ℕ → Bool
is_digit c = between 48 57 c

abbrev pub is_letter : ℕ → Bool
is_letter c = between 97 122 c || between 65 90 c

-- IdentifierStart and IdentifierPart among ASCII (12.7): a letter, `$` or `_`, and a digit behind
abbrev pub is_start : ℕ → Bool
is_start c = is_letter c || nat_eq c 36 || nat_eq c 95

abbrev pub is_part : ℕ → Bool
is_part c = is_start c || is_digit c

-- a byte that goes on with a word: one of a part, or of a character beyond ASCII
abbrev pub goes_on : ℕ → Bool
goes_on c = is_part c || nat_lt 127 c

-- an identifier name of ASCII characters
abbrev pub is_word : Text → Bool
is_word [] = false
is_word (c ∷ cs) = is_start c && list_all is_part cs

-- DecimalIntegerLiteral (12.9.3): `0`, or digits that do not begin with `0`
abbrev pub is_decimal : Text → Bool
is_decimal [] = false
is_decimal (c ∷ []) = is_digit c
is_decimal (c ∷ cs) = between 49 57 c && list_all is_digit cs

-- whether the next byte is none of these
abbrev pub not_next : (ℕ → Bool) → Text → Bool
not_next p [] = true
not_next p (c ∷ cs) = not (p c)

-- a number goes on by a digit, a name or `.`; none of them follows directly (12.9.3)
abbrev pub goes_on_number : ℕ → Bool
goes_on_number c = goes_on c || nat_eq c 46

-- the reserved words of module code (12.7.2)
abbrev pub reserved : List Text
reserved = map codes ("break" ∷ "case" ∷ "catch" ∷ "class" ∷ "const" ∷ "continue" ∷ "debugger" ∷ "default" ∷ "delete" ∷ "do" ∷ "else" ∷ "enum" ∷ "export" ∷ "extends" ∷ "false" ∷ "finally" ∷ "for" ∷ "function" ∷ "if" ∷ "import" ∷ "in" ∷ "instanceof" ∷ "new" ∷ "null" ∷ "return" ∷ "super" ∷ "switch" ∷ "this" ∷ "throw" ∷ "true" ∷ "try" ∷ "typeof" ∷ "var" ∷ "void" ∷ "while" ∷ "with" ∷ "let" ∷ "static" ∷ "yield" ∷ "await" ∷ "implements" ∷ "interface" ∷ "package" ∷ "private" ∷ "protected" ∷ "public" ∷ [])

abbrev pub is_one_of : Text → List Text → Bool
is_one_of x [] = false
is_one_of x (y ∷ ys) = is_text x y || is_one_of x ys

abbrev pub is_reserved : Text → Bool
is_reserved x = is_one_of x reserved

-- what a string in these quotes has as it is: any byte but its quote, a backslash, a line feed, a carriage return
abbrev pub is_plain : ℕ → ℕ → Bool
is_plain quote c = not (nat_eq c quote) && not (nat_eq c 92) && not (is_line_end c)

-- the escapes that are written: `\\`, `\'`, `\n`, `\r` (12.9.4)
abbrev pub unescaped : ℕ → Option ℕ
unescaped c = if nat_eq c 92 then Some 92 else if nat_eq c 39 then Some 39 else if nat_eq c 110 then Some 10 else if nat_eq c 114 then Some 13 else None

-- the characters of a string's value, as they stand between its quotes
pub data Characters (m : Manner) (quote : ℕ) : Text → Text → Type 0 where
  no_more : Characters m quote [] []
  plain : {c : ℕ} {value spelled : Text} → is_plain quote c ≡ true → Characters m quote value spelled → Characters m quote (c ∷ value) (c ∷ spelled)
  escape : {c e : ℕ} {value spelled : Text} → m ≡ whole → unescaped e ≡ Some c → Characters m quote value spelled → Characters m quote (c ∷ value) (92 ∷ e ∷ spelled)

abbrev pub is_quote : ℕ → Bool
is_quote c = nat_eq c 39 || nat_eq c 34

-- the signs; each is one byte
abbrev pub is_sign : ℕ → Bool
is_sign c = is_one_of (c ∷ []) (map codes ("{" ∷ "}" ∷ "(" ∷ ")" ∷ "[" ∷ "]" ∷ "," ∷ ";" ∷ "." ∷ ":" ∷ "=" ∷ []))

pub data Lexeme : Type 0 where
  word : Text → Lexeme
  number : Text → Lexeme
  string : Text → Lexeme
  sign : ℕ → Lexeme

abbrev pub left_brace : Lexeme
left_brace = sign 123

abbrev pub right_brace : Lexeme
right_brace = sign 125

abbrev pub left_paren : Lexeme
left_paren = sign 40

abbrev pub right_paren : Lexeme
right_paren = sign 41

abbrev pub left_bracket : Lexeme
left_bracket = sign 91

abbrev pub right_bracket : Lexeme
right_bracket = sign 93

abbrev pub comma : Lexeme
comma = sign 44

abbrev pub semicolon : Lexeme
semicolon = sign 59

abbrev pub dot : Lexeme
dot = sign 46

abbrev pub colon : Lexeme
colon = sign 58

abbrev pub equals : Lexeme
equals = sign 61

-- How a lexeme is spelled, and what may not follow it directly.
pub data IsSpelled (m : Manner) : Lexeme → Text → Text → Type 0 where
  is_name : {x rest : Text} → is_word x ≡ true → not_next goes_on rest ≡ true → IsSpelled m (word x) x rest
  is_number : {x rest : Text} → is_decimal x ≡ true → not_next goes_on_number rest ≡ true → IsSpelled m (number x) x rest
  is_string : {quote : ℕ} {value spelled rest : Text} → is_quote quote ≡ true → Characters m quote value spelled → IsSpelled m (string value) (quote ∷ (spelled ++ quote ∷ [])) rest
  is_mark : {c : ℕ} {rest : Text} → is_sign c ≡ true → IsSpelled m (sign c) (c ∷ []) rest

-- At the front of a text, behind a gap, stands a token; a rest is left.
pub record Token (m : Manner) (text : Text) (lexeme : Lexeme) (rest : Text) : Type 0 where
  pub gap : Text
  pub spelled : Text
  pub whole_is : text ≡ gap ++ (spelled ++ rest)
  pub blank : list_all is_blank gap ≡ true
  pub is_spelled : IsSpelled m lexeme spelled rest

-- nothing but a gap is left
abbrev pub AtEnd : Text → Type 0
AtEnd text = list_all is_blank text ≡ true

-- whether no line end stands in the gap at the front: the condition of a restricted production (12.10.1)
abbrev pub same_line : Text → Bool
same_line [] = true
same_line (c ∷ cs) = not (is_line_end c) && (not (is_blank c) || same_line cs)

-- the text behind the gap at its front
abbrev pub front : Text → Text
front [] = []
front (c ∷ cs) = if is_blank c then front cs else c ∷ cs

abbrev pub first_word : Text → Text
first_word [] = []
first_word (c ∷ cs) = if goes_on c then c ∷ first_word cs else []

abbrev pub is_next : ℕ → Text → Bool
is_next c [] = false
is_next c (d ∷ ds) = nat_eq d c

-- whether a statement that begins so is no expression statement: the look-ahead of ExpressionStatement (14.5)
abbrev pub opens_otherwise : Text → Bool
opens_otherwise text = is_next 123 (front text) || is_one_of (first_word (front text)) (map codes ("function" ∷ "class" ∷ []))
