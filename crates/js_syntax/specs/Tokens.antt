-- The tokens of a module's text (ECMAScript 12), each at the front of a text, behind a gap.
use Rattle.std.specs.Prelude.{◌≡◌, ℕ, List, [], ◌∷◌, ◌++◌, map, length, drop, Bool, true, false, not, ◌&&◌, ◌||◌, nat_lt, codes}
use Rattle.std.specs.List.{list_all}
use Rattle.js_term.specs.Term.{Text}
use Rattle.js_term.specs.Lexeme.{is_digit, is_quote, is_one_of}
use Rattle.js_syntax.specs.Lexical.{begins, white_space, line_ends, has_any, has_line_end, begins_gap, ends_line, is_name, first_passes, begins_part, begins_start_or_digit, is_integer, is_point, is_numeral, is_big_integer, decoded, are_template_characters, normal_lines, is_regexp_body, are_regexp_flags, in_order}
use Rattle.std.specs.Prelude.{Some}

-- A gap leads from a text to what it leaves; the flag says whether it has a line end. A comment with a line end in it
-- counts as one (12.2 to 12.4).
pub data Gap : Bool → Text → Text → Type 0 where
  no_gap : {a : Text} → Gap false a a
  blank : (w : Text) {a b : Text} {line : Bool} → is_one_of w white_space ≡ true → Gap line a b → Gap line (w ++ a) b
  line_end : (w : Text) {a b : Text} {line : Bool} → is_one_of w line_ends ≡ true → Gap line a b → Gap true (w ++ a) b
  line_comment : (x : Text) {a b : Text} {line : Bool} → has_line_end x ≡ false → ends_line a ≡ true → Gap line a b → Gap line (47 ∷ 47 ∷ (x ++ a)) b
  block_comment : (x : Text) {a b : Text} {line : Bool} → has_any (codes "*/" ∷ []) x ≡ false → Gap line a b → Gap (has_line_end x || line) (47 ∷ 42 ∷ (x ++ 42 ∷ 47 ∷ a)) b

-- the whole gap at the front of a text
pub record Front (line : Bool) (text rest : Text) : Type 0 where
  pub gap : Gap line text rest
  pub ends : begins_gap rest ≡ false

-- no line end stands in the gap at the front: the condition of a restricted production (12.10.1)
pub record SameLine (text : Text) : Type 0 where
  pub rest : Text
  pub front : Front false text rest

-- nothing but a gap is left
pub record AtEnd (text : Text) : Type 0 where
  pub line : Bool
  pub front : Front line text []

pub data Lexeme : Type 0 where
  -- an identifier name, reserved or not
  word : Text → Lexeme
  private_name : Text → Lexeme
  number : Text → Lexeme
  big_integer : Text → Lexeme
  -- a string as it is written, and its value
  string : Text → Text → Lexeme
  -- a pattern, and its flags in the order of the alphabet
  regexp : Text → Text → Lexeme
  -- the parts of templates, by their raw texts
  no_substitution : Text → Lexeme
  template_head : Text → Lexeme
  template_middle : Text → Lexeme
  template_tail : Text → Lexeme
  sign : Text → Lexeme

-- Punctuator, DivPunctuator, RightBracePunctuator (12.8)
abbrev pub signs : List Text
signs = map codes ("{" ∷ "}" ∷ "(" ∷ ")" ∷ "[" ∷ "]" ∷ "." ∷ "..." ∷ ";" ∷ "," ∷ "<" ∷ ">" ∷ "<=" ∷ ">=" ∷ "==" ∷ "!=" ∷ "===" ∷ "!==" ∷ "+" ∷ "-" ∷ "*" ∷ "/" ∷ "%" ∷ "**" ∷ "++" ∷ "--" ∷ "<<" ∷ ">>" ∷ ">>>" ∷ "&" ∷ "|" ∷ "^" ∷ "!" ∷ "~" ∷ "&&" ∷ "||" ∷ "??" ∷ "?" ∷ "?." ∷ ":" ∷ "=" ∷ "+=" ∷ "-=" ∷ "*=" ∷ "/=" ∷ "%=" ∷ "**=" ∷ "<<=" ∷ ">>=" ∷ ">>>=" ∷ "&=" ∷ "|=" ∷ "^=" ∷ "&&=" ∷ "||=" ∷ "??=" ∷ "=>" ∷ [])

-- whether the text begins with the sign; `.` and `?.` are none before a digit
abbrev pub opens_with : Text → Text → Bool
opens_with s text = begins s text && not (is_one_of s (codes "." ∷ codes "?." ∷ []) && first_passes is_digit (drop (length s) text))

-- whether it begins with no longer one
abbrev pub is_longest : Text → Text → Bool
is_longest s text = list_all (λ t. not (nat_lt (length s) (length t) && opens_with t text)) signs

-- At the front of a text stands the lexeme, the longest of its goal, and leaves a rest.
pub data Lexed : Lexeme → Text → Text → Type 0 where
  is_word : {x rest : Text} → is_name x ≡ true → begins_part rest ≡ false → Lexed (word x) (x ++ rest) rest
  is_private_name : {x rest : Text} → is_name x ≡ true → begins_part rest ≡ false → Lexed (private_name x) (35 ∷ (x ++ rest)) rest
  is_number : {x rest : Text} → is_numeral x ≡ true → begins_start_or_digit rest ≡ false → is_integer x && first_passes is_point rest ≡ false → Lexed (number x) (x ++ rest) rest
  is_bigint : {x rest : Text} → is_big_integer x ≡ true → begins_start_or_digit rest ≡ false → Lexed (big_integer x) (x ++ rest) rest
  is_string : {quote : ℕ} (s : Text) {value rest : Text} → is_quote quote ≡ true → decoded quote s ≡ Some value → Lexed (string (quote ∷ (s ++ quote ∷ [])) value) (quote ∷ (s ++ quote ∷ rest)) rest
  is_regexp : {pattern : Text} (flags : Text) {rest : Text} → is_regexp_body pattern ≡ true → are_regexp_flags flags ≡ true → begins_part rest ≡ false → Lexed (regexp pattern (in_order flags)) (47 ∷ (pattern ++ 47 ∷ (flags ++ rest))) rest
  is_no_substitution : (s : Text) {rest : Text} → are_template_characters s ≡ true → Lexed (no_substitution (normal_lines s)) (96 ∷ (s ++ 96 ∷ rest)) rest
  is_head : (s : Text) {rest : Text} → are_template_characters s ≡ true → Lexed (template_head (normal_lines s)) (96 ∷ (s ++ 36 ∷ 123 ∷ rest)) rest
  is_middle : (s : Text) {rest : Text} → are_template_characters s ≡ true → Lexed (template_middle (normal_lines s)) (125 ∷ (s ++ 36 ∷ 123 ∷ rest)) rest
  is_tail : (s : Text) {rest : Text} → are_template_characters s ≡ true → Lexed (template_tail (normal_lines s)) (125 ∷ (s ++ 96 ∷ rest)) rest
  is_punctuator : {s rest : Text} → is_one_of s signs ≡ true → opens_with s (s ++ rest) ≡ true → is_longest s (s ++ rest) ≡ true → Lexed (sign s) (s ++ rest) rest

-- At the front of a text, behind a gap, stands a token; a rest is left.
pub record Token (text : Text) (lexeme : Lexeme) (rest : Text) : Type 0 where
  pub line : Bool
  pub middle : Text
  pub front : Front line text middle
  pub lexed : Lexed lexeme middle rest

abbrev pub Word : Text → Text → Text → Type 0
Word x a b = Token a (word x) b

abbrev pub Sign : Text → Text → Text → Type 0
Sign x a b = Token a (sign x) b
