-- The texts that stand for themselves in a module (ECMAScript 12): gaps, names, numbers, strings, templates and regular
-- expressions. A text is its bytes in UTF-8; where more than ASCII matters, its characters are asked.
use Rattle.std.specs.Prelude.{ℕ, is_some, ◌+◌, ◌*◌, ◌-◌, List, [], ◌∷◌, ◌++◌, option_map, Option, None, Some, Bool, true, false, not, ◌&&◌, ◌||◌, if◌then◌else◌, nat_eq, nat_lt, codes, filter}
use Rattle.std.specs.List.{list_all, list_any}
use Rattle.std.specs.Str.{chars, is_utf8, encode_utf8_all}
use Rattle.js_term.specs.Term.{Text, is_text}
use Rattle.js_term.specs.Lexeme.{between, is_digit, is_start, is_part, is_word, is_quote, is_one_of, is_plain}
use Rattle.js_chars.specs.Names.{is_identifier_start, is_identifier_part, is_identifier_name}

-- whether the text begins with this one
abbrev pub begins : Text → Text → Bool
begins [] text = true
begins (p ∷ ps) [] = false
begins (p ∷ ps) (c ∷ cs) = nat_eq p c && begins ps cs

abbrev pub begins_any : List Text → Text → Bool
begins_any [] text = false
begins_any (p ∷ ps) text = begins p text || begins_any ps text

-- White space (12.2): U+0009, U+000B, U+000C, U+0020, U+00A0, U+1680, U+2000 to U+200A, U+202F, U+205F, U+3000, U+FEFF
abbrev pub white_space : List Text
white_space =
    (9 ∷ []) ∷ (11 ∷ []) ∷ (12 ∷ []) ∷ (32 ∷ []) ∷ (0xC2 ∷ 0xA0 ∷ []) ∷ (0xE1 ∷ 0x9A ∷ 0x80 ∷ []) ∷ (0xE2 ∷ 0x80 ∷ 0x80 ∷ []) ∷ (0xE2 ∷ 0x80 ∷ 0x81 ∷ []) ∷ (0xE2 ∷ 0x80 ∷ 0x82 ∷ []) ∷ (0xE2 ∷ 0x80 ∷ 0x83 ∷ []) ∷ (0xE2 ∷ 0x80 ∷ 0x84 ∷ []) ∷ (0xE2 ∷ 0x80 ∷ 0x85 ∷ []) ∷ (0xE2 ∷ 0x80 ∷ 0x86 ∷ []) ∷ (0xE2 ∷ 0x80 ∷ 0x87 ∷ []) ∷ (0xE2 ∷ 0x80 ∷ 0x88 ∷ []) ∷ (0xE2 ∷ 0x80 ∷ 0x89 ∷ []) ∷ (0xE2 ∷ 0x80 ∷ 0x8A ∷ []) ∷ (0xE2 ∷ 0x80 ∷ 0xAF ∷ []) ∷ (0xE2 ∷ 0x81 ∷ 0x9F ∷ []) ∷ (0xE3 ∷ 0x80 ∷ 0x80 ∷ []) ∷ (0xEF ∷ 0xBB ∷ 0xBF ∷ []) ∷ []

-- Line terminators (12.3): U+000A, U+000D, U+2028, U+2029
abbrev pub line_ends : List Text
line_ends = (10 ∷ []) ∷ (13 ∷ []) ∷ (0xE2 ∷ 0x80 ∷ 0xA8 ∷ []) ∷ (0xE2 ∷ 0x80 ∷ 0xA9 ∷ []) ∷ []

-- whether this one stands somewhere in the text
abbrev pub has_any : List Text → Text → Bool
has_any ps [] = false
has_any ps (c ∷ cs) = begins_any ps (c ∷ cs) || has_any ps cs

abbrev pub has_line_end : Text → Bool
has_line_end text = has_any line_ends text

-- whether the text begins with white space, a line end or a comment (12.2 to 12.4)
abbrev pub begins_gap : Text → Bool
begins_gap text = begins_any white_space text || (begins_any line_ends text || begins_any (codes "//" ∷ codes "/*" ∷ []) text)

-- whether the text ends, or begins with a line end
abbrev pub ends_line : Text → Bool
ends_line [] = true
ends_line text = begins_any line_ends text

abbrev pub is_ascii : ℕ → Bool
is_ascii c = nat_lt c 128

-- IdentifierName (12.7), reserved or not, of any length: an ASCII word, or characters of Unicode's sets
abbrev pub is_name : Text → Bool
is_name x = if list_all is_ascii x then is_word x else is_utf8 x && is_identifier_name (chars x)

abbrev pub first_passes : (ℕ → Bool) → List ℕ → Bool
first_passes test [] = false
first_passes test (c ∷ cs) = test c

-- whether the text begins with a character that goes on with a name
abbrev pub begins_part : Text → Bool
begins_part [] = false
begins_part (c ∷ cs) = if is_ascii c then is_part c else first_passes is_identifier_part (chars (c ∷ cs))

-- whether it begins with one that may begin a name, or with a digit
abbrev pub begins_start_or_digit : Text → Bool
begins_start_or_digit [] = false
begins_start_or_digit (c ∷ cs) = if is_ascii c then is_start c || is_digit c else first_passes is_identifier_start (chars (c ∷ cs))

-- digits of a kind, with a single `_` between two of them (12.9.3, NumericLiteralSeparator)
abbrev pub are_digits : (ℕ → Bool) → Text → Bool
are_digits test [] = false
are_digits test (c ∷ []) = test c
are_digits test (c ∷ d ∷ rest) = test c && (if nat_eq d 95 then are_digits test rest else are_digits test (d ∷ rest))

abbrev pub is_hex : ℕ → Bool
is_hex c = is_digit c || (between 97 102 c || between 65 70 c)

-- DecimalIntegerLiteral: `0`, or digits that do not begin with `0`
abbrev pub is_integer : Text → Bool
is_integer [] = false
is_integer (c ∷ []) = is_digit c
is_integer (c ∷ cs) = between 49 57 c && are_digits is_digit (c ∷ cs)

-- `0x`, `0o` or `0b` in either case, and digits
abbrev pub is_radix_integer : Text → Bool
is_radix_integer (z ∷ k ∷ ds) =
    nat_eq z 48 && ((is_one_of (k ∷ []) (codes "x" ∷ codes "X" ∷ []) && are_digits is_hex ds) || ((is_one_of (k ∷ []) (codes "o" ∷ codes "O" ∷ []) && are_digits (between 48 55) ds) || (is_one_of (k ∷ []) (codes "b" ∷ codes "B" ∷ []) && are_digits (between 48 49) ds)))
is_radix_integer x = false

-- the text up to the first byte that passes, and the text from it on
abbrev pub up_to : (ℕ → Bool) → Text → Text
up_to test [] = []
up_to test (c ∷ cs) = if test c then [] else c ∷ up_to test cs

abbrev pub onward : (ℕ → Bool) → Text → Text
onward test [] = []
onward test (c ∷ cs) = if test c then c ∷ cs else onward test cs

abbrev pub is_e : ℕ → Bool
is_e c = nat_eq c 101 || nat_eq c 69

abbrev pub is_point : ℕ → Bool
is_point c = nat_eq c 46

-- digits, or a sign and digits
abbrev pub are_signed_digits : Text → Bool
are_signed_digits [] = false
are_signed_digits (c ∷ cs) = if nat_eq c 43 || nat_eq c 45 then are_digits is_digit cs else are_digits is_digit (c ∷ cs)

-- ExponentPart, or nothing
abbrev pub is_exponent : Text → Bool
is_exponent [] = true
is_exponent (e ∷ ds) = are_signed_digits ds

-- an integer; an integer, a point and digits or none; a point and digits
abbrev pub is_mantissa : Text → Text → Bool
is_mantissa whole [] = is_integer whole
is_mantissa [] (p ∷ ds) = are_digits is_digit ds
is_mantissa whole (p ∷ []) = is_integer whole
is_mantissa whole (p ∷ ds) = is_integer whole && are_digits is_digit ds

-- DecimalLiteral
abbrev pub is_decimal_literal : Text → Bool
is_decimal_literal x = is_mantissa (up_to is_point (up_to is_e x)) (onward is_point (up_to is_e x)) && is_exponent (onward is_e x)

-- NumericLiteral but for bigints (12.9.3)
abbrev pub is_numeral : Text → Bool
is_numeral x = is_radix_integer x || is_decimal_literal x

-- the text without its last byte, where that is this one
abbrev pub without_last : ℕ → Text → Option Text
without_last last [] = None
without_last last (c ∷ []) = if nat_eq c last then Some [] else None
without_last last (c ∷ cs) = option_map (λ x. c ∷ x) (without_last last cs)

abbrev pub passes : (Text → Bool) → Option Text → Bool
passes test None = false
passes test (Some x) = test x

-- a bigint: a whole number and `n`
abbrev pub is_big_integer : Text → Bool
is_big_integer x = passes (λ y. is_integer y || is_radix_integer y) (without_last 110 x)

-- what one hexadecimal digit is worth
abbrev pub hex_value : ℕ → ℕ
hex_value c = if is_digit c then c - 48 else if nat_lt c 97 then c - 55 else c - 87

abbrev pub is_lead_surrogate : ℕ → Bool
is_lead_surrogate c = between 0xD800 0xDBFF c

abbrev pub is_trail_surrogate : ℕ → Bool
is_trail_surrogate c = between 0xDC00 0xDFFF c

-- a character in UTF-8
abbrev pub encoded : ℕ → Text
encoded c = if is_ascii c then c ∷ [] else encode_utf8_all (c ∷ [])

-- a character that is no surrogate, behind which a text goes on
abbrev pub with_character : ℕ → Option Text → Option Text
with_character c rest = if is_lead_surrogate c || (is_trail_surrogate c || nat_lt 0x10FFFF c) then None else option_map (λ x. encoded c ++ x) rest

abbrev pub with_byte : ℕ → Option Text → Option Text
with_byte c rest = option_map (λ x. c ∷ x) rest

-- SingleEscapeCharacter (12.9.4): `b` 8, `t` 9, `n` 10, `v` 11, `f` 12, `r` 13
abbrev pub single_escape : ℕ → Option ℕ
single_escape c =
    if nat_eq c 98 then Some 8 else if nat_eq c 116 then Some 9 else if nat_eq c 110 then Some 10 else if nat_eq c 118 then Some 11 else if nat_eq c 102 then Some 12 else if nat_eq c 114 then Some 13 else None

-- two digits, or four, as a number
abbrev pub hex_two : ℕ → ℕ → Option ℕ
hex_two a b = if is_hex a && is_hex b then Some (hex_value a * 16 + hex_value b) else None

abbrev pub hex_pair : Option ℕ → Option ℕ → Option ℕ
hex_pair (Some x) (Some y) = Some (x * 256 + y)
hex_pair x y = None

abbrev pub hex_four : ℕ → ℕ → ℕ → ℕ → Option ℕ
hex_four a b c d = hex_pair (hex_two a b) (hex_two c d)

abbrev pub joined_pair : ℕ → ℕ → ℕ
joined_pair lead trail = 0x10000 + (lead - 0xD800) * 0x400 + (trail - 0xDC00)

abbrev pub is_lead : Option ℕ → Bool
is_lead None = false
is_lead (Some x) = is_lead_surrogate x

abbrev pub with_value : Option ℕ → Option Text → Option Text
with_value None rest = None
with_value (Some c) rest = with_character c rest

abbrev pub pair_value : Option ℕ → Option ℕ → Option ℕ
pair_value (Some lead) (Some trail) = if is_trail_surrogate trail then Some (joined_pair lead trail) else None
pair_value x y = None

abbrev pub escape_value : Option ℕ → ℕ → ℕ
escape_value None c = c
escape_value (Some value) c = value

abbrev pub no_digit : Text → Bool
no_digit text = not (first_passes is_digit text)

-- The value of the characters between a string's quotes (12.9.4, SV), where they are ones: each is itself, but for the
-- quote, a backslash, a line feed and a carriage return; behind a backslash stands one of the escapes.
abbrev mutual
  pub decoded : ℕ → Text → Option Text
  decoded quote [] = Some []
  decoded quote (c ∷ s) = if nat_eq c 92 then escaped quote s else if is_plain quote c then with_byte c (decoded quote s) else None

  -- `\u`, `\x`, `\0` without a digit behind it, a line end, which adds nothing, or any other character but a digit
  pub escaped : ℕ → Text → Option Text
  escaped quote [] = None
  escaped quote (e ∷ s) =
      if nat_eq e 117 then unicode quote s else if nat_eq e 120 then hexed quote s else if is_digit e then (if nat_eq e 48 && no_digit s then with_byte 0 (decoded quote s) else None) else if nat_eq e 10 then decoded quote s else if nat_eq e 13 then behind_return quote s else if begins_any line_ends (e ∷ s) then behind_separator quote s else with_byte (escape_value (single_escape e) e) (decoded quote s)

  -- `\xHH`
  pub hexed : ℕ → Text → Option Text
  hexed quote (a ∷ b ∷ s) = with_value (hex_two a b) (decoded quote s)
  hexed quote s = None

  -- `\uHHHH`, two such that are a pair of surrogates, or `\u{H..}`
  pub unicode : ℕ → Text → Option Text
  unicode quote [] = None
  unicode quote (a ∷ s) = if nat_eq a 123 then braced quote false 0 s else four quote a s

  pub four : ℕ → ℕ → Text → Option Text
  four quote a (b ∷ c ∷ d ∷ s) = if is_lead (hex_four a b c d) then paired quote (hex_four a b c d) s else with_value (hex_four a b c d) (decoded quote s)
  four quote a s = None

  pub paired : ℕ → Option ℕ → Text → Option Text
  paired quote lead (k ∷ u ∷ a ∷ b ∷ c ∷ d ∷ s) = if nat_eq k 92 && nat_eq u 117 then with_value (pair_value lead (hex_four a b c d)) (decoded quote s) else None
  paired quote lead s = None

  pub braced : ℕ → Bool → ℕ → Text → Option Text
  braced quote some n [] = None
  braced quote some n (c ∷ s) = if nat_eq c 125 then (if some then with_character n (decoded quote s) else None) else if is_hex c then braced quote true (n * 16 + hex_value c) s else None

  -- behind a carriage return, with which a line feed is one line end
  pub behind_return : ℕ → Text → Option Text
  behind_return quote [] = Some []
  behind_return quote (c ∷ s) = if nat_eq c 10 then decoded quote s else if nat_eq c 92 then escaped quote s else if is_plain quote c then with_byte c (decoded quote s) else None

  -- behind the first byte of U+2028 or U+2029
  pub behind_separator : ℕ → Text → Option Text
  behind_separator quote (a ∷ b ∷ s) = decoded quote s
  behind_separator quote s = None

-- a string token as it is written
abbrev pub is_raw_string : Text → Bool
is_raw_string [] = false
is_raw_string (quote ∷ s) = is_quote quote && passes (λ x. is_some (decoded quote x)) (without_last quote s)

-- Template characters (12.9.6): no backtick and no `${` but behind a backslash
abbrev mutual
  pub are_template_characters : Text → Bool
  are_template_characters [] = true
  are_template_characters (c ∷ s) = if nat_eq c 92 then are_characters_escaped s else not (nat_eq c 96) && (not (begins (codes "${") (c ∷ s)) && are_template_characters s)

  pub are_characters_escaped : Text → Bool
  are_characters_escaped [] = false
  are_characters_escaped (c ∷ s) = are_template_characters s

-- the raw value of template characters (12.9.6, TRV): a line feed for CR and for CR LF
abbrev mutual
  pub normal_lines : Text → Text
  normal_lines [] = []
  normal_lines (c ∷ s) = if nat_eq c 13 then 10 ∷ behind_cr s else c ∷ normal_lines s

  pub behind_cr : Text → Text
  behind_cr [] = []
  behind_cr (c ∷ s) = if nat_eq c 10 then normal_lines s else if nat_eq c 13 then 10 ∷ behind_cr s else c ∷ normal_lines s

abbrev pub is_no_return : ℕ → Bool
is_no_return c = not (nat_eq c 13)

-- the raw text of a template's part
abbrev pub is_template_text : Text → Bool
is_template_text raw = list_all is_no_return raw && are_template_characters raw

-- whether each escape in it is one of a string, but that surrogates need no partner (12.9.6, TV)
abbrev mutual
  pub has_sound_escapes : Text → Bool
  has_sound_escapes [] = true
  has_sound_escapes (c ∷ s) = if nat_eq c 92 then is_sound_escape s else has_sound_escapes s

  pub is_sound_escape : Text → Bool
  is_sound_escape [] = false
  is_sound_escape (e ∷ s) =
      if nat_eq e 117 then is_sound_unicode s else if nat_eq e 120 then is_sound_hex s else if is_digit e then nat_eq e 48 && (no_digit s && has_sound_escapes s) else has_sound_escapes s

  pub is_sound_hex : Text → Bool
  is_sound_hex (a ∷ b ∷ s) = is_hex a && (is_hex b && has_sound_escapes s)
  is_sound_hex s = false

  pub is_sound_unicode : Text → Bool
  is_sound_unicode [] = false
  is_sound_unicode (a ∷ s) = if nat_eq a 123 then is_sound_braced false 0 s else is_hex a && is_sound_three s

  pub is_sound_three : Text → Bool
  is_sound_three (b ∷ c ∷ d ∷ s) = is_hex b && (is_hex c && (is_hex d && has_sound_escapes s))
  is_sound_three s = false

  pub is_sound_braced : Bool → ℕ → Text → Bool
  is_sound_braced some n [] = false
  is_sound_braced some n (c ∷ s) = if nat_eq c 125 then some && (not (nat_lt 0x10FFFF n) && has_sound_escapes s) else is_hex c && is_sound_braced true (n * 16 + hex_value c) s

-- RegularExpressionBody (12.9.5): no line end; a `/` stands in a class or behind a backslash; each class is closed
abbrev mutual
  pub is_regexp_rest : Bool → Text → Bool
  is_regexp_rest in_class [] = not in_class
  is_regexp_rest in_class (c ∷ s) =
      not (begins_any line_ends (c ∷ s)) && (if nat_eq c 92 then is_regexp_escape in_class s else if nat_eq c 91 then is_regexp_rest true s else if nat_eq c 93 then is_regexp_rest false s else (in_class || not (nat_eq c 47)) && is_regexp_rest in_class s)

  pub is_regexp_escape : Bool → Text → Bool
  is_regexp_escape in_class [] = false
  is_regexp_escape in_class (c ∷ s) = not (begins_any line_ends (c ∷ s)) && is_regexp_rest in_class s

abbrev pub is_regexp_body : Text → Bool
is_regexp_body [] = false
is_regexp_body (c ∷ s) = not (nat_eq c 42) && is_regexp_rest false (c ∷ s)

-- the flags, in the order of the alphabet
abbrev pub flag_letters : Text
flag_letters = codes "dgimsuvy"

abbrev pub has_byte : Text → ℕ → Bool
has_byte x c = list_any (nat_eq c) x

abbrev pub are_distinct : Text → Bool
are_distinct [] = true
are_distinct (c ∷ cs) = not (has_byte cs c) && are_distinct cs

-- RegularExpressionFlags: each once, and not both `u` and `v` (13.2.7.1, 22.2.3.4)
abbrev pub are_regexp_flags : Text → Bool
are_regexp_flags x = list_all (has_byte flag_letters) x && (are_distinct x && not (has_byte x 117 && has_byte x 118))

abbrev pub in_order : Text → Text
in_order x = filter (has_byte x) flag_letters

-- flags as a tree has them
abbrev pub is_regexp_flags : Text → Bool
is_regexp_flags x = are_regexp_flags x && is_text (in_order x) x

-- the text behind `#!` (12.5)
abbrev pub is_hashbang : Text → Bool
is_hashbang x = not (has_line_end x)
