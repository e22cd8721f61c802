-- Texts turned into identifier names, over lists of characters.
use Rattle.std.specs.Prelude.{ℕ, ◌+◌, ◌-◌, List, [], ◌∷◌, ◌++◌, length, drop, Bool, true, false, if◌then◌else◌, ◌==◌, nat_lt, nat_le, codes}
use Rattle.std.specs.List.{prefix_len, fold}
use Rattle.std.specs.Char.{to_ascii_uppercase, len_utf8}
use Rattle.std.specs.Str.{encode_utf8_all}
use Rattle.js_chars.specs.Names.{is_identifier_start, is_identifier_part, is_identifier_name}

-- Behind the first character: what is no identifier part is dropped, and the next one kept is then in upper case.
abbrev pub kept_parts : Bool → List ℕ → List ℕ
kept_parts dropped [] = []
kept_parts dropped (c ∷ cs) =
    if is_identifier_part c then (if dropped then to_ascii_uppercase c else c) ∷ kept_parts false cs else kept_parts true cs

-- the first character is kept only where it starts an identifier
abbrev pub kept_characters : List ℕ → List ℕ
kept_characters [] = []
kept_characters (c ∷ cs) = if is_identifier_start c then c ∷ kept_parts false cs else kept_parts true cs

abbrev pub or_underscore : List ℕ → List ℕ
or_underscore [] = 95 ∷ []
or_underscore (c ∷ cs) = c ∷ cs

-- an identifier name stays
abbrev pub identifier_of : List ℕ → List ℕ
identifier_of cs = if is_identifier_name cs then cs else or_underscore (kept_characters cs)

-- how many bytes characters take in UTF-8
abbrev pub size : List ℕ → ℕ
size cs = length (encode_utf8_all cs)

-- the longest front that takes no more than this many bytes
abbrev pub fitting : ℕ → List ℕ → List ℕ
fitting room [] = []
fitting room (c ∷ cs) = if nat_le (len_utf8 c) room then c ∷ fitting (room - len_utf8 c) cs else []

abbrev pub without_underscores : List ℕ → List ℕ
without_underscores cs = drop (prefix_len (λ c. c == 95) cs) cs

-- A name with one part more: while it is empty a part loses its leading underscores, and else `$` stands between. The
-- name has at most 20 bytes.
abbrev pub joined : List ℕ → List ℕ → List ℕ
joined [] part = fitting 20 (without_underscores part)
joined (c ∷ cs) part =
    if nat_lt (size (c ∷ cs)) 20 then (c ∷ cs) ++ (36 ∷ fitting (20 - (size (c ∷ cs) + 1)) part) else c ∷ cs

-- the name of no parts, and of all of them
abbrev pub finished : List ℕ → List ℕ
finished [] = codes "ref"
finished (c ∷ cs) = identifier_of (c ∷ cs)

abbrev pub name_of_parts : List (List ℕ) → List ℕ
name_of_parts parts = finished (fold joined [] parts)
