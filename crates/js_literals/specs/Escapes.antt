-- What stands behind a backslash of a string, as a function: a character or nothing, and the text behind it.
-- These stand between the code and `decoded` of `js_syntax`, to which the proofs tie them, and need not be believed.
use Rattle.std.specs.Prelude.{ℕ, [], ◌∷◌, Option, None, Some, ◌&&◌, ◌||◌, false, if◌then◌else◌, nat_eq, nat_lt}
use Rattle.js_term.specs.Term.{Text}
use Rattle.js_term.specs.Lexeme.{is_digit}
use Rattle.js_syntax.specs.Lexical.{is_ascii, is_lead_surrogate, is_trail_surrogate, joined_pair, single_escape, escape_value, no_digit, begins_any, line_ends}
use Rattle.js_lexical.specs.Cursors.{two_digits, four_digits, braced_digits}

-- a number, and the text behind it
abbrev pub Reading : Type 0
Reading = Option (ℕ × Text)

abbrev pub Unescaped : Type 0
Unescaped = Option (Option ℕ × Text)

-- a number that is a character
abbrev pub character : Reading → Unescaped
character None = None
character (Some p) = if is_lead_surrogate p.0 || (is_trail_surrogate p.0 || nat_lt 0x10FFFF p.0) then None else Some (Some p.0, p.1)

abbrev pub joined : ℕ → Reading → Reading
joined lead None = None
joined lead (Some p) = if is_trail_surrogate p.0 then Some (joined_pair lead p.0, p.1) else None

-- behind a lead surrogate
abbrev pub surrogate_pair : ℕ → Text → Reading
surrogate_pair lead (k ∷ u ∷ s) = if nat_eq k 92 && nat_eq u 117 then joined lead (four_digits s) else None
surrogate_pair lead s = None

abbrev pub paired : Reading → Reading
paired None = None
paired (Some p) = if is_lead_surrogate p.0 then surrogate_pair p.0 p.1 else Some (p.0, p.1)

-- behind `\u`
abbrev pub unicode : Text → Reading
unicode [] = None
unicode (a ∷ s) = if nat_eq a 123 then braced_digits false 0 s else paired (four_digits (a ∷ s))

-- behind a carriage return
abbrev pub line_feed : Text → Text
line_feed [] = []
line_feed (c ∷ s) = if nat_eq c 10 then s else c ∷ s

-- behind the first byte of U+2028 or U+2029
abbrev pub separator : Text → Unescaped
separator (a ∷ b ∷ s) = Some (None, s)
separator s = None

-- A character that is not ASCII stands for itself, and is left.
abbrev pub unescaped : Text → Unescaped
unescaped [] = None
unescaped (e ∷ s) =
    if nat_eq e 117 then character (unicode s)
    else if nat_eq e 120 then character (two_digits s)
    else if is_digit e then (if nat_eq e 48 && no_digit s then Some (Some 0, s) else None)
    else if nat_eq e 10 then Some (None, s)
    else if nat_eq e 13 then Some (None, line_feed s)
    else if begins_any line_ends (e ∷ s) then separator s
    else if is_ascii e then Some (Some (escape_value (single_escape e) e), s)
    else Some (None, e ∷ s)
