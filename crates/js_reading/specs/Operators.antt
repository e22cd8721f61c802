-- How tightly a token takes the expression in front of it (13.3 to 13.15).
use Rattle.std.specs.Prelude.{ℕ, List, [], ◌∷◌, ◌++◌, map, Option, None, Some, Bool, true, not, ◌&&◌, ◌||◌, if◌then◌else◌, nat_le, codes}
use Rattle.js_term.specs.Term.{Text, is_text}
use Rattle.js_term.specs.Lexeme.{is_one_of}
use Rattle.js_syntax.specs.Texts.{assignment_operators, update_operators}
use Rattle.js_syntax.specs.Tokens.{Lexeme, word, no_substitution, template_head, sign}
use Rattle.js_syntax.specs.Edges.{operator_levels, level_among, is_coalesce_left, is_update, member_level}
use Rattle.js_tokens.specs.Next.{lexeme}
use Rattle.js_reading.specs.Reading.{Found, same_line}

abbrev pub or_zero : Option ℕ → ℕ
or_zero None = 0
or_zero (Some n) = n

-- the level of what the sign makes of it, or 0
abbrev pub sign_levels : List (List Text × ℕ)
sign_levels =
    (assignment_operators, 2) ∷ (map codes ("?" ∷ []), 3) ∷ (map codes ("??" ∷ []), 4) ∷ (map codes ("||" ∷ []), 5) ∷ (map codes ("&&" ∷ []), 6) ∷ (map codes ("**" ∷ []), 15) ∷ (update_operators, 17) ∷ (map codes ("?." ∷ []), 18) ∷ (map codes ("(" ∷ "[" ∷ "." ∷ []), 19) ∷ operator_levels

abbrev pub sign_binds : Text → ℕ
sign_binds s = or_zero (level_among s sign_levels)

abbrev pub word_binds : Bool → Text → ℕ
word_binds i x = if is_text x (codes "in") then (if i then 11 else 0) else if is_text x (codes "instanceof") then 11 else 0

-- the flag says whether a bare `in` may stand here
abbrev pub binds : Bool → Option Lexeme → ℕ
binds i (Some (word x)) = word_binds i x
binds i (Some (no_substitution raw)) = 19
binds i (Some (template_head raw)) = 19
binds i (Some (sign s)) = sign_binds s
binds i o = 0

-- the same, where a member keeps the level of what it is a member of
abbrev pub sign_gives : ℕ → Text → ℕ
sign_gives n s = if is_one_of s (map codes ("[" ∷ "." ∷ [])) then member_level n else sign_binds s

abbrev pub gives : Bool → ℕ → Option Lexeme → ℕ
gives i n (Some (no_substitution raw)) = member_level n
gives i n (Some (template_head raw)) = member_level n
gives i n (Some (sign s)) = sign_gives n s
gives i n o = binds i o

-- the level that it must have
abbrev pub needed_levels : List (List Text × ℕ)
needed_levels = (assignment_operators ++ update_operators ++ map codes ("?." ∷ []), 19) ∷ (map codes ("?" ∷ "??" ∷ []), 4) ∷ (map codes ("**" ∷ []), 17) ∷ []

abbrev pub or_level : Option ℕ → ℕ → ℕ
or_level None n = n
or_level (Some m) n = m

abbrev pub sign_needs : Text → ℕ
sign_needs s = or_level (level_among s needed_levels) (sign_binds s)

abbrev pub needs : Bool → Option Lexeme → ℕ
needs i (Some (sign s)) = sign_needs s
needs i o = binds i o

-- an update stands on the same line (13.4), and `??` behind no `&&` and no `||` (13.13)
abbrev pub suits : ℕ → Option Lexeme → Bool → Bool
suits n (Some (sign s)) line = (not (is_update s) || line) && (not (is_text s (codes "??")) || is_coalesce_left n)
suits n o line = true

-- whether the token goes on with what was found, in a place of level `least`
abbrev pub goes_on_by : Bool → ℕ → ℕ → Option Lexeme → Bool → Bool
goes_on_by i least n o line = nat_le 2 (binds i o) && nat_le least (gives i n o) && nat_le (needs i o) n && suits n o line

unfoldable pub goes_on : Bool → ℕ → Found → Text → Bool
goes_on i least f a = goes_on_by i least f.level (lexeme a) (same_line a)
