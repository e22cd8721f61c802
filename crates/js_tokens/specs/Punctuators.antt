-- The sign at the front of a text, as a function: the longest one.
use Rattle.std.specs.Prelude.{ℕ, [], ◌∷◌, Option, None, Some, Bool, if◌then◌else◌, codes, drop, nat_eq, not, ◌&&◌, ◌||◌}
use Rattle.js_term.specs.Term.{Text}
use Rattle.js_term.specs.Lexeme.{is_digit}
use Rattle.js_syntax.specs.Lexical.{begins, first_passes, has_byte}

-- behind each first byte: the rest of the sign
abbrev pub behind_less : Text → Text
behind_less s = if begins (codes "<=") s then codes "<=" else if begins (codes "<") s then codes "<" else if begins (codes "=") s then codes "=" else []

abbrev pub behind_greater : Text → Text
behind_greater s =
    if begins (codes ">>=") s then codes ">>=" else if begins (codes ">>") s then codes ">>" else if begins (codes ">=") s then codes ">=" else if begins (codes ">") s then codes ">" else if begins (codes "=") s then codes "=" else []

abbrev pub behind_equals : Text → Text
behind_equals s = if begins (codes "==") s then codes "==" else if begins (codes "=") s then codes "=" else if begins (codes ">") s then codes ">" else []

abbrev pub behind_exclamation : Text → Text
behind_exclamation s = if begins (codes "==") s then codes "==" else if begins (codes "=") s then codes "=" else []

-- a byte that may stand twice, or before `=`
abbrev pub behind_twice : ℕ → Text → Text
behind_twice c s = if begins (c ∷ []) s then c ∷ [] else if begins (codes "=") s then codes "=" else []

-- one that may stand twice, and then too before `=`
abbrev pub behind_thrice : ℕ → Text → Text
behind_thrice c s = if begins (c ∷ 61 ∷ []) s then c ∷ 61 ∷ [] else if begins (c ∷ []) s then c ∷ [] else if begins (codes "=") s then codes "=" else []

abbrev pub behind_once : Text → Text
behind_once s = if begins (codes "=") s then codes "=" else []

abbrev pub point_digit : Text → Bool
point_digit s = first_passes is_digit (drop 1 s)

abbrev pub behind_question : Text → Text
behind_question s =
    if begins (codes "?=") s then codes "?=" else if begins (codes "?") s then codes "?" else if begins (codes ".") s && not (point_digit s) then codes "." else []

abbrev pub behind_point : Text → Option Text
behind_point s = if begins (codes "..") s then Some (codes "..") else if first_passes is_digit s then None else Some []

-- those that nothing goes on with
abbrev pub alone : Text
alone = codes "{}()[];,~:"

abbrev pub with_first : ℕ → Text → Option Text
with_first c s = Some (c ∷ s)

abbrev pub pointed : Option Text → Option Text
pointed None = None
pointed (Some s) = Some (46 ∷ s)

abbrev pub punctuator_at : Text → Option Text
punctuator_at [] = None
punctuator_at (c ∷ s) =
    if has_byte alone c then with_first c []
    else if nat_eq c 46 then pointed (behind_point s)
    else if nat_eq c 61 then with_first c (behind_equals s)
    else if nat_eq c 33 then with_first c (behind_exclamation s)
    else if nat_eq c 43 || nat_eq c 45 then with_first c (behind_twice c s)
    else if nat_eq c 38 || (nat_eq c 124 || nat_eq c 42) then with_first c (behind_thrice c s)
    else if nat_eq c 47 || (nat_eq c 37 || nat_eq c 94) then with_first c (behind_once s)
    else if nat_eq c 60 then with_first c (behind_less s)
    else if nat_eq c 62 then with_first c (behind_greater s)
    else if nat_eq c 63 then with_first c (behind_question s)
    else None
