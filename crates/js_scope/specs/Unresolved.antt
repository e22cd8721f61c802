-- Lists of references by name, and lists without a reference.
use Rattle.std.specs.Prelude.{ℕ, List, [], ◌∷◌, ◌++◌, filter, Option, None, Some, not, nat_eq}
use Rattle.std.specs.Map.{lookup, set_value, remove_entry}
use Rattle.js_term.specs.Term.{Text, is_text}

abbrev pub Lists : Type 0
Lists = List (Text × List ℕ)

abbrev pub without : ℕ → List ℕ → List ℕ
without r rs = filter (λ other. not (nat_eq other r)) rs

-- the list of a name with one more reference at its end; a new name goes last
abbrev pub listed_at : Option (List ℕ) → Lists → Text → ℕ → Lists
listed_at None ls x r = ls ++ (x, r ∷ []) ∷ []
listed_at (Some rs) ls x r = set_value (is_text x) ls (rs ++ r ∷ [])

abbrev pub listed : Lists → Text → ℕ → Lists
listed ls x r = listed_at (lookup (is_text x) ls) ls x r

-- the list of a name as it is left; a name without references goes
abbrev pub left : List ℕ → Lists → Text → Lists
left [] ls x = remove_entry (is_text x) ls
left (r ∷ rs) ls x = set_value (is_text x) ls (r ∷ rs)

abbrev pub unlisted_at : Option (List ℕ) → Lists → Text → ℕ → Lists
unlisted_at None ls x r = ls
unlisted_at (Some rs) ls x r = left (without r rs) ls x

-- without a reference in the list of a name
abbrev pub unlisted : Lists → Text → ℕ → Lists
unlisted ls x r = unlisted_at (lookup (is_text x) ls) ls x r
