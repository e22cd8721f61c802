-- Unique names, as they are drawn for new bindings: `_` and a base, with more underscores and a number where names
-- of that base are taken. A text is its bytes in UTF-8.
use Rattle.std.specs.Prelude.{◌≡◌, ℕ, ◌+◌, ◌-◌, ◌≤◌, List, [], ◌∷◌, ◌++◌, length, take, drop, replicate, Option, None, Some, Bool, true, false, ◌&&◌, ◌||◌, if◌then◌else◌, ◌==◌, nat_lt, nat_le, decimal}
use Rattle.std.specs.List.{Contains, prefix_len, suffix_len, fold}
use Rattle.std.specs.Char.{is_ascii_digit}
use Rattle.std.specs.Str.Parse.{digits_value}
use Rattle.std.specs.Ordering.{nat_cmp}
use Rattle.std.specs.Cmp.Lexicographic.{slice_cmp}
use Rattle.std.specs.FinMap as map

abbrev pub Text : Type 0
Text = List ℕ

-- how many underscores, and the number behind the base
abbrev pub Pair : Type 0
Pair = ℕ × ℕ

-- the largest number of underscores, and the largest postfix
abbrev pub largest : ℕ
largest = 4294967295

-- the pair that is kept for each base
abbrev pub Names : Type 0
Names = map.FinMap (slice_cmp nat_cmp) Pair

-- a base begins with no `_` and ends in no digit
abbrev pub IsBase : Text → Type 0
IsBase base = (prefix_len (λ c. c == 95) base ≡ 0) × (suffix_len is_ascii_digit base ≡ 0)

-- the postfix 1 is not written
abbrev pub postfix_text : ℕ → Text
postfix_text n = if n == 1 then [] else decimal n

-- the name of a base with a pair
abbrev pub name_of : Text → Pair → Text
name_of base pair = replicate pair.0 95 ++ (base ++ postfix_text pair.1)

-- The name counts for the base, with the pair.
pub record Counts (name base : Text) (pair : Pair) : Type 0 where
  pub is_base : IsBase base
  pub underscored : 1 ≤ pair.0
  pub numbered : (1 ≤ pair.1) × (pair.1 ≤ largest)
  pub spelled : name ≡ name_of base pair

-- the parts of a name: its leading underscores, what stands between, the digits at its end
abbrev pub underscores : Text → ℕ
underscores name = prefix_len (λ c. c == 95) name

abbrev pub digits_start : Text → ℕ
digits_start rest = length rest - suffix_len is_ascii_digit rest

abbrev pub base_of : Text → Text
base_of name = take (digits_start (drop (underscores name) name)) (drop (underscores name) name)

abbrev pub digits_of : Text → Text
digits_of name = drop (digits_start (drop (underscores name) name)) (drop (underscores name) name)

-- a number from 2 on, up to the largest
abbrev pub as_postfix : ℕ → Option ℕ
as_postfix n = if nat_lt 1 n && nat_le n largest then Some n else None

-- the postfix that digits are, without leading zero
abbrev pub postfix_of : Text → Option ℕ
postfix_of [] = Some 1
postfix_of (c ∷ cs) = if c == 48 then None else as_postfix (digits_value 10 (c ∷ cs))

abbrev pub with_postfix : Text → ℕ → Option ℕ → Option (Text × Pair)
with_postfix base count None = None
with_postfix base count (Some n) = Some (base, (count, n))

-- the base and the pair of a name, where it counts
abbrev pub counted : Text → Option (Text × Pair)
counted name = if underscores name == 0 then None else with_postfix (base_of name) (underscores name) (postfix_of (digits_of name))

-- the order of pairs
abbrev pub is_below : Pair → Pair → Bool
is_below p q = nat_lt p.0 q.0 || ((p.0 == q.0) && nat_lt p.1 q.1)

abbrev pub is_news : Option Pair → Pair → Bool
is_news None q = true
is_news (Some p) q = is_below p q

-- the greater of the kept pair and this one is kept
abbrev pub keep : Names → Text → Pair → Names
keep names base pair = if is_news (map.get names base) pair then map.insert names base pair else names

abbrev pub keep_counted : Names → Option (Text × Pair) → Names
keep_counted names None = names
keep_counted names (Some entry) = keep names entry.0 entry.1

abbrev pub catalogued : Names → Text → Names
catalogued names name = keep_counted names (counted name)

-- what is kept after each of these names
abbrev pub catalogue : List Text → Names
catalogue names = fold catalogued map.empty names

-- the pair after the kept one; none where it would have more than the largest number of underscores
abbrev pub next_pair : Option Pair → Option Pair
next_pair None = Some (1, 1)
next_pair (Some p) =
    if nat_lt p.1 largest then Some (p.0, p.1 + 1) else (if nat_lt p.0 largest then Some (p.0 + 1, 2) else None)

-- What may be kept after the names seen, which were catalogued or drawn.
pub data Seen : Names → List Text → Type 0 where
  unseen : Seen map.empty []
  named : {kept : Names} {names : List Text} (name : Text) → Seen kept names → Seen (catalogued kept name) (name ∷ names)
  raised : {kept : Names} {names : List Text} (base : Text) (pair : Pair) → 1 ≤ pair.0 → 1 ≤ pair.1 → Seen kept names → Seen (keep kept base pair) names
  drawn : {kept : Names} {names : List Text} (base : Text) (pair : Pair) → IsBase base → next_pair (map.get kept base) ≡ Some pair → Seen kept names → Seen (map.insert kept base pair) (name_of base pair ∷ names)

-- The greatest pair with which one of the names counts for the base.
pub record IsLast (names : List Text) (base : Text) (pair : Pair) : Type 0 where
  pub counts : (name : Text) × Contains names name × Counts name base pair
  pub greatest : (name : Text) (other : Pair) → Contains names name → Counts name base other → is_below pair other ≡ false

-- what is kept for the base is that pair, and nothing where no name counts for it
abbrev pub IsCatalogued : List Text → Text → Option Pair → Type 0
IsCatalogued names base None = (name : Text) (pair : Pair) → Contains names name → Counts name base pair → ⊥
IsCatalogued names base (Some pair) = IsLast names base pair
