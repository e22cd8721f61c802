-- Entries: a text, `[text]`, `[text, value]` or `[text, value, text]`. The first text is the entry's name.
use Rattle.std.specs.Prelude.{ℕ, List, [], ◌∷◌, Bool, true, false, ◌&&◌, Option, None, Some, is_some, is_none, option_map, option_and_then, if◌then◌else◌}
use Rattle.std.specs.List.{list_all}
use Rattle.std.specs.Str.{bytes_eq}
use Rattle.serde_json.specs.Data.{Data, Items, no_items, item}
use Rattle.serde_json.specs.Find.{as_array, as_str, at, get}

abbrev pub is_text_or_absent : Option Data → Bool
is_text_or_absent None = true
is_text_or_absent (Some value) = is_some (as_str value)

abbrev pub name_or : Option (List ℕ) → Option (List ℕ) → Option (List ℕ)
name_or None other = other
name_or (Some name) other = Some name

abbrev pub name_of : Data → Option (List ℕ)
name_of value = name_or (as_str value)
    (if is_text_or_absent (at 2 value) && is_none (at 3 value) then option_and_then as_str (at 0 value) else None)

-- the value that stands beside the name
abbrev pub value_of : Data → Option Data
value_of value = at 1 value

-- a member of the value that stands beside the name
abbrev pub option_of : List ℕ → Data → Option Data
option_of name value = option_and_then (get name) (value_of value)

abbrev pub is_entry : Data → Bool
is_entry value = is_some (name_of value)

abbrev pub is_the : List ℕ → Option (List ℕ) → Bool
is_the name None = false
is_the name (Some own) = bytes_eq own name

abbrev pub is_named : List ℕ → Data → Bool
is_named name value = is_the name (name_of value)

abbrev pub list_of : Items → List Data
list_of no_items = []
list_of (item value items) = value ∷ list_of items

abbrev pub if_entries : List Data → Option (List Data)
if_entries items = if list_all is_entry items then Some items else None

-- the entries of a list that has no other items
abbrev pub entries_in : Data → Option (List Data)
entries_in value = option_and_then (λ items. if_entries (list_of items)) (as_array value)

abbrev pub last_among : (Data → Bool) → Option Data → List Data → Option Data
last_among test found [] = found
last_among test found (value ∷ values) = last_among test (if test value then Some value else found) values

-- the last entry of this name
abbrev pub last_entry : List ℕ → List Data → Option Data
last_entry name items = last_among (is_named name) None items
