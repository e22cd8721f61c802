-- The patterns of regular expressions and the forms that occur in them, over lists of characters. A relation leads from
-- a text to the rest behind what stands at its front, and from the forms found before to those found behind it.
-- The codes: `!` 33, `(` 40, `)` 41, `-` 45, `:` 58, `<` 60, `=` 61, `>` 62, `?` 63, `[` 91, `\` 92, `]` 93, `{` 123, `}` 125.
use Rattle.std.specs.Prelude.{◌≡◌, ℕ, List, [], ◌∷◌, ◌++◌, Bool, true, false, not, ◌&&◌, ◌||◌, nat_eq, nat_lt, bit_and}
use Rattle.std.specs.List.{list_all}
use Rattle.js_chars.specs.Names.{is_identifier_name}
use Rattle.js_chars.specs.declared.flags.RegExpFlags.{RegExpFlags}
use Rattle.js_pattern.specs.declared.pattern.Forms.{Forms}
use Rattle.js_pattern.specs.declared.pattern.Mode.{Mode}

abbrev pub Text : Type 0
Text = List ℕ

abbrev pub between : ℕ → ℕ → ℕ → Bool
between low high c = not (nat_lt c low) && not (nat_lt high c)

-- what the flags `u`, of value 32, and `v`, of value 64, change
abbrev pub mode_of : RegExpFlags → Mode
mode_of flags = record { unicode = nat_eq (bit_and flags.0 64) 64 || nat_eq (bit_and flags.0 32) 32; nests = nat_eq (bit_and flags.0 64) 64 }

abbrev pub none : Forms
none = record { look_behind = false; named_groups = false; property_escapes = false }

-- the forms found before, and one more
abbrev pub with_look_behind : Forms → Forms
with_look_behind x = record x { look_behind = true }

abbrev pub with_named_group : Forms → Forms
with_named_group x = record x { named_groups = true }

abbrev pub with_property_escape : Forms → Forms
with_property_escape x = record x { property_escapes = true }

-- an ASCII letter or digit, `_` or `=`
abbrev pub is_property_part : ℕ → Bool
is_property_part c = between 97 122 c || between 65 90 c || between 48 57 c || nat_eq c 95 || nat_eq c 61

abbrev pub is_property_name : Text → Bool
is_property_name [] = false
is_property_name (c ∷ cs) = is_property_part c && list_all is_property_part cs

-- `p` or `P`
abbrev pub is_p : ℕ → Bool
is_p c = nat_eq c 112 || nat_eq c 80

-- `i`, `m` or `s`
abbrev pub is_modifier : ℕ → Bool
is_modifier c = nat_eq c 105 || nat_eq c 109 || nat_eq c 115

-- `=` or `!`
abbrev pub is_look : ℕ → Bool
is_look c = nat_eq c 61 || nat_eq c 33

-- the text does not begin with `?`
abbrev pub no_question : Text → Bool
no_question [] = true
no_question (c ∷ cs) = not (nat_eq c 63)

-- `\` and one character, or `\p{` or `\P{`, a name and `}`
pub data Escape (m : Mode) : Text → Text → Forms → Forms → Type 0 where
  character : {c : ℕ} {a : Text} {x : Forms} → m.unicode && is_p c ≡ false → Escape m (92 ∷ c ∷ a) a x x
  property : {c : ℕ} (name : Text) {a : Text} {x : Forms} → m.unicode && is_p c ≡ true → is_property_name name ≡ true → Escape m (92 ∷ c ∷ 123 ∷ (name ++ 125 ∷ a)) a x (with_property_escape x)

-- what stands in a class for itself: no backslash and no `]`, and no `[` where classes nest
abbrev pub is_member : Mode → ℕ → Bool
is_member m c = not (nat_eq c 92) && not (nat_eq c 93) && not (m.nests && nat_eq c 91)

-- what stands between `[` and `]`
pub data Parts (m : Mode) : Text → Text → Forms → Forms → Type 0 where
  no_part : {a : Text} {x : Forms} → Parts m a a x x
  part_escape : {a b c : Text} {x y z : Forms} → Escape m a b x y → Parts m b c y z → Parts m a c x z
  part_class : {a b c : Text} {x y z : Forms} → m.nests ≡ true → Parts m a (93 ∷ b) x y → Parts m b c y z → Parts m (91 ∷ a) c x z
  part_member : {c : ℕ} {a b : Text} {x y : Forms} → is_member m c ≡ true → Parts m a b x y → Parts m (c ∷ a) b x y

-- letters, or letters, `-` and letters, and `:`
pub data Modifiers : Text → Text → Type 0 where
  letters_on : (on : Text) {a : Text} → list_all is_modifier on ≡ true → Modifiers (on ++ 58 ∷ a) a
  letters_off : (on off : Text) {a : Text} → list_all is_modifier on ≡ true → list_all is_modifier off ≡ true → Modifiers (on ++ 45 ∷ (off ++ 58 ∷ a)) a

-- `(` with no `?` behind it, `(?:`, `(?=` and `(?!`, `(?<=` and `(?<!`, `(?<name>`, or `(?` and modifiers
pub data Opener : Text → Text → Forms → Forms → Type 0 where
  capture : {a : Text} {x : Forms} → no_question a ≡ true → Opener (40 ∷ a) a x x
  plain : {a : Text} {x : Forms} → Opener (40 ∷ 63 ∷ 58 ∷ a) a x x
  look_ahead : {c : ℕ} {a : Text} {x : Forms} → is_look c ≡ true → Opener (40 ∷ 63 ∷ c ∷ a) a x x
  look_behind : {c : ℕ} {a : Text} {x : Forms} → is_look c ≡ true → Opener (40 ∷ 63 ∷ 60 ∷ c ∷ a) a x (with_look_behind x)
  named : (name : Text) {a : Text} {x : Forms} → is_identifier_name name ≡ true → Opener (40 ∷ 63 ∷ 60 ∷ (name ++ 62 ∷ a)) a x (with_named_group x)
  modifiers : {a b : Text} {x : Forms} → Modifiers a b → Opener (40 ∷ 63 ∷ a) b x x

-- any character but a backslash, `[`, `(` and `)`
abbrev pub is_other : ℕ → Bool
is_other c = not (nat_eq c 92) && not (nat_eq c 91) && not (nat_eq c 40) && not (nat_eq c 41)

-- a list of items; an opener, the items behind it and the `)` that closes it are a group
pub data Items (m : Mode) : Text → Text → Forms → Forms → Type 0 where
  no_item : {a : Text} {x : Forms} → Items m a a x x
  item_escape : {a b c : Text} {x y z : Forms} → Escape m a b x y → Items m b c y z → Items m a c x z
  item_class : {a b c : Text} {x y z : Forms} → Parts m a (93 ∷ b) x y → Items m b c y z → Items m (91 ∷ a) c x z
  item_group : {a b c d : Text} {x y z w : Forms} → Opener a b x y → Items m b (41 ∷ c) y z → Items m c d z w → Items m a d x w
  item_other : {c : ℕ} {a b : Text} {x y : Forms} → is_other c ≡ true → Items m a b x y → Items m (c ∷ a) b x y

-- The text is a pattern in which exactly these forms occur.
abbrev pub IsPattern : Mode → Text → Forms → Type 0
IsPattern m text forms = Items m text [] none forms
