-- Words that name targets: editions, and engines with their versions.
use Rattle.std.specs.Prelude.{◌≡◌, ◌≢◌, ℕ, ◌+◌, ◌-◌, ◌*◌, ◌<◌, ◌≤◌, List, [], ◌∷◌, Bool, true, false, ◌==◌, ◌&&◌, ◌||◌, nat_lt, nat_le, if◌then◌else◌, Option, None, Some, Result, Ok, Err, MatchOption, length, take, drop, codes}
use Rattle.std.specs.List.{list_all, prefix_len, suffix_len, slice_split}
use Rattle.std.specs.Borrow.{Bor}
use Rattle.std.specs.Str.{bytes_eq}
use Rattle.transform_targets.specs.declared.engine.Engine.{Engine}
use Rattle.transform_targets.specs.declared.engine.Engine.TheVariants.{Chrome, Deno, Edge, Firefox, Hermes, Ie, Ios, Node, Opera, Rhino, Safari, Es}
use Rattle.transform_targets.specs.declared.engine_targets.EngineTargets.{EngineTargets}
use Rattle.transform_targets.specs.declared.es_target.ESTarget.{ESTarget}
use Rattle.transform_targets.specs.declared.es_target.ESTarget.TheVariants.{ES2015, ES2016, ES2017, ES2018, ES2019, ES2020, ES2021, ES2022, ES2023, ES2024, ES2025, ES2026, ESNext}
use Rattle.transform_targets.specs.declared.target_fault.TargetFault.{TargetFault}
use Rattle.transform_targets.specs.declared.target_fault.TargetFault.TheVariants as fault
use Rattle.transform_targets.specs.declared.version.Version.{Version}
use Rattle.transform_targets.specs.declared.words.Target.{Target}
use Rattle.transform_targets.specs.Targets.{edition_version, no_targets, version_of, with_version}

abbrev pub Text : Type 0
Text = List ℕ

-- a space or a tab
abbrev pub is_blank : ℕ → Bool
is_blank byte = (byte == 32) || (byte == 9)

abbrev pub trim_front : Text → Text
trim_front text = drop (prefix_len is_blank text) text

abbrev pub trim_back : Text → Text
trim_back text = take (length text - suffix_len is_blank text) text

-- the text without the blanks at its ends
abbrev pub trim : Text → Text
trim text = trim_back (trim_front text)

-- the pieces between these bytes: one more than there are such bytes
abbrev pub cut : ℕ → Text → List Text
cut separator text = slice_split (λ byte. byte == separator) text

-- the value of the first name in a table that is the word
abbrev pub look_up : {X : Type 0} → Text → List (Text × X) → Option X
look_up word [] = None
look_up word (row ∷ rows) = if bytes_eq word row.0 then Some row.1 else look_up word rows

abbrev pub editions : List (Text × ESTarget)
editions =
    (codes "es2015", ES2015)
    ∷ (codes "es2016", ES2016)
    ∷ (codes "es2017", ES2017)
    ∷ (codes "es2018", ES2018)
    ∷ (codes "es2019", ES2019)
    ∷ (codes "es2020", ES2020)
    ∷ (codes "es2021", ES2021)
    ∷ (codes "es2022", ES2022)
    ∷ (codes "es2023", ES2023)
    ∷ (codes "es2024", ES2024)
    ∷ (codes "es2025", ES2025)
    ∷ (codes "es2026", ES2026)
    ∷ (codes "esnext", ESNext)
    ∷ []

abbrev pub edition_of : Text → Option ESTarget
edition_of word = look_up word editions

abbrev pub engine_names : List (Text × Engine)
engine_names =
    (codes "chrome", Chrome)
    ∷ (codes "deno", Deno)
    ∷ (codes "edge", Edge)
    ∷ (codes "firefox", Firefox)
    ∷ (codes "hermes", Hermes)
    ∷ (codes "ie", Ie)
    ∷ (codes "ios", Ios)
    ∷ (codes "node", Node)
    ∷ (codes "opera", Opera)
    ∷ (codes "rhino", Rhino)
    ∷ (codes "safari", Safari)
    ∷ []

abbrev pub engine_of : Text → Option Engine
engine_of name = look_up name engine_names

abbrev pub is_letter : ℕ → Bool
is_letter byte = (nat_le 97 byte && nat_le byte 122) || (nat_le 65 byte && nat_le byte 90)

abbrev pub is_digit : ℕ → Bool
is_digit byte = nat_le 48 byte && nat_le byte 57

-- a decimal integer, without a leading zero
abbrev pub is_decimal : Text → Bool
is_decimal [] = false
is_decimal (byte ∷ []) = is_digit byte
is_decimal (byte ∷ bytes) = (nat_le 49 byte && nat_le byte 57) && list_all is_digit bytes

-- the number that the digits make behind another
abbrev pub value_behind : ℕ → Text → ℕ
value_behind value [] = value
value_behind value (byte ∷ bytes) = value_behind (value * 10 + (byte - 48)) bytes

-- a number of 32 bits
abbrev pub number_of : Text → Option ℕ
number_of text = if is_decimal text && nat_lt (value_behind 0 text) 4294967296 then Some (value_behind 0 text) else None

abbrev pub with_numbers : Option ℕ → Option ℕ → Option ℕ → Option Version
with_numbers (Some major) (Some minor) (Some patch) = Some record { major = major; minor = minor; patch = patch }
with_numbers _ _ _ = None

-- one, two or three numbers
abbrev pub version_of_pieces : List Text → Option Version
version_of_pieces (a ∷ []) = with_numbers (number_of a) (Some 0) (Some 0)
version_of_pieces (a ∷ b ∷ []) = with_numbers (number_of a) (number_of b) (Some 0)
version_of_pieces (a ∷ b ∷ c ∷ []) = with_numbers (number_of a) (number_of b) (number_of c)
version_of_pieces _ = None

-- `A`, `A.B` or `A.B.C`
abbrev pub version_in : Text → Option Version
version_in text = version_of_pieces (cut 46 text)

-- the engine of a word and what stands behind it
abbrev pub letters : Text → Text
letters word = take (prefix_len is_letter word) word

abbrev pub behind_letters : Text → Text
behind_letters word = drop (prefix_len is_letter word) word

abbrev pub target_with : Text → Option Engine → Option Version → Result Target TargetFault
target_with word None version = Err (fault.NoMatch word)
target_with word (Some engine) None = Err (fault.Version word)
target_with word (Some engine) (Some version) = Ok record { engine = engine; version = version }

abbrev pub target_by : Text → Option ESTarget → Result Target TargetFault
target_by word (Some edition) = Ok record { engine = Es; version = edition_version edition }
target_by word None = target_with word (engine_of (letters word)) (version_in (behind_letters word))

-- the target that a word names
unfoldable pub target_of : Text → Result Target TargetFault
target_of word = target_by word (edition_of word)

abbrev pub entered : Text → Target → Option Version → EngineTargets → Result EngineTargets TargetFault
entered word target (Some version) targets = Err (fault.Duplicate word)
entered word target None targets = Ok (with_version target.engine target.version targets)

abbrev pub with_target : Text → Result Target TargetFault → EngineTargets → Result EngineTargets TargetFault
with_target word (Err fault) targets = Err fault
with_target word (Ok target) targets = entered word target (version_of targets target.engine) targets

-- the targets with that of one word more, which stands between blanks
unfoldable pub with_word : Text → EngineTargets → Result EngineTargets TargetFault
with_word text targets = with_target (trim text) (target_of (trim text)) targets

abbrev pub with_words : List Text → Result EngineTargets TargetFault → Result EngineTargets TargetFault
with_words words (Err fault) = Err fault
with_words [] (Ok targets) = Ok targets
with_words (word ∷ words) (Ok targets) = with_words words (with_word word targets)

-- the targets that the words name, or the fault of the first word that has one
abbrev pub targets_of : List Text → Result EngineTargets TargetFault
targets_of words = with_words words (Ok no_targets)

-- the words of a text
abbrev pub words_of : Text → List Text
words_of text = cut 44 text

-- the fault is that of the words, or want of memory
abbrev pub IsFaultOf : {T : Type 0} → Result T TargetFault → TargetFault → Type 0
IsFaultOf expected told = told ≢ fault.NoMemory → expected ≡ Err told

-- the value, where it has 32 bits
abbrev pub IsValue : ℕ → Option ℕ → Type 0
IsValue value None = 4294967296 ≤ value
IsValue value (Some number) = (number ≡ value) × (value < 4294967296)

-- the text is cut at its first such byte, or has none
abbrev pub IsCut : ℕ → Text → Option (Bor Text × Bor Text) → Type 0
IsCut separator text parts = MatchOption parts (cut separator text ≡ text ∷ [])
    (λ x. (cut separator text ≡ x.0.now ∷ cut separator x.1.now) × (length x.1.now < length text))
