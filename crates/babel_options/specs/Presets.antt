-- What the entries of `presets` come to.
use Rattle.std.specs.Prelude.{◌≡◌, List, [], ◌∷◌, Bool, ◌&&◌, Option, None, Some, is_none, option_and_then, if◌then◌else◌, codes}
use Rattle.std.specs.List.{filter_map}
use Rattle.serde_json.specs.Data.{Data}
use Rattle.babel_values.specs.Entries.{entries_in, is_named, last_entry, name_of}
use Rattle.babel_options.specs.Env.{env_of}
use Rattle.babel_options.specs.Plugins.{Text, has, is_one_of}
use Rattle.babel_options.specs.declared.presets.BabelPresets.{BabelPresets}

abbrev pub known_names : List Text
known_names = codes "env" ∷ codes "react" ∷ codes "typescript" ∷ []

abbrev pub unless_known : Option Text → Option Text
unless_known None = None
unless_known (Some name) = if is_one_of name known_names then None else Some name

-- the names that no preset has
abbrev pub unsupported : List Data → List Text
unsupported items = filter_map (λ item. unless_known (name_of item)) items

abbrev pub is_wrong_env : Data → Bool
is_wrong_env item = is_named (codes "env") item && is_none (env_of item)

-- one error for each entry `env` with a wrong value
abbrev pub env_error : Data → Option Text
env_error item = if is_wrong_env item then Some (codes "env: wrong value") else None

abbrev pub env_errors : List Data → List Text
env_errors items = filter_map env_error items

pub record IsPresetsOf (items : List Data) (presets : BabelPresets) : Type 0 where
  pub errors : presets.errors.items ≡ env_errors items
  pub unsupported_are : presets.unsupported.items ≡ unsupported items
  pub env : presets.env ≡ option_and_then env_of (last_entry (codes "env") items)
  pub jsx : presets.jsx ≡ has (codes "react") items
  pub typescript : presets.typescript ≡ has (codes "typescript") items

pub record ReadsPresets (value : Data) (presets : BabelPresets) : Type 0 where
  pub items : List Data
  pub are_entries : entries_in value ≡ Some items
  pub read : IsPresetsOf items presets

-- why the value of `presets` is refused, if it is
abbrev pub presets_error_in : Option (List Data) → Option Text
presets_error_in None = Some (codes "presets: wrong shape")
presets_error_in (Some items) = None

abbrev pub presets_error : Data → Option Text
presets_error value = presets_error_in (entries_in value)
