-- What the value of Babel's options comes to, and values of several levels.
use Rattle.std.specs.Prelude.{◌≡◌, List, [], ◌∷◌, ◌++◌, Bool, true, false, Option, None, Some, is_some, option_map, option_and_then, unwrap_or, if◌then◌else◌, codes}
use Rattle.std.specs.List.{filter_map, list_all}
use Rattle.std.specs.Option.{option_or}
use Rattle.std.specs.Str.{bytes_eq}
use Rattle.serde_json.specs.Data.{Data, Items, array, boolean, no_items}
use Rattle.serde_json.specs.Find.{as_array, as_bool, as_null, as_object, as_str, get}
use Rattle.babel_values.specs.Entries.{list_of}
use Rattle.babel_values.specs.Members.{flag, is_flag, is_flag_or_null, is_text_or_null, text}
use Rattle.babel_options.specs.Plugins.{Text, ReadsPlugins, plugins_error}
use Rattle.babel_options.specs.Presets.{ReadsPresets, presets_error}
use Rattle.babel_options.specs.declared.babel.BabelOptions.{BabelOptions}
use Rattle.babel_options.specs.declared.babel.TestOs.{TestOs}
use Rattle.babel_options.specs.declared.babel.TestOs.TheVariants.{Linux, Win32, Windows, Darwin}
use Rattle.transform_targets.specs.Words.{look_up}

-- ---- systems

abbrev pub system_names : List (Text × TestOs)
system_names = (codes "linux", Linux) ∷ (codes "win32", Win32) ∷ (codes "windows", Windows) ∷ (codes "darwin", Darwin) ∷ []

abbrev pub system_of : Data → Option TestOs
system_of value = option_and_then (λ name. look_up name system_names) (as_str value)

abbrev pub is_system : Data → Bool
is_system value = is_some (system_of value)

abbrev pub is_os_by : Option Items → Bool → Bool
is_os_by (Some items) is_null = list_all is_system (list_of items)
is_os_by None is_null = is_null

-- a list of systems, null or absent
abbrev pub is_os : Option Data → Bool
is_os None = true
is_os (Some value) = is_os_by (as_array value) (is_some (as_null value))

abbrev pub os_in : Option Data → Option (List TestOs)
os_in member = option_map (λ items. filter_map system_of (list_of items)) (option_and_then as_array member)

-- ---- errors

abbrev pub Shapes : Type 0
Shapes = List (Text × (Option Data → Bool))

abbrev pub flags : Shapes
flags =
    (codes "allowReturnOutsideFunction", is_flag)
    ∷ (codes "allowAwaitOutsideFunction", is_flag)
    ∷ (codes "allowUndeclaredExports", is_flag)
    ∷ (codes "allowNewTargetOutsideFunction", is_flag)
    ∷ (codes "allowSuperOutsideMethod", is_flag)
    ∷ (codes "externalHelpers", is_flag)
    ∷ []

-- the members in order
abbrev pub shapes : Shapes
shapes =
    (codes "cwd", is_text_or_null)
    ∷ (codes "sourceType", is_text_or_null)
    ∷ (codes "throws", is_text_or_null)
    ∷ (codes "BABEL_8_BREAKING", is_flag_or_null)
    ∷ (codes "os", is_os)
    ∷ flags

-- the first member that has another shape
abbrev pub first_misshapen : Shapes → Data → Option Text
first_misshapen [] value = None
first_misshapen (row ∷ rows) value = if row.1 (get row.0 value) then first_misshapen rows value else Some row.0

abbrev pub shape_error : Data → Option Text
shape_error value = option_map (λ name. name ++ codes ": wrong shape") (first_misshapen shapes value)

abbrev pub lists_error : Data → Option Text
lists_error value = option_or (option_and_then plugins_error (get (codes "plugins") value))
    (option_and_then presets_error (get (codes "presets") value))

-- why the value is refused, if it is: for the first wrong member, of which `plugins` and `presets` are the last
abbrev pub options_error : Data → Option Text
options_error value = if is_some (as_object value) then option_or (shape_error value) (lists_error value)
    else Some (codes "options: wrong shape")

-- ---- levels

-- what a level gives, or several levels together
pub record Level : Type 0 where
  -- the members that the first level alone gives
  pub member : Text → Option Data
  pub source_type : Option Text
  pub throws : Option Text
  pub plugins : Option Data
  pub presets : Option Data

abbrev pub level_of : Data → Level
level_of value = record {
  member = λ name. get name value;
  source_type = text (get (codes "sourceType") value);
  throws = text (get (codes "throws") value);
  plugins = get (codes "plugins") value;
  presets = get (codes "presets") value;
}

abbrev pub no_level : Level
no_level = record {
  member = λ name. if bytes_eq name (codes "externalHelpers") then Some (boolean false) else None;
  source_type = None;
  throws = None;
  plugins = None;
  presets = None;
}

-- a level, filled up from a later one
abbrev pub over : Level → Level → Level
over first later = record {
  member = first.member;
  source_type = option_or first.source_type later.source_type;
  throws = option_or first.throws later.throws;
  plugins = option_or first.plugins later.plugins;
  presets = option_or first.presets later.presets;
}

abbrev pub without_lists : Level → Level
without_lists level = record level { plugins = None; presets = None }

abbrev pub both : Option Level → Option Level → Option Level
both None later = later
both (Some first) None = Some first
both (Some first) (Some later) = Some (over first later)

-- where a suite is given, the category's plugins and presets are not used
abbrev pub category_beside : Option Data → Option Level → Option Level
category_beside None category = category
category_beside (Some suite) category = option_map without_lists category

abbrev pub suite_level : Option Data → Option Data → Option Level
suite_level suite category = both (option_map level_of suite) (category_beside suite (option_map level_of category))

abbrev pub merged : Option Data → Option Data → Option Data → Level
merged task suite category = unwrap_or (both (option_map level_of task) (suite_level suite category)) no_level

abbrev pub suite_error : Option Data → Option Data → Option Text
suite_error suite category = option_or (option_and_then options_error suite) (option_and_then options_error category)

-- the error of the first level that is refused
abbrev pub levels_error : Option Data → Option Data → Option Data → Option Text
levels_error task suite category = option_or (option_and_then options_error task) (suite_error suite category)

-- ---- options

abbrev pub or_empty : Option Data → Data
or_empty entries = unwrap_or entries (array no_items)

pub record IsOptionsOf (level : Level) (options : BabelOptions) : Type 0 where
  pub cwd : options.cwd ≡ text (level.member (codes "cwd"))
  pub plugins : ReadsPlugins (or_empty level.plugins) options.plugins
  pub presets : ReadsPresets (or_empty level.presets) options.presets
  pub source_type : options.source_type ≡ level.source_type
  pub throws : options.throws ≡ level.throws
  pub babel_8_breaking : options.babel_8_breaking ≡ option_and_then as_bool (level.member (codes "BABEL_8_BREAKING"))
  pub os : option_map (λ systems. systems.items) options.os ≡ os_in (level.member (codes "os"))
  pub allow_return_outside_function : options.allow_return_outside_function
      ≡ flag false (level.member (codes "allowReturnOutsideFunction"))
  pub allow_await_outside_function : options.allow_await_outside_function
      ≡ flag false (level.member (codes "allowAwaitOutsideFunction"))
  pub allow_undeclared_exports : options.allow_undeclared_exports
      ≡ flag false (level.member (codes "allowUndeclaredExports"))
  pub allow_new_target_outside_function : options.allow_new_target_outside_function
      ≡ flag false (level.member (codes "allowNewTargetOutsideFunction"))
  pub allow_super_outside_method : options.allow_super_outside_method
      ≡ flag false (level.member (codes "allowSuperOutsideMethod"))
  pub external_helpers : options.external_helpers ≡ flag true (level.member (codes "externalHelpers"))

pub record ReadsOptions (value : Data) (options : BabelOptions) : Type 0 where
  pub sound : options_error value ≡ None
  pub read : IsOptionsOf (level_of value) options

pub record MergesOptions (task suite category : Option Data) (options : BabelOptions) : Type 0 where
  pub sound : levels_error task suite category ≡ None
  pub read : IsOptionsOf (merged task suite category) options
