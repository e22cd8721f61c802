-- What the value of the preset `env` comes to.
use Rattle.std.specs.Prelude.{ℕ, List, [], ◌∷◌, Bool, true, false, ◌&&◌, nat_lt, if◌then◌else◌, Option, None, Some, option_and_then, codes}
use Rattle.std.specs.List.{filter_map, list_all}
use Rattle.std.specs.Result.{result_ok}
use Rattle.std.specs.Option.{is_some, option_map_or}
use Rattle.std.specs.Str.{bytes_eq}
use Rattle.serde_json.specs.Data.{Data, Items, Members, no_members, member}
use Rattle.serde_json.specs.Find.{as_array, as_bool, as_number, as_object, as_str, as_u64}
use Rattle.babel_values.specs.Entries.{list_of, option_of, value_of}
use Rattle.babel_values.specs.Members.{flag, is_flag, is_text_or_null, text}
use Rattle.babel_options.specs.Plugins.{Text, is_one_of}
use Rattle.babel_options.specs.declared.env.BabelEnvOptions.{BabelEnvOptions}
use Rattle.babel_options.specs.declared.env.BabelModule.{BabelModule}
use Rattle.babel_options.specs.declared.env.BabelModule.TheVariants.{Auto, Commonjs, Boolean}
use Rattle.transform_targets.specs.declared.engine.Engine.{Engine}
use Rattle.transform_targets.specs.declared.engine_targets.EngineTargets.{EngineTargets}
use Rattle.transform_targets.specs.declared.version.Version.{Version}
use Rattle.transform_targets.specs.Targets.{no_targets, with_version}
use Rattle.transform_targets.specs.Words.{engine_of, look_up, targets_of, version_in, words_of}

-- ---- members

abbrev pub flag_names : List Text
flag_names = codes "bugfixes" ∷ codes "spec" ∷ codes "loose" ∷ codes "debug" ∷ codes "forceAllTransforms"
    ∷ codes "ignoreBrowserslistConfig" ∷ codes "shippedProposals" ∷ []

-- members that are read apart, or not kept
abbrev pub other_names : List Text
other_names = codes "targets" ∷ codes "modules" ∷ codes "include" ∷ codes "exclude" ∷ codes "useBuiltIns"
    ∷ codes "corejs" ∷ []

-- the name is listed, and the value is the bool or text that it asks for
abbrev pub is_right : Text → Data → Bool
is_right name value = if is_one_of name flag_names then is_flag (Some value)
    else (if bytes_eq name (codes "configPath") then is_text_or_null (Some value) else is_one_of name other_names)

abbrev pub are_right : Members → Bool
are_right no_members = true
are_right (member name value members) = is_right name value && are_right members

abbrev pub is_right_object : Option Data → Bool
is_right_object None = true
is_right_object (Some value) = option_map_or are_right (as_object value) false

-- ---- targets

abbrev pub version_by : Option Text → Option ℕ → Option Version
version_by (Some text) number = version_in text
version_by None None = None
version_by None (Some number) =
    if nat_lt number 4294967296 then Some record { major = number; minor = 0; patch = 0 } else None

-- a version's text, or a whole number
abbrev pub version_of : Data → Option Version
version_of value = version_by (as_str value) (option_and_then as_u64 (as_number value))

abbrev pub with_engine : Option Engine → Option Version → EngineTargets → Option EngineTargets
with_engine (Some engine) (Some version) targets = Some (with_version engine version targets)
with_engine _ _ targets = None

-- engines, each with its version
abbrev pub with_engines : Option EngineTargets → Members → Option EngineTargets
with_engines None _ = None
with_engines (Some targets) no_members = Some targets
with_engines (Some targets) (member name value members) =
    with_engines (with_engine (engine_of name) (version_of value) targets) members

abbrev pub is_string : Data → Bool
is_string value = is_some (as_str value)

abbrev pub targets_in_list : List Data → Option EngineTargets
targets_in_list items = if list_all is_string items then result_ok (targets_of (filter_map as_str items)) else None

abbrev pub targets_by : Option Text → Option Items → Option Members → Option EngineTargets
targets_by (Some text) items members = result_ok (targets_of (words_of text))
targets_by None (Some items) members = targets_in_list (list_of items)
targets_by None None (Some members) = with_engines (Some no_targets) members
targets_by None None None = None

-- a text of words, a list of words, or an object of engines
abbrev pub targets_in : Option Data → Option EngineTargets
targets_in None = Some no_targets
targets_in (Some value) = targets_by (as_str value) (as_array value) (as_object value)

-- ---- modules

abbrev pub module_names : List (Text × BabelModule)
module_names = (codes "auto", Auto) ∷ (codes "commonjs", Commonjs) ∷ (codes "cjs", Commonjs) ∷ []

abbrev pub module_by : Option Text → Option Bool → Option BabelModule
module_by (Some text) flag = look_up text module_names
module_by None None = None
module_by None (Some true) = None
module_by None (Some false) = Some (Boolean false)

abbrev pub module_in : Option Data → Option BabelModule
module_in None = Some Auto
module_in (Some value) = module_by (as_str value) (as_bool value)

-- ---- the whole

abbrev pub env_with : Option EngineTargets → Option BabelModule → Data → Option BabelEnvOptions
env_with (Some targets) (Some modules) item = Some record {
  targets = targets;
  bugfixes = flag true (option_of (codes "bugfixes") item);
  spec = flag false (option_of (codes "spec") item);
  loose = flag false (option_of (codes "loose") item);
  modules = modules;
  debug = flag false (option_of (codes "debug") item);
  force_all_transforms = flag false (option_of (codes "forceAllTransforms") item);
  config_path = text (option_of (codes "configPath") item);
  ignore_browserslist_config = flag false (option_of (codes "ignoreBrowserslistConfig") item);
  shipped_proposals = flag false (option_of (codes "shippedProposals") item);
}
env_with _ _ item = None

-- what the entry's value comes to, if it is right
unfoldable pub env_of : Data → Option BabelEnvOptions
env_of item = if is_right_object (value_of item)
    then env_with (targets_in (option_of (codes "targets") item)) (module_in (option_of (codes "modules") item)) item
    else None
