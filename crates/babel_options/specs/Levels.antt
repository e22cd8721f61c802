-- Levels that have been read.
use Rattle.std.specs.Prelude.{◌≡◌, [], Bool, false, true, Option, None, Some, option_map, option_and_then, codes}
use Rattle.std.specs.Option.{option_or}
use Rattle.serde_json.specs.Data.{Data}
use Rattle.serde_json.specs.Find.{as_bool}
use Rattle.babel_values.specs.Members.{flag, text}
use Rattle.babel_options.specs.Options.{Level, os_in}
use Rattle.babel_options.specs.Plugins.{Text, IsPluginsOf, ReadsPlugins}
use Rattle.babel_options.specs.Presets.{IsPresetsOf, ReadsPresets}
use Rattle.babel_options.specs.declared.babel.BabelOptions.{BabelOptions}
use Rattle.babel_options.specs.declared.level.Level as declared
use Rattle.babel_options.specs.declared.level.Settings.{Settings}
use Rattle.babel_options.specs.declared.plugins.BabelPlugins.{BabelPlugins}
use Rattle.babel_options.specs.declared.presets.BabelPresets.{BabelPresets}

pub record AreSettings (member : Text → Option Data) (settings : Settings) : Type 0 where
  pub cwd : settings.cwd ≡ text (member (codes "cwd"))
  pub babel_8_breaking : settings.babel_8_breaking ≡ option_and_then as_bool (member (codes "BABEL_8_BREAKING"))
  pub os : option_map (λ systems. systems.items) settings.os ≡ os_in (member (codes "os"))
  pub allow_return_outside_function : settings.allow_return_outside_function
      ≡ flag false (member (codes "allowReturnOutsideFunction"))
  pub allow_await_outside_function : settings.allow_await_outside_function
      ≡ flag false (member (codes "allowAwaitOutsideFunction"))
  pub allow_undeclared_exports : settings.allow_undeclared_exports
      ≡ flag false (member (codes "allowUndeclaredExports"))
  pub allow_new_target_outside_function : settings.allow_new_target_outside_function
      ≡ flag false (member (codes "allowNewTargetOutsideFunction"))
  pub allow_super_outside_method : settings.allow_super_outside_method
      ≡ flag false (member (codes "allowSuperOutsideMethod"))
  pub external_helpers : settings.external_helpers ≡ flag true (member (codes "externalHelpers"))

abbrev pub ArePlugins : Option Data → Option BabelPlugins → Type 0
ArePlugins given None = given ≡ None
ArePlugins given (Some plugins) = (value : Data) × (given ≡ Some value) × ReadsPlugins value plugins

abbrev pub ArePresets : Option Data → Option BabelPresets → Type 0
ArePresets given None = given ≡ None
ArePresets given (Some presets) = (value : Data) × (given ≡ Some value) × ReadsPresets value presets

pub record IsLevel (level : Level) (read : declared.Level) : Type 0 where
  pub settings : AreSettings level.member read.settings
  pub source_type : read.source_type ≡ level.source_type
  pub throws : read.throws ≡ level.throws
  pub plugins : ArePlugins level.plugins read.plugins
  pub presets : ArePresets level.presets read.presets

abbrev pub AreLevels : Option Level → Option declared.Level → Type 0
AreLevels given None = given ≡ None
AreLevels given (Some read) = (level : Level) × (given ≡ Some level) × IsLevel level read

abbrev pub over : declared.Level → declared.Level → declared.Level
over first later = record {
  settings = first.settings;
  source_type = option_or first.source_type later.source_type;
  throws = option_or first.throws later.throws;
  plugins = option_or first.plugins later.plugins;
  presets = option_or first.presets later.presets;
}

abbrev pub without_lists : declared.Level → declared.Level
without_lists level = record level { plugins = None; presets = None }

abbrev pub both : Option declared.Level → Option declared.Level → Option declared.Level
both None later = later
both (Some first) None = Some first
both (Some first) (Some later) = Some (over first later)

abbrev pub beside_suite : Bool → Option declared.Level → Option declared.Level
beside_suite false category = category
beside_suite true category = option_map without_lists category

abbrev pub OrNoPlugins : Option BabelPlugins → BabelPlugins → Type 0
OrNoPlugins None made = IsPluginsOf [] made
OrNoPlugins (Some plugins) made = made ≡ plugins

abbrev pub OrNoPresets : Option BabelPresets → BabelPresets → Type 0
OrNoPresets None made = IsPresetsOf [] made
OrNoPresets (Some presets) made = made ≡ presets

pub record IsFinished (level : declared.Level) (options : BabelOptions) : Type 0 where
  pub plugins : OrNoPlugins level.plugins options.plugins
  pub presets : OrNoPresets level.presets options.presets
  pub rest : options ≡ record {
    cwd = level.settings.cwd;
    plugins = options.plugins;
    presets = options.presets;
    source_type = level.source_type;
    throws = level.throws;
    babel_8_breaking = level.settings.babel_8_breaking;
    os = level.settings.os;
    allow_return_outside_function = level.settings.allow_return_outside_function;
    allow_await_outside_function = level.settings.allow_await_outside_function;
    allow_undeclared_exports = level.settings.allow_undeclared_exports;
    allow_new_target_outside_function = level.settings.allow_new_target_outside_function;
    allow_super_outside_method = level.settings.allow_super_outside_method;
    external_helpers = level.settings.external_helpers;
  }
