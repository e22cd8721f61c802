-- What Babel's options come to.
use Rattle.std.specs.Prelude.{◌≡◌, ◌≢◌, ℕ, List, [], ◌++◌, Bool, true, false, Option, None, Some, if◌then◌else◌}
use Rattle.transform_targets.specs.declared.feature.ESFeature.{ESFeature}
use Rattle.transform_targets.specs.declared.feature_table.Support.{Support}
use Rattle.transform_targets.specs.Targets.{has_feature}
use Rattle.babel_options.specs.Sources.{source_of, by_source}
use Rattle.transform_options.specs.declared.common.helper_loader.HelperLoaderMode.{HelperLoaderMode}
use Rattle.transform_options.specs.declared.common.helper_loader.HelperLoaderMode.TheVariants.{Runtime, External}
use Rattle.transform_options.specs.declared.options.TransformOptions.{TransformOptions}
use Rattle.babel_options.specs.declared.babel.BabelOptions.{BabelOptions}
use Rattle.babel_options.specs.declared.env.BabelEnvOptions.{BabelEnvOptions}
use Rattle.babel_options.specs.declared.env.BabelModule.{BabelModule}
use Rattle.babel_options.specs.declared.env.BabelModule.TheVariants.{Auto, Amd, Umd, Systemjs, Commonjs, Boolean}
use Rattle.babel_options.specs.declared.plugins.BabelPlugins.{BabelPlugins}
use Rattle.transform_options.specs.declared.options.env.EnvOptions.{EnvOptions}
use Rattle.babel_options.specs.declared.fault.OptionsFault.{OptionsFault}
use Rattle.babel_options.specs.declared.fault.OptionsFault.TheVariants.{Refused, NoMemory}
use Rattle.transform_options.specs.declared.options.module.Module.{Module}
use Rattle.transform_options.specs.declared.options.module.Module.TheVariants.{Preserve, CommonJS}
use Rattle.transform_options.specs.Switches.{Follows}

abbrev pub module_of : BabelModule → Option Module
module_of Auto = Some Preserve
module_of Amd = None
module_of Umd = None
module_of Systemjs = None
module_of Commonjs = Some CommonJS
module_of (Boolean true) = None
module_of (Boolean false) = Some Preserve

abbrev pub module_of_plugins : BabelPlugins → Option Module
module_of_plugins plugins = if plugins.modules_commonjs then Some CommonJS else None

-- what the targets of the preset lack
abbrev pub is_in_preset : Option BabelEnvOptions → List Support → ESFeature → Bool
is_in_preset None table feature = false
is_in_preset (Some env) table feature = has_feature env.targets table feature

abbrev pub is_asked : BabelPlugins → Option BabelEnvOptions → List Support → ESFeature → Bool
is_asked plugins env table feature = by_source (source_of feature) plugins (is_in_preset env table feature)

abbrev pub helper_mode : Bool → HelperLoaderMode
helper_mode true = External
helper_mode false = Runtime

abbrev pub errors_of : BabelOptions → List (List ℕ)
errors_of options = options.plugins.errors.items ++ options.presets.errors.items

abbrev pub form_of : Option Module → Module
form_of None = Preserve
form_of (Some form) = form

pub record IsEnvOf (options : BabelOptions) (table : List Support) (env : EnvOptions) : Type 0 where
  pub switches : Follows env (is_asked options.plugins options.presets.env table)
  -- the preset's `modules` has no part in it
  pub form : env.module ≡ form_of (module_of_plugins options.plugins)

pub record IsMadeOf (options : BabelOptions) (table : List Support) (made : TransformOptions) : Type 0 where
  pub sound : errors_of options ≡ []
  pub env : IsEnvOf options table made.env
  pub cwd : made.cwd ≡ options.cwd
  pub helpers : made.helper_mode ≡ helper_mode options.external_helpers

-- these errors, of which there is one at least; or want of memory
abbrev pub Refuses : List (List ℕ) → OptionsFault → Type 0
Refuses all (Refused errors) = (errors.items ≡ all) × (all ≢ [])
Refuses all NoMemory = Unit {0}
