-- Options that are made of targets, and what stands beside the switches in options that are made of switches alone.
use Rattle.std.specs.Prelude.{◌≡◌, List, None, Result, Ok}
use Rattle.transform_options.specs.declared.common.helper_loader.HelperLoaderMode.TheVariants.{Runtime}
use Rattle.transform_options.specs.declared.options.TransformOptions.{TransformOptions}
use Rattle.transform_options.specs.declared.options.env.EnvOptions.{EnvOptions}
use Rattle.transform_options.specs.declared.options.module.Module.TheVariants.{Preserve}
use Rattle.transform_options.specs.Switches.{Follows}
use Rattle.transform_targets.specs.Targets.{has_feature}
use Rattle.transform_targets.specs.declared.engine_targets.EngineTargets.{EngineTargets}
use Rattle.transform_targets.specs.declared.feature_table.Support.{Support}
use Rattle.transform_targets.specs.declared.target_fault.TargetFault.{TargetFault}

-- words name targets, and the switches are those of the features that some of these lacks
pub record IsFor (named : Result EngineTargets TargetFault) (table : List Support) (env : EnvOptions) : Type 0 where
  pub targets : EngineTargets
  pub are_named : named ≡ Ok targets
  pub switches : Follows env (has_feature targets table)
  pub preserved : env.module ≡ Preserve

pub record IsPlain (options : TransformOptions) : Type 0 where
  pub cwd : options.cwd ≡ None
  pub preserved : options.env.module ≡ Preserve
  pub helper_mode : options.helper_mode ≡ Runtime
