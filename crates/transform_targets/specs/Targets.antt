-- Targets: one version for each of some engines, and the features that some of them lacks.
use Rattle.std.specs.Prelude.{ℕ, List, [], ◌∷◌, Bool, false, Option, None, Some}
use Rattle.std.specs.List.{list_any}
use Rattle.transform_targets.specs.declared.engine.Engine.{Engine}
use Rattle.transform_targets.specs.declared.engine.Engine.TheVariants.{Chrome, Deno, Edge, Firefox, Hermes, Ie, Ios, Node, Opera, Rhino, Safari, Es}
use Rattle.transform_targets.specs.declared.engine_targets.EngineTargets.{EngineTargets}
use Rattle.transform_targets.specs.declared.es_target.ESTarget.{ESTarget}
use Rattle.transform_targets.specs.declared.es_target.ESTarget.TheVariants.{ES2015, ES2016, ES2017, ES2018, ES2019, ES2020, ES2021, ES2022, ES2023, ES2024, ES2025, ES2026, ESNext}
use Rattle.transform_targets.specs.declared.feature.ESFeature.{ESFeature}
use Rattle.transform_targets.specs.declared.feature_table.Support.{Support}
use Rattle.transform_targets.specs.declared.version.Version.{Version}
use Rattle.transform_targets.specs.Features.{is_lacking}

-- the year of an edition; that of the next one is behind all
abbrev pub edition_year : ESTarget → ℕ
edition_year ES2015 = 2015
edition_year ES2016 = 2016
edition_year ES2017 = 2017
edition_year ES2018 = 2018
edition_year ES2019 = 2019
edition_year ES2020 = 2020
edition_year ES2021 = 2021
edition_year ES2022 = 2022
edition_year ES2023 = 2023
edition_year ES2024 = 2024
edition_year ES2025 = 2025
edition_year ES2026 = 2026
edition_year ESNext = 4294967295

abbrev pub edition_version : ESTarget → Version
edition_version edition = record { major = edition_year edition; minor = 0; patch = 0 }

abbrev pub engines : List Engine
engines = Chrome ∷ Deno ∷ Edge ∷ Firefox ∷ Hermes ∷ Ie ∷ Ios ∷ Node ∷ Opera ∷ Rhino ∷ Safari ∷ Es ∷ []

abbrev pub no_targets : EngineTargets
no_targets = record {
  chrome = None;
  deno = None;
  edge = None;
  firefox = None;
  hermes = None;
  ie = None;
  ios = None;
  node = None;
  opera = None;
  rhino = None;
  safari = None;
  es = None;
}

abbrev pub version_of : EngineTargets → Engine → Option Version
version_of targets Chrome = targets.chrome
version_of targets Deno = targets.deno
version_of targets Edge = targets.edge
version_of targets Firefox = targets.firefox
version_of targets Hermes = targets.hermes
version_of targets Ie = targets.ie
version_of targets Ios = targets.ios
version_of targets Node = targets.node
version_of targets Opera = targets.opera
version_of targets Rhino = targets.rhino
version_of targets Safari = targets.safari
version_of targets Es = targets.es

-- the targets with this version for this engine, in the place of any that it had
abbrev pub with_version : Engine → Version → EngineTargets → EngineTargets
with_version Chrome version targets = record targets { chrome = Some version }
with_version Deno version targets = record targets { deno = Some version }
with_version Edge version targets = record targets { edge = Some version }
with_version Firefox version targets = record targets { firefox = Some version }
with_version Hermes version targets = record targets { hermes = Some version }
with_version Ie version targets = record targets { ie = Some version }
with_version Ios version targets = record targets { ios = Some version }
with_version Node version targets = record targets { node = Some version }
with_version Opera version targets = record targets { opera = Some version }
with_version Rhino version targets = record targets { rhino = Some version }
with_version Safari version targets = record targets { safari = Some version }
with_version Es version targets = record targets { es = Some version }

abbrev pub is_lacking_at : List Support → ESFeature → Engine → Option Version → Bool
is_lacking_at table feature engine None = false
is_lacking_at table feature engine (Some version) = is_lacking table feature engine version

-- some target lacks the feature, so it has to be lowered
unfoldable pub has_feature : EngineTargets → List Support → ESFeature → Bool
has_feature targets table feature =
    list_any (λ engine. is_lacking_at table feature engine (version_of targets engine)) engines
