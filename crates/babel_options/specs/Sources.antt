-- What of Babel's options turns the lowering of each feature on: a plugin, the preset `env`, or either.
use Rattle.std.specs.Prelude.{List, ℕ, Bool, false, ◌||◌, Option, None, Some, codes}
use Rattle.transform_targets.specs.declared.feature.ESFeature.{ESFeature}
use Rattle.transform_targets.specs.declared.feature.ESFeature.TheVariants.{ES2026ExplicitResourceManagement, ES2022ClassStaticBlock, ES2022ClassProperties, ES2022TopLevelAwait, ES2021LogicalAssignmentOperators, ES2020ExportNamespaceFrom, ES2020NullishCoalescingOperator, ES2020OptionalChaining, ES2020BigInt, ES2020ArbitraryModuleNamespaceNames, ES2019OptionalCatchBinding, ES2018ObjectRestSpread, ES2018AsyncGeneratorFunctions, ES2017AsyncToGenerator, ES2016ExponentiationOperator, ES2015ArrowFunctions, ES2015StickyRegex, ES2015UnicodeRegex, ES2018DotallRegex, ES2018LookbehindRegex, ES2018NamedCapturingGroupsRegex, ES2018UnicodePropertyRegex, ES2022MatchIndicesRegex, ES2024UnicodeSetsRegex}
use Rattle.babel_options.specs.declared.plugins.BabelPlugins.{BabelPlugins}

-- the plugin's entry, with the field that it sets, and whether the feature is lowered for it or for the preset `env`
pub data Source : Type 0 where
  either : List ℕ → (BabelPlugins → Bool) → Source
  plugin_alone : List ℕ → (BabelPlugins → Bool) → Source
  -- the entry sets its field, and the preset decides
  preset_beside : List ℕ → (BabelPlugins → Bool) → Source
  preset_alone : Source

abbrev pub source_of : ESFeature → Source
source_of ES2026ExplicitResourceManagement = plugin_alone (codes "transform-explicit-resource-management") (λ p. p.explicit_resource_management)
source_of ES2022ClassStaticBlock = either (codes "transform-class-static-block") (λ p. p.class_static_block)
source_of ES2022ClassProperties = either (codes "transform-class-properties") (λ p. p.class_properties)
source_of ES2022TopLevelAwait = preset_alone
source_of ES2021LogicalAssignmentOperators = either (codes "transform-logical-assignment-operators") (λ p. p.logical_assignment_operators)
source_of ES2020ExportNamespaceFrom = either (codes "transform-export-namespace-from") (λ p. p.export_namespace_from)
source_of ES2020NullishCoalescingOperator = either (codes "transform-nullish-coalescing-operator") (λ p. p.nullish_coalescing_operator)
source_of ES2020OptionalChaining = either (codes "transform-optional-chaining") (λ p. p.optional_chaining)
source_of ES2020BigInt = preset_alone
source_of ES2020ArbitraryModuleNamespaceNames = preset_alone
source_of ES2019OptionalCatchBinding = either (codes "transform-optional-catch-binding") (λ p. p.optional_catch_binding)
source_of ES2018ObjectRestSpread = either (codes "transform-object-rest-spread") (λ p. p.object_rest_spread)
source_of ES2018AsyncGeneratorFunctions = either (codes "transform-async-generator-functions") (λ p. p.async_generator_functions)
source_of ES2017AsyncToGenerator = either (codes "transform-async-to-generator") (λ p. p.async_to_generator)
source_of ES2016ExponentiationOperator = either (codes "transform-exponentiation-operator") (λ p. p.exponentiation_operator)
source_of ES2015ArrowFunctions = either (codes "transform-arrow-functions") (λ p. p.arrow_function)
source_of ES2015StickyRegex = either (codes "transform-sticky-regex") (λ p. p.sticky_flag)
source_of ES2015UnicodeRegex = either (codes "transform-unicode-regex") (λ p. p.unicode_flag)
source_of ES2018DotallRegex = either (codes "transform-dotall-regex") (λ p. p.dot_all_flag)
source_of ES2018LookbehindRegex = either (codes "esbuild-regexp-lookbehind-assertions") (λ p. p.look_behind_assertions)
source_of ES2018NamedCapturingGroupsRegex = either (codes "transform-named-capturing-groups-regex") (λ p. p.named_capture_groups)
source_of ES2018UnicodePropertyRegex = either (codes "transform-unicode-property-regex") (λ p. p.unicode_property_escapes)
source_of ES2022MatchIndicesRegex = preset_beside (codes "esbuild-regexp-match-indices") (λ p. p.match_indices)
source_of ES2024UnicodeSetsRegex = either (codes "transform-unicode-sets-regex") (λ p. p.set_notation)

-- the entry of the plugin that has the feature lowered
abbrev pub entry_of : Source → Option (List ℕ)
entry_of (either entry field) = Some entry
entry_of (plugin_alone entry field) = Some entry
entry_of (preset_beside entry field) = Some entry
entry_of preset_alone = None

-- the field of the plugin that has the feature lowered
abbrev pub is_set : Source → BabelPlugins → Bool
is_set (either entry field) plugins = field plugins
is_set (plugin_alone entry field) plugins = field plugins
is_set (preset_beside entry field) plugins = field plugins
is_set preset_alone plugins = false

-- whether the switch is on, by the plugins and by what the preset has
abbrev pub by_source : Source → BabelPlugins → Bool → Bool
by_source (either entry field) plugins preset = field plugins || preset
by_source (plugin_alone entry field) plugins preset = field plugins
by_source (preset_beside entry field) plugins preset = preset
by_source preset_alone plugins preset = preset
