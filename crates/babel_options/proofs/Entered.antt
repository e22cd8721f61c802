-- Plugins whose fields are set part by part have those of the features chosen.
use Rattle.std.proofs.Common.{◌≡◌, List, refl}
use Rattle.serde_json.specs.Data.{Data}
use Rattle.transform_targets.specs.declared.feature.ESFeature.{ESFeature}
use Rattle.transform_targets.specs.declared.feature.ESFeature.TheVariants.{ES2026ExplicitResourceManagement, ES2022ClassStaticBlock, ES2022ClassProperties, ES2022TopLevelAwait, ES2021LogicalAssignmentOperators, ES2020ExportNamespaceFrom, ES2020NullishCoalescingOperator, ES2020OptionalChaining, ES2020BigInt, ES2020ArbitraryModuleNamespaceNames, ES2019OptionalCatchBinding, ES2018ObjectRestSpread, ES2018AsyncGeneratorFunctions, ES2017AsyncToGenerator, ES2016ExponentiationOperator, ES2015ArrowFunctions, ES2015StickyRegex, ES2015UnicodeRegex, ES2018DotallRegex, ES2018LookbehindRegex, ES2018NamedCapturingGroupsRegex, ES2018UnicodePropertyRegex, ES2022MatchIndicesRegex, ES2024UnicodeSetsRegex}
use Rattle.babel_options.specs.declared.plugins.BabelPlugins.{BabelPlugins}
use Rattle.babel_options.specs.PluginParts.{with_newer, with_older, with_regexps}
use Rattle.babel_options.specs.Plugins.{is_entered}
use Rattle.babel_options.specs.Sources.{source_of, is_set}

pub each_set : (items : List Data) (plugins : BabelPlugins) (feature : ESFeature)
    → is_set (source_of feature)
    (with_older (is_entered items) (with_newer (is_entered items) (with_regexps (is_entered items) plugins)))
    ≡ is_entered items feature
each_set items plugins ES2026ExplicitResourceManagement = refl
each_set items plugins ES2022ClassStaticBlock = refl
each_set items plugins ES2022ClassProperties = refl
each_set items plugins ES2022TopLevelAwait = refl
each_set items plugins ES2021LogicalAssignmentOperators = refl
each_set items plugins ES2020ExportNamespaceFrom = refl
each_set items plugins ES2020NullishCoalescingOperator = refl
each_set items plugins ES2020OptionalChaining = refl
each_set items plugins ES2020BigInt = refl
each_set items plugins ES2020ArbitraryModuleNamespaceNames = refl
each_set items plugins ES2019OptionalCatchBinding = refl
each_set items plugins ES2018ObjectRestSpread = refl
each_set items plugins ES2018AsyncGeneratorFunctions = refl
each_set items plugins ES2017AsyncToGenerator = refl
each_set items plugins ES2016ExponentiationOperator = refl
each_set items plugins ES2015ArrowFunctions = refl
each_set items plugins ES2015StickyRegex = refl
each_set items plugins ES2015UnicodeRegex = refl
each_set items plugins ES2018DotallRegex = refl
each_set items plugins ES2018LookbehindRegex = refl
each_set items plugins ES2018NamedCapturingGroupsRegex = refl
each_set items plugins ES2018UnicodePropertyRegex = refl
each_set items plugins ES2022MatchIndicesRegex = refl
each_set items plugins ES2024UnicodeSetsRegex = refl
