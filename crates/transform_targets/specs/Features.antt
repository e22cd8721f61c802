-- The editions that brought the features, and the table of which engine has them since when.
use Rattle.std.specs.Prelude.{ℕ, List, Bool, true, Option, None, Some, option_map, ◌==◌, ◌&&◌, nat_lt, reverse}
use Rattle.std.specs.List.{find}
use Rattle.transform_targets.specs.declared.engine.Engine.{Engine}
use Rattle.transform_targets.specs.declared.engine.Engine.TheVariants.{Chrome, Deno, Edge, Firefox, Hermes, Ie, Ios, Node, Opera, Rhino, Safari, Es}
use Rattle.transform_targets.specs.declared.feature.ESFeature.{ESFeature}
use Rattle.transform_targets.specs.declared.feature.ESFeature.TheVariants.{ES2026ExplicitResourceManagement, ES2022ClassStaticBlock, ES2022ClassProperties, ES2022TopLevelAwait, ES2021LogicalAssignmentOperators, ES2020ExportNamespaceFrom, ES2020NullishCoalescingOperator, ES2020OptionalChaining, ES2020BigInt, ES2020ArbitraryModuleNamespaceNames, ES2019OptionalCatchBinding, ES2018ObjectRestSpread, ES2018AsyncGeneratorFunctions, ES2017AsyncToGenerator, ES2016ExponentiationOperator, ES2015ArrowFunctions, ES2015StickyRegex, ES2015UnicodeRegex, ES2018DotallRegex, ES2018LookbehindRegex, ES2018NamedCapturingGroupsRegex, ES2018UnicodePropertyRegex, ES2022MatchIndicesRegex, ES2024UnicodeSetsRegex}
use Rattle.transform_targets.specs.declared.feature_table.Support.{Support}
use Rattle.transform_targets.specs.declared.version.Version.{Version}
use Rattle.transform_targets.specs.Versions.{is_below}

-- the edition that brought the feature, as its name says
abbrev pub year : ESFeature → ℕ
year ES2026ExplicitResourceManagement = 2026
year ES2022ClassStaticBlock = 2022
year ES2022ClassProperties = 2022
year ES2022TopLevelAwait = 2022
year ES2021LogicalAssignmentOperators = 2021
year ES2020ExportNamespaceFrom = 2020
year ES2020NullishCoalescingOperator = 2020
year ES2020OptionalChaining = 2020
year ES2020BigInt = 2020
year ES2020ArbitraryModuleNamespaceNames = 2020
year ES2019OptionalCatchBinding = 2019
year ES2018ObjectRestSpread = 2018
year ES2018AsyncGeneratorFunctions = 2018
year ES2017AsyncToGenerator = 2017
year ES2016ExponentiationOperator = 2016
year ES2015ArrowFunctions = 2015
year ES2015StickyRegex = 2015
year ES2015UnicodeRegex = 2015
year ES2018DotallRegex = 2018
year ES2018LookbehindRegex = 2018
year ES2018NamedCapturingGroupsRegex = 2018
year ES2018UnicodePropertyRegex = 2018
year ES2022MatchIndicesRegex = 2022
year ES2024UnicodeSetsRegex = 2024

-- the place of a feature among all, and of an engine
abbrev pub feature_place : ESFeature → ℕ
feature_place ES2026ExplicitResourceManagement = 0
feature_place ES2022ClassStaticBlock = 1
feature_place ES2022ClassProperties = 2
feature_place ES2022TopLevelAwait = 3
feature_place ES2021LogicalAssignmentOperators = 4
feature_place ES2020ExportNamespaceFrom = 5
feature_place ES2020NullishCoalescingOperator = 6
feature_place ES2020OptionalChaining = 7
feature_place ES2020BigInt = 8
feature_place ES2020ArbitraryModuleNamespaceNames = 9
feature_place ES2019OptionalCatchBinding = 10
feature_place ES2018ObjectRestSpread = 11
feature_place ES2018AsyncGeneratorFunctions = 12
feature_place ES2017AsyncToGenerator = 13
feature_place ES2016ExponentiationOperator = 14
feature_place ES2015ArrowFunctions = 15
feature_place ES2015StickyRegex = 16
feature_place ES2015UnicodeRegex = 17
feature_place ES2018DotallRegex = 18
feature_place ES2018LookbehindRegex = 19
feature_place ES2018NamedCapturingGroupsRegex = 20
feature_place ES2018UnicodePropertyRegex = 21
feature_place ES2022MatchIndicesRegex = 22
feature_place ES2024UnicodeSetsRegex = 23

abbrev pub engine_place : Engine → ℕ
engine_place Chrome = 0
engine_place Deno = 1
engine_place Edge = 2
engine_place Firefox = 3
engine_place Hermes = 4
engine_place Ie = 5
engine_place Ios = 6
engine_place Node = 7
engine_place Opera = 8
engine_place Rhino = 9
engine_place Safari = 10
engine_place Es = 11

abbrev pub is_of : ESFeature → Engine → Support → Bool
is_of feature engine entry =
    (feature_place entry.feature == feature_place feature) && (engine_place entry.engine == engine_place engine)

-- from which version on the engine has the feature, by the last entry of the two
abbrev pub since : List Support → ESFeature → Engine → Option Version
since entries feature engine = option_map (λ entry. entry.since) (find (is_of feature engine) (reverse entries))

-- a version lacks what came later, and what no version has
abbrev pub is_before : Version → Option Version → Bool
is_before version None = true
is_before version (Some since) = is_below version since

-- An edition lacks what a later edition brought. An engine lacks what the table gives to later versions alone.
abbrev pub is_lacking : List Support → ESFeature → Engine → Version → Bool
is_lacking table feature Es version = nat_lt version.major (year feature)
is_lacking table feature engine version = is_before version (since table feature engine)
