-- The table of switches: for each feature the switch that has it lowered, its name, whether it is ready, and the
-- `Switch` that stands for it where a tree with the feature can be refused.
use Rattle.std.specs.Prelude.{◌≡◌, List, ℕ, Bool, true, false, Option, None, Some, codes}
use Rattle.transform_targets.specs.declared.feature.ESFeature.{ESFeature}
use Rattle.transform_targets.specs.declared.feature.ESFeature.TheVariants.{ES2026ExplicitResourceManagement, ES2022ClassStaticBlock, ES2022ClassProperties, ES2022TopLevelAwait, ES2021LogicalAssignmentOperators, ES2020ExportNamespaceFrom, ES2020NullishCoalescingOperator, ES2020OptionalChaining, ES2020BigInt, ES2020ArbitraryModuleNamespaceNames, ES2019OptionalCatchBinding, ES2018ObjectRestSpread, ES2018AsyncGeneratorFunctions, ES2017AsyncToGenerator, ES2016ExponentiationOperator, ES2015ArrowFunctions, ES2015StickyRegex, ES2015UnicodeRegex, ES2018DotallRegex, ES2018LookbehindRegex, ES2018NamedCapturingGroupsRegex, ES2018UnicodePropertyRegex, ES2022MatchIndicesRegex, ES2024UnicodeSetsRegex}
use Rattle.transform_options.specs.declared.options.env.EnvOptions.{EnvOptions}
use Rattle.transform_options.specs.declared.switch.Switch.{Switch}
use Rattle.transform_options.specs.declared.switch.Switch.TheVariants.{ClassStaticBlock, ClassProperties, LogicalAssignmentOperators, ExportNamespaceFrom, NullishCoalescingOperator, OptionalChaining, OptionalCatchBinding, ObjectRestSpread, AsyncGeneratorFunctions, AsyncToGenerator, ExponentiationOperator, ArrowFunction}

-- whether all that is ready has the switch on
pub data Readiness : Type 0 where
  ready : Readiness
  -- with the unfinished ones alone
  unfinished : Readiness
  never : Readiness

pub record Row : Type 0 where
  pub name : List ℕ
  pub switch : EnvOptions → Bool
  pub readiness : Readiness
  pub form : Option Switch

abbrev pub row : ESFeature → Row
row ES2026ExplicitResourceManagement = record
    { name = codes "es2026.explicit_resource_management"; switch = λ e. e.es2026.explicit_resource_management; readiness = ready; form = None }
row ES2022ClassStaticBlock = record
    { name = codes "es2022.class_static_block"; switch = λ e. e.es2022.class_static_block; readiness = ready; form = Some ClassStaticBlock }
row ES2022ClassProperties = record
    { name = codes "es2022.class_properties"; switch = λ e. e.es2022.class_properties; readiness = ready; form = Some ClassProperties }
row ES2022TopLevelAwait = record
    { name = codes "es2022.top_level_await"; switch = λ e. e.es2022.top_level_await; readiness = never; form = None }
row ES2021LogicalAssignmentOperators = record
    { name = codes "es2021.logical_assignment_operators"; switch = λ e. e.es2021.logical_assignment_operators; readiness = ready; form = Some LogicalAssignmentOperators }
row ES2020ExportNamespaceFrom = record
    { name = codes "es2020.export_namespace_from"; switch = λ e. e.es2020.export_namespace_from; readiness = ready; form = Some ExportNamespaceFrom }
row ES2020NullishCoalescingOperator = record
    { name = codes "es2020.nullish_coalescing_operator"; switch = λ e. e.es2020.nullish_coalescing_operator; readiness = ready; form = Some NullishCoalescingOperator }
row ES2020OptionalChaining = record
    { name = codes "es2020.optional_chaining"; switch = λ e. e.es2020.optional_chaining; readiness = ready; form = Some OptionalChaining }
row ES2020BigInt = record
    { name = codes "es2020.big_int"; switch = λ e. e.es2020.big_int; readiness = never; form = None }
row ES2020ArbitraryModuleNamespaceNames = record
    { name = codes "es2020.arbitrary_module_namespace_names"; switch = λ e. e.es2020.arbitrary_module_namespace_names; readiness = never; form = None }
row ES2019OptionalCatchBinding = record
    { name = codes "es2019.optional_catch_binding"; switch = λ e. e.es2019.optional_catch_binding; readiness = ready; form = Some OptionalCatchBinding }
row ES2018ObjectRestSpread = record
    { name = codes "es2018.object_rest_spread"; switch = λ e. e.es2018.object_rest_spread; readiness = ready; form = Some ObjectRestSpread }
row ES2018AsyncGeneratorFunctions = record
    { name = codes "es2018.async_generator_functions"; switch = λ e. e.es2018.async_generator_functions; readiness = ready; form = Some AsyncGeneratorFunctions }
row ES2017AsyncToGenerator = record
    { name = codes "es2017.async_to_generator"; switch = λ e. e.es2017.async_to_generator; readiness = ready; form = Some AsyncToGenerator }
row ES2016ExponentiationOperator = record
    { name = codes "es2016.exponentiation_operator"; switch = λ e. e.es2016.exponentiation_operator; readiness = ready; form = Some ExponentiationOperator }
row ES2015ArrowFunctions = record
    { name = codes "es2015.arrow_function"; switch = λ e. e.es2015.arrow_function; readiness = unfinished; form = Some ArrowFunction }
row ES2015StickyRegex = record
    { name = codes "regexp.sticky_flag"; switch = λ e. e.regexp.sticky_flag; readiness = ready; form = None }
row ES2015UnicodeRegex = record
    { name = codes "regexp.unicode_flag"; switch = λ e. e.regexp.unicode_flag; readiness = ready; form = None }
row ES2018DotallRegex = record
    { name = codes "regexp.dot_all_flag"; switch = λ e. e.regexp.dot_all_flag; readiness = ready; form = None }
row ES2018LookbehindRegex = record
    { name = codes "regexp.look_behind_assertions"; switch = λ e. e.regexp.look_behind_assertions; readiness = ready; form = None }
row ES2018NamedCapturingGroupsRegex = record
    { name = codes "regexp.named_capture_groups"; switch = λ e. e.regexp.named_capture_groups; readiness = ready; form = None }
row ES2018UnicodePropertyRegex = record
    { name = codes "regexp.unicode_property_escapes"; switch = λ e. e.regexp.unicode_property_escapes; readiness = ready; form = None }
row ES2022MatchIndicesRegex = record
    { name = codes "regexp.match_indices"; switch = λ e. e.regexp.match_indices; readiness = ready; form = None }
row ES2024UnicodeSetsRegex = record
    { name = codes "regexp.set_notation"; switch = λ e. e.regexp.set_notation; readiness = ready; form = None }

-- the switches that are on are those of the features chosen
pub record Follows (env : EnvOptions) (chosen : ESFeature → Bool) : Type 0 where
  pub at : (feature : ESFeature) → (row feature).switch env ≡ chosen feature

abbrev pub is_ready : Bool → Readiness → Bool
is_ready include_unfinished ready = true
is_ready include_unfinished unfinished = include_unfinished
is_ready include_unfinished never = false

abbrev pub is_enabled : Bool → ESFeature → Bool
is_enabled include_unfinished feature = is_ready include_unfinished (row feature).readiness

-- the feature that the switch has lowered
abbrev pub feature_of : Switch → ESFeature
feature_of ClassStaticBlock = ES2022ClassStaticBlock
feature_of ClassProperties = ES2022ClassProperties
feature_of LogicalAssignmentOperators = ES2021LogicalAssignmentOperators
feature_of ExportNamespaceFrom = ES2020ExportNamespaceFrom
feature_of NullishCoalescingOperator = ES2020NullishCoalescingOperator
feature_of OptionalChaining = ES2020OptionalChaining
feature_of OptionalCatchBinding = ES2019OptionalCatchBinding
feature_of ObjectRestSpread = ES2018ObjectRestSpread
feature_of AsyncGeneratorFunctions = ES2018AsyncGeneratorFunctions
feature_of AsyncToGenerator = ES2017AsyncToGenerator
feature_of ExponentiationOperator = ES2016ExponentiationOperator
feature_of ArrowFunction = ES2015ArrowFunctions

abbrev pub row_of : Switch → Row
row_of switch = row (feature_of switch)
