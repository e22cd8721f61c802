-- The options of each edition that have the features chosen lowered.
use Rattle.std.specs.Prelude.{Bool}
use Rattle.transform_targets.specs.declared.feature.ESFeature.{ESFeature}
use Rattle.transform_targets.specs.declared.feature.ESFeature.TheVariants.{ES2026ExplicitResourceManagement, ES2022ClassStaticBlock, ES2022ClassProperties, ES2022TopLevelAwait, ES2021LogicalAssignmentOperators, ES2020ExportNamespaceFrom, ES2020NullishCoalescingOperator, ES2020OptionalChaining, ES2020BigInt, ES2020ArbitraryModuleNamespaceNames, ES2019OptionalCatchBinding, ES2018ObjectRestSpread, ES2018AsyncGeneratorFunctions, ES2017AsyncToGenerator, ES2016ExponentiationOperator, ES2015ArrowFunctions, ES2015StickyRegex, ES2015UnicodeRegex, ES2018DotallRegex, ES2018LookbehindRegex, ES2018NamedCapturingGroupsRegex, ES2018UnicodePropertyRegex, ES2022MatchIndicesRegex, ES2024UnicodeSetsRegex}
use Rattle.transform_options.specs.declared.es2026.ES2026Options.{ES2026Options}
use Rattle.transform_options.specs.declared.es2022.ES2022Options.{ES2022Options}
use Rattle.transform_options.specs.declared.es2021.ES2021Options.{ES2021Options}
use Rattle.transform_options.specs.declared.es2020.ES2020Options.{ES2020Options}
use Rattle.transform_options.specs.declared.es2019.ES2019Options.{ES2019Options}
use Rattle.transform_options.specs.declared.es2018.ES2018Options.{ES2018Options}
use Rattle.transform_options.specs.declared.es2017.ES2017Options.{ES2017Options}
use Rattle.transform_options.specs.declared.es2016.ES2016Options.{ES2016Options}
use Rattle.transform_options.specs.declared.es2015.ES2015Options.{ES2015Options}
use Rattle.transform_options.specs.declared.regexp.RegExpOptions.{RegExpOptions}

abbrev pub es2026 : (ESFeature → Bool) → ES2026Options
es2026 chosen = record { explicit_resource_management = chosen ES2026ExplicitResourceManagement }

abbrev pub es2022 : (ESFeature → Bool) → ES2022Options
es2022 chosen = record {
  class_static_block = chosen ES2022ClassStaticBlock;
  class_properties = chosen ES2022ClassProperties;
  top_level_await = chosen ES2022TopLevelAwait;
}

abbrev pub es2021 : (ESFeature → Bool) → ES2021Options
es2021 chosen = record { logical_assignment_operators = chosen ES2021LogicalAssignmentOperators }

abbrev pub es2020 : (ESFeature → Bool) → ES2020Options
es2020 chosen = record {
  export_namespace_from = chosen ES2020ExportNamespaceFrom;
  nullish_coalescing_operator = chosen ES2020NullishCoalescingOperator;
  optional_chaining = chosen ES2020OptionalChaining;
  big_int = chosen ES2020BigInt;
  arbitrary_module_namespace_names = chosen ES2020ArbitraryModuleNamespaceNames;
}

abbrev pub es2019 : (ESFeature → Bool) → ES2019Options
es2019 chosen = record { optional_catch_binding = chosen ES2019OptionalCatchBinding }

abbrev pub es2018 : (ESFeature → Bool) → ES2018Options
es2018 chosen = record {
  object_rest_spread = chosen ES2018ObjectRestSpread;
  async_generator_functions = chosen ES2018AsyncGeneratorFunctions;
}

abbrev pub es2017 : (ESFeature → Bool) → ES2017Options
es2017 chosen = record { async_to_generator = chosen ES2017AsyncToGenerator }

abbrev pub es2016 : (ESFeature → Bool) → ES2016Options
es2016 chosen = record { exponentiation_operator = chosen ES2016ExponentiationOperator }

abbrev pub es2015 : (ESFeature → Bool) → ES2015Options
es2015 chosen = record { arrow_function = chosen ES2015ArrowFunctions }

abbrev pub regexp : (ESFeature → Bool) → RegExpOptions
regexp chosen = record {
  sticky_flag = chosen ES2015StickyRegex;
  unicode_flag = chosen ES2015UnicodeRegex;
  dot_all_flag = chosen ES2018DotallRegex;
  look_behind_assertions = chosen ES2018LookbehindRegex;
  named_capture_groups = chosen ES2018NamedCapturingGroupsRegex;
  unicode_property_escapes = chosen ES2018UnicodePropertyRegex;
  match_indices = chosen ES2022MatchIndicesRegex;
  set_notation = chosen ES2024UnicodeSetsRegex;
}
