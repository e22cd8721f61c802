-- Plugins with the fields of some switches set.
use Rattle.std.specs.Prelude.{Bool, List, ◌||◌, codes}
use Rattle.serde_json.specs.Data.{Data}
use Rattle.babel_options.specs.Plugins.{has}
use Rattle.transform_targets.specs.declared.feature.ESFeature.{ESFeature}
use Rattle.transform_targets.specs.declared.feature.ESFeature.TheVariants.{ES2026ExplicitResourceManagement, ES2022ClassStaticBlock, ES2022ClassProperties, ES2021LogicalAssignmentOperators, ES2020ExportNamespaceFrom, ES2020NullishCoalescingOperator, ES2020OptionalChaining, ES2019OptionalCatchBinding, ES2018ObjectRestSpread, ES2018AsyncGeneratorFunctions, ES2017AsyncToGenerator, ES2016ExponentiationOperator, ES2015ArrowFunctions, ES2015StickyRegex, ES2015UnicodeRegex, ES2018DotallRegex, ES2018LookbehindRegex, ES2018NamedCapturingGroupsRegex, ES2018UnicodePropertyRegex, ES2022MatchIndicesRegex, ES2024UnicodeSetsRegex}
use Rattle.babel_options.specs.declared.plugins.BabelPlugins.{BabelPlugins}

abbrev pub with_regexps : (ESFeature → Bool) → BabelPlugins → BabelPlugins
with_regexps chosen plugins = record plugins {
  sticky_flag = chosen ES2015StickyRegex;
  unicode_flag = chosen ES2015UnicodeRegex;
  dot_all_flag = chosen ES2018DotallRegex;
  look_behind_assertions = chosen ES2018LookbehindRegex;
  named_capture_groups = chosen ES2018NamedCapturingGroupsRegex;
  unicode_property_escapes = chosen ES2018UnicodePropertyRegex;
  match_indices = chosen ES2022MatchIndicesRegex;
  set_notation = chosen ES2024UnicodeSetsRegex;
}

abbrev pub with_newer : (ESFeature → Bool) → BabelPlugins → BabelPlugins
with_newer chosen plugins = record plugins {
  explicit_resource_management = chosen ES2026ExplicitResourceManagement;
  class_static_block = chosen ES2022ClassStaticBlock;
  class_properties = chosen ES2022ClassProperties;
  logical_assignment_operators = chosen ES2021LogicalAssignmentOperators;
  export_namespace_from = chosen ES2020ExportNamespaceFrom;
  nullish_coalescing_operator = chosen ES2020NullishCoalescingOperator;
  optional_chaining = chosen ES2020OptionalChaining;
}

abbrev pub with_older : (ESFeature → Bool) → BabelPlugins → BabelPlugins
with_older chosen plugins = record plugins {
  optional_catch_binding = chosen ES2019OptionalCatchBinding;
  object_rest_spread = chosen ES2018ObjectRestSpread;
  async_generator_functions = chosen ES2018AsyncGeneratorFunctions;
  async_to_generator = chosen ES2017AsyncToGenerator;
  exponentiation_operator = chosen ES2016ExponentiationOperator;
  arrow_function = chosen ES2015ArrowFunctions;
}

abbrev pub with_others : List Data → BabelPlugins → BabelPlugins
with_others items plugins = record plugins {
  syntax_jsx = has (codes "jsx") items || has (codes "syntax-jsx") items;
  react_jsx = has (codes "transform-react-jsx") items;
  react_jsx_dev = has (codes "transform-react-jsx-development") items;
  modules_commonjs = has (codes "transform-modules-commonjs") items;
}
