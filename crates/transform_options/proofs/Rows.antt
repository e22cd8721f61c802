-- Options that are made edition by edition follow the table.
use Rattle.std.proofs.Common.{◌≡◌, Bool, ap}
use Rattle.transform_targets.specs.declared.feature.ESFeature.{ESFeature}
use Rattle.transform_targets.specs.declared.feature.ESFeature.TheVariants.{ES2026ExplicitResourceManagement, ES2022ClassStaticBlock, ES2022ClassProperties, ES2022TopLevelAwait, ES2021LogicalAssignmentOperators, ES2020ExportNamespaceFrom, ES2020NullishCoalescingOperator, ES2020OptionalChaining, ES2020BigInt, ES2020ArbitraryModuleNamespaceNames, ES2019OptionalCatchBinding, ES2018ObjectRestSpread, ES2018AsyncGeneratorFunctions, ES2017AsyncToGenerator, ES2016ExponentiationOperator, ES2015ArrowFunctions, ES2015StickyRegex, ES2015UnicodeRegex, ES2018DotallRegex, ES2018LookbehindRegex, ES2018NamedCapturingGroupsRegex, ES2018UnicodePropertyRegex, ES2022MatchIndicesRegex, ES2024UnicodeSetsRegex}
use Rattle.transform_options.specs.declared.options.env.EnvOptions.{EnvOptions}
use Rattle.transform_options.specs.Parts as parts
use Rattle.transform_options.specs.Switches.{Follows, row}

pub record Parts (env : EnvOptions) (chosen : ESFeature → Bool) : Type 0 where
  pub es2026 : env.es2026 ≡ parts.es2026 chosen
  pub es2022 : env.es2022 ≡ parts.es2022 chosen
  pub es2021 : env.es2021 ≡ parts.es2021 chosen
  pub es2020 : env.es2020 ≡ parts.es2020 chosen
  pub es2019 : env.es2019 ≡ parts.es2019 chosen
  pub es2018 : env.es2018 ≡ parts.es2018 chosen
  pub es2017 : env.es2017 ≡ parts.es2017 chosen
  pub es2016 : env.es2016 ≡ parts.es2016 chosen
  pub es2015 : env.es2015 ≡ parts.es2015 chosen
  pub regexp : env.regexp ≡ parts.regexp chosen

switch_at : (env : EnvOptions) (chosen : ESFeature → Bool) → Parts env chosen
    → (feature : ESFeature) → (row feature).switch env ≡ chosen feature
switch_at env chosen h ES2026ExplicitResourceManagement = ap (λ o. o.explicit_resource_management) h.es2026
switch_at env chosen h ES2022ClassStaticBlock = ap (λ o. o.class_static_block) h.es2022
switch_at env chosen h ES2022ClassProperties = ap (λ o. o.class_properties) h.es2022
switch_at env chosen h ES2022TopLevelAwait = ap (λ o. o.top_level_await) h.es2022
switch_at env chosen h ES2021LogicalAssignmentOperators = ap (λ o. o.logical_assignment_operators) h.es2021
switch_at env chosen h ES2020ExportNamespaceFrom = ap (λ o. o.export_namespace_from) h.es2020
switch_at env chosen h ES2020NullishCoalescingOperator = ap (λ o. o.nullish_coalescing_operator) h.es2020
switch_at env chosen h ES2020OptionalChaining = ap (λ o. o.optional_chaining) h.es2020
switch_at env chosen h ES2020BigInt = ap (λ o. o.big_int) h.es2020
switch_at env chosen h ES2020ArbitraryModuleNamespaceNames = ap (λ o. o.arbitrary_module_namespace_names) h.es2020
switch_at env chosen h ES2019OptionalCatchBinding = ap (λ o. o.optional_catch_binding) h.es2019
switch_at env chosen h ES2018ObjectRestSpread = ap (λ o. o.object_rest_spread) h.es2018
switch_at env chosen h ES2018AsyncGeneratorFunctions = ap (λ o. o.async_generator_functions) h.es2018
switch_at env chosen h ES2017AsyncToGenerator = ap (λ o. o.async_to_generator) h.es2017
switch_at env chosen h ES2016ExponentiationOperator = ap (λ o. o.exponentiation_operator) h.es2016
switch_at env chosen h ES2015ArrowFunctions = ap (λ o. o.arrow_function) h.es2015
switch_at env chosen h ES2015StickyRegex = ap (λ o. o.sticky_flag) h.regexp
switch_at env chosen h ES2015UnicodeRegex = ap (λ o. o.unicode_flag) h.regexp
switch_at env chosen h ES2018DotallRegex = ap (λ o. o.dot_all_flag) h.regexp
switch_at env chosen h ES2018LookbehindRegex = ap (λ o. o.look_behind_assertions) h.regexp
switch_at env chosen h ES2018NamedCapturingGroupsRegex = ap (λ o. o.named_capture_groups) h.regexp
switch_at env chosen h ES2018UnicodePropertyRegex = ap (λ o. o.unicode_property_escapes) h.regexp
switch_at env chosen h ES2022MatchIndicesRegex = ap (λ o. o.match_indices) h.regexp
switch_at env chosen h ES2024UnicodeSetsRegex = ap (λ o. o.set_notation) h.regexp

pub each_row : (env : EnvOptions) (chosen : ESFeature → Bool) → Parts env chosen → Follows env chosen
each_row env chosen h = record { at = switch_at env chosen h }
