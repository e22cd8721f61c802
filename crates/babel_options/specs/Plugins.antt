-- What the entries of `plugins` come to.
use Rattle.std.specs.Prelude.{◌≡◌, ℕ, List, [], ◌∷◌, ◌++◌, Bool, true, false, ◌&&◌, ◌||◌, Option, None, Some, is_some, option_map, if◌then◌else◌, unwrap_or, codes}
use Rattle.std.specs.List.{filter_map, list_any}
use Rattle.std.specs.Str.{bytes_eq}
use Rattle.serde_json.specs.Data.{Data}
use Rattle.serde_json.specs.Find.{as_object}
use Rattle.babel_values.specs.Entries.{entries_in, is_named, last_among, last_entry, name_of, option_of, value_of}
use Rattle.babel_values.specs.Members.{flag, is_flag, is_text, text}
use Rattle.transform_targets.specs.declared.feature.ESFeature.{ESFeature}
use Rattle.transform_targets.specs.declared.feature.ESFeature.TheVariants.{ES2026ExplicitResourceManagement, ES2022ClassStaticBlock, ES2022ClassProperties, ES2022TopLevelAwait, ES2021LogicalAssignmentOperators, ES2020ExportNamespaceFrom, ES2020NullishCoalescingOperator, ES2020OptionalChaining, ES2020BigInt, ES2020ArbitraryModuleNamespaceNames, ES2019OptionalCatchBinding, ES2018ObjectRestSpread, ES2018AsyncGeneratorFunctions, ES2017AsyncToGenerator, ES2016ExponentiationOperator, ES2015ArrowFunctions, ES2015StickyRegex, ES2015UnicodeRegex, ES2018DotallRegex, ES2018LookbehindRegex, ES2018NamedCapturingGroupsRegex, ES2018UnicodePropertyRegex, ES2022MatchIndicesRegex, ES2024UnicodeSetsRegex}
use Rattle.babel_options.specs.declared.plugins.BabelPlugins.{BabelPlugins}
use Rattle.babel_options.specs.declared.plugins.SyntaxDecoratorOptions.{SyntaxDecoratorOptions}
use Rattle.babel_options.specs.declared.plugins.SyntaxTypeScriptOptions.{SyntaxTypeScriptOptions}
use Rattle.babel_options.specs.declared.fault.OptionsFault.{OptionsFault}
use Rattle.babel_options.specs.declared.fault.OptionsFault.TheVariants.{Refused, NoMemory}
use Rattle.babel_options.specs.Sources.{source_of, entry_of, is_set}

abbrev pub Text : Type 0
Text = List ℕ

abbrev pub has : Text → List Data → Bool
has name items = list_any (is_named name) items

abbrev pub has_any : Option Text → List Data → Bool
has_any None items = false
has_any (Some name) items = has name items

-- the plugin that has the feature lowered has an entry
abbrev pub is_entered : List Data → ESFeature → Bool
is_entered items feature = has_any (entry_of (source_of feature)) items

-- the entries that set a field beside those of the switches
abbrev pub other_names : List Text
other_names = codes "typescript" ∷ codes "syntax-typescript" ∷ codes "syntax-decorators" ∷ codes "proposal-decorators"
    ∷ codes "jsx" ∷ codes "syntax-jsx" ∷ codes "transform-react-jsx" ∷ codes "transform-react-jsx-development"
    ∷ codes "transform-modules-commonjs" ∷ []

abbrev pub syntax_features : List ESFeature
syntax_features =
    ES2026ExplicitResourceManagement ∷ ES2022ClassStaticBlock ∷ ES2022ClassProperties
    ∷ ES2022TopLevelAwait ∷ ES2021LogicalAssignmentOperators ∷ ES2020ExportNamespaceFrom
    ∷ ES2020NullishCoalescingOperator ∷ ES2020OptionalChaining ∷ ES2020BigInt
    ∷ ES2020ArbitraryModuleNamespaceNames ∷ ES2019OptionalCatchBinding ∷ ES2018ObjectRestSpread
    ∷ ES2018AsyncGeneratorFunctions ∷ ES2017AsyncToGenerator ∷ ES2016ExponentiationOperator
    ∷ ES2015ArrowFunctions ∷ []

abbrev pub regexp_features : List ESFeature
regexp_features =
    ES2015StickyRegex ∷ ES2015UnicodeRegex ∷ ES2018DotallRegex
    ∷ ES2018LookbehindRegex ∷ ES2018NamedCapturingGroupsRegex ∷ ES2018UnicodePropertyRegex
    ∷ ES2022MatchIndicesRegex ∷ ES2024UnicodeSetsRegex ∷ []

abbrev pub is_one_of : Text → List Text → Bool
is_one_of name names = list_any (λ other. bytes_eq name other) names

-- the entries of the plugins that have these features lowered
abbrev pub entries_of : List ESFeature → List Text
entries_of features = filter_map (λ feature. entry_of (source_of feature)) features

abbrev pub is_known : Text → Bool
is_known name = is_one_of name other_names || is_one_of name (entries_of syntax_features)
    || is_one_of name (entries_of regexp_features)

abbrev pub unless_known : Option Text → Option Text
unless_known None = None
unless_known (Some name) = if is_known name then None else Some name

-- the names that no plugin has
abbrev pub unsupported : List Data → List Text
unsupported items = filter_map (λ item. unless_known (name_of item)) items

abbrev pub is_type_script : Data → Bool
is_type_script item = is_named (codes "typescript") item || is_named (codes "syntax-typescript") item

abbrev pub is_decorators : Data → Bool
is_decorators item = is_named (codes "syntax-decorators") item || is_named (codes "proposal-decorators") item

abbrev pub type_script : Data → SyntaxTypeScriptOptions
type_script item = record {
  dts = flag false (option_of (codes "dts") item);
  disallow_ambiguous_jsx_like = flag false (option_of (codes "disallowAmbiguousJSXLike") item);
}

abbrev pub decorators : Data → SyntaxDecoratorOptions
decorators item = record { version = unwrap_or (text (option_of (codes "version") item)) [] }

-- the value of an entry is an object, or absent
abbrev pub is_object : Option Data → Bool
is_object None = true
is_object (Some value) = is_some (as_object value)

-- an entry whose value is read has the shape that is read
abbrev pub is_right : Data → Bool
is_right item = if is_type_script item
    then (is_object (value_of item) && is_flag (option_of (codes "dts") item)
    && is_flag (option_of (codes "disallowAmbiguousJSXLike") item))
    else (if is_decorators item
    then (is_object (value_of item) && is_text (option_of (codes "version") item))
    else true)

-- the name of the first entry that has not
abbrev pub first_wrong : List Data → Option Text
first_wrong [] = None
first_wrong (item ∷ items) = if is_right item then first_wrong items else name_of item

abbrev pub plugins_error_in : Option (List Data) → Option Text
plugins_error_in None = Some (codes "plugins: wrong shape")
plugins_error_in (Some items) = option_map (λ name. name ++ codes ": wrong value") (first_wrong items)

-- why the value of `plugins` is refused, if it is
abbrev pub plugins_error : Data → Option Text
plugins_error value = plugins_error_in (entries_in value)

pub record IsPluginsOf (items : List Data) (plugins : BabelPlugins) : Type 0 where
  pub errors : plugins.errors.items ≡ []
  pub unsupported_are : plugins.unsupported.items ≡ unsupported items
  pub switches : (feature : ESFeature) → is_set (source_of feature) plugins ≡ is_entered items feature
  pub syntax_typescript : plugins.syntax_typescript ≡ option_map type_script (last_among is_type_script None items)
  pub syntax_decorators : plugins.syntax_decorators
      ≡ option_map decorators (last_entry (codes "syntax-decorators") items)
  pub proposal_decorators : plugins.proposal_decorators
      ≡ option_map decorators (last_entry (codes "proposal-decorators") items)
  pub syntax_jsx : plugins.syntax_jsx ≡ (has (codes "jsx") items || has (codes "syntax-jsx") items)
  pub react_jsx : plugins.react_jsx ≡ has (codes "transform-react-jsx") items
  pub react_jsx_dev : plugins.react_jsx_dev ≡ has (codes "transform-react-jsx-development") items
  pub modules_commonjs : plugins.modules_commonjs ≡ has (codes "transform-modules-commonjs") items

pub record ReadsPlugins (value : Data) (plugins : BabelPlugins) : Type 0 where
  pub items : List Data
  pub are_entries : entries_in value ≡ Some items
  pub sound : first_wrong items ≡ None
  pub read : IsPluginsOf items plugins

-- the one error, or want of memory
abbrev pub RefusesOnce : Option Text → OptionsFault → Type 0
RefusesOnce expected (Refused errors) = option_map (λ error. error ∷ []) expected ≡ Some errors.items
RefusesOnce expected NoMemory = Unit {0}

abbrev pub IsEmpty : BabelPlugins → Type 0
IsEmpty plugins = plugins.errors.items ≡ []
