-- Levels that have been read, together.
use Rattle.std.proofs.Common.{◌≡◌, [], Bool, Option, None, Some, is_some, option_map, unwrap_or, refl, sym, ap, subst, ◌∙◌}
use Rattle.std.specs.Option.{option_or}
use Rattle.serde_json.specs.Data.{Data}
use Rattle.babel_options.specs.Levels as levels
use Rattle.babel_options.specs.Levels.{AreLevels, ArePlugins, ArePresets, IsFinished, IsLevel, OrNoPlugins, OrNoPresets}
use Rattle.babel_options.specs.Options as spec
use Rattle.babel_options.specs.Options.{IsOptionsOf, Level, level_of, no_level, or_empty}
use Rattle.babel_options.specs.Plugins.{ReadsPlugins}
use Rattle.babel_options.specs.Presets.{ReadsPresets}
use Rattle.babel_options.specs.declared.babel.BabelOptions.{BabelOptions}
use Rattle.babel_options.specs.declared.level.Level as declared
use Rattle.babel_options.specs.declared.plugins.BabelPlugins.{BabelPlugins}
use Rattle.babel_options.specs.declared.presets.BabelPresets.{BabelPresets}

finished_plugins : (given : Option Data) (read : Option BabelPlugins) (made : BabelPlugins) → ArePlugins given read → OrNoPlugins read made → ReadsPlugins (or_empty given) made
finished_plugins given None made none read =
    subst (λ (g : Option Data). ReadsPlugins (or_empty g) made) (sym none) (record { items = []; are_entries = refl; sound = refl; read = read })
finished_plugins given (Some plugins) made h same =
    subst (λ (g : Option Data). ReadsPlugins (or_empty g) made) (sym h.1) (subst (λ (p : BabelPlugins). ReadsPlugins h.0 p) (sym same) h.2)

finished_presets : (given : Option Data) (read : Option BabelPresets) (made : BabelPresets) → ArePresets given read → OrNoPresets read made → ReadsPresets (or_empty given) made
finished_presets given None made none read =
    subst (λ (g : Option Data). ReadsPresets (or_empty g) made) (sym none) (record { items = []; are_entries = refl; read = read })
finished_presets given (Some presets) made h same =
    subst (λ (g : Option Data). ReadsPresets (or_empty g) made) (sym h.1) (subst (λ (p : BabelPresets). ReadsPresets h.0 p) (sym same) h.2)

pub finished : (level : Level) (read : declared.Level) (options : BabelOptions) → IsLevel level read → IsFinished read options → IsOptionsOf level options
finished level read options h made = record {
  cwd = ap (λ o. o.cwd) made.rest ∙ h.settings.cwd;
  plugins = finished_plugins level.plugins read.plugins options.plugins h.plugins made.plugins;
  presets = finished_presets level.presets read.presets options.presets h.presets made.presets;
  source_type = ap (λ o. o.source_type) made.rest ∙ h.source_type;
  throws = ap (λ o. o.throws) made.rest ∙ h.throws;
  babel_8_breaking = ap (λ o. o.babel_8_breaking) made.rest ∙ h.settings.babel_8_breaking;
  os = ap (λ (o : BabelOptions). option_map (λ systems. systems.items) o.os) made.rest ∙ h.settings.os;
  allow_return_outside_function = ap (λ o. o.allow_return_outside_function) made.rest ∙ h.settings.allow_return_outside_function;
  allow_await_outside_function = ap (λ o. o.allow_await_outside_function) made.rest ∙ h.settings.allow_await_outside_function;
  allow_undeclared_exports = ap (λ o. o.allow_undeclared_exports) made.rest ∙ h.settings.allow_undeclared_exports;
  allow_new_target_outside_function = ap (λ o. o.allow_new_target_outside_function) made.rest ∙ h.settings.allow_new_target_outside_function;
  allow_super_outside_method = ap (λ o. o.allow_super_outside_method) made.rest ∙ h.settings.allow_super_outside_method;
  external_helpers = ap (λ o. o.external_helpers) made.rest ∙ h.settings.external_helpers;
}

plugins_over : (a b : Option Data) (p q : Option BabelPlugins) → ArePlugins a p → ArePlugins b q → ArePlugins (option_or a b) (option_or p q)
plugins_over a b None q none h = subst (λ (g : Option Data). ArePlugins (option_or g b) q) (sym none) h
plugins_over a b (Some p) q h other = (h.0, ap (λ g. option_or g b) h.1, h.2)

presets_over : (a b : Option Data) (p q : Option BabelPresets) → ArePresets a p → ArePresets b q → ArePresets (option_or a b) (option_or p q)
presets_over a b None q none h = subst (λ (g : Option Data). ArePresets (option_or g b) q) (sym none) h
presets_over a b (Some p) q h other = (h.0, ap (λ g. option_or g b) h.1, h.2)

level_over : (a b : Level) (r s : declared.Level) → IsLevel a r → IsLevel b s → IsLevel (spec.over a b) (levels.over r s)
level_over a b r s h k = record {
  settings = h.settings;
  source_type = ap (λ t. option_or t s.source_type) h.source_type ∙ ap (λ t. option_or a.source_type t) k.source_type;
  throws = ap (λ t. option_or t s.throws) h.throws ∙ ap (λ t. option_or a.throws t) k.throws;
  plugins = plugins_over a.plugins b.plugins r.plugins s.plugins h.plugins k.plugins;
  presets = presets_over a.presets b.presets r.presets s.presets h.presets k.presets;
}

level_without : (a : Level) (r : declared.Level) → IsLevel a r → IsLevel (spec.without_lists a) (levels.without_lists r)
level_without a r h = record {
  settings = h.settings;
  source_type = h.source_type;
  throws = h.throws;
  plugins = refl;
  presets = refl;
}

both_levels : (a b : Option Level) (r s : Option declared.Level) → AreLevels a r → AreLevels b s
    → AreLevels (spec.both a b) (levels.both r s)
both_levels a b None s none k = subst (λ (g : Option Level). AreLevels (spec.both g b) s) (sym none) k
both_levels a b (Some r) None h none =
    (h.0, ap (λ g. spec.both g b) h.1 ∙ ap (λ g. spec.both (Some h.0) g) none, h.2)
both_levels a b (Some r) (Some s) h k =
    (spec.over h.0 k.0, ap (λ g. spec.both g b) h.1 ∙ ap (λ g. spec.both (Some h.0) g) k.1, level_over h.0 k.0 r s h.2 k.2)

beside_given : (suite : Option Data) (b : Option Level) (s : Option declared.Level) → AreLevels b s
    → AreLevels (spec.category_beside suite b) (levels.beside_suite (is_some suite) s)
beside_given None b s k = k
beside_given (Some suite) b None none = ap (option_map spec.without_lists) none
beside_given (Some suite) b (Some s) k =
    (spec.without_lists k.0, ap (option_map spec.without_lists) k.1, level_without k.0 s k.2)

is_some-shown : {X Y : Type 0} (f : X → Y) (x : Option X) → is_some x ≡ is_some (option_map f x)
is_some-shown f None = refl
is_some-shown f (Some x) = refl

pub suite_read : {X : Type 0} (shown : X → Data) (suite : Option X) (category : Option Level) (s c beside r : Option declared.Level) (has : Bool)
    → AreLevels (option_map level_of (option_map shown suite)) s → AreLevels category c
    → has ≡ is_some suite → beside ≡ levels.beside_suite has c → r ≡ levels.both s beside
    → AreLevels (spec.both (option_map level_of (option_map shown suite)) (spec.category_beside (option_map shown suite) category)) r
suite_read shown suite category s c beside r has is_suite is_category given used made =
    let both : Option declared.Level → Type 0 =
    AreLevels (spec.both (option_map level_of (option_map shown suite)) (spec.category_beside (option_map shown suite) category)) in
    let kept : levels.beside_suite (is_some (option_map shown suite)) c ≡ beside =
    ap (λ b. levels.beside_suite b c) (sym (given ∙ is_some-shown shown suite)) ∙ sym used in
    subst both (ap (levels.both s) kept ∙ sym made)
    (both_levels _ _ s _ is_suite (beside_given (option_map shown suite) category c is_category))

or_none : (a : Option Level) (r : Option declared.Level) (none : declared.Level) → AreLevels a r → IsLevel no_level none
    → IsLevel (unwrap_or a no_level) (unwrap_or r none)
or_none a None none given k = subst (λ (g : Option Level). IsLevel (unwrap_or g no_level) none) (sym given) k
or_none a (Some r) none h k = subst (λ (g : Option Level). IsLevel (unwrap_or g no_level) r) (sym h.1) h.2

pub merged_read : (task suite : Option Level) (t s both : Option declared.Level) (level none : declared.Level) (options : BabelOptions)
    → AreLevels task t → AreLevels suite s → IsLevel no_level none → both ≡ levels.both t s → level ≡ unwrap_or both none
    → IsFinished level options → IsOptionsOf (unwrap_or (spec.both task suite) no_level) options
merged_read task suite t s both level none options is_task is_suite is_none together chosen made =
    let chosen_from : unwrap_or (levels.both t s) none ≡ level = ap (λ b. unwrap_or b none) (sym together) ∙ sym chosen in
    finished _ level options
    (subst (IsLevel (unwrap_or (spec.both task suite) no_level)) chosen_from
    (or_none _ _ none (both_levels task suite t s is_task is_suite) is_none)) made
