use Rattle.std.proofs.Common.{◌≡◌, Option, drop, map, None}
use Rattle.std.specs.Prelude.{option_map}
use Rattle.serde_json.specs.Data.{Data}
use Rattle.serde_json.specs.View.{view}
use Rattle.babel_values.specs.Entries.{last_among}
use Rattle.babel_options.specs.Plugins as spec
use Rattle.babel_options.proofs.read_plugins.last_type_script.Given as goal

abbrev pub invariant-loop-item : goal.invariant-loop-item
invariant-loop-item l = (found : Option Data) × (l.last ≡ option_map spec.type_script found)
    × (last_among spec.is_type_script found (map view (drop l.item-index l.items))
    ≡ last_among spec.is_type_script None (map view l.items))
