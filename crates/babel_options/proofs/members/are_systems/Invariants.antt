use Rattle.std.proofs.Common.{◌≡◌, drop, map}
use Rattle.std.specs.List.{list_all}
use Rattle.serde_json.specs.View.{view}
use Rattle.babel_options.specs.Options as spec
use Rattle.babel_options.proofs.members.are_systems.Given as goal

abbrev pub invariant-loop-item : goal.invariant-loop-item
invariant-loop-item l =
    list_all spec.is_system (map view (drop l.item-index l.items)) ≡ list_all spec.is_system (map view l.items)
