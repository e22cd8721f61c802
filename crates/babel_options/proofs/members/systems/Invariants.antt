use Rattle.std.proofs.Common.{◌≡◌, ◌++◌, drop, map}
use Rattle.std.specs.List.{filter_map}
use Rattle.serde_json.specs.View.{view}
use Rattle.babel_options.specs.Options as spec
use Rattle.babel_options.proofs.members.systems.Given as goal

abbrev pub invariant-loop-item : goal.invariant-loop-item
invariant-loop-item l =
    l.systems.items ++ filter_map spec.system_of (map view (drop l.item-index l.items)) ≡ filter_map spec.system_of (map view l.items)
