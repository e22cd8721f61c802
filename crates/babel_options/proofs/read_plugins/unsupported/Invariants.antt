use Rattle.std.proofs.Common.{◌≡◌, ◌++◌, drop, map}
use Rattle.serde_json.specs.View.{view}
use Rattle.babel_options.specs.Plugins as spec
use Rattle.babel_options.proofs.read_plugins.unsupported.Given as goal

abbrev pub invariant-loop-item : goal.invariant-loop-item
invariant-loop-item l =
    l.names.items ++ spec.unsupported (map view (drop l.item-index l.items)) ≡ spec.unsupported (map view l.items)
