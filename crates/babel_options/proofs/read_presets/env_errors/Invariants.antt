use Rattle.std.proofs.Common.{◌≡◌, ◌++◌, drop, map}
use Rattle.serde_json.specs.View.{view}
use Rattle.babel_options.specs.Presets as spec
use Rattle.babel_options.proofs.read_presets.env_errors.Given as goal

abbrev pub invariant-loop-item : goal.invariant-loop-item
invariant-loop-item l =
    l.errors.items ++ spec.env_errors (map view (drop l.item-index l.items)) ≡ spec.env_errors (map view l.items)
