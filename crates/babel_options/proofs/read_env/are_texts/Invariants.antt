use Rattle.std.proofs.Common.{◌≡◌, drop, map}
use Rattle.std.specs.List.{list_all}
use Rattle.serde_json.specs.View.{view}
use Rattle.babel_options.specs.Env as spec
use Rattle.babel_options.proofs.read_env.are_texts.Given as goal

abbrev pub invariant-loop-item : goal.invariant-loop-item
invariant-loop-item l =
    list_all spec.is_string (map view (drop l.item-index l.items)) ≡ list_all spec.is_string (map view l.items)
