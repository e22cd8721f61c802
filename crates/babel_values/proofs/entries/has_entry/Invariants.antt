use Rattle.std.proofs.Common.{◌≡◌, drop, map}
use Rattle.std.specs.List.{list_any}
use Rattle.serde_json.specs.View.{view}
use Rattle.babel_values.specs.Entries.{is_named}
use Rattle.babel_values.proofs.entries.has_entry.Given as goal

abbrev pub invariant-loop-item : goal.invariant-loop-item
invariant-loop-item l =
    list_any (is_named l.name) (map view (drop l.item-index l.items)) ≡ list_any (is_named l.name) (map view l.items)
