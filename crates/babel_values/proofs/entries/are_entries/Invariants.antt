use Rattle.std.proofs.Common.{◌≡◌, drop, map}
use Rattle.std.specs.List.{list_all}
use Rattle.serde_json.specs.View.{view}
use Rattle.babel_values.specs.Entries.{is_entry}
use Rattle.babel_values.proofs.entries.are_entries.Given as goal

abbrev pub invariant-loop-item : goal.invariant-loop-item
invariant-loop-item l =
    list_all is_entry (map view (drop l.item-index l.items)) ≡ list_all is_entry (map view l.items)
