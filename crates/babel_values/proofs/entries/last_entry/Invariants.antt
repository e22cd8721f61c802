use Rattle.std.proofs.Common.{◌≡◌, drop, map, None}
use Rattle.std.specs.Prelude.{option_map}
use Rattle.serde_json.specs.View.{view}
use Rattle.babel_values.specs.Entries.{is_named, last_among}
use Rattle.babel_values.proofs.entries.last_entry.Given as goal

abbrev pub invariant-loop-item : goal.invariant-loop-item
invariant-loop-item l =
    last_among (is_named l.name) (option_map (λ item. view item.now) l.last) (map view (drop l.item-index l.items))
    ≡ last_among (is_named l.name) None (map view l.items)
