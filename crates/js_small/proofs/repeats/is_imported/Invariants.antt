use Rattle.std.proofs.Common.{◌≡◌, drop}
use Rattle.js_term.specs.Lexeme.{is_one_of}
use Rattle.js_small.specs.Names.{imported_names}
use Rattle.js_small.proofs.repeats.is_imported.Given as goal

abbrev pub invariant-loop-item : goal.invariant-loop-item
invariant-loop-item l = is_one_of l.name (imported_names l.items) ≡ is_one_of l.name (imported_names (drop l.item-index l.items))
