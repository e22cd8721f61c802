use Rattle.std.proofs.Common.{◌≡◌, drop}
use Rattle.js_term.specs.Lexeme.{is_one_of}
use Rattle.js_small.specs.Names.{declared_names}
use Rattle.js_small.proofs.repeats.is_declared.Given as goal

abbrev pub invariant-loop-item : goal.invariant-loop-item
invariant-loop-item l = is_one_of l.name (declared_names l.items) ≡ is_one_of l.name (declared_names (drop l.item-index l.items))
