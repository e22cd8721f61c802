use Rattle.std.proofs.Common.{◌≡◌, drop}
use Rattle.js_term.specs.Lexeme.{is_one_of}
use Rattle.js_small.specs.Names.{parameter_names}
use Rattle.js_small.proofs.repeats.is_parameter.Given as goal

abbrev pub invariant-loop-item : goal.invariant-loop-item
invariant-loop-item l = is_one_of l.name (parameter_names l.items) ≡ is_one_of l.name (parameter_names (drop l.item-index l.items))
