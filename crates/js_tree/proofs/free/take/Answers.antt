use Rattle.std.proofs.Common.{sym, ap, ◌∙◌}
use Rattle.js_tree.specs.Weight.{weights}
use Rattle.js_tree.proofs.Weights.{last_weight}
use Rattle.js_tree.proofs.free.take.Goals as goal

pub returns-else-is_empty : goal.returns-else-is_empty
returns-else-is_empty c = last_weight c.pop-last.new.self c.in-Some.part ∙ ap weights (sym c.in-Some.ensures)
