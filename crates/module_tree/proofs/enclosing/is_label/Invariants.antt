use Rattle.std.proofs.Common.{◌≡◌}
use Rattle.js_term.specs.Lexeme.{is_one_of}
use Rattle.module_tree.specs.LabelsSeen.{label_names}
use Rattle.module_tree.proofs.enclosing.is_label.Given as goal

-- what the labels that are left answer is what all of them answer
abbrev pub invariant-loop-rest : goal.invariant-loop-rest
invariant-loop-rest g l = is_one_of l.name (label_names g.V.View.term l.rest) ≡ is_one_of l.name (label_names g.V.View.term l.initial.rest)
