-- The context of the rule on jumps, as the code holds it, and the rule at any context and by groups of kinds.
use Rattle.std.specs.Prelude.{List, [], ◌∷◌, Bool, true, ◌||◌}
use Rattle.js_term.specs.Term.{Term, Terms}
use Rattle.js_term.specs.declared.kind.Kind.{Kind}
use Rattle.js_term.specs.Kinds.{is_among}
use Rattle.js_term.specs.Scope.{kid}
use Rattle.js_syntax.specs.Everywhere.{everywhere_kids, at_each_node, alike}
use Rattle.js_syntax.specs.Parts.{text_of}
use Rattle.js_syntax.specs.ModuleTree.{Jumps, second_is_loop, with_label, jumps_inside, allows_jump}
use Rattle.module_tree.specs.LabelsSeen.{label_names, loop_names}
use Rattle.module_tree.specs.declared.jumps.Jumps as code

abbrev pub jumps_of : {V : Type 0} → (V → Term) → code.Jumps V → Jumps
jumps_of term j = record { labels = label_names term j.labels; loops = loop_names term j.labels; breaks = j.breaks; continues = j.continues }

-- the kinds by what they do to jumps inside
abbrev pub roots_of_jumps : List Kind
roots_of_jumps = Kind.FunctionDeclaration ∷ Kind.FunctionExpression ∷ Kind.ArrowFunctionExpression ∷ Kind.StaticBlock ∷ []

abbrev pub iteration_statements : List Kind
iteration_statements = Kind.DoWhileStatement ∷ Kind.WhileStatement ∷ Kind.ForStatement ∷ Kind.ForInStatement ∷ Kind.ForOfStatement ∷ []

abbrev pub breakable_statements : List Kind
breakable_statements = Kind.SwitchStatement ∷ iteration_statements

-- what holds inside a labelled statement, and inside a node that is none and no root of jumps
abbrev pub in_labelled : Jumps → Terms → Jumps
in_labelled j ts = with_label j (text_of (kid 0 ts)) (second_is_loop ts)

abbrev pub in_statement : Jumps → Kind → Jumps
in_statement j k = record { labels = j.labels; loops = j.loops; breaks = is_among k breakable_statements || j.breaks; continues = is_among k iteration_statements || j.continues }

abbrev pub has_jumps_in : Jumps → Term → Bool
has_jumps_in = at_each_node jumps_inside allows_jump

-- the rule over the parts of a node
abbrev pub parts_have_jumps : Jumps → Terms → Bool
parts_have_jumps j ts = everywhere_kids jumps_inside (λ c. c) allows_jump (λ c us. true) (λ c. true) (alike j) 0 ts
