-- The term of a node by its level.
use Rattle.std.proofs.Common.{◌≡◌, refl, ap, ◌∙◌, List, [], None, map}
use Rattle.js_term.specs.Term.{Text, Term, absent, list, node, Terms, all}
use Rattle.js_term.specs.declared.kind.Kind.{Kind}
use Rattle.js_tree.specs.Words.{texts_seen}
use Rattle.js_tree.specs.Parts.{Level, hole, kids, top}
use Rattle.js_tree.specs.TermOf.{by_form, level_term, term, retexted}
use Rattle.js_tree.specs.declared.node.Form.{Form}
use Rattle.js_tree.specs.declared.node.Form.TheVariants as form
use Rattle.js_tree.specs.declared.texts.Texts.TheVariants as texts
use Rattle.js_tree.specs.declared.node.Node.{Node, roll-Node, fold_out-Node, fold-roll-Node}

pub term_is : (n : Node) → term n ≡ by_form (top n).form (top n).texts (all (map term (kids n)))
unfolding term kids top
term_is n = fold_out-Node Term level_term n

pub term_roll : (l : Level) → term (roll-Node l) ≡ by_form l.form (texts_seen l.texts) (all (map term l.kids))
unfolding term
term_roll l = fold-roll-Node Term level_term l

pub retexted_form : (f : Form) (xs ys : List Text) (ts : Terms) → retexted ys (by_form f xs ts) ≡ by_form f ys ts
retexted_form form.Absent xs ys ts = refl
retexted_form form.List xs ys ts = refl
retexted_form (form.Node k) xs ys ts = refl

-- a node by its kind, and a list by its items
pub term_of_node : (n : Node) (k : Kind) → (top n).form ≡ form.Node k → term n ≡ node k (top n).texts (all (map term (kids n)))
term_of_node n k e = term_is n ∙ ap (λ (f : Form). by_form f (top n).texts (all (map term (kids n)))) e

pub term_of_list : (n : Node) → (top n).form ≡ form.List → term n ≡ list (all (map term (kids n)))
term_of_list n e = term_is n ∙ ap (λ (f : Form). by_form f (top n).texts (all (map term (kids n)))) e

pub term_hole : term hole ≡ absent
unfolding hole term
term_hole = fold-roll-Node Term level_term (record { form = form.Absent; id = None; span = record { start = 0; end = 0 }; texts = texts.None; kids = [] })
