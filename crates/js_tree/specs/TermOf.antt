-- The term of a tree: kinds, texts and parts, without spans and ids.
use Rattle.std.specs.Prelude.{List}
use Rattle.js_term.specs.Term.{Text, Term, absent, list, node, Terms, all}
use Rattle.js_tree.specs.Words.{texts_seen}
use Rattle.js_tree.specs.declared.node.Node.{Node, Node-F, fold-Node}
use Rattle.js_tree.specs.declared.node.Form.{Form}
use Rattle.js_tree.specs.declared.node.Form.TheVariants as form

abbrev pub by_form : Form → List Text → Terms → Term
by_form form.Absent xs ts = absent
by_form form.List xs ts = list ts
by_form (form.Node k) xs ts = node k xs ts

abbrev pub level_term : Node-F Term → Term
level_term n = by_form n.form (texts_seen n.texts) (all n.kids)

unfoldable pub term : Node → Term
term = fold-Node Term level_term

-- a node with other texts
abbrev pub retexted : List Text → Term → Term
retexted ys absent = absent
retexted ys (list ts) = list ts
retexted ys (node k xs ts) = node k ys ts
