-- The parts of a node, and a node with other parts.
use Rattle.std.specs.Prelude.{ℕ, List, [], Option, None, Some, slice_set}
use Rattle.js_term.specs.Term.{Text}
use Rattle.js_term.specs.declared.kind.Kind.{Kind}
use Rattle.js_tree.specs.Words.{texts_seen}
use Rattle.js_tree.specs.declared.span.Span.{Span}
use Rattle.js_tree.specs.declared.texts.Texts.{Texts}
use Rattle.js_tree.specs.declared.texts.Texts.TheVariants as texts
use Rattle.js_tree.specs.declared.node.Form.{Form}
use Rattle.js_tree.specs.declared.node.Form.TheVariants as form
use Rattle.js_tree.specs.declared.node.Node.{Node, Node-F, out-Node, roll-Node}

-- one level of a tree
abbrev pub Level : Type 0
Level = Node-F Node

unfoldable pub kids : Node → List Node
kids n = (out-Node n).kids

unfoldable pub with_kids : Node → List Node → Node
with_kids n xs = roll-Node (record (out-Node n) { kids = xs })

abbrev pub with_kid : Node → ℕ → Node → Node
with_kid n k x = with_kids n (slice_set (kids n) k x)

-- what stands at an empty place
unfoldable pub hole : Node
hole = roll-Node (record { form = form.Absent; id = None; span = record { start = 0; end = 0 }; texts = texts.None; kids = [] })

unfoldable pub texts_of : Node → Texts
texts_of n = (out-Node n).texts

-- a node without its parts
pub record Top : Type 0 where
  pub form : Form
  pub texts : List Text
  pub span : Span
  pub id : Option ℕ

unfoldable pub top : Node → Top
top n = let l = out-Node n in record { form = l.form; texts = texts_seen l.texts; span = l.span; id = l.id }

-- the kind of a node
abbrev pub kind_of : Form → Option Kind
kind_of form.Absent = None
kind_of form.List = None
kind_of (form.Node k) = Some k
