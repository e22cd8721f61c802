-- A tree as plain data: as its term, with spans and ids.
use Rattle.std.specs.Prelude.{ℕ, List, [], ◌∷◌, Option, None}
use Rattle.js_term.specs.Term.{Text, Term, Terms, none, more}
use Rattle.js_term.specs.declared.kind.Kind.{Kind}
use Rattle.js_tree.specs.Words.{texts_seen}
use Rattle.js_tree.specs.Parts.{Top}
use Rattle.js_tree.specs.TermOf.{by_form}
use Rattle.js_tree.specs.declared.span.Span.{Span}
use Rattle.js_tree.specs.declared.node.Form.{Form}
use Rattle.js_tree.specs.declared.node.Form.TheVariants as form
use Rattle.js_tree.specs.declared.node.Node.{Node, Node-F, fold-Node}

mutual
  pub data Tree : Type 0 where
    tree : Form → List Text → Span → Option ℕ → Trees → Tree

  pub data Trees : Type 0 where
    no_trees : Trees
    more_trees : Tree → Trees → Trees

abbrev pub trees : List Tree → Trees
trees [] = no_trees
trees (t ∷ ts) = more_trees t (trees ts)

abbrev pub level_tree : Node-F Tree → Tree
level_tree n = tree n.form (texts_seen n.texts) n.span n.id (trees n.kids)

unfoldable pub tree_of : Node → Tree
tree_of = fold-Node Tree level_tree

-- a node and a list that stand in no text and have no id
abbrev pub made : Kind → List Text → List Tree → Tree
made k xs ts = tree (form.Node k) xs (record { start = 0; end = 0 }) None (trees ts)

abbrev pub listed : List Tree → Tree
listed ts = tree form.List [] (record { start = 0; end = 0 }) None (trees ts)

-- what stands on a top
abbrev pub tree_with : Top → Trees → Tree
tree_with t ts = tree t.form t.texts t.span t.id ts

abbrev pub with_id : Option ℕ → Tree → Tree
with_id i (tree f xs s j ts) = tree f xs s i ts

abbrev pub with_span : Span → Tree → Tree
with_span s (tree f xs r i ts) = tree f xs s i ts

abbrev pub with_texts : List Text → Tree → Tree
with_texts ys (tree f xs s i ts) = tree f ys s i ts

-- the term of a tree
abbrev mutual
  pub erased : Tree → Term
  erased (tree f xs s i ts) = by_form f xs (erased_all ts)

  pub erased_all : Trees → Terms
  erased_all no_trees = none
  erased_all (more_trees t ts) = more (erased t) (erased_all ts)
