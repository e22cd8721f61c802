-- The names that the identifiers of a tree refer to, in text order, and how deep its nodes stand in one another.
use Rattle.std.specs.Prelude.{ℕ, suc, max, List, [], ◌++◌}
use Rattle.js_term.specs.Term.{Text}
use Rattle.js_tree.specs.Tree.{Tree, Trees, tree, no_trees, more_trees}
use Rattle.tree_tests.specs.Names.{identifier_by, listed}

abbrev mutual
  pub identifiers : Tree → List Text
  identifiers (tree f xs v i ts) = listed (identifier_by f xs) ++ identifiers_all ts

  pub identifiers_all : Trees → List Text
  identifiers_all no_trees = []
  identifiers_all (more_trees t ts) = identifiers t ++ identifiers_all ts

abbrev mutual
  pub nesting : Tree → ℕ
  nesting (tree f xs v i ts) = suc (nesting_all ts)

  pub nesting_all : Trees → ℕ
  nesting_all no_trees = 0
  nesting_all (more_trees t ts) = max (nesting t) (nesting_all ts)
