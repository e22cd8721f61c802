-- The rules of an environment as rules whose state holds a stack of scopes.
use Rattle.std.specs.Prelude.{List, [], ◌∷◌, Option, None, Some, Bool, true, false}
use Rattle.js_tree.specs.Parts.{Top}
use Rattle.js_tree.specs.Tree.{Tree, tree}
use Rattle.tree_rewrite.specs.Run.{widened}

abbrev pub top_of : Tree → Top
top_of (tree f xs v i ts) = record { form = f; texts = xs; span = v; id = i }

abbrev pub without_last : {E : Type 0} → List E → List E
without_last [] = []
without_last (e ∷ []) = []
without_last (e ∷ f ∷ env) = e ∷ without_last (f ∷ env)

-- the environment round a node, by whether it opens a scope
abbrev pub narrowed : {E : Type 0} → Bool → List E → List E
narrowed true env = without_last env
narrowed false env = env

-- `make` is the whole state, by its stack and the rest
module _ {P S E W : Type 0} (make : List E → S → W) (opens : P → Top → Bool) (scope : List E → S → P → Tree → E)
    (before : List E → S → P → Tree → Option Tree × S) (after : List E → S → P → Tree → Tree × S) where
  -- a node that keeps its place pushes the scope that it opens
  abbrev pub pushed : List E → P → Tree → Option Tree × S → Option Tree × W
  pushed env p t (Some u, s) = (Some u, make env s)
  pushed env p t (None, s) = (None, make (widened (opens p (top_of t)) env (scope env s p t)) s)

  abbrev pub before_on : List E → S → P → Tree → Option Tree × W
  before_on env s p t = pushed env p t (before env s p t)

  -- and pops it behind its parts
  abbrev pub after_on : List E → S → P → Tree → Tree × W
  after_on env s p t = let r = after env s p t in (r.0, make (narrowed (opens p (top_of t)) env) r.1)
