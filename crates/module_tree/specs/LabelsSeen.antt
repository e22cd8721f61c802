-- The labels round a place, as the code holds them, innermost first.
use denote.Ref.{Bor}
use Rattle.std.specs.Prelude.{List, [], ◌∷◌, Option, None, Some, cond}
use Rattle.js_term.specs.Term.{Text, Term}
use Rattle.js_syntax.specs.Parts.{text_of}
use Rattle.module_tree.specs.declared.enclosing.EnclosingLabel.{EnclosingLabel, EnclosingLabel', Held-EnclosingLabel-outer, None', Some'}

module _ {V : Type 0} (term : V → Term) where
  abbrev mutual
    pub names_from : EnclosingLabel V → List Text
    names_from (EnclosingLabel' label of_loop outer) = text_of (term label) ∷ names_held outer

    pub names_held : Held-EnclosingLabel-outer V → List Text
    names_held None' = []
    names_held (Some' p outer) = names_from outer

  abbrev mutual
    pub loops_from : EnclosingLabel V → List Text
    loops_from (EnclosingLabel' label of_loop outer) = cond of_loop (text_of (term label) ∷ loops_held outer) (loops_held outer)

    pub loops_held : Held-EnclosingLabel-outer V → List Text
    loops_held None' = []
    loops_held (Some' p outer) = loops_from outer

  -- the labels, and those of loops among them
  abbrev pub label_names : Option (Bor (EnclosingLabel V)) → List Text
  label_names None = []
  label_names (Some r) = names_from r.now

  abbrev pub loop_names : Option (Bor (EnclosingLabel V)) → List Text
  loop_names None = []
  loop_names (Some r) = loops_from r.now
