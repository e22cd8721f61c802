-- The nodes round a place, as terms, and what they declare.
use denote.Ref.{Bor}
use Rattle.std.specs.Prelude.{List, [], ◌∷◌, Option, None, Some, Bool, true, ◌||◌}
use Rattle.js_term.specs.Term.{Text, Term, Terms}
use Rattle.js_term.specs.declared.kind.Kind.{Kind}
use Rattle.js_term.specs.Kinds.{is_kind}
use Rattle.js_syntax.specs.Parts.{parts_of}
use Rattle.js_syntax.specs.Everywhere.{everywhere_kids, at_each_node, first_two_then}
use Rattle.js_syntax.specs.ModuleTree.{declared_by, classes_inside, allows_private}
use Rattle.js_rules.specs.declared.outer.Outer.{Outer, Outer', Held-Outer-outer, None', Some'}

-- the names that classes declare
abbrev pub declared_names : List Term → List (List Text)
declared_names [] = []
declared_names (t ∷ ts) = declared_by (parts_of t) ∷ declared_names ts

module _ {V : Type 0} (term : V → Term) where
  abbrev mutual
    pub outer_terms : Outer V → List Term
    outer_terms (Outer' view outer) = term view ∷ held_terms outer

    pub held_terms : Held-Outer-outer V → List Term
    held_terms None' = []
    held_terms (Some' p outer) = outer_terms outer

  abbrev pub terms_of : Option (Bor (Outer V)) → List Term
  terms_of None = []
  terms_of (Some r) = outer_terms r.now

-- the rule on private names, over the parts of a node, whose first two are outside a class, and over a tree
abbrev pub parts_have_private_names : List (List Text) → List (List Text) → Terms → Bool
parts_have_private_names outside inside ts = everywhere_kids classes_inside (λ c. c) allows_private (λ c us. true) (λ c. true) (first_two_then outside inside) 0 ts

abbrev pub has_private_names_in : List (List Text) → Term → Bool
has_private_names_in = at_each_node classes_inside allows_private

abbrev pub is_class : Kind → Bool
is_class k = is_kind k Kind.ClassDeclaration || is_kind k Kind.ClassExpression
