-- Kinds of node, compared.
use denote.Enum.Bare.{sameb}
use Rattle.std.specs.Prelude.{List, [], ◌∷◌, Bool, false, ◌||◌}
use Rattle.js_term.specs.declared.kind.Kind.{Kind}
use Rattle.js_term.specs.contracts.kind.Kind.{the_type}

-- two kinds are one: what `==` of the declared kinds answers
abbrev pub is_kind : Kind → Kind → Bool
is_kind = sameb the_type

abbrev pub is_among : Kind → List Kind → Bool
is_among k [] = false
is_among k (j ∷ js) = is_kind k j || is_among k js
