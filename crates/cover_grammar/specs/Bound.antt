-- How a target becomes a binding pattern, step by step: what is asked of a part, and what its form answers.
use Rattle.std.specs.Prelude.{List, [], ◌∷◌, map, length, nat_eq, Option, None, Some, Bool, true, false, ◌&&◌, if◌then◌else◌}
use Rattle.js_term.specs.Term.{Text, Term, node, none}
use Rattle.js_term.specs.declared.kind.Kind.{Kind}
use Rattle.js_tree.specs.Parts.{kids, top}
use Rattle.js_tree.specs.TermOf.{term}
use Rattle.js_tree.specs.declared.node.Node.{Node}
use Rattle.js_tree.specs.declared.node.Form.{Form}
use Rattle.js_tree.specs.declared.node.Form.TheVariants as form
use Rattle.js_reading.specs.Targets.{pattern_as, part_as, default_as, with_first, with_rest, rest_of, bound_name, bound_object_rest, pattern_of, pattern_rest, pattern_property}
use Rattle.cover_grammar.specs.Becomes.{sole, both}
use Rattle.cover_grammar.specs.Converted.{is_list}
use Rattle.cover_grammar.specs.declared.patterns.Binding.{Binding}
use Rattle.cover_grammar.specs.declared.patterns.Binding.TheVariants as binding
use Rattle.cover_grammar.specs.declared.patterns.Items.{Items}
use Rattle.cover_grammar.specs.declared.patterns.Items.TheVariants as items
use Rattle.cover_grammar.specs.declared.patterns.Turn.{Turn}
use Rattle.cover_grammar.specs.declared.patterns.Turn.TheVariants as turn

-- what a part becomes
abbrev pub bind : Binding → Term → Option Term
bind binding.Pattern t = pattern_of false t
bind binding.Element t = pattern_of true t
bind binding.Property t = pattern_property t
bind binding.ArrayRest t = pattern_rest t
bind binding.ObjectRest t = bound_object_rest t
bind binding.Name t = bound_name t

abbrev pub item_binds : Items → Binding
item_binds items.Elements = binding.Element
item_binds items.Properties = binding.Property

abbrev pub rest_binds : Items → Binding
rest_binds items.Elements = binding.ArrayRest
rest_binds items.Properties = binding.ObjectRest

abbrev pub kind_binds : Items → Kind
kind_binds items.Elements = Kind.ArrayPattern
kind_binds items.Properties = Kind.ObjectPattern

-- what all become, if each does
abbrev pub each_as : (Term → Option Term) → List Term → Option (List Term)
each_as f [] = Some []
each_as f (t ∷ ts) = with_first (f t) (each_as f ts)

abbrev pub name_turn : Kind → Turn
name_turn Kind.Identifier = turn.Name
name_turn k = turn.Refuse

abbrev pub pattern_turn : Kind → Turn
pattern_turn Kind.ObjectAssignmentTarget = turn.Pattern items.Properties
pattern_turn Kind.ArrayAssignmentTarget = turn.Pattern items.Elements
pattern_turn k = name_turn k

abbrev pub element_turn : Kind → Turn
element_turn Kind.AssignmentTargetWithDefault = turn.Default
element_turn k = pattern_turn k

abbrev pub property_turn : Kind → Turn
property_turn Kind.AssignmentTargetProperty = turn.Pair
property_turn k = turn.Refuse

abbrev pub rest_turn : Binding → Kind → Turn
rest_turn b Kind.AssignmentTargetRest = turn.Rest b
rest_turn b k = turn.Refuse

abbrev pub absent_turn : Binding → Turn
absent_turn binding.Element = turn.Keep
absent_turn binding.ArrayRest = turn.Keep
absent_turn binding.ObjectRest = turn.Keep
absent_turn b = turn.Refuse

abbrev pub kind_turn : Binding → Kind → Turn
kind_turn binding.Pattern k = pattern_turn k
kind_turn binding.Element k = element_turn k
kind_turn binding.Property k = property_turn k
kind_turn binding.ArrayRest k = rest_turn binding.Pattern k
kind_turn binding.ObjectRest k = rest_turn binding.Name k
kind_turn binding.Name k = name_turn k

abbrev pub turn_of : Binding → Form → Turn
turn_of b form.Absent = absent_turn b
turn_of b form.List = turn.Refuse
turn_of b (form.Node k) = kind_turn b k

abbrev pub is_single : List Text → Bool
is_single (x ∷ []) = true
is_single xs = false

abbrev pub name_in : List Text → List Node → Option Term
name_in xs ns = if is_single xs && nat_eq (length ns) 0 then Some (node Kind.BindingIdentifier xs none) else None

abbrev pub default_bound : Option (Node × Node) → Option Term
default_bound None = None
default_bound (Some p) = default_as Kind.AssignmentPattern (pattern_of false (term p.0)) (term p.1)

abbrev pub pair_bound : List Text → Option (Node × Node) → Option Term
pair_bound xs None = None
pair_bound xs (Some p) = part_as Kind.BindingProperty xs (term p.0) (pattern_of true (term p.1))

abbrev pub rest_bound : Binding → Option Node → Option Term
rest_bound b None = None
rest_bound b (Some n) = rest_of (bind b (term n))

-- the parts of a pattern's target: a list and what stands behind it
abbrev pub listed_both : Option (Node × Node) → Option (Node × Node)
listed_both None = None
listed_both (Some p) = if is_list (top p.0).form then Some p else None

abbrev pub pattern_in : Items → Option (Node × Node) → Option Term
pattern_in l None = None
pattern_in l (Some p) = pattern_as (kind_binds l) (with_rest (each_as (bind (item_binds l)) (map term (kids p.0))) (bind (rest_binds l) (term p.1)))

abbrev pub by_turn : Turn → Term → List Text → List Node → Option Term
by_turn turn.Keep t xs ns = Some t
by_turn turn.Refuse t xs ns = None
by_turn turn.Name t xs ns = name_in xs ns
by_turn turn.Default t xs ns = default_bound (both ns)
by_turn turn.Pair t xs ns = pair_bound xs (both ns)
by_turn (turn.Rest b) t xs ns = rest_bound b (sole ns)
by_turn (turn.Pattern l) t xs ns = pattern_in l (listed_both (both ns))
