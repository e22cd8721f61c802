-- How a literal becomes an assignment target, step by step: what is asked of a part, and what its form answers.
use Rattle.std.specs.Prelude.{ℕ, suc, List, [], ◌∷◌, map, Option, None, Some, Bool, true, false, if◌then◌else◌, codes}
use Rattle.js_term.specs.Term.{Text, is_text, Term, node, Terms, none, more, all}
use Rattle.js_term.specs.declared.kind.Kind.{Kind}
use Rattle.js_term.specs.Kinds.{is_kind}
use Rattle.js_syntax.specs.Nodes.{of_part, of_parts}
use Rattle.js_syntax.specs.Edges.{is_simple_target}
use Rattle.js_syntax.specs.Sorts as sorts
use Rattle.js_tree.specs.Parts.{kids, top}
use Rattle.js_tree.specs.TermOf.{term}
use Rattle.js_tree.specs.declared.node.Node.{Node}
use Rattle.js_tree.specs.declared.node.Form.{Form}
use Rattle.js_tree.specs.declared.node.Form.TheVariants as form
use Rattle.js_reading.specs.Targets.{Items, pattern_as, part_as, pair_texts, target_of, target_elements, target_property, target_properties}
use Rattle.cover_grammar.specs.Becomes.{sole, both}
use Rattle.cover_grammar.specs.declared.targets.Becoming.{Becoming}
use Rattle.cover_grammar.specs.declared.targets.Becoming.TheVariants as becoming
use Rattle.cover_grammar.specs.declared.targets.Literal.{Literal}
use Rattle.cover_grammar.specs.declared.targets.Literal.TheVariants as literal
use Rattle.cover_grammar.specs.declared.targets.Step.{Step}
use Rattle.cover_grammar.specs.declared.targets.Step.TheVariants as step
use Rattle.cover_grammar.specs.declared.targets.Gathered.{Gathered}

abbrev pub simple_of : Term → Option Term
simple_of t = if is_simple_target t then Some t else None

abbrev pub rest_by : Option Term → Option Term
rest_by None = None
rest_by (Some t) = Some (of_part Kind.AssignmentTargetRest t)

-- what a part becomes
abbrev pub become : Becoming → Term → Option Term
become becoming.Target t = target_of false t
become becoming.Element t = target_of true t
become becoming.Property t = target_property t
become becoming.Simple t = simple_of t

abbrev pub item_becomes : Literal → Becoming
item_becomes literal.Array = becoming.Element
item_becomes literal.Object = becoming.Property

abbrev pub rest_becomes : Literal → Becoming
rest_becomes literal.Array = becoming.Target
rest_becomes literal.Object = becoming.Simple

abbrev pub kind_becomes : Literal → Kind
kind_becomes literal.Array = Kind.ArrayAssignmentTarget
kind_becomes literal.Object = Kind.ObjectAssignmentTarget

-- what the items of a literal become
abbrev pub targets : Literal → Terms → Items
targets literal.Array ts = target_elements ts
targets literal.Object ts = target_properties ts

abbrev pub simple_step : Kind → Step
simple_step k = if sorts.is_simple_target k then step.Keep else step.Refuse

abbrev pub target_step : Kind → Step
target_step Kind.ObjectExpression = step.Items literal.Object
target_step Kind.ArrayExpression = step.Items literal.Array
target_step k = simple_step k

abbrev pub element_step : Kind → Step
element_step Kind.AssignmentExpression = step.Default
element_step k = target_step k

abbrev pub property_step : Kind → Step
property_step Kind.ObjectProperty = step.Pair
property_step Kind.AssignmentTargetProperty = step.Keep
property_step k = step.Refuse

abbrev pub absent_step : Becoming → Step
absent_step becoming.Element = step.Keep
absent_step b = step.Refuse

abbrev pub kind_step : Becoming → Kind → Step
kind_step becoming.Target k = target_step k
kind_step becoming.Element k = element_step k
kind_step becoming.Property k = property_step k
kind_step becoming.Simple k = simple_step k

abbrev pub step_of : Becoming → Form → Step
step_of b form.Absent = absent_step b
step_of b form.List = step.Refuse
step_of b (form.Node k) = kind_step b k

-- the operator of an assignment that stands for a default
abbrev pub is_assign : List Text → Bool
is_assign (op ∷ []) = is_text op (codes "=")
is_assign xs = false

abbrev pub default_in : List Text → Option (Node × Node) → Option Term
default_in xs None = None
default_in xs (Some p) = if is_assign xs then Some (of_parts Kind.AssignmentTargetWithDefault (term p.0) (term p.1)) else None

abbrev pub pair_in : List Text → Option (Node × Node) → Option Term
pair_in xs None = None
pair_in xs (Some p) = part_as Kind.AssignmentTargetProperty (pair_texts xs) (term p.0) (target_of true (term p.1))

abbrev pub is_list : Form → Bool
is_list form.List = true
is_list f = false

abbrev pub list_in : Option Node → Option Node
list_in None = None
list_in (Some l) = if is_list (top l).form then Some l else None

abbrev pub literal_in : Literal → Option Node → Option Term
literal_in l None = None
literal_in l (Some n) = pattern_as (kind_becomes l) (targets l (all (map term (kids n))))

-- a spread of one part
abbrev pub is_rest : Term → Bool
is_rest (node Kind.SpreadElement texts (more t none)) = true
is_rest t = false

-- how many items stand before the rest
abbrev pub plain_count : List Term → ℕ
plain_count [] = 0
plain_count (t ∷ []) = if is_rest t then 0 else 1
plain_count (t ∷ ts) = suc (plain_count ts)

abbrev pub gathered_of : Gathered → List Term × Term
gathered_of g = (map term g.items, term g.rest)

-- what a step makes of a part, by its texts and its parts
abbrev pub by_step : Step → Term → List Text → List Node → Option Term
by_step step.Keep t xs ns = Some t
by_step step.Default t xs ns = default_in xs (both ns)
by_step step.Pair t xs ns = pair_in xs (both ns)
by_step (step.Items l) t xs ns = literal_in l (list_in (sole ns))
by_step step.Refuse t xs ns = None

abbrev pub is_spread : Form → Bool
is_spread form.Absent = false
is_spread form.List = false
is_spread (form.Node k) = is_kind k Kind.SpreadElement

-- what a spread's part makes of the rest
abbrev pub rest_in : Literal → Option Node → Option Term
rest_in l None = None
rest_in l (Some n) = rest_by (become (rest_becomes l) (term n))
