-- What was read as an expression, as an assignment target (13.15.5), and a target as a binding pattern (14.3.3).
use Rattle.std.specs.Prelude.{List, [], ◌∷◌, Option, None, Some, Bool, true, false, if◌then◌else◌, codes}
use Rattle.js_term.specs.Term.{Text, is_text, Term, absent, list, node, Terms, none, more, two}
use Rattle.js_term.specs.declared.kind.Kind.{Kind}
use Rattle.js_term.specs.Node.{binding_of}
use Rattle.js_syntax.specs.Nodes.{of_part, of_parts, rested, parameter_of}
use Rattle.js_syntax.specs.Edges.{is_simple_target}

-- the items of a pattern, and its rest or none
abbrev pub Items : Type 0
Items = Option (List Term × Term)

abbrev pub with_item : Option Term → Items → Items
with_item (Some t) (Some p) = Some (t ∷ p.0, p.1)
with_item o p = None

abbrev pub rest_as : Kind → Option Term → Items
rest_as k None = None
rest_as k (Some t) = Some ([], of_part k t)

abbrev pub pattern_as : Kind → Items → Option Term
pattern_as k None = None
pattern_as k (Some p) = Some (rested k p.0 p.1)

abbrev pub part_as : Kind → List Text → Term → Option Term → Option Term
part_as k texts key None = None
part_as k texts key (Some t) = Some (node k texts (two key t))

abbrev pub default_as : Kind → Option Term → Term → Option Term
default_as k None e = None
default_as k (Some t) e = Some (of_parts k t e)

-- texts of a property: its kind, and the flags method, shorthand and computed; of a property of a target the last two
abbrev pub pair_texts : List Text → List Text
pair_texts (kind ∷ method ∷ shorthand ∷ computed ∷ []) = computed ∷ shorthand ∷ []
pair_texts texts = []

-- ---- targets

-- the rest of an object is a simple target
abbrev pub object_rest : Term → Items
object_rest t = if is_simple_target t then Some ([], of_part Kind.AssignmentTargetRest t) else None

-- A target, and where the flag allows it one with a default, or a hole.
abbrev mutual
  pub target_of : Bool → Term → Option Term
  target_of d (node Kind.Identifier texts ts) = Some (node Kind.Identifier texts ts)
  target_of d (node Kind.StaticMemberExpression texts ts) = Some (node Kind.StaticMemberExpression texts ts)
  target_of d (node Kind.ComputedMemberExpression texts ts) = Some (node Kind.ComputedMemberExpression texts ts)
  target_of d (node Kind.PrivateFieldExpression texts ts) = Some (node Kind.PrivateFieldExpression texts ts)
  target_of d (node Kind.ObjectExpression texts (more (list ts) none)) = pattern_as Kind.ObjectAssignmentTarget (target_properties ts)
  target_of d (node Kind.ArrayExpression texts (more (list ts) none)) = pattern_as Kind.ArrayAssignmentTarget (target_elements ts)
  target_of true (node Kind.AssignmentExpression (op ∷ []) (more t (more e none))) = if is_text op (codes "=") then Some (of_parts Kind.AssignmentTargetWithDefault t e) else None
  target_of true absent = Some absent
  target_of d t = None

  pub target_elements : Terms → Items
  target_elements none = Some ([], absent)
  target_elements (more (node Kind.SpreadElement texts (more t none)) none) = rest_as Kind.AssignmentTargetRest (target_of false t)
  target_elements (more t ts) = with_item (target_of true t) (target_elements ts)

  pub target_property : Term → Option Term
  target_property (node Kind.ObjectProperty texts (more k (more v none))) = part_as Kind.AssignmentTargetProperty (pair_texts texts) k (target_of true v)
  target_property (node Kind.AssignmentTargetProperty texts ts) = Some (node Kind.AssignmentTargetProperty texts ts)
  target_property t = None

  pub target_properties : Terms → Items
  target_properties none = Some ([], absent)
  target_properties (more (node Kind.SpreadElement texts (more t none)) none) = object_rest t
  target_properties (more t ts) = with_item (target_property t) (target_properties ts)

-- ---- patterns

abbrev pub bound_name : Term → Option Term
bound_name (node Kind.Identifier (x ∷ []) none) = Some (binding_of x)
bound_name t = None

abbrev pub with_rest : Option (List Term) → Option Term → Items
with_rest (Some ts) (Some r) = Some (ts, r)
with_rest o p = None

abbrev pub with_first : Option Term → Option (List Term) → Option (List Term)
with_first (Some t) (Some ts) = Some (t ∷ ts)
with_first o p = None

abbrev pub rest_of : Option Term → Option Term
rest_of None = None
rest_of (Some p) = Some (of_part Kind.BindingRestElement p)

-- the rest of an object is a name
abbrev pub bound_object_rest : Term → Option Term
bound_object_rest absent = Some absent
bound_object_rest (node Kind.AssignmentTargetRest texts (more t none)) = rest_of (bound_name t)
bound_object_rest t = None

abbrev mutual
  pub pattern_of : Bool → Term → Option Term
  pattern_of d (node Kind.Identifier (x ∷ []) none) = Some (binding_of x)
  pattern_of d (node Kind.ObjectAssignmentTarget texts (more (list ts) (more r none))) = pattern_as Kind.ObjectPattern (with_rest (pattern_properties ts) (bound_object_rest r))
  pattern_of d (node Kind.ArrayAssignmentTarget texts (more (list ts) (more r none))) = pattern_as Kind.ArrayPattern (with_rest (pattern_elements ts) (pattern_rest r))
  pattern_of true (node Kind.AssignmentTargetWithDefault texts (more t (more e none))) = default_as Kind.AssignmentPattern (pattern_of false t) e
  pattern_of true absent = Some absent
  pattern_of d t = None

  pub pattern_rest : Term → Option Term
  pattern_rest absent = Some absent
  pattern_rest (node Kind.AssignmentTargetRest texts (more t none)) = rest_of (pattern_of false t)
  pattern_rest t = None

  pub pattern_elements : Terms → Option (List Term)
  pattern_elements none = Some []
  pattern_elements (more t ts) = with_first (pattern_of true t) (pattern_elements ts)

  pub pattern_property : Term → Option Term
  pattern_property (node Kind.AssignmentTargetProperty texts (more k (more v none))) = part_as Kind.BindingProperty texts k (pattern_of true v)
  pattern_property t = None

  pub pattern_properties : Terms → Option (List Term)
  pattern_properties none = Some []
  pattern_properties (more t ts) = with_first (pattern_property t) (pattern_properties ts)

-- ---- the parameters of an arrow function (15.3)

-- a pattern with a default is a parameter with an initializer
abbrev pub parameter_as : Option Term → Option Term
parameter_as (Some (node Kind.AssignmentPattern texts (more p (more e none)))) = Some (parameter_of p e)
parameter_as (Some (node k texts ts)) = Some (parameter_of (node k texts ts) absent)
parameter_as o = None

abbrev pub parameters_as : List Term → Option (List Term)
parameters_as [] = Some []
parameters_as (t ∷ ts) = with_first (parameter_as (pattern_of true t)) (parameters_as ts)

abbrev pub parameter_rest : Option Term → Option Term
parameter_rest None = None
parameter_rest (Some absent) = Some absent
parameter_rest (Some r) = Some (of_part Kind.FormalParameterRest r)

abbrev pub arrow_parameters : Items → Option Term
arrow_parameters None = None
arrow_parameters (Some p) = pattern_as Kind.FormalParameters (with_rest (parameters_as p.0) (parameter_rest (pattern_rest p.1)))
