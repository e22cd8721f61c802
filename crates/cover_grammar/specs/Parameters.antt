-- How a pattern becomes a parameter, by its form.
use Rattle.std.specs.Prelude.{Option, None, Some, true, if◌then◌else◌}
use Rattle.js_term.specs.Term.{Term, absent}
use Rattle.js_term.specs.Kinds.{is_kind}
use Rattle.js_term.specs.declared.kind.Kind.{Kind}
use Rattle.js_syntax.specs.Nodes.{of_part, parameter_of}
use Rattle.js_tree.specs.TermOf.{term}
use Rattle.js_tree.specs.declared.node.Node.{Node}
use Rattle.js_tree.specs.declared.node.Form.{Form}
use Rattle.js_tree.specs.declared.node.Form.TheVariants as form
use Rattle.js_reading.specs.Targets.{parameter_as, pattern_of}

abbrev pub parameter_bound : Term → Option Term
parameter_bound t = parameter_as (pattern_of true t)

abbrev pub defaulted : Term → Option (Node × Node) → Option Term
defaulted t None = Some (parameter_of t absent)
defaulted t (Some p) = Some (parameter_of (term p.0) (term p.1))

abbrev pub parameter_formed : Form → Term → Option (Node × Node) → Option Term
parameter_formed form.Absent t p = None
parameter_formed form.List t p = None
parameter_formed (form.Node k) t p = if is_kind k Kind.AssignmentPattern then defaulted t p else Some (parameter_of t absent)

abbrev pub rest_formed : Form → Term → Option Term
rest_formed form.Absent t = Some t
rest_formed form.List t = Some (of_part Kind.FormalParameterRest t)
rest_formed (form.Node k) t = Some (of_part Kind.FormalParameterRest t)
