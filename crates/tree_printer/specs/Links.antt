-- Kinds whose level is that of the expression that they begin with.
use Rattle.std.specs.Prelude.{Bool, true, false}
use Rattle.js_term.specs.declared.kind.Kind.{Kind}

-- members, and templates with a tag (13.3)
abbrev pub is_link : Kind → Bool
is_link Kind.StaticMemberExpression = true
is_link Kind.ComputedMemberExpression = true
is_link Kind.PrivateFieldExpression = true
is_link Kind.TaggedTemplateExpression = true
is_link k = false
