-- Trees of the kinds that the reader reads. Every small module is one.
use Rattle.std.specs.Prelude.{Bool, true, false, ◌&&◌}
use Rattle.js_term.specs.Term.{Term, absent, list, node, Terms, none, more}
use Rattle.js_term.specs.declared.kind.Kind.{Kind}
use Rattle.js_term.specs.declared.kind.Kind.TheVariants as Kind

abbrev pub is_read_kind : Kind → Bool
is_read_kind Kind.BooleanLiteral = false
is_read_kind Kind.SequenceExpression = false
is_read_kind Kind.AwaitExpression = false
is_read_kind Kind.ArrayExpression = false
is_read_kind Kind.ObjectExpression = false
is_read_kind Kind.ParenthesizedExpression = false
is_read_kind k = true

abbrev mutual
  pub is_plain : Term → Bool
  is_plain absent = true
  is_plain (list ts) = are_plain ts
  is_plain (node k texts ts) = is_read_kind k && are_plain ts

  pub are_plain : Terms → Bool
  are_plain none = true
  are_plain (more t ts) = is_plain t && are_plain ts
