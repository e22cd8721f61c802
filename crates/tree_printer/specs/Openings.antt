-- What a text may not begin with, as the code names it.
use Rattle.std.specs.Prelude.{Bool}
use Rattle.js_term.specs.declared.kind.Kind.{Kind}
use Rattle.js_syntax.specs.Edges.{is_brace_kind, is_definition_kind}
use Rattle.print_layout.specs.Needs.{is_opener}
use Rattle.tree_printer.specs.declared.leads.Opening.{Opening}
use Rattle.tree_printer.specs.declared.leads.Opening.TheVariants as opening

abbrev pub test_of : Opening → Kind → Bool
test_of opening.Brace = is_brace_kind
test_of opening.Definition = is_definition_kind
test_of opening.Any = is_opener
