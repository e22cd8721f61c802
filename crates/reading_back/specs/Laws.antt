-- What is printed is read back.
use Rattle.std.specs.Prelude.{◌≡◌, ◌≤◌, List, true}
use Rattle.std.specs.Str.{IsUtf8}
use Rattle.js_term.specs.Term.{Text, Term, depth}
use Rattle.js_syntax.specs.Nodes.{module_of}
use Rattle.js_syntax.specs.Printable.{is_printable}
use Rattle.js_reading.specs.Laws.{ReadBehind}
use Rattle.print_layout.specs.Layout.{module_text, module_tree}

-- The module with its parentheses, by the parts that are read of its text.
pub record IsReadBack (t : Term) : Type 0 where
  pub hashbang : List Text
  pub directives : List Term
  pub items : List Term
  pub whole : module_tree t ≡ module_of hashbang directives items
  pub reads : ReadBehind hashbang directives items (module_text t)

-- A text that code prints is a `str`, and so in UTF-8.
pub record PrintedIsRead : Type 0 where
  pub read : (t : Term) → is_printable t ≡ true → IsUtf8 (module_text t) → depth (module_tree t) ≤ 512 → IsReadBack t
