-- What is proved of printed texts.
use Rattle.std.specs.Prelude.{◌≡◌, ◌++◌, true}
use Rattle.js_term.specs.Term.{Text, Term, strip}
use Rattle.js_syntax.specs.Modules.{Spells}
use Rattle.js_syntax.specs.Printable.{is_printable}
use Rattle.js_syntax.specs.Tokens.{string, Token}
use Rattle.print_layout.specs.Layout.{module_text, module_tree}
use Rattle.print_layout.specs.Rows.{quoted}

-- A value that is printed as a string is the value of that string, whatever stands behind it (ECMAScript 12.9.4).
abbrev pub Strings : Type 0
Strings = (value rest : Text) → Token (quoted value ++ rest) (string (quoted value) value) rest

-- The text of a printable module spells the module with the parentheses that its places need, which is the module but for
-- those parentheses.
pub record Printed : Type 0 where
  pub spelled : (t : Term) → is_printable t ≡ true → Spells (module_text t) (module_tree t)
  pub same : (t : Term) → strip (module_tree t) ≡ strip t
