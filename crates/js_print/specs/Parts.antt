-- Parts of printed nodes: what stands before the parameters of a function, before the value of a property, and between
-- the braces of an import.
use Rattle.std.specs.Prelude.{List, [], ◌++◌, map, Bool, true, false, Option, None, Some, codes}
use Rattle.js_term.specs.Term.{Text}
use Rattle.small_tree.specs.declared.function.FunctionKind.{FunctionKind}
use Rattle.small_tree.specs.declared.function.FunctionKind.TheVariants as function_kind
use Rattle.small_tree.specs.declared.id.BindingIdentifier.{BindingIdentifier}
use Rattle.small_tree.specs.declared.module.ImportSpecifier.{ImportSpecifier}
use Rattle.small_tree.specs.TermOf.{specifier_term}
use Rattle.js_print.specs.Layout.{printed, wrapped, commas}

abbrev pub id_text : Option BindingIdentifier → Text
id_text None = []
id_text (Some n) = n.name

abbrev pub function_start : FunctionKind → Option BindingIdentifier → Text
function_start function_kind.FunctionDeclaration o = codes "function " ++ id_text o
function_start function_kind.FunctionExpression o = []

abbrev pub key_start : Bool → Text → Text
key_start true key = key
key_start false key = key ++ codes ": "

abbrev pub imported_text : Option (List ImportSpecifier) → Text
imported_text None = []
imported_text (Some ss) = commas (map (λ s. printed (wrapped (specifier_term s))) ss)
