-- What is printed of a node and of its parts, over the nodes themselves.
use Rattle.std.specs.Prelude.{ℕ, List, [], ◌∷◌, ◌++◌, Option, None, Some, Bool, true, false, if◌then◌else◌, map, codes}
use Rattle.js_term.specs.Term.{Text, Term, absent, list, node, Terms, none, all}
use Rattle.js_term.specs.declared.kind.Kind.{Kind}
use Rattle.js_tree.specs.TermOf.{term}
use Rattle.js_tree.specs.Parts.{kids, top}
use Rattle.js_tree.specs.declared.node.Form.{Form}
use Rattle.js_tree.specs.declared.node.Form.TheVariants as form
use Rattle.js_tree.specs.declared.node.Node.{Node}
use Rattle.js_syntax.specs.Parts.{is_node}
use Rattle.print_layout.specs.Rows.{Piece, say, part, heads, comma, named, row, method_row}
use Rattle.print_layout.specs.Needs.{inside, needs}
use Rattle.print_layout.specs.Layout.{Printed, text, rows, method_text}

-- a part that stands as the function of a method or by itself, by whether its place holds it in parentheses
abbrev pub shown : Bool → Bool → Bool → Term → Text
shown true i held t = method_text t
shown false i held t = text i (λ u. held) t

-- the row of a node that stands so
abbrev pub row_as : Bool → Bool → Kind → List Text → Terms → List Piece
row_as true i kind texts ts = method_row
row_as false i kind texts ts = row i kind texts ts

-- the parts of a node
abbrev pub parts : Bool → Kind → Node → List Printed
parts i kind n = rows i kind (top n).texts 0 (all (map term (kids n)))

-- an item of the list numbered so
abbrev pub item_text : Bool → Kind → Node → ℕ → Node → Text
item_text i kind n k x = text (inside i kind k) (needs kind (top n).texts k) (term x)

-- the items of a part that is a list
abbrev pub by_list : Form → List Node → List Node
by_list form.Absent xs = []
by_list form.List xs = xs
by_list (form.Node kind) xs = []

abbrev pub listed : Option Node → List Node
listed None = []
listed (Some x) = by_list (top x).form (kids x)

-- the parts of a node, as terms
abbrev pub terms : Node → Terms
terms n = all (map term (kids n))

abbrev pub has_some : List Node → Bool
has_some [] = false
has_some (x ∷ xs) = true

-- an update of a target, by the texts of the node
abbrev pub update : List Text → List Piece
update texts = row true Kind.UpdateExpression texts none

-- a property of an object
abbrev pub object_property : List Text → Terms → List Piece
object_property texts ts = row true Kind.ObjectProperty texts ts

-- an import; its texts tell nothing
abbrev pub import : Terms → List Piece
import ts = row true Kind.ImportDeclaration [] ts

abbrev pub opening : Bool → Text
opening some = if some then codes "{ " else codes "{"

abbrev pub closing : Bool → Text
closing some = if some then codes " }" else codes "}"

-- the row of an import with a list, by how many specifiers stand before the braces and whether any stand in them
abbrev pub import_of : ℕ → Bool → List Piece
import_of count some = say (codes "import ") ∷ (heads count comma 0 ∷ (named count some ++ (say (codes " from ") ∷ [])) ++ (part 1 ∷ say (codes ";") ∷ []))

abbrev pub is_list : Term → Bool
is_list absent = false
is_list (list ts) = true
is_list (node kind texts ts) = false

abbrev pub is_named : Term → Bool
is_named t = is_node Kind.ImportSpecifier t
