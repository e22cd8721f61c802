-- The bound identifiers of a pattern, a declaration or a list of parameters, in text order (BoundNames, ECMAScript,
-- sections 8.2.1 and 16.2.2).
use denote.Ref.{Bor}
use denote.Param.Members.{Mut}
use Rattle.std.specs.Fn.{CalledAt}
use Rattle.std.specs.Prelude.{◌≡◌, ⊤, ℕ, zero, suc, List, [], ◌∷◌, map}
use Rattle.std.specs.List.{flat_map}
use Rattle.js_term.specs.declared.kind.Kind.{Kind}
use Rattle.js_tree.specs.declared.binding.Binding.{Binding}
use Rattle.js_tree.specs.declared.binding.Binding.TheVariants as binding
use Rattle.js_tree.specs.declared.node.Form.{Form}
use Rattle.js_tree.specs.declared.node.Form.TheVariants as form
use Rattle.js_tree.specs.declared.node.Node.{Node, Node-F, roll-Node, para-Node}

abbrev pub Names : Type 0
Names = List Node

-- where the names of a node stand
abbrev pub binding_of : Kind → Binding
binding_of Kind.BindingIdentifier = binding.Name
binding_of Kind.ObjectPattern = binding.Kids
binding_of Kind.ArrayPattern = binding.Kids
binding_of Kind.BindingProperty = binding.Kid 1
binding_of Kind.AssignmentPattern = binding.Kid 0
binding_of Kind.BindingRestElement = binding.Kids
binding_of Kind.VariableDeclaration = binding.Kids
binding_of Kind.VariableDeclarator = binding.Kid 0
binding_of Kind.FunctionDeclaration = binding.Kid 0
binding_of Kind.ClassDeclaration = binding.Kid 0
binding_of Kind.FormalParameters = binding.Kids
binding_of Kind.FormalParameter = binding.Kid 0
binding_of Kind.FormalParameterRest = binding.Kids
binding_of Kind.CatchParameter = binding.Kids
binding_of Kind.ImportDeclaration = binding.Kid 0
binding_of Kind.ImportSpecifier = binding.Kid 1
binding_of Kind.ImportDefaultSpecifier = binding.Kids
binding_of Kind.ImportNamespaceSpecifier = binding.Kids
binding_of Kind.ExportDeclaration = binding.Kids
binding_of k = binding.Nothing

abbrev pub binding_at : Form → Binding
binding_at form.Absent = binding.Nothing
binding_at form.List = binding.Kids
binding_at (form.Node k) = binding_of k

-- the names of the kid numbered n
abbrev pub names_at : ℕ → List Names → Names
names_at n [] = []
names_at zero (ns ∷ more) = ns
names_at (suc n) (ns ∷ more) = names_at n more

-- the names of a node, by those of its kids
abbrev pub names_by : Binding → Node → List Names → Names
names_by binding.Name n ns = n ∷ []
names_by binding.Kids n ns = flat_map (λ m. m) ns
names_by (binding.Kid at) n ns = names_at at ns
names_by binding.Nothing n ns = []

abbrev itself : Node-F (Node × Names) → Node
itself l = roll-Node (record { form = l.form; id = l.id; span = l.span; texts = l.texts; kids = map (λ k. k.0) l.kids })

abbrev pub level_names : Node-F (Node × Names) → Names
level_names l = names_by (binding_at l.form) (itself l) (map (λ k. k.1) l.kids)

unfoldable pub names : Node → Names
names = para-Node Names level_names

abbrev pub all_names : List Node → Names
all_names ns = flat_map names ns

-- f may be called at references to each of these in turn
abbrev pub CallableAtEach : {F A : Type 0} → Mut F (Bor A × Unit {0}) (Unit {0}) → F → List A → Type 0
CallableAtEach g f [] = ⊤
CallableAtEach {F} {A} g f (x ∷ xs) = ((p : Bor A) → p.now ≡ x → g.pre f (p, tt)) × ((f' : F) → CalledAt g f x tt f' → CallableAtEach g f' xs)
