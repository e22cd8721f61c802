-- The names of a scope, as the walk goes over them: each parameter and each specifier has one, and a statement of a
-- small module at most one.
use Rattle.std.specs.Prelude.{List, [], ◌∷◌, ◌++◌, Option, None, Some, Bool, true, false, not, ◌&&◌, ◌||◌}
use Rattle.js_term.specs.Term.{Text, Term, node, Terms, none, more, items, kids_of, text_of}
use Rattle.js_term.specs.Scope.{Role, role, kid, declared}
use Rattle.js_term.specs.Lexeme.{is_one_of}
use Rattle.small_tree.specs.TermOf.{statement_term}
use Rattle.small_tree.specs.declared.function.BindingPattern.{BindingPattern}
use Rattle.small_tree.specs.declared.function.BindingPattern.TheVariants as binding_pattern
use Rattle.small_tree.specs.declared.function.FormalParameter.{FormalParameter}
use Rattle.small_tree.specs.declared.module.ImportSpecifier.{ImportSpecifier}
use Rattle.small_tree.specs.declared.statement.Statement.{Statement}

abbrev pub pattern_name : BindingPattern → Text
pattern_name (binding_pattern.BindingIdentifier n) = n.name

abbrev pub parameter_names : List (FormalParameter BindingPattern) → List Text
parameter_names [] = []
parameter_names (n ∷ ns) = pattern_name n.pattern ∷ parameter_names ns

abbrev pub local_names : List ImportSpecifier → List Text
local_names [] = []
local_names (n ∷ ns) = n.local.name ∷ local_names ns

abbrev pub first_name : List Text → Option Text
first_name [] = None
first_name (x ∷ xs) = Some x

abbrev pub with_name : Option Text → List Text → List Text
with_name None xs = xs
with_name (Some x) xs = x ∷ xs

abbrev pub declared_name : Statement → Option Text
declared_name s = first_name (declared (statement_term s))

abbrev pub declared_names : List Statement → List Text
declared_names [] = []
declared_names (s ∷ ss) = with_name (declared_name s) (declared_names ss)

abbrev pub items_of : Option (List ImportSpecifier) → List ImportSpecifier
items_of None = []
items_of (Some ns) = ns

-- what the specifiers of an import bind, of its term
abbrev pub locals : Terms → List Text
locals none = []
locals (more t ts) = text_of (kid 1 (kids_of t)) ∷ locals ts

abbrev pub locals_by : Role → Terms → List Text
locals_by Role.imports ts = locals (items (kid 0 ts))
locals_by r ts = []

abbrev pub imported : Term → List Text
imported (node k texts ts) = locals_by (role k) ts
imported t = []

abbrev pub imported_names : List Statement → List Text
imported_names [] = []
imported_names (s ∷ ss) = imported (statement_term s) ++ imported_names ss

-- whether the names differ from each other and from others
abbrev pub apart : List Text → List Text → Bool
apart [] ys = true
apart (x ∷ xs) ys = not (is_one_of x xs || is_one_of x ys) && apart xs ys

-- whether a name, if there is one, is among others
abbrev pub is_again : Option Text → List Text → Bool
is_again None ys = false
is_again (Some x) ys = is_one_of x ys
