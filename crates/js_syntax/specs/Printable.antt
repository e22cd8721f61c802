-- Which trees are printable: each part stands at a place that takes it, each text is one of its kind, and the
-- sentences below hold, which say more than a place does.
use Rattle.std.specs.Prelude.{ℕ, zero, suc, List, Bool, true, false, not, ◌&&◌, ◌||◌, nat_eq, nat_le, codes}
use Rattle.js_term.specs.Term.{Text, is_text, Term, node, Terms, none, more}
use Rattle.js_term.specs.declared.kind.Kind.{Kind}
use Rattle.js_term.specs.Scope.{kid}
use Rattle.js_syntax.specs.Everywhere.{everywhere, at_each_node, first_then}
use Rattle.js_syntax.specs.Parts.{parts_of, text_of, text_at, first_is, is_set, is_set_at, is_node, is_present, count, count_if, each}
use Rattle.js_syntax.specs.Texts.{has_texts}
use Rattle.js_syntax.specs.Sorts.{Sort, Place, one, takes_node, takes_list, takes_absent, item_place, sort_of}
use Rattle.js_syntax.specs.Places.{places_at, place_at, are_as_many}
use Rattle.js_syntax.specs.Super.{has_super_at_home}

-- An `if` with `else` has no consequent that ends in an `if` without (14.6).
-- `ends_open t` says that the statement ends in such an `if`, which would take the `else`.
abbrev mutual
  pub ends_open : Term → Bool
  ends_open (node Kind.IfStatement texts ts) = not (is_present (kid 2 ts)) || kid_ends_open 2 ts
  ends_open (node Kind.LabeledStatement texts ts) = kid_ends_open 1 ts
  ends_open (node Kind.WhileStatement texts ts) = kid_ends_open 1 ts
  ends_open (node Kind.ForStatement texts ts) = kid_ends_open 3 ts
  ends_open (node Kind.ForInStatement texts ts) = kid_ends_open 2 ts
  ends_open (node Kind.ForOfStatement texts ts) = kid_ends_open 2 ts
  ends_open t = false

  pub kid_ends_open : ℕ → Terms → Bool
  kid_ends_open n none = false
  kid_ends_open zero (more t ts) = ends_open t
  kid_ends_open (suc n) (more t ts) = kid_ends_open n ts

abbrev pub leaves_else : Terms → Bool
leaves_else ts = not (is_present (kid 2 ts)) || not (ends_open (kid 1 ts))

-- A plain `for .. of` does not have the bare target `async` (14.7.5).
abbrev pub is_named : Text → Term → Bool
is_named x t = is_node Kind.Identifier t && is_text (text_of t) x

abbrev pub is_for_of : List Text → Terms → Bool
is_for_of texts ts = is_set_at 0 texts || not (is_named (codes "async") (kid 0 ts))

-- A `try` has a handler or a finalizer (14.15).
abbrev pub is_try : Terms → Bool
is_try ts = is_present (kid 1 ts) || is_present (kid 2 ts)

-- A `switch` has one `default` at most (14.12).
abbrev pub is_default : Term → Bool
is_default t = not (is_present (kid 0 (parts_of t)))

abbrev pub is_switch : Terms → Bool
is_switch ts = nat_le (count_if is_default (parts_of (kid 1 ts))) 1

-- A template has one text more than expressions (13.2.8).
abbrev pub is_template : Terms → Bool
is_template ts = nat_eq (count (parts_of (kid 0 ts))) (suc (count (parts_of (kid 1 ts))))

-- Of import specifiers a default one is the first, and a namespace specifier is the last, behind at most a default
-- one (16.2.2).
abbrev pub are_plain_specifiers : Terms → Bool
are_plain_specifiers (more t none) = not (is_node Kind.ImportDefaultSpecifier t)
are_plain_specifiers ts = each (is_node Kind.ImportSpecifier) ts

abbrev pub behind_default : Bool → Term → Terms → Bool
behind_default true t ts = are_plain_specifiers ts
behind_default false t ts = are_plain_specifiers (more t ts)

abbrev pub is_import_clause : Terms → Bool
is_import_clause none = true
is_import_clause (more t ts) = behind_default (is_node Kind.ImportDefaultSpecifier t) t ts

-- A method definition has the kind `constructor` exactly where it is not static and its key is, without brackets,
-- the name or the string `constructor` (15.7.1).
abbrev pub is_constructor_key : Term → Bool
is_constructor_key t = (is_node Kind.IdentifierName t || is_node Kind.StringLiteral t) && is_text (text_of t) (codes "constructor")

abbrev pub same : Bool → Bool → Bool
same true b = b
same false b = not b

abbrev pub is_method_definition : List Text → Terms → Bool
is_method_definition texts ts = same (first_is (codes "constructor") texts) (not (is_set_at 1 texts) && not (is_set_at 2 texts) && is_constructor_key (kid 0 ts))

-- A mark of shorthand stands where the key and the value, or the left side of the value's default, are one name
-- (13.2.5, 13.15.5, 14.3.3).
abbrev mutual
  pub is_value_of : Text → Term → Bool
  is_value_of x (node Kind.Identifier texts ts) = first_is x texts
  is_value_of x (node Kind.BindingIdentifier texts ts) = first_is x texts
  is_value_of x (node Kind.AssignmentPattern texts ts) = is_first_value_of x ts
  is_value_of x (node Kind.AssignmentTargetWithDefault texts ts) = is_first_value_of x ts
  is_value_of x t = false

  pub is_first_value_of : Text → Terms → Bool
  is_first_value_of x none = false
  is_first_value_of x (more t ts) = is_value_of x t

abbrev pub is_one_name : Terms → Bool
is_one_name ts = is_node Kind.IdentifierName (kid 0 ts) && is_value_of (text_of (kid 0 ts)) (kid 1 ts)

abbrev pub marks_shorthand : Text → Terms → Bool
marks_shorthand mark ts = not (is_set mark) || is_one_name ts

-- a getter or setter has no flag of a method (13.2.5)
abbrev pub is_property : List Text → Terms → Bool
is_property texts ts = (first_is (codes "init") texts || not (is_set_at 1 texts)) && marks_shorthand (text_at 2 texts) ts

abbrev pub is_sound : Kind → List Text → Terms → Bool
is_sound Kind.IfStatement texts ts = leaves_else ts
is_sound Kind.ForOfStatement texts ts = is_for_of texts ts
is_sound Kind.TryStatement texts ts = is_try ts
is_sound Kind.SwitchStatement texts ts = is_switch ts
is_sound Kind.TemplateLiteral texts ts = is_template ts
is_sound Kind.ImportDeclaration texts ts = is_import_clause (parts_of (kid 0 ts))
is_sound Kind.MethodDefinition texts ts = is_method_definition texts ts
is_sound Kind.ObjectProperty texts ts = is_property texts ts
is_sound Kind.BindingProperty texts ts = marks_shorthand (text_at 1 texts) ts
is_sound Kind.AssignmentTargetProperty texts ts = marks_shorthand (text_at 1 texts) ts
is_sound k texts ts = true

-- The shapes: each node stands at a place that takes it, has the texts and as many parts as its kind asks for,
-- and the sentences on its kind hold.
abbrev pub places_of : Place → Kind → List Text → List Place
places_of p k texts = places_at (sort_of p Sort.expression) k texts

abbrev pub place_inside : Place → Kind → List Text → Terms → ℕ → Place
place_inside p k texts ts n = place_at n (places_of p k texts)

abbrev pub fits : Place → Kind → List Text → Terms → Bool
fits p k texts ts = takes_node p k texts && has_texts k texts && are_as_many (places_of p k texts) ts && is_sound k texts ts

abbrev pub has_shape : Place → Term → Bool
has_shape = everywhere place_inside item_place fits takes_list takes_absent

-- Optional links stand only on the spine of a chain: its element, and the objects and callees below that are calls
-- or members (13.3). Each chain has one. The context says whether a place is on a spine.
abbrev pub spine_inside : Bool → Kind → List Text → Terms → ℕ → Bool
spine_inside on Kind.ChainExpression texts ts n = true
spine_inside on Kind.CallExpression texts ts n = first_then on false n
spine_inside on Kind.StaticMemberExpression texts ts n = first_then on false n
spine_inside on Kind.ComputedMemberExpression texts ts n = first_then on false n
spine_inside on Kind.PrivateFieldExpression texts ts n = first_then on false n
spine_inside on k texts ts n = false

abbrev mutual
  pub has_link : Term → Bool
  has_link (node Kind.CallExpression texts ts) = is_set_at 0 texts || first_has_link ts
  has_link (node Kind.StaticMemberExpression texts ts) = is_set_at 0 texts || first_has_link ts
  has_link (node Kind.ComputedMemberExpression texts ts) = is_set_at 0 texts || first_has_link ts
  has_link (node Kind.PrivateFieldExpression texts ts) = is_set_at 0 texts || first_has_link ts
  has_link t = false

  pub first_has_link : Terms → Bool
  first_has_link none = false
  first_has_link (more t ts) = has_link t

abbrev pub allows_links : Bool → Kind → List Text → Terms → Bool
allows_links on Kind.ChainExpression texts ts = first_has_link ts
allows_links on Kind.CallExpression texts ts = on || not (is_set_at 0 texts)
allows_links on Kind.StaticMemberExpression texts ts = on || not (is_set_at 0 texts)
allows_links on Kind.ComputedMemberExpression texts ts = on || not (is_set_at 0 texts)
allows_links on Kind.PrivateFieldExpression texts ts = on || not (is_set_at 0 texts)
allows_links on k texts ts = true

abbrev pub has_chains : Term → Bool
has_chains = at_each_node spine_inside allows_links false

-- a tree that may stand at a place of this sort
abbrev pub is_printable_at : Sort → Term → Bool
is_printable_at s t = has_shape (one s) t && has_chains t && has_super_at_home t

-- a module that the printer writes
abbrev pub is_printable : Term → Bool
is_printable = is_printable_at (Sort.only Kind.Program)
