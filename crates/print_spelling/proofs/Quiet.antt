-- Which places are those of a template behind a tag: the second one of a tagged template alone.
use Rattle.std.proofs.Common.{◌≡◌, refl, List, [], ◌∷◌, Bool, true, false, not, ◌&&◌, ◌||◌, cond}
use Rattle.std.specs.Prelude.{codes}
use Rattle.js_term.specs.Term.{Text}
use Rattle.js_term.specs.declared.kind.Kind.{Kind}
use Rattle.js_syntax.specs.Parts.{first_is, is_set_at}
use Rattle.js_syntax.specs.Sorts.{Sort, Place, item_place}
use Rattle.js_syntax.specs.Places.{places, places_at, key_place, method_place, value_place}
use Rattle.print_spelling.proofs.Tokens.{differ}
use Rattle.print_spelling.proofs.Claims.{Mode, tagged}

abbrev pub is_quasi : Sort → Bool
is_quasi Sort.tagged_template = true
is_quasi s = false

abbrev pub within : Place → Sort
within (Place.one s) = s
within (Place.optional s) = s
within (Place.many s) = s
within (Place.some s) = s
within (Place.single s) = s
within (Place.several s) = s
within (Place.spaced s) = s
within (Place.optional_list s) = s
within p = Sort.expression

abbrev pub is_tagged : Mode → Bool
is_tagged tagged = true
is_tagged m = false

-- a place that takes the part in its mode
abbrev pub agrees : Place → Mode → Bool
agrees p m = not (is_quasi (within p)) || is_tagged m

pub item_agrees : (p : Place) (m : Mode) → agrees p m ≡ true → agrees (item_place p) m ≡ true
item_agrees (Place.one s) m h = refl
item_agrees (Place.optional s) m h = refl
item_agrees Place.nothing m h = refl
item_agrees (Place.many s) m h = h
item_agrees (Place.some s) m h = h
item_agrees (Place.single s) m h = h
item_agrees (Place.several s) m h = h
item_agrees (Place.spaced s) m h = h
item_agrees (Place.optional_list s) m h = h
item_agrees Place.nowhere m h = refl

abbrev pub are_quiet : List Place → Bool
are_quiet [] = true
are_quiet (p ∷ ps) = not (is_quasi (within p)) && are_quiet ps

keyed : (b : Bool) (p : Place) → are_quiet (p ∷ []) ≡ true → are_quiet (key_place b Sort.key ∷ p ∷ []) ≡ true
keyed true p h = h
keyed false p h = h

class_keyed : (b : Bool) (p : Place) → are_quiet (p ∷ []) ≡ true → are_quiet (key_place b Sort.class_key ∷ p ∷ []) ≡ true
class_keyed true p h = h
class_keyed false p h = h

method_quiet : (b : Bool) → are_quiet (method_place b ∷ []) ≡ true
method_quiet true = refl
method_quiet false = refl

either_quiet : (b : Bool) (p q : Place) (ps : List Place) → are_quiet (p ∷ ps) ≡ true → are_quiet (q ∷ ps) ≡ true → are_quiet (cond b p q ∷ ps) ≡ true
either_quiet true p q ps h k = h
either_quiet false p q ps h k = k

value_quiet : (a b : Bool) → are_quiet (cond a (cond b (Place.one Sort.method) (Place.one Sort.expression)) (Place.one Sort.plain_method) ∷ []) ≡ true
value_quiet true true = refl
value_quiet true false = refl
value_quiet false b = refl

abbrev pub is_tagged_kind : Kind → Bool
is_tagged_kind Kind.TaggedTemplateExpression = true
is_tagged_kind k = false

places_quiet : (k : Kind) (texts : List Text) → is_tagged_kind k ≡ false → are_quiet (places k texts) ≡ true
places_quiet Kind.TaggedTemplateExpression texts h = differ h
places_quiet Kind.MethodDefinition texts h = class_keyed (is_set_at 1 texts) (method_place (first_is (codes "method") texts)) (method_quiet (first_is (codes "method") texts))
places_quiet Kind.PropertyDefinition texts h = class_keyed (is_set_at 0 texts) (Place.optional Sort.expression) refl
places_quiet Kind.BindingProperty texts h = keyed (is_set_at 0 texts) (Place.one Sort.pattern_element) refl
places_quiet Kind.AssignmentTargetProperty texts h = keyed (is_set_at 0 texts) (Place.one Sort.target_element) refl
places_quiet Kind.ObjectProperty texts h = keyed (is_set_at 3 texts) (value_place texts) (value_quiet (first_is (codes "init") texts) (is_set_at 1 texts))
places_quiet Kind.AssignmentExpression texts h = either_quiet (first_is (codes "=") texts) (Place.one Sort.target) (Place.one Sort.simple_target) (Place.one Sort.expression ∷ []) refl refl
places_quiet Kind.YieldExpression texts h = either_quiet (is_set_at 0 texts) (Place.one Sort.expression) (Place.optional Sort.expression) [] refl refl
places_quiet Kind.CallExpression texts h = either_quiet (is_set_at 0 texts) (Place.one Sort.expression) (Place.one Sort.object) (Place.many Sort.argument ∷ []) refl refl
places_quiet Kind.StaticMemberExpression texts h = either_quiet (is_set_at 0 texts) (Place.one Sort.expression) (Place.one Sort.object) (Place.one (Sort.only Kind.IdentifierName) ∷ []) refl refl
places_quiet Kind.ComputedMemberExpression texts h = either_quiet (is_set_at 0 texts) (Place.one Sort.expression) (Place.one Sort.object) (Place.one Sort.expression ∷ []) refl refl
places_quiet k texts h = refl

pub quiet : (s : Sort) (k : Kind) (texts : List Text) → is_tagged_kind k ≡ false → are_quiet (places_at s k texts) ≡ true
quiet Sort.exported_default Kind.FunctionDeclaration texts h = refl
quiet Sort.exported_default Kind.ClassDeclaration texts h = refl
quiet Sort.method Kind.FunctionExpression texts h = refl
quiet Sort.plain_method Kind.FunctionExpression texts h = refl
quiet Sort.for_left Kind.VariableDeclaration texts h = refl
quiet Sort.for_declarator Kind.VariableDeclarator texts h = refl
quiet Sort.export_from_specifier Kind.ExportSpecifier texts h = refl
quiet Sort.object_rest Kind.BindingRestElement texts h = refl
quiet Sort.object_target_rest Kind.AssignmentTargetRest texts h = refl
quiet Sort.tagged_template Kind.TemplateLiteral texts h = refl
quiet s k texts h = places_quiet k texts h
