-- Functions, methods, classes and the properties of objects that stand in a text are read, from what is read below.
use Rattle.std.proofs.Common.{ℕ, Bool, false, List, [], refl, codes}
use Rattle.std.specs.Str.{IsUtf8}
use Rattle.js_term.specs.Term.{Text, Term, all}
use Rattle.js_term.specs.declared.kind.Kind.{Kind}
use Rattle.js_syntax.specs.Tokens.{Sign}
use Rattle.js_syntax.specs.Spelling as spell
use Rattle.js_syntax.specs.Spelling.{Item, Listed, Group, Rested, Rest, MethodFunction, Parameters, FunctionText, ClassText, Heritage, Elements, ClassElement, Body, Pattern}
use Rattle.js_reading.proofs.StatementsBelow.{statements_below}
use Rattle.js_reading.proofs.Below.{Fits, Small, Smalls, Below, first_in, second_in, third_in, items_in, head_in, tail_in, fits, key_below, member_key_below}
use Rattle.js_reading.proofs.TokensThere.{see_sign, see_word}
use Rattle.js_reading.proofs.Methods.{method_field, accessor_field, accessor_marked, found_utf8, marks_utf8}
use Rattle.js_reading.proofs.Listings.{FoundGroup, FoundItem, FoundList, and_found, comma_found, last_found, none_found, some_found}
use Rattle.js_reading.proofs.Grouped.{property_of}
use Rattle.js_reading.proofs.Functions.{IsReadBody, IsReadFormals, IsReadMethod, IsReadParameter, IsReadParameters, IsReadRested, formals_read, initializer_read, method_read, no_initializer_read, no_parameters_read, parameter_read, rest_parameter_read, some_parameters_read}
use Rattle.js_reading.proofs.FunctionTexts.{IsReadParameterList, and_parameter, async_utf8, class_text, function_text, last_parameter, naming_utf8, star_utf8}
use Rattle.js_reading.proofs.Fields.{item_utf8, property_field, shorthand_field, spread_field}
use Rattle.js_reading.proofs.Elements.{element_read, static_utf8}
use Rattle.js_reading.proofs.Classes.{IsReadElement, IsReadElements, IsReadHeritage, heritage_read, lone_semicolon_read, next_element_read, no_elements_read, no_heritage_read, static_block_read}
use Rattle.js_reading.proofs.ClassElements.{bare_field, constructor_element, method_marked, valued_field}
use Rattle.js_reading.proofs.Claims.{IsReadClass, IsReadFunction, IsReadPattern}
use Rattle.js_reading.proofs.Bodies.{body_text, directives_text_read}

module _ {d : ℕ} (below : Below d) where
  -- ---- functions

  pub pattern_bound : {p : Term} {a b : Text} → Pattern p a b → IsUtf8 a → Small d p → IsReadPattern p a b
  pattern_bound p u f = let r = below.pattern p u f in r.bound

  rest_below : {r : Term} {a b : Text} → Rest spell.parameter r a b → IsUtf8 a → Small d r → IsReadParameters [] r false a b
  rest_below (spell.rest_parameter tok p) u f = let t = see_sign tok u in rest_parameter_read t (pattern_bound p t.utf8 (first_in (fits (first_in (fits f)))))

  parameter_item_below : {p : Term} {a b : Text} → Item spell.parameter p a b → IsUtf8 a → Small d p → IsReadParameter p a b
  parameter_item_below (spell.a_parameter p) u f = let r = pattern_bound p u (first_in (fits f)) in parameter_read r (no_initializer_read r.utf8)
  parameter_item_below (spell.an_optional_parameter p tok e) u f = let r = pattern_bound p u (first_in (fits f)) in let t = see_sign tok r.utf8 in parameter_read r (initializer_read t (below.stands e t.utf8 (second_in (fits f))))

  parameter_list_below : {ps : List Term} {a b : Text} → Listed spell.parameter ps a b → IsUtf8 a → Smalls d (all ps) → IsReadParameterList ps a b
  parameter_list_below (spell.last p) u f = last_parameter (parameter_item_below p u (head_in f))
  parameter_list_below (spell.and p tok rest) u f = let r = parameter_item_below p u (head_in f) in let t = see_sign tok r.utf8 in and_parameter r t (parameter_list_below rest t.utf8 (tail_in f))

  rested_parameters_below : {t : Bool} {ps : List Term} {r : Term} {a b : Text} → Rested t spell.parameter ps r a b → IsUtf8 a → Smalls d (all ps) → Small d r → IsReadRested t ps r a b
  rested_parameters_below (spell.no_rest spell.no_items) u f f' = no_parameters_read u
  rested_parameters_below (spell.no_rest (spell.items h l)) u f f' = let r = parameter_list_below l u f in some_parameters_read r.alone refl
  rested_parameters_below (spell.no_rest (spell.trailing l tok)) u f f' = let r = parameter_list_below l u f in some_parameters_read (r.trailing _ (see_sign tok r.utf8)) refl
  rested_parameters_below (spell.no_rest_closed h l) u f f' = let r = parameter_list_below l u f in some_parameters_read r.alone refl
  rested_parameters_below spell.nothing u f f' = no_parameters_read u
  rested_parameters_below (spell.rest_alone x) u f f' = some_parameters_read (rest_below x u f') refl
  rested_parameters_below (spell.and_rest l tok x) u f f' = let r = parameter_list_below l u f in let t = see_sign tok r.utf8 in some_parameters_read (r.before _ _ _ t (rest_below x t.utf8 f')) refl

  formals_below : {t : Bool} {ps : Term} {a b : Text} → Parameters t ps a b → IsUtf8 a → Fits d ps → IsReadFormals t ps a b
  formals_below (spell.parameters x ps y) u f = let t = see_sign x u in let r = rested_parameters_below ps t.utf8 (items_in (first_in f)) (second_in f) in formals_read t r (see_sign y r.utf8)

  pub body_below : {t : Term} {a b : Text} → Body t a b → IsUtf8 a → Fits d t → IsReadBody t a b
  body_below (spell.body free x ds ss y) u f = let t = see_sign x u in let r = directives_text_read ds t.utf8 in let q = statements_below below ss r.utf8 (items_in (second_in f)) in body_text free t r q (see_sign y q.utf8)

  method_function_below : {t : Bool} {async star : Text} {f : Term} {a b : Text} → MethodFunction t async star f a b → IsUtf8 a → Fits d f → IsReadMethod t async star f a b
  method_function_below (spell.method_function ps t) u f = let r = formals_below ps u (fits (second_in f)) in method_read _ _ _ r (body_below t r.utf8 (fits (third_in f)))

  pub function_below : {k : Kind} {f : Term} {a b : Text} → FunctionText k f a b → IsUtf8 a → Fits d f → IsReadFunction k f a b
  function_below (spell.function async tok star id ps t) u f = let x = see_word tok (async_utf8 async u) in let r = formals_below ps (naming_utf8 id (star_utf8 star x.utf8)) (fits (second_in f)) in function_text async u x star id r (body_below t r.utf8 (fits (third_in f)))

  -- ---- the properties of an object

  property_below : {e : Term} {a b : Text} → Item spell.property_item e a b → IsUtf8 a → Small d e → FoundItem property_of false e a b
  property_below (spell.a_method (spell.method async star k g) h) u f = let r = member_key_below below k (marks_utf8 async star u) (first_in (fits f)) in method_field async star u r h (method_function_below g (found_utf8 r) (fits (second_in (fits f))))
  property_below (spell.an_accessor (spell.getter tok k g) h) u f = let t = see_word tok u in let r = member_key_below below k t.utf8 (first_in (fits f)) in accessor_field refl t r h (method_function_below g (found_utf8 r) (fits (second_in (fits f))))
  property_below (spell.an_accessor (spell.setter tok k g) h) u f = let t = see_word tok u in let r = member_key_below below k t.utf8 (first_in (fits f)) in accessor_field refl t r h (method_function_below g (found_utf8 r) (fits (second_in (fits f))))
  property_below (spell.a_property k tok e) u f = let r = key_below below k u (first_in (fits f)) in let t = see_sign tok (item_utf8 r) in property_field r t (below.stands e t.utf8 (second_in (fits f)))
  property_below (spell.a_shorthand free tok) u f = shorthand_field free (see_word tok u)
  property_below (spell.a_spread_property (spell.spread tok s)) u f = let t = see_sign tok u in spread_field t (below.stands s t.utf8 (first_in (fits f)))

  property_list_below : {es : List Term} {a b : Text} → Listed spell.property_item es a b → IsUtf8 a → Smalls d (all es) → FoundList property_of false es a b
  property_list_below (spell.last e) u f = last_found (property_below e u (head_in f))
  property_list_below (spell.and e tok rest) u f = let r = property_below e u (head_in f) in let t = see_sign tok r.utf8 in and_found r t (property_list_below rest t.utf8 (tail_in f))

  pub property_group_below : {es : List Term} {a b : Text} → Group spell.property_item es a b → IsUtf8 a → Smalls d (all es) → FoundGroup property_of es a b
  property_group_below spell.no_items u f = none_found u
  property_group_below (spell.items h l) u f = some_found refl (property_list_below l u f)
  property_group_below (spell.trailing l tok) u f = let r = property_list_below l u f in comma_found r (see_sign tok r.utf8)

  -- ---- classes

  heritage_below : {h : Term} {a b c : Text} → Heritage h a b → Sign (codes "{") b c → IsUtf8 a → Small d h → IsReadHeritage h a b
  heritage_below spell.no_heritage y u f = no_heritage_read u (see_sign y u)
  heritage_below (spell.heritage tok h e) y u f = let t = see_word tok u in let r = below.stands e t.utf8 f in heritage_read t h r (see_sign y r.utf8)

  class_element_below : {e : Term} {a b : Text} → ClassElement e a b → IsUtf8 a → Small d e → IsReadElement e a b
  class_element_below (spell.static_block tok x ss y) u f = let t = see_word tok u in let o = see_sign x t.utf8 in let r = statements_below below ss o.utf8 (items_in (first_in (fits f))) in static_block_read t o r (see_sign y r.utf8)
  class_element_below (spell.constructor_element h k g) u f = let r = member_key_below below k u (first_in (fits f)) in constructor_element h r (method_function_below g (found_utf8 r) (fits (second_in (fits f))))
  class_element_below (spell.method_element h st (spell.method async star k g)) u f = let v = static_utf8 st u in let r = member_key_below below k (marks_utf8 async star v) (first_in (fits f)) in element_read st u (method_marked h async star v r (method_function_below g (found_utf8 r) (fits (second_in (fits f)))))
  class_element_below (spell.accessor_element h st (spell.getter tok k g)) u f = let t = see_word tok (static_utf8 st u) in let r = member_key_below below k t.utf8 (first_in (fits f)) in element_read st u (accessor_marked h refl t r (method_function_below g (found_utf8 r) (fits (second_in (fits f)))))
  class_element_below (spell.accessor_element h st (spell.setter tok k g)) u f = let t = see_word tok (static_utf8 st u) in let r = member_key_below below k t.utf8 (first_in (fits f)) in element_read st u (accessor_marked h refl t r (method_function_below g (found_utf8 r) (fits (second_in (fits f)))))
  class_element_below (spell.field_element st k spell.no_initializer end) u f = element_read st u (bare_field (member_key_below below k (static_utf8 st u) (first_in (fits f))) end)
  class_element_below (spell.field_element st k (spell.initializer tok e) end) u f = let r = member_key_below below k (static_utf8 st u) (first_in (fits f)) in let t = see_sign tok (found_utf8 r) in element_read st u (valued_field r t (below.stands e t.utf8 (second_in (fits f))) end)

  elements_below : {es : List Term} {a b c : Text} → Elements es a b → Sign (codes "}") b c → IsUtf8 a → Smalls d (all es) → IsReadElements es a b c
  elements_below spell.no_elements y u f = no_elements_read (see_sign y u)
  elements_below (spell.lone_semicolon tok es) y u f = let t = see_sign tok u in lone_semicolon_read t (elements_below es y t.utf8 f)
  elements_below (spell.next_element e es) y u f = let r = class_element_below e u (head_in f) in next_element_read r (elements_below es y r.utf8 (tail_in f))

  pub class_below : {k : Kind} {c : Term} {a b : Text} → ClassText k c a b → IsUtf8 a → Fits d c → IsReadClass k c a b
  class_below (spell.class tok id h x es y) u f = let t = see_word tok u in let r = heritage_below h x (naming_utf8 id t.utf8) (second_in f) in let o = see_sign x r.utf8 in class_text t id r o (elements_below es y o.utf8 (items_in (first_in (fits (third_in f)))))
