-- Lists of expressions, targets, patterns and parameters that stand in a text are read, from what is read below.
use Rattle.std.proofs.Common.{ℕ, Bool, true, false, List, refl}
use Rattle.std.specs.Str.{IsUtf8}
use Rattle.std.proofs.lemmas.Bool.{false≢true}
use Rattle.js_term.specs.Term.{Text, Term, absent, all}
use Rattle.js_syntax.specs.Spelling as spell
use Rattle.js_syntax.specs.Spelling.{Item, Listed, Group, Rested, Rest, Arguments, ImportOptions, Parameters, DefaultedTarget, Defaulted}
use Rattle.js_reading.proofs.TokensThere.{see_sign, see_word}
use Rattle.js_reading.proofs.Below.{Small, Smalls, Below, first_in, second_in, head_in, tail_in, fits, key_below, items_in}
use Rattle.js_reading.proofs.PatternsRead.{arrow_parameters_read, binding_rest, parameter_alone, parameter_default, parameter_rest_cover, pattern_alone, pattern_default, pattern_utf8, target_alone, target_default, target_rest}
use Rattle.js_reading.proofs.Listings.{ElementList, FoundGroup, FoundItem, FoundList, and_element, and_found, comma_found, element_of, elements_comma, elements_found, hole_element, item_of, last_element, last_found, last_hole, none_found, some_found, spread_element, spread_item, stands_element, stands_item}
use Rattle.js_reading.proofs.Grouped.{ParenList, and_paren, last_paren, property_of}
use Rattle.js_reading.proofs.Fields.{item_utf8}
use Rattle.js_reading.proofs.Dispatching.{no_spread, call_text, stands_starts, target_starts}
use Rattle.js_reading.proofs.CoverProperties.{binding_initial, binding_pair, binding_properties_rest, binding_shorthand, target_initial, target_pair, target_properties_rest, target_shorthand}
use Rattle.js_reading.proofs.CoverItems.{elements, properties, DefaultCover, as_elements, as_parameters, as_properties, as_targets, element_cover, hole_cover, parenthesized_cover}
use Rattle.js_reading.proofs.Calls.{CallRead, OptionsRead, no_options_comma_read, no_options_read, options_comma_read, options_read}
use Rattle.js_reading.proofs.Becoming.{GroupCover, ItemCover, ListedCover, RestCover, and_listed, and_rest_group, hole_listed, last_listed, listed_group, listed_utf8, nothing_cover, rest_group, trailing_group}
use Rattle.js_reading.proofs.Arrows.{ParametersRead}

module _ {d : ℕ} (below : Below d) where
  -- ---- what stands in parentheses

  pub paren_list_below : {es : List Term} {a b : Text} → Listed (spell.expression true) es a b → IsUtf8 a → Smalls d (all es) → ParenList es a b
  paren_list_below (spell.last (spell.an_expression s)) u f = last_paren (below.stands s u (head_in f)) (stands_starts s u) (no_spread s)
  paren_list_below (spell.and (spell.an_expression s) tok rest) u f = let r = below.stands s u (head_in f) in let t = see_sign tok r.utf8 in and_paren r (stands_starts s u) (no_spread s) t (paren_list_below rest t.utf8 (tail_in f))

  argument_below : (w : Bool) {e : Term} {a b : Text} → Item spell.argument e a b → IsUtf8 a → Small d e → FoundItem (item_of w) false e a b
  argument_below w (spell.an_argument s) u f = stands_item w (below.stands s u f) (stands_starts s u)
  argument_below w (spell.a_spread_argument (spell.spread tok s)) u f = let t = see_sign tok u in spread_item w t (below.stands s t.utf8 (first_in (fits f)))

  argument_list_below : (w : Bool) {es : List Term} {a b : Text} → Listed spell.argument es a b → IsUtf8 a → Smalls d (all es) → FoundList (item_of w) false es a b
  argument_list_below w (spell.last e) u f = last_found (argument_below w e u (head_in f))
  argument_list_below w (spell.and e tok rest) u f = let r = argument_below w e u (head_in f) in let t = see_sign tok r.utf8 in and_found r t (argument_list_below w rest t.utf8 (tail_in f))

  argument_group_below : (w : Bool) {es : List Term} {a b : Text} → Group spell.argument es a b → IsUtf8 a → Smalls d (all es) → FoundGroup (item_of w) es a b
  argument_group_below w spell.no_items u f = none_found u
  argument_group_below w (spell.items h l) u f = some_found refl (argument_list_below w l u f)
  argument_group_below w (spell.trailing l tok) u f = let r = argument_list_below w l u f in comma_found r (see_sign tok r.utf8)

  pub call_below : {es : List Term} {a b : Text} → Arguments es a b → IsUtf8 a → Smalls d (all es) → CallRead es a b
  call_below (spell.arguments x g y) u f = let t = see_sign x u in let r = argument_group_below true g t.utf8 f in call_text t r (argument_group_below false g t.utf8 f) (see_sign y r.utf8)

  pub options_below : {o : Term} {a b : Text} → ImportOptions o a b → IsUtf8 a → Small d o → OptionsRead o a b
  options_below spell.no_options u f = no_options_read u
  options_below (spell.no_options_comma tok) u f = no_options_comma_read (see_sign tok u)
  options_below (spell.options tok e) u f = let t = see_sign tok u in let r = below.stands e t.utf8 f in options_read t (stands_starts e t.utf8) r.read r.utf8
  options_below (spell.options_comma tok e tok') u f = let t = see_sign tok u in let r = below.stands e t.utf8 f in options_comma_read t (stands_starts e t.utf8) r.read (see_sign tok' r.utf8)

  -- ---- the elements of an array

  element_list_below : {es : List Term} {a b : Text} → Listed spell.element es a b → IsUtf8 a → Smalls d (all es) → ElementList es a b
  element_list_below (spell.last (spell.an_element s)) u f = last_element (stands_element (below.stands s u (head_in f)) (stands_starts s u))
  element_list_below (spell.last (spell.a_spread_element (spell.spread tok s))) u f = let t = see_sign tok u in last_element (spread_element t (below.stands s t.utf8 (first_in (fits (head_in f)))))
  element_list_below (spell.last spell.an_elision) u f = last_hole (hole_element u)
  element_list_below (spell.and (spell.an_element s) tok rest) u f = let r = stands_element (below.stands s u (head_in f)) (stands_starts s u) in let k = see_sign tok r.utf8 in and_element r k (element_list_below rest k.utf8 (tail_in f))
  element_list_below (spell.and (spell.a_spread_element (spell.spread x s)) tok rest) u f = let t = see_sign x u in let r = spread_element t (below.stands s t.utf8 (first_in (fits (head_in f)))) in let k = see_sign tok r.utf8 in and_element r k (element_list_below rest k.utf8 (tail_in f))
  element_list_below (spell.and spell.an_elision tok rest) u f = let k = see_sign tok u in and_element (hole_element u) k (element_list_below rest k.utf8 (tail_in f))

  pub element_group_below : {es : List Term} {a b : Text} → Group spell.element es a b → IsUtf8 a → Smalls d (all es) → FoundGroup element_of es a b
  element_group_below spell.no_items u f = none_found u
  element_group_below (spell.items h l) u f = elements_found h (element_list_below l u f)
  element_group_below (spell.trailing l tok) u f = let r = element_list_below l u f in let g = r.list in elements_comma r (see_sign tok g.utf8)

  -- ---- targets

  defaulted_target_below : {t : Term} {a b : Text} → DefaultedTarget t a b → IsUtf8 a → Small d t → DefaultCover as_targets.item t a b
  defaulted_target_below (spell.target_alone t) u f = target_alone (below.target t u f) (target_starts t u)
  defaulted_target_below (spell.target_default t tok e) u f = let r = below.target t u (first_in (fits f)) in let k = see_sign tok r.utf8 in target_default r (target_starts t u) k (below.stands e k.utf8 (second_in (fits f)))

  target_property_below : {p : Term} {a b : Text} → Item spell.target_property p a b → IsUtf8 a → Small d p → ItemCover properties as_targets property_of false p a b
  target_property_below (spell.a_target_pair k tok t) u f = let r = key_below below k u (first_in (fits f)) in let x = see_sign tok (item_utf8 r) in target_pair r x (defaulted_target_below t x.utf8 (second_in (fits f)))
  target_property_below (spell.a_target_shorthand free tok) u f = target_shorthand free (see_word tok u)
  target_property_below (spell.a_target_default free tok tok' e) u f = let t = see_word tok u in let t' = see_sign tok' t.utf8 in target_initial free t t' (below.stands e t'.utf8 (second_in (fits (second_in (fits f)))))

  target_property_rest_below : {r : Term} {a b : Text} → Rest spell.target_property r a b → IsUtf8 a → Small d r → RestCover properties as_targets property_of r a b
  target_property_rest_below (spell.rest_target_properties h tok (spell.simple_target h' s)) u f = let t = see_sign tok u in target_properties_rest h t (below.stands s t.utf8 (first_in (fits f)))
  target_property_rest_below (spell.rest_target_properties h tok (spell.object_target x g y)) u f = absurd (false≢true h)
  target_property_rest_below (spell.rest_target_properties h tok (spell.array_target x g y)) u f = absurd (false≢true h)

  target_property_list_below : {ps : List Term} {a b : Text} → Listed spell.target_property ps a b → IsUtf8 a → Smalls d (all ps) → ListedCover properties as_targets property_of ps a b
  target_property_list_below (spell.last x) u f = last_listed (target_property_below x u (head_in f))
  target_property_list_below (spell.and x tok rest) u f = let r = target_property_below x u (head_in f) in let t = see_sign tok r.utf8 in and_listed r t (target_property_list_below rest t.utf8 (tail_in f))

  target_property_group_below : {ps : List Term} {a b : Text} → Group spell.target_property ps a b → IsUtf8 a → Smalls d (all ps) → GroupCover properties as_targets property_of ps absent a b
  target_property_group_below spell.no_items u f = nothing_cover u
  target_property_group_below (spell.items h l) u f = listed_group h (target_property_list_below l u f)
  target_property_group_below (spell.trailing l tok) u f = let r = target_property_list_below l u f in trailing_group r (see_sign tok (listed_utf8 r))

  pub target_properties_below : {ps : List Term} {r : Term} {a b : Text} → Rested true spell.target_property ps r a b → IsUtf8 a → Smalls d (all ps) → Small d r → GroupCover properties as_targets property_of ps r a b
  target_properties_below (spell.no_rest g) u f f' = target_property_group_below g u f
  target_properties_below (spell.rest_alone x) u f f' = rest_group (target_property_rest_below x u f')
  target_properties_below (spell.and_rest l tok x) u f f' = let r = target_property_list_below l u f in let t = see_sign tok (listed_utf8 r) in and_rest_group r t (target_property_rest_below x t.utf8 f')

  target_element_list_below : {ps : List Term} {a b : Text} → Listed spell.target_element ps a b → IsUtf8 a → Smalls d (all ps) → ListedCover elements as_targets element_of ps a b
  target_element_list_below (spell.last (spell.a_target x)) u f = last_listed (element_cover (defaulted_target_below x u (head_in f)))
  target_element_list_below (spell.last spell.a_target_hole) u f = hole_listed (hole_cover refl u)
  target_element_list_below (spell.and (spell.a_target x) tok rest) u f = let r = defaulted_target_below x u (head_in f) in let t = see_sign tok r.utf8 in and_listed (element_cover r) t (target_element_list_below rest t.utf8 (tail_in f))
  target_element_list_below (spell.and spell.a_target_hole tok rest) u f = let t = see_sign tok u in and_listed (hole_cover refl u) t (target_element_list_below rest t.utf8 (tail_in f))

  target_element_rest_below : {r : Term} {a b : Text} → Rest spell.target_element r a b → IsUtf8 a → Small d r → RestCover elements as_targets element_of r a b
  target_element_rest_below (spell.rest_target tok t) u f = let x = see_sign tok u in target_rest x (below.target t x.utf8 (first_in (fits f)))

  target_element_group_below : {ps : List Term} {a b : Text} → Group spell.target_element ps a b → IsUtf8 a → Smalls d (all ps) → GroupCover elements as_targets element_of ps absent a b
  target_element_group_below spell.no_items u f = nothing_cover u
  target_element_group_below (spell.items h l) u f = listed_group h (target_element_list_below l u f)
  target_element_group_below (spell.trailing l tok) u f = let r = target_element_list_below l u f in trailing_group r (see_sign tok (listed_utf8 r))

  pub target_elements_below : {ps : List Term} {r : Term} {a b : Text} → Rested true spell.target_element ps r a b → IsUtf8 a → Smalls d (all ps) → Small d r → GroupCover elements as_targets element_of ps r a b
  target_elements_below (spell.no_rest g) u f f' = target_element_group_below g u f
  target_elements_below (spell.rest_alone x) u f f' = rest_group (target_element_rest_below x u f')
  target_elements_below (spell.and_rest l tok x) u f f' = let r = target_element_list_below l u f in let t = see_sign tok (listed_utf8 r) in and_rest_group r t (target_element_rest_below x t.utf8 f')

  -- ---- patterns

  defaulted_pattern_below : {p : Term} {a b : Text} → Defaulted p a b → IsUtf8 a → Small d p → DefaultCover as_elements.item p a b
  defaulted_pattern_below (spell.not_defaulted p) u f = pattern_alone (below.pattern p u f)
  defaulted_pattern_below (spell.defaulted p tok e) u f = let r = below.pattern p u (first_in (fits f)) in let t = see_sign tok (pattern_utf8 r) in pattern_default r t (below.stands e t.utf8 (second_in (fits f)))

  binding_property_below : {p : Term} {a b : Text} → Item spell.binding_property p a b → IsUtf8 a → Small d p → ItemCover properties as_properties property_of false p a b
  binding_property_below (spell.a_binding_pair k tok p) u f = let r = key_below below k u (first_in (fits f)) in let x = see_sign tok (item_utf8 r) in binding_pair r x (defaulted_pattern_below p x.utf8 (second_in (fits f)))
  binding_property_below (spell.a_binding_shorthand free tok) u f = binding_shorthand free (see_word tok u)
  binding_property_below (spell.a_binding_default free tok tok' e) u f = let t = see_word tok u in let t' = see_sign tok' t.utf8 in binding_initial free t t' (below.stands e t'.utf8 (second_in (fits (second_in (fits f)))))

  binding_property_rest_below : {r : Term} {a b : Text} → Rest spell.binding_property r a b → IsUtf8 a → Small d r → RestCover properties as_properties property_of r a b
  binding_property_rest_below (spell.rest_properties free tok x) u f = let t = see_sign tok u in binding_properties_rest free t (see_word x t.utf8)

  binding_element_rest_below : {r : Term} {a b : Text} → Rest spell.binding_element r a b → IsUtf8 a → Small d r → RestCover elements as_elements element_of r a b
  binding_element_rest_below (spell.rest_binding tok p) u f = let t = see_sign tok u in binding_rest t (below.pattern p t.utf8 (first_in (fits f)))

  binding_property_list_below : {ps : List Term} {a b : Text} → Listed spell.binding_property ps a b → IsUtf8 a → Smalls d (all ps) → ListedCover properties as_properties property_of ps a b
  binding_property_list_below (spell.last x) u f = last_listed (binding_property_below x u (head_in f))
  binding_property_list_below (spell.and x tok rest) u f = let r = binding_property_below x u (head_in f) in let t = see_sign tok r.utf8 in and_listed r t (binding_property_list_below rest t.utf8 (tail_in f))

  binding_property_group_below : {ps : List Term} {a b : Text} → Group spell.binding_property ps a b → IsUtf8 a → Smalls d (all ps) → GroupCover properties as_properties property_of ps absent a b
  binding_property_group_below spell.no_items u f = nothing_cover u
  binding_property_group_below (spell.items h l) u f = listed_group h (binding_property_list_below l u f)
  binding_property_group_below (spell.trailing l tok) u f = let r = binding_property_list_below l u f in trailing_group r (see_sign tok (listed_utf8 r))

  pub binding_properties_below : {ps : List Term} {r : Term} {a b : Text} → Rested true spell.binding_property ps r a b → IsUtf8 a → Smalls d (all ps) → Small d r → GroupCover properties as_properties property_of ps r a b
  binding_properties_below (spell.no_rest g) u f f' = binding_property_group_below g u f
  binding_properties_below (spell.rest_alone x) u f f' = rest_group (binding_property_rest_below x u f')
  binding_properties_below (spell.and_rest l tok x) u f f' = let r = binding_property_list_below l u f in let t = see_sign tok (listed_utf8 r) in and_rest_group r t (binding_property_rest_below x t.utf8 f')

  binding_element_list_below : {ps : List Term} {a b : Text} → Listed spell.binding_element ps a b → IsUtf8 a → Smalls d (all ps) → ListedCover elements as_elements element_of ps a b
  binding_element_list_below (spell.last (spell.a_binding x)) u f = last_listed (element_cover (defaulted_pattern_below x u (head_in f)))
  binding_element_list_below (spell.last spell.a_hole) u f = hole_listed (hole_cover refl u)
  binding_element_list_below (spell.and (spell.a_binding x) tok rest) u f = let r = defaulted_pattern_below x u (head_in f) in let t = see_sign tok r.utf8 in and_listed (element_cover r) t (binding_element_list_below rest t.utf8 (tail_in f))
  binding_element_list_below (spell.and spell.a_hole tok rest) u f = let t = see_sign tok u in and_listed (hole_cover refl u) t (binding_element_list_below rest t.utf8 (tail_in f))

  binding_element_group_below : {ps : List Term} {a b : Text} → Group spell.binding_element ps a b → IsUtf8 a → Smalls d (all ps) → GroupCover elements as_elements element_of ps absent a b
  binding_element_group_below spell.no_items u f = nothing_cover u
  binding_element_group_below (spell.items h l) u f = listed_group h (binding_element_list_below l u f)
  binding_element_group_below (spell.trailing l tok) u f = let r = binding_element_list_below l u f in trailing_group r (see_sign tok (listed_utf8 r))

  pub binding_elements_below : {ps : List Term} {r : Term} {a b : Text} → Rested true spell.binding_element ps r a b → IsUtf8 a → Smalls d (all ps) → Small d r → GroupCover elements as_elements element_of ps r a b
  binding_elements_below (spell.no_rest g) u f f' = binding_element_group_below g u f
  binding_elements_below (spell.rest_alone x) u f f' = rest_group (binding_element_rest_below x u f')
  binding_elements_below (spell.and_rest l tok x) u f f' = let r = binding_element_list_below l u f in let t = see_sign tok (listed_utf8 r) in and_rest_group r t (binding_element_rest_below x t.utf8 f')

  -- ---- the parameters of arrow functions (15.3)

  arrow_parameter_below : {p : Term} {a b : Text} → Item spell.parameter p a b → IsUtf8 a → Small d p → ItemCover elements as_parameters (item_of false) false p a b
  arrow_parameter_below (spell.a_parameter p) u f = parenthesized_cover (parameter_alone (below.pattern p u (first_in (fits f))))
  arrow_parameter_below (spell.an_optional_parameter p tok e) u f = let r = below.pattern p u (first_in (fits f)) in let t = see_sign tok (pattern_utf8 r) in parenthesized_cover (parameter_default r t (below.stands e t.utf8 (second_in (fits f))))

  arrow_rest_below : {r : Term} {a b : Text} → Rest spell.parameter r a b → IsUtf8 a → Small d r → RestCover elements as_parameters (item_of false) r a b
  arrow_rest_below (spell.rest_parameter tok p) u f = let t = see_sign tok u in parameter_rest_cover t (below.pattern p t.utf8 (first_in (fits (first_in (fits f)))))

  arrow_parameter_list_below : {ps : List Term} {a b : Text} → Listed spell.parameter ps a b → IsUtf8 a → Smalls d (all ps) → ListedCover elements as_parameters (item_of false) ps a b
  arrow_parameter_list_below (spell.last x) u f = last_listed (arrow_parameter_below x u (head_in f))
  arrow_parameter_list_below (spell.and x tok rest) u f = let r = arrow_parameter_below x u (head_in f) in let t = see_sign tok r.utf8 in and_listed r t (arrow_parameter_list_below rest t.utf8 (tail_in f))

  arrow_parameter_group_below : {ps : List Term} {a b : Text} → Group spell.parameter ps a b → IsUtf8 a → Smalls d (all ps) → GroupCover elements as_parameters (item_of false) ps absent a b
  arrow_parameter_group_below spell.no_items u f = nothing_cover u
  arrow_parameter_group_below (spell.items h l) u f = listed_group h (arrow_parameter_list_below l u f)
  arrow_parameter_group_below (spell.trailing l tok) u f = let r = arrow_parameter_list_below l u f in trailing_group r (see_sign tok (listed_utf8 r))

  arrow_parameters_below : {ps : List Term} {r : Term} {a b : Text} → Rested true spell.parameter ps r a b → IsUtf8 a → Smalls d (all ps) → Small d r → GroupCover elements as_parameters (item_of false) ps r a b
  arrow_parameters_below (spell.no_rest g) u f f' = arrow_parameter_group_below g u f
  arrow_parameters_below (spell.rest_alone x) u f f' = rest_group (arrow_rest_below x u f')
  arrow_parameters_below (spell.and_rest l tok x) u f f' = let r = arrow_parameter_list_below l u f in let t = see_sign tok (listed_utf8 r) in and_rest_group r t (arrow_rest_below x t.utf8 f')

  pub arrow_list_below : {ps : Term} {a b : Text} → Parameters true ps a b → IsUtf8 a → Small d ps → ParametersRead ps a b
  arrow_list_below (spell.parameters x g y) u f = let t = see_sign x u in let r = arrow_parameters_below g t.utf8 (items_in (first_in (fits f))) (second_in (fits f)) in arrow_parameters_read t r (see_sign y r.utf8)
