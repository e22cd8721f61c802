-- What is spelled as an expression, a target or a pattern is read, from what is read below.
use Rattle.std.proofs.Common.{ℕ, Bool, refl}
use Rattle.std.specs.Str.{IsUtf8}
use Rattle.js_term.specs.Term.{Text, Term}
use Rattle.js_syntax.specs.Spelling as spell
use Rattle.js_syntax.specs.Spelling.{Stands, Access, Link, Spine, BareNew, ArrowHead, ArrowBody, Target, Pattern}
use Rattle.js_reading.proofs.TokensThere.{see, see_sign, see_word, see_regexp, on_line}
use Rattle.js_reading.proofs.Below.{Fits, Small, Below, first_in, second_in, third_in, items_in, fits, expression_below, template_below}
use Rattle.js_reading.proofs.Shapes.{class_full, function_full, stands_shape}
use Rattle.js_reading.proofs.PatternsRead.{PatternCover, array_pattern_cover, array_target_text, name_cover, object_pattern_cover, object_target_text}
use Rattle.js_reading.proofs.Operations.{operator_utf8, see_operator}
use Rattle.js_reading.proofs.Opens.{stands_opens}
use Rattle.js_reading.proofs.ListsBelow.{arrow_list_below, binding_elements_below, binding_properties_below, call_below, element_group_below, options_below, paren_list_below, target_elements_below, target_properties_below}
use Rattle.js_reading.proofs.Listings.{stands, StandsRead}
use Rattle.js_reading.proofs.Links.{SpineRead, bracket_link, chain_bracket, chain_dot, chain_private, dot_link, private_dot_link}
use Rattle.js_reading.proofs.Leaves.{bigint_read, boolean_read, identifier_read, null_read, number_read, regexp_read, string_read, this_read}
use Rattle.js_reading.proofs.Grouped.{array_read, last_paren, object_read, sequence_paren, single_paren}
use Rattle.js_reading.proofs.FunctionsBelow.{body_below, class_below, function_below, property_group_below}
use Rattle.js_reading.proofs.Dispatching.{no_spread, AccessFound, LinkFound, access_link, arrow_stands, assignment_stands, await_stands, bare_starts, bare_yield_stands, binary_stands, by_bracket, by_chain, by_dot, call_chained, call_linked, call_stands, chain_stands, class_stands, coalescing_stands, conditional_stands, conjunction_stands, construction_stands, delegating_stands, disjunction_stands, exponentiation_stands, first_spine, function_stands, import_call_stands, member_stands, next_spine, private_in_stands, stands_starts, super_call_stands, super_member_stands, tagged_stands, template_stands, unary_stands, update_before_stands, update_behind_stands, yielding_stands}
use Rattle.js_reading.proofs.Calls.{BareRead, bare_bare_read, bare_construction_read, bare_member_read, import_meta_read, new_target_read}
use Rattle.js_reading.proofs.Bodies.{arrow_body_text}
use Rattle.js_reading.proofs.Arrows.{ArrowBodyRead, HeadRead, TargetRead, async_name_head_read, async_parameters_head_read, concise_body_read, name_head_read, parameters_head_read, simple_target_read}

-- the object of a link is a part of it
access_object : {optional : Bool} {o e : Term} {a b : Text} {d : ℕ} → Access optional o e a b → Fits d e → Small d o
access_object (spell.static_access x y) z = first_in z
access_object (spell.computed_access x y e y') z = first_in z
access_object (spell.private_access x y) z = first_in z

link_object : {optional : Bool} {o e : Term} {a b : Text} {d : ℕ} → Link optional o e a b → Fits d e → Small d o
link_object (spell.access_link x) z = access_object x z
link_object (spell.argument_link x es) z = first_in z

module _ {d : ℕ} (below : Below d) where
  access_below : {optional : Bool} {o e : Term} {a b : Text} → Access optional o e a b → IsUtf8 a → Fits d e → AccessFound optional o e a b
  access_below (spell.static_access (spell.plain_dot tok) y) u z = let t = see_sign tok u in by_dot (dot_link _ t (see_word y t.utf8))
  access_below (spell.static_access (spell.optional_dot tok) y) u z = let t = see_sign tok u in by_chain (chain_dot _ t (see_word y t.utf8))
  access_below (spell.computed_access spell.not_optional x e y) u z = let t = see_sign x u in let r = expression_below below e t.utf8 (second_in z) in by_bracket (bracket_link _ t r (see_sign y r.utf8))
  access_below (spell.computed_access (spell.is_optional tok) x e y) u z = let k = see_sign tok u in let t = see_sign x k.utf8 in let r = expression_below below e t.utf8 (second_in z) in by_chain (chain_bracket _ k t r (see_sign y r.utf8))
  access_below (spell.private_access (spell.plain_dot tok) y) u z = let t = see_sign tok u in by_dot (private_dot_link _ t (see y t.utf8 refl))
  access_below (spell.private_access (spell.optional_dot tok) y) u z = let t = see_sign tok u in by_chain (chain_private _ t (see y t.utf8 refl))

  link_below : {optional : Bool} {o e : Term} {a b : Text} → Link optional o e a b → IsUtf8 a → Fits d e → LinkFound optional o e a b
  link_below (spell.access_link x) u z = access_link (access_below x u z)
  link_below (spell.argument_link spell.not_optional es) u z = call_linked (call_below below es u (items_in (second_in z)))
  link_below (spell.argument_link (spell.is_optional tok) es) u z = let t = see_sign tok u in call_chained t (call_below below es t.utf8 (items_in (second_in z)))

  spine_below : {i : Bool} {e : Term} {a b : Text} → Spine i e a b → IsUtf8 a → Fits d e → SpineRead i e a b
  spine_below (spell.first_link h o x) u z = let r = below.stands o u (link_object x z) in first_spine h r (link_below x r.utf8 z)
  spine_below (spell.next_link s x) u z = let r = spine_below s u (fits (link_object x z)) in next_spine r (link_below x r.utf8 z)

  bare_below : {i : Bool} {e : Term} {a b : Text} → BareNew i e a b → IsUtf8 a → Fits d e → BareRead i e a b
  bare_below (spell.new_member tok h s) u z = let t = see_word tok u in let r = below.stands s t.utf8 (first_in z) in bare_member_read t h (stands_starts s t.utf8) r.read r.utf8
  bare_below (spell.new_new tok s) u z = let t = see_word tok u in bare_bare_read t (bare_starts s t.utf8) (bare_below s t.utf8 (fits (first_in z)))

  head_below : {async : Text} {ps : Term} {a b : Text} → ArrowHead async ps a b → IsUtf8 a → Small d ps → HeadRead async ps a b
  head_below (spell.arrow_parameters ps) u z = parameters_head_read (arrow_list_below below ps u z)
  head_below (spell.arrow_name free tok) u z = name_head_read free (see_word tok u)
  head_below (spell.arrow_async tok line (spell.arrow_parameters ps)) u z = let t = see_word tok u in async_parameters_head_read t (on_line _ line) (arrow_list_below below ps t.utf8 z)
  head_below (spell.arrow_async tok line (spell.arrow_name free x)) u z = let t = see_word tok u in async_name_head_read free t (on_line _ line) (see_word x t.utf8)

  arrow_body_below : {i : Bool} {t : Term} {a b : Text} → ArrowBody i t a b → IsUtf8 a → Small d t → ArrowBodyRead i t a b
  arrow_body_below (spell.block_body t) u z = arrow_body_text t (body_below below t u (fits z))
  arrow_body_below (spell.concise_body free e) u z = concise_body_read free (stands_opens e u) (below.stands e u z)

  pub stands_at : {i : Bool} {n : ℕ} {e : Term} {a b : Text} → Stands i n e a b → IsUtf8 a → Fits d e → StandsRead i n e a b
  stands_at (spell.identifier free tok) u z = let x = see_word tok u in stands (identifier_read free x) x.utf8
  stands_at (spell.this_expression tok) u z = let x = see_word tok u in stands (this_read x) x.utf8
  stands_at (spell.null_literal tok) u z = let x = see_word tok u in stands (null_read x) x.utf8
  stands_at (spell.boolean v tok) u z = let x = see_word tok u in stands (boolean_read v x) x.utf8
  stands_at (spell.numeric tok) u z = let x = see tok u refl in stands (number_read x) x.utf8
  stands_at (spell.bigint tok) u z = let x = see tok u refl in stands (bigint_read x) x.utf8
  stands_at (spell.string_literal tok) u z = let x = see tok u refl in stands (string_read x) x.utf8
  stands_at (spell.regexp_literal tok) u z = let x = see_regexp tok u in stands (regexp_read x) x.utf8
  stands_at (spell.template t) u z = template_stands (template_below below t u (items_in (second_in z)))
  stands_at (spell.array x g y) u z = let t = see_sign x u in let r = element_group_below below g t.utf8 (items_in (first_in z)) in array_read t r (see_sign y r.utf8)
  stands_at (spell.object x g y) u z = let t = see_sign x u in let r = property_group_below below g t.utf8 (items_in (first_in z)) in object_read t r (see_sign y r.utf8)
  stands_at (spell.function_expression f) u z = function_stands (function_full f) (function_below below f u z)
  stands_at (spell.class_expression c) u z = class_stands (class_full c) (class_below below c u z)
  stands_at (spell.parenthesized x (spell.single s) y) u z = let t = see_sign x u in let r = below.stands s t.utf8 (first_in z) in let k = see_sign y r.utf8 in stands (single_paren t (last_paren r (stands_starts s t.utf8) (no_spread s)) k) k.utf8
  stands_at (spell.parenthesized x (spell.sequence h l) y) u z = let t = see_sign x u in let r = paren_list_below below l t.utf8 (items_in (first_in (fits (first_in z)))) in let g = r.list in let k = see_sign y g.utf8 in stands (sequence_paren h t r k) k.utf8
  stands_at (spell.import_meta x y w) u z = let t = see_word x u in let t' = see_sign y t.utf8 in let t'' = see_word w t'.utf8 in stands (import_meta_read t t' t'') t''.utf8
  stands_at (spell.new_target x y w) u z = let t = see_word x u in let t' = see_sign y t.utf8 in let t'' = see_word w t'.utf8 in stands (new_target_read t t' t'') t''.utf8
  stands_at (spell.member h o x) u z = let r = below.stands o u (access_object x z) in member_stands h r (access_below x r.utf8 z)
  stands_at (spell.super_member tok x h) u z = let t = see_word tok u in super_member_stands t (access_below x t.utf8 z) h
  stands_at (spell.tagged h t q) u z = let r = below.stands t u (first_in z) in tagged_stands h r (template_below below q r.utf8 (items_in (second_in (fits (second_in z)))))
  stands_at (spell.construction tok h f es) u z = let t = see_word tok u in let r = below.stands f t.utf8 (first_in z) in construction_stands t h (stands_starts f t.utf8) r (call_below below es r.utf8 (items_in (second_in z)))
  stands_at (spell.bare_construction s) u z = let r = bare_below s u z in stands (bare_construction_read r) r.utf8
  stands_at (spell.call h f es) u z = let r = below.stands f u (first_in z) in call_stands h (stands_shape f) u r (call_below below es r.utf8 (items_in (second_in z)))
  stands_at (spell.super_call tok es) u z = let t = see_word tok u in super_call_stands t (call_below below es t.utf8 (items_in (second_in z)))
  stands_at (spell.import_call tok x e o y) u z = let t = see_word tok u in let t' = see_sign x t.utf8 in let r = below.stands e t'.utf8 (first_in z) in let p = options_below below o r.utf8 (second_in z) in import_call_stands t t' r p (see_sign y p.utf8)
  stands_at (spell.chain s) u z = chain_stands (spine_below s u (fits (first_in z)))
  stands_at (spell.update_behind is h s line tok) u z = let r = below.stands s u (first_in z) in update_behind_stands is h (stands_shape s) r (on_line _ line) (see_sign tok r.utf8)
  stands_at (spell.update_before is h tok s) u z = let t = see_sign tok u in update_before_stands is h (stands_shape s) t (below.stands s t.utf8 (first_in z))
  stands_at (spell.unary is h o s) u z = let t = see_operator o u in unary_stands is h t (below.stands s (operator_utf8 t) (first_in z))
  stands_at (spell.await_expression h tok s) u z = let t = see_word tok u in await_stands h t (below.stands s t.utf8 (first_in z))
  stands_at (spell.exponentiation h h' l tok r) u z = let x = below.stands l u (first_in z) in let t = see_sign tok x.utf8 in exponentiation_stands h h' x t (below.stands r t.utf8 (second_in z))
  stands_at (spell.binary is h h' h'' l tok r) u z = let x = below.stands l u (first_in z) in let t = see_operator tok x.utf8 in binary_stands is h h' h'' x t (below.stands r (operator_utf8 t) (second_in z))
  stands_at (spell.private_in h tok x r) u z = let t = see tok u refl in let t' = see_word x t.utf8 in private_in_stands h t t' (below.stands r t'.utf8 (second_in z))
  stands_at (spell.conjunction h h' l tok r) u z = let x = below.stands l u (first_in z) in let t = see_sign tok x.utf8 in conjunction_stands h h' x t (below.stands r t.utf8 (second_in z))
  stands_at (spell.disjunction h h' l tok r) u z = let x = below.stands l u (first_in z) in let t = see_sign tok x.utf8 in disjunction_stands h h' x t (below.stands r t.utf8 (second_in z))
  stands_at (spell.coalescing h h' l tok r) u z = let x = below.stands l u (first_in z) in let t = see_sign tok x.utf8 in coalescing_stands h h' x t (below.stands r t.utf8 (second_in z))
  stands_at (spell.conditional h t x e y f) u z = let r = below.stands t u (first_in z) in let k = see_sign x r.utf8 in let r' = below.stands e k.utf8 (second_in z) in let k' = see_sign y r'.utf8 in conditional_stands h r k r' k' (below.stands f k'.utf8 (third_in z))
  stands_at (spell.assignment is h t tok e) u z = let r = below.target t u (first_in z) in let k = see_sign tok r.utf8 in assignment_stands is h r k (below.stands e k.utf8 (second_in z))
  stands_at (spell.arrow h line tok t) u z = let r = head_below h u (first_in z) in let k = see_sign tok r.utf8 in arrow_stands r (on_line _ line) k (arrow_body_below t k.utf8 (second_in z))
  stands_at (spell.bare_yield tok) u z = bare_yield_stands (see_word tok u)
  stands_at (spell.yielding tok line e) u z = let t = see_word tok u in yielding_stands t (on_line _ line) (stands_starts e t.utf8) (below.stands e t.utf8 (first_in z))
  stands_at (spell.delegating tok line x e) u z = let t = see_word tok u in let t' = see_sign x t.utf8 in delegating_stands t (on_line _ line) t' (below.stands e t'.utf8 (first_in z))

  pub target_at : {i : Bool} {t : Term} {a b : Text} → Target i t a b → IsUtf8 a → Fits d t → TargetRead i t a b
  target_at (spell.simple_target h s) u z = let shape = stands_shape s in simple_target_read h (shape.high h) (stands_at s u z)
  target_at (spell.object_target x g y) u z = let t = see_sign x u in let r = target_properties_below below g t.utf8 (items_in (first_in z)) (second_in z) in object_target_text t r (see_sign y r.utf8)
  target_at (spell.array_target x g y) u z = let t = see_sign x u in let r = target_elements_below below g t.utf8 (items_in (first_in z)) (second_in z) in array_target_text t r (see_sign y r.utf8)

  pub pattern_at : {p : Term} {a b : Text} → Pattern p a b → IsUtf8 a → Fits d p → PatternCover p a b
  pattern_at (spell.binding free tok) u z = name_cover free (see_word tok u)
  pattern_at (spell.object_pattern x g y) u z = let t = see_sign x u in let r = binding_properties_below below g t.utf8 (items_in (first_in z)) (second_in z) in object_pattern_cover t r (see_sign y r.utf8)
  pattern_at (spell.array_pattern x g y) u z = let t = see_sign x u in let r = binding_elements_below below g t.utf8 (items_in (first_in z)) (second_in z) in array_pattern_cover t r (see_sign y r.utf8)
