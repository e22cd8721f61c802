-- A target and the pattern that it becomes have one depth.
use Rattle.std.proofs.Common.{◌≡◌, true, false, List, [], ◌∷◌, Some, refl, sym}
use Rattle.js_term.specs.Term.{Term, absent, list, node, Terms, none, more, all, depth, depths}
use Rattle.js_term.specs.declared.kind.Kind.{Kind}
use Rattle.js_term.specs.Node.{binding_of}
use Rattle.js_reading.specs.Targets.{with_rest, bound_name, bound_object_rest, pattern_of, pattern_rest, pattern_elements, pattern_property, pattern_properties}
use Rattle.js_reading.proofs.Covers.{pattern_as_is, part_as_is}
use Rattle.js_reading.proofs.Patterns.{with_first_is, with_rest_is, default_as_is, rest_of_is, some_is}
use Rattle.js_reading.proofs.CoverItems.{pattern_loose}

name_depth : (t p : Term) → bound_name t ≡ Some p → depth t ≡ depth p
name_depth (node Kind.Identifier (x ∷ []) none) p h = rw (sym (some_is (binding_of x) p h)) refl
name_depth t p h = absurd (cc)

pub name_rest_depth : (r q : Term) → bound_object_rest r ≡ Some q → depth r ≡ depth q
name_rest_depth absent q h = rw (sym (some_is absent q h)) refl
name_rest_depth (node Kind.AssignmentTargetRest xs (more t none)) q h =
    let (p, is, same) = rest_of_is (bound_name t) q h in
    rw (sym same, name_depth t p is) refl
name_rest_depth t q h = absurd (cc)

mutual
  pub pattern_depth : (u p : Term) → pattern_of true u ≡ Some p → depth u ≡ depth p
  pattern_depth absent p h = rw (sym (some_is absent p h)) refl
  pattern_depth (node Kind.Identifier (x ∷ []) none) p h = rw (sym (some_is (binding_of x) p h)) refl
  pattern_depth (node Kind.ObjectAssignmentTarget xs (more (list ts) (more r none))) p h =
      let (q, is, same) = pattern_as_is Kind.ObjectPattern (with_rest (pattern_properties ts) (bound_object_rest r)) p h in
      let (items, rest) = with_rest_is (pattern_properties ts) (bound_object_rest r) q is in
      rw (sym same, properties_depth ts q.0 items, name_rest_depth r q.1 rest) refl
  pattern_depth (node Kind.ArrayAssignmentTarget xs (more (list ts) (more r none))) p h =
      let (q, is, same) = pattern_as_is Kind.ArrayPattern (with_rest (pattern_elements ts) (pattern_rest r)) p h in
      let (items, rest) = with_rest_is (pattern_elements ts) (pattern_rest r) q is in
      rw (sym same, elements_depth ts q.0 items, rest_depth r q.1 rest) refl
  pattern_depth (node Kind.AssignmentTargetWithDefault xs (more t (more e none))) p h =
      let (o, is, same) = default_as_is Kind.AssignmentPattern (pattern_of false t) e p h in
      rw (sym same, pattern_depth t o (pattern_loose t o is)) refl
  pattern_depth t p h = absurd (cc)

  pub rest_depth : (r q : Term) → pattern_rest r ≡ Some q → depth r ≡ depth q
  rest_depth absent q h = rw (sym (some_is absent q h)) refl
  rest_depth (node Kind.AssignmentTargetRest xs (more t none)) q h =
      let (p, is, same) = rest_of_is (pattern_of false t) q h in
      rw (sym same, pattern_depth t p (pattern_loose t p is)) refl
  rest_depth t q h = absurd (cc)

  pub elements_depth : (us : Terms) (ps : List Term) → pattern_elements us ≡ Some ps → depths us ≡ depths (all ps)
  elements_depth none ps h = rw (sym (some_is [] ps h)) refl
  elements_depth (more u us) ps h =
      let (p, rest, is, more_is, whole) = with_first_is (pattern_of true u) (pattern_elements us) ps h in
      rw (whole, pattern_depth u p is, elements_depth us rest more_is) refl

  property_depth : (u p : Term) → pattern_property u ≡ Some p → depth u ≡ depth p
  property_depth (node Kind.AssignmentTargetProperty xs (more k (more v none))) p h =
      let (o, is, same) = part_as_is Kind.BindingProperty xs k (pattern_of true v) p h in
      rw (sym same, pattern_depth v o is) refl
  property_depth t p h = absurd (cc)

  pub properties_depth : (us : Terms) (ps : List Term) → pattern_properties us ≡ Some ps → depths us ≡ depths (all ps)
  properties_depth none ps h = rw (sym (some_is [] ps h)) refl
  properties_depth (more u us) ps h =
      let (p, rest, is, more_is, whole) = with_first_is (pattern_property u) (pattern_properties us) ps h in
      rw (whole, property_depth u p is, properties_depth us rest more_is) refl
