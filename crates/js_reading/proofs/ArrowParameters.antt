-- What stands in parentheses in front of an arrow are parameters.
use Rattle.std.proofs.Common.{◌≡◌, Bool, true, false, if◌then◌else◌, List, [], Option, Some, None, refl, sym, subst, codes}
use Rattle.js_term.specs.Term.{Text, Term, absent, all}
use Rattle.js_term.specs.declared.kind.Kind.{Kind}
use Rattle.js_syntax.specs.Tokens.{Sign}
use Rattle.js_syntax.specs.Edges.{last_absent}
use Rattle.js_syntax.specs.Spelling.{Item, Listed, Group, Rested, Rest, Pattern, Defaulted, Parameters}
use Rattle.js_syntax.specs.Spelling as spell
use Rattle.js_reading.specs.Reading.{Found, trees}
use Rattle.js_reading.specs.Targets.{Items, with_rest, pattern_of, pattern_rest, target_elements, parameter_as, parameters_as, parameter_rest, arrow_parameters}
use Rattle.js_reading.specs.Literals.{is_barred}
use Rattle.js_reading.specs.Expressions.{parameters_in}
use Rattle.js_reading.proofs.Chains.{Held}
use Rattle.js_reading.proofs.Covers.{Raw, raw_targets, held_rested, pattern_as_is}
use Rattle.js_reading.proofs.Patterns.{with_first_is, with_rest_is, some_is, defaulted_there, elements, rest_there}

defaulted_parameter : {p : Term} {a b : Text} → Defaulted p a b → (q : Term) → parameter_as (Some p) ≡ Some q → Item spell.parameter q a b
defaulted_parameter {a = a} {b = b} (spell.not_defaulted (spell.binding free tok)) q h = subst (λ (z : Term). Item spell.parameter z a b) (some_is _ q h) (spell.a_parameter (spell.binding free tok))
defaulted_parameter {a = a} {b = b} (spell.not_defaulted (spell.object_pattern x l y)) q h = subst (λ (z : Term). Item spell.parameter z a b) (some_is _ q h) (spell.a_parameter (spell.object_pattern x l y))
defaulted_parameter {a = a} {b = b} (spell.not_defaulted (spell.array_pattern x l y)) q h = subst (λ (z : Term). Item spell.parameter z a b) (some_is _ q h) (spell.a_parameter (spell.array_pattern x l y))
defaulted_parameter {a = a} {b = b} (spell.defaulted x tok s) q h = subst (λ (z : Term). Item spell.parameter z a b) (some_is _ q h) (spell.an_optional_parameter x tok s)

item_parameter : {t : Term} {a b : Text} → Item spell.target_element t a b → (q : Term) → parameter_as (pattern_of true t) ≡ Some q → Item spell.parameter q a b
item_parameter {a = a} {b = b} (spell.a_target {t = t} x) q h = go (pattern_of true t) refl h
  where
    go : (o : Option Term) → pattern_of true t ≡ o → parameter_as o ≡ Some q → Item spell.parameter q a b
    go None is h = absurd (cc)
    go (Some p) is h = defaulted_parameter (defaulted_there x p is) q h
item_parameter spell.a_target_hole q h = absurd (cc)

listed_parameters : {ts : List Term} {a b : Text} → Listed spell.target_element ts a b → (qs : List Term) → parameters_as ts ≡ Some qs → Listed spell.parameter qs a b
listed_parameters (spell.last {e = e} x) qs h =
    let (q, rest, is, none_is, whole) = with_first_is (parameter_as (pattern_of true e)) (Some []) qs h in
    rw (whole, sym (some_is [] rest none_is)) (spell.last (item_parameter x q is))
listed_parameters (spell.and {e = e} {es = es} x tok l) qs h =
    let (q, rest, is, more_is, whole) = with_first_is (parameter_as (pattern_of true e)) (parameters_as es) qs h in
    rw (whole) (spell.and (item_parameter x q is) tok (listed_parameters l rest more_is))

pub parameters_present : {qs : List Term} {a b : Text} → Listed spell.parameter qs a b → last_absent qs ≡ false
parameters_present (spell.last (spell.a_parameter x)) = refl
parameters_present (spell.last (spell.an_optional_parameter x tok e)) = refl
parameters_present (spell.and x tok (spell.last y)) = parameters_present (spell.last y)
parameters_present (spell.and x tok (spell.and y tok' l)) = parameters_present (spell.and y tok' l)

rest_parameter : {r : Term} {a b : Text} → Rest spell.binding_element r a b → (q : Term) → parameter_rest (Some r) ≡ Some q → Rest spell.parameter q a b
rest_parameter {a = a} {b = b} (spell.rest_binding tok x) q h = subst (λ (z : Term). Rest spell.parameter z a b) (some_is _ q h) (spell.rest_parameter tok x)

element_rest : {r : Term} {a b : Text} → Rest spell.target_element r a b → (q : Term) → parameter_rest (pattern_rest r) ≡ Some q → Rest spell.parameter q a b
element_rest {r} {a} {b} x q h = go (pattern_rest r) refl h
  where
    go : (o : Option Term) → pattern_rest r ≡ o → parameter_rest o ≡ Some q → Rest spell.parameter q a b
    go None is h = absurd (cc)
    go (Some p) is h = rest_parameter (rest_there elements x p is) q h

group_parameters : {ts : List Term} {a b : Text} → Group spell.target_element ts a b → (qs : List Term) → parameters_as ts ≡ Some qs → Group spell.parameter qs a b
group_parameters spell.no_items qs h = rw (sym (some_is [] qs h)) spell.no_items
group_parameters (spell.items q l) qs h = let m = listed_parameters l qs h in spell.items (parameters_present m) m
group_parameters (spell.trailing l tok) qs h = spell.trailing (listed_parameters l qs h) tok

rested_parameters : {ts : List Term} {r : Term} {a b : Text} → Rested true spell.target_element ts r a b → (qs : List Term) (q : Term) → parameters_as ts ≡ Some qs → parameter_rest (pattern_rest r) ≡ Some q → Rested true spell.parameter qs q a b
rested_parameters (spell.no_rest g) qs q h e = rw (sym (some_is absent q e)) (spell.no_rest (group_parameters g qs h))
rested_parameters (spell.rest_alone x) qs q h e = rw (sym (some_is [] qs h)) (spell.rest_alone (element_rest x q e))
rested_parameters (spell.and_rest l tok x) qs q h e = spell.and_rest (listed_parameters l qs h) tok (element_rest x q e)

pub arrow_parameters_there : {fs : List Found} {comma : Bool} {a b c d : Text} → Sign (codes "(") a b → Held (Raw false) fs comma b c → Sign (codes ")") c d → (ps : Term) → parameters_in fs comma ≡ Some ps → Parameters true ps a d
arrow_parameters_there {fs} {comma} {a} {b} {c} {d} open' held close ps h = go (is_barred fs comma) refl h
  where
    found : is_barred fs comma ≡ false → (o : Items) → target_elements (all (trees fs)) ≡ o → arrow_parameters o ≡ Some ps → Parameters true ps a d
    found free None is h = absurd (cc)
    found free (Some p) is h =
        let (q, items, same) = pattern_as_is Kind.FormalParameters (with_rest (parameters_as p.0) (parameter_rest (pattern_rest p.1))) ps h in
        let (first, rest) = with_rest_is (parameters_as p.0) (parameter_rest (pattern_rest p.1)) q items in
        subst (λ (z : Term). Parameters true z a d) same (spell.parameters open' (rested_parameters (held_rested (raw_targets false) held free p.0 p.1 is) q.0 q.1 first rest) close)

    go : (k : Bool) → is_barred fs comma ≡ k → (if k then None else arrow_parameters (target_elements (all (trees fs)))) ≡ Some ps → Parameters true ps a d
    go true is h = absurd (cc)
    go false is h = found is (target_elements (all (trees fs))) refl h
