-- The items of targets, of patterns and of parameters are read as those of a literal.
use Rattle.std.proofs.Common.{◌≡◌, ◌≤◌, ◌<◌, ℕ, Bool, true, false, ◌||◌, if◌then◌else◌, [], ◌∷◌, length, Option, Some, None, refl, arith, codes}
use Rattle.std.specs.Str.{IsUtf8}
use Rattle.std.proofs.lemmas.Bool.{false≢true}
use Rattle.js_term.specs.Term.{Text, Term, absent, list, node, none, more, two, all, depth}
use Rattle.js_term.specs.declared.kind.Kind.{Kind}
use Rattle.js_syntax.specs.Nodes.{marked, of_part, of_parts}
use Rattle.js_syntax.specs.Parts.{is_node, is_present}
use Rattle.js_syntax.specs.Tokens.{sign}
use Rattle.js_syntax.specs.Edges.{is_simple_target}
use Rattle.js_tokens.specs.Next.{lexeme}
use Rattle.js_reading.specs.declared.goal.Goal.TheVariants as goal
use Rattle.js_reading.specs.Reading.{Found, closed, Reading}
use Rattle.js_reading.specs.Targets.{target_of, target_elements, target_property, target_properties, pattern_of, pattern_elements, pattern_property, pattern_properties, pattern_rest, bound_object_rest, parameter_as, parameters_as, parameter_rest}
use Rattle.js_reading.specs.Parts.{spread_of, item}
use Rattle.js_reading.specs.Expressions.{target_in}
use Rattle.js_reading.specs.Read.{read}
use Rattle.js_reading.proofs.TokensThere.{Seen, sees_by}
use Rattle.js_reading.proofs.Opens.{begins, no_sign_there}
use Rattle.js_reading.proofs.Lists.{is_end, begins_no_closer, some_item}
use Rattle.js_reading.proofs.Listings.{StandsRead, item_of, element_of, expression_item, element_there, found_expression, spread_reads, spread_closes, hole_reads}
use Rattle.js_reading.proofs.Arrows.{TargetRead, assignment_read}
use Rattle.js_reading.proofs.Covers.{elements_more, properties_more}
use Rattle.js_reading.proofs.Becoming.{Gathering, Turning, ItemCover, RestCover}

abbrev pub elements : Gathering
elements = record { one = λ t. target_of true t; many = λ ts. target_elements ts; none_is = refl; more_is = λ t ts h. elements_more t ts h }

abbrev pub properties : Gathering
properties = record { one = λ t. target_property t; many = λ ts. target_properties ts; none_is = refl; more_is = λ t ts h. properties_more t ts h }

abbrev pub as_targets : Turning
as_targets = record { item = λ u. Some u; items = λ us. Some us; rest = λ r. Some r; none_is = refl; more_is = λ u us. refl; absent_is = refl }

abbrev pub as_elements : Turning
as_elements = record { item = λ u. pattern_of true u; items = λ us. pattern_elements (all us); rest = λ r. pattern_rest r; none_is = refl; more_is = λ u us. refl; absent_is = refl }

abbrev pub as_properties : Turning
as_properties = record { item = λ u. pattern_property u; items = λ us. pattern_properties (all us); rest = λ r. bound_object_rest r; none_is = refl; more_is = λ u us. refl; absent_is = refl }

abbrev pub as_parameters : Turning
as_parameters = record { item = λ u. parameter_as (pattern_of true u); items = λ us. parameters_as us; rest = λ r. parameter_rest (pattern_rest r); none_is = refl; more_is = λ u us. refl; absent_is = refl }

-- ---- what was read, as a target

pub target_loose : (e t : Term) → target_of false e ≡ Some t → target_of true e ≡ Some t
target_loose absent t h = absurd (cc)
target_loose (list ts) t h = absurd (cc)
target_loose (node Kind.Identifier xs ts) t h = h
target_loose (node Kind.StaticMemberExpression xs ts) t h = h
target_loose (node Kind.ComputedMemberExpression xs ts) t h = h
target_loose (node Kind.PrivateFieldExpression xs ts) t h = h
target_loose (node Kind.ObjectExpression xs (more (list ts) none)) t h = h
target_loose (node Kind.ArrayExpression xs (more (list ts) none)) t h = h
target_loose (node k xs ts) t h = absurd (cc)

pub target_solid : (e t : Term) → target_of false e ≡ Some t → is_node Kind.SpreadElement e ≡ false
target_solid absent t h = refl
target_solid (list ts) t h = refl
target_solid (node Kind.SpreadElement xs ts) t h = absurd (cc)
target_solid (node k xs ts) t h = refl

pub pattern_loose : (u p : Term) → pattern_of false u ≡ Some p → pattern_of true u ≡ Some p
pattern_loose absent p h = absurd (cc)
pattern_loose (list ts) p h = absurd (cc)
pattern_loose (node Kind.Identifier (x ∷ []) none) p h = h
pattern_loose (node Kind.ObjectAssignmentTarget xs (more (list ts) (more r none))) p h = h
pattern_loose (node Kind.ArrayAssignmentTarget xs (more (list ts) (more r none))) p h = h
pattern_loose (node k xs ts) p h = absurd (cc)

or_true : (b : Bool) → b || true ≡ true
or_true true = refl
or_true false = refl

pub targeted : {i : Bool} {t : Term} {a b : Text} (x : TargetRead i t a b) → target_in x.found ≡ Some t
targeted {t = t} x = x.assigned (codes "=") (or_true (is_simple_target t))

pub in_target : (f : Found) (t : Term) → target_in f ≡ Some t → (f.barred ≡ false) × (target_of false f.tree ≡ Some t)
in_target f t h = go f.barred refl h
  where
    go : (k : Bool) → f.barred ≡ k → (if k then None else target_of false f.tree) ≡ Some t → (f.barred ≡ false) × (target_of false f.tree ≡ Some t)
    go true is h = absurd (cc)
    go false is h = (is, h)

-- ---- what stands as a target, with a default or without

-- It is read before an end, as an expression or what may become one.
pub record DefaultCover (turn : Term → Option Term) (p : Term) (a b : Text) : Type 0 where
  pub found : Found
  pub target : Term
  pub free : found.barred ≡ false
  pub solid : is_node Kind.SpreadElement found.tree ≡ false
  pub becomes : target_of true found.tree ≡ Some target
  pub turns : turn target ≡ Some p
  pub utf8 : IsUtf8 b
  pub shorter : length b < length a
  pub begun : begins (lexeme a) ≡ true
  pub reads : (limit : ℕ) → depth p ≤ limit → is_end (lexeme b) ≡ true → read limit (goal.Expression 2 true) a ≡ Some (found, b)

pub alone_cover : {turn : Term → Option Term} {t p : Term} {a b : Text} → TargetRead true t a b → begins (lexeme a) ≡ true → turn t ≡ Some p → depth t ≤ depth p → DefaultCover turn p a b
alone_cover {t = t} x begun turns fit = let f = x.found in let r = x.read in let both = in_target f t (targeted x) in record {
  found = f;
  target = t;
  free = both.0;
  solid = target_solid f.tree t both.1;
  becomes = target_loose f.tree t both.1;
  turns = turns;
  utf8 = x.utf8;
  shorter = r.shorter;
  begun = begun;
  reads = λ limit fits h. found_expression r limit (omega arith) h;
}

pub default_cover : {turn : Term → Option Term} {n : ℕ} {t e p : Term} {a b c d : Text} → TargetRead true t a b → begins (lexeme a) ≡ true → Seen (sign (codes "=")) b c → StandsRead true n e c d → turn (of_parts Kind.AssignmentTargetWithDefault t e) ≡ Some p → depth (of_parts Kind.AssignmentTargetWithDefault t e) ≤ depth p → DefaultCover turn p a d
default_cover {n = n} {t = t} {e = e} x begun tok y turns fit = let r = assignment_read {n = n} refl (or_true (is_simple_target t)) x tok y.read in record {
  found = closed (marked Kind.AssignmentExpression (codes "=") (two t e)) 2;
  target = of_parts Kind.AssignmentTargetWithDefault t e;
  free = refl;
  solid = refl;
  becomes = refl;
  turns = turns;
  utf8 = y.utf8;
  shorter = r.shorter;
  begun = begun;
  reads = λ limit fits h. found_expression r limit (omega arith) h;
}

-- ---- as an item of an array or between parentheses

pub item_cover : {t : Turning} {at : ℕ → Text → Reading Found} {p : Term} {a b : Text} → ((limit : ℕ) (f : Found) → read limit (goal.Expression 2 true) a ≡ Some (f, b) → at limit a ≡ Some (f, b)) → DefaultCover t.item p a b → ItemCover elements t at false p a b
item_cover {a = a} there x = record {
  found = x.found;
  target = x.target;
  free = x.free;
  solid = x.solid;
  becomes = x.becomes;
  turns = x.turns;
  utf8 = x.utf8;
  reads = λ limit fits. some_item false x.shorter (begins_no_closer a x.begun) (λ h. there limit x.found (x.reads limit fits h)) (λ h. absurd (false≢true h));
}

pub element_cover : {t : Turning} {p : Term} {a b : Text} → DefaultCover t.item p a b → ItemCover elements t element_of false p a b
element_cover {a = a} x = item_cover (λ limit f h. element_there limit a (no_sign_there (codes ",") a x.begun refl) (expression_item limit f a x.begun h)) x

pub parenthesized_cover : {p : Term} {a b : Text} → DefaultCover as_parameters.item p a b → ItemCover elements as_parameters (item_of false) false p a b
parenthesized_cover {a = a} x = item_cover (λ limit f h. expression_item limit f a x.begun h) x

pub hole_cover : {t : Turning} {a : Text} → t.item absent ≡ Some absent → IsUtf8 a → ItemCover elements t element_of true absent a a
hole_cover {a = a} turns u = record { found = closed absent 0; target = absent; free = refl; solid = refl; becomes = refl; turns = turns; utf8 = u; reads = λ limit fits. hole_reads limit a }

rest_becomes : (f : Found) (t : Term) → target_of false f.tree ≡ Some t → target_elements (more (spread_of f).tree none) ≡ Some ([], of_part Kind.AssignmentTargetRest t)
rest_becomes f t h = rw h

rest_at : {t : Turning} {at : ℕ → Text → Reading Found} {u r : Term} {a m b : Text} → ((limit : ℕ) (f : Found) → item (read limit) a ≡ Some (f, b) → at limit a ≡ Some (f, b)) → Seen (sign (codes "...")) a m → TargetRead true u m b → t.rest (of_part Kind.AssignmentTargetRest u) ≡ Some r → depth u ≤ depth r → is_present r ≡ true → RestCover elements t at r a b
rest_at {u = u} there tok x turns fit present = let f = x.found in let r = x.read in let both = in_target f u (targeted x) in record {
  found = spread_of f;
  target = of_part Kind.AssignmentTargetRest u;
  free = both.0;
  present = present;
  becomes = rest_becomes f u both.1;
  turns = turns;
  utf8 = x.utf8;
  reads = λ limit fits. some_item false (let s1 = tok.shorter in let s2 = r.shorter in omega arith) (spread_closes tok) (λ h. there limit (spread_of f) (spread_reads tok r limit (omega arith) h)) (λ h. absurd (false≢true h));
}

pub element_rest : {t : Turning} {u r : Term} {a m b : Text} → Seen (sign (codes "...")) a m → TargetRead true u m b → t.rest (of_part Kind.AssignmentTargetRest u) ≡ Some r → depth u ≤ depth r → is_present r ≡ true → RestCover elements t element_of r a b
element_rest {a = a} tok x turns fit present = rest_at (λ limit f h. element_there limit a (sees_by (codes ",") tok) h) tok x turns fit present

pub parenthesized_rest : {u r : Term} {a m b : Text} → Seen (sign (codes "...")) a m → TargetRead true u m b → as_parameters.rest (of_part Kind.AssignmentTargetRest u) ≡ Some r → depth u ≤ depth r → is_present r ≡ true → RestCover elements as_parameters (item_of false) r a b
parenthesized_rest tok x turns fit present = rest_at (λ limit f h. h) tok x turns fit present
