-- Targets, patterns and the parameters of arrow functions that stand in a text are read.
use Rattle.std.proofs.Common.{◌≡◌, ◌≤◌, ℕ, ◌+◌, Bool, true, false, List, Some, refl, sym, subst, ap, arith, codes}
use Rattle.std.specs.Str.{IsUtf8}
use Rattle.js_term.specs.Term.{Text, is_text, Term, absent, all, depth, depths}
use Rattle.js_term.specs.declared.kind.Kind.{Kind}
use Rattle.js_term.specs.Lexeme.{is_reserved}
use Rattle.js_term.specs.Node.{identifier_of, binding_of, array_of, object_of}
use Rattle.js_syntax.specs.Nodes.{of_part, of_parts, rested, parameter_of}
use Rattle.js_syntax.specs.Tokens.{word, sign}
use Rattle.js_tokens.specs.Next.{lexeme}
use Rattle.js_reading.specs.Reading.{Found, trees}
use Rattle.js_reading.specs.Targets.{target_elements, target_properties, pattern_of, pattern_elements, pattern_properties, pattern_rest, bound_object_rest, parameter_as, parameters_as, parameter_rest}
use Rattle.js_reading.specs.Literals.{is_barred, literal}
use Rattle.js_reading.specs.Statements.{destructured, pattern}
use Rattle.js_reading.specs.Expressions.{target_in, assigned_in, parameters_in}
use Rattle.js_reading.specs.Read.{read}
use Rattle.js_reading.proofs.TokensThere.{Seen, sees_by}
use Rattle.js_reading.proofs.Opens.{begins}
use Rattle.js_reading.proofs.Lists.{ReadsGroup}
use Rattle.js_reading.proofs.Leaves.{identifier_read}
use Rattle.js_reading.proofs.Listings.{StandsRead, stands, item_of, element_of}
use Rattle.js_reading.proofs.Grouped.{property_of, array_found, object_found, array_there, object_there}
use Rattle.js_reading.proofs.Arrows.{TargetRead, simple_target_read, ParametersRead}
use Rattle.js_reading.proofs.Claims.{IsReadPattern}
use Rattle.js_reading.proofs.Bindings.{binding_pattern_read}
use Rattle.js_reading.proofs.Patterns.{some_is}
use Rattle.js_reading.proofs.Becoming.{Turning, RestCover, GroupCover}
use Rattle.js_reading.proofs.CoverItems.{elements, properties, as_targets, as_elements, as_properties, as_parameters, DefaultCover, alone_cover, default_cover, pattern_loose, element_rest, parenthesized_rest}
use Rattle.js_reading.proofs.PatternDepths.{name_rest_depth, rest_depth, elements_depth, properties_depth}

-- ---- literals that become targets

object_in : (fs : List Found) (comma : Bool) (us : List Term) (r : Term) → is_barred fs comma ≡ false → target_properties (all (trees fs)) ≡ Some (us, r) → target_in (literal (object_of (all (trees fs))) fs comma) ≡ Some (rested Kind.ObjectAssignmentTarget us r)
object_in fs comma us r h h' = rw (h, h')

array_in : (fs : List Found) (comma : Bool) (us : List Term) (r : Term) → is_barred fs comma ≡ false → target_elements (all (trees fs)) ≡ Some (us, r) → target_in (literal (array_of (all (trees fs))) fs comma) ≡ Some (rested Kind.ArrayAssignmentTarget us r)
array_in fs comma us r h h' = rw (h, h')

-- a pattern stands before `=` alone
before_equals : (op : Text) (f : Found) (t : Term) → target_in f ≡ Some t → is_text op (codes "=") ≡ true → assigned_in op f ≡ Some t
before_equals op f t h is = rw (is, h)

object_target : {i : Bool} {t : Turning} {ps : List Term} {r : Term} {a b c d : Text} → Seen (sign (codes "{")) a b → (g : GroupCover properties t property_of ps r b c) → depths (all ps) ≤ depths (all g.targets) → depth r ≤ depth g.rest → Seen (sign (codes "}")) c d → TargetRead i (rested Kind.ObjectAssignmentTarget g.targets g.rest) a d
object_target {i = i} tok g fit fit' tok' = record {
  utf8 = tok'.utf8;
  found = literal (object_of (all (trees g.found))) g.found g.comma;
  read = object_found _ tok (λ limit fits. g.reads limit (omega arith) (omega arith)) tok';
  high = omega arith;
  assigned = λ op h. before_equals op (literal (object_of (all (trees g.found))) g.found g.comma) (rested Kind.ObjectAssignmentTarget g.targets g.rest) (object_in g.found g.comma g.targets g.rest g.free g.becomes) h;
}

array_target : {i : Bool} {t : Turning} {ps : List Term} {r : Term} {a b c d : Text} → Seen (sign (codes "[")) a b → (g : GroupCover elements t element_of ps r b c) → depths (all ps) ≤ depths (all g.targets) → depth r ≤ depth g.rest → Seen (sign (codes "]")) c d → TargetRead i (rested Kind.ArrayAssignmentTarget g.targets g.rest) a d
array_target {i = i} tok g fit fit' tok' = record {
  utf8 = tok'.utf8;
  found = literal (array_of (all (trees g.found))) g.found g.comma;
  read = array_found _ tok (λ limit fits. g.reads limit (omega arith) (omega arith)) tok';
  high = omega arith;
  assigned = λ op h. before_equals op (literal (array_of (all (trees g.found))) g.found g.comma) (rested Kind.ArrayAssignmentTarget g.targets g.rest) (array_in g.found g.comma g.targets g.rest g.free g.becomes) h;
}

-- ---- targets (13.15.5)

all_fit : (us ps : List Term) → Some us ≡ Some ps → depths (all ps) ≤ depths (all us)
all_fit us ps h = rw (sym (some_is us ps h)) (omega arith)

one_fits : (u p : Term) → Some u ≡ Some p → depth p ≤ depth u
one_fits u p h = rw (sym (some_is u p h)) (omega arith)

pub object_target_text : {i : Bool} {ps : List Term} {r : Term} {a b c d : Text} → Seen (sign (codes "{")) a b → GroupCover properties as_targets property_of ps r b c → Seen (sign (codes "}")) c d → TargetRead i (rested Kind.ObjectAssignmentTarget ps r) a d
object_target_text {i} {ps} {r} {a} {d = d} tok g tok' =
    subst (λ (us : List Term). TargetRead i (rested Kind.ObjectAssignmentTarget us r) a d) (some_is g.targets ps g.turns)
    (subst (λ (q : Term). TargetRead i (rested Kind.ObjectAssignmentTarget g.targets q) a d) (some_is g.rest r g.turns_rest)
    (object_target tok g (all_fit g.targets ps g.turns) (one_fits g.rest r g.turns_rest) tok'))

pub array_target_text : {i : Bool} {ps : List Term} {r : Term} {a b c d : Text} → Seen (sign (codes "[")) a b → GroupCover elements as_targets element_of ps r b c → Seen (sign (codes "]")) c d → TargetRead i (rested Kind.ArrayAssignmentTarget ps r) a d
array_target_text {i} {ps} {r} {a} {d = d} tok g tok' =
    subst (λ (us : List Term). TargetRead i (rested Kind.ArrayAssignmentTarget us r) a d) (some_is g.targets ps g.turns)
    (subst (λ (q : Term). TargetRead i (rested Kind.ArrayAssignmentTarget g.targets q) a d) (some_is g.rest r g.turns_rest)
    (array_target tok g (all_fit g.targets ps g.turns) (one_fits g.rest r g.turns_rest) tok'))

-- ---- patterns (14.3.3)

-- A pattern is read where names are bound, and as a target that becomes it.
pub record PatternCover (p : Term) (a b : Text) : Type 0 where
  pub target : Term
  pub read : TargetRead true target a b
  pub begun : begins (lexeme a) ≡ true
  pub turns : pattern_of false target ≡ Some p
  pub deep : depth target ≡ depth p
  -- one without a default
  pub alone : parameter_as (Some p) ≡ Some (parameter_of p absent)
  pub bound : IsReadPattern p a b

name_begins : {x a b : Text} → is_reserved x ≡ false → Seen (word x) a b → begins (lexeme a) ≡ true
name_begins free tok = rw (tok.lexeme_is, free) refl

pub name_cover : {x a b : Text} → is_reserved x ≡ false → Seen (word x) a b → PatternCover (binding_of x) a b
name_cover {x} free tok = record {
  target = identifier_of x;
  read = simple_target_read refl (omega arith) (stands (identifier_read free tok) tok.utf8);
  begun = name_begins free tok;
  turns = refl;
  deep = refl;
  alone = refl;
  bound = binding_pattern_read free tok;
}

object_binds : (limit : ℕ) {fs : List Found} {comma : Bool} {p : Term} {a b c d : Text} → Seen (sign (codes "{")) a b → ReadsGroup (property_of limit) fs comma b c → Seen (sign (codes "}")) c d → (t : Term) → target_in (literal (object_of (all (trees fs))) fs comma) ≡ Some t → pattern_of false t ≡ Some p → pattern (read limit) a ≡ Some (p, d)
unfolding pattern destructured
object_binds limit tok g tok' t h h' = rw (sees_by (codes "{") tok, tok.after_is, object_there limit g tok', h, h')

array_binds : (limit : ℕ) {fs : List Found} {comma : Bool} {p : Term} {a b c d : Text} → Seen (sign (codes "[")) a b → ReadsGroup (element_of limit) fs comma b c → Seen (sign (codes "]")) c d → (t : Term) → target_in (literal (array_of (all (trees fs))) fs comma) ≡ Some t → pattern_of false t ≡ Some p → pattern (read limit) a ≡ Some (p, d)
unfolding pattern destructured
array_binds limit tok g tok' t h h' = rw (sees_by (codes "{") tok, sees_by (codes "[") tok, tok.after_is, array_there limit g tok', h, h')

object_turns : (us ps : List Term) (q r : Term) → pattern_properties (all us) ≡ Some ps → bound_object_rest q ≡ Some r → pattern_of false (rested Kind.ObjectAssignmentTarget us q) ≡ Some (rested Kind.ObjectPattern ps r)
object_turns us ps q r h h' = rw (h, h')

array_turns : (us ps : List Term) (q r : Term) → pattern_elements (all us) ≡ Some ps → pattern_rest q ≡ Some r → pattern_of false (rested Kind.ArrayAssignmentTarget us q) ≡ Some (rested Kind.ArrayPattern ps r)
array_turns us ps q r h h' = rw (h, h')

pub object_pattern_cover : {ps : List Term} {r : Term} {a b c d : Text} → Seen (sign (codes "{")) a b → GroupCover properties as_properties property_of ps r b c → Seen (sign (codes "}")) c d → PatternCover (rested Kind.ObjectPattern ps r) a d
object_pattern_cover {ps} {r} {b = b} {c = c} tok g tok' =
    let same = properties_depth (all g.targets) ps g.turns in
    let same' = name_rest_depth g.rest r g.turns_rest in
    let turns = object_turns g.targets ps g.rest r g.turns g.turns_rest in
    let x = g.reads (depths (all ps) + depth r) (omega arith) (omega arith) in
    record {
      target = rested Kind.ObjectAssignmentTarget g.targets g.rest;
      read = object_target tok g (omega arith) (omega arith) tok';
      begun = ap begins tok.lexeme_is;
      turns = turns;
      deep = rw (same, same') refl;
      alone = refl;
      bound = record {
        utf8 = tok'.utf8;
        shorter = let s1 = tok.shorter in let s2 = x.short in let s3 = tok'.shorter in omega arith;
        deep = omega arith;
        reads = λ limit fits. object_binds limit tok (g.reads limit (omega arith) (omega arith)) tok' (rested Kind.ObjectAssignmentTarget g.targets g.rest) (object_in g.found g.comma g.targets g.rest g.free g.becomes) turns;
      };
    }

pub array_pattern_cover : {ps : List Term} {r : Term} {a b c d : Text} → Seen (sign (codes "[")) a b → GroupCover elements as_elements element_of ps r b c → Seen (sign (codes "]")) c d → PatternCover (rested Kind.ArrayPattern ps r) a d
array_pattern_cover {ps} {r} {b = b} {c = c} tok g tok' =
    let same = elements_depth (all g.targets) ps g.turns in
    let same' = rest_depth g.rest r g.turns_rest in
    let turns = array_turns g.targets ps g.rest r g.turns g.turns_rest in
    let x = g.reads (depths (all ps) + depth r) (omega arith) (omega arith) in
    record {
      target = rested Kind.ArrayAssignmentTarget g.targets g.rest;
      read = array_target tok g (omega arith) (omega arith) tok';
      begun = ap begins tok.lexeme_is;
      turns = turns;
      deep = rw (same, same') refl;
      alone = refl;
      bound = record {
        utf8 = tok'.utf8;
        shorter = let s1 = tok.shorter in let s2 = x.short in let s3 = tok'.shorter in omega arith;
        deep = omega arith;
        reads = λ limit fits. array_binds limit tok (g.reads limit (omega arith) (omega arith)) tok' (rested Kind.ArrayAssignmentTarget g.targets g.rest) (array_in g.found g.comma g.targets g.rest g.free g.becomes) turns;
      };
    }

pub pattern_utf8 : {p : Term} {a b : Text} → PatternCover p a b → IsUtf8 b
pattern_utf8 x = let r = x.read in r.utf8

-- ---- a pattern with a default or without

pub pattern_alone : {p : Term} {a b : Text} → PatternCover p a b → DefaultCover (λ u. pattern_of true u) p a b
pattern_alone {p = p} x = let deep = x.deep in alone_cover x.read x.begun (pattern_loose x.target p x.turns) (omega arith)

default_turns : (u p e : Term) → pattern_of false u ≡ Some p → pattern_of true (of_parts Kind.AssignmentTargetWithDefault u e) ≡ Some (of_parts Kind.AssignmentPattern p e)
default_turns u p e h = rw h

pub pattern_default : {n : ℕ} {p e : Term} {a b c d : Text} → PatternCover p a b → Seen (sign (codes "=")) b c → StandsRead true n e c d → DefaultCover (λ u. pattern_of true u) (of_parts Kind.AssignmentPattern p e) a d
pattern_default {p = p} {e = e} x tok y = let deep = x.deep in default_cover x.read x.begun tok y (default_turns x.target p e x.turns) (rw deep (omega arith))

parameter_turns : (u p : Term) → pattern_of true u ≡ Some p → parameter_as (Some p) ≡ Some (parameter_of p absent) → parameter_as (pattern_of true u) ≡ Some (parameter_of p absent)
parameter_turns u p h alone = rw (h, alone)

pub parameter_alone : {p : Term} {a b : Text} → PatternCover p a b → DefaultCover as_parameters.item (parameter_of p absent) a b
parameter_alone {p} x = let deep = x.deep in alone_cover x.read x.begun (parameter_turns x.target p (pattern_loose x.target p x.turns) x.alone) (omega arith)

parameter_default_turns : (u p e : Term) → pattern_of false u ≡ Some p → parameter_as (pattern_of true (of_parts Kind.AssignmentTargetWithDefault u e)) ≡ Some (parameter_of p e)
parameter_default_turns u p e h = rw h

pub parameter_default : {n : ℕ} {p e : Term} {a b c d : Text} → PatternCover p a b → Seen (sign (codes "=")) b c → StandsRead true n e c d → DefaultCover as_parameters.item (parameter_of p e) a d
parameter_default {p = p} {e = e} x tok y = let deep = x.deep in default_cover x.read x.begun tok y (parameter_default_turns x.target p e x.turns) (rw deep (omega arith))

-- ---- rests

binding_rest_turns : (u p : Term) → pattern_of false u ≡ Some p → pattern_rest (of_part Kind.AssignmentTargetRest u) ≡ Some (of_part Kind.BindingRestElement p)
binding_rest_turns u p h = rw h

pub binding_rest : {p : Term} {a m b : Text} → Seen (sign (codes "...")) a m → PatternCover p m b → RestCover elements as_elements element_of (of_part Kind.BindingRestElement p) a b
binding_rest {p = p} tok x = let deep = x.deep in element_rest tok x.read (binding_rest_turns x.target p x.turns) (omega arith) refl

parameter_rest_turns : (u p : Term) → pattern_of false u ≡ Some p → parameter_rest (pattern_rest (of_part Kind.AssignmentTargetRest u)) ≡ Some (of_part Kind.FormalParameterRest (of_part Kind.BindingRestElement p))
parameter_rest_turns u p h = rw h

pub parameter_rest_cover : {p : Term} {a m b : Text} → Seen (sign (codes "...")) a m → PatternCover p m b → RestCover elements as_parameters (item_of false) (of_part Kind.FormalParameterRest (of_part Kind.BindingRestElement p)) a b
parameter_rest_cover {p = p} tok x = let deep = x.deep in parenthesized_rest tok x.read (parameter_rest_turns x.target p x.turns) (omega arith) refl

pub target_rest : {t : Term} {a m b : Text} → Seen (sign (codes "...")) a m → TargetRead true t m b → RestCover elements as_targets element_of (of_part Kind.AssignmentTargetRest t) a b
target_rest tok x = element_rest tok x refl (omega arith) refl

-- ---- the parameters of an arrow function (15.3)

parameters_are : (fs : List Found) (comma : Bool) (us ps : List Term) (q r : Term) → is_barred fs comma ≡ false → target_elements (all (trees fs)) ≡ Some (us, q) → parameters_as us ≡ Some ps → parameter_rest (pattern_rest q) ≡ Some r → parameters_in fs comma ≡ Some (rested Kind.FormalParameters ps r)
parameters_are fs comma us ps q r free becomes h h' = rw (free, becomes, h, h')

pub arrow_parameters_read : {ps : List Term} {r : Term} {a b c d : Text} → Seen (sign (codes "(")) a b → GroupCover elements as_parameters (item_of false) ps r b c → Seen (sign (codes ")")) c d → ParametersRead (rested Kind.FormalParameters ps r) a d
arrow_parameters_read {ps} {r} {b = b} {c = c} tok g tok' = record {
  rest = b;
  last = c;
  found = g.found;
  comma = g.comma;
  open' = tok;
  close = tok';
  parameters_are = parameters_are g.found g.comma g.targets ps g.rest r g.free g.becomes g.turns g.turns_rest;
  reads = λ limit fits. g.reads limit (omega arith) (omega arith);
}

-- ---- a target with a default or without

pub target_alone : {t : Term} {a b : Text} → TargetRead true t a b → begins (lexeme a) ≡ true → DefaultCover as_targets.item t a b
target_alone x begun = alone_cover x begun refl (omega arith)

pub target_default : {n : ℕ} {t e : Term} {a b c d : Text} → TargetRead true t a b → begins (lexeme a) ≡ true → Seen (sign (codes "=")) b c → StandsRead true n e c d → DefaultCover as_targets.item (of_parts Kind.AssignmentTargetWithDefault t e) a d
target_default x begun tok y = default_cover x begun tok y refl (omega arith)
