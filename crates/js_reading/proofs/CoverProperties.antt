-- The properties of targets and of patterns are read as those of an object.
use Rattle.std.proofs.Common.{◌≡◌, ◌≤◌, ℕ, Bool, true, false, List, [], ◌∷◌, Option, Some, refl, ◌∙◌, ap, arith, codes}
use Rattle.std.proofs.lemmas.Bool.{false≢true}
use Rattle.js_term.specs.Term.{Text, Term, flag, none, more, depth}
use Rattle.js_term.specs.declared.kind.Kind.{Kind}
use Rattle.js_term.specs.Lexeme.{is_reserved}
use Rattle.js_term.specs.Node.{name_of, identifier_of, binding_of}
use Rattle.js_syntax.specs.Nodes.{of_part, of_parts, pair_of}
use Rattle.js_syntax.specs.Parts.{is_present}
use Rattle.js_syntax.specs.Tokens.{word, sign}
use Rattle.js_syntax.specs.Edges.{edge, is_simple_target}
use Rattle.js_reading.specs.declared.goal.Goal.{Goal}
use Rattle.js_reading.specs.declared.goal.Goal.TheVariants as goal
use Rattle.js_reading.specs.Reading.{Found, Reading}
use Rattle.js_reading.specs.Targets.{part_as, target_of, target_property, target_properties, pattern_of}
use Rattle.js_reading.specs.Parts.{part, spread_of}
use Rattle.js_reading.specs.Literals.{pair_found, default_found, shorthand_found, shorthand, property_item}
use Rattle.js_reading.specs.Read.{read}
use Rattle.js_reading.proofs.TokensThere.{Seen, sees_by}
use Rattle.js_reading.proofs.Lists.{is_closing, some_item}
use Rattle.js_reading.proofs.Follows.{end_holds}
use Rattle.js_reading.proofs.Climbs.{whole, right_read}
use Rattle.js_reading.proofs.Leaves.{identifier_read}
use Rattle.js_reading.proofs.Listings.{StandsRead, stands, found_expression, spread_closes}
use Rattle.js_reading.proofs.Grouped.{property_of}
use Rattle.js_reading.proofs.Fields.{KeyItem, item_open, item_goes, colon_goes, valued_there, named_there, plain_name, seen_key, shorthand_reads, spread_there}
use Rattle.js_reading.proofs.Becoming.{Turning, ItemCover, RestCover}
use Rattle.js_reading.proofs.CoverItems.{properties, as_targets, as_properties, DefaultCover}

-- ---- k: t

pair_becomes : (computed : Bool) (k : Term) (f : Found) (u : Term) → target_of true f.tree ≡ Some u → target_property (pair_found (computed, k) f).tree ≡ Some (pair_of Kind.AssignmentTargetProperty computed false k u)
pair_becomes computed k f u h = rw h

pair_cover : {t : Turning} {turn : Term → Option Term} {computed : Bool} {kind : Kind} {k v : Term} {a b c d : Text} → KeyItem computed k a b → Seen (sign (codes ":")) b c → (x : DefaultCover turn v c d) → t.item (pair_of Kind.AssignmentTargetProperty computed false k x.target) ≡ Some (pair_of kind computed false k v) → ItemCover properties t property_of false (pair_of kind computed false k v) a d
pair_cover {computed = computed} {k = k} key tok x turns = let kr = key.key_read in record {
  found = pair_found (computed, k) x.found;
  target = pair_of Kind.AssignmentTargetProperty computed false k x.target;
  free = x.free;
  solid = refl;
  becomes = pair_becomes computed k x.found x.target x.becomes;
  turns = turns;
  utf8 = x.utf8;
  reads = λ limit fits. some_item false (let s1 = kr.shorter in let s2 = tok.shorter in let s3 = x.shorter in omega arith) (item_open key)
      (λ h. item_goes key limit (omega arith) (seen_key tok) (sees_by (codes "*") tok) (colon_goes tok) ∙ valued_there limit (computed, k) tok (x.reads limit (omega arith) h)) (λ h. absurd (false≢true h));
}

-- the texts of such a property
abbrev flags : Bool → List Text
flags computed = flag computed (codes "computed") ∷ [] ∷ []

pub target_pair : {computed : Bool} {k v : Term} {a b c d : Text} → KeyItem computed k a b → Seen (sign (codes ":")) b c → DefaultCover as_targets.item v c d → ItemCover properties as_targets property_of false (pair_of Kind.AssignmentTargetProperty computed false k v) a d
target_pair {computed} {k} key tok x = pair_cover key tok x (ap (λ (o : Option Term). part_as Kind.AssignmentTargetProperty (flags computed) k o) x.turns)

pub binding_pair : {computed : Bool} {k v : Term} {a b c d : Text} → KeyItem computed k a b → Seen (sign (codes ":")) b c → DefaultCover (λ u. pattern_of true u) v c d → ItemCover properties as_properties property_of false (pair_of Kind.BindingProperty computed false k v) a d
binding_pair {computed} {k} key tok x = pair_cover key tok x (ap (λ (o : Option Term). part_as Kind.BindingProperty (flags computed) k o) x.turns)

-- ---- x

shorthand_cover : {t : Turning} {x a b : Text} {p : Term} → is_reserved x ≡ false → Seen (word x) a b → t.item (pair_of Kind.AssignmentTargetProperty false true (name_of x) (identifier_of x)) ≡ Some p → ItemCover properties t property_of false p a b
shorthand_cover {x = x} free tok turns = record {
  found = shorthand_found x;
  target = pair_of Kind.AssignmentTargetProperty false true (name_of x) (identifier_of x);
  free = refl;
  solid = refl;
  becomes = refl;
  turns = turns;
  utf8 = tok.utf8;
  reads = λ limit fits. shorthand_reads limit free tok;
}

pub target_shorthand : {x a b : Text} → is_reserved x ≡ false → Seen (word x) a b → ItemCover properties as_targets property_of false (pair_of Kind.AssignmentTargetProperty false true (name_of x) (identifier_of x)) a b
target_shorthand free tok = shorthand_cover free tok refl

pub binding_shorthand : {x a b : Text} → is_reserved x ≡ false → Seen (word x) a b → ItemCover properties as_properties property_of false (pair_of Kind.BindingProperty false true (name_of x) (binding_of x)) a b
binding_shorthand free tok = shorthand_cover free tok refl

-- ---- x = e

default_there : (sub : Goal → Text → Reading Found) {x b c : Text} {e : Term} {d : Text} → is_reserved x ≡ false → Seen (sign (codes "=")) b c → part sub (goal.Expression 2 true) c ≡ Some (e, d) → shorthand sub x b ≡ Some (default_found x e, d)
unfolding shorthand
default_there sub free tok h = rw (free, sees_by (codes "=") tok, tok.after_is, h)

property_default : (sub : Goal → Text → Reading Found) {x a b c : Text} {e : Term} {d : Text} → is_reserved x ≡ false → Seen (word x) a b → Seen (sign (codes "=")) b c → part sub (goal.Expression 2 true) c ≡ Some (e, d) → property_item sub a ≡ Some (default_found x e, d)
property_default sub {x} {b = b} free tok tok' h = named_there sub tok ∙ plain_name sub x b (seen_key tok') (sees_by (codes "*") tok') ∙ rw (sees_by (codes ":") tok', sees_by (codes "(") tok') (default_there sub free tok' h)

initial_cover : {t : Turning} {n : ℕ} {x a b c d : Text} {e p : Term} → is_reserved x ≡ false → Seen (word x) a b → Seen (sign (codes "=")) b c → StandsRead true n e c d → t.item (pair_of Kind.AssignmentTargetProperty false true (name_of x) (of_parts Kind.AssignmentTargetWithDefault (identifier_of x) e)) ≡ Some p → depth e ≤ depth p → ItemCover properties t property_of false p a d
initial_cover {x = x} {d = d} {e = e} free tok tok' y turns fit = let r = y.read in record {
  found = default_found x e;
  target = pair_of Kind.AssignmentTargetProperty false true (name_of x) (of_parts Kind.AssignmentTargetWithDefault (identifier_of x) e);
  free = refl;
  solid = refl;
  becomes = refl;
  turns = turns;
  utf8 = y.utf8;
  reads = λ limit fits. some_item false (let s1 = tok.shorter in let s2 = tok'.shorter in let s3 = r.shorter in omega arith) (ap is_closing tok.lexeme_is)
      (λ h. property_default (read limit) free tok tok' (right_read r limit (omega arith) (end_holds true (edge e) 1 d h))) (λ h. absurd (false≢true h));
}

pub target_initial : {n : ℕ} {x a b c d : Text} {e : Term} → is_reserved x ≡ false → Seen (word x) a b → Seen (sign (codes "=")) b c → StandsRead true n e c d → ItemCover properties as_targets property_of false (pair_of Kind.AssignmentTargetProperty false true (name_of x) (of_parts Kind.AssignmentTargetWithDefault (identifier_of x) e)) a d
target_initial free tok tok' y = initial_cover free tok tok' y refl (omega arith)

pub binding_initial : {n : ℕ} {x a b c d : Text} {e : Term} → is_reserved x ≡ false → Seen (word x) a b → Seen (sign (codes "=")) b c → StandsRead true n e c d → ItemCover properties as_properties property_of false (pair_of Kind.BindingProperty false true (name_of x) (of_parts Kind.AssignmentPattern (binding_of x) e)) a d
binding_initial free tok tok' y = initial_cover free tok tok' y refl (omega arith)

-- ---- ...t, where t is no pattern

rest_becomes : (t : Term) → is_simple_target t ≡ true → target_properties (more (of_part Kind.SpreadElement t) none) ≡ Some ([], of_part Kind.AssignmentTargetRest t)
rest_becomes t h = rw h

rest_cover : {t : Turning} {n : ℕ} {e r : Term} {a m b : Text} → is_simple_target e ≡ true → Seen (sign (codes "...")) a m → StandsRead true n e m b → t.rest (of_part Kind.AssignmentTargetRest e) ≡ Some r → depth e ≤ depth r → is_present r ≡ true → RestCover properties t property_of r a b
rest_cover {n = n} {e = e} simple tok x turns fit present = let r = x.read in record {
  found = spread_of (whole e n x.barred);
  target = of_part Kind.AssignmentTargetRest e;
  free = x.simple simple;
  present = present;
  becomes = rest_becomes e simple;
  turns = turns;
  utf8 = x.utf8;
  reads = λ limit fits. some_item false (let s1 = tok.shorter in let s2 = r.shorter in omega arith) (spread_closes tok) (λ h. spread_there limit tok (found_expression r limit (omega arith) h)) (λ h. absurd (false≢true h));
}

pub target_properties_rest : {n : ℕ} {e : Term} {a m b : Text} → is_simple_target e ≡ true → Seen (sign (codes "...")) a m → StandsRead true n e m b → RestCover properties as_targets property_of (of_part Kind.AssignmentTargetRest e) a b
target_properties_rest simple tok x = rest_cover simple tok x refl (omega arith) refl

pub binding_properties_rest : {x a m b : Text} → is_reserved x ≡ false → Seen (sign (codes "...")) a m → Seen (word x) m b → RestCover properties as_properties property_of (of_part Kind.BindingRestElement (binding_of x)) a b
binding_properties_rest free tok x = rest_cover refl tok (stands (identifier_read free x) x.utf8) refl (omega arith) refl
