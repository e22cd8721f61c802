-- What is read of the parts below a depth, and the expressions, keys and templates that are made of them.
use Rattle.std.proofs.Common.{◌≤◌, ◌<◌, ℕ, Bool, List, refl, arith}
use Rattle.std.specs.Str.{IsUtf8}
use Rattle.js_term.specs.Term.{Text, Term, list, node, Terms, more, all, depth, depths}
use Rattle.js_term.specs.declared.kind.Kind.{Kind}
use Rattle.js_syntax.specs.Spelling as spell
use Rattle.js_syntax.specs.Spelling.{Stands, Expression, Listed, Key, MemberKey, Template, TemplateRest, Target, Pattern, Statement}
use Rattle.js_reading.proofs.TokensThere.{see, see_sign, see_word, see_tail}
use Rattle.js_reading.proofs.StatementStarts.{IsReadStatement}
use Rattle.js_reading.proofs.Listings.{StandsRead, ExpressionsRead, last_expression, and_expression, IsReadExpression, single_read, sequence_read}
use Rattle.js_reading.proofs.Grouped.{IsReadTemplate}
use Rattle.js_reading.proofs.Arrows.{TargetRead}
use Rattle.js_reading.proofs.Fields.{KeyItem, name_item, string_item, number_item, bigint_item, computed_item}
use Rattle.js_reading.proofs.Methods.{MemberKeyFound, by_key, by_private}
use Rattle.js_reading.proofs.Templating.{whole_template_read, template_parts_read, IsReadQuasis, template_end_read, template_more_read}
use Rattle.js_reading.proofs.Dispatching.{stands_starts}
use Rattle.js_reading.proofs.PatternsRead.{PatternCover}

-- a term of this depth at most, one below it, and several
pub record Fits (d : ℕ) (t : Term) : Type 0 where
  pub depth_is : depth t ≤ d

pub record Small (d : ℕ) (t : Term) : Type 0 where
  pub depth_is : depth t < d

pub record Smalls (d : ℕ) (ts : Terms) : Type 0 where
  pub depths_are : depths ts < d

pub record Below (d : ℕ) : Type 0 where
  pub stands : {i : Bool} {n : ℕ} {e : Term} {a b : Text} → Stands i n e a b → IsUtf8 a → Small d e → StandsRead i n e a b
  pub target : {i : Bool} {t : Term} {a b : Text} → Target i t a b → IsUtf8 a → Small d t → TargetRead i t a b
  pub pattern : {p : Term} {a b : Text} → Pattern p a b → IsUtf8 a → Small d p → PatternCover p a b
  pub statement : {s : Term} {a b : Text} → Statement s a b → IsUtf8 a → Small d s → IsReadStatement s a b

-- ---- the parts of a node are below it

pub first_in : {k : Kind} {xs : List Text} {t : Term} {ts : Terms} {d : ℕ} → Fits d (node k xs (more t ts)) → Small d t
first_in f = record { depth_is = let h = f.depth_is in omega arith }

pub second_in : {k : Kind} {xs : List Text} {t u : Term} {ts : Terms} {d : ℕ} → Fits d (node k xs (more t (more u ts))) → Small d u
second_in f = record { depth_is = let h = f.depth_is in omega arith }

pub third_in : {k : Kind} {xs : List Text} {t u v : Term} {ts : Terms} {d : ℕ} → Fits d (node k xs (more t (more u (more v ts)))) → Small d v
third_in f = record { depth_is = let h = f.depth_is in omega arith }

pub fourth_in : {k : Kind} {xs : List Text} {t u v w : Term} {ts : Terms} {d : ℕ} → Fits d (node k xs (more t (more u (more v (more w ts))))) → Small d w
fourth_in f = record { depth_is = let h = f.depth_is in omega arith }

pub items_in : {ts : Terms} {d : ℕ} → Small d (list ts) → Smalls d ts
items_in f = record { depths_are = f.depth_is }

pub head_in : {t : Term} {ts : Terms} {d : ℕ} → Smalls d (more t ts) → Small d t
head_in f = record { depth_is = let h = f.depths_are in omega arith }

pub tail_in : {t : Term} {ts : Terms} {d : ℕ} → Smalls d (more t ts) → Smalls d ts
tail_in f = record { depths_are = let h = f.depths_are in omega arith }

-- what is below fits
pub fits : {t : Term} {d : ℕ} → Small d t → Fits d t
fits f = record { depth_is = let h = f.depth_is in omega arith }

module _ {d : ℕ} (below : Below d) where
  pub expressions_below : {i : Bool} {es : List Term} {a b : Text} → Listed (spell.expression i) es a b → IsUtf8 a → Smalls d (all es) → ExpressionsRead i es a b
  expressions_below (spell.last (spell.an_expression s)) u f = last_expression (below.stands s u (head_in f)) (stands_starts s u)
  expressions_below (spell.and (spell.an_expression s) tok rest) u f = let r = below.stands s u (head_in f) in let t = see_sign tok r.utf8 in and_expression r (stands_starts s u) t (expressions_below rest t.utf8 (tail_in f))

  pub expression_below : {i : Bool} {e : Term} {a b : Text} → Expression i e a b → IsUtf8 a → Small d e → IsReadExpression i e a b
  expression_below (spell.single s) u f = single_read (below.stands s u f) (stands_starts s u)
  expression_below (spell.sequence h l) u f = sequence_read h (expressions_below l u (items_in (first_in (fits f))))

  pub key_below : {computed : Bool} {k : Term} {a b : Text} → Key computed k a b → IsUtf8 a → Small d k → KeyItem computed k a b
  key_below (spell.name_key tok) u f = name_item (see_word tok u)
  key_below (spell.string_key tok) u f = string_item (see tok u refl)
  key_below (spell.number_key tok) u f = number_item (see tok u refl)
  key_below (spell.bigint_key tok) u f = bigint_item (see tok u refl)
  key_below (spell.computed_key x e y) u f = let t = see_sign x u in let r = below.stands e t.utf8 f in computed_item t r (see_sign y r.utf8)

  pub member_key_below : {computed : Bool} {k : Term} {a b : Text} → MemberKey computed k a b → IsUtf8 a → Small d k → MemberKeyFound computed k a b
  member_key_below (spell.public_key k) u f = by_key (key_below k u f)
  member_key_below (spell.private_key tok) u f = by_private (see tok u refl)

  quasis_below : {sound : Bool} {qs es : List Term} {a b : Text} → TemplateRest sound qs es a b → IsUtf8 a → Smalls d (all es) → IsReadQuasis sound qs es a b
  quasis_below (spell.template_end h tok) u f = template_end_read h (see_tail tok u refl)
  quasis_below (spell.template_more h tok e rest) u f = let t = see_tail tok u refl in let r = expression_below e t.utf8 (head_in f) in template_more_read h t r (quasis_below rest r.utf8 (tail_in f))

  pub template_below : {sound : Bool} {qs es : List Term} {a b : Text} → Template sound qs es a b → IsUtf8 a → Smalls d (all es) → IsReadTemplate sound qs es a b
  template_below (spell.whole_template h tok) u f = whole_template_read h (see tok u refl)
  template_below (spell.template_parts h tok e rest) u f = let t = see tok u refl in let r = expression_below e t.utf8 (head_in f) in template_parts_read h t r (quasis_below rest r.utf8 (tail_in f))
