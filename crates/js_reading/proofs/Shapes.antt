-- What an expression that stands in a text is, by its tree.
use Rattle.std.proofs.Common.{◌≡◌, ◌≤◌, ℕ, Bool, true, false, refl, sym, subst, ◌∙◌, ap, arith, codes}
use Rattle.std.specs.Str.{IsUtf8}
use Rattle.std.proofs.lemmas.Bool.{false≢true}
use Rattle.js_term.specs.Term.{Text, is_text, Term}
use Rattle.js_term.specs.declared.kind.Kind.{Kind}
use Rattle.js_term.specs.Node.{identifier_of}
use Rattle.js_syntax.specs.Parts.{is_node, is_present}
use Rattle.js_syntax.specs.Tokens.{word, Word}
use Rattle.js_syntax.specs.Edges.{full, edge, is_simple_target, member_level}
use Rattle.js_syntax.specs.Spelling as spell
use Rattle.js_syntax.specs.Spelling.{Stands, Access, BareNew, FunctionText, ClassText}
use Rattle.js_syntax.proofs.Fronts.{same_text}
use Rattle.js_reading.proofs.TokensThere.{Seen, see_word}
use Rattle.js_reading.proofs.Climbs.{is_async}
use Rattle.js_reading.proofs.Links.{member_range}
use Rattle.js_reading.proofs.Calls.{AsyncToken}

pub record Shape (n : ℕ) (e : Term) (a b : Text) : Type 0 where
  -- a target that is no pattern is a name or a member
  pub high : is_simple_target e ≡ true → 19 ≤ n
  pub no_spread : is_node Kind.SpreadElement e ≡ false
  pub present : is_present e ≡ true
  pub async : IsUtf8 a → AsyncToken e a b

other : {n : ℕ} {e : Term} {a b : Text} → is_simple_target e ≡ false → is_node Kind.SpreadElement e ≡ false → is_present e ≡ true → is_async e ≡ false → Shape n e a b
other h h' h'' h''' = record { high = λ x. absurd (false≢true (sym h ∙ x)); no_spread = h'; present = h''; async = λ u x. absurd (false≢true (sym h''' ∙ x)) }

highly : {n : ℕ} {e : Term} {a b : Text} → 19 ≤ n → is_node Kind.SpreadElement e ≡ false → is_present e ≡ true → is_async e ≡ false → Shape n e a b
highly h h' h'' h''' = record { high = λ x. h; no_spread = h'; present = h''; async = λ u x. absurd (false≢true (sym h''' ∙ x)) }

async_name : {x a b : Text} → Word x a b → IsUtf8 a → is_text x (codes "async") ≡ true → ◌≡◌ {A = Term} (identifier_of x) (identifier_of (codes "async")) × Seen (word (codes "async")) a b
async_name {x} {a} {b} tok u h = let same = same_text x (codes "async") h in (ap (λ (y : Text). identifier_of y) same, subst (λ (y : Text). Seen (word y) a b) same (see_word tok u))

name_shape : {x a b : Text} → Word x a b → Shape 21 (identifier_of x) a b
name_shape tok = record { high = λ h. omega arith; no_spread = refl; present = refl; async = λ u h. async_name tok u h }

access_shape : {n : ℕ} {optional : Bool} {o e : Term} {a b c : Text} → 19 ≤ n → Access optional o e b c → Shape n e a c
access_shape h (spell.static_access x y) = highly h refl refl refl
access_shape h (spell.computed_access x y e z) = highly h refl refl refl
access_shape h (spell.private_access x y) = highly h refl refl refl

bare_shape : {i : Bool} {n : ℕ} {e : Term} {a b : Text} → BareNew i e a b → Shape n e a b
bare_shape (spell.new_member tok h s) = other refl refl refl refl
bare_shape (spell.new_new tok s) = other refl refl refl refl

function_shape : {n : ℕ} {f : Term} {a b : Text} → FunctionText Kind.FunctionExpression f a b → Shape n f a b
function_shape (spell.function async w s id ps t) = other refl refl refl refl

class_shape : {n : ℕ} {c : Term} {a b : Text} → ClassText Kind.ClassExpression c a b → Shape n c a b
class_shape (spell.class w id h x es y) = other refl refl refl refl

member_high : (n : ℕ) → 19 ≤ n → 19 ≤ member_level n
member_high n h = let r = member_range n h in r.0

pub stands_shape : {i : Bool} {n : ℕ} {e : Term} {a b : Text} → Stands i n e a b → Shape n e a b
stands_shape (spell.identifier free tok) = name_shape tok
stands_shape (spell.this_expression tok) = other refl refl refl refl
stands_shape (spell.null_literal tok) = other refl refl refl refl
stands_shape (spell.boolean v tok) = other refl refl refl refl
stands_shape (spell.numeric tok) = other refl refl refl refl
stands_shape (spell.bigint tok) = other refl refl refl refl
stands_shape (spell.string_literal tok) = other refl refl refl refl
stands_shape (spell.regexp_literal tok) = other refl refl refl refl
stands_shape (spell.template t) = other refl refl refl refl
stands_shape (spell.array x g y) = other refl refl refl refl
stands_shape (spell.object x g y) = other refl refl refl refl
stands_shape (spell.function_expression f) = function_shape f
stands_shape (spell.class_expression c) = class_shape c
stands_shape (spell.parenthesized x e y) = other refl refl refl refl
stands_shape (spell.import_meta x y z) = other refl refl refl refl
stands_shape (spell.new_target x y z) = other refl refl refl refl
stands_shape (spell.member {n = n} h o x) = access_shape (member_high n h) x
stands_shape (spell.super_member tok x h) = access_shape (omega arith) x
stands_shape (spell.tagged h t q) = other refl refl refl refl
stands_shape (spell.construction tok h f es) = other refl refl refl refl
stands_shape (spell.bare_construction s) = bare_shape s
stands_shape (spell.call h f es) = other refl refl refl refl
stands_shape (spell.super_call tok es) = other refl refl refl refl
stands_shape (spell.import_call tok x e o y) = other refl refl refl refl
stands_shape (spell.chain s) = other refl refl refl refl
stands_shape (spell.update_behind is h s line tok) = other refl refl refl refl
stands_shape (spell.update_before is h tok s) = other refl refl refl refl
stands_shape (spell.unary is h o s) = other refl refl refl refl
stands_shape (spell.await_expression h tok s) = other refl refl refl refl
stands_shape (spell.exponentiation h h' l tok r) = other refl refl refl refl
stands_shape (spell.binary is h h' h'' l tok r) = other refl refl refl refl
stands_shape (spell.private_in h tok x s) = other refl refl refl refl
stands_shape (spell.conjunction h h' l tok r) = other refl refl refl refl
stands_shape (spell.disjunction h h' l tok r) = other refl refl refl refl
stands_shape (spell.coalescing h h' l tok r) = other refl refl refl refl
stands_shape (spell.conditional h t x e y f) = other refl refl refl refl
stands_shape (spell.assignment is h t tok e) = other refl refl refl refl
stands_shape (spell.arrow h line tok t) = other refl refl refl refl
stands_shape (spell.bare_yield tok) = other refl refl refl refl
stands_shape (spell.yielding tok line e) = other refl refl refl refl
stands_shape (spell.delegating tok line x e) = other refl refl refl refl

pub function_full : {f : Term} {a b : Text} → FunctionText Kind.FunctionExpression f a b → edge f ≡ full
function_full (spell.function async w s id ps t) = refl

pub class_full : {c : Term} {a b : Text} → ClassText Kind.ClassExpression c a b → edge c ≡ full
class_full (spell.class w id h x es y) = refl
