-- Levels of expressions, and of their parts.
use Rattle.std.proofs.Common.{◌≡◌, refl, ℕ, ◌≤◌, suc, Bool, true, arith, sym, ap, subst, ◌∙◌}
use Rattle.std.specs.Prelude.{nat_le}
use Rattle.std.proofs.lemmas.Bool.{and_from, le-leb}
use Rattle.js_term.specs.Term.{Text, Term}
use Rattle.js_term.specs.declared.kind.Kind.TheVariants as Kind
use Rattle.js_syntax.specs.Edges.{is_coalesce_left, member_level}
use Rattle.js_syntax.specs.Spelling
use Rattle.js_syntax.specs.Spelling.{Stands, Access, static_access, computed_access, private_access, BareNew, new_member, new_new, FunctionText, function, ClassText, class}
use Rattle.js_syntax.specs.Levels.{level, level_or, fits, binary_fits, HasLevel, usual, bare_new, Levels}

exact : {n : ℕ} {e : Term} → 19 ≤ n → HasLevel n e → n ≡ level e
exact le (usual same) = same
exact le (bare_new is twenty) = absurd (omega arith)

at_least : {n : ℕ} {e : Term} (k : ℕ) → k ≤ n → HasLevel n e → nat_le k (level e) ≡ true
at_least {n} {e} k le (usual same) = le-leb k (level e) (omega arith)
at_least {n} {e} k le (bare_new is twenty) = le-leb k (level e) (omega arith)

access_level : {optional : Bool} {o e : Term} {a b : Text} → Access optional o e a b → level e ≡ member_level (level o)
access_level (static_access _ _) = refl
access_level (computed_access _ _ _ _) = refl
access_level (private_access _ _) = refl

access_fits : {optional : Bool} {o e : Term} {a b : Text} → Access optional o e a b → nat_le 19 (level o) ≡ true → fits e ≡ true
access_fits (static_access _ _) e = e
access_fits (computed_access _ _ _ _) e = e
access_fits (private_access _ _) e = e

function_level : {f : Term} {a b : Text} → FunctionText Kind.FunctionExpression f a b → (level f ≡ 21) × (fits f ≡ true)
function_level (function _ _ _ _ _ _) = (refl, refl)

class_level : {c : Term} {a b : Text} → ClassText Kind.ClassExpression c a b → (level c ≡ 21) × (fits c ≡ true)
class_level (class _ _ _ _ _ _) = (refl, refl)

mutual
  pub stands_level : {i : Bool} {n : ℕ} {e : Term} {a b : Text} → Stands i n e a b → HasLevel n e
  stands_level (Spelling.identifier _ _) = usual refl
  stands_level (Spelling.this_expression _) = usual refl
  stands_level (Spelling.null_literal _) = usual refl
  stands_level (Spelling.boolean _ _) = usual refl
  stands_level (Spelling.numeric _) = usual refl
  stands_level (Spelling.bigint _) = usual refl
  stands_level (Spelling.string_literal _) = usual refl
  stands_level (Spelling.regexp_literal _) = usual refl
  stands_level (Spelling.template _) = usual refl
  stands_level (Spelling.array _ _ _) = usual refl
  stands_level (Spelling.object _ _ _) = usual refl
  stands_level (Spelling.function_expression f) = usual (sym (function_level f).0)
  stands_level (Spelling.class_expression c) = usual (sym (class_level c).0)
  stands_level (Spelling.parenthesized _ _ _) = usual refl
  stands_level (Spelling.import_meta _ _ _) = usual refl
  stands_level (Spelling.new_target _ _ _) = usual refl
  stands_level (Spelling.member le o link) = usual (ap member_level (exact le (stands_level o)) ∙ sym (access_level link))
  stands_level (Spelling.super_member _ link _) = usual (sym (access_level link))
  stands_level (Spelling.tagged le t _) = usual (ap member_level (exact le (stands_level t)))
  stands_level (Spelling.construction _ _ _ _) = usual refl
  stands_level (Spelling.bare_construction new) = bare_new refl (bare_level new).0
  stands_level (Spelling.call _ _ _) = usual refl
  stands_level (Spelling.super_call _ _) = usual refl
  stands_level (Spelling.import_call _ _ _ _ _) = usual refl
  stands_level (Spelling.chain _) = usual refl
  stands_level (Spelling.update_behind _ _ _ _ _) = usual refl
  stands_level (Spelling.update_before _ _ _ _) = usual refl
  stands_level (Spelling.unary _ _ _ _) = usual refl
  stands_level (Spelling.await_expression _ _ _) = usual refl
  stands_level (Spelling.exponentiation _ _ _ _ _) = usual refl
  stands_level (Spelling.binary of _ _ _ _ _ _) = usual (sym (ap (λ x. level_or x 15) of))
  stands_level (Spelling.private_in _ _ _ _) = usual refl
  stands_level (Spelling.conjunction _ _ _ _ _) = usual refl
  stands_level (Spelling.disjunction _ _ _ _ _) = usual refl
  stands_level (Spelling.coalescing _ _ _ _ _) = usual refl
  stands_level (Spelling.conditional _ _ _ _ _ _) = usual refl
  stands_level (Spelling.assignment _ _ _ _ _) = usual refl
  stands_level (Spelling.arrow _ _ _ _) = usual refl
  stands_level (Spelling.bare_yield _) = usual refl
  stands_level (Spelling.yielding _ _ _) = usual refl
  stands_level (Spelling.delegating _ _ _ _) = usual refl

  bare_level : {i : Bool} {e : Term} {a b : Text} → BareNew i e a b → (level e ≡ 20) × (fits e ≡ true)
  bare_level (new_member _ le f) = (refl, at_least 20 le (stands_level f))
  bare_level (new_new _ f) = (refl, ap (nat_le 20) (bare_level f).0)

coalesce_left : {n : ℕ} {e : Term} → is_coalesce_left n ≡ true → HasLevel n e → is_coalesce_left (level e) ≡ true
coalesce_left left (usual same) = subst (λ x. is_coalesce_left x ≡ true) same left
coalesce_left left (bare_new is twenty) = ap is_coalesce_left twenty

pub stands_fits : {i : Bool} {n : ℕ} {e : Term} {a b : Text} → Stands i n e a b → fits e ≡ true
stands_fits (Spelling.identifier _ _) = refl
stands_fits (Spelling.this_expression _) = refl
stands_fits (Spelling.null_literal _) = refl
stands_fits (Spelling.boolean _ _) = refl
stands_fits (Spelling.numeric _) = refl
stands_fits (Spelling.bigint _) = refl
stands_fits (Spelling.string_literal _) = refl
stands_fits (Spelling.regexp_literal _) = refl
stands_fits (Spelling.template _) = refl
stands_fits (Spelling.array _ _ _) = refl
stands_fits (Spelling.object _ _ _) = refl
stands_fits (Spelling.function_expression f) = (function_level f).1
stands_fits (Spelling.class_expression c) = (class_level c).1
stands_fits (Spelling.parenthesized _ _ _) = refl
stands_fits (Spelling.import_meta _ _ _) = refl
stands_fits (Spelling.new_target _ _ _) = refl
stands_fits (Spelling.member le o link) = access_fits link (at_least 19 le (stands_level o))
stands_fits (Spelling.super_member _ link _) = access_fits link refl
stands_fits (Spelling.tagged le t _) = at_least 19 le (stands_level t)
stands_fits (Spelling.construction _ le f _) = at_least 20 le (stands_level f)
stands_fits (Spelling.bare_construction new) = (bare_level new).1
stands_fits (Spelling.call le f _) = at_least 19 le (stands_level f)
stands_fits (Spelling.super_call _ _) = refl
stands_fits (Spelling.import_call _ _ _ _ _) = refl
stands_fits (Spelling.chain _) = refl
stands_fits (Spelling.update_behind _ _ _ _ _) = refl
stands_fits (Spelling.update_before _ _ _ _) = refl
stands_fits (Spelling.unary _ le _ e) = at_least 16 le (stands_level e)
stands_fits (Spelling.await_expression le _ e) = at_least 16 le (stands_level e)
stands_fits (Spelling.exponentiation left right x _ y) = and_from _ _ (at_least 17 left (stands_level x)) (at_least 15 right (stands_level y))
stands_fits (Spelling.binary {k = k} {op = op} {l = l} {r = r} of _ left right x _ y) = ap (λ x. binary_fits x (level l) (level r)) of ∙ and_from _ _ (at_least k left (stands_level x)) (at_least (suc k) right (stands_level y))
stands_fits (Spelling.private_in le _ _ r) = at_least 12 le (stands_level r)
stands_fits (Spelling.conjunction left right x _ y) = and_from _ _ (at_least 6 left (stands_level x)) (at_least 7 right (stands_level y))
stands_fits (Spelling.disjunction left right x _ y) = and_from _ _ (at_least 5 left (stands_level x)) (at_least 6 right (stands_level y))
stands_fits (Spelling.coalescing left right x _ y) = and_from _ _ (coalesce_left left (stands_level x)) (at_least 7 right (stands_level y))
stands_fits (Spelling.conditional le t _ _ _ _) = at_least 4 le (stands_level t)
stands_fits (Spelling.assignment _ _ _ _ _) = refl
stands_fits (Spelling.arrow _ _ _ _) = refl
stands_fits (Spelling.bare_yield _) = refl
stands_fits (Spelling.yielding _ _ _) = refl
stands_fits (Spelling.delegating _ _ _ _) = refl

pub levels : Levels
levels = record { a_level = stands_level; its_parts = stands_fits }
