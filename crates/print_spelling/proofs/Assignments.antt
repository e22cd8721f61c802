-- Targets, updates and assignments (ECMAScript 13.4, 13.15).
use Rattle.std.proofs.Common.{◌≡◌, refl, sym, subst, ◌≤◌, List, [], ◌∷◌, ◌++◌, Bool, true, false, not, cond, ◌&&◌, ◌||◌, arith}
use Rattle.std.specs.Prelude.{codes}
use Rattle.std.proofs.lemmas.Bool.{and_parts, not-true}
use Rattle.std.specs.List.{list_all}
use Rattle.js_term.specs.Term.{Text, is_text, Term, absent, list, node, Terms, none, more, one, two}
use Rattle.js_term.specs.declared.kind.Kind.{Kind}
use Rattle.js_term.specs.Lexeme.{is_one_of}
use Rattle.js_syntax.specs.Lexical.{begins, begins_gap}
use Rattle.js_syntax.specs.Tokens.{signs, opens_with, is_longest, Sign}
use Rattle.js_syntax.specs.Edges as edges
use Rattle.js_syntax.specs.Edges.{is_update, member_level}
use Rattle.js_syntax.specs.Texts.{assignment_operators, update_operators}
use Rattle.js_syntax.specs.Nodes.{marked, update_of}
use Rattle.js_syntax.specs.Sorts as sorts
use Rattle.js_syntax.specs.Sorts.{Sort, Place, is_expression, takes}
use Rattle.js_syntax.specs.Printable.{has_shape}
use Rattle.js_syntax.specs.Levels.{level, level_first}
use Rattle.js_syntax.specs.Spelling.{Target, simple_target, assignment, update_behind, update_before}
use Rattle.print_layout.specs.Rows.{Piece, braces}
use Rattle.print_layout.specs.Needs.{is_in, never}
use Rattle.print_layout.specs.Layout.{put, wrapped}
use Rattle.print_spelling.proofs.Openings.{is_fresh, sum_signs}
use Rattle.print_spelling.proofs.Tokens.{differ, same_text, or_by, among, Lead, flush, spaced, led, sign_at, same_line}
use Rattle.print_spelling.proofs.Spread.{To, to, Written, spread_to}
use Rattle.print_spelling.proofs.Fits.{taken_by}
use Rattle.print_spelling.proofs.Claims.{bare, bare_to, ends, through, Opens, Expr, ExpressionRule, of_stands, Claim, off, category, Meaning}
use Rattle.print_spelling.proofs.Placed.{in_place_node, expression_meaning, At, at_by, loose, at, opens_tight}
use Rattle.print_spelling.proofs.Links.{member_high}

-- ---- simple targets: an identifier or a member

into_expression : (k : Kind) → sorts.is_simple_target k ≡ true → is_expression k ≡ true
into_expression Kind.Identifier h = refl
into_expression Kind.StaticMemberExpression h = refl
into_expression Kind.ComputedMemberExpression h = refl
into_expression Kind.PrivateFieldExpression h = refl
into_expression k h = differ (sym h)

no_in : (k : Kind) (texts : List Text) → sorts.is_simple_target k ≡ true → is_in k texts ≡ false
no_in Kind.BinaryExpression texts h = differ (sym h)
no_in Kind.PrivateInExpression texts h = differ (sym h)
no_in k texts h = refl

target_level : (k : Kind) (texts : List Text) (ts : Terms) → sorts.is_simple_target k ≡ true → 19 ≤ level (node k texts ts)
target_level Kind.Identifier texts ts h = omega arith
target_level Kind.StaticMemberExpression texts ts h = member_high (level_first ts)
target_level Kind.ComputedMemberExpression texts ts h = member_high (level_first ts)
target_level Kind.PrivateFieldExpression texts ts h = member_high (level_first ts)
target_level k texts ts h = differ (sym h)

pub record Simple (i : Bool) (t : Term) : Type 0 where
  pub is : edges.is_simple_target (wrapped i never t) ≡ true
  pub at : At i never 19 t

simple_node : (i : Bool) (k : Kind) (texts : List Text) (ts : Terms) → sorts.is_simple_target k ≡ true → Meaning off (category k) (node k texts ts) → Simple i (node k texts ts)
simple_node i k texts ts s c =
    let t : Term = node k texts ts in
    let p = in_place_node i never k texts ts (expression_meaning off k t (into_expression k s) c) in
    record {
      is = subst (λ b. edges.is_simple_target (put (not i && b) (bare (i || (not i && b)) t)) ≡ true) (sym (no_in k texts s)) (by i);
      at = at_by 19 refl i never t (λ h. target_level k texts ts s) p;
    }
  where
    by : (j : Bool) → edges.is_simple_target (put (not j && false) (bare (j || (not j && false)) (node k texts ts))) ≡ true
    by true = s
    by false = s

pub simple_is : (i : Bool) (t : Term) → has_shape (Place.one Sort.simple_target) t ≡ true → Claim off t → Simple i t
simple_is i absent h c = differ (sym h)
simple_is i (list ts) h c = differ (sym h)
simple_is i (node k texts ts) h c = simple_node i k texts ts (taken_by Sort.simple_target k texts ts h).taken c.0

-- ---- targets

data TargetKind (k : Kind) : Type 0 where
  array_kind : k ≡ Kind.ArrayAssignmentTarget → TargetKind k
  object_kind : k ≡ Kind.ObjectAssignmentTarget → TargetKind k
  simple_kind : sorts.is_simple_target k ≡ true → TargetKind k

target_kind : (k : Kind) → sorts.is_target k ≡ true → TargetKind k
target_kind Kind.ArrayAssignmentTarget h = array_kind refl
target_kind Kind.ObjectAssignmentTarget h = object_kind refl
target_kind k h = simple_kind h

pub record TargetAt (i : Bool) (t : Term) : Type 0 where
  pub target : (g : Lead) (rest : Text) → ends rest false ≡ true → Target i (wrapped i never t) (led g (to i never t rest)) rest
  pub fresh : (rest : Text) → is_fresh (to i never t rest) ≡ true

pub braces_fresh : (b : Bool) (ps : List Piece) (ws : List Written) (rest : Text) → is_fresh (spread_to (braces b ps) ws rest) ≡ true
braces_fresh true ps ws rest = refl
braces_fresh false ps ws rest = refl

array_target_at : (i : Bool) (texts : List Text) (ts : Terms) → Claim off (node Kind.ArrayAssignmentTarget texts ts) → TargetAt i (node Kind.ArrayAssignmentTarget texts ts)
array_target_at true texts ts c = record { target = λ g rest e. c.0 true g rest; fresh = λ rest. refl }
array_target_at false texts ts c = record { target = λ g rest e. c.0 false g rest; fresh = λ rest. refl }

object_target_at : (i : Bool) (texts : List Text) (ts : Terms) → Claim off (node Kind.ObjectAssignmentTarget texts ts) → TargetAt i (node Kind.ObjectAssignmentTarget texts ts)
object_target_at true texts ts c = record { target = λ g rest e. c.0 true g rest; fresh = λ rest. braces_fresh _ _ _ rest }
object_target_at false texts ts c = record { target = λ g rest e. c.0 false g rest; fresh = λ rest. braces_fresh _ _ _ rest }

pub target_by : (i : Bool) (k : Kind) (texts : List Text) (ts : Terms) → sorts.is_target k ≡ true → Claim off (node k texts ts) → TargetAt i (node k texts ts)
target_by i k texts ts h c = elim (target_kind k h) as (λ z. TargetAt i (node k texts ts)) [
  | array_kind e ↦ subst (λ j. Claim off (node j texts ts) → TargetAt i (node j texts ts)) (sym e) (array_target_at i texts ts) c
  | object_kind e ↦ subst (λ j. Claim off (node j texts ts) → TargetAt i (node j texts ts)) (sym e) (object_target_at i texts ts) c
  | simple_kind s ↦ let p = simple_node i k texts ts s c.0 in record { target = λ g rest e. simple_target p.is (p.at.stands g (through _ rest e)); fresh = p.at.placed.expr.opens.fresh }
]

pub target_at : (i : Bool) (t : Term) → has_shape (Place.one Sort.target) t ≡ true → Claim off t → TargetAt i t
target_at i absent h c = differ (sym h)
target_at i (list ts) h c = differ (sym h)
target_at i (node k texts ts) h c = target_by i k texts ts (taken_by Sort.target k texts ts h).taken c

pub simple_target_at : (i : Bool) (t : Term) → has_shape (Place.one Sort.simple_target) t ≡ true → Claim off t → TargetAt i t
simple_target_at i t h c = let p = simple_is i t h c in record { target = λ g rest e. simple_target p.is (p.at.stands g (through _ rest e)); fresh = p.at.placed.expr.opens.fresh }

-- ---- assignments

abbrev joins : Text → Text → Bool
joins a op = not (begins_gap (op ++ a)) && (is_one_of op signs && (opens_with op (op ++ a) && is_longest op (op ++ a)))

sign_of : (g : Lead) (op rest : Text) → joins rest op ≡ true → Sign op (led g (op ++ rest)) rest
sign_of g op rest h = let js = and_parts (not (begins_gap (op ++ rest))) _ h in sign_at g op (not-true _ js.0) js.1

assigned : (i : Bool) (op : Text) (t e : Term) → is_one_of op assignment_operators ≡ true → edges.is_simple_target (wrapped i never t) || is_text op (codes "=") ≡ true → TargetAt i t → At i (loose 2) 2 e → Expr i (bare i (marked Kind.AssignmentExpression op (two t e))) (bare_to i (marked Kind.AssignmentExpression op (two t e)))
assigned i op t e o s p q =
    of_stands (λ g rest h. assignment o s (p.target g _ refl) (sign_of spaced op _ (among (joins (32 ∷ to i (loose 2) e rest)) assignment_operators op refl o)) (q.stands spaced (through _ rest h)))
    (record { fresh = λ rest. p.fresh (32 ∷ (op ++ 32 ∷ to i (loose 2) e rest)); signless = λ s so m l rest. differ l })

pub assignment_rule : ExpressionRule Kind.AssignmentExpression
assignment_rule (op ∷ []) (more t (more e none)) m c i n =
    let q = at 2 refl i e m.placed.1.0 c.1.0 in
    by (is_text op (codes "=")) refl m.placed.0 q
  where
    by : (b : Bool) → is_text op (codes "=") ≡ b → has_shape (cond b (Place.one Sort.target) (Place.one Sort.simple_target)) t ≡ true → At i (loose 2) 2 e → Expr i (bare i (marked Kind.AssignmentExpression op (two t e))) (bare_to i (marked Kind.AssignmentExpression op (two t e)))
    by true s h q = assigned i op t e m.spoken.0 (or_true (edges.is_simple_target (wrapped i never t)) (is_text op (codes "=")) s) (target_at i t h c.0) q
      where
        or_true : (a b : Bool) → b ≡ true → a || b ≡ true
        or_true true b h = refl
        or_true false b h = h
    by false s h q = assigned i op t e m.spoken.0 (rw (simple_is i t h c.0).is refl) (simple_target_at i t h c.0) q
assignment_rule texts ts m c i n = differ (sym m.counted)

-- ---- updates

or_second : (a b : Bool) → a ≡ false → a || b ≡ true → b ≡ true
or_second true b e h = differ e
or_second false b e h = h

update_opens : (i : Bool) (op : Text) (w : Term) (f : To) → is_one_of op update_operators ≡ true → Opens (update_of op true w) (λ rest. op ++ f rest)
update_opens i op w f o = record {
  fresh = λ rest. among (λ z. is_fresh (z ++ f rest)) update_operators op refl o;
  signless = λ s so m l rest. not-true _ (or_second (is_text op (s ++ s) && true) _ m (among (λ z. (is_text op (z ++ z) && true) || not (begins z (op ++ f rest))) sum_signs s (among (λ y. list_all (λ z. (is_text y (z ++ z) && true) || not (begins z (y ++ f rest))) sum_signs) update_operators op refl o) so));
}

update_with : (i : Bool) (op : Text) (t : Term) → is_one_of op update_operators ≡ true → Simple i t → (prefix : Bool) → Expr i (bare i (update_of op prefix t)) (bare_to i (update_of op prefix t))
update_with i op t o p true =
    of_stands (λ g rest e. update_before o p.is (sign_of g op _ (among (joins (to i never t rest)) update_operators op refl o)) (p.at.stands flush (through _ rest e))) (update_opens i op (wrapped i never t) (to i never t) o)
update_with i op t o p false =
    let high : 19 ≤ level (wrapped i never t) = p.at.high in
    of_stands (λ g rest e. update_behind o p.is (p.at.stands g (through _ (op ++ rest) (among (λ z. ends (z ++ rest) false) update_operators op refl o))) (same_line flush (op ++ rest) refl (not-true _ (among (λ z. not (begins_gap (z ++ rest))) update_operators op refl o))) (sign_of flush op rest (among (joins rest) update_operators op refl o)))
    (opens_tight (λ rest. op ++ rest) (omega (arith, high)) p.at.placed.expr.opens)

pub update_rule : ExpressionRule Kind.UpdateExpression
update_rule (op ∷ [] ∷ []) (more t none) m c i n = update_with i op t m.spoken.0 (simple_is i t m.placed.0 c.0) false
update_rule (op ∷ (x ∷ xs) ∷ []) (more t none) m c i n =
    subst (λ z. Expr i (bare i (node Kind.UpdateExpression (op ∷ z ∷ []) (one t))) (bare_to i (node Kind.UpdateExpression (op ∷ z ∷ []) (one t)))) (sym (same_text (x ∷ xs) (codes "prefix") (or_by (is_text (x ∷ xs) (codes "prefix")) false (λ e. e) (λ e. differ (sym e)) m.spoken.1.0)))
    (update_with i op t m.spoken.0 (simple_is i t m.placed.0 c.0) true)
update_rule texts ts m c i n = differ (sym m.counted)
