-- Expressions in their places: their levels, their fronts, and how they end.
use Rattle.std.proofs.Common.{◌≡◌, refl, sym, ap, ◌∙◌, subst, ℕ, suc, zero, ◌≤◌, List, [], ◌∷◌, Bool, true, false, not, ◌&&◌, ◌||◌, nat_eq, arith}
use Rattle.std.specs.Prelude.{codes, nat_le, Some, if◌then◌else◌}
use Rattle.std.proofs.lemmas.Bool.{and_parts, ltb-true, ltb-false, le-ltb, leb-true, ne_eqb}
use Rattle.std.specs.List.{list_all}
use Rattle.js_term.specs.Term.{Text, is_text, Term, absent, list, node, Terms, none, more, first}
use Rattle.js_term.specs.declared.kind.Kind.{Kind}
use Rattle.js_term.specs.Lexeme.{is_one_of}
use Rattle.js_term.specs.Kinds.{is_among}
use Rattle.js_syntax.specs.Edges.{member_level, level_among, operator_levels, has_kind}
use Rattle.js_syntax.specs.Sorts.{Sort, Place, is_expression, plain_statements, takes}
use Rattle.js_syntax.specs.Printable.{has_shape}
use Rattle.js_syntax.specs.Levels.{level, level_or, logical_level}
use Rattle.js_syntax.specs.Spelling.{Stands}
use Rattle.print_layout.specs.Rows.{meets, is_sign_of}
use Rattle.print_layout.specs.Needs.{is_looser, is_number_kind, is_in, is_held}
use Rattle.print_layout.specs.Layout.{put, wrapped}
use Rattle.print_spelling.proofs.Tokens.{differ, same_text, or_false, or_by, Lead, led}
use Rattle.print_spelling.proofs.Spread.{To, to}
use Rattle.print_spelling.proofs.Fits.{taken_by}
use Rattle.print_spelling.proofs.Claims.{bare, is_closed, closed, ends, Opens, Expr, NodeExpr, Meaning, an_expression, a_statement, other_category, Claim, held, Mode, off}

pub loose_le : (n : ℕ) (t : Term) → is_looser n t ≡ false → n ≤ level t
loose_le zero t h = omega arith
loose_le (suc n) t h = ltb-false (level t) (suc n) h

pub le_loose : (n : ℕ) (t : Term) → n ≤ level t → is_looser n t ≡ false
le_loose zero t h = refl
le_loose (suc n) t h = le-ltb (level t) (suc n) h

-- ---- A member's level is its object's, and parentheses change no level of 19.

in_level : (k : Kind) (texts : List Text) (ts : Terms) → is_in k texts ≡ true → level (node k texts ts) ≡ 11
in_level Kind.BinaryExpression [] ts h = differ (sym h)
in_level Kind.BinaryExpression (x ∷ xs) ts h = rw (same_text x (codes "in") h) refl
in_level Kind.PrivateInExpression texts ts h = refl
in_level k texts ts h = differ (sym h)

number_level : (t : Term) → has_kind is_number_kind t ≡ true → level t ≡ 21
number_level absent h = differ (sym h)
number_level (list ts) h = differ (sym h)
number_level (node Kind.NumericLiteral texts ts) h = refl
number_level (node k texts ts) h = differ (sym h)

not_nineteen : (t : Term) (n : ℕ) → level t ≡ n → nat_eq n 19 ≡ false → nat_eq (level t) 19 ≡ false
not_nineteen t n e h = rw e h

below_nineteen : (t : Term) → is_looser 19 t ≡ true → nat_eq (level t) 19 ≡ false
below_nineteen t l = let below = ltb-true (level t) 19 l in ne_eqb (level t) 19 (λ e. omega arith)

-- a place whose parentheses change no level of 19
abbrev pub Mild : (Term → Bool) → Type 0
Mild need = (t : Term) → need t ≡ true → nat_eq (level t) 19 ≡ false

object_mild : Mild (λ t. has_kind is_number_kind t || is_looser 19 t)
object_mild t h = or_by (has_kind is_number_kind t) (is_looser 19 t) (λ n. not_nineteen t 21 (number_level t n) refl) (below_nineteen t) h

held_member : (i : Bool) (k : Kind) (texts : List Text) (ts : Terms) → level (bare i (node k texts ts)) ≡ level (node k texts ts) → (b : Bool) → (b ≡ true → nat_eq (level (node k texts ts)) 19 ≡ false) → member_level (level (put b (bare i (node k texts ts)))) ≡ member_level (level (node k texts ts))
held_member i k texts ts e true f = rw (f refl) refl
held_member i k texts ts e false f = ap member_level e

and_right_true : (a b : Bool) → a && b ≡ true → b ≡ true
and_right_true true b h = h
and_right_true false b h = differ (sym h)

mutual
  node_kept : (i : Bool) (k : Kind) (texts : List Text) (ts : Terms) → level (bare i (node k texts ts)) ≡ level (node k texts ts)
  node_kept i Kind.StaticMemberExpression texts none = refl
  node_kept i Kind.StaticMemberExpression texts (more t ts) = member_kept i _ object_mild t
  node_kept i Kind.ComputedMemberExpression texts none = refl
  node_kept i Kind.ComputedMemberExpression texts (more t ts) = member_kept i _ object_mild t
  node_kept i Kind.PrivateFieldExpression texts none = refl
  node_kept i Kind.PrivateFieldExpression texts (more t ts) = member_kept i _ object_mild t
  node_kept i Kind.TaggedTemplateExpression texts none = refl
  node_kept i Kind.TaggedTemplateExpression texts (more t ts) = member_kept i _ below_nineteen t
  node_kept i k texts ts = refl

  member_kept : (i : Bool) (need : Term → Bool) → Mild need → (t : Term) → member_level (level (wrapped i need t)) ≡ member_level (level t)
  member_kept i need mild absent = refl
  member_kept i need mild (list ts) = refl
  member_kept i need mild (node k texts ts) =
      let t : Term = node k texts ts in
      let b : Bool = is_held i need k texts ts in
      held_member (i || b) k texts ts (node_kept (i || b) k texts ts) b
      (λ h. or_by (need t) (not i && is_in k texts) (mild t) (λ h. not_nineteen t 11 (in_level k texts ts (and_right_true (not i) (is_in k texts) h)) refl) h)

put_level : (i : Bool) (n : ℕ) (k : Kind) (texts : List Text) (ts : Terms) → n ≤ 21 → (b : Bool) → (b ≡ false → n ≤ level (node k texts ts)) → n ≤ level (put b (bare i (node k texts ts)))
put_level i n k texts ts h true f = h
put_level i n k texts ts h false f = subst (λ m. n ≤ m) (sym (node_kept i k texts ts)) (f refl)

put_leveled : (P : ℕ → Bool) → P 21 ≡ true → (i : Bool) (k : Kind) (texts : List Text) (ts : Terms) (b : Bool) → (b ≡ false → P (level (node k texts ts)) ≡ true) → P (level (put b (bare i (node k texts ts)))) ≡ true
put_leveled P h i k texts ts true f = h
put_leveled P h i k texts ts false f = subst (λ m. P m ≡ true) (sym (node_kept i k texts ts)) (f refl)

put_closed : (i : Bool) (k : Kind) (texts : List Text) (ts : Terms) (b : Bool) → (b ≡ false → is_closed k ≡ true) → closed (put b (bare i (node k texts ts))) ≡ true
put_closed i k texts ts true f = refl
put_closed i k texts ts false f = f refl

put_meets : (op : Text) (i : Bool) (k : Kind) (texts : List Text) (ts : Terms) (b : Bool) → is_sign_of op k texts ≡ false → meets op (put b (bare i (node k texts ts))) ≡ false
put_meets op i k texts ts true h = refl
put_meets op i k texts ts false h = h

low_row : (op : Text) (rs : List (List Text × ℕ)) → list_all (λ r. nat_le r.1 15) rs ≡ true → level_or (level_among op rs) 15 ≤ 15
low_row op [] h = omega arith
low_row op ((ops, n) ∷ rs) h = by (is_one_of op ops) (low_row op rs (and_parts (nat_le n 15) (list_all (λ r. nat_le r.1 15) rs) h).1)
  where
    by : (b : Bool) → level_or (level_among op rs) 15 ≤ 15 → level_or (if b then Some n else level_among op rs) 15 ≤ 15
    by true r = leb-true n 15 (and_parts (nat_le n 15) (list_all (λ r. nat_le r.1 15) rs) h).0
    by false r = r

pub logical_low : (op : Text) → logical_level op ≤ 6
logical_low op = by (is_text op (codes "??")) (is_text op (codes "||"))
  where
    by : (a b : Bool) → (if a then 4 else if b then 5 else 6) ≤ 6
    by true b = omega arith
    by false true = omega arith
    by false false = omega arith

-- what may stand before a point
pub closed_tight : (t : Term) → 19 ≤ level t → has_kind is_number_kind t ≡ false → closed t ≡ true
closed_tight absent h n = refl
closed_tight (list ts) h n = refl
closed_tight (node Kind.NumericLiteral texts ts) h n = differ n
closed_tight (node Kind.SequenceExpression texts ts) h n = absurd (omega arith)
closed_tight (node Kind.AssignmentExpression texts ts) h n = absurd (omega arith)
closed_tight (node Kind.ArrowFunctionExpression texts ts) h n = absurd (omega arith)
closed_tight (node Kind.YieldExpression texts ts) h n = absurd (omega arith)
closed_tight (node Kind.ConditionalExpression texts ts) h n = absurd (omega arith)
closed_tight (node Kind.LogicalExpression texts ts) h n = let low = logical_low (first texts) in absurd (omega arith)
closed_tight (node Kind.BinaryExpression texts ts) h n = let low = low_row (first texts) operator_levels refl in absurd (omega arith)
closed_tight (node Kind.PrivateInExpression texts ts) h n = absurd (omega arith)
closed_tight (node Kind.UnaryExpression texts ts) h n = absurd (omega arith)
closed_tight (node Kind.AwaitExpression texts ts) h n = absurd (omega arith)
closed_tight (node Kind.UpdateExpression texts ts) h n = absurd (omega arith)
closed_tight (node k texts ts) h n = refl

-- ---- what stands at a place for an expression

pub record InPlace (i : Bool) (need : Term → Bool) (t : Term) : Type 0 where
  pub expr : Expr i (wrapped i need t) (to i need t)
  pub above : (n : ℕ) → n ≤ 21 → (need t ≡ false → n ≤ level t) → n ≤ level (wrapped i need t)
  pub leveled : (P : ℕ → Bool) → P 21 ≡ true → (need t ≡ false → P (level t) ≡ true) → P (level (wrapped i need t)) ≡ true
  pub met : (op : Text) → meets op t ≡ false → meets op (wrapped i need t) ≡ false
  pub shut : (need t ≡ false → closed t ≡ true) → closed (wrapped i need t) ≡ true

pub expression_meaning : (m : Mode) (k : Kind) (t : Term) → is_expression k ≡ true → Meaning m (if is_expression k then an_expression else if is_among k plain_statements then a_statement else other_category k) t → Meaning m an_expression t
expression_meaning m k t e c = subst (λ b. Meaning m (if b then an_expression else if is_among k plain_statements then a_statement else other_category k) t) e c

pub in_place_node : (i : Bool) (need : Term → Bool) (k : Kind) (texts : List Text) (ts : Terms) → NodeExpr (node k texts ts) → InPlace i need (node k texts ts)
in_place_node i need k texts ts f =
    let t : Term = node k texts ts in
    let b : Bool = is_held i need k texts ts in
    record {
      expr = held i need k texts ts f;
      above = λ n h g. put_level (i || b) n k texts ts h b (λ z. g (or_false (need t) (not i && is_in k texts) z).0);
      leveled = λ P h g. put_leveled P h (i || b) k texts ts b (λ z. g (or_false (need t) (not i && is_in k texts) z).0);
      met = λ op m. put_meets op (i || b) k texts ts b m;
      shut = λ g. put_closed (i || b) k texts ts b (λ z. g (or_false (need t) (not i && is_in k texts) z).0);
    }

-- at a place whose sort takes expressions alone
pub in_place_by : (s : Sort) → ((k : Kind) → takes s k ≡ true → is_expression k ≡ true) → (i : Bool) (need : Term → Bool) (t : Term) → has_shape (Place.one s) t ≡ true → Claim off t → InPlace i need t
in_place_by s into i need absent h c = differ (sym h)
in_place_by s into i need (list ts) h c = differ (sym h)
in_place_by s into i need (node k texts ts) h c = in_place_node i need k texts ts (expression_meaning off k (node k texts ts) (into k (taken_by s k texts ts h).taken) c.0)

same_kind : (k : Kind) → is_expression k ≡ true → is_expression k ≡ true
same_kind k h = h

pub in_place : (i : Bool) (need : Term → Bool) (t : Term) → has_shape (Place.one Sort.expression) t ≡ true → Claim off t → InPlace i need t
in_place = in_place_by Sort.expression same_kind

-- An expression of a level, as it stands.
pub record At (i : Bool) (need : Term → Bool) (n : ℕ) (t : Term) : Type 0 where
  pub high : n ≤ level (wrapped i need t)
  pub stands : (g : Lead) {rest : Text} → ends rest (closed (wrapped i need t)) ≡ true → Stands i (level (wrapped i need t)) (wrapped i need t) (led g (to i need t rest)) rest
  pub placed : InPlace i need t

pub at_by : (n : ℕ) → nat_le 2 n && nat_le n 21 ≡ true → (i : Bool) (need : Term → Bool) (t : Term) → (need t ≡ false → n ≤ level t) → InPlace i need t → At i need n t
at_by n b i need t f p =
    let both = and_parts (nat_le 2 n) (nat_le n 21) b in
    let low : 2 ≤ n = leb-true 2 n both.0 in
    let high : n ≤ level (wrapped i need t) = p.above n (leb-true n 21 both.1) f in
    record { high = high; stands = λ g {rest} e. p.expr.stands (le_loose 2 (wrapped i need t) (omega arith)) g {rest = rest} e; placed = p }

abbrev pub loose : ℕ → Term → Bool
loose n t = is_looser n t

pub at : (n : ℕ) → nat_le 2 n && nat_le n 21 ≡ true → (i : Bool) (t : Term) → has_shape (Place.one Sort.expression) t ≡ true → Claim off t → At i (loose n) n t
at n b i t h c = at_by n b i (loose n) t (loose_le n t) (in_place i (loose n) t h c)

-- ---- fronts

-- no node of level 18 or more begins with a sign of its own
pub tight_meets : (op : Text) (t : Term) → 18 ≤ level t → meets op t ≡ false
tight_meets op absent h = refl
tight_meets op (list ts) h = refl
tight_meets op (node Kind.UnaryExpression texts ts) h = absurd (omega arith)
tight_meets op (node Kind.UpdateExpression texts ts) h = absurd (omega arith)
tight_meets op (node k texts ts) h = refl

-- an expression that begins with a part of level 18 or more, or is of level 15 or less
pub opens_tight : {u v : Term} {f : To} (rest : To) → 18 ≤ level v → Opens v f → Opens u (λ r. f (rest r))
opens_tight {v = v} rest h o = record { fresh = λ r. o.fresh (rest r); signless = λ op s m l r. o.signless op s (tight_meets op v h) (le_loose 16 v (omega arith)) (rest r) }

pub opens_loose : {u v : Term} {f : To} (rest : To) → is_looser 16 u ≡ true → Opens v f → Opens u (λ r. f (rest r))
opens_loose rest h o = record { fresh = λ r. o.fresh (rest r); signless = λ op s m l r. differ (sym h ∙ l) }
