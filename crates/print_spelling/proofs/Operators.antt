-- Operators (ECMAScript 13.4 to 13.14, 13.16, 15.5).
use Rattle.std.proofs.Common.{◌≡◌, refl, sym, ap, ◌∙◌, subst, ℕ, suc, ◌≤◌, [], ◌∷◌, ◌++◌, Bool, true, false, not, ◌&&◌, ◌||◌, nat_eq, arith}
use Rattle.std.specs.Prelude.{Option, None, Some, codes, nat_le, nat_lt, if◌then◌else◌}
use Rattle.std.proofs.lemmas.Bool.{and_parts, not-true, leb-true}
use Rattle.std.specs.List.{list_all}
use Rattle.js_term.specs.Term.{Text, is_text, Term, absent, list, node, none, more, one, two, flag}
use Rattle.js_term.specs.declared.kind.Kind.{Kind}
use Rattle.js_term.specs.Lexeme.{is_one_of}
use Rattle.js_syntax.specs.Lexical.{begins, begins_gap, is_name}
use Rattle.js_syntax.specs.Tokens.{signs, opens_with, is_longest}
use Rattle.js_syntax.specs.Edges.{binary_level, is_coalesce_left, is_word_operator}
use Rattle.js_syntax.specs.Texts.{binary_operators, unary_operators}
use Rattle.js_syntax.specs.Nodes.{marked}
use Rattle.js_syntax.specs.Sorts.{Sort, Place}
use Rattle.js_syntax.specs.Printable.{has_shape}
use Rattle.js_syntax.specs.Levels.{level, level_or}
use Rattle.js_syntax.specs.Spelling as spelling
use Rattle.js_syntax.specs.Spelling.{Stands, Expression, sequence, Operator, word_operator, sign_operator, unary, await_expression, binary, exponentiation, private_in, conjunction, disjunction, coalescing, conditional, bare_yield, yielding, delegating, an_expression, is_several}
use Rattle.print_layout.specs.Rows.{meets, comma}
use Rattle.print_layout.specs.Needs.{operand_level, is_looser}
use Rattle.print_layout.specs.Layout.{wrapped}
use Rattle.print_spelling.proofs.Openings.{is_fresh, sum_signs}
use Rattle.print_spelling.proofs.Tokens.{differ, same_text, or_false, or_by, among, Lead, flush, spaced, led, sign_at, word_at, private_at, same_line}
use Rattle.print_spelling.proofs.Spread.{To, to, each_to, behind_to}
use Rattle.print_spelling.proofs.Fits.{list_shape}
use Rattle.print_spelling.proofs.Shapes.{leaf}
use Rattle.print_spelling.proofs.Claims.{bare, bare_to, closed, ends, ends_stop, through, spaced_line, Opens, opens_at, Expr, ExpressionRule, of_stands, Claim, off}
use Rattle.print_spelling.proofs.Placed.{InPlace, in_place, loose_le, le_loose, At, at, at_by, loose, opens_loose}
use Rattle.print_spelling.proofs.Lists.{ItemAt, one_whole, whole_list}

-- ---- operators before a blank

abbrev before_blank : Text → Text → Bool
before_blank rest op = not (begins_gap (op ++ 32 ∷ rest)) && (if is_word_operator op then is_name op else is_one_of op signs && (opens_with op (op ++ 32 ∷ rest) && is_longest op (op ++ 32 ∷ rest)))

operator_before : (g : Lead) (op rest : Text) → before_blank rest op ≡ true → Operator op (led g (op ++ 32 ∷ rest)) (32 ∷ rest)
operator_before g op rest h = by (is_word_operator op) refl (and_parts (not (begins_gap (op ++ 32 ∷ rest))) _ h)
  where
    by : (b : Bool) → is_word_operator op ≡ b → (not (begins_gap (op ++ 32 ∷ rest)) ≡ true) × ((if b then is_name op else is_one_of op signs && (opens_with op (op ++ 32 ∷ rest) && is_longest op (op ++ 32 ∷ rest))) ≡ true) → Operator op (led g (op ++ 32 ∷ rest)) (32 ∷ rest)
    by true w e = word_operator w (word_at g op (not-true _ e.0) e.1 refl)
    by false w e = sign_operator (sign_at g op (not-true _ e.0) e.1)

binary_operator : (g : Lead) (op rest : Text) → is_one_of op binary_operators ≡ true → Operator op (led g (op ++ 32 ∷ rest)) (32 ∷ rest)
binary_operator g op rest h = operator_before g op rest (among (before_blank rest) binary_operators op refl h)

-- ---- binary operators

-- what the table of levels says of each operator
abbrev is_binary : Option ℕ → Text → Bool
is_binary (Some k) op = nat_le 2 k && nat_le k 14
is_binary None op = is_text op (codes "**")

levelled : (op : Text) → is_one_of op binary_operators ≡ true → is_binary (binary_level op) op ≡ true
levelled op h = among (λ x. is_binary (binary_level x) x) binary_operators op refl h

bare_in : (i b : Bool) → not i && b ≡ false → not b || i ≡ true
bare_in true true h = refl
bare_in true false h = refl
bare_in false true h = differ h
bare_in false false h = refl

pub binary_rule : ExpressionRule Kind.BinaryExpression
binary_rule (op ∷ []) (more l (more r none)) m c i n =
    of_stands (λ g rest e. stand (binary_level op) refl g rest e) (opens_loose (λ rest. 32 ∷ (op ++ 32 ∷ to i right r rest)) (among (λ z. nat_lt (level_or (binary_level z) 15) 16) binary_operators op refl o) p.expr.opens)
  where
    o : is_one_of op binary_operators ≡ true
    o = m.spoken.0

    left : Term → Bool
    left t = is_looser (operand_level (binary_level op) 0) t

    right : Term → Bool
    right t = is_looser (operand_level (binary_level op) 1) t

    p : InPlace i left l
    p = in_place i left l m.placed.0 c.0

    q : InPlace i right r
    q = in_place i right r m.placed.1.0 c.1.0

    v : Term
    v = wrapped i left l

    w : Term
    w = wrapped i right r

    u : Term
    u = marked Kind.BinaryExpression op (two v w)

    -- the operand of a level
    above : (n k : ℕ) (t : Term) → k ≡ n → is_looser k t ≡ false → n ≤ level t
    above n k t e z = subst (λ w. w ≤ level t) e (loose_le k t z)

    whole : Lead → Text → Text
    whole g rest = led g (to i left l (32 ∷ (op ++ 32 ∷ to i right r rest)))

    stand : (k : Option ℕ) → binary_level op ≡ k → (g : Lead) (rest : Text) → ends rest false ≡ true → Stands i (level_or (binary_level op) 15) u (whole g rest) rest
    stand (Some k) b g rest e =
        let bounds = and_parts (nat_le 2 k) (nat_le k 14) (subst (λ z. is_binary z op ≡ true) b (levelled op o)) in
        let low : 2 ≤ k = leb-true 2 k bounds.0 in
        let high : k ≤ 14 = leb-true k 14 bounds.1 in
        let kl : k ≤ level v = p.above k (omega arith) (above k (operand_level (binary_level op) 0) l (ap (λ z. operand_level z 0) b)) in
        let kr : suc k ≤ level w = q.above (suc k) (omega arith) (above (suc k) (operand_level (binary_level op) 1) r (ap (λ z. operand_level z 1) b)) in
        subst (λ z. Stands i (level_or z 15) u (whole g rest) rest) (sym b)
        (binary b (bare_in i (is_text op (codes "in")) n) kl kr (p.expr.stands (le_loose 2 v (omega arith)) g refl) (binary_operator spaced op (to i right r rest) o) (q.expr.stands (le_loose 2 w (omega arith)) spaced (through (closed w) rest e)))
    stand None b g rest e =
        let same : op ≡ codes "**" = same_text op (codes "**") (subst (λ z. is_binary z op ≡ true) b (levelled op o)) in
        let kl : 17 ≤ level v = p.above 17 (omega arith) (above 17 (operand_level (binary_level op) 0) l (ap (λ z. operand_level z 0) b)) in
        let kr : 15 ≤ level w = q.above 15 (omega arith) (above 15 (operand_level (binary_level op) 1) r (ap (λ z. operand_level z 1) b)) in
        subst (λ z. Stands i (level_or z 15) u (whole g rest) rest) (sym b)
        (subst (λ z. Stands i 15 (marked Kind.BinaryExpression z (two v w)) (led g (to i left l (32 ∷ (z ++ 32 ∷ to i right r rest)))) rest) (sym same)
        (exponentiation kl kr (p.expr.stands (le_loose 2 v (omega arith)) g refl) (sign_at spaced (codes "**") refl refl) (q.expr.stands (le_loose 2 w (omega arith)) spaced (through (closed w) rest e))))
binary_rule texts ts m c i n = differ (sym m.counted)

pub private_in_rule : ExpressionRule Kind.PrivateInExpression
private_in_rule [] (more l (more r none)) m c true n =
    leaf Kind.PrivateIdentifier is_name refl refl (λ texts. refl) (λ z. Expr true (bare true (node Kind.PrivateInExpression [] (two z r))) (bare_to true (node Kind.PrivateInExpression [] (two z r)))) (λ x a.
    let q = at 12 refl true r m.placed.1.0 c.1.0 in
    of_stands (λ g rest e. private_in q.high (private_at g a refl) (word_at spaced (codes "in") refl refl refl) (q.stands spaced (through _ rest e))) (opens_at (λ rest. refl))) l m.placed.0
private_in_rule [] (more l (more r none)) m c false n = differ n
private_in_rule texts ts m c i n = differ (sym m.counted)

-- ---- logical operators

or_rule : (l r : Term) → has_shape (Place.one Sort.expression) l ≡ true → has_shape (Place.one Sort.expression) r ≡ true → Claim off l → Claim off r → (i : Bool) → Expr i (bare i (marked Kind.LogicalExpression (codes "||") (two l r))) (bare_to i (marked Kind.LogicalExpression (codes "||") (two l r)))
or_rule l r hl hr cl cr i =
    let p = at 5 refl i l hl cl in
    let q = at 6 refl i r hr cr in
    of_stands (λ g rest e. disjunction p.high q.high (p.stands g refl) (sign_at spaced (codes "||") refl refl) (q.stands spaced (through _ rest e))) (opens_loose (λ rest. 32 ∷ 124 ∷ 124 ∷ 32 ∷ to i (loose 6) r rest) refl p.placed.expr.opens)

and_rule : (l r : Term) → has_shape (Place.one Sort.expression) l ≡ true → has_shape (Place.one Sort.expression) r ≡ true → Claim off l → Claim off r → (i : Bool) → Expr i (bare i (marked Kind.LogicalExpression (codes "&&") (two l r))) (bare_to i (marked Kind.LogicalExpression (codes "&&") (two l r)))
and_rule l r hl hr cl cr i =
    let p = at 6 refl i l hl cl in
    let q = at 7 refl i r hr cr in
    of_stands (λ g rest e. conjunction p.high q.high (p.stands g refl) (sign_at spaced (codes "&&") refl refl) (q.stands spaced (through _ rest e))) (opens_loose (λ rest. 32 ∷ 38 ∷ 38 ∷ 32 ∷ to i (loose 7) r rest) refl p.placed.expr.opens)

coalesce_rule : (l r : Term) → has_shape (Place.one Sort.expression) l ≡ true → has_shape (Place.one Sort.expression) r ≡ true → Claim off l → Claim off r → (i : Bool) → Expr i (bare i (marked Kind.LogicalExpression (codes "??") (two l r))) (bare_to i (marked Kind.LogicalExpression (codes "??") (two l r)))
coalesce_rule l r hl hr cl cr i =
    let need : Term → Bool = λ t. not (is_coalesce_left (level t)) || is_looser 4 t in
    let p = at_by 4 refl i need l (λ h. loose_le 4 l (or_false (not (is_coalesce_left (level l))) (is_looser 4 l) h).1) (in_place i need l hl cl) in
    let q = at 7 refl i r hr cr in
    let left : is_coalesce_left (level (wrapped i need l)) ≡ true = p.placed.leveled is_coalesce_left refl (λ h. not_false _ (or_false (not (is_coalesce_left (level l))) (is_looser 4 l) h).0) in
    of_stands (λ g rest e. coalescing left q.high (p.stands g refl) (sign_at spaced (codes "??") refl refl) (q.stands spaced (through _ rest e))) (opens_loose (λ rest. 32 ∷ 63 ∷ 63 ∷ 32 ∷ to i (loose 7) r rest) refl p.placed.expr.opens)
  where
    not_false : (b : Bool) → not b ≡ false → b ≡ true
    not_false true e = refl
    not_false false e = differ e

pub logical_rule : ExpressionRule Kind.LogicalExpression
logical_rule (op ∷ []) (more l (more r none)) m c i n =
    let this : Text → Type 0 = λ z. Expr i (bare i (marked Kind.LogicalExpression z (two l r))) (bare_to i (marked Kind.LogicalExpression z (two l r))) in
    let by : (z : Text) → this z → is_text op z ≡ true → this op = λ z f e. subst this (sym (same_text op z e)) f in
    or_by (is_text op (codes "??")) _ (by (codes "??") (coalesce_rule l r m.placed.0 m.placed.1.0 c.0 c.1.0 i))
    (λ k. or_by (is_text op (codes "||")) _ (by (codes "||") (or_rule l r m.placed.0 m.placed.1.0 c.0 c.1.0 i))
    (λ k. or_by (is_text op (codes "&&")) _ (by (codes "&&") (and_rule l r m.placed.0 m.placed.1.0 c.0 c.1.0 i)) (λ k. differ (sym k)) k) k) m.spoken.0
logical_rule texts ts m c i n = differ (sym m.counted)

pub conditional_rule : ExpressionRule Kind.ConditionalExpression
conditional_rule [] (more t (more e (more f none))) m c i n =
    let p = at 4 refl i t m.placed.0 c.0 in
    let q = at 2 refl true e m.placed.1.0 c.1.0 in
    let r = at 2 refl i f m.placed.1.1.0 c.1.1.0 in
    of_stands (λ g rest h. conditional p.high (p.stands g refl) (sign_at spaced (codes "?") refl refl) (q.stands spaced refl) (sign_at spaced (codes ":") refl refl) (r.stands spaced (through _ rest h))) (opens_loose (λ rest. 32 ∷ 63 ∷ 32 ∷ to true (loose 2) e (32 ∷ 58 ∷ 32 ∷ to i (loose 2) f rest)) refl p.placed.expr.opens)
conditional_rule texts ts m c i n = differ (sym m.counted)

-- ---- unary operators

-- A sign before a text that does not go on with it: of `+` and `-` the same sign must not follow.
abbrev joins : Text → Text → Bool
joins a op = not (begins_gap (op ++ a)) && (is_one_of op signs && (opens_with op (op ++ a) && is_longest op (op ++ a)))

abbrev after : Text → Text → Bool
after a op = is_word_operator op || ((is_one_of op sum_signs && begins op a) || (joins a op || not (is_fresh a)))

follows : (a : Text) → list_all (after a) unary_operators ≡ true
follows [] = refl
follows (c ∷ a) = by (nat_eq 61 c) (nat_eq 43 c) (nat_eq 45 c) refl refl refl
  where
    by : (e p m : Bool) → nat_eq 61 c ≡ e → nat_eq 43 c ≡ p → nat_eq 45 c ≡ m → list_all (after (c ∷ a)) unary_operators ≡ true
    by true true true e p m = rw (e, p, m) refl
    by true true false e p m = rw (e, p, m) refl
    by true false true e p m = rw (e, p, m) refl
    by true false false e p m = rw (e, p, m) refl
    by false true true e p m = rw (e, p, m) refl
    by false true false e p m = rw (e, p, m) refl
    by false false true e p m = rw (e, p, m) refl
    by false false false e p m = rw (e, p, m) refl

or_second : (a b : Bool) → a ≡ false → a || b ≡ true → b ≡ true
or_second true b e h = differ e
or_second false b e h = h

or_first : (a b : Bool) → b ≡ false → a || b ≡ true → a ≡ true
or_first true b e h = refl
or_first false b e h = differ (sym h ∙ e)

joined : (op a : Text) → is_one_of op unary_operators ≡ true → is_word_operator op ≡ false → (is_one_of op sum_signs ≡ true → begins op a ≡ false) → is_fresh a ≡ true → joins a op ≡ true
joined op a o w m f =
    let one = or_second (is_word_operator op) _ w (among (after a) unary_operators op (follows a) o) in
    let two = or_second (is_one_of op sum_signs && begins op a) _ (by (is_one_of op sum_signs) refl) one in
    or_first (joins a op) (not (is_fresh a)) (ap not f) two
  where
    by : (b : Bool) → is_one_of op sum_signs ≡ b → b && begins op a ≡ false
    by true e = m e
    by false e = refl

pub unary_rule : ExpressionRule Kind.UnaryExpression
unary_rule (op ∷ []) (more t none) m c i n = by (is_word_operator op || meets op t) refl
  where
    o : is_one_of op unary_operators ≡ true
    o = m.spoken.0

    p : At i (loose 16) 16 t
    p = at 16 refl i t m.placed.0 c.0

    w : Term
    w = wrapped i (loose 16) t

    x : To
    x = to i (loose 16) t

    u : Term
    u = marked Kind.UnaryExpression op (one w)

    opened : (f : To) → Opens u (λ rest. op ++ f rest)
    opened f = record {
      fresh = λ rest. among (λ z. is_fresh (z ++ f rest)) unary_operators op refl o;
      signless = λ s so m l rest. not-true _ (or_second (is_text op s) _ m (among (λ z. is_text op z || not (begins z (op ++ f rest))) sum_signs s (among (λ y. list_all (λ z. is_text y z || not (begins z (y ++ f rest))) sum_signs) unary_operators op refl o) so));
    }

    by : (b : Bool) → is_word_operator op || meets op t ≡ b → Expr i u (λ rest. op ++ (flag (is_word_operator op || meets op t) (codes " ") ++ x rest))
    by true e =
        subst (λ b. Expr i u (λ rest. op ++ (flag b (codes " ") ++ x rest))) (sym e)
        (of_stands (λ g rest h. unary o p.high (operator_before g op (x rest) (among (before_blank (x rest)) unary_operators op refl o)) (p.stands spaced (through (closed w) rest h))) (opened (λ rest. 32 ∷ x rest)))
    by false e =
        let both = or_false (is_word_operator op) (meets op t) e in
        subst (λ b. Expr i u (λ rest. op ++ (flag b (codes " ") ++ x rest))) (sym e)
        (of_stands (λ g rest h. let js = and_parts (not (begins_gap (op ++ x rest))) _ (joined op (x rest) o both.0 (λ s. p.placed.expr.opens.signless op s (p.placed.met op both.1) (le_loose 16 w p.high) rest) (p.placed.expr.opens.fresh rest)) in
        unary o p.high (sign_operator (sign_at g op (not-true _ js.0) js.1)) (p.stands flush (through (closed w) rest h))) (opened x))
unary_rule texts ts m c i n = differ (sym m.counted)

pub await_rule : ExpressionRule Kind.AwaitExpression
await_rule [] (more t none) m c i n =
    let p = at 16 refl i t m.placed.0 c.0 in
    of_stands (λ g rest e. await_expression p.high (word_at g (codes "await") refl refl refl) (p.stands spaced (through _ rest e))) (opens_at (λ rest. refl))
await_rule texts ts m c i n = differ (sym m.counted)

-- ---- sequences

pub expression_item : (i : Bool) (t : Term) → has_shape (Place.one Sort.expression) t ≡ true → Claim off t → ItemAt (spelling.Sort.expression i) i (loose 2) t
expression_item i absent h c g rest e = differ (sym h)
expression_item i (list ts) h c g rest e = differ (sym h)
expression_item i (node k texts ts) h c g rest e = an_expression ((at 2 refl i (node k texts ts) h c).stands g (through _ rest e))

pub sequence_rule : ExpressionRule Kind.SequenceExpression
sequence_rule [] (more (list (more t (more u us))) none) m c i n =
    let s = (list_shape (Place.several Sort.expression) (more t (more u us)) m.placed.0).1 in
    let p = in_place i (loose 2) t (and_parts (has_shape (Place.one Sort.expression) t) _ s).0 c.0.0 in
    record {
      expression = λ g {rest} e. sequence refl (whole_list (spelling.Sort.expression i) (Place.one Sort.expression) (one_whole Sort.expression) off i (loose 2) (expression_item i) t (more u us) s c.0 g rest e);
      stands = λ l g {rest} e. differ l;
      opens = opens_loose (λ rest. behind_to comma (each_to i (loose 2) (more u us)) rest) refl p.expr.opens;
    }
sequence_rule [] (more (list (more t none)) none) m c i n = differ (sym (list_shape (Place.several Sort.expression) (more t none) m.placed.0).0)
sequence_rule [] (more (list none) none) m c i n = differ (sym (list_shape (Place.several Sort.expression) none m.placed.0).0)
sequence_rule [] (more absent none) m c i n = differ (sym m.placed.0)
sequence_rule [] (more (node k texts ts) none) m c i n = differ (sym m.placed.0)
sequence_rule texts ts m c i n = differ (sym m.counted)

-- ---- yield

yield_with : (e : Term) → has_shape (Place.one Sort.expression) e ≡ true → Claim off e → (i : Bool) → Expr i (bare i (marked Kind.YieldExpression [] (one e))) (λ rest. codes "yield " ++ to i (loose 2) e rest)
yield_with absent h c i = differ (sym h)
yield_with (list ts) h c i = differ (sym h)
yield_with (node k texts ts) h c i =
    let p = at 2 refl i (node k texts ts) h c in
    of_stands (λ g rest z. yielding (word_at g (codes "yield") refl refl refl) (spaced_line p.placed.expr.opens rest) (p.stands spaced (through _ rest z))) (opens_at (λ rest. refl))

delegate_with : (e : Term) → has_shape (Place.one Sort.expression) e ≡ true → Claim off e → (i : Bool) → Expr i (bare i (marked Kind.YieldExpression (codes "*") (one e))) (λ rest. codes "yield* " ++ to i (loose 2) e rest)
delegate_with absent h c i = differ (sym h)
delegate_with (list ts) h c i = differ (sym h)
delegate_with (node k texts ts) h c i =
    let p = at 2 refl i (node k texts ts) h c in
    of_stands (λ g rest z. delegating (word_at g (codes "yield") refl refl refl) (same_line flush _ refl refl) (sign_at flush (codes "*") refl refl) (p.stands spaced (through _ rest z))) (opens_at (λ rest. refl))

pub yield_rule : ExpressionRule Kind.YieldExpression
yield_rule ([] ∷ []) (more absent none) m c i n = of_stands (λ g rest e. bare_yield (word_at g (codes "yield") refl refl (ends_stop rest false e))) (opens_at (λ rest. refl))
yield_rule ([] ∷ []) (more (list ts) none) m c i n = differ (sym m.placed.0)
yield_rule ([] ∷ []) (more (node k texts ts) none) m c i n = yield_with (node k texts ts) m.placed.0 c.0 i
yield_rule ((x ∷ xs) ∷ []) (more absent none) m c i n = differ (sym m.placed.0)
yield_rule ((x ∷ xs) ∷ []) (more (list ts) none) m c i n = differ (sym m.placed.0)
yield_rule ((x ∷ xs) ∷ []) (more (node k texts ts) none) m c i n =
    subst (λ z. Expr i (bare i (marked Kind.YieldExpression z (one (node k texts ts)))) (bare_to i (marked Kind.YieldExpression z (one (node k texts ts))))) (sym (same_text (x ∷ xs) (codes "*") (or_by (is_text (x ∷ xs) (codes "*")) false (λ e. e) (λ e. differ (sym e)) m.spoken.0)))
    (delegate_with (node k texts ts) m.placed.0 c.0 i)
yield_rule texts ts m c i n = differ (sym m.counted)
