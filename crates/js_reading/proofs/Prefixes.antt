-- Expressions that begin with an operator, and updates, are read.
use Rattle.std.proofs.Common.{◌≡◌, ◌≤◌, ℕ, Bool, true, false, not, ◌||◌, if◌then◌else◌, nat_eq, [], ◌∷◌, Some, refl, sym, subst, ◌∙◌, ap, arith, codes}
use Rattle.std.proofs.lemmas.Bool.{false≢true, not-true, eqb-true}
use Rattle.js_term.specs.Term.{Text, is_text, Term, absent, one, depth}
use Rattle.js_term.specs.declared.kind.Kind.{Kind}
use Rattle.js_term.specs.Lexeme.{is_one_of}
use Rattle.js_term.specs.Node.{await_of}
use Rattle.js_syntax.specs.Nodes.{marked, of_parts, private_of, update_of}
use Rattle.js_syntax.specs.Texts.{assignment_operators, unary_operators, update_operators}
use Rattle.js_syntax.specs.Tokens.{word, private_name, sign}
use Rattle.js_syntax.specs.Edges.{loose, edge, is_unary, is_update, is_word_operator, is_simple_target, member_level}
use Rattle.js_syntax.proofs.Fronts.{same_text, among}
use Rattle.js_tokens.specs.Next.{lexeme, after}
use Rattle.js_reading.specs.declared.goal.Goal.{Goal}
use Rattle.js_reading.specs.Reading.{Found, closed, Reading, sees, same_line, at_end}
use Rattle.js_reading.specs.Operators.{sign_binds, sign_gives, sign_needs, suits}
use Rattle.js_reading.specs.Expressions.{ends_operand, sign_extended, unary, await_expression, yield_expression, update_before, private_in, word_prefix, sign_prefix, prefix}
use Rattle.js_reading.specs.Read.{read}
use Rattle.js_reading.proofs.TokensThere.{Seen, sees_by, expect_word_read}
use Rattle.js_reading.proofs.TokensEnd.{seen_not_end, not_at_end}
use Rattle.js_reading.proofs.Opens.{begins, no_sign_there}
use Rattle.js_reading.proofs.Follows.{tightness, holds, is_updated, is_loose, either_case, sign_takes}
use Rattle.js_reading.proofs.Climbs.{whole, quiet_other, IsRead, place_read, right_read, Joins, joined_read, lower_read, ends_right, ends_low}
use Rattle.js_reading.proofs.Leaves.{word_there, literal_there}
use Rattle.js_reading.proofs.Operations.{SeenOperator, by_word, by_sign, extends_sign, operator_shorter}

-- ---- unary operators (13.5)

unary_there : {i : Bool} {d n : ℕ} {e : Term} {q : Bool} {b c : Text} (limit : ℕ) (op : Text) → 16 ≤ n → IsRead i d (whole e n q) b c → d ≤ limit → holds i (edge e) 15 c ≡ true → unary (read limit) i op b ≡ Some (closed (marked Kind.UnaryExpression op (one e)) 16, c)
unfolding unary
unary_there limit op high x fits h = rw (place_read x limit 16 15 high (omega arith) (omega arith) (omega arith) fits h)

unary_word : (sub : Goal → Text → Reading Found) (i : Bool) (least : ℕ) (op b : Text) → is_one_of op (codes "delete" ∷ codes "void" ∷ codes "typeof" ∷ []) ≡ true → word_prefix sub i least op b ≡ unary sub i op b
unary_word sub i least op b h = either_case (is_text op (codes "delete")) _ h (named (codes "delete") refl) (λ h. either_case (is_text op (codes "void")) _ h (named (codes "void") refl) (λ h. either_case (is_text op (codes "typeof")) false h (named (codes "typeof") refl) (λ h. absurd (false≢true h))))
  where
    named : (x : Text) → word_prefix sub i least x b ≡ unary sub i x b → is_text op x ≡ true → word_prefix sub i least op b ≡ unary sub i op b
    named x e h = subst (λ (y : Text). word_prefix sub i least y b ≡ unary sub i y b) (sym (same_text op x h)) e

unary_sign : (sub : Goal → Text → Reading Found) (i : Bool) (op a : Text) → is_unary op ≡ true → sign_prefix sub i op a ≡ unary sub i op (after a)
unary_sign sub i op a is = rw (
  not-true (is_text op (codes "(")) (among (λ t. not (is_text t (codes "("))) unary_operators op refl is),
  not-true (is_text op (codes "[")) (among (λ t. not (is_text t (codes "["))) unary_operators op refl is),
  not-true (is_text op (codes "{")) (among (λ t. not (is_text t (codes "{"))) unary_operators op refl is),
  not-true (is_update op) (among (λ t. not (is_update t)) unary_operators op refl is),
  is,
)

unary_prefix : (sub : Goal → Text → Reading Found) (i : Bool) (least : ℕ) {op a b : Text} → is_unary op ≡ true → SeenOperator op a b → prefix sub i least a ≡ unary sub i op b
unary_prefix sub i least {op} {a} {b} is (by_word w tok) = word_there sub i least tok ∙ unary_word sub i least op b
    (either_case (not (is_word_operator op)) (is_one_of op (codes "delete" ∷ codes "void" ∷ codes "typeof" ∷ [])) (among (λ t. not (is_word_operator t) || is_one_of t (codes "delete" ∷ codes "void" ∷ codes "typeof" ∷ [])) unary_operators op refl is) (λ e. absurd (false≢true (sym (not-true _ e) ∙ w))) (λ e. e))
unary_prefix sub i least {op} {a} {b} is (by_sign w tok) = literal_there sub i least tok ∙ unary_sign sub i op a is ∙ ap (unary sub i op) tok.after_is

pub unary_read : {i : Bool} {n : ℕ} {op : Text} {e : Term} {q : Bool} {a b c : Text} → is_unary op ≡ true → 16 ≤ n → SeenOperator op a b → IsRead i (depth e) (whole e n q) b c → IsRead i (depth (marked Kind.UnaryExpression op (one e))) (closed (marked Kind.UnaryExpression op (one e)) 16) a c
unary_read {i} {op = op} is high tok x =
    let s1 = operator_shorter tok in
    let s2 = x.shorter in
    lower_read 15 (omega arith) (omega arith) (omega arith) (ends_right x.ends (omega arith) (λ h. absurd (omega arith))) (omega arith) (λ h. omega arith) (λ h h'. absurd (omega arith)) (λ h. absurd (omega arith))
    (λ limit least low fits h. unary_prefix (read limit) i least is tok ∙ unary_there limit op high x (omega arith) h)

await_there : {i : Bool} {d n : ℕ} {e : Term} {q : Bool} {b c : Text} (limit : ℕ) → 16 ≤ n → IsRead i d (whole e n q) b c → d ≤ limit → holds i (edge e) 15 c ≡ true → await_expression (read limit) i b ≡ Some (closed (await_of e) 16, c)
unfolding await_expression
await_there limit high x fits h = rw (place_read x limit 16 15 high (omega arith) (omega arith) (omega arith) fits h)

pub await_read : {i : Bool} {n : ℕ} {e : Term} {q : Bool} {a b c : Text} → 16 ≤ n → Seen (word (codes "await")) a b → IsRead i (depth e) (whole e n q) b c → IsRead i (depth (await_of e)) (closed (await_of e) 16) a c
await_read {i} high tok x =
    let s1 = tok.shorter in
    let s2 = x.shorter in
    lower_read 15 (omega arith) (omega arith) (omega arith) (ends_right x.ends (omega arith) (λ h. absurd (omega arith))) (omega arith) (λ h. omega arith) (λ h h'. absurd (omega arith)) (λ h. absurd (omega arith))
    (λ limit least low fits h. word_there (read limit) i least tok ∙ await_there limit high x (omega arith) h)

-- ---- updates (13.4)

update_sign : (sub : Goal → Text → Reading Found) (i : Bool) (op a : Text) → is_update op ≡ true → sign_prefix sub i op a ≡ update_before sub i op (after a)
update_sign sub i op a is = rw (
  not-true (is_text op (codes "(")) (among (λ t. not (is_text t (codes "("))) update_operators op refl is),
  not-true (is_text op (codes "[")) (among (λ t. not (is_text t (codes "["))) update_operators op refl is),
  not-true (is_text op (codes "{")) (among (λ t. not (is_text t (codes "{"))) update_operators op refl is),
  is,
)

before_there : {i : Bool} {d n : ℕ} {t : Term} {q : Bool} {b c : Text} (limit : ℕ) (op : Text) → is_simple_target t ≡ true → 19 ≤ n → IsRead i d (whole t n q) b c → d ≤ limit → holds i (edge t) 18 c ≡ true → update_before (read limit) i op b ≡ Some (closed (update_of op true t) 17, c)
unfolding update_before
before_there limit op is high x fits h = rw (place_read x limit 19 18 high (omega arith) (omega arith) (omega arith) fits h, is)

pub update_before_read : {i : Bool} {n : ℕ} {op : Text} {t : Term} {q : Bool} {a b c : Text} → is_update op ≡ true → is_simple_target t ≡ true → 19 ≤ n → Seen (sign op) a b → IsRead i (depth t) (whole t n q) b c → IsRead i (depth (update_of op true t)) (closed (update_of op true t) 17) a c
update_before_read {i} {op = op} {a = a} is simple high tok x =
    let s1 = tok.shorter in
    let s2 = x.shorter in
    lower_read 18 (omega arith) (omega arith) (omega arith) (ends_right x.ends (omega arith) (λ h. absurd (omega arith))) (omega arith) (λ h. omega arith) (λ h h'. absurd (omega arith)) (λ h. absurd (omega arith))
    (λ limit least low fits h. literal_there (read limit) i least tok ∙ update_sign (read limit) i op a is ∙ ap (update_before (read limit) i op) tok.after_is ∙ before_there limit op simple high x (omega arith) h)

behind_extended : (sub : Goal → Text → Reading Found) (i : Bool) (t : Term) (n : ℕ) (q : Bool) (op c : Text) → is_update op ≡ true → is_simple_target t ≡ true → sign_extended sub i (whole t n q) op c ≡ Some (closed (update_of op false t) 17, c)
behind_extended sub i t n q op c is simple = rw (
  not-true (is_text op (codes ".")) (among (λ t. not (is_text t (codes "."))) update_operators op refl is),
  not-true (is_text op (codes "[")) (among (λ t. not (is_text t (codes "["))) update_operators op refl is),
  not-true (is_text op (codes "(")) (among (λ t. not (is_text t (codes "("))) update_operators op refl is),
  not-true (is_text op (codes "?.")) (among (λ t. not (is_text t (codes "?."))) update_operators op refl is),
  is,
  simple,
)

update_tight : (i : Bool) {op b c : Text} → is_update op ≡ true → Seen (sign op) b c → same_line b ≡ true → tightness i b ≡ sign_binds op
unfolding tightness
update_tight i {op} {b} is tok line = rw (sign_takes op b tok.lexeme_is (not-true _ (among (λ t. not (is_text t (codes "=>"))) update_operators op refl is)), tok.lexeme_is, line, is)

update_joins : {i : Bool} {n : ℕ} {op b c : Text} → is_update op ≡ true → 19 ≤ n → same_line b ≡ true → Seen (sign op) b c → Joins i n 17 17 b
update_joins {i} {n} {op} {b} is high line tok =
    let binds_is : sign_binds op ≡ 17 = eqb-true (sign_binds op) 17 (among (λ t. nat_eq (sign_binds t) 17) update_operators op refl is) in
    let needs_is : sign_needs op ≡ 19 = eqb-true (sign_needs op) 19 (among (λ t. nat_eq (sign_needs t) 19) update_operators op refl is) in
    record {
      some = rw (tok.lexeme_is) (omega arith);
      gives_is = rw (tok.lexeme_is) (update_gives n op is binds_is);
      needs_low = rw (tok.lexeme_is) (omega arith);
      suit = rw (tok.lexeme_is) (update_suits n op (same_line b) is line);
      tight = let t = update_tight i is tok line in omega arith;
    }
  where
    update_gives : (n : ℕ) (op : Text) → is_update op ≡ true → sign_binds op ≡ 17 → sign_gives n op ≡ 17
    update_gives n op is e = ap (λ (t : Bool). if t then member_level n else sign_binds op) (not-true (is_one_of op (codes "[" ∷ codes "." ∷ [])) (among (λ t. not (is_one_of t (codes "[" ∷ codes "." ∷ []))) update_operators op refl is)) ∙ e

    update_suits : (n : ℕ) (op : Text) (line : Bool) → is_update op ≡ true → line ≡ true → suits n (Some (sign op)) line ≡ true
    update_suits n op line is e = rw (e, is, not-true (is_text op (codes "??")) (among (λ t. not (is_text t (codes "??"))) update_operators op refl is)) refl

pub update_behind_read : {i : Bool} {n : ℕ} {op : Text} {t : Term} {q : Bool} {a b c : Text} → is_update op ≡ true → is_simple_target t ≡ true → 19 ≤ n → IsRead i (depth t) (whole t n q) a b → same_line b ≡ true → Seen (sign op) b c → IsRead i (depth (update_of op false t)) (closed (update_of op false t) 17) a c
update_behind_read {i} {n} {op} {t} {q} {a} {b} {c} is simple high left line tok =
    joined_read 18 left (update_joins is high line tok) (quiet_other t b (sees_by (codes "(") tok ∙ not-true (is_text op (codes "(")) (among (λ t. not (is_text t (codes "("))) update_operators op refl is))) (omega arith) (omega arith) (omega arith) (omega arith) (let w = left.calls high in omega arith) tok.shorter
    (is_updated refl (omega arith)) (omega arith) (λ h. omega arith) (λ h h'. absurd (omega arith)) (λ h. absurd (omega arith))
    (λ limit fits h. extends_sign (read limit) i t n q tok (not-true (is_one_of op assignment_operators) (among (λ t. not (is_one_of t assignment_operators)) update_operators op refl is)) ∙ behind_extended (read limit) i t n q op c is simple)

-- ---- #x in r (13.10)

private_there : {n : ℕ} {r : Term} {q : Bool} {b c d : Text} (limit : ℕ) (x : Text) → Seen (word (codes "in")) b c → 12 ≤ n → IsRead true (depth r) (whole r n q) c d → depth r ≤ limit → holds true (edge r) 11 d ≡ true → private_in (read limit) true x b ≡ Some (closed (of_parts Kind.PrivateInExpression (private_of x) r) 11, d)
unfolding private_in
private_there limit x tok high y fits h = rw (expect_word_read tok, place_read y limit 12 11 high (omega arith) (omega arith) (omega arith) fits h)

pub private_in_read : {n : ℕ} {x : Text} {r : Term} {q : Bool} {a b c d : Text} → 12 ≤ n → Seen (private_name x) a b → Seen (word (codes "in")) b c → IsRead true (depth r) (whole r n q) c d → IsRead true (depth (of_parts Kind.PrivateInExpression (private_of x) r)) (closed (of_parts Kind.PrivateInExpression (private_of x) r) 11) a d
private_in_read {x = x} high tok tok' y =
    let s1 = tok.shorter in
    let s2 = tok'.shorter in
    let s3 = y.shorter in
    lower_read 11 (omega arith) (omega arith) (omega arith) (ends_right y.ends (omega arith) (λ h. absurd (omega arith))) (omega arith) (λ h. omega arith) (λ h h'. omega arith) (λ h. absurd (omega arith))
    (λ limit least low fits h. literal_there (read limit) true least tok ∙ ap (private_in (read limit) true x) tok.after_is ∙ private_there limit x tok' high y (omega arith) h)

-- ---- yield (15.5)

bare_there : (sub : Goal → Text → Reading Found) (i : Bool) {b : Text} → ends_operand b ≡ true → yield_expression sub i b ≡ Some (closed (marked Kind.YieldExpression [] (one absent)) 2, b)
unfolding yield_expression
bare_there sub i h = rw h

loose_ends : (i : Bool) (k : ℕ) (b : Text) → holds i loose k b ≡ true → ends_operand b ≡ true
unfolding holds
loose_ends i k b h = h

pub bare_yield_read : {i : Bool} {a b : Text} → Seen (word (codes "yield")) a b → IsRead i (depth (marked Kind.YieldExpression [] (one absent))) (closed (marked Kind.YieldExpression [] (one absent)) 2) a b
bare_yield_read {i} {b = b} tok =
    lower_read 1 tok.shorter (omega arith) (omega arith) (is_loose refl (omega arith)) (omega arith) (λ h. absurd (omega arith)) (λ h. absurd (omega arith)) (λ h. absurd (omega arith))
    (λ limit least low fits h. word_there (read limit) i least tok ∙ bare_there (read limit) i (loose_ends i 1 b h))

-- where an expression begins, no operand has ended
not_ended : (b : Text) → same_line b ≡ true → at_end b ≡ false → sees (codes ")") b ≡ false → sees (codes "]") b ≡ false → sees (codes "}") b ≡ false → sees (codes ",") b ≡ false → sees (codes ";") b ≡ false → sees (codes ":") b ≡ false → ends_operand b ≡ false
unfolding ends_operand
not_ended b h h' h1 h2 h3 h4 h5 h6 = rw (h, h', h1, h2, h3, h4, h5, h6) refl

pub no_operand : (b : Text) → same_line b ≡ true → begins (lexeme b) ≡ true → ends_operand b ≡ false
no_operand b line h =
    not_ended b line (not_at_end b h) (no_sign_there (codes ")") b h refl) (no_sign_there (codes "]") b h refl) (no_sign_there (codes "}") b h refl) (no_sign_there (codes ",") b h refl) (no_sign_there (codes ";") b h refl) (no_sign_there (codes ":") b h refl)

yielding_there : {i : Bool} {n : ℕ} {e : Term} {q : Bool} {b c : Text} (limit : ℕ) → same_line b ≡ true → begins (lexeme b) ≡ true → IsRead i (depth e) (whole e n q) b c → depth e ≤ limit → holds i (edge e) 1 c ≡ true → yield_expression (read limit) i b ≡ Some (closed (marked Kind.YieldExpression [] (one e)) 2, c)
unfolding yield_expression
yielding_there {b = b} limit line starts x fits h = rw (no_operand b line starts, no_sign_there (codes "*") b starts refl, right_read x limit fits h)

pub yielding_read : {i : Bool} {n : ℕ} {e : Term} {q : Bool} {a b c : Text} → Seen (word (codes "yield")) a b → same_line b ≡ true → begins (lexeme b) ≡ true → IsRead i (depth e) (whole e n q) b c → IsRead i (depth (marked Kind.YieldExpression [] (one e))) (closed (marked Kind.YieldExpression [] (one e)) 2) a c
yielding_read {i} tok line starts x =
    let s1 = tok.shorter in
    let s2 = x.shorter in
    lower_read 1 (omega arith) (omega arith) (omega arith) (ends_low x.ends) (omega arith) (λ h. absurd (omega arith)) (λ h. absurd (omega arith)) (λ h. absurd (omega arith))
    (λ limit least low fits h. word_there (read limit) i least tok ∙ yielding_there limit line starts x (omega arith) h)

star_seen : {b c : Text} → same_line b ≡ true → Seen (sign (codes "*")) b c → ends_operand b ≡ false
star_seen {b} line tok = not_ended b line (seen_not_end tok) (sees_by (codes ")") tok) (sees_by (codes "]") tok) (sees_by (codes "}") tok) (sees_by (codes ",") tok) (sees_by (codes ";") tok) (sees_by (codes ":") tok)

delegating_there : {i : Bool} {n : ℕ} {e : Term} {q : Bool} {b c d : Text} (limit : ℕ) → same_line b ≡ true → Seen (sign (codes "*")) b c → IsRead i (depth e) (whole e n q) c d → depth e ≤ limit → holds i (edge e) 1 d ≡ true → yield_expression (read limit) i b ≡ Some (closed (marked Kind.YieldExpression (codes "*") (one e)) 2, d)
unfolding yield_expression
delegating_there {b = b} limit line tok x fits h = rw (star_seen line tok, sees_by (codes "*") tok, tok.after_is, right_read x limit fits h)

pub delegating_read : {i : Bool} {n : ℕ} {e : Term} {q : Bool} {a b c d : Text} → Seen (word (codes "yield")) a b → same_line b ≡ true → Seen (sign (codes "*")) b c → IsRead i (depth e) (whole e n q) c d → IsRead i (depth (marked Kind.YieldExpression (codes "*") (one e))) (closed (marked Kind.YieldExpression (codes "*") (one e)) 2) a d
delegating_read {i} tok line tok' x =
    let s1 = tok.shorter in
    let s2 = tok'.shorter in
    let s3 = x.shorter in
    lower_read 1 (omega arith) (omega arith) (omega arith) (ends_low x.ends) (omega arith) (λ h. absurd (omega arith)) (λ h. absurd (omega arith)) (λ h. absurd (omega arith))
    (λ limit least low fits h. word_there (read limit) i least tok ∙ delegating_there limit line tok' x (omega arith) h)
