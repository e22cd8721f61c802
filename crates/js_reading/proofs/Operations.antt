-- Operators that stand in a text are read.
use Rattle.std.proofs.Common.{◌≡◌, ◌≤◌, ◌<◌, ℕ, suc, Bool, true, false, not, ◌&&◌, ◌||◌, if◌then◌else◌, nat_le, nat_eq, [], ◌∷◌, length, Some, refl, sym, subst, ◌∙◌, ap, arith, codes}
use Rattle.std.specs.Str.{IsUtf8}
use Rattle.std.specs.List.{list_all}
use Rattle.std.proofs.lemmas.Bool.{false≢true, not-true, eqb-true, leb-true}
use Rattle.js_term.specs.Term.{Text, is_text, Term, node, two, depth}
use Rattle.js_term.specs.declared.kind.Kind.{Kind}
use Rattle.js_term.specs.Lexeme.{is_reserved, is_one_of}
use Rattle.js_syntax.specs.Nodes.{marked, three}
use Rattle.js_syntax.specs.Texts.{assignment_operators, logical_operators}
use Rattle.js_syntax.specs.Tokens.{word, sign, signs, Lexed, is_punctuator, Sign}
use Rattle.js_syntax.specs.Edges.{edge, is_update, is_word_operator, is_coalesce_left, member_level, operator_levels, binary_level}
use Rattle.js_syntax.specs.Spelling as spell
use Rattle.js_syntax.proofs.Fronts.{among}
use Rattle.js_tokens.specs.Next.{lexeme, after}
use Rattle.js_reading.specs.declared.goal.Goal.{Goal}
use Rattle.js_reading.specs.Reading.{Found, closed, Reading, sees, sees_word, same_line, arrow_here}
use Rattle.js_reading.specs.Operators.{sign_binds, word_binds, sign_gives, sign_needs}
use Rattle.js_reading.specs.Expressions.{operated, binary_by, sign_extended, extended, conditional}
use Rattle.js_reading.specs.Read.{read}
use Rattle.js_reading.proofs.TokensThere.{Seen, see, sees_by, expect_read}
use Rattle.js_reading.proofs.Lists.{ending_end}
use Rattle.js_reading.proofs.Follows.{tightness, takes_name, holds, end_holds, by_level, either_case}
use Rattle.js_reading.proofs.Climbs.{whole, quiet_other, IsRead, place_read, right_read, Joins, sign_joins, joined_read, ends_right}

-- ---- operators

pub data SeenOperator (op a b : Text) : Type 0 where
  by_word : is_word_operator op ≡ true → Seen (word op) a b → SeenOperator op a b
  by_sign : is_one_of op signs ≡ true → Seen (sign op) a b → SeenOperator op a b

pub is_sign_text : {s a b : Text} → Sign s a b → is_one_of s signs ≡ true
is_sign_text tok = go tok.lexed
  where
    go : {s m rest : Text} → Lexed (sign s) m rest → is_one_of s signs ≡ true
    go (is_punctuator h opens longest) = h

pub see_operator : {op a b : Text} → spell.Operator op a b → IsUtf8 a → SeenOperator op a b
see_operator (spell.word_operator h tok) u = by_word h (see tok u refl)
see_operator (spell.sign_operator tok) u = by_sign (is_sign_text tok) (see tok u refl)

pub operator_shorter : {op a b : Text} → SeenOperator op a b → length b < length a
operator_shorter (by_word h x) = x.shorter
operator_shorter (by_sign h x) = x.shorter

pub operator_utf8 : {op a b : Text} → SeenOperator op a b → IsUtf8 b
operator_utf8 (by_word h x) = x.utf8
operator_utf8 (by_sign h x) = x.utf8

-- ---- what goes on with an expression

pub extends_sign : (sub : Goal → Text → Reading Found) (i : Bool) (l : Term) (m : ℕ) (p : Bool) {s b c : Text} → Seen (sign s) b c → is_one_of s assignment_operators ≡ false → extended sub i (whole l m p) b ≡ sign_extended sub i (whole l m p) s c
unfolding extended
extends_sign sub i l m p x no_assign = rw (x.lexeme_is, no_assign, x.after_is)

extends_word : (sub : Goal → Text → Reading Found) (i : Bool) (l : Term) (m : ℕ) (p : Bool) {s b c : Text} → Seen (word s) b c → extended sub i (whole l m p) b ≡ binary_by sub i s l (binary_level s) c
unfolding extended
extends_word sub i l m p x = rw (x.lexeme_is, x.after_is)

operated_there : {i : Bool} {d n : ℕ} {r : Term} {q : Bool} {c e : Text} (limit : ℕ) (kind : Kind) (op : Text) (l : Term) (place k keeps : ℕ) → IsRead i d (whole r n q) c e → place ≤ n → keeps < place → keeps ≤ 18 → 3 < place → d ≤ limit → holds i (edge r) keeps e ≡ true → operated (read limit) i kind op l place k c ≡ Some (closed (marked kind op (two l r)) k, e)
operated_there limit kind op l place k keeps right high below low some fits h = rw (place_read right limit place keeps high below low some fits h)

pub operated_read : {i : Bool} {m n k t : ℕ} {l r : Term} {p q : Bool} {a b c d : Text} (kind : Kind) (op : Text) (place keeps : ℕ) (left : IsRead i (depth l) (whole l m p) a b) → Joins i m k t b → sees (codes "(") b ≡ false → t ≤ left.keeps → length c < length b → IsRead i (depth r) (whole r n q) c d → edge (marked kind op (two l r)) ≡ edge r → 3 < m → k ≤ m → place ≤ n → keeps < place → keeps ≤ 18 → 3 < k → k ≤ 15 → k ≤ place → k ≤ suc keeps → (k ≤ 14 → k ≤ keeps) → ((limit : ℕ) → extended (read limit) i (whole l m p) b ≡ operated (read limit) i kind op l place k c) → IsRead i (depth (marked kind op (two l r))) (closed (marked kind op (two l r)) k) a d
operated_read {i} {m} {n} {k} {t} {l} {r} {p} {q} {a} {b} {c} {d} kind op place keeps left j no_paren tight shorter right same high low fit below top some_k top_k place_k wide mid extends =
    joined_read keeps left j (quiet_other l b no_paren) (omega arith) high low (omega arith) tight (let s = right.shorter in omega arith)
    (rw same (ends_right right.ends (omega arith) (λ h. absurd (omega arith)))) (omega arith) (λ h. wide) (λ h h'. mid h') (λ h. absurd (omega arith))
    (λ limit fits h. extends limit ∙ operated_there limit kind op l place k keeps right fit below top (omega arith) (omega arith) (subst (λ x. holds i x keeps d ≡ true) same h))

-- ---- exponentiation and the logical operators

pub exponentiation_read : {i : Bool} {m n : ℕ} {l r : Term} {p q : Bool} {a b c d : Text} → 17 ≤ m → 15 ≤ n → IsRead i (depth l) (whole l m p) a b → Seen (sign (codes "**")) b c → IsRead i (depth r) (whole r n q) c d → IsRead i (depth (marked Kind.BinaryExpression (codes "**") (two l r))) (closed (marked Kind.BinaryExpression (codes "**") (two l r)) 15) a d
exponentiation_read {i} {m} {n} {l} {p = p} h h' left tok right =
    operated_read Kind.BinaryExpression (codes "**") 15 14 left (sign_joins tok (omega arith) refl h refl refl refl) (sees_by (codes "(") tok) (let w = left.wide (omega arith) in omega arith) tok.shorter right refl
    (omega arith) (omega arith) h' (omega arith) (omega arith) (omega arith) (omega arith) (omega arith) (omega arith) (λ x. absurd (omega arith)) (λ limit. extends_sign (read limit) i l m p tok refl)

pub conjunction_read : {i : Bool} {m n : ℕ} {l r : Term} {p q : Bool} {a b c d : Text} → 6 ≤ m → 7 ≤ n → IsRead i (depth l) (whole l m p) a b → Seen (sign (codes "&&")) b c → IsRead i (depth r) (whole r n q) c d → IsRead i (depth (marked Kind.LogicalExpression (codes "&&") (two l r))) (closed (marked Kind.LogicalExpression (codes "&&") (two l r)) 6) a d
conjunction_read {i} {m} {n} {l} {p = p} h h' left tok right =
    operated_read Kind.LogicalExpression (codes "&&") 7 6 left (sign_joins tok (omega arith) refl h refl refl refl) (sees_by (codes "(") tok) (left.tight 6 (omega arith) (omega arith) h) tok.shorter right refl
    (omega arith) (omega arith) h' (omega arith) (omega arith) (omega arith) (omega arith) (omega arith) (omega arith) (λ x. omega arith) (λ limit. extends_sign (read limit) i l m p tok refl)

pub disjunction_read : {i : Bool} {m n : ℕ} {l r : Term} {p q : Bool} {a b c d : Text} → 5 ≤ m → 6 ≤ n → IsRead i (depth l) (whole l m p) a b → Seen (sign (codes "||")) b c → IsRead i (depth r) (whole r n q) c d → IsRead i (depth (marked Kind.LogicalExpression (codes "||") (two l r))) (closed (marked Kind.LogicalExpression (codes "||") (two l r)) 5) a d
disjunction_read {i} {m} {n} {l} {p = p} h h' left tok right =
    operated_read Kind.LogicalExpression (codes "||") 6 5 left (sign_joins tok (omega arith) refl h refl refl refl) (sees_by (codes "(") tok) (left.tight 5 (omega arith) (omega arith) h) tok.shorter right refl
    (omega arith) (omega arith) h' (omega arith) (omega arith) (omega arith) (omega arith) (omega arith) (omega arith) (λ x. omega arith) (λ limit. extends_sign (read limit) i l m p tok refl)

coalesce_high : (m : ℕ) → is_coalesce_left m ≡ true → 4 ≤ m
coalesce_high m h = either_case (nat_eq m 4) (nat_le 7 m) h (λ e. let x = eqb-true m 4 e in omega arith) (λ e. let x = leb-true 7 m e in omega arith)

pub coalescing_read : {i : Bool} {m n : ℕ} {l r : Term} {p q : Bool} {a b c d : Text} → is_coalesce_left m ≡ true → 7 ≤ n → IsRead i (depth l) (whole l m p) a b → Seen (sign (codes "??")) b c → IsRead i (depth r) (whole r n q) c d → IsRead i (depth (marked Kind.LogicalExpression (codes "??") (two l r))) (closed (marked Kind.LogicalExpression (codes "??") (two l r)) 4) a d
coalescing_read {i} {m} {n} {l} {p = p} is h' left tok right =
    let h = coalesce_high m is in
    operated_read Kind.LogicalExpression (codes "??") 7 4 left (sign_joins tok (omega arith) refl h refl is refl) (sees_by (codes "(") tok) (left.tight 4 (omega arith) (omega arith) h) tok.shorter right refl
    (omega arith) (omega arith) h' (omega arith) (omega arith) (omega arith) (omega arith) (omega arith) (omega arith) (λ x. omega arith) (λ limit. extends_sign (read limit) i l m p tok refl)

-- ---- the operators of each level

row_is : (p : Text → Bool) (op : Text) (k : ℕ) → list_all (λ row. list_all p row.0) operator_levels ≡ true → binary_level op ≡ Some k → p op ≡ true
row_is p op k all h = by_level (λ t n. p t) operator_levels op k all h

row_not : (p : Text → Bool) (op : Text) (k : ℕ) → list_all (λ row. list_all (λ t. not (p t)) row.0) operator_levels ≡ true → binary_level op ≡ Some k → p op ≡ false
row_not p op k all h = not-true _ (row_is (λ t. not (p t)) op k all h)

-- what a binary operator is not
pub record Binary (op : Text) (k : ℕ) : Type 0 where
  pub binds_is : sign_binds op ≡ k
  pub needs_is : sign_needs op ≡ k
  pub gives_is : (n : ℕ) → sign_gives n op ≡ k
  pub low : 7 ≤ k
  pub top : k ≤ 14
  pub no_assign : is_one_of op assignment_operators ≡ false
  pub no_update : is_update op ≡ false
  pub no_dot : is_text op (codes ".") ≡ false
  pub no_bracket : is_text op (codes "[") ≡ false
  pub no_paren : is_text op (codes "(") ≡ false
  pub no_chain : is_text op (codes "?.") ≡ false
  pub no_question : is_text op (codes "?") ≡ false
  pub no_power : is_text op (codes "**") ≡ false
  pub no_logic : is_one_of op logical_operators ≡ false
  pub no_coalesce : is_text op (codes "??") ≡ false
  pub no_arrow : is_text op (codes "=>") ≡ false

gives_by : (n k : ℕ) (op : Text) → is_one_of op (codes "[" ∷ codes "." ∷ []) ≡ false → sign_binds op ≡ k → sign_gives n op ≡ k
gives_by n k op h e = ap (λ (t : Bool). if t then member_level n else sign_binds op) h ∙ e

pub binary_is : (op : Text) (k : ℕ) → binary_level op ≡ Some k → Binary op k
binary_is op k h =
    let binds_is = eqb-true (sign_binds op) k (by_level (λ t n. nat_eq (sign_binds t) n) operator_levels op k refl h) in
    record {
      binds_is = binds_is;
      needs_is = eqb-true (sign_needs op) k (by_level (λ t n. nat_eq (sign_needs t) n) operator_levels op k refl h);
      gives_is = λ n. gives_by n k op (row_not (λ t. is_one_of t (codes "[" ∷ codes "." ∷ [])) op k refl h) binds_is;
      low = leb-true 7 k (by_level (λ t n. nat_le 7 n) operator_levels op k refl h);
      top = leb-true k 14 (by_level (λ t n. nat_le n 14) operator_levels op k refl h);
      no_assign = row_not (λ t. is_one_of t assignment_operators) op k refl h;
      no_update = row_not is_update op k refl h;
      no_dot = row_not (λ t. is_text t (codes ".")) op k refl h;
      no_bracket = row_not (λ t. is_text t (codes "[")) op k refl h;
      no_paren = row_not (λ t. is_text t (codes "(")) op k refl h;
      no_chain = row_not (λ t. is_text t (codes "?.")) op k refl h;
      no_question = row_not (λ t. is_text t (codes "?")) op k refl h;
      no_power = row_not (λ t. is_text t (codes "**")) op k refl h;
      no_logic = row_not (λ t. is_one_of t logical_operators) op k refl h;
      no_coalesce = row_not (λ t. is_text t (codes "??")) op k refl h;
      no_arrow = row_not (λ t. is_text t (codes "=>")) op k refl h;
    }

binary_extended : (sub : Goal → Text → Reading Found) (i : Bool) (l : Term) (m k : ℕ) (p : Bool) (op b : Text) → Binary op k → binary_level op ≡ Some k → sign_extended sub i (whole l m p) op b ≡ operated sub i Kind.BinaryExpression op l (suc k) k b
binary_extended sub i l m k p op b x h =
    let h1 = x.no_dot in let h2 = x.no_bracket in let h3 = x.no_paren in let h4 = x.no_chain in
    let h5 = x.no_update in let h6 = x.no_question in let h7 = x.no_power in let h8 = x.no_logic in
    rw (h1, h2, h3, h4, h5, h6, h7, h8, h)

sign_binary_read : {i : Bool} {k m n : ℕ} {op : Text} {l r : Term} {p q : Bool} {a b c d : Text} → binary_level op ≡ Some k → k ≤ m → suc k ≤ n → IsRead i (depth l) (whole l m p) a b → Seen (sign op) b c → IsRead i (depth r) (whole r n q) c d → IsRead i (depth (marked Kind.BinaryExpression op (two l r))) (closed (marked Kind.BinaryExpression op (two l r)) k) a d
sign_binary_read {i} {k} {m} {n} {op} {l} {p = p} {b = b} {c = c} is h h' left tok right =
    let x = binary_is op k is in
    let low = x.low in
    let top = x.top in
    let no_coalesce = x.no_coalesce in
    let binds_is = x.binds_is in
    let needs_is = x.needs_is in
    let no_paren = x.no_paren in
    operated_read Kind.BinaryExpression op (suc k) k left
    (sign_joins tok (rw binds_is (omega arith)) (x.gives_is m) (rw needs_is h) x.no_update (rw no_coalesce refl) x.no_arrow)
    (sees_by (codes "(") tok ∙ no_paren) (rw binds_is (left.tight k top (omega arith) h)) tok.shorter right refl
    (omega arith) h h' (omega arith) (omega arith) (omega arith) (omega arith) (omega arith) (omega arith) (λ x. omega arith)
    (λ limit. extends_sign (read limit) i l m p tok x.no_assign ∙ binary_extended (read limit) i l m k p op c x is)

-- ---- the operators that are words

-- a word that is no parameter takes no name
word_takes : (op b : Text) → lexeme b ≡ Some (word op) → is_text op (codes "function") ≡ false → (not (is_reserved op) && arrow_here (after b)) ≡ false → takes_name b ≡ false
unfolding takes_name arrow_here sees sees_word
word_takes op b is other calm = rw (is, calm, other) (go (same_line b))
  where
    go : (line : Bool) → (line && false) ≡ false
    go true = refl
    go false = refl

pub word_tight : (i : Bool) (op : Text) {b c : Text} → Seen (word op) b c → is_text op (codes "function") ≡ false → (not (is_reserved op) && arrow_here (after b)) ≡ false → tightness i b ≡ word_binds i op
unfolding tightness
word_tight i op {b} tok other calm = rw (word_takes op b tok.lexeme_is other calm, tok.lexeme_is)

word_joins : {i : Bool} {m : ℕ} (op : Text) {b c : Text} → Seen (word op) b c → is_text op (codes "function") ≡ false → is_reserved op ≡ true → word_binds i op ≡ 11 → 11 ≤ m → Joins i m 11 11 b
word_joins {i} {m} op {b} tok other free eleven h = record {
  some = rw (tok.lexeme_is, eleven) (omega arith);
  gives_is = rw (tok.lexeme_is) eleven;
  needs_low = rw (tok.lexeme_is, eleven) h;
  suit = rw (tok.lexeme_is);
  tight = let t = word_tight i op tok other (rw free refl) in omega arith;
}

word_binary_read : {i : Bool} {m n : ℕ} (op : Text) {l r : Term} {p q : Bool} {a b c d : Text} → is_text op (codes "function") ≡ false → is_reserved op ≡ true → word_binds i op ≡ 11 → binary_level op ≡ Some 11 → 11 ≤ m → 12 ≤ n → IsRead i (depth l) (whole l m p) a b → Seen (word op) b c → IsRead i (depth r) (whole r n q) c d → IsRead i (depth (marked Kind.BinaryExpression op (two l r))) (closed (marked Kind.BinaryExpression op (two l r)) 11) a d
word_binary_read {i} {m} {n} op {l} {p = p} {c = c} other free eleven is h h' left tok right =
    operated_read Kind.BinaryExpression op 12 11 left (word_joins op tok other free eleven h) (sees_by (codes "(") tok) (left.tight 11 (omega arith) (omega arith) h) tok.shorter right refl
    (omega arith) h h' (omega arith) (omega arith) (omega arith) (omega arith) (omega arith) (omega arith) (λ x. omega arith)
    (λ limit. extends_word (read limit) i l m p tok ∙ ap (λ o. binary_by (read limit) i op l o c) is)

binary_word : {i : Bool} {k m n : ℕ} (op : Text) {l r : Term} {p q : Bool} {a b c d : Text} → binary_level op ≡ Some k → is_one_of op (codes "in" ∷ codes "instanceof" ∷ []) ≡ true → not (is_text op (codes "in")) || i ≡ true → k ≤ m → suc k ≤ n → IsRead i (depth l) (whole l m p) a b → Seen (word op) b c → IsRead i (depth r) (whole r n q) c d → IsRead i (depth (marked Kind.BinaryExpression op (two l r))) (closed (marked Kind.BinaryExpression op (two l r)) k) a d
binary_word {i} {k} {m} {n} op {l} {r} {p} {q} {a} {b} {c} {d} is among_words allowed h h' left tok right =
    let eleven : sign_binds op ≡ 11 = eqb-true (sign_binds op) 11 (among (λ t. nat_eq (sign_binds t) 11) (codes "in" ∷ codes "instanceof" ∷ []) op refl among_words) in
    let x = binary_is op k is in
    let binds_is = x.binds_is in
    let same : k ≡ 11 = sym binds_is ∙ eleven in
    rw same (word_binary_read op
    (not-true _ (among (λ t. not (is_text t (codes "function"))) (codes "in" ∷ codes "instanceof" ∷ []) op refl among_words))
    (among is_reserved (codes "in" ∷ codes "instanceof" ∷ []) op refl among_words)
    (go (is_text op (codes "in")) i (is_text op (codes "instanceof")) among_words allowed) (is ∙ ap Some same) (omega arith) (omega arith) left tok right)
  where
    go : (w i v : Bool) → (w || (v || false)) ≡ true → (not w || i) ≡ true → ◌≡◌ {A = ℕ} (if w then (if i then 11 else 0) else if v then 11 else 0) 11
    go true true v h h' = refl
    go true false v h h' = absurd (false≢true h')
    go false i true h h' = refl
    go false i false h h' = absurd (false≢true h)

pub binary_read : {i : Bool} {k m n : ℕ} {op : Text} {l r : Term} {p q : Bool} {a b c d : Text} → binary_level op ≡ Some k → not (is_text op (codes "in")) || i ≡ true → k ≤ m → suc k ≤ n → IsRead i (depth l) (whole l m p) a b → SeenOperator op b c → IsRead i (depth r) (whole r n q) c d → IsRead i (depth (marked Kind.BinaryExpression op (two l r))) (closed (marked Kind.BinaryExpression op (two l r)) k) a d
binary_read {k = k} {op = op} is allowed h h' left (by_sign s tok) right = sign_binary_read is h h' left tok right
binary_read {k = k} {op = op} is allowed h h' left (by_word w tok) right =
    binary_word op is (either_case (not (is_word_operator op)) (is_one_of op (codes "in" ∷ codes "instanceof" ∷ [])) (row_is (λ t. not (is_word_operator t) || is_one_of t (codes "in" ∷ codes "instanceof" ∷ [])) op k refl is) (λ e. absurd (false≢true (sym (not-true _ e) ∙ w))) (λ e. e)) allowed h h' left tok right

-- ---- the conditional operator (13.14)

conditional_there : {i : Bool} {m n : ℕ} {t e f : Term} {p q : Bool} {c d g h : Text} (limit : ℕ) → IsRead true (depth e) (whole e m p) c d → Seen (sign (codes ":")) d g → IsRead i (depth f) (whole f n q) g h → depth e ≤ limit → depth f ≤ limit → holds i (edge f) 1 h ≡ true → conditional (read limit) i t c ≡ Some (closed (node Kind.ConditionalExpression [] (three t e f)) 3, h)
unfolding conditional
conditional_there {e = e} {d = d} limit x tok y fits fits' h =
    rw (right_read x limit fits (end_holds true (edge e) 1 d (ending_end (codes ":") d refl (sees_by (codes ":") tok))), expect_read tok, right_read y limit fits' h)

pub conditional_read : {i : Bool} {k m n : ℕ} {t e f : Term} {p p' q : Bool} {a b c d g h : Text} → 4 ≤ k → IsRead i (depth t) (whole t k p) a b → Seen (sign (codes "?")) b c → IsRead true (depth e) (whole e m p') c d → Seen (sign (codes ":")) d g → IsRead i (depth f) (whole f n q) g h → IsRead i (depth (node Kind.ConditionalExpression [] (three t e f))) (closed (node Kind.ConditionalExpression [] (three t e f)) 3) a h
conditional_read {i} {k} {t = t} {p = p} high left tok x tok' y =
    let s1 = tok.shorter in
    let s2 = x.shorter in
    let s3 = tok'.shorter in
    let s4 = y.shorter in
    joined_read 1 left (sign_joins tok (omega arith) refl high refl refl refl) (quiet_other t _ (sees_by (codes "(") tok)) (omega arith) (omega arith) (omega arith) (omega arith) (left.tight 3 (omega arith) (omega arith) (omega arith)) (omega arith)
    (ends_right y.ends (omega arith) (λ h. omega arith)) (omega arith) (λ h. absurd (omega arith)) (λ h. absurd (omega arith)) (λ h. absurd (omega arith))
    (λ limit fits h. extends_sign (read limit) i t k p tok refl ∙ conditional_there limit x tok' y (omega arith) (omega arith) h)
