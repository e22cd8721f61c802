-- What goes on with an expression is spelled.
use Rattle.std.proofs.Common.{◌≡◌, ◌≤◌, ℕ, zero, suc, Bool, true, false, not, ◌||◌, if◌then◌else◌, nat_le, List, length, Option, Some, None, refl, sym, subst, arith, codes}
use Rattle.std.specs.Str.{IsUtf8}
use Rattle.std.proofs.lemmas.Bool.{and_parts, leb-true, le-leb}
use Rattle.js_term.specs.Term.{Text, is_text, Term, all, two}
use Rattle.js_term.specs.declared.kind.Kind.{Kind}
use Rattle.js_term.specs.Lexeme.{is_one_of}
use Rattle.js_syntax.specs.Nodes.{marked, of_parts, call_link}
use Rattle.js_syntax.specs.Texts.{assignment_operators, logical_operators}
use Rattle.js_syntax.specs.Tokens.{Lexeme, word, private_name, number, big_integer, string, no_substitution, template_head, sign, regexp, template_middle, template_tail, Word, Sign, SameLine}
use Rattle.js_syntax.specs.Edges.{is_simple_target, is_update, binary_level, is_coalesce_left, member_level}
use Rattle.js_syntax.specs.Spelling.{Stands, Operator, Target, DefaultedTarget, Access}
use Rattle.js_syntax.specs.Spelling as spell
use Rattle.js_syntax.proofs.Fronts.{same_text}
use Rattle.js_tokens.specs.Next.{lexeme, after}
use Rattle.js_reading.specs.declared.goal.Goal.{Goal}
use Rattle.js_reading.specs.Reading.{Found, closed, Reading, ◌>>=◌, same_line}
use Rattle.js_reading.specs.Operators.{binds, word_binds, sign_gives, sign_needs, suits, goes_on}
use Rattle.js_reading.specs.Targets.{target_of}
use Rattle.js_reading.specs.Parts.{template_by}
use Rattle.js_reading.specs.Expressions.{at, template_tree, is_bare_new, target_in, assigned_in, logical_right, logical_level, operated, conditional, assigned_by, binary_by, updated, operator_by, sign_extended, extended_by, is_assignment, operator_text, extended, climb, at_level, callee}
use Rattle.js_reading.proofs.Each.{Each, each_none, each_some, each_bind, each_weaker, each_if, there, on_same_line, expect_each}
use Rattle.js_reading.proofs.Covers.{Covers, closed_covers}
use Rattle.js_reading.proofs.SoundParts.{Good, Callees, part_each, template_each}
use Rattle.js_reading.proofs.SoundLiterals.{as_sign}
use Rattle.js_reading.proofs.SoundMembers.{dotted_each, computed_each, called_each, chain_each}
use Rattle.js_reading.proofs.SoundExpressions.{access_closed, prefix_each}
use Rattle.js_reading.proofs.Operating.{Going, going, binary_agrees, update_cases, logical_cases, assignment_gives, word_cases, sign_is_not_in, bare_of}

-- ---- assignments

default_element : {i : Bool} {n : ℕ} {op : Text} {t e u : Term} {a b c d : Text} → i ≡ true → Target i t a b → Sign op b c → Stands i n e c d → target_of true (marked Kind.AssignmentExpression op (two t e)) ≡ Some u → DefaultedTarget u a d
default_element {i} {n} {op} {t} {e} {u} {a} {b} {c} {d} is x tok s h = go (is_text op (codes "=")) refl h
  where
    whole : (j : Bool) → j ≡ true → Target j t a b → Stands j n e c d → is_text op (codes "=") ≡ true → DefaultedTarget (of_parts Kind.AssignmentTargetWithDefault t e) a d
    whole true is x s k = spell.target_default x (as_sign (codes "=") k tok) s
    whole false is x s k = absurd (cc)

    go : (k : Bool) → is_text op (codes "=") ≡ k → (if k then Some (of_parts Kind.AssignmentTargetWithDefault t e) else None) ≡ Some u → DefaultedTarget u a d
    go true k h = let same : of_parts Kind.AssignmentTargetWithDefault t e ≡ u = cc in subst (λ (z : Term). DefaultedTarget z a d) same (whole i is x s k)
    go false k h = absurd (cc)

pub assignment_covers : {i : Bool} {least n : ℕ} {op : Text} {t e : Term} {a b c d : Text} → least ≤ 2 → is_one_of op assignment_operators ≡ true → is_simple_target t || is_text op (codes "=") ≡ true → Target i t a b → Sign op b c → Stands i n e c d → Covers i least (closed (marked Kind.AssignmentExpression op (two t e)) 2) a d
assignment_covers low is simple x tok s = record {
  stands = λ _. spell.assignment is simple x tok s;
  target = λ _ u h. absurd (cc);
  element = λ _ u k h. default_element k x tok s h;
  high = low;
  solid = refl;
}

-- what an operator assigns to
record Assigned (i : Bool) (op : Text) (t : Term) (a b : Text) : Type 0 where
  simple : is_simple_target t || is_text op (codes "=") ≡ true
  target : Target i t a b

or_true : (b : Bool) → (b || true) ≡ true
or_true true = refl
or_true false = refl

assigned_is : {i : Bool} {least : ℕ} (op : Text) (f : Found) (t : Term) {a b : Text} → Covers i least f a b → assigned_in op f ≡ Some t → Assigned i op t a b
assigned_is {i} op f t {a} {b} c h = go (is_text op (codes "=")) refl h
  where
    pattern : is_text op (codes "=") ≡ true → (k : Bool) → f.barred ≡ k → (if k then None else target_of false f.tree) ≡ Some t → Assigned i op t a b
    pattern e true is h = absurd (cc)
    pattern e false is h = record { simple = rw (e) (or_true (is_simple_target t)); target = c.target is t h }

    simple : (k l : Bool) → f.cover ≡ k → is_simple_target f.tree ≡ l → (if k then None else if l then Some f.tree else None) ≡ Some t → Assigned i op t a b
    simple true l is e h = absurd (cc)
    simple false true is e h = let same : f.tree ≡ t = cc in subst (λ (z : Term). Assigned i op z a b) same (record { simple = rw e refl; target = spell.simple_target e (c.stands is) })
    simple false false is e h = absurd (cc)

    go : (k : Bool) → is_text op (codes "=") ≡ k → (if k then target_in f else if f.cover then None else if is_simple_target f.tree then Some f.tree else None) ≡ Some t → Assigned i op t a b
    go true e h = pattern e f.barred refl h
    go false e h = simple f.cover (is_simple_target f.tree) refl refl h

-- what goes on stands where it is asked for
suited_line : (n : ℕ) (s : Text) (line : Bool) → suits n (Some (sign s)) line ≡ true → is_update s ≡ true → line ≡ true
suited_line n s line h e = implied (is_update s) line e (and_parts (not (is_update s) || line) _ h).0
  where
    implied : (p q : Bool) → p ≡ true → (not p || q) ≡ true → q ≡ true
    implied true q e h = h
    implied false q e h = absurd (cc)

suited_left : (n : ℕ) (line : Bool) → suits n (Some (sign (codes "??"))) line ≡ true → is_coalesce_left n ≡ true
suited_left n line h = h

module _ (sub : Goal → Text → Reading Found) (good : Good sub) where
  conditional_each : (i : Bool) (least n : ℕ) (t : Term) (a b c : Text) → IsUtf8 c → least ≤ 3 → 4 ≤ n → Stands i n t a b → Sign (codes "?") b c → Each (λ g d. Covers i least g a d) (conditional sub i t c)
  unfolding conditional
  conditional_each i least n t a b c u low high s tok =
      each_bind _ (part_each sub good 2 true c u) (λ e d v x.
      each_bind _ (expect_each (codes ":") d v) (λ _ g w colon.
      each_bind _ (part_each sub good 2 i g w) (λ f h y z. each_some _ _ y (closed_covers low refl refl (spell.conditional high s tok x.stands colon z.stands)))))

  binary_from : (i : Bool) (least n : ℕ) (op : Text) (l : Term) (a b c : Text) → IsUtf8 c → (o : Option ℕ) → binary_level op ≡ o → ((k : ℕ) → o ≡ Some k → (least ≤ k) × (k ≤ n)) → not (is_text op (codes "in")) || i ≡ true → Stands i n l a b → Operator op b c → Each (λ g d. Covers i least g a d) (binary_by sub i op l o c)
  binary_from i least n op l a b c u None is fits may s tok = each_none
  binary_from i least n op l a b c u (Some k) is fits may s tok = let (low, high) = fits k refl in
      each_bind _ (part_each sub good (suc k) i c u) (λ r d v x. each_some _ _ v (closed_covers low refl refl (spell.binary is may high x.high s tok x.stands)))

  update_each : (i : Bool) (least n : ℕ) (op : Text) (t : Term) (a b c : Text) → IsUtf8 c → least ≤ 17 → is_update op ≡ true → Stands i n t a b → SameLine b → Sign op b c → Each (λ g d. Covers i least g a d) (updated sub op t c)
  update_each i least n op t a b c u low is s line tok = each_if (is_simple_target t) _ _
      (λ h. each_some _ _ u (closed_covers low refl refl (spell.update_behind is h s line tok))) (λ _. each_none)

  logical_each : (i : Bool) (least n : ℕ) (op : Text) (l : Term) (line : Bool) (a b c : Text) → IsUtf8 c → is_one_of op logical_operators ≡ true → least ≤ sign_gives n op → sign_needs op ≤ n → suits n (Some (sign op)) line ≡ true → Stands i n l a b → Sign op b c →
      Each (λ g d. Covers i least g a d) (operated sub i Kind.LogicalExpression op l (logical_right op) (logical_level op) c)
  logical_each i least n op l line a b c u is low high suited s tok =
      logical_cases (λ op. least ≤ sign_gives n op → sign_needs op ≤ n → suits n (Some (sign op)) line ≡ true → Sign op b c → Each (λ g d. Covers i least g a d) (operated sub i Kind.LogicalExpression op l (logical_right op) (logical_level op) c)) op is
      (λ low high suited tok. each_bind _ (part_each sub good 7 i c u) (λ r d v x. each_some _ _ v (closed_covers low refl refl (spell.coalescing (suited_left n line suited) x.high s tok x.stands))))
      (λ low high suited tok. each_bind _ (part_each sub good 6 i c u) (λ r d v x. each_some _ _ v (closed_covers low refl refl (spell.disjunction high x.high s tok x.stands))))
      (λ low high suited tok. each_bind _ (part_each sub good 7 i c u) (λ r d v x. each_some _ _ v (closed_covers low refl refl (spell.conjunction high x.high s tok x.stands))))
      low high suited tok

  operator_each : (i : Bool) (least : ℕ) (f : Found) (s a b c : Text) → IsUtf8 c → least ≤ sign_gives f.level s → sign_needs s ≤ f.level → suits f.level (Some (sign s)) (same_line b) ≡ true → Stands i f.level f.tree a b → Sign s b c → Each (λ g d. Covers i least g a d) (operator_by sub i f s c)
  operator_each i least f s a b c u low high suited st tok =
      each_if (is_update s) _ _
      (λ e. update_each i least f.level s f.tree a b c u (update_cases (λ op. least ≤ sign_gives f.level op → least ≤ 17) s e (λ h. h) (λ h. h) low) e st (on_same_line b (suited_line f.level s (same_line b) suited e)) tok) (λ _.
      each_if (is_text s (codes "?")) _ _
      (λ e. let same = same_text s (codes "?") e in conditional_each i least f.level f.tree a b c u (subst (λ (z : Text). least ≤ sign_gives f.level z) same low) (subst (λ (z : Text). sign_needs z ≤ f.level) same high) st (as_sign (codes "?") e tok)) (λ _.
      each_if (is_text s (codes "**")) _ _
      (λ e. power (same_text s (codes "**") e)) (λ _.
      each_if (is_one_of s logical_operators) _ _
      (λ e. logical_each i least f.level s f.tree (same_line b) a b c u e low high suited st tok)
      (λ _. binary_from i least f.level s f.tree a b c u (binary_level s) refl fits (may (sign_is_not_in tok)) st (spell.sign_operator tok)))))
    where
      fits : (k : ℕ) → binary_level s ≡ Some k → (least ≤ k) × (k ≤ f.level)
      fits k is = let (x, y) = binary_agrees f.level s k is in (subst (λ (m : ℕ). least ≤ m) x low, subst (λ (m : ℕ). m ≤ f.level) y high)

      may : not (is_text s (codes "in")) ≡ true → not (is_text s (codes "in")) || i ≡ true
      may h = rw h refl

      power : s ≡ codes "**" → Each (λ g d. Covers i least g a d) (operated sub i Kind.BinaryExpression s f.tree 15 15 c)
      power same = subst (λ (op : Text). least ≤ sign_gives f.level op → sign_needs op ≤ f.level → Sign op b c → Each (λ g d. Covers i least g a d) (operated sub i Kind.BinaryExpression op f.tree 15 15 c)) (sym same)
          (λ low high tok. each_bind _ (part_each sub good 15 i c u) (λ r d v x. each_some _ _ v (closed_covers low refl refl (spell.exponentiation high x.high st tok x.stands))))
          low high tok

  member_from : (i : Bool) (least n : ℕ) (o : Term) (a b c : Text) (e : Term) → IsUtf8 c → least ≤ member_level n → 19 ≤ n → Stands i n o a b → Access false o e b c → Each (λ g d. Covers i least g a d) (at (member_level n) e c)
  member_from i least n o a b c e u low high s x = let k = access_closed x in each_some _ _ u (closed_covers low k.0 k.1 (spell.member high s x))

  sign_each : (i : Bool) (least : ℕ) (f : Found) (s a b c : Text) → IsUtf8 c → least ≤ sign_gives f.level s → sign_needs s ≤ f.level → suits f.level (Some (sign s)) (same_line b) ≡ true → Stands i f.level f.tree a b → Sign s b c → Each (λ g d. Covers i least g a d) (sign_extended sub i f s c)
  sign_each i least f s a b c u low high suited st tok =
      each_if (is_text s (codes ".")) _ _
      (λ e. let same = same_text s (codes ".") e in each_bind _ (dotted_each sub good false f.tree b c u (spell.plain_dot (as_sign (codes ".") e tok))) (λ t d v x.
      member_from i least f.level f.tree a b d t v (subst (λ (z : Text). least ≤ sign_gives f.level z) same low) (subst (λ (z : Text). sign_needs z ≤ f.level) same high) st x)) (λ _.
      each_if (is_text s (codes "[")) _ _
      (λ e. let same = same_text s (codes "[") e in each_bind _ (computed_each sub good false f.tree b b c u spell.not_optional (as_sign (codes "[") e tok)) (λ t d v x.
      member_from i least f.level f.tree a b d t v (subst (λ (z : Text). least ≤ sign_gives f.level z) same low) (subst (λ (z : Text). sign_needs z ≤ f.level) same high) st x)) (λ _.
      each_if (is_text s (codes "(")) _ _
      (λ e. let same = same_text s (codes "(") e in each_bind _ (called_each sub good false f.tree b c u (as_sign (codes "(") e tok)) (λ t d v (es, is, x).
      call_found t d v es is (subst (λ (z : Text). least ≤ sign_gives f.level z) same low) (subst (λ (z : Text). sign_needs z ≤ f.level) same high) x)) (λ _.
      each_if (is_text s (codes "?.")) _ _
      (λ e. let same = same_text s (codes "?.") e in chain_each sub good i least f.level f.tree a b c u (subst (λ (z : Text). least ≤ sign_gives f.level z) same low) (subst (λ (z : Text). sign_needs z ≤ f.level) same high) st (as_sign (codes "?.") e tok))
      (λ _. operator_each i least f s a b c u low high suited st tok))))
    where
      call_found : (t : Term) (d : Text) → IsUtf8 d → (es : List Term) → t ≡ call_link false f.tree (all es) → least ≤ 19 → 19 ≤ f.level → spell.Arguments es b d → Each (λ g e. Covers i least g a e) (at 19 t d)
      call_found t d v es is low high x = rw (is) (each_some _ _ v (closed_covers low refl refl (spell.call high st x)))

  tagged_each : (i : Bool) (least : ℕ) (f : Found) (a b : Text) (o : Option Lexeme) → IsUtf8 b → lexeme b ≡ o → least ≤ member_level f.level → 19 ≤ f.level → Stands i f.level f.tree a b →
      Each (λ g d. Covers i least g a d) (template_by sub false o (after b) >>= λ q c. Some (closed (of_parts Kind.TaggedTemplateExpression f.tree (template_tree q)) (member_level f.level), c))
  tagged_each i least f a b o u is low high s = each_bind _ (template_each sub good false b u o is) (λ q c v x. each_some _ _ v (closed_covers low refl refl (spell.tagged high s x)))

  word_each : (i : Bool) (least : ℕ) (f : Found) (x a b c : Text) → IsUtf8 c → 2 ≤ word_binds i x → least ≤ word_binds i x → word_binds i x ≤ f.level → Stands i f.level f.tree a b → Word x b c → Each (λ g d. Covers i least g a d) (binary_by sub i x f.tree (binary_level x) c)
  word_each i least f x a b c u two' low high s tok =
      word_cases (λ i x. least ≤ word_binds i x → word_binds i x ≤ f.level → Stands i f.level f.tree a b → Word x b c → Each (λ g d. Covers i least g a d) (binary_by sub i x f.tree (binary_level x) c)) i x two'
      (λ low high s tok. binary_from true least f.level (codes "in") f.tree a b c u (Some 11) refl (λ k e. exact low high k e) refl s (spell.word_operator refl tok))
      (λ i low high s tok. binary_from i least f.level (codes "instanceof") f.tree a b c u (Some 11) refl (λ k e. exact low high k e) refl s (spell.word_operator refl tok))
      low high s tok
    where
      exact : least ≤ 11 → 11 ≤ f.level → (k : ℕ) → Some 11 ≡ Some k → (least ≤ k) × (k ≤ f.level)
      exact low high k e = let same : 11 ≡ k = cc in (subst (λ (m : ℕ). least ≤ m) same low, subst (λ (m : ℕ). m ≤ f.level) same high)

  no_going : {P : Type 0} (i : Bool) (least n : ℕ) (o : Option Lexeme) (line : Bool) → binds i o ≡ 0 → Going i least n o line → P
  no_going i least n o line none' g = absurd (let two' = g.binds_two in omega arith)

  extended_from : (i : Bool) (least : ℕ) (f : Found) (a b : Text) → IsUtf8 b → Stands i f.level f.tree a b → (o : Option Lexeme) → lexeme b ≡ o → Going i least f.level o (same_line b) → Each (λ g d. Covers i least g a d) (extended_by sub i f o (after b))
  extended_from i least f a b u s (Some (word x)) is g = let t = there b u _ is in word_each i least f x a b (after b) t.utf8 g.binds_two g.low g.high s t.token
  extended_from i least f a b u s (Some (sign x)) is g = let t = there b u _ is in sign_each i least f x a b (after b) t.utf8 g.low g.high g.suited s t.token
  extended_from i least f a b u s (Some (no_substitution x)) is g = tagged_each i least f a b _ u is g.low g.high s
  extended_from i least f a b u s (Some (template_head x)) is g = tagged_each i least f a b _ u is g.low g.high s
  extended_from i least f a b u s None is g = no_going i least f.level None (same_line b) refl g
  extended_from i least f a b u s (Some (private_name x)) is g = no_going i least f.level _ (same_line b) refl g
  extended_from i least f a b u s (Some (number x)) is g = no_going i least f.level _ (same_line b) refl g
  extended_from i least f a b u s (Some (big_integer x)) is g = no_going i least f.level _ (same_line b) refl g
  extended_from i least f a b u s (Some (string x v)) is g = no_going i least f.level _ (same_line b) refl g
  extended_from i least f a b u s (Some (regexp x v)) is g = no_going i least f.level _ (same_line b) refl g
  extended_from i least f a b u s (Some (template_middle x)) is g = no_going i least f.level _ (same_line b) refl g
  extended_from i least f a b u s (Some (template_tail x)) is g = no_going i least f.level _ (same_line b) refl g

  assigned_from : (i : Bool) (least : ℕ) (f : Found) (op a b c : Text) → IsUtf8 c → Covers i least f a b → least ≤ 2 → is_one_of op assignment_operators ≡ true → Sign op b c → (o : Option Term) → assigned_in op f ≡ o → Each (λ g d. Covers i least g a d) (assigned_by sub i op o c)
  assigned_from i least f op a b c u fits low is tok None h = each_none
  assigned_from i least f op a b c u fits low is tok (Some t) h = let x = assigned_is op f t fits h in
      each_bind _ (part_each sub good 2 i c u) (λ e d v y. each_some _ _ v (assignment_covers low is x.simple x.target tok y.stands))

  assignment_each : (i : Bool) (least : ℕ) (f : Found) (a b : Text) → IsUtf8 b → Covers i least f a b → (o : Option Lexeme) → lexeme b ≡ o → is_assignment o ≡ true → Going i least f.level o (same_line b) →
      Each (λ g d. Covers i least g a d) (assigned_by sub i (operator_text o) (assigned_in (operator_text o) f) (after b))
  assignment_each i least f a b u fits (Some (sign s)) is h g = let t = there b u _ is in
      assigned_from i least f s a b (after b) t.utf8 fits (subst (λ (m : ℕ). least ≤ m) (assignment_gives f.level s h) g.low) h t.token (assigned_in s f) refl
  assignment_each i least f a b u fits None is h g = absurd (cc)
  assignment_each i least f a b u fits (Some (word x)) is h g = absurd (cc)
  assignment_each i least f a b u fits (Some (private_name x)) is h g = absurd (cc)
  assignment_each i least f a b u fits (Some (number x)) is h g = absurd (cc)
  assignment_each i least f a b u fits (Some (big_integer x)) is h g = absurd (cc)
  assignment_each i least f a b u fits (Some (string x v)) is h g = absurd (cc)
  assignment_each i least f a b u fits (Some (regexp x v)) is h g = absurd (cc)
  assignment_each i least f a b u fits (Some (no_substitution x)) is h g = absurd (cc)
  assignment_each i least f a b u fits (Some (template_head x)) is h g = absurd (cc)
  assignment_each i least f a b u fits (Some (template_middle x)) is h g = absurd (cc)
  assignment_each i least f a b u fits (Some (template_tail x)) is h g = absurd (cc)

  extended_each : (i : Bool) (least : ℕ) (f : Found) (a b : Text) → IsUtf8 b → Covers i least f a b → goes_on i least f b ≡ true → Each (λ g d. Covers i least g a d) (extended sub i f b)
  unfolding extended goes_on
  extended_each i least f a b u fits on =
      let g = going i least f.level (lexeme b) (same_line b) on in
      each_if (is_assignment (lexeme b)) _ _ (λ h. assignment_each i least f a b u fits (lexeme b) refl h g)
      (λ _. each_if f.cover _ _ (λ _. each_none) (λ whole. extended_from i least f a b u (fits.stands whole) (lexeme b) refl g))

  climb_each : (i : Bool) (least n : ℕ) (f : Found) (a b : Text) → IsUtf8 b → Covers i least f a b → Each (λ g d. Covers i least g a d) (climb sub i least n f b)
  unfolding climb
  climb_each i least zero f a b u fits = each_some _ _ u fits
  climb_each i least (suc n) f a b u fits = each_if (goes_on i least f b) _ _
      (λ on. each_bind _ (extended_each i least f a b u fits on) (λ f' b' v fits'. climb_each i least n f' a b' v fits'))
      (λ _. each_some _ _ u fits)

  higher : {i : Bool} {least : ℕ} {f : Found} {a b : Text} → nat_le least f.level ≡ true → Covers i 0 f a b → Covers i least f a b
  higher h c = record { stands = c.stands; target = c.target; element = c.element; high = leb-true _ _ h; solid = c.solid }

  pub level_each : (i : Bool) (least : ℕ) (a : Text) → IsUtf8 a → Each (λ f b. Covers i least f a b) (at_level sub i least a)
  unfolding at_level
  level_each i least a u = each_bind _ (prefix_each sub good i least a u) (λ f b v fits. each_if (nat_le least f.level) _ _ (λ h. climb_each i least (length b) f a b v (higher h fits)) (λ _. each_none))

  high_callee : {i : Bool} {f : Found} {a b : Text} → Covers i 20 f a b → Callees i f a b
  high_callee {f = f} c = record { stands = λ h k. c.stands h; bare = λ h k. absurd (let high = le-leb 20 f.level c.high in cc) }

  bare_callee : {i : Bool} {f : Found} {a b : Text} → Covers i 0 f a b → nat_le 20 f.level ≡ false → is_bare_new f.tree ≡ true → Callees i f a b
  bare_callee c low is = record { stands = λ h k. absurd (cc); bare = λ h k. bare_of (c.stands h) is low }

  pub callee_each : (i : Bool) (a : Text) → IsUtf8 a → Each (λ f b. Callees i f a b) (callee sub i a)
  unfolding callee
  callee_each i a u = each_bind _ (prefix_each sub good i 20 a u) (λ f b v fits. each_if (nat_le 20 f.level) _ _
      (λ h. each_weaker (climb_each i 20 (length b) f a b v (higher h fits)) (λ g c x. high_callee x))
      (λ low. each_if (is_bare_new f.tree) _ _ (λ is. each_some f b v (bare_callee fits low is)) (λ _. each_none)))
