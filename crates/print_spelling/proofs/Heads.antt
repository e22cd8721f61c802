-- The heads of `for`, and `switch` (ECMAScript 14.7.4, 14.7.5, 14.12).
use Rattle.std.proofs.Common.{◌≡◌, refl, sym, ap, ◌∙◌, subst, ℕ, suc, List, [], ◌∷◌, ◌++◌, Bool, true, false, not, cond, ◌||◌, inl, inr, ◌⊎◌, arith}
use Rattle.std.specs.Prelude.{codes, nat_le, nat_eq}
use Rattle.std.proofs.lemmas.Bool.{and_parts, not-true, eqb-true}
use Rattle.js_term.specs.Term.{Text, Term, absent, list, node, Terms, none, more, one, two, all, flag}
use Rattle.js_term.specs.declared.kind.Kind.{Kind}
use Rattle.js_term.specs.Lexeme.{is_one_of}
use Rattle.js_syntax.specs.Parts.{is_present, count, count_if}
use Rattle.js_syntax.specs.Nodes.{marked, variables_of}
use Rattle.js_syntax.specs.Sorts as sorts
use Rattle.js_syntax.specs.Sorts.{Place, is_expression, takes, is_target}
use Rattle.js_syntax.specs.Printable.{has_shape, is_named, is_default}
use Rattle.js_syntax.specs.Spelling.{Statement, for_statement, for_in, for_of_statement, for_await, ForInit, no_init, init_variables, init_expression, Perhaps, perhaps_not, perhaps, ForLeft, left_variable, left_target, switch_statement, Cases, no_cases, next_case, default_case, no_statements}
use Rattle.print_layout.specs.Rows.{blank}
use Rattle.print_layout.specs.Needs.{never, needs, inside, is_held}
use Rattle.print_layout.specs.Layout.{put, wrapped, each_wrapped}
use Rattle.print_spelling.proofs.Tokens.{differ, Lead, flush, spaced, led, word_at, left_parenthesis, right_parenthesis, left_brace, right_brace, semicolon_at, colon_at}
use Rattle.print_spelling.proofs.Spread.{to, each_to, separated_to}
use Rattle.print_spelling.proofs.Fits.{Fit, fit_of, taken_by, list_shape, each_shaped}
use Rattle.print_spelling.proofs.Shapes.{kind_is, only}
use Rattle.print_spelling.proofs.Claims.{bare, bare_to, Claim, Each, Kids, Mode, off, Rule, Meaning}
use Rattle.print_spelling.proofs.Claims as claims
use Rattle.print_spelling.proofs.Placed.{in_place, in_place_node, expression_meaning, at}
use Rattle.print_spelling.proofs.Assignments.{target_by}
use Rattle.print_spelling.proofs.Functions.{by_flag}
use Rattle.print_spelling.proofs.Patterns.{pattern_at}
use Rattle.print_spelling.proofs.Bodies.{embedded_at, statements_at}
use Rattle.print_spelling.proofs.Statements.{declaring, declaring_at, Declared, declared_list, plain_declares, plain_declared, Declares, variables_with, variables_rule}

-- ---- for (init; test; update)

-- behind an absent part the blank before it is left
abbrev past_part : Term → Lead
past_part absent = spaced
past_part t = flush

test_at : (t : Term) → has_shape (Place.optional sorts.Sort.expression) t ≡ true → Claim off t → (rest : Text) → Perhaps (wrapped true never t) (32 ∷ to true never t (59 ∷ rest)) (led (past_part t) (59 ∷ rest))
test_at absent h k rest = perhaps_not
test_at (list ts) h k rest = differ (sym h)
test_at (node j xs us) h k rest = let p = in_place true never (node j xs us) h k in perhaps (p.expr.expression spaced refl)

update_at : (t : Term) → has_shape (Place.optional sorts.Sort.expression) t ≡ true → Claim off t → (rest : Text) → Perhaps (wrapped true never t) (32 ∷ to true never t (41 ∷ rest)) (led (past_part t) (41 ∷ rest))
update_at absent h k rest = perhaps_not
update_at (list ts) h k rest = differ (sym h)
update_at (node j xs us) h k rest = let p = in_place true never (node j xs us) h k in perhaps (p.expr.expression spaced refl)

init_kind : (k : Kind) → takes sorts.Sort.for_init k ≡ true → (k ≡ Kind.VariableDeclaration) ⊎ (is_expression k ≡ true)
init_kind Kind.VariableDeclaration h = inl refl
init_kind k h = inr h

init_list : (t : Term) → Declared (sorts.Sort.only Kind.VariableDeclarator) t → Claim off t → (x : Text) → is_one_of x declaring ≡ true → (rest : Text) → ForInit (wrapped false never (marked Kind.VariableDeclaration x (one t))) (to false never (marked Kind.VariableDeclaration x (one t)) (59 ∷ rest)) (59 ∷ rest)
init_list u (declared_list t ts h) c x o rest = init_variables (variables_with (sorts.Sort.only Kind.VariableDeclarator) plain_declares false x t ts o h c flush (59 ∷ rest) refl)

init_with : (xs : List Text) (ts : Terms) → Fit (Place.some (sorts.Sort.only Kind.VariableDeclarator) ∷ []) Kind.VariableDeclaration xs ts → Kids (λ n. off) 0 ts → (rest : Text) → ForInit (wrapped false never (node Kind.VariableDeclaration xs ts)) (to false never (node Kind.VariableDeclaration xs ts) (59 ∷ rest)) (59 ∷ rest)
init_with (x ∷ []) (more t none) f c rest = init_list t (plain_declared t f.placed.0) c.0 x f.spoken.0 rest
init_with xs ts f c rest = differ (sym f.counted)

init_at : (t : Term) → has_shape (Place.optional sorts.Sort.for_init) t ≡ true → Claim off t → (rest : Text) → ForInit (wrapped false never t) (to false never t (59 ∷ rest)) (59 ∷ rest)
init_at absent h k rest = no_init
init_at (list ts) h k rest = differ (sym h)
init_at (node j xs us) h k rest = elim (init_kind j (taken_by sorts.Sort.for_init j xs us h).taken) as (λ z. ForInit (wrapped false never (node j xs us)) (to false never (node j xs us) (59 ∷ rest)) (59 ∷ rest)) [
  | inl e ↦ subst (λ i. has_shape (Place.one sorts.Sort.for_init) (node i xs us) ≡ true → Claim off (node i xs us) → ForInit (wrapped false never (node i xs us)) (to false never (node i xs us) (59 ∷ rest)) (59 ∷ rest)) (sym e) (λ h k. init_with xs us (fit_of sorts.Sort.for_init Kind.VariableDeclaration xs us refl h).1 k.1 rest) h k
  | inr x ↦ let p = in_place_node false never j xs us (expression_meaning off j (node j xs us) x k.0) in init_expression (p.expr.expression flush refl)
]

pub for_rule : Rule Kind.ForStatement
for_rule m [] (more a (more b (more d (more s none)))) f c g rest =
    for_statement (word_at g (codes "for") refl refl refl) (left_parenthesis spaced) (init_at a f.placed.0 c.0 _) (semicolon_at flush) (test_at b f.placed.1.0 c.1.0 _) (semicolon_at (past_part b)) (update_at d f.placed.1.1.0 c.1.1.0 _) (right_parenthesis (past_part d)) (embedded_at s f.placed.1.1.1.0 c.1.1.1.0 spaced rest)
for_rule m texts ts f c g rest = differ (sym f.counted)

-- ---- for (left in right), for (left of right)

left_kind : (k : Kind) → takes sorts.Sort.for_left k ≡ true → (k ≡ Kind.VariableDeclaration) ⊎ (is_target k ≡ true)
left_kind Kind.VariableDeclaration h = inl refl
left_kind k h = inr h

-- the declaration of one pattern, before a blank
left_declarator : (x : Text) → is_one_of x declaring ≡ true → (xs : List Text) (ts : Terms) → Fit (Place.one sorts.Sort.pattern ∷ Place.nothing ∷ []) Kind.VariableDeclarator xs ts → Kids (λ n. off) 0 ts → (rest : Text) → ForLeft (variables_of x (wrapped false never (node Kind.VariableDeclarator xs ts) ∷ [])) (x ++ 32 ∷ to false never (node Kind.VariableDeclarator xs ts) (32 ∷ rest)) (32 ∷ rest)
left_declarator x o [] (more p (more absent none)) f c rest = left_variable o (declaring_at x o flush _) (pattern_at p f.placed.0 c.0 spaced (32 ∷ rest) refl)
left_declarator x o [] (more p (more (list us) none)) f c rest = differ (sym f.placed.1.0)
left_declarator x o [] (more p (more (node k ys us) none)) f c rest = differ (sym f.placed.1.0)
left_declarator x o xs ts f c rest = differ (sym f.counted)

left_single : (x : Text) → is_one_of x declaring ≡ true → (d : Term) → has_shape (Place.one sorts.Sort.for_declarator) d ≡ true → Claim off d → (rest : Text) → ForLeft (variables_of x (wrapped false never d ∷ [])) (x ++ 32 ∷ to false never d (32 ∷ rest)) (32 ∷ rest)
left_single x o absent h c rest = differ (sym h)
left_single x o (list ts) h c rest = differ (sym h)
left_single x o (node k xs ts) h c rest =
    subst (λ j. has_shape (Place.one sorts.Sort.for_declarator) (node j xs ts) ≡ true → Claim off (node j xs ts) → ForLeft (variables_of x (wrapped false never (node j xs ts) ∷ [])) (x ++ 32 ∷ to false never (node j xs ts) (32 ∷ rest)) (32 ∷ rest)) (sym (kind_is k Kind.VariableDeclarator (taken_by sorts.Sort.for_declarator k xs ts h).taken)) (λ h c. left_declarator x o xs ts (fit_of sorts.Sort.for_declarator Kind.VariableDeclarator xs ts refl h).1 c.1 rest) h c

left_with : (xs : List Text) (ts : Terms) → Fit (Place.single sorts.Sort.for_declarator ∷ []) Kind.VariableDeclaration xs ts → Kids (λ n. off) 0 ts → (rest : Text) → ForLeft (wrapped false never (node Kind.VariableDeclaration xs ts)) (to false never (node Kind.VariableDeclaration xs ts) (32 ∷ rest)) (32 ∷ rest)
left_with (x ∷ []) (more (list (more d none)) none) f c rest = left_single x f.spoken.0 d (and_parts (has_shape (Place.one sorts.Sort.for_declarator) d) true (list_shape (Place.single sorts.Sort.for_declarator) (more d none) f.placed.0).1).0 c.0.0 rest
left_with (x ∷ []) (more (list none) none) f c rest = differ (sym (list_shape (Place.single sorts.Sort.for_declarator) none f.placed.0).0)
left_with (x ∷ []) (more (list (more d (more e es))) none) f c rest = too_many (count es) (list_shape (Place.single sorts.Sort.for_declarator) (more d (more e es)) f.placed.0).0
  where
    too_many : {A : Type 0} (n : ℕ) → nat_eq (suc (suc n)) 1 ≡ true → A
    too_many n e = let same : suc (suc n) ≡ 1 = eqb-true (suc (suc n)) 1 e in absurd (omega arith)
left_with (x ∷ []) (more absent none) f c rest = differ (sym f.placed.0)
left_with (x ∷ []) (more (node k ys us) none) f c rest = differ (sym f.placed.0)
left_with xs ts f c rest = differ (sym f.counted)

for_declares : Declares sorts.Sort.for_declarator
for_declares k h = kind_is k Kind.VariableDeclarator h

for_declared : (t : Term) → has_shape (Place.single sorts.Sort.for_declarator) t ≡ true → Declared sorts.Sort.for_declarator t
for_declared absent h = differ (sym h)
for_declared (list none) h = differ (sym (list_shape (Place.single sorts.Sort.for_declarator) none h).0)
for_declared (list (more t ts)) h = declared_list t ts (list_shape (Place.single sorts.Sort.for_declarator) (more t ts) h).1
for_declared (node k xs us) h = differ (sym h)

-- such a declaration is a statement, too
pub left_rule : (m : Mode) (xs : List Text) (ts : Terms) → Fit (Place.single sorts.Sort.for_declarator ∷ []) Kind.VariableDeclaration xs ts → Kids (λ n. off) 0 ts → Meaning m claims.a_statement (node Kind.VariableDeclaration xs ts)
left_rule = variables_rule sorts.Sort.for_declarator for_declares (Place.single sorts.Sort.for_declarator) for_declared

left_at : (t : Term) → has_shape (Place.one sorts.Sort.for_left) t ≡ true → Claim off t → (rest : Text) → ForLeft (wrapped false never t) (to false never t (32 ∷ rest)) (32 ∷ rest)
left_at absent h c rest = differ (sym h)
left_at (list ts) h c rest = differ (sym h)
left_at (node k xs ts) h c rest = elim (left_kind k (taken_by sorts.Sort.for_left k xs ts h).taken) as (λ z. ForLeft (wrapped false never (node k xs ts)) (to false never (node k xs ts) (32 ∷ rest)) (32 ∷ rest)) [
  | inl e ↦ subst (λ j. has_shape (Place.one sorts.Sort.for_left) (node j xs ts) ≡ true → Claim off (node j xs ts) → ForLeft (wrapped false never (node j xs ts)) (to false never (node j xs ts) (32 ∷ rest)) (32 ∷ rest)) (sym e) (λ h c. left_with xs ts (fit_of sorts.Sort.for_left Kind.VariableDeclaration xs ts refl h).1 c.1 rest) h c
  | inr x ↦ left_target ((target_by false k xs ts x c).target flush (32 ∷ rest) refl)
]

pub for_in_rule : Rule Kind.ForInStatement
for_in_rule m [] (more l (more r (more s none))) f c g rest =
    let p = in_place true never r f.placed.1.0 c.1.0 in
    for_in (word_at g (codes "for") refl refl refl) (left_parenthesis spaced) (left_at l f.placed.0 c.0 _) (word_at spaced (codes "in") refl refl refl) (p.expr.expression spaced refl) (right_parenthesis flush) (embedded_at s f.placed.1.1.0 c.1.1.0 spaced rest)
for_in_rule m texts ts f c g rest = differ (sym f.counted)

-- parentheses make no name of another term
named_kept : (x : Text) (t : Term) → is_named x t ≡ false → is_named x (wrapped false never t) ≡ false
named_kept x absent h = refl
named_kept x (list ts) h = refl
named_kept x (node k xs ts) h = by (is_held false never k xs ts)
  where
    by : (b : Bool) → is_named x (put b (bare (false || b) (node k xs ts))) ≡ false
    by true = refl
    by false = h

of_with : (await : Bool) (l r s : Term) → Fit (Place.one sorts.Sort.for_left ∷ Place.one sorts.Sort.expression ∷ Place.one sorts.Sort.body ∷ []) Kind.ForOfStatement (flag await (codes "await") ∷ []) (more l (two r s)) → Kids (λ n. off) 0 (more l (two r s)) → (g : Lead) (rest : Text) → Statement (bare true (node Kind.ForOfStatement (flag await (codes "await") ∷ []) (more l (two r s)))) (led g (bare_to true (node Kind.ForOfStatement (flag await (codes "await") ∷ []) (more l (two r s))) rest)) rest
of_with false l r s f c g rest =
    let p = at 2 refl true r f.placed.1.0 c.1.0 in
    for_of_statement (named_kept (codes "async") l (not-true (is_named (codes "async") l) f.sound)) (word_at g (codes "for") refl refl refl) (left_parenthesis spaced) (left_at l f.placed.0 c.0 _) (word_at spaced (codes "of") refl refl refl) (p.stands spaced refl) (right_parenthesis flush) (embedded_at s f.placed.1.1.0 c.1.1.0 spaced rest)
of_with true l r s f c g rest =
    let p = at 2 refl true r f.placed.1.0 c.1.0 in
    for_await (word_at g (codes "for") refl refl refl) (word_at spaced (codes "await") refl refl refl) (left_parenthesis spaced) (left_at l f.placed.0 c.0 _) (word_at spaced (codes "of") refl refl refl) (p.stands spaced refl) (right_parenthesis flush) (embedded_at s f.placed.1.1.0 c.1.1.0 spaced rest)

pub for_of_rule : Rule Kind.ForOfStatement
for_of_rule m (x ∷ []) (more l (more r (more s none))) f c g rest =
    by_flag (codes "await") (λ z. Fit (Place.one sorts.Sort.for_left ∷ Place.one sorts.Sort.expression ∷ Place.one sorts.Sort.body ∷ []) Kind.ForOfStatement (z ∷ []) (more l (two r s)) → (g : Lead) (rest : Text) → Statement (bare true (node Kind.ForOfStatement (z ∷ []) (more l (two r s)))) (led g (bare_to true (node Kind.ForOfStatement (z ∷ []) (more l (two r s))) rest)) rest) (λ b f. of_with b l r s f c) x f.spoken.0 f g rest
for_of_rule m texts ts f c g rest = differ (sym f.counted)

-- ---- switch

-- a case, and those behind it
case_with : (xs : List Text) (us : Terms) → Fit (Place.optional sorts.Sort.expression ∷ Place.many sorts.Sort.statement ∷ []) Kind.SwitchCase xs us → Kids (λ n. off) 0 us → (cs : List Term) (g : Lead) (a rest : Text) → Cases cs (32 ∷ a) rest → Cases (wrapped true never (node Kind.SwitchCase xs us) ∷ cs) (led g (to true never (node Kind.SwitchCase xs us) (32 ∷ a))) rest
case_with [] (more absent (more (list none) none)) f c cs g a rest k = default_case (word_at g (codes "default") refl refl refl) (colon_at flush) no_statements k
case_with [] (more absent (more (list (more t ts)) none)) f c cs g a rest k =
    default_case (word_at g (codes "default") refl refl refl) (colon_at flush) (statements_at t ts (list_shape (Place.many sorts.Sort.statement) (more t ts) f.placed.1.0).1 c.1.0 spaced (32 ∷ a)) k
case_with [] (more (node j ys vs) (more (list none) none)) f c cs g a rest k =
    let p = in_place true never (node j ys vs) f.placed.0 c.0 in
    next_case (word_at g (codes "case") refl refl refl) (p.expr.expression spaced refl) (colon_at flush) no_statements k
case_with [] (more (node j ys vs) (more (list (more t ts)) none)) f c cs g a rest k =
    let p = in_place true never (node j ys vs) f.placed.0 c.0 in
    next_case (word_at g (codes "case") refl refl refl) (p.expr.expression spaced refl) (colon_at flush) (statements_at t ts (list_shape (Place.many sorts.Sort.statement) (more t ts) f.placed.1.0).1 c.1.0 spaced (32 ∷ a)) k
case_with [] (more (list vs) (more t none)) f c cs g a rest k = differ (sym f.placed.0)
case_with [] (more absent (more absent none)) f c cs g a rest k = differ (sym f.placed.1.0)
case_with [] (more absent (more (node i zs ws) none)) f c cs g a rest k = differ (sym f.placed.1.0)
case_with [] (more (node j ys vs) (more absent none)) f c cs g a rest k = differ (sym f.placed.1.0)
case_with [] (more (node j ys vs) (more (node i zs ws) none)) f c cs g a rest k = differ (sym f.placed.1.0)
case_with xs us f c cs g a rest k = differ (sym f.counted)

-- the cases of a block, before its closing brace
cases_at : (t : Term) (ts : Terms) → each_shaped (Place.one (sorts.Sort.only Kind.SwitchCase)) (more t ts) ≡ true → Each off (more t ts) → (rest : Text) → Cases (each_wrapped true never (more t ts)) (32 ∷ separated_to blank (each_to true never (more t ts)) (32 ∷ 125 ∷ rest)) (32 ∷ 125 ∷ rest)
cases_at t none h c rest =
    only Kind.SwitchCase (λ z. Claim off z → Cases (wrapped true never z ∷ []) (32 ∷ to true never z (32 ∷ 125 ∷ rest)) (32 ∷ 125 ∷ rest)) (λ xs us h c. case_with xs us (fit_of (sorts.Sort.only Kind.SwitchCase) Kind.SwitchCase xs us refl h).1 c.1 [] spaced (125 ∷ rest) (32 ∷ 125 ∷ rest) no_cases) t (and_parts (has_shape (Place.one (sorts.Sort.only Kind.SwitchCase)) t) true h).0 c.0
cases_at t (more u us) h c rest =
    let both = and_parts (has_shape (Place.one (sorts.Sort.only Kind.SwitchCase)) t) (each_shaped (Place.one (sorts.Sort.only Kind.SwitchCase)) (more u us)) h in
    let tail = cases_at u us both.1 c.1 rest in
    only Kind.SwitchCase (λ z. Claim off z → Cases (wrapped true never z ∷ each_wrapped true never (more u us)) (32 ∷ to true never z (32 ∷ separated_to blank (each_to true never (more u us)) (32 ∷ 125 ∷ rest))) (32 ∷ 125 ∷ rest)) (λ xs vs h c. case_with xs vs (fit_of (sorts.Sort.only Kind.SwitchCase) Kind.SwitchCase xs vs refl h).1 c.1 (each_wrapped true never (more u us)) spaced (separated_to blank (each_to true never (more u us)) (32 ∷ 125 ∷ rest)) (32 ∷ 125 ∷ rest) tail) t both.0 c.0

-- parentheses make no case a default one
default_kept : (t : Term) → is_default (wrapped true never t) ≡ is_default t
default_kept absent = refl
default_kept (list none) = refl
default_kept (list (more absent ts)) = refl
default_kept (list (more (list us) ts)) = refl
default_kept (list (more (node k xs us) ts)) = refl
default_kept (node k xs none) = refl
default_kept (node k xs (more absent ts)) = refl
default_kept (node k xs (more (list us) ts)) = refl
default_kept (node k xs (more (node j ys us) ts)) = by (is_held (inside true k 0) (needs k xs 0) j ys us)
  where
    by : (b : Bool) → not (is_present (put b (bare (inside true k 0 || b) (node j ys us)))) ≡ false
    by true = refl
    by false = refl

defaults_kept : (ts : Terms) → count_if is_default (all (each_wrapped true never ts)) ≡ count_if is_default ts
defaults_kept none = refl
defaults_kept (more t ts) = ap (λ b. cond b (suc (count_if is_default (all (each_wrapped true never ts)))) (count_if is_default (all (each_wrapped true never ts)))) (default_kept t) ∙ ap (λ n. cond (is_default t) (suc n) n) (defaults_kept ts)

pub switch_rule : Rule Kind.SwitchStatement
switch_rule m [] (more e (more (list none) none)) f c g rest =
    let p = in_place true never e f.placed.0 c.0 in
    switch_statement {cs = []} refl (word_at g (codes "switch") refl refl refl) (left_parenthesis spaced) (p.expr.expression flush refl) (right_parenthesis flush) (left_brace spaced) no_cases (right_brace flush)
switch_rule m [] (more e (more (list (more t ts)) none)) f c g rest =
    let p = in_place true never e f.placed.0 c.0 in
    switch_statement {cs = each_wrapped true never (more t ts)} (ap (λ n. nat_le n 1) (defaults_kept (more t ts)) ∙ f.sound) (word_at g (codes "switch") refl refl refl) (left_parenthesis spaced) (p.expr.expression flush refl) (right_parenthesis flush) (left_brace spaced) (cases_at t ts (list_shape (Place.many (sorts.Sort.only Kind.SwitchCase)) (more t ts) f.placed.1.0).1 c.1.0 rest) (right_brace spaced)
switch_rule m [] (more e (more absent none)) f c g rest = differ (sym f.placed.1.0)
switch_rule m [] (more e (more (node k xs us) none)) f c g rest = differ (sym f.placed.1.0)
switch_rule m texts ts f c g rest = differ (sym f.counted)
