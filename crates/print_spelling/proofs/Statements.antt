-- Statements (ECMAScript 14).
use Rattle.std.proofs.Common.{◌≡◌, refl, sym, ◌∙◌, subst, List, [], ◌∷◌, ◌++◌, Bool, true, false, not, ◌&&◌, ◌||◌}
use Rattle.std.specs.Prelude.{codes}
use Rattle.std.proofs.lemmas.Bool.{and_parts, not-true}
use Rattle.js_term.specs.Term.{Text, Term, absent, list, node, Terms, none, more, one}
use Rattle.js_term.specs.declared.kind.Kind.{Kind}
use Rattle.js_term.specs.Lexeme.{is_one_of}
use Rattle.js_syntax.specs.Lexical.{begins_gap, is_name}
use Rattle.js_syntax.specs.Tokens.{Word}
use Rattle.js_syntax.specs.Texts.{is_free_name}
use Rattle.js_syntax.specs.Nodes.{label_of, marked, of_part, of_parts}
use Rattle.js_syntax.specs.Sorts as sorts
use Rattle.js_syntax.specs.Sorts.{Place}
use Rattle.js_syntax.specs.Printable.{has_shape, ends_open}
use Rattle.js_syntax.specs.Spelling.{Statement, Declaration, empty_statement, expression_statement, if_statement, if_else, do_while, do_written, while_statement, continue_statement, break_statement, bare_return, return_statement, labeled, throw_statement, try_statement, debugger, declaration, variables, declarators, Variables, Label, no_label, a_label, Handler, no_handler, bare_handler, handler, no_finalizer, finalizer, written, Item, declarator, a_declarator}
use Rattle.print_layout.specs.Rows.{comma}
use Rattle.print_layout.specs.Needs.{never, needs, leads, is_opener}
use Rattle.print_layout.specs.Layout.{wrapped, wrapped_kids, each_wrapped}
use Rattle.js_syntax.specs.Edges.{has_kind, is_string_kind}
use Rattle.print_spelling.proofs.Tokens.{differ, or_false, among, Lead, flush, spaced, led, word_at, name_at, left_parenthesis, right_parenthesis, semicolon_at, colon_at, same_line, opening_gap}
use Rattle.print_spelling.proofs.Openings.{name_opening}
use Rattle.print_spelling.proofs.Spread.{to, each_to, separated_to}
use Rattle.print_spelling.proofs.Fits.{Fit, fit_of, taken_by, list_shape, each_shaped}
use Rattle.print_spelling.proofs.Shapes.{kind_is, only, leaf}
use Rattle.print_spelling.proofs.Claims.{bare, bare_to, ends, spaced_line, Claim, Each, Kids, Mode, off, Rule, Meaning, a_declarator}
use Rattle.print_spelling.proofs.Claims as claims
use Rattle.print_spelling.proofs.Placed.{in_place}
use Rattle.print_spelling.proofs.Leaves.{free_parts}
use Rattle.print_spelling.proofs.Lists.{ItemAt, one_whole, whole_list}
use Rattle.print_spelling.proofs.Fronts.{is_item, opens_statement}
use Rattle.print_spelling.proofs.Patterns.{pattern_at, declarator_with}
use Rattle.print_spelling.proofs.Bodies.{embedded_at, block_at}

pub item_shape : (s : sorts.Sort) (t : Term) → has_shape (Place.one s) t ≡ true → is_item t ≡ true
item_shape s absent h = refl
item_shape s (list ts) h = h
item_shape s (node k texts ts) h = refl

pub empty_rule : Rule Kind.EmptyStatement
empty_rule m [] none f c g rest = empty_statement (semicolon_at g)
empty_rule m texts ts f c g rest = differ (sym f.counted)

pub debugger_rule : Rule Kind.DebuggerStatement
debugger_rule m [] none f c g rest = debugger (word_at g (codes "debugger") refl refl refl) (written (semicolon_at flush))
debugger_rule m texts ts f c g rest = differ (sym f.counted)

pub expression_statement_rule : Rule Kind.ExpressionStatement
expression_statement_rule m [] (more t none) f c g rest =
    let need : Term → Bool = needs Kind.ExpressionStatement [] 0 in
    let p = in_place true need t f.placed.0 c.0 in
    expression_statement (opens_statement need t (item_shape sorts.Sort.expression t f.placed.0) (λ z. (or_false (leads is_opener never t) (has_kind is_string_kind t) (or_false (leads is_opener never t || has_kind is_string_kind t) false z).0).0)) (p.expr.expression g refl) (written (semicolon_at flush))
expression_statement_rule m texts ts f c g rest = differ (sym f.counted)

-- ---- `else` belongs to the nearest `if` in the printed text, too

mutual
  open_kept : (t : Term) → ends_open (wrapped true never t) ≡ ends_open t
  open_kept absent = refl
  open_kept (list ts) = refl
  open_kept (node Kind.IfStatement texts ts) = if_kept texts ts
  open_kept (node Kind.LabeledStatement texts none) = refl
  open_kept (node Kind.LabeledStatement texts (more a none)) = refl
  open_kept (node Kind.LabeledStatement texts (more a (more s ts))) = open_kept s
  open_kept (node Kind.WhileStatement texts none) = refl
  open_kept (node Kind.WhileStatement texts (more a none)) = refl
  open_kept (node Kind.WhileStatement texts (more a (more s ts))) = open_kept s
  open_kept (node Kind.ForStatement texts none) = refl
  open_kept (node Kind.ForStatement texts (more a none)) = refl
  open_kept (node Kind.ForStatement texts (more a (more b none))) = refl
  open_kept (node Kind.ForStatement texts (more a (more b (more c none)))) = refl
  open_kept (node Kind.ForStatement texts (more a (more b (more c (more s ts))))) = open_kept s
  open_kept (node Kind.ForInStatement texts none) = refl
  open_kept (node Kind.ForInStatement texts (more a none)) = refl
  open_kept (node Kind.ForInStatement texts (more a (more b none))) = refl
  open_kept (node Kind.ForInStatement texts (more a (more b (more s ts)))) = open_kept s
  open_kept (node Kind.ForOfStatement texts none) = refl
  open_kept (node Kind.ForOfStatement texts (more a none)) = refl
  open_kept (node Kind.ForOfStatement texts (more a (more b none))) = refl
  open_kept (node Kind.ForOfStatement texts (more a (more b (more s ts)))) = open_kept s
  open_kept (node k texts ts) = refl

  if_kept : (texts : List Text) (ts : Terms) → ends_open (node Kind.IfStatement texts (wrapped_kids true Kind.IfStatement texts 0 ts)) ≡ ends_open (node Kind.IfStatement texts ts)
  if_kept texts none = refl
  if_kept texts (more e none) = refl
  if_kept texts (more e (more s none)) = refl
  if_kept texts (more e (more s (more absent ts))) = refl
  if_kept texts (more e (more s (more (list us) ts))) = refl
  if_kept texts (more e (more s (more (node k xs us) ts))) = open_kept (node k xs us)

pub if_rule : Rule Kind.IfStatement
if_rule m [] (more e (more s (more absent none))) f c g rest =
    let p = in_place true never e f.placed.0 c.0 in
    if_statement (word_at g (codes "if") refl refl refl) (left_parenthesis spaced) (p.expr.expression flush refl) (right_parenthesis flush) (embedded_at s f.placed.1.0 c.1.0 spaced rest)
if_rule m [] (more e (more s (more (list us) none))) f c g rest = differ (sym f.placed.1.1.0)
if_rule m [] (more e (more s (more (node k xs us) none))) f c g rest =
    let p = in_place true never e f.placed.0 c.0 in
    if_else (open_kept s ∙ not-true (ends_open s) f.sound) (word_at g (codes "if") refl refl refl) (left_parenthesis spaced) (p.expr.expression flush refl) (right_parenthesis flush) (embedded_at s f.placed.1.0 c.1.0 spaced _) (word_at spaced (codes "else") refl refl refl) (embedded_at (node k xs us) f.placed.1.1.0 c.1.1.0 spaced rest)
if_rule m texts ts f c g rest = differ (sym f.counted)

pub do_rule : Rule Kind.DoWhileStatement
do_rule m [] (more s (more e none)) f c g rest =
    let p = in_place true never e f.placed.1.0 c.1.0 in
    do_while (word_at g (codes "do") refl refl refl) (embedded_at s f.placed.0 c.0 spaced _) (word_at spaced (codes "while") refl refl refl) (left_parenthesis spaced) (p.expr.expression flush refl) (right_parenthesis flush) (do_written (semicolon_at flush))
do_rule m texts ts f c g rest = differ (sym f.counted)

pub while_rule : Rule Kind.WhileStatement
while_rule m [] (more e (more s none)) f c g rest =
    let p = in_place true never e f.placed.0 c.0 in
    while_statement (word_at g (codes "while") refl refl refl) (left_parenthesis spaced) (p.expr.expression flush refl) (right_parenthesis flush) (embedded_at s f.placed.1.0 c.1.0 spaced rest)
while_rule m texts ts f c g rest = differ (sym f.counted)

-- ---- labels

label_line : (x rest : Text) → is_name x ≡ true → begins_gap (x ++ rest) ≡ false
label_line x rest n = opening_gap (x ++ rest) (name_opening x rest n)

pub labeled_rule : Rule Kind.LabeledStatement
labeled_rule m [] (more l (more s none)) f c g rest =
    leaf Kind.LabelIdentifier is_free_name refl refl (λ texts. refl) (λ z. Statement (bare true (of_parts Kind.LabeledStatement z s)) (led g (bare_to true (of_parts Kind.LabeledStatement z s) rest)) rest) (λ x h. let n = free_parts x h in labeled n.1 (name_at g n.0 refl) (colon_at flush) (embedded_at s f.placed.1.0 c.1.0 spaced rest)) l f.placed.0
labeled_rule m texts ts f c g rest = differ (sym f.counted)

label_at : (x : Text) → is_free_name x ≡ true → (rest : Text) → Label (label_of x) (32 ∷ (x ++ 59 ∷ rest)) (59 ∷ rest)
label_at x h rest = let n = free_parts x h in a_label n.1 (same_line spaced (x ++ 59 ∷ rest) refl (label_line x (59 ∷ rest) n.0)) (name_at spaced n.0 refl)

pub break_rule : Rule Kind.BreakStatement
break_rule m [] (more absent none) f c g rest = break_statement (word_at g (codes "break") refl refl refl) no_label (written (semicolon_at flush))
break_rule m [] (more (list us) none) f c g rest = differ (sym f.placed.0)
break_rule m [] (more (node k xs us) none) f c g rest =
    leaf Kind.LabelIdentifier is_free_name refl refl (λ texts. refl) (λ z. Statement (of_part Kind.BreakStatement (wrapped true never z)) (led g (codes "break " ++ to true never z (59 ∷ rest))) rest) (λ x h. break_statement (word_at g (codes "break") refl refl refl) (label_at x h rest) (written (semicolon_at flush))) (node k xs us) f.placed.0
break_rule m texts ts f c g rest = differ (sym f.counted)

pub continue_rule : Rule Kind.ContinueStatement
continue_rule m [] (more absent none) f c g rest = continue_statement (word_at g (codes "continue") refl refl refl) no_label (written (semicolon_at flush))
continue_rule m [] (more (list us) none) f c g rest = differ (sym f.placed.0)
continue_rule m [] (more (node k xs us) none) f c g rest =
    leaf Kind.LabelIdentifier is_free_name refl refl (λ texts. refl) (λ z. Statement (of_part Kind.ContinueStatement (wrapped true never z)) (led g (codes "continue " ++ to true never z (59 ∷ rest))) rest) (λ x h. continue_statement (word_at g (codes "continue") refl refl refl) (label_at x h rest) (written (semicolon_at flush))) (node k xs us) f.placed.0
continue_rule m texts ts f c g rest = differ (sym f.counted)

pub return_rule : Rule Kind.ReturnStatement
return_rule m [] (more absent none) f c g rest = bare_return (word_at g (codes "return") refl refl refl) (written (semicolon_at flush))
return_rule m [] (more (list us) none) f c g rest = differ (sym f.placed.0)
return_rule m [] (more (node k xs us) none) f c g rest =
    let p = in_place true never (node k xs us) f.placed.0 c.0 in
    return_statement (word_at g (codes "return") refl refl refl) (spaced_line p.expr.opens (59 ∷ rest)) (p.expr.expression spaced refl) (written (semicolon_at flush))
return_rule m texts ts f c g rest = differ (sym f.counted)

pub throw_rule : Rule Kind.ThrowStatement
throw_rule m [] (more t none) f c g rest =
    let p = in_place true never t f.placed.0 c.0 in
    throw_statement (word_at g (codes "throw") refl refl refl) (spaced_line p.expr.opens (59 ∷ rest)) (p.expr.expression spaced refl) (written (semicolon_at flush))
throw_rule m texts ts f c g rest = differ (sym f.counted)

-- ---- declarations

pub declarator_rule : (place : Place) → ((e : Term) → has_shape place e ≡ true → has_shape (Place.optional sorts.Sort.expression) e ≡ true) → (texts : List Text) (ts : Terms) → Fit (Place.one sorts.Sort.pattern ∷ place ∷ []) Kind.VariableDeclarator texts ts → Kids (λ n. off) 0 ts → Meaning off a_declarator (node Kind.VariableDeclarator texts ts)
declarator_rule place into [] (more p (more e none)) f c i g rest s = declarator_with p e f.placed.0 (into e f.placed.1.0) c.0 c.1.0 i g rest s
declarator_rule place into texts ts f c i g rest s = differ (sym f.counted)

-- a sort that takes declarators alone
abbrev pub Declares : sorts.Sort → Type 0
Declares s = (k : Kind) → sorts.takes s k ≡ true → k ≡ Kind.VariableDeclarator

pub plain_declares : Declares (sorts.Sort.only Kind.VariableDeclarator)
plain_declares k h = kind_is k Kind.VariableDeclarator h

declarator_item : (s : sorts.Sort) → Declares s → (i : Bool) (t : Term) → has_shape (Place.one s) t ≡ true → Claim off t → ItemAt (declarator i) i never t
declarator_item s d i absent h c g rest e = differ (sym h)
declarator_item s d i (list ts) h c g rest e = differ (sym h)
declarator_item s d i (node k texts ts) h c g rest e =
    subst (λ j. Claim off (node j texts ts) → Item (declarator i) (wrapped i never (node j texts ts)) (led g (to i never (node j texts ts) rest)) rest) (sym (d k (taken_by s k texts ts h).taken)) (by i) c
  where
    by : (j : Bool) → Claim off (node Kind.VariableDeclarator texts ts) → Item (declarator j) (wrapped j never (node Kind.VariableDeclarator texts ts)) (led g (to j never (node Kind.VariableDeclarator texts ts) rest)) rest
    by true c = c.0 true g rest e
    by false c = c.0 false g rest e

abbrev pub declaring : List Text
declaring = codes "var" ∷ codes "let" ∷ codes "const" ∷ []

pub declaring_at : (x : Text) → is_one_of x declaring ≡ true → (g : Lead) (a : Text) → Word x (led g (x ++ 32 ∷ a)) (32 ∷ a)
declaring_at x o g a = let js = and_parts (not (begins_gap (x ++ 32 ∷ a))) _ (among (λ z. not (begins_gap (z ++ 32 ∷ a)) && is_name z) declaring x refl o) in word_at g x (not-true _ js.0) js.1 refl

pub variables_with : (s : sorts.Sort) → Declares s → (i : Bool) (x : Text) (t : Term) (ts : Terms) → is_one_of x declaring ≡ true → each_shaped (Place.one s) (more t ts) ≡ true → Each off (more t ts) → (g : Lead) (rest : Text) → ends rest false ≡ true → Variables i x (each_wrapped i never (more t ts)) (led g (x ++ 32 ∷ separated_to comma (each_to i never (more t ts)) rest)) rest
variables_with s d i x t ts o h c g rest e = declarators o (declaring_at x o g _) (whole_list (declarator i) (Place.one s) (one_whole s) off i never (declarator_item s d i) t ts h c spaced rest e)

-- a list of one declarator or more
pub data Declared (s : sorts.Sort) : Term → Type 0 where
  declared_list : (t : Term) (ts : Terms) → each_shaped (Place.one s) (more t ts) ≡ true → Declared s (list (more t ts))

pub plain_declared : (t : Term) → has_shape (Place.some (sorts.Sort.only Kind.VariableDeclarator)) t ≡ true → Declared (sorts.Sort.only Kind.VariableDeclarator) t
plain_declared absent h = differ (sym h)
plain_declared (list none) h = differ (sym (list_shape (Place.some (sorts.Sort.only Kind.VariableDeclarator)) none h).0)
plain_declared (list (more t ts)) h = declared_list t ts (list_shape (Place.some (sorts.Sort.only Kind.VariableDeclarator)) (more t ts) h).1
plain_declared (node k xs us) h = differ (sym h)

variables_at : (s : sorts.Sort) → Declares s → (t : Term) → Declared s t → Claim off t → (x : Text) → is_one_of x declaring ≡ true → (g : Lead) (rest : Text) → Declaration (bare true (marked Kind.VariableDeclaration x (one t))) (led g (bare_to true (marked Kind.VariableDeclaration x (one t)) rest)) rest
variables_at s d u (declared_list t ts h) c x o g rest = variables (variables_with s d true x t ts o h c g (59 ∷ rest) refl) (written (semicolon_at flush))

pub variables_declared : (s : sorts.Sort) → Declares s → (place : Place) → ((t : Term) → has_shape place t ≡ true → Declared s t) → (texts : List Text) (ts : Terms) → Fit (place ∷ []) Kind.VariableDeclaration texts ts → Kids (λ n. off) 0 ts → (g : Lead) (rest : Text) → Declaration (bare true (node Kind.VariableDeclaration texts ts)) (led g (bare_to true (node Kind.VariableDeclaration texts ts) rest)) rest
variables_declared s d place into (x ∷ []) (more t none) f c g rest = variables_at s d t (into t f.placed.0) c.0 x f.spoken.0 g rest
variables_declared s d place into texts ts f c g rest = differ (sym f.counted)

pub variables_rule : (s : sorts.Sort) → Declares s → (place : Place) → ((t : Term) → has_shape place t ≡ true → Declared s t) → (m : Mode) (texts : List Text) (ts : Terms) → Fit (place ∷ []) Kind.VariableDeclaration texts ts → Kids (λ n. off) 0 ts → Meaning m claims.a_statement (node Kind.VariableDeclaration texts ts)
variables_rule s d place into m texts ts f c g rest = declaration (variables_declared s d place into texts ts f c g rest)

-- ---- try (14.15)

pub handler_rule : Rule Kind.CatchClause
handler_rule m [] (more absent (more s none)) f c g rest = bare_handler (word_at g (codes "catch") refl refl refl) (block_at s f.placed.1.0 c.1.0 spaced rest)
handler_rule m [] (more (list us) (more s none)) f c g rest = differ (sym f.placed.0)
handler_rule m [] (more (node k xs us) (more s none)) f c g rest =
    only Kind.CatchParameter (λ z. Claim off z → Handler (of_parts Kind.CatchClause (wrapped true never z) (wrapped true never s)) (led g (codes "catch (" ++ to true never z (41 ∷ 32 ∷ to true never s rest))) rest) (λ ys vs h c. by ys vs (fit_of (sorts.Sort.only Kind.CatchParameter) Kind.CatchParameter ys vs refl h).1 c.1) (node k xs us) f.placed.0 c.0
  where
    by : (ys : List Text) (vs : Terms) → Fit (Place.one sorts.Sort.pattern ∷ []) Kind.CatchParameter ys vs → Kids (λ n. off) 0 vs → Handler (of_parts Kind.CatchClause (wrapped true never (node Kind.CatchParameter ys vs)) (wrapped true never s)) (led g (codes "catch (" ++ to true never (node Kind.CatchParameter ys vs) (41 ∷ 32 ∷ to true never s rest))) rest
    by [] (more p none) h d = handler (word_at g (codes "catch") refl refl refl) (left_parenthesis spaced) (pattern_at p h.placed.0 d.0 flush _ refl) (right_parenthesis flush) (block_at s f.placed.1.0 c.1.0 spaced rest)
    by ys vs h d = differ (sym h.counted)
handler_rule m texts ts f c g rest = differ (sym f.counted)

handler_at : (t : Term) → has_shape (Place.one (sorts.Sort.only Kind.CatchClause)) t ≡ true → Claim off t → (g : Lead) (rest : Text) → Handler (wrapped true never t) (led g (to true never t rest)) rest
handler_at t h c = only Kind.CatchClause (λ z. Claim off z → (g : Lead) (rest : Text) → Handler (wrapped true never z) (led g (to true never z rest)) rest) (λ xs ts h c. c.0) t h c

pub try_rule : Rule Kind.TryStatement
try_rule m [] (more s (more absent (more absent none))) f c g rest = differ (sym f.sound)
try_rule m [] (more s (more (node k xs us) (more absent none))) f c g rest =
    try_statement refl (word_at g (codes "try") refl refl refl) (block_at s f.placed.0 c.0 spaced _) (handler_at (node k xs us) f.placed.1.0 c.1.0 spaced rest) no_finalizer
try_rule m [] (more s (more absent (more (node k xs us) none))) f c g rest =
    try_statement refl (word_at g (codes "try") refl refl refl) (block_at s f.placed.0 c.0 spaced _) no_handler (finalizer (word_at spaced (codes "finally") refl refl refl) (block_at (node k xs us) f.placed.1.1.0 c.1.1.0 spaced rest))
try_rule m [] (more s (more (node k xs us) (more (node j ys vs) none))) f c g rest =
    try_statement refl (word_at g (codes "try") refl refl refl) (block_at s f.placed.0 c.0 spaced _) (handler_at (node k xs us) f.placed.1.0 c.1.0 spaced _) (finalizer (word_at spaced (codes "finally") refl refl refl) (block_at (node j ys vs) f.placed.1.1.0 c.1.1.0 spaced rest))
try_rule m [] (more s (more (list us) (more t none))) f c g rest = differ (sym f.placed.1.0)
try_rule m [] (more s (more absent (more (list us) none))) f c g rest = differ (sym f.placed.1.1.0)
try_rule m [] (more s (more (node k xs us) (more (list vs) none))) f c g rest = differ (sym f.placed.1.1.0)
try_rule m texts ts f c g rest = differ (sym f.counted)
