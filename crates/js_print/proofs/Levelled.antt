-- How tightly each variant binds.
use Rattle.std.proofs.Common.{◌≡◌, refl, ◌∙◌, ap, ℕ, ◌≤◌, Bool, true, false, nat_lt, nat_eq, cond, not, ◌&&◌, ◌||◌, arith, List, [], ◌∷◌}
use Rattle.std.proofs.lemmas.Bool.{le-ltb}
use Rattle.std.specs.Prelude.{codes, option_map}
use Rattle.js_term.specs.Term.{Text, Term, node, Terms, more, two, maybe, flag}
use Rattle.js_term.specs.declared.kind.Kind.TheVariants as Kind
use Rattle.js_term.specs.Spells.{level, is_string_literal}
use Rattle.small_tree.specs.TermOf.{expression_term, statement_term, binding_term, parameters_term, body_term, function_word}
use Rattle.small_tree.proofs.Levels.{e_BooleanLiteral, e_NumericLiteral, e_StringLiteral, e_Identifier, e_ArrayExpression, e_AwaitExpression, e_CallExpression, e_FunctionExpression, e_ObjectExpression, e_ParenthesizedExpression, e_SequenceExpression, e_StaticMemberExpression, function_parts}
use Rattle.small_tree.specs.declared.expression.Expression.{Expression}
use Rattle.small_tree.specs.declared.expression.Expression.TheVariants as expression
use Rattle.small_tree.specs.declared.expression.BooleanLiteral.{BooleanLiteral}
use Rattle.small_tree.specs.declared.expression.NumericLiteral.{NumericLiteral}
use Rattle.small_tree.specs.declared.expression.StringLiteral.{StringLiteral}
use Rattle.small_tree.specs.declared.id.IdentifierReference.{IdentifierReference}
use Rattle.small_tree.specs.declared.expression.ArrayExpression.{ArrayExpression}
use Rattle.small_tree.specs.declared.expression.AwaitExpression.{AwaitExpression}
use Rattle.small_tree.specs.declared.expression.CallExpression.{CallExpression}
use Rattle.small_tree.specs.declared.expression.ObjectExpression.{ObjectExpression}
use Rattle.small_tree.specs.declared.expression.ParenthesizedExpression.{ParenthesizedExpression}
use Rattle.small_tree.specs.declared.expression.SequenceExpression.{SequenceExpression}
use Rattle.small_tree.specs.declared.expression.StaticMemberExpression.{StaticMemberExpression}
use Rattle.small_tree.specs.declared.function.Function.{Function}
use Rattle.small_tree.specs.declared.function.FunctionKind.{FunctionKind}
use Rattle.small_tree.specs.declared.function.FunctionKind.TheVariants as function_kind
use Rattle.js_print.specs.Layout.{is_looser, is_number, leads, in_parentheses, wrapped, held, needs}
use Rattle.js_print.proofs.Rows.{held_expression}

below : (n m : ℕ) → m ≤ 19 → 19 ≤ n → nat_lt n m ≡ false
below n m h g = let k : m ≤ n = omega arith in le-ltb n m k

pub l_Sequence : (n : SequenceExpression Expression) (m : ℕ) → is_looser m (wrapped (expression_term (expression.SequenceExpression n))) ≡ nat_lt 1 m
l_Sequence n m = rw (e_SequenceExpression n) refl

pub l_Await : (n : AwaitExpression Expression) (m : ℕ) → is_looser m (wrapped (expression_term (expression.AwaitExpression n))) ≡ nat_lt 16 m
l_Await n m = rw (e_AwaitExpression n) refl

pub l_Boolean : (n : BooleanLiteral) (m : ℕ) → m ≤ 19 → is_looser m (wrapped (expression_term (expression.BooleanLiteral n))) ≡ false
l_Boolean n m h = rw (e_BooleanLiteral n) (below 21 m h (omega arith))

pub l_Numeric : (n : NumericLiteral) (m : ℕ) → m ≤ 19 → is_looser m (wrapped (expression_term (expression.NumericLiteral n))) ≡ false
l_Numeric n m h = rw (e_NumericLiteral n) (below 21 m h (omega arith))

pub l_String : (n : StringLiteral) (m : ℕ) → m ≤ 19 → is_looser m (wrapped (expression_term (expression.StringLiteral n))) ≡ false
l_String n m h = rw (e_StringLiteral n) (below 21 m h (omega arith))

pub l_Identifier : (n : IdentifierReference) (m : ℕ) → m ≤ 19 → is_looser m (wrapped (expression_term (expression.Identifier n))) ≡ false
l_Identifier n m h = rw (e_Identifier n) (below 21 m h (omega arith))

pub l_Array : (n : ArrayExpression Expression) (m : ℕ) → m ≤ 19 → is_looser m (wrapped (expression_term (expression.ArrayExpression n))) ≡ false
l_Array n m h = rw (e_ArrayExpression n) (below 21 m h (omega arith))

pub l_Call : (n : CallExpression Expression) (m : ℕ) → m ≤ 19 → is_looser m (wrapped (expression_term (expression.CallExpression n))) ≡ false
l_Call n m h = rw (e_CallExpression n) (below 19 m h (omega arith))

function_looser : (k : FunctionKind) (texts : List Text) (ts : Terms) (m : ℕ) → m ≤ 19 → is_looser m (wrapped (node (function_word k) texts ts)) ≡ false
function_looser function_kind.FunctionDeclaration texts ts m h = below 21 m h (omega arith)
function_looser function_kind.FunctionExpression texts ts m h = below 21 m h (omega arith)

abbrev function_texts : Function → List Text
function_texts n = flag n.is_async (codes "async") ∷ flag n.is_generator (codes "*") ∷ []

abbrev function_kids : Function → Terms
function_kids n = more (maybe (option_map binding_term n.id)) (two (parameters_term n.params) (body_term statement_term n.body))

pub l_Function : (n : Function) (m : ℕ) → m ≤ 19 → is_looser m (wrapped (expression_term (expression.FunctionExpression n))) ≡ false
l_Function n m h = ap (λ t. is_looser m (wrapped t)) (e_FunctionExpression n ∙ function_parts n) ∙ function_looser n.kind (function_texts n) (function_kids n) m h

pub l_Object : (n : ObjectExpression Expression) (m : ℕ) → m ≤ 19 → is_looser m (wrapped (expression_term (expression.ObjectExpression n))) ≡ false
l_Object n m h = rw (e_ObjectExpression n) (below 21 m h (omega arith))

pub l_Parenthesized : (n : ParenthesizedExpression Expression) (m : ℕ) → m ≤ 19 → is_looser m (wrapped (expression_term (expression.ParenthesizedExpression n))) ≡ false
l_Parenthesized n m h = rw (e_ParenthesizedExpression n) (below 21 m h (omega arith))

member_looser : (b : Bool) (m : ℕ) → m ≤ 19 → nat_lt (cond b 19 20) m ≡ false
member_looser true m h = below 19 m h (omega arith)
member_looser false m h = below 20 m h (omega arith)

pub l_Member : (n : StaticMemberExpression Expression) (m : ℕ) → m ≤ 19 → is_looser m (wrapped (expression_term (expression.StaticMemberExpression n))) ≡ false
l_Member n m h = ap (λ t. is_looser m (wrapped t)) (e_StaticMemberExpression n) ∙ member_looser (nat_eq (level (held (needs Kind.StaticMemberExpression 0) (expression_term n.object))) 19) m h

-- which objects stand in parentheses

abbrev loose_object : Term → Bool
loose_object t = is_looser 19 t || is_number t

pub o_Sequence : (n : SequenceExpression Expression) → loose_object (wrapped (expression_term (expression.SequenceExpression n))) ≡ true
o_Sequence n = rw (e_SequenceExpression n) refl

pub o_Await : (n : AwaitExpression Expression) → loose_object (wrapped (expression_term (expression.AwaitExpression n))) ≡ true
o_Await n = rw (e_AwaitExpression n) refl

pub o_Boolean : (n : BooleanLiteral) → loose_object (wrapped (expression_term (expression.BooleanLiteral n))) ≡ false
o_Boolean n = rw (e_BooleanLiteral n) refl

pub o_Numeric : (n : NumericLiteral) → loose_object (wrapped (expression_term (expression.NumericLiteral n))) ≡ true
o_Numeric n = rw (e_NumericLiteral n) refl

pub o_String : (n : StringLiteral) → loose_object (wrapped (expression_term (expression.StringLiteral n))) ≡ false
o_String n = rw (e_StringLiteral n) refl

pub o_Identifier : (n : IdentifierReference) → loose_object (wrapped (expression_term (expression.Identifier n))) ≡ false
o_Identifier n = rw (e_Identifier n) refl

pub o_Array : (n : ArrayExpression Expression) → loose_object (wrapped (expression_term (expression.ArrayExpression n))) ≡ false
o_Array n = rw (e_ArrayExpression n) refl

pub o_Call : (n : CallExpression Expression) → loose_object (wrapped (expression_term (expression.CallExpression n))) ≡ false
o_Call n = rw (e_CallExpression n) refl

pub o_Object : (n : ObjectExpression Expression) → loose_object (wrapped (expression_term (expression.ObjectExpression n))) ≡ false
o_Object n = rw (e_ObjectExpression n) refl

pub o_Parenthesized : (n : ParenthesizedExpression Expression) → loose_object (wrapped (expression_term (expression.ParenthesizedExpression n))) ≡ false
o_Parenthesized n = rw (e_ParenthesizedExpression n) refl

function_object : (k : FunctionKind) (texts : List Text) (ts : Terms) → loose_object (wrapped (node (function_word k) texts ts)) ≡ false
function_object function_kind.FunctionDeclaration texts ts = refl
function_object function_kind.FunctionExpression texts ts = refl

pub o_Function : (n : Function) → loose_object (wrapped (expression_term (expression.FunctionExpression n))) ≡ false
o_Function n = ap (λ t. loose_object (wrapped t)) (e_FunctionExpression n ∙ function_parts n) ∙ function_object n.kind (function_texts n) (function_kids n)

pub o_Member : (n : StaticMemberExpression Expression) → loose_object (wrapped (expression_term (expression.StaticMemberExpression n))) ≡ false
o_Member n = ap (λ t. loose_object (wrapped t)) (e_StaticMemberExpression n) ∙ ap (λ b. b || false) (member_looser (nat_eq (level (held (needs Kind.StaticMemberExpression 0) (expression_term n.object))) 19) 19 (omega arith))

-- which are strings

pub s_Sequence : (n : SequenceExpression Expression) → is_string_literal (wrapped (expression_term (expression.SequenceExpression n))) ≡ false
s_Sequence n = rw (e_SequenceExpression n) refl

pub s_Await : (n : AwaitExpression Expression) → is_string_literal (wrapped (expression_term (expression.AwaitExpression n))) ≡ false
s_Await n = rw (e_AwaitExpression n) refl

pub s_Boolean : (n : BooleanLiteral) → is_string_literal (wrapped (expression_term (expression.BooleanLiteral n))) ≡ false
s_Boolean n = rw (e_BooleanLiteral n) refl

pub s_Numeric : (n : NumericLiteral) → is_string_literal (wrapped (expression_term (expression.NumericLiteral n))) ≡ false
s_Numeric n = rw (e_NumericLiteral n) refl

pub s_String : (n : StringLiteral) → is_string_literal (wrapped (expression_term (expression.StringLiteral n))) ≡ true
s_String n = rw (e_StringLiteral n) refl

pub s_Identifier : (n : IdentifierReference) → is_string_literal (wrapped (expression_term (expression.Identifier n))) ≡ false
s_Identifier n = rw (e_Identifier n) refl

pub s_Array : (n : ArrayExpression Expression) → is_string_literal (wrapped (expression_term (expression.ArrayExpression n))) ≡ false
s_Array n = rw (e_ArrayExpression n) refl

pub s_Call : (n : CallExpression Expression) → is_string_literal (wrapped (expression_term (expression.CallExpression n))) ≡ false
s_Call n = rw (e_CallExpression n) refl

pub s_Object : (n : ObjectExpression Expression) → is_string_literal (wrapped (expression_term (expression.ObjectExpression n))) ≡ false
s_Object n = rw (e_ObjectExpression n) refl

pub s_Parenthesized : (n : ParenthesizedExpression Expression) → is_string_literal (wrapped (expression_term (expression.ParenthesizedExpression n))) ≡ false
s_Parenthesized n = rw (e_ParenthesizedExpression n) refl

pub s_Member : (n : StaticMemberExpression Expression) → is_string_literal (wrapped (expression_term (expression.StaticMemberExpression n))) ≡ false
s_Member n = rw (e_StaticMemberExpression n) refl

function_no_string : (k : FunctionKind) (texts : List Text) (ts : Terms) → is_string_literal (wrapped (node (function_word k) texts ts)) ≡ false
function_no_string function_kind.FunctionDeclaration texts ts = refl
function_no_string function_kind.FunctionExpression texts ts = refl

pub s_Function : (n : Function) → is_string_literal (wrapped (expression_term (expression.FunctionExpression n))) ≡ false
s_Function n = ap (λ t. is_string_literal (wrapped t)) (e_FunctionExpression n ∙ function_parts n) ∙ function_no_string n.kind (function_texts n) (function_kids n)

-- which begin with a brace or with `function`

pub b_Await : (n : AwaitExpression Expression) → leads (wrapped (expression_term (expression.AwaitExpression n))) ≡ false
b_Await n = rw (e_AwaitExpression n) refl

pub b_Boolean : (n : BooleanLiteral) → leads (wrapped (expression_term (expression.BooleanLiteral n))) ≡ false
b_Boolean n = rw (e_BooleanLiteral n) refl

pub b_Numeric : (n : NumericLiteral) → leads (wrapped (expression_term (expression.NumericLiteral n))) ≡ false
b_Numeric n = rw (e_NumericLiteral n) refl

pub b_String : (n : StringLiteral) → leads (wrapped (expression_term (expression.StringLiteral n))) ≡ false
b_String n = rw (e_StringLiteral n) refl

pub b_Identifier : (n : IdentifierReference) → leads (wrapped (expression_term (expression.Identifier n))) ≡ false
b_Identifier n = rw (e_Identifier n) refl

pub b_Array : (n : ArrayExpression Expression) → leads (wrapped (expression_term (expression.ArrayExpression n))) ≡ false
b_Array n = rw (e_ArrayExpression n) refl

pub b_Object : (n : ObjectExpression Expression) → leads (wrapped (expression_term (expression.ObjectExpression n))) ≡ true
b_Object n = rw (e_ObjectExpression n) refl

pub b_Parenthesized : (n : ParenthesizedExpression Expression) → leads (wrapped (expression_term (expression.ParenthesizedExpression n))) ≡ false
b_Parenthesized n = rw (e_ParenthesizedExpression n) refl

function_leads : (k : FunctionKind) (texts : List Text) (ts : Terms) → leads (wrapped (node (function_word k) texts ts)) ≡ true
function_leads function_kind.FunctionDeclaration texts ts = refl
function_leads function_kind.FunctionExpression texts ts = refl

pub b_Function : (n : Function) → leads (wrapped (expression_term (expression.FunctionExpression n))) ≡ true
b_Function n = ap (λ t. leads (wrapped t)) (e_FunctionExpression n ∙ function_parts n) ∙ function_leads n.kind (function_texts n) (function_kids n)

parentheses_lead : (b : Bool) (t : Term) → leads (in_parentheses b t) ≡ (not b && leads t)
parentheses_lead true t = refl
parentheses_lead false t = refl

held_leads : (need : Term → Bool) (e : Expression) → leads (held need (expression_term e)) ≡ (not (need (wrapped (expression_term e))) && leads (wrapped (expression_term e)))
held_leads need e = ap leads (held_expression need e) ∙ parentheses_lead (need (wrapped (expression_term e))) (wrapped (expression_term e))

pub b_Call : (n : CallExpression Expression) → leads (wrapped (expression_term (expression.CallExpression n))) ≡ (not (is_looser 19 (wrapped (expression_term n.callee))) && leads (wrapped (expression_term n.callee)))
b_Call n = ap (λ t. leads (wrapped t)) (e_CallExpression n) ∙ held_leads (is_looser 19) n.callee

pub b_Member : (n : StaticMemberExpression Expression) → leads (wrapped (expression_term (expression.StaticMemberExpression n))) ≡ (not (loose_object (wrapped (expression_term n.object))) && leads (wrapped (expression_term n.object)))
b_Member n = ap (λ t. leads (wrapped t)) (e_StaticMemberExpression n) ∙ held_leads loose_object n.object

pub b_Sequence_none : (n : SequenceExpression Expression) → n.expressions ≡ [] → leads (wrapped (expression_term (expression.SequenceExpression n))) ≡ false
b_Sequence_none n h = ap (λ t. leads (wrapped t)) (e_SequenceExpression n) ∙ rw h refl

pub b_Sequence_some : (n : SequenceExpression Expression) (e : Expression) (es : List Expression) → n.expressions ≡ e ∷ es → leads (wrapped (expression_term (expression.SequenceExpression n))) ≡ (not (is_looser 2 (wrapped (expression_term e))) && leads (wrapped (expression_term e)))
b_Sequence_some n e es h = ap (λ t. leads (wrapped t)) (e_SequenceExpression n) ∙ rw h (held_leads (is_looser 2) e)
