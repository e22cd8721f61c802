-- Where parentheses are printed: round a part of a lower level than its place asks for (13.2 to 13.16), round a text that
-- would be read as something else at its front, and round a bare `in` in the head of a `for` (14.7.4).
use Rattle.std.specs.Prelude.{ℕ, zero, suc, List, [], ◌∷◌, Option, None, Some, Bool, true, false, not, ◌&&◌, ◌||◌, if◌then◌else◌, nat_le, nat_lt, codes}
use Rattle.js_term.specs.Term.{Text, is_text, Term, absent, list, node, Terms, none, more, first}
use Rattle.js_term.specs.declared.kind.Kind.{Kind}
use Rattle.js_syntax.specs.Edges.{binary_level, is_coalesce_left, begins_with_part, is_brace_kind, is_definition_kind, is_string_kind, has_kind}
use Rattle.js_syntax.specs.Levels.{level, logical_level}

-- whether the level of an expression is below this one
abbrev pub is_looser : ℕ → Term → Bool
is_looser zero t = false
is_looser (suc n) t = nat_lt (level t) (suc n)

-- the levels of the operands of a binary operator; those of `**` have their own (13.6)
abbrev pub operand_level : Option ℕ → ℕ → ℕ
operand_level (Some k) zero = k
operand_level (Some k) (suc n) = suc k
operand_level None zero = 17
operand_level None (suc n) = 15

-- The least level of the part numbered so; 0 where each may stand.
abbrev pub least : Kind → List Text → ℕ → ℕ
least Kind.ForOfStatement texts (suc zero) = 2
least Kind.VariableDeclarator texts (suc n) = 2
least Kind.ExportDefaultDeclaration texts n = 2
least Kind.FormalParameter texts (suc n) = 2
least Kind.ClassDeclaration texts (suc zero) = 18
least Kind.ClassExpression texts (suc zero) = 18
least Kind.MethodDefinition texts zero = 2
least Kind.PropertyDefinition texts n = 2
least Kind.BindingProperty texts zero = 2
least Kind.AssignmentPattern texts (suc n) = 2
least Kind.AssignmentTargetProperty texts zero = 2
least Kind.AssignmentTargetWithDefault texts (suc n) = 2
least Kind.ArrayExpression texts n = 2
least Kind.SpreadElement texts n = 2
least Kind.ObjectProperty texts n = 2
least Kind.SequenceExpression texts n = 2
least Kind.AssignmentExpression texts (suc n) = 2
least Kind.ArrowFunctionExpression texts (suc n) = 2
least Kind.YieldExpression texts n = 2
least Kind.ConditionalExpression texts zero = 4
least Kind.ConditionalExpression texts (suc n) = 2
least Kind.LogicalExpression texts zero = logical_level (first texts)
least Kind.LogicalExpression texts (suc n) = if is_text (first texts) (codes "||") then 6 else 7
least Kind.BinaryExpression texts n = operand_level (binary_level (first texts)) n
least Kind.PrivateInExpression texts (suc n) = 12
least Kind.UnaryExpression texts n = 16
least Kind.AwaitExpression texts n = 16
least Kind.CallExpression texts zero = 19
least Kind.CallExpression texts (suc n) = 2
least Kind.ImportExpression texts n = 2
least Kind.StaticMemberExpression texts zero = 19
least Kind.ComputedMemberExpression texts zero = 19
least Kind.PrivateFieldExpression texts zero = 19
least Kind.TaggedTemplateExpression texts zero = 19
least Kind.NewExpression texts zero = 20
least Kind.NewExpression texts (suc n) = 2
least k texts n = 0

abbrev pub is_number_kind : Kind → Bool
is_number_kind Kind.NumericLiteral = true
is_number_kind k = false

-- The first part of an expression: an object is no bare number, and the left side of `??` is no `||` or `&&` (13.13).
abbrev pub is_misread : Kind → List Text → Term → Bool
is_misread Kind.StaticMemberExpression texts t = has_kind is_number_kind t
is_misread Kind.ComputedMemberExpression texts t = has_kind is_number_kind t
is_misread Kind.PrivateFieldExpression texts t = has_kind is_number_kind t
is_misread Kind.LogicalExpression texts t = is_text (first texts) (codes "??") && not (is_coalesce_left (level t))
is_misread k texts t = false

abbrev pub front_needs : Kind → List Text → Term → Bool
front_needs k texts t = is_misread k texts t || is_looser (least k texts 0) t

abbrev pub never : Term → Bool
never t = false

abbrev mutual
  -- whether the text of a part begins with a node of such a kind, in no parentheses by its place
  pub leads : (Kind → Bool) → (Term → Bool) → Term → Bool
  leads test need absent = false
  leads test need (list ts) = leads_first test need ts
  leads test need (node k texts ts) = not (need (node k texts ts)) && (if begins_with_part k texts then leads_first test (front_needs k texts) ts else test k)

  pub leads_first : (Kind → Bool) → (Term → Bool) → Terms → Bool
  leads_first test need none = false
  leads_first test need (more t ts) = leads test need t

-- `{`, `function`, `class`
abbrev pub is_opener : Kind → Bool
is_opener k = is_brace_kind k || is_definition_kind k

-- An expression statement begins with none of them and is no string alone (14.5, 11.2.1), a default export with no
-- definition (16.2.3), a concise body with no `{` (15.3).
abbrev pub is_fronted : Kind → ℕ → Term → Bool
is_fronted Kind.ExpressionStatement n t = leads is_opener never t || has_kind is_string_kind t
is_fronted Kind.ExportDefaultDeclaration n t = leads is_definition_kind never t
is_fronted Kind.ArrowFunctionExpression (suc n) t = leads is_brace_kind never t
is_fronted k n t = false

-- whether the part numbered so stands in parentheses
abbrev pub needs : Kind → List Text → ℕ → Term → Bool
needs k texts zero t = is_fronted k zero t || front_needs k texts t
needs k texts (suc n) t = is_fronted k (suc n) t || is_looser (least k texts (suc n)) t

-- Whether a bare `in` may stand in the part numbered so, from whether one may in the whole: it may in brackets, and in
-- all but the first part of a `for` and what that ends with.
abbrev pub inside : Bool → Kind → ℕ → Bool
inside i Kind.ForStatement zero = false
inside i Kind.ForInStatement zero = false
inside i Kind.ForOfStatement zero = false
inside i Kind.VariableDeclaration n = i
inside i Kind.VariableDeclarator (suc n) = i
inside i Kind.SequenceExpression n = i
inside i Kind.AssignmentExpression n = i
inside i Kind.ArrowFunctionExpression (suc n) = i
inside i Kind.YieldExpression n = i
inside i Kind.ConditionalExpression zero = i
inside i Kind.ConditionalExpression (suc (suc n)) = i
inside i Kind.LogicalExpression n = i
inside i Kind.BinaryExpression n = i
inside i Kind.UnaryExpression n = i
inside i Kind.AwaitExpression n = i
inside i Kind.UpdateExpression n = i
inside i Kind.ChainExpression n = i
inside i Kind.CallExpression zero = i
inside i Kind.StaticMemberExpression zero = i
inside i Kind.ComputedMemberExpression zero = i
inside i Kind.PrivateFieldExpression zero = i
inside i Kind.TaggedTemplateExpression zero = i
inside i Kind.NewExpression zero = i
inside i k n = true

-- an expression with a bare `in`
abbrev pub is_in : Kind → List Text → Bool
is_in Kind.BinaryExpression texts = is_text (first texts) (codes "in")
is_in Kind.PrivateInExpression texts = true
is_in k texts = false

-- whether parentheses stand round a node, by its place and by whether a bare `in` may stand there
abbrev pub is_held : Bool → (Term → Bool) → Kind → List Text → Terms → Bool
is_held i need k texts ts = need (node k texts ts) || (not i && is_in k texts)
