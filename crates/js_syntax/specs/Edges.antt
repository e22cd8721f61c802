-- What the grammar asks of a part of a tree: the levels of operators, how the text of a part begins and ends, and which
-- tokens go on with it behind a line end.
use Rattle.std.specs.Prelude.{ℕ, List, [], ◌∷◌, map, Option, None, Some, Bool, true, false, not, ◌&&◌, ◌||◌, if◌then◌else◌, nat_eq, nat_le, codes}
use Rattle.js_term.specs.Term.{Text, is_text, Term, absent, list, node, Terms, none, more, head}
use Rattle.js_term.specs.declared.kind.Kind.{Kind}
use Rattle.js_term.specs.Lexeme.{is_one_of}
use Rattle.js_syntax.specs.Parts.{is_node, is_present, text_of}
use Rattle.js_syntax.specs.Texts.{unary_operators, update_operators}
use Rattle.js_syntax.specs.Sorts as sorts
use Rattle.js_syntax.specs.Sorts.{Sort, stands}
use Rattle.js_syntax.specs.Printable.{is_constructor_key}
use Rattle.js_syntax.specs.Tokens.{Lexeme, word, private_name, number, big_integer, string, regexp, no_substitution, template_head, sign}

-- The levels of binary operators (13.6 to 13.12): how tightly each binds
abbrev pub operator_levels : List (List Text × ℕ)
operator_levels =
    (map codes ("|" ∷ []), 7) ∷ (map codes ("^" ∷ []), 8) ∷ (map codes ("&" ∷ []), 9) ∷ (map codes ("==" ∷ "!=" ∷ "===" ∷ "!==" ∷ []), 10) ∷ (map codes ("<" ∷ ">" ∷ "<=" ∷ ">=" ∷ "instanceof" ∷ "in" ∷ []), 11) ∷ (map codes ("<<" ∷ ">>" ∷ ">>>" ∷ []), 12) ∷ (map codes ("+" ∷ "-" ∷ []), 13) ∷ (map codes ("*" ∷ "/" ∷ "%" ∷ []), 14) ∷ []

abbrev pub level_among : Text → List (List Text × ℕ) → Option ℕ
level_among op [] = None
level_among op ((ops, n) ∷ rows) = if is_one_of op ops then Some n else level_among op rows

-- the level of a binary operator but `**`
abbrev pub binary_level : Text → Option ℕ
binary_level op = level_among op operator_levels

abbrev pub is_unary : Text → Bool
is_unary op = is_one_of op unary_operators

abbrev pub is_update : Text → Bool
is_update op = is_one_of op update_operators

abbrev pub is_word_operator : Text → Bool
is_word_operator op = is_one_of op (map codes ("delete" ∷ "void" ∷ "typeof" ∷ "instanceof" ∷ "in" ∷ []))

-- the left side of `??`: another one, or what binds tighter than `&&` (13.13)
abbrev pub is_coalesce_left : ℕ → Bool
is_coalesce_left n = nat_eq n 4 || nat_le 7 n

-- a member of something that ends in a call is a call expression too (13.3)
abbrev pub member_level : ℕ → ℕ
member_level n = if nat_eq n 19 then 19 else 20

-- AssignmentTargetType is simple (8.6.4): an identifier or a member
abbrev pub is_simple_target : Term → Bool
is_simple_target (node k texts ts) = sorts.is_simple_target k
is_simple_target t = false

abbrev pub is_private_kind : Kind → Bool
is_private_kind Kind.PrivateFieldExpression = true
is_private_kind k = false

abbrev pub is_private_member : Term → Bool
is_private_member (node k texts ts) = is_private_kind k
is_private_member t = false

abbrev pub is_private_key : Kind → Bool
is_private_key Kind.PrivateIdentifier = true
is_private_key k = false

-- a key of an object literal is no private name
abbrev pub no_private : Term → Bool
no_private (node k texts ts) = not (is_private_key k)
no_private t = true

-- a function or a class without a name
abbrev pub is_unnamed : Term → Bool
is_unnamed (node k texts ts) = not (is_present (head ts))
is_unnamed t = true

abbrev pub last_absent : List Term → Bool
last_absent [] = false
last_absent (t ∷ []) = not (is_present t)
last_absent (t ∷ ts) = last_absent ts

-- Kinds whose text begins with that of their first part; an update does where its operator stands behind.
abbrev pub begins_with_part : Kind → List Text → Bool
begins_with_part Kind.SequenceExpression texts = true
begins_with_part Kind.AssignmentExpression texts = true
begins_with_part Kind.ConditionalExpression texts = true
begins_with_part Kind.LogicalExpression texts = true
begins_with_part Kind.BinaryExpression texts = true
begins_with_part Kind.ChainExpression texts = true
begins_with_part Kind.CallExpression texts = true
begins_with_part Kind.StaticMemberExpression texts = true
begins_with_part Kind.ComputedMemberExpression texts = true
begins_with_part Kind.PrivateFieldExpression texts = true
begins_with_part Kind.TaggedTemplateExpression texts = true
begins_with_part Kind.UpdateExpression (op ∷ [] ∷ []) = true
begins_with_part k texts = false

-- the expression whose text an expression's text begins with, in the end
abbrev mutual
  pub leftmost : Term → Term
  leftmost absent = absent
  leftmost (list ts) = leftmost_first ts
  leftmost (node k texts ts) = if begins_with_part k texts then leftmost_first ts else node k texts ts

  pub leftmost_first : Terms → Term
  leftmost_first none = absent
  leftmost_first (more t ts) = leftmost t

abbrev pub is_brace_kind : Kind → Bool
is_brace_kind Kind.ObjectExpression = true
is_brace_kind Kind.ObjectAssignmentTarget = true
is_brace_kind k = false

abbrev pub is_definition_kind : Kind → Bool
is_definition_kind Kind.FunctionExpression = true
is_definition_kind Kind.ClassExpression = true
is_definition_kind k = false

abbrev pub has_kind : (Kind → Bool) → Term → Bool
has_kind test (node k texts ts) = test k
has_kind test t = false

-- whether the text begins with `{`
abbrev pub begins_with_brace : Term → Bool
begins_with_brace e = has_kind is_brace_kind (leftmost e)

-- whether it begins with `function`, `class` or `async function`
abbrev pub begins_with_definition : Term → Bool
begins_with_definition e = has_kind is_definition_kind (leftmost e)

-- a statement that may be the body of another (14.6, 14.7, 14.13): no declaration but with `var`
abbrev pub is_body : Term → Bool
is_body (node k texts ts) = stands Sort.body k texts
is_body t = false

-- whether a method definition is the constructor: not static, and named so without brackets (15.7.1)
abbrev pub is_constructor : Text → Bool → Term → Bool
is_constructor [] computed key = not computed && is_constructor_key key
is_constructor static computed key = false

abbrev pub is_string_kind : Kind → Bool
is_string_kind Kind.StringLiteral = true
is_string_kind k = false

abbrev pub is_expression_statement : Kind → Bool
is_expression_statement Kind.ExpressionStatement = true
is_expression_statement k = false

-- a statement that is a string token alone, which at the front of a body would be a directive (11.2.1)
abbrev pub is_string_statement : Term → Bool
is_string_statement (node k texts ts) = is_expression_statement k && has_kind is_string_kind (head ts)
is_string_statement t = false

abbrev pub begins_with_string : List Term → Bool
begins_with_string [] = false
begins_with_string (s ∷ ss) = is_string_statement s

-- What stands at the end of a part decides which tokens go on with it: an expression of level 18 or more, an update
-- with its operator behind, an expression of a lower level that ends in no expression (a bare `yield`, an arrow with a
-- block), a list of exports, a field named `get` or `set`, a field named `static`, or anything else.
pub data Edge : Type 0 where
  full : Edge
  updated : Edge
  loose : Edge
  exports : Edge
  accessor : Edge
  static : Edge
  plain : Edge

-- kinds whose text ends with their last part, where there is one
abbrev pub ends_with_part : Kind → List Text → Bool
ends_with_part Kind.SequenceExpression texts = true
ends_with_part Kind.AssignmentExpression texts = true
ends_with_part Kind.ArrowFunctionExpression texts = true
ends_with_part Kind.YieldExpression texts = true
ends_with_part Kind.ConditionalExpression texts = true
ends_with_part Kind.LogicalExpression texts = true
ends_with_part Kind.BinaryExpression texts = true
ends_with_part Kind.PrivateInExpression texts = true
ends_with_part Kind.UnaryExpression texts = true
ends_with_part Kind.AwaitExpression texts = true
ends_with_part Kind.UpdateExpression (op ∷ p ∷ []) = not (is_text p [])
ends_with_part k texts = false

-- the edge of a part that ends in no part of its own
abbrev pub own_edge : Kind → Edge
own_edge Kind.UpdateExpression = updated
own_edge Kind.FunctionBody = loose
own_edge k = full

-- the right edge of an expression
abbrev mutual
  pub edge : Term → Edge
  edge absent = loose
  edge (list ts) = edge_last ts
  edge (node k texts ts) = if ends_with_part k texts then edge_last ts else own_edge k

  pub edge_last : Terms → Edge
  edge_last none = loose
  edge_last (more t none) = edge t
  edge_last (more t ts) = edge_last ts

-- the edge of a declaration: that of its last initializer
abbrev pub edge_or_plain : Term → Edge
edge_or_plain absent = plain
edge_or_plain e = edge e

abbrev pub declared_edge : List Term → Edge
declared_edge [] = plain
declared_edge (node k texts (more p (more e none)) ∷ []) = edge_or_plain e
declared_edge (d ∷ ds) = declared_edge ds

abbrev pub is_name_key : Text → Term → Bool
is_name_key x key = is_node Kind.IdentifierName key && is_text (text_of key) x

-- the edge of a field: of its initializer, or by its name
abbrev pub field_edge : Text → Bool → Term → Term → Edge
field_edge static_flag computed key absent =
    if computed then plain else if is_name_key (codes "get") key || is_name_key (codes "set") key then accessor else if is_text static_flag [] && is_name_key (codes "static") key then static else plain
field_edge static_flag computed key e = edge e

-- signs that go on with an expression: the binary, logical and assignment operators, `?` and `,`
abbrev pub operator_signs : List Text
operator_signs = map codes ("|" ∷ "^" ∷ "&" ∷ "==" ∷ "!=" ∷ "===" ∷ "!==" ∷ "<" ∷ ">" ∷ "<=" ∷ ">=" ∷ "<<" ∷ ">>" ∷ ">>>" ∷ "+" ∷ "-" ∷ "*" ∷ "/" ∷ "%" ∷ "**" ∷ "&&" ∷ "||" ∷ "??" ∷ "=" ∷ "+=" ∷ "-=" ∷ "*=" ∷ "/=" ∷ "%=" ∷ "**=" ∷ "<<=" ∷ ">>=" ∷ ">>>=" ∷ "&=" ∷ "^=" ∷ "|=" ∷ "&&=" ∷ "||=" ∷ "??=" ∷ "?" ∷ "," ∷ [])

-- and those that go on with one of level 18 or more: `(`, `[`, `.` and `?.`
abbrev pub access_signs : List Text
access_signs = map codes ("(" ∷ "[" ∷ "." ∷ "?." ∷ [])

-- Behind an expression a `/` is an operator, so that no regular expression begins there.
abbrev pub is_operator : Lexeme → Bool
is_operator (word x) = is_one_of x (map codes ("in" ∷ "instanceof" ∷ []))
is_operator (sign s) = is_one_of s operator_signs
is_operator (regexp pattern flags) = true
is_operator l = false

abbrev pub is_access : Lexeme → Bool
is_access (sign s) = is_one_of s access_signs
is_access (no_substitution raw) = true
is_access (template_head raw) = true
is_access l = false

abbrev pub begins_key : Lexeme → Bool
begins_key (word x) = true
begins_key (private_name x) = true
begins_key (number x) = true
begins_key (big_integer x) = true
begins_key (string raw value) = true
begins_key (sign s) = is_text s (codes "[")
begins_key l = false

abbrev pub is_sign_among : List Text → Lexeme → Bool
is_sign_among signs (sign s) = is_one_of s signs
is_sign_among signs l = false

abbrev pub is_from : Lexeme → Bool
is_from (word x) = is_text x (codes "from")
is_from l = false

-- whether the token goes on with what ends so, behind a line end (12.10.1)
abbrev pub goes_on_with : Edge → Lexeme → Bool
goes_on_with full l = is_operator l || is_access l
goes_on_with updated l = is_operator l
goes_on_with loose l = is_sign_among (map codes ("," ∷ [])) l
goes_on_with exports l = is_from l
goes_on_with accessor l = begins_key l
goes_on_with static l = begins_key l || is_sign_among (map codes ("*" ∷ "{" ∷ [])) l
goes_on_with plain l = false
