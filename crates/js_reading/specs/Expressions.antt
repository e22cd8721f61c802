-- Expressions (13, 15.3, 15.5, 15.8). What reads a part is handed in.
use Rattle.std.specs.Prelude.{ℕ, zero, suc, List, [], ◌∷◌, map, length, Option, None, Some, Bool, true, false, not, ◌&&◌, ◌||◌, if◌then◌else◌, nat_le, codes}
use Rattle.js_term.specs.Term.{Text, is_text, Term, absent, node, none, one, two, all}
use Rattle.js_term.specs.declared.kind.Kind.{Kind}
use Rattle.js_term.specs.Lexeme.{is_reserved, is_one_of}
use Rattle.js_term.specs.Node.{identifier_of, binding_of, string_of, number_of, boolean_of, await_of, parenthesized_of}
use Rattle.js_syntax.specs.Nodes.{alone, of_text, of_part, of_parts, marked, three, regexp_of, template_of, super_of, call_link, static_link, computed_link, private_of, private_link, new_of, update_of, rested, parameter_of}
use Rattle.js_syntax.specs.Parts.{is_node}
use Rattle.js_syntax.specs.Texts.{assignment_operators, logical_operators}
use Rattle.js_syntax.specs.Tokens.{Lexeme, word, private_name, number, big_integer, string, regexp, sign}
use Rattle.js_syntax.specs.Edges.{is_simple_target, is_private_member, is_unary, is_update, binary_level, member_level}
use Rattle.js_tokens.specs.Next.{Cut, lexeme, after, next_regexp}
use Rattle.js_reading.specs.declared.goal.Goal.{Goal}
use Rattle.js_reading.specs.declared.goal.Goal.TheVariants as goal
use Rattle.js_reading.specs.Reading.{Found, closed, Reading, ◌>>=◌, sees, sees_word, same_line, at_end, arrow_here, expect, expect_word, group, joined, trees, any_cover}
use Rattle.js_reading.specs.Operators.{goes_on}
use Rattle.js_reading.specs.Targets.{target_of, target_elements, arrow_parameters}
use Rattle.js_reading.specs.Parts.{Quasis, part, expression, item, arguments, template_by}
use Rattle.js_reading.specs.Functions.{body, function}
use Rattle.js_reading.specs.Literals.{is_barred, array, object, class}

-- an expression whose tree is found by a name
abbrev pub at : ℕ → Term → Text → Reading Found
at n t b = Some (closed t n, b)

abbrev pub template_tree : Quasis → Term
template_tree q = template_of q.0 q.1

abbrev pub named_parameters : Text → Term
named_parameters x = rested Kind.FormalParameters (parameter_of (binding_of x) absent ∷ []) absent

abbrev pub regexp_by : Cut → Reading Found
regexp_by (Some (regexp pattern flags, b)) = Some (closed (regexp_of pattern flags) 21, b)
regexp_by o = None

-- a slash where an expression begins opens a regular expression
abbrev pub is_slash : Text → Bool
is_slash s = is_one_of s (map codes ("/" ∷ "/=" ∷ []))

abbrev pub is_word_unary : Text → Bool
is_word_unary x = is_one_of x (map codes ("delete" ∷ "void" ∷ "typeof" ∷ []))

-- behind `yield`, where no operand stands
unfoldable pub ends_operand : Text → Bool
ends_operand b = not (same_line b) || at_end b || sees (codes ")") b || sees (codes "]") b || sees (codes "}") b || sees (codes ",") b || sees (codes ";") b || sees (codes ":") b

-- behind `async` a name and an arrow on the same line
abbrev pub is_arrow_name : Option Lexeme → Text → Bool
is_arrow_name (Some (word x)) c = not (is_reserved x) && arrow_here c
is_arrow_name o c = false

-- a `new` without arguments
abbrev pub is_bare_new : Term → Bool
is_bare_new t = is_node Kind.NewExpression t

-- what was found as a target; a bar is a comma behind a spread
abbrev pub target_in : Found → Option Term
target_in f = if f.barred then None else target_of false f.tree

-- the target of an assignment by this operator: a pattern stands before `=` alone (13.15)
abbrev pub assigned_in : Text → Found → Option Term
assigned_in op f = if is_text op (codes "=") then target_in f else if f.cover then None else if is_simple_target f.tree then Some f.tree else None

abbrev pub parameters_in : List Found → Bool → Option Term
parameters_in fs comma = if is_barred fs comma then None else arrow_parameters (target_elements (all (trees fs)))

abbrev pub any_spread : List Found → Bool
any_spread [] = false
any_spread (f ∷ fs) = is_node Kind.SpreadElement f.tree || any_spread fs

-- several levels of the logical operators: their own, and that of the right side (13.13)
abbrev pub logical_right : Text → ℕ
logical_right op = if is_text op (codes "||") then 6 else 7

abbrev pub logical_level : Text → ℕ
logical_level op = if is_text op (codes "??") then 4 else if is_text op (codes "||") then 5 else 6

abbrev pub literal_word : Text → Option Term
literal_word x =
    if is_text x (codes "this") then Some (alone Kind.ThisExpression)
    else if is_text x (codes "null") then Some (alone Kind.NullLiteral)
    else if is_text x (codes "true") then Some (boolean_of true)
    else if is_text x (codes "false") then Some (boolean_of false)
    else None

abbrev pub is_link : Option Lexeme → Bool
is_link (Some (sign s)) = is_one_of s (map codes ("?." ∷ "." ∷ "[" ∷ "(" ∷ []))
is_link o = false

abbrev pub is_assignment : Option Lexeme → Bool
is_assignment (Some (sign s)) = is_one_of s assignment_operators
is_assignment o = false

abbrev pub operator_text : Option Lexeme → Text
operator_text (Some (sign s)) = s
operator_text o = []

module _ (sub : Goal → Text → Reading Found) where
  -- ---- arrows

  -- behind the arrow
  unfoldable pub arrow_body : Bool → Text → Reading Term
  arrow_body i a = if sees (codes "{") a then body sub a else part sub (goal.Expression 2 i) a

  unfoldable pub arrow : Bool → Text → Term → Text → Reading Found
  arrow i async ps b = arrow_body i b >>= λ t c. Some (closed (marked Kind.ArrowFunctionExpression async (two ps t)) 2, c)

  abbrev pub arrow_by : Bool → Text → Option Term → Text → Reading Found
  arrow_by i async None b = None
  arrow_by i async (Some ps) b = arrow i async ps b

  -- what stood in parentheses without an arrow behind it
  abbrev pub parenthesized_by : List Found → Bool → Text → Reading Found
  parenthesized_by [] comma b = None
  parenthesized_by (f ∷ fs) comma b = if comma || any_cover (f ∷ fs) || any_spread (f ∷ fs) then None else Some (closed (parenthesized_of (joined (trees (f ∷ fs)))) 21, b)

  -- behind `(`: what an arrow follows are parameters
  unfoldable pub parenthesized : Bool → Text → Reading Found
  parenthesized i a =
      group (item sub) (codes ")") a >>= λ found b. expect (codes ")") b >>= λ _ c.
      if arrow_here c then arrow_by i [] (parameters_in found.0 found.1) (after c) else parenthesized_by found.0 found.1 c

  abbrev pub async_call : List Found → Text → Reading Found
  async_call fs b = if any_cover fs then None else Some (closed (call_link false (identifier_of (codes "async")) (all (trees fs))) 19, b)

  -- behind `async (`
  unfoldable pub async_parenthesized : Bool → Text → Reading Found
  async_parenthesized i a =
      group (item sub) (codes ")") a >>= λ found b. expect (codes ")") b >>= λ _ c.
      if arrow_here c then arrow_by i (codes "async") (parameters_in found.0 found.1) (after c) else async_call found.0 c

  -- behind a name that is not reserved
  unfoldable pub named : Bool → Text → Text → Reading Found
  named i x b = if arrow_here b then arrow i [] (named_parameters x) (after b) else Some (closed (identifier_of x) 21, b)

  abbrev pub async_named_by : Bool → Option Lexeme → Text → Reading Found
  async_named_by i (Some (word x)) c = arrow i (codes "async") (named_parameters x) (after c)
  async_named_by i o c = None

  -- behind `async` on the same line
  unfoldable pub async_by : Bool → ℕ → Text → Reading Found
  async_by i least b =
      if sees_word (codes "function") b then (function sub Kind.FunctionExpression (codes "async") (after b) >>= at 21)
      else if is_arrow_name (lexeme b) (after b) then async_named_by i (lexeme b) (after b)
      else if nat_le least 2 && sees (codes "(") b then async_parenthesized i (after b)
      else named i (codes "async") b

  unfoldable pub async_expression : Bool → ℕ → Text → Reading Found
  async_expression i least b = if same_line b then async_by i least b else named i (codes "async") b

  -- ---- what begins with a word

  unfoldable pub unary : Bool → Text → Text → Reading Found
  unary i op b = part sub (goal.Expression 16 i) b >>= λ e c. Some (closed (marked Kind.UnaryExpression op (one e)) 16, c)

  unfoldable pub await_expression : Bool → Text → Reading Found
  await_expression i b = part sub (goal.Expression 16 i) b >>= λ e c. Some (closed (await_of e) 16, c)

  unfoldable pub yield_expression : Bool → Text → Reading Found
  yield_expression i b =
      if ends_operand b then Some (closed (marked Kind.YieldExpression [] (one absent)) 2, b)
      else if sees (codes "*") b then (part sub (goal.Expression 2 i) (after b) >>= λ e c. Some (closed (marked Kind.YieldExpression (codes "*") (one e)) 2, c))
      else part sub (goal.Expression 2 i) b >>= λ e c. Some (closed (marked Kind.YieldExpression [] (one e)) 2, c)

  abbrev pub constructed_by : Term → ℕ → Text → Reading Found
  constructed_by f n b =
      if nat_le 20 n && sees (codes "(") b then (arguments sub (after b) >>= λ es c. Some (closed (new_of f (all es)) 20, c))
      else Some (closed (new_of f none) 18, b)

  -- behind `new` (13.3.5, 13.3.12)
  unfoldable pub new_expression : Bool → Text → Reading Found
  new_expression i b =
      if sees (codes ".") b then (expect_word (codes "target") (after b) >>= λ _ c. at 21 (alone Kind.NewTarget) c)
      else sub (goal.Callee i) b >>= λ f c. if f.cover then None else constructed_by f.tree f.level c

  -- behind the comma of an import's arguments (13.3.10)
  unfoldable pub second_argument : Text → Reading Term
  second_argument b =
      if sees (codes ")") b then Some (absent, b)
      else part sub (goal.Expression 2 true) b >>= λ e c. if sees (codes ",") c then Some (e, after c) else Some (e, c)

  unfoldable pub import_options : Text → Reading Term
  import_options a = if sees (codes ",") a then second_argument (after a) else Some (absent, a)

  unfoldable pub import_call : Text → Reading Found
  import_call a =
      part sub (goal.Expression 2 true) a >>= λ e b. import_options b >>= λ o c. expect (codes ")") c >>= λ _ d.
      Some (closed (of_parts Kind.ImportExpression e o) 19, d)

  -- behind `import`
  unfoldable pub import_expression : Text → Reading Found
  import_expression b =
      if sees (codes ".") b then (expect_word (codes "meta") (after b) >>= λ _ c. at 21 (alone Kind.ImportMeta) c)
      else expect (codes "(") b >>= λ _ c. import_call c

  -- ---- members and calls (13.3)

  -- behind `.`
  abbrev pub dotted_by : Bool → Term → Option Lexeme → Text → Reading Term
  dotted_by optional o (Some (word x)) b = Some (static_link optional o x, b)
  dotted_by optional o (Some (private_name x)) b = Some (private_link optional o x, b)
  dotted_by optional o l b = None

  unfoldable pub dotted : Bool → Term → Text → Reading Term
  dotted optional o a = dotted_by optional o (lexeme a) (after a)

  -- behind `[`
  unfoldable pub computed : Bool → Term → Text → Reading Term
  computed optional o a = expression sub true a >>= λ e b. expect (codes "]") b >>= λ _ c. Some (computed_link optional o e, c)

  -- behind `(`
  unfoldable pub called : Bool → Term → Text → Reading Term
  called optional f a = arguments sub a >>= λ es b. Some (call_link optional f (all es), b)

  abbrev pub super_member : Term → Text → Reading Found
  super_member e b = if is_private_member e then None else Some (closed e 20, b)

  -- behind `super` (13.3.7)
  unfoldable pub super_expression : Text → Reading Found
  super_expression b =
      if sees (codes ".") b then (dotted false super_of (after b) >>= super_member)
      else if sees (codes "[") b then (computed false super_of (after b) >>= super_member)
      else expect (codes "(") b >>= λ _ c. called false super_of c >>= at 19

  -- behind `?.` (13.3.9)
  abbrev pub optional_by : Term → Option Lexeme → Text → Reading Term
  optional_by o (Some (sign s)) a =
      if is_text s (codes "[") then computed true o (after a) else if is_text s (codes "(") then called true o (after a) else None
  optional_by o l a = dotted true o a

  unfoldable pub optional_link : Term → Text → Reading Term
  optional_link o a = optional_by o (lexeme a) a

  abbrev pub link_by : Term → Text → Text → Reading Term
  link_by o s b =
      if is_text s (codes "?.") then optional_link o b
      else if is_text s (codes ".") then dotted false o b
      else if is_text s (codes "[") then computed false o b
      else called false o b

  unfoldable pub links : ℕ → Term → Text → Reading Term
  links zero o a = Some (o, a)
  links (suc n) o a = if is_link (lexeme a) then (link_by o (operator_text (lexeme a)) (after a) >>= links n) else Some (o, a)

  -- behind the first `?.`
  unfoldable pub chain : Term → Text → Reading Found
  chain o a = optional_link o a >>= λ e b. links (length b) e b >>= λ e c. Some (closed (of_part Kind.ChainExpression e) 18, c)

  -- ---- what begins an expression

  abbrev pub word_by : Bool → Text → Option Term → Text → Reading Found
  word_by i x (Some t) b = Some (closed t 21, b)
  word_by i x None b = if is_reserved x then None else named i x b

  abbrev pub word_prefix : Bool → ℕ → Text → Text → Reading Found
  word_prefix i least x b =
      if is_text x (codes "function") then (function sub Kind.FunctionExpression [] b >>= at 21)
      else if is_text x (codes "class") then (class sub Kind.ClassExpression b >>= at 21)
      else if is_text x (codes "async") then async_expression i least b
      else if is_text x (codes "new") then new_expression i b
      else if is_text x (codes "import") then import_expression b
      else if is_text x (codes "super") then super_expression b
      else if is_text x (codes "await") then await_expression i b
      else if is_text x (codes "yield") then yield_expression i b
      else if is_word_unary x then unary i x b
      else word_by i x (literal_word x) b

  -- behind `++` or `--`
  unfoldable pub update_before : Bool → Text → Text → Reading Found
  update_before i op b = part sub (goal.Expression 19 i) b >>= λ t c. if is_simple_target t then Some (closed (update_of op true t) 17, c) else None

  -- behind a private name (13.10)
  unfoldable pub private_in : Bool → Text → Text → Reading Found
  private_in i x b =
      if i then (expect_word (codes "in") b >>= λ _ c. part sub (goal.Expression 12 true) c >>= λ r d. Some (closed (of_parts Kind.PrivateInExpression (private_of x) r) 11, d))
      else None

  abbrev pub sign_prefix : Bool → Text → Text → Reading Found
  sign_prefix i s a =
      if is_text s (codes "(") then parenthesized i (after a)
      else if is_text s (codes "[") then array sub (after a)
      else if is_text s (codes "{") then object sub (after a)
      else if is_update s then update_before i s (after a)
      else if is_unary s then unary i s (after a)
      else if is_slash s then regexp_by (next_regexp a)
      else None

  abbrev pub prefix_by : Bool → ℕ → Option Lexeme → Text → Reading Found
  prefix_by i least (Some (word x)) a = word_prefix i least x (after a)
  prefix_by i least (Some (private_name x)) a = private_in i x (after a)
  prefix_by i least (Some (number raw)) a = at 21 (number_of raw) (after a)
  prefix_by i least (Some (big_integer raw)) a = at 21 (of_text Kind.BigIntLiteral raw) (after a)
  prefix_by i least (Some (string raw v)) a = at 21 (string_of v) (after a)
  prefix_by i least (Some (sign s)) a = sign_prefix i s a
  prefix_by i least o a = template_by sub true o (after a) >>= λ q b. at 21 (template_tree q) b

  unfoldable pub prefix : Bool → ℕ → Text → Reading Found
  prefix i least a = prefix_by i least (lexeme a) a

  -- ---- what goes on with one

  -- a part at this level makes the whole of the other
  abbrev pub operated : Bool → Kind → Text → Term → ℕ → ℕ → Text → Reading Found
  operated i k op l right n b = part sub (goal.Expression right i) b >>= λ r c. Some (closed (marked k op (two l r)) n, c)

  -- behind the `?` (13.14)
  unfoldable pub conditional : Bool → Term → Text → Reading Found
  conditional i t b =
      part sub (goal.Expression 2 true) b >>= λ e c. expect (codes ":") c >>= λ _ d. part sub (goal.Expression 2 i) d >>= λ f g.
      Some (closed (node Kind.ConditionalExpression [] (three t e f)) 3, g)

  abbrev pub assigned_by : Bool → Text → Option Term → Text → Reading Found
  assigned_by i op None b = None
  assigned_by i op (Some t) b = operated i Kind.AssignmentExpression op t 2 2 b

  abbrev pub binary_by : Bool → Text → Term → Option ℕ → Text → Reading Found
  binary_by i op l None b = None
  binary_by i op l (Some k) b = operated i Kind.BinaryExpression op l (suc k) k b

  abbrev pub updated : Text → Term → Text → Reading Found
  updated op t b = if is_simple_target t then Some (closed (update_of op false t) 17, b) else None

  abbrev pub operator_by : Bool → Found → Text → Text → Reading Found
  operator_by i f s b =
      if is_update s then updated s f.tree b
      else if is_text s (codes "?") then conditional i f.tree b
      else if is_text s (codes "**") then operated i Kind.BinaryExpression s f.tree 15 15 b
      else if is_one_of s logical_operators then operated i Kind.LogicalExpression s f.tree (logical_right s) (logical_level s) b
      else binary_by i s f.tree (binary_level s) b

  abbrev pub sign_extended : Bool → Found → Text → Text → Reading Found
  sign_extended i f s b =
      if is_text s (codes ".") then (dotted false f.tree b >>= at (member_level f.level))
      else if is_text s (codes "[") then (computed false f.tree b >>= at (member_level f.level))
      else if is_text s (codes "(") then (called false f.tree b >>= at 19)
      else if is_text s (codes "?.") then chain f.tree b
      else operator_by i f s b

  abbrev pub extended_by : Bool → Found → Option Lexeme → Text → Reading Found
  extended_by i f (Some (word x)) b = binary_by i x f.tree (binary_level x) b
  extended_by i f (Some (sign s)) b = sign_extended i f s b
  extended_by i f o b = template_by sub false o b >>= λ q c. Some (closed (of_parts Kind.TaggedTemplateExpression f.tree (template_tree q)) (member_level f.level), c)

  -- what goes on with an expression, or with a target
  unfoldable pub extended : Bool → Found → Text → Reading Found
  extended i f a =
      if is_assignment (lexeme a) then assigned_by i (operator_text (lexeme a)) (assigned_in (operator_text (lexeme a)) f) (after a)
      else if f.cover then None
      else extended_by i f (lexeme a) (after a)

  unfoldable pub climb : Bool → ℕ → ℕ → Found → Text → Reading Found
  climb i least zero f a = Some (f, a)
  climb i least (suc n) f a = if goes_on i least f a then (extended i f a >>= climb i least n) else Some (f, a)

  abbrev pub climbed : Bool → ℕ → Found → Text → Reading Found
  climbed i least f b = climb i least (length b) f b

  unfoldable pub at_level : Bool → ℕ → Text → Reading Found
  at_level i least a = prefix i least a >>= λ f b. if nat_le least f.level then climbed i least f b else None

  -- behind `new`: a member expression, or a `new` without arguments
  abbrev pub callee_by : Bool → Found → Text → Reading Found
  callee_by i f b = if nat_le 20 f.level then climbed i 20 f b else if is_bare_new f.tree then Some (f, b) else None

  unfoldable pub callee : Bool → Text → Reading Found
  callee i a = prefix i 20 a >>= callee_by i
