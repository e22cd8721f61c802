-- Statements and declarations (14). What reads a part is handed in.
use Rattle.std.specs.Prelude.{ℕ, zero, suc, List, [], ◌∷◌, ◌++◌, map, length, Option, None, Some, Bool, true, false, not, ◌&&◌, ◌||◌, if◌then◌else◌, codes}
use Rattle.js_term.specs.Term.{Text, is_text, Term, absent, list, all, two}
use Rattle.js_term.specs.declared.kind.Kind.{Kind}
use Rattle.js_term.specs.Lexeme.{is_reserved, is_one_of}
use Rattle.js_term.specs.Node.{binding_of, statement_of, return_of, sequence_of}
use Rattle.js_syntax.specs.Nodes.{alone, of_part, of_parts, three, variables_of, declarator_of, block_of, label_of, for_of, for_each, case_of, if_of, try_of}
use Rattle.js_syntax.specs.Printable.{ends_open, is_named, is_switch, is_try}
use Rattle.js_syntax.specs.Tokens.{Lexeme, word, sign}
use Rattle.js_syntax.specs.Edges.{plain, edge, declared_edge, is_unnamed, is_body}
use Rattle.js_tokens.specs.Next.{lexeme, after}
use Rattle.js_reading.specs.declared.goal.Goal.{Goal}
use Rattle.js_reading.specs.declared.goal.Goal.TheVariants as goal
use Rattle.js_reading.specs.Reading.{Found, Reading, ◌>>=◌, sees, sees_word, same_line, expect, expect_word, binding, left_out, semicolon, do_end, separated}
use Rattle.js_reading.specs.Targets.{pattern_of}
use Rattle.js_reading.specs.Parts.{part, expression, settled}
use Rattle.js_reading.specs.Functions.{bound, initializer, enclosed, function}
use Rattle.js_reading.specs.Literals.{array, object, class}
use Rattle.js_reading.specs.Expressions.{target_in}

abbrev pub is_declaring : Text → Bool
is_declaring x = is_one_of x (map codes ("var" ∷ "let" ∷ "const" ∷ []))

-- whether what stands here is none of `return`'s, `break`'s or `continue`'s
unfoldable pub ends_here : Text → Bool
ends_here a = sees (codes ";") a || left_out plain a || not (same_line a)

unfoldable pub begins_async_function : Text → Bool
begins_async_function b = same_line b && sees_word (codes "function") b

-- ---- the first part of a `for` (14.7.4, 14.7.5)

-- what stands before a `;`, or before `in` or `of`
pub data Head : Type 0 where
  initial : Term → Head
  repeated : Term → Head

abbrev pub left_by : Option Term → Text → Reading Head
left_by None b = None
left_by (Some t) b = Some (repeated t, b)

-- a target as a pattern
abbrev pub tree_at : Option Term → Text → Reading Term
tree_at None b = None
tree_at (Some t) b = Some (t, b)

abbrev pub bound_in : Option Term → Text → Reading Term
bound_in None b = None
bound_in (Some t) b = tree_at (pattern_of false t) b

unfoldable pub destructured : Found → Text → Reading Term
destructured f b = bound_in (target_in f) b

abbrev pub is_named_tree : Term → Text → Reading Term
is_named_tree t b = if is_unnamed t then None else Some (t, b)

unfoldable pub sees_each : Text → Bool
sees_each a = sees_word (codes "in") a || sees_word (codes "of") a

module _ (sub : Goal → Text → Reading Found) where
  -- a pattern that binds names (14.3.3)
  unfoldable pub pattern : Text → Reading Term
  pattern a =
      if sees (codes "{") a then (object sub (after a) >>= destructured)
      else if sees (codes "[") a then (array sub (after a) >>= destructured)
      else binding a >>= λ x b. Some (binding_of x, b)

  unfoldable pub inner : Text → Reading Term
  inner a = sub goal.Statement a >>= λ f b. Some (f.tree, b)

  -- the body of another statement
  unfoldable pub embedded : Text → Reading Term
  embedded a = inner a >>= λ s b. if is_body s then Some (s, b) else None

  -- ( e )
  unfoldable pub condition : Text → Reading Term
  condition a = expect (codes "(") a >>= λ _ b. expression sub true b >>= λ e c. expect (codes ")") c >>= λ _ d. Some (e, d)

  unfoldable pub block : Text → Reading Term
  block a = expect (codes "{") a >>= λ _ b. enclosed sub b >>= λ ss c. Some (block_of ss, c)

  -- ---- declarations

  unfoldable pub declarator : Bool → Text → Reading Term
  declarator i a = bound sub a >>= λ p b. initializer sub i b >>= λ e c. Some (declarator_of p e, c)

  unfoldable pub declarators : Bool → Text → Reading (List Term)
  declarators i a = separated (declarator i) (length a) [] a

  -- behind the word
  unfoldable pub variables : Text → Text → Reading Term
  variables kind a = declarators true a >>= λ ds b. semicolon (declared_edge ds) b >>= λ _ c. Some (variables_of kind ds, c)

  -- behind `function`, behind `class`
  unfoldable pub function_declaration : Text → Text → Reading Term
  function_declaration async b = function sub Kind.FunctionDeclaration async b >>= is_named_tree

  unfoldable pub class_declaration : Text → Reading Term
  class_declaration b = class sub Kind.ClassDeclaration b >>= is_named_tree

  -- ---- what ends with an expression

  unfoldable pub ended : Text → Reading Term
  ended a = expression sub true a >>= λ e b. semicolon (edge e) b >>= λ _ c. Some (e, c)

  unfoldable pub effect : Text → Reading Term
  effect a = ended a >>= λ e b. Some (statement_of e, b)

  -- behind `return`
  unfoldable pub return_statement : Text → Reading Term
  return_statement a =
      if ends_here a then (semicolon plain a >>= λ _ b. Some (return_of absent, b)) else ended a >>= λ e b. Some (return_of e, b)

  -- behind `throw`
  unfoldable pub throw_statement : Text → Reading Term
  throw_statement a = if same_line a then (ended a >>= λ e b. Some (of_part Kind.ThrowStatement e, b)) else None

  unfoldable pub label : Text → Reading Term
  label a = if ends_here a then Some (absent, a) else binding a >>= λ x b. Some (label_of x, b)

  -- behind `break`, behind `continue`
  unfoldable pub jump : Kind → Text → Reading Term
  jump k a = label a >>= λ l b. semicolon plain b >>= λ _ c. Some (of_part k l, c)

  -- ---- if and the loops

  unfoldable pub alternate : Term → Term → Text → Reading Term
  alternate e s a =
      if sees_word (codes "else") a then (embedded (after a) >>= λ t b. if ends_open s then None else Some (if_of e s t, b))
      else Some (if_of e s absent, a)

  -- behind `if`
  unfoldable pub if_statement : Text → Reading Term
  if_statement a = condition a >>= λ e b. embedded b >>= λ s c. alternate e s c

  -- behind `while`
  unfoldable pub while_statement : Text → Reading Term
  while_statement a = condition a >>= λ e b. embedded b >>= λ s c. Some (of_parts Kind.WhileStatement e s, c)

  -- behind `do`
  unfoldable pub do_statement : Text → Reading Term
  do_statement a =
      embedded a >>= λ s b. expect_word (codes "while") b >>= λ _ c. condition c >>= λ e d. do_end d >>= λ _ f. Some (of_parts Kind.DoWhileStatement s e, f)

  -- behind the first declarator of a `for`
  unfoldable pub more_declarators : Text → Term → Text → Reading Head
  more_declarators kind d b =
      if sees (codes ",") b then (declarators false (after b) >>= λ ds c. Some (initial (variables_of kind (d ∷ ds)), c))
      else Some (initial (variables_of kind (d ∷ [])), b)

  -- behind `for (var`
  unfoldable pub declared_head : Text → Text → Reading Head
  declared_head kind a =
      bound sub a >>= λ p b.
      if sees_each b then Some (repeated (variables_of kind (declarator_of p absent ∷ [])), b)
      else initializer sub false b >>= λ e c. more_declarators kind (declarator_of p e) c

  -- behind the first expression of a `for`
  unfoldable pub more_expressions : Term → Text → Reading Head
  more_expressions e b =
      if sees (codes ",") b then (separated (part sub (goal.Expression 2 false)) (length (after b)) (e ∷ []) (after b) >>= λ es c. Some (initial (sequence_of (all es)), c))
      else Some (initial e, b)

  unfoldable pub found_head : Found → Text → Reading Head
  found_head f b = if sees_each b then left_by (target_in f) b else settled f b >>= more_expressions

  abbrev pub head_by : Option Lexeme → Text → Reading Head
  head_by (Some (word x)) a = if is_declaring x then declared_head x (after a) else sub (goal.Expression 2 false) a >>= found_head
  head_by o a = sub (goal.Expression 2 false) a >>= found_head

  unfoldable pub head : Text → Reading Head
  head a = if sees (codes ";") a then Some (initial absent, a) else head_by (lexeme a) a

  -- an expression, or nothing before this sign
  unfoldable pub perhaps : Text → Text → Reading Term
  perhaps s a = if sees s a then Some (absent, a) else expression sub true a

  unfoldable pub for_plain : Term → Text → Reading Term
  for_plain init a =
      expect (codes ";") a >>= λ _ b. perhaps (codes ";") b >>= λ test c. expect (codes ";") c >>= λ _ d. perhaps (codes ")") d >>= λ update e.
      expect (codes ")") e >>= λ _ f. embedded f >>= λ s g. Some (for_of init test update s, g)

  -- behind `in`, behind `of`
  unfoldable pub for_in : Term → Text → Reading Term
  for_in left a =
      expression sub true a >>= λ right b. expect (codes ")") b >>= λ _ c. embedded c >>= λ s d. Some (for_each Kind.ForInStatement [] left right s, d)

  unfoldable pub for_of_each : Text → Term → Text → Reading Term
  for_of_each await left a =
      part sub (goal.Expression 2 true) a >>= λ right b. expect (codes ")") b >>= λ _ c. embedded c >>= λ s d. Some (for_each Kind.ForOfStatement (await ∷ []) left right s, d)

  unfoldable pub for_repeated : Term → Text → Reading Term
  for_repeated left a =
      if sees_word (codes "in") a then for_in left (after a)
      else if is_named (codes "async") left then None
      else expect_word (codes "of") a >>= λ _ b. for_of_each [] left b

  abbrev pub for_by : Head → Text → Reading Term
  for_by (initial t) a = for_plain t a
  for_by (repeated t) a = for_repeated t a

  abbrev pub for_await_by : Head → Text → Reading Term
  for_await_by (initial t) a = None
  for_await_by (repeated t) a = expect_word (codes "of") a >>= λ _ b. for_of_each (codes "await") t b

  -- behind `for`
  unfoldable pub for_statement : Text → Reading Term
  for_statement a =
      if sees_word (codes "await") a then (expect (codes "(") (after a) >>= λ _ b. head b >>= for_await_by)
      else expect (codes "(") a >>= λ _ b. head b >>= for_by

  -- ---- switch and try

  -- the statements of a case
  unfoldable pub case_statements : ℕ → List Term → Text → Reading (List Term)
  case_statements zero found a = None
  case_statements (suc n) found a =
      if sees (codes "}") a || sees_word (codes "case") a || sees_word (codes "default") a then Some (found, a)
      else inner a >>= λ s b. case_statements n (found ++ s ∷ []) b

  -- behind `case`, behind `default`: what is tested, or nothing
  unfoldable pub case_test : Text → Reading Term
  case_test a = if sees_word (codes "default") a then Some (absent, after a) else expect_word (codes "case") a >>= λ _ b. expression sub true b

  unfoldable pub case_clause : Text → Reading Term
  case_clause a = case_test a >>= λ e b. expect (codes ":") b >>= λ _ c. case_statements (length c) [] c >>= λ ss d. Some (case_of e ss, d)

  unfoldable pub cases : ℕ → List Term → Text → Reading (List Term)
  cases zero found a = None
  cases (suc n) found a = if sees (codes "}") a then Some (found, a) else case_clause a >>= λ c b. cases n (found ++ c ∷ []) b

  -- behind `switch`
  unfoldable pub switch_statement : Text → Reading Term
  switch_statement a =
      condition a >>= λ e b. expect (codes "{") b >>= λ _ c. cases (length c) [] c >>= λ cs d. expect (codes "}") d >>= λ _ f.
      if is_switch (two e (list (all cs))) then Some (of_parts Kind.SwitchStatement e (list (all cs)), f) else None

  -- behind `catch`
  unfoldable pub catch_clause : Text → Reading Term
  catch_clause a =
      if sees (codes "(") a then (bound sub (after a) >>= λ p b. expect (codes ")") b >>= λ _ c. block c >>= λ s d. Some (of_parts Kind.CatchClause (of_part Kind.CatchParameter p) s, d))
      else block a >>= λ s b. Some (of_parts Kind.CatchClause absent s, b)

  unfoldable pub handler : Text → Reading Term
  handler a = if sees_word (codes "catch") a then catch_clause (after a) else Some (absent, a)

  unfoldable pub finalizer : Text → Reading Term
  finalizer a = if sees_word (codes "finally") a then block (after a) else Some (absent, a)

  -- behind `try`
  unfoldable pub try_statement : Text → Reading Term
  try_statement a =
      block a >>= λ s b. handler b >>= λ h c. finalizer c >>= λ f d. if is_try (three s h f) then Some (try_of s h f, d) else None

  -- ---- statements by their first token

  -- behind the name and the colon
  unfoldable pub labeled : Text → Text → Reading Term
  labeled x b = embedded b >>= λ s c. Some (of_parts Kind.LabeledStatement (label_of x) s, c)

  -- a word that begins no statement of its own
  unfoldable pub plain_statement : Text → Text → Reading Term
  plain_statement x a = if not (is_reserved x) && sees (codes ":") (after a) then labeled x (after (after a)) else effect a

  abbrev pub loop_statement : Text → Text → Reading Term
  loop_statement x a =
      if is_text x (codes "do") then do_statement (after a)
      else if is_text x (codes "while") then while_statement (after a)
      else if is_text x (codes "for") then for_statement (after a)
      else if is_text x (codes "continue") then jump Kind.ContinueStatement (after a)
      else if is_text x (codes "break") then jump Kind.BreakStatement (after a)
      else if is_text x (codes "debugger") then (semicolon plain (after a) >>= λ _ b. Some (alone Kind.DebuggerStatement, b))
      else plain_statement x a

  abbrev pub other_statement : Text → Text → Reading Term
  other_statement x a =
      if is_text x (codes "return") then return_statement (after a)
      else if is_text x (codes "throw") then throw_statement (after a)
      else if is_text x (codes "if") then if_statement (after a)
      else if is_text x (codes "switch") then switch_statement (after a)
      else if is_text x (codes "try") then try_statement (after a)
      else loop_statement x a

  unfoldable pub word_statement : Text → Text → Reading Term
  word_statement x a =
      if is_declaring x then variables x (after a)
      else if is_text x (codes "function") then function_declaration [] (after a)
      else if is_text x (codes "async") && begins_async_function (after a) then function_declaration (codes "async") (after (after a))
      else if is_text x (codes "class") then class_declaration (after a)
      else other_statement x a

  abbrev pub statement_by : Option Lexeme → Text → Reading Term
  statement_by (Some (word x)) a = word_statement x a
  statement_by (Some (sign s)) a = if is_text s (codes "{") then block a else if is_text s (codes ";") then Some (alone Kind.EmptyStatement, after a) else effect a
  statement_by o a = effect a

  unfoldable pub statement : Text → Reading Term
  statement a = statement_by (lexeme a) a
