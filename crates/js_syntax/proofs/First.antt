-- The first token of a statement, and texts that begin with none.
use Rattle.std.proofs.Common.{◌≡◌, refl, ℕ, Bool, true, false, ◌||◌, List, [], ◌∷◌, map}
use Rattle.std.specs.Prelude.{codes}
use Rattle.std.proofs.lemmas.Bool.{or_left, or_right}
use Rattle.js_term.specs.Term.{Text, Term}
use Rattle.js_term.specs.declared.kind.Kind.{Kind}
use Rattle.js_term.specs.Lexeme.{is_one_of}
use Rattle.js_syntax.specs.Tokens.{Lexeme, sign, template_middle, template_tail, Token, Word, Sign}
use Rattle.js_syntax.specs.Edges.{is_unary, is_update}
use Rattle.js_syntax.specs.Spelling.{Operator, Async, Sort, Stands, Expression, Item, Listed, Template, Spine, BareNew, Target, ArrowHead, Parameters, FunctionText, ClassText, Block, Statement, Declaration, Variables, word_operator, sign_operator, no_async, with_async, expression, identifier, this_expression, null_literal, boolean, numeric, bigint, string_literal, regexp_literal, template, array, object, function_expression, class_expression, parenthesized, import_meta, new_target, member, super_member, tagged, construction, bare_construction, call, super_call, import_call, chain, update_behind, update_before, unary, await_expression, exponentiation, binary, private_in, conjunction, disjunction, coalescing, conditional, assignment, arrow, bare_yield, yielding, delegating, single, sequence, an_expression, last, and, first_link, next_link, new_member, new_new, whole_template, template_parts, parameters, function, arrow_parameters, arrow_name, arrow_async, class, simple_target, object_target, array_target, block, block_statement, declaration, empty_statement, expression_statement, if_statement, if_else, do_while, while_statement, for_statement, for_in, for_of_statement, for_await, continue_statement, break_statement, bare_return, return_statement, switch_statement, labeled, throw_statement, try_statement, debugger, variables, function_declaration, class_declaration, declarators}
use Rattle.js_syntax.specs.Modules.{ModuleItem, statement, bare_import, import_from, export_all, export_all_as, export_named, export_from, export_declaration, export_default}

-- ---- tokens that begin a statement, an import or an export

abbrev pub begins_item : Lexeme → Bool
begins_item (sign s) = is_unary s || (is_update s || is_one_of s (map codes ("(" ∷ "[" ∷ "{" ∷ ";" ∷ [])))
begins_item (template_middle raw) = false
begins_item (template_tail raw) = false
begins_item l = true

pub record First (text : Text) : Type 0 where
  pub lexeme : Lexeme
  pub rest : Text
  pub token : Token text lexeme rest
  pub begins : begins_item lexeme ≡ true

pub first_token : {a b : Text} {l : Lexeme} → Token a l b → begins_item l ≡ true → First a
first_token {a} {b} {l} t e = record { lexeme = l; rest = b; token = t; begins = e }

first_word : {x a b : Text} → Word x a b → First a
first_word w = first_token w refl

first_sign : {s a b : Text} → Sign s a b → begins_item (sign s) ≡ true → First a
first_sign s e = first_token s e

update_first : {s a b : Text} → is_update s ≡ true → Sign s a b → First a
update_first {s} e x = first_sign x (or_right (is_unary s) _ (or_left (is_update s) _ e))

operator_first : {op a b : Text} → is_unary op ≡ true → Operator op a b → First a
operator_first e (word_operator _ w) = first_word w
operator_first {op} e (sign_operator s) = first_sign s (or_left (is_unary op) _ e)

async_first : {x a b : Text} → Async x a b → First b → First a
async_first no_async y = y
async_first (with_async w _) y = first_word w

-- of the lists only those of expressions begin a statement
abbrev FirstOf : Sort → Text → Type 0
FirstOf (expression i) a = First a
FirstOf s a = Unit {0}

mutual
  stands_first : {i : Bool} {n : ℕ} {e : Term} {a b : Text} → Stands i n e a b → First a
  stands_first (identifier _ x) = first_word x
  stands_first (this_expression x) = first_word x
  stands_first (null_literal x) = first_word x
  stands_first (boolean _ x) = first_word x
  stands_first (numeric x) = first_token x refl
  stands_first (bigint x) = first_token x refl
  stands_first (string_literal x) = first_token x refl
  stands_first (regexp_literal x) = first_token x refl
  stands_first (template x) = template_first x
  stands_first (array x _ _) = first_sign x refl
  stands_first (object x _ _) = first_sign x refl
  stands_first (function_expression x) = function_text_first x
  stands_first (class_expression x) = class_text_first x
  stands_first (parenthesized x _ _) = first_sign x refl
  stands_first (import_meta x _ _) = first_word x
  stands_first (new_target x _ _) = first_word x
  stands_first (member _ x _) = stands_first x
  stands_first (super_member x _ _) = first_word x
  stands_first (tagged _ x _) = stands_first x
  stands_first (construction x _ _ _) = first_word x
  stands_first (bare_construction x) = bare_new_first x
  stands_first (call _ x _) = stands_first x
  stands_first (super_call x _) = first_word x
  stands_first (import_call x _ _ _ _) = first_word x
  stands_first (chain x) = spine_first x
  stands_first (update_behind _ _ x _ _) = stands_first x
  stands_first (update_before x _ y _) = update_first x y
  stands_first (unary x _ y _) = operator_first x y
  stands_first (await_expression _ x _) = first_word x
  stands_first (exponentiation _ _ x _ _) = stands_first x
  stands_first (binary _ _ _ _ x _ _) = stands_first x
  stands_first (private_in _ x _ _) = first_token x refl
  stands_first (conjunction _ _ x _ _) = stands_first x
  stands_first (disjunction _ _ x _ _) = stands_first x
  stands_first (coalescing _ _ x _ _) = stands_first x
  stands_first (conditional _ x _ _ _ _) = stands_first x
  stands_first (assignment _ _ x _ _) = target_first x
  stands_first (arrow x _ _ _) = arrow_head_first x
  stands_first (bare_yield x) = first_word x
  stands_first (yielding x _ _) = first_word x
  stands_first (delegating x _ _ _) = first_word x

  expression_first : {i : Bool} {e : Term} {a b : Text} → Expression i e a b → First a
  expression_first (single x) = stands_first x
  expression_first (sequence _ x) = listed_first x

  item_first : {s : Sort} {e : Term} {a b : Text} → Item s e a b → FirstOf s a
  item_first (an_expression x) = stands_first x
  item_first _ = tt

  listed_first : {s : Sort} {es : List Term} {a b : Text} → Listed s es a b → FirstOf s a
  listed_first (last x) = item_first x
  listed_first (and x _ _) = item_first x

  template_first : {s : Bool} {qs es : List Term} {a b : Text} → Template s qs es a b → First a
  template_first (whole_template _ x) = first_token x refl
  template_first (template_parts _ x _ _) = first_token x refl

  spine_first : {i : Bool} {e : Term} {a b : Text} → Spine i e a b → First a
  spine_first (first_link _ x _) = stands_first x
  spine_first (next_link x _) = spine_first x

  bare_new_first : {i : Bool} {e : Term} {a b : Text} → BareNew i e a b → First a
  bare_new_first (new_member x _ _) = first_word x
  bare_new_first (new_new x _) = first_word x

  target_first : {i : Bool} {t : Term} {a b : Text} → Target i t a b → First a
  target_first (simple_target _ x) = stands_first x
  target_first (object_target x _ _) = first_sign x refl
  target_first (array_target x _ _) = first_sign x refl

  arrow_head_first : {x : Text} {t : Term} {a b : Text} → ArrowHead x t a b → First a
  arrow_head_first (arrow_parameters x) = parameters_first x
  arrow_head_first (arrow_name _ x) = first_word x
  arrow_head_first (arrow_async x _ _) = first_word x

  parameters_first : {c : Bool} {t : Term} {a b : Text} → Parameters c t a b → First a
  parameters_first (parameters x _ _) = first_sign x refl

  function_text_first : {k : Kind} {t : Term} {a b : Text} → FunctionText k t a b → First a
  function_text_first (function x y _ _ _ _) = async_first x (first_word y)

  class_text_first : {k : Kind} {t : Term} {a b : Text} → ClassText k t a b → First a
  class_text_first (class x _ _ _ _ _) = first_word x

  block_first : {t : Term} {a b : Text} → Block t a b → First a
  block_first (block x _ _) = first_sign x refl

  statement_first : {t : Term} {a b : Text} → Statement t a b → First a
  statement_first (block_statement x) = block_first x
  statement_first (declaration x) = declaration_first x
  statement_first (empty_statement x) = first_sign x refl
  statement_first (expression_statement _ x _) = expression_first x
  statement_first (if_statement x _ _ _ _) = first_word x
  statement_first (if_else _ x _ _ _ _ _ _) = first_word x
  statement_first (do_while x _ _ _ _ _ _) = first_word x
  statement_first (while_statement x _ _ _ _) = first_word x
  statement_first (for_statement x _ _ _ _ _ _ _ _) = first_word x
  statement_first (for_in x _ _ _ _ _ _) = first_word x
  statement_first (for_of_statement _ x _ _ _ _ _ _) = first_word x
  statement_first (for_await x _ _ _ _ _ _ _) = first_word x
  statement_first (continue_statement x _ _) = first_word x
  statement_first (break_statement x _ _) = first_word x
  statement_first (bare_return x _) = first_word x
  statement_first (return_statement x _ _ _) = first_word x
  statement_first (switch_statement _ x _ _ _ _ _ _) = first_word x
  statement_first (labeled _ x _ _) = first_word x
  statement_first (throw_statement x _ _ _) = first_word x
  statement_first (try_statement _ x _ _ _) = first_word x
  statement_first (debugger x _) = first_word x

  declaration_first : {t : Term} {a b : Text} → Declaration t a b → First a
  declaration_first (variables x _) = variables_first x
  declaration_first (function_declaration _ x) = function_text_first x
  declaration_first (class_declaration _ x) = class_text_first x

  variables_first : {i : Bool} {x : Text} {ds : List Term} {a b : Text} → Variables i x ds a b → First a
  variables_first (declarators _ x _) = first_word x

pub module_item_first : {t : Term} {a b : Text} → ModuleItem t a b → First a
module_item_first (statement x) = statement_first x
module_item_first (bare_import x _ _) = first_word x
module_item_first (import_from x _ _ _) = first_word x
module_item_first (export_all x _ _ _) = first_word x
module_item_first (export_all_as x _ _ _ _ _) = first_word x
module_item_first (export_named x _ _) = first_word x
module_item_first (export_from x _ _ _) = first_word x
module_item_first (export_declaration x _) = first_word x
module_item_first (export_default x _ _) = first_word x
