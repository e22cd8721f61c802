-- Expressions and statements of small modules are ones of the whole language.
use Rattle.std.proofs.Common.{refl, ℕ, List, Bool, true}
use Rattle.js_term.specs.Term.{Text, Term, all}
use Rattle.js_term.specs.Lexeme.{Manner}
use Rattle.js_term.specs.Node.{body_of}
use Rattle.js_term.specs.Spells.{level, joined}
use Rattle.js_term.specs.Spells as small
use Rattle.js_syntax.specs.Spelling.{Sort, expression, argument, element, property_item, Item, Stands, Expression, Listed, Group, Body, Statements, Statement, Declaration}
use Rattle.js_syntax.specs.Spelling as whole
use Rattle.js_syntax.proofs.NarrowStarts.{listed_begins, statements_no_string}
use Rattle.js_syntax.proofs.NarrowBytes.{stands_opens, listed_opens}
use Rattle.js_syntax.proofs.NarrowTokens.{same_line_is, word_is, number_is, string_is, left_brace_is, right_brace_is, left_paren_is, right_paren_is, left_bracket_is, right_bracket_is, comma_is, semicolon_is, colon_is, equals_is, dot_is}
use Rattle.js_syntax.proofs.NarrowParts.{listed_present, properties_present, Listing, nothing, something, grouped, listed_of, sequence_of_several, parameters_are}

-- a sort of item that an expression is
record Takes (s : Sort) : Type 0 where
  item : {n : ℕ} {e : Term} {a b : Text} → Stands true n e a b → Item s e a b

mutual
  pub stands_is : {m : Manner} {e : Term} {a b : Text} → small.Stands m e a b → (i : Bool) → Stands i (level e) e a b
  stands_is (small.identifier r t) i = whole.identifier r (word_is t)
  stands_is (small.boolean v t) i = whole.boolean v (word_is t)
  stands_is (small.numeric t) i = whole.numeric (number_is t)
  stands_is (small.string_literal t) i = let s = string_is t in whole.string_literal s.token
  stands_is (small.parenthesized t es u) i = whole.parenthesized (left_paren_is t) (expression_is es) (right_paren_is u)
  stands_is (small.call l s t es u) i = whole.call l (stands_is s i) (whole.arguments (left_paren_is t) (group_is es argument (record { item = whole.an_argument })) (right_paren_is u))
  stands_is (small.member l s t u) i = whole.member l (stands_is s i) (whole.static_access (whole.plain_dot (dot_is t u)) (word_is u))
  stands_is (small.await_expression l t s) i = whole.await_expression l (word_is t) (stands_is s i)
  stands_is (small.array t es u) i = whole.array (left_bracket_is t) (group_is es element (record { item = whole.an_element })) (right_bracket_is u)
  stands_is (small.object t ps u) i = whole.object (left_brace_is t) (grouped (properties_present ps) (properties_are ps)) (right_brace_is u)

  pub expression_is : {m : Manner} {es : List Term} {a b : Text} → small.Listed m es a b → Expression true (joined es) a b
  expression_is (small.last l s) = whole.single (stands_is s true)
  expression_is (small.and l s t es) = sequence_of_several es (whole.and (whole.an_expression (stands_is s true)) (comma_is t) (listed_is es (expression true) (record { item = whole.an_expression })))

  listed_is : {m : Manner} {es : List Term} {a b : Text} → small.Listed m es a b → (s : Sort) → Takes s → Listed s es a b
  listed_is (small.last l e) s takes = whole.last (takes.item (stands_is e true))
  listed_is (small.and l e t es) s takes = whole.and (takes.item (stands_is e true)) (comma_is t) (listed_is es s takes)

  group_is : {m : Manner} {es : List Term} {a b : Text} → small.Group m es a b → (s : Sort) → Takes s → Group s es a b
  group_is small.no_items s takes = whole.no_items
  group_is (small.some_items es) s takes = whole.items (listed_present es) (listed_is es s takes)

  properties_are : {m : Manner} {ps : List Term} {a b : Text} → small.Properties m ps a b → Listing property_item ps a b
  properties_are small.no_properties = nothing
  properties_are (small.last_property p) = something (whole.last (property_is p))
  properties_are (small.and_property p t ps) = something (whole.and (property_is p) (comma_is t) (listed_of (properties_are ps)))

  property_is : {m : Manner} {p : Term} {a b : Text} → small.Property m p a b → Item property_item p a b
  property_is (small.init l t u s) = whole.a_property (whole.name_key (word_is t)) (colon_is u) (stands_is s true)
  property_is (small.method t u ps v b) = whole.a_method (whole.method whole.no_async whole.no_star (whole.public_key (whole.name_key (word_is t))) (whole.method_function (parameters_are u ps v) (body_is b))) refl

  body_is : {m : Manner} {ss : List Term} {a b : Text} → small.Body m ss a b → Body (body_of (all ss)) a b
  body_is (small.body t ss u) = whole.body (statements_no_string ss) (left_brace_is t) whole.no_directives (statements_are ss) (right_brace_is u)

  statements_are : {m : Manner} {ss : List Term} {a b : Text} → small.Statements m ss a b → Statements ss a b
  statements_are small.no_statements = whole.no_statements
  statements_are (small.next_statement s ss) = whole.next_statement (statement_is s) (statements_are ss)

  pub statement_is : {m : Manner} {s : Term} {a b : Text} → small.Statement m s a b → Statement s a b
  statement_is (small.declaration d) = whole.declaration (declaration_is d)
  statement_is (small.returns {b = b} t l es u) = whole.return_statement (word_is t) (same_line_is b l (listed_opens es)) (expression_is es) (whole.written (semicolon_is u))
  statement_is (small.expression o n es t) = whole.expression_statement (listed_begins es o) (expression_is es) (whole.written (semicolon_is t))

  pub declaration_is : {m : Manner} {s : Term} {a b : Text} → small.Declaration m s a b → Declaration s a b
  declaration_is (small.constant r l t u v e w) =
      whole.variables (whole.declarators refl (word_is t) (whole.last (whole.an_initialized (whole.binding r (word_is u)) (equals_is v (stands_opens e)) (stands_is e true)))) (whole.written (semicolon_is w))
  declaration_is (small.function r t u v ps w b) =
      whole.function_declaration refl (whole.function whole.no_async (word_is t) whole.no_star (whole.named r (word_is u)) (parameters_are v ps w) (body_is b))
