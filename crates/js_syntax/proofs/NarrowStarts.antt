-- How the expressions of small modules begin, and what their statements are.
use Rattle.std.proofs.Common.{◌≡◌, refl, ◌∙◌, List, [], ◌∷◌, ◌++◌, Bool, true, false, ◌||◌}
use Rattle.std.proofs.lemmas.Bool.{and_parts}
use Rattle.std.specs.List.{list_all}
use Rattle.js_term.specs.Term.{Text, Term, absent, list, node}
use Rattle.js_term.specs.declared.kind.Kind.{Kind}
use Rattle.js_term.specs.Lexeme.{Manner, IsSpelled, is_mark, Token, left_brace, is_blank, front, opens_otherwise}
use Rattle.js_term.specs.Spells.{is_kind_of_string, is_string_literal, joined, Stands, identifier, boolean, numeric, string_literal, parenthesized, call, member, await_expression, array, object, Listed, last, and, Statements, no_statements, next_statement, Statement, declaration, returns, expression, Declaration, constant, function}
use Rattle.js_syntax.specs.Edges.{begins_with_brace, begins_with_definition, is_string_kind, has_kind, begins_with_string}

front_gap : (gap s : Text) → list_all is_blank gap ≡ true → front (gap ++ s) ≡ front s
front_gap [] s h = refl
front_gap (c ∷ cs) s h = let (one, more) = and_parts (is_blank c) (list_all is_blank cs) h in rw one (front_gap cs s more)

brace_opens : {m : Manner} {a b : Text} → Token m a left_brace b → opens_otherwise a ≡ true
brace_opens {m} {a} {b} t = by t.is_spelled t.whole_is
  where
    by : {s : Text} → IsSpelled m left_brace s b → a ≡ t.gap ++ (s ++ b) → opens_otherwise a ≡ true
    by (is_mark w) e = rw (e, front_gap t.gap (123 ∷ b) t.blank) refl

abbrev is_other : Term → Bool
is_other e = begins_with_brace e || begins_with_definition e

-- a text that begins with no brace begins so by its leftmost part
stands_begins : {m : Manner} {e : Term} {a b : Text} → Stands m e a b → opens_otherwise a ≡ false → is_other e ≡ false
stands_begins (identifier r t) h = refl
stands_begins (boolean v t) h = refl
stands_begins (numeric t) h = refl
stands_begins (string_literal t) h = refl
stands_begins (parenthesized t es u) h = refl
stands_begins (call l s t g u) h = stands_begins s h
stands_begins (member l s t u) h = stands_begins s h
stands_begins (await_expression l t s) h = refl
stands_begins (array t g u) h = refl
stands_begins (object t g u) h = let o = brace_opens t in absurd (cc)

pub listed_begins : {m : Manner} {es : List Term} {a b : Text} → Listed m es a b → opens_otherwise a ≡ false → begins_with_brace (joined es) || begins_with_definition (joined es) ≡ false
listed_begins (last l s) h = stands_begins s h
listed_begins (and l s t (last k u)) h = stands_begins s h
listed_begins (and l s t (and k u v w)) h = stands_begins s h

string_kind : (k : Kind) → is_string_kind k ≡ is_kind_of_string k
string_kind Kind.StringLiteral = refl
string_kind k = refl

string_term : (t : Term) → is_string_literal t ≡ false → has_kind is_string_kind t ≡ false
string_term absent h = refl
string_term (list ts) h = refl
string_term (node k texts ts) h = string_kind k ∙ h

declaration_no_string : {m : Manner} {s : Term} {a b : Text} (ss : List Term) → Declaration m s a b → begins_with_string (s ∷ ss) ≡ false
declaration_no_string ss (constant r l t u v e w) = refl
declaration_no_string ss (function r t u v ps w b) = refl

pub statement_no_string : {m : Manner} {s : Term} {a b : Text} (ss : List Term) → Statement m s a b → begins_with_string (s ∷ ss) ≡ false
statement_no_string ss (declaration d) = declaration_no_string ss d
statement_no_string ss (returns t l es u) = refl
statement_no_string ss (expression {es} o n l t) = string_term (joined es) n

pub statements_no_string : {m : Manner} {ss : List Term} {a b : Text} → Statements m ss a b → begins_with_string ss ≡ false
statements_no_string no_statements = refl
statements_no_string (next_statement {ss} s rest) = statement_no_string ss s
