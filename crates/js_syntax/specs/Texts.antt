-- The texts of each kind of node: names, operators, raw literals and flags, each as it stands in a module's text.
use Rattle.std.specs.Prelude.{ℕ, suc, nat_eq, length, ◌||◌, List, [], ◌∷◌, Bool, true, not, ◌&&◌, map, codes}
use Rattle.js_term.specs.Term.{Text}
use Rattle.js_term.specs.declared.kind.Kind.{Kind}
use Rattle.js_term.specs.Lexeme.{is_reserved, is_one_of}
use Rattle.js_syntax.specs.Parts.{text_at}
use Rattle.js_syntax.specs.Lexical.{is_name, is_numeral, is_big_integer, is_raw_string, is_template_text, is_regexp_body, is_regexp_flags, is_hashbang}

-- IdentifierReference, BindingIdentifier and LabelIdentifier in module code (ECMAScript 13.1)
abbrev pub is_free_name : Text → Bool
is_free_name x = is_name x && not (is_reserved x)

-- one of these words
abbrev pub word : List Text → Text → Bool
word ws x = is_one_of x ws

-- a flag that may be set: its word or nothing
abbrev pub flag : Text → Text → Bool
flag w x = is_one_of x ([] ∷ w ∷ [])

abbrev pub anything : Text → Bool
anything x = true

abbrev pub assignment_operators : List Text
assignment_operators = map codes ("=" ∷ "+=" ∷ "-=" ∷ "*=" ∷ "/=" ∷ "%=" ∷ "**=" ∷ "<<=" ∷ ">>=" ∷ ">>>=" ∷ "&=" ∷ "^=" ∷ "|=" ∷ "&&=" ∷ "||=" ∷ "??=" ∷ [])

abbrev pub logical_operators : List Text
logical_operators = map codes ("??" ∷ "||" ∷ "&&" ∷ [])

abbrev pub binary_operators : List Text
binary_operators = map codes ("|" ∷ "^" ∷ "&" ∷ "==" ∷ "!=" ∷ "===" ∷ "!==" ∷ "<" ∷ ">" ∷ "<=" ∷ ">=" ∷ "instanceof" ∷ "in" ∷ "<<" ∷ ">>" ∷ ">>>" ∷ "+" ∷ "-" ∷ "*" ∷ "/" ∷ "%" ∷ "**" ∷ [])

abbrev pub unary_operators : List Text
unary_operators = map codes ("delete" ∷ "void" ∷ "typeof" ∷ "+" ∷ "-" ∷ "~" ∷ "!" ∷ [])

abbrev pub update_operators : List Text
update_operators = map codes ("++" ∷ "--" ∷ [])

-- One test for each text of a node of the kind: names and literals (12), operators (13), and then flags.
abbrev pub literal_tests : Kind → List (Text → Bool)
literal_tests Kind.Directive = is_raw_string ∷ []
literal_tests Kind.BindingIdentifier = is_free_name ∷ []
literal_tests Kind.IdentifierName = is_name ∷ []
literal_tests Kind.PrivateIdentifier = is_name ∷ []
literal_tests Kind.LabelIdentifier = is_free_name ∷ []
literal_tests Kind.Identifier = is_free_name ∷ []
literal_tests Kind.StringLiteral = anything ∷ []
literal_tests Kind.NumericLiteral = is_numeral ∷ []
literal_tests Kind.BigIntLiteral = is_big_integer ∷ []
literal_tests Kind.BooleanLiteral = word (map codes ("true" ∷ "false" ∷ [])) ∷ []
literal_tests Kind.RegExpLiteral = is_regexp_body ∷ is_regexp_flags ∷ []
literal_tests Kind.TemplateElement = is_template_text ∷ []
literal_tests k = []

abbrev pub operator_tests : Kind → List (Text → Bool)
operator_tests Kind.AssignmentExpression = word assignment_operators ∷ []
operator_tests Kind.LogicalExpression = word logical_operators ∷ []
operator_tests Kind.BinaryExpression = word binary_operators ∷ []
operator_tests Kind.UnaryExpression = word unary_operators ∷ []
operator_tests Kind.UpdateExpression = word update_operators ∷ flag (codes "prefix") ∷ []
operator_tests k = literal_tests k

abbrev pub tests : Kind → List (Text → Bool)
tests Kind.ForOfStatement = flag (codes "await") ∷ []
tests Kind.VariableDeclaration = word (map codes ("var" ∷ "let" ∷ "const" ∷ [])) ∷ []
tests Kind.FunctionDeclaration = flag (codes "async") ∷ flag (codes "*") ∷ []
tests Kind.FunctionExpression = flag (codes "async") ∷ flag (codes "*") ∷ []
tests Kind.MethodDefinition = word (map codes ("constructor" ∷ "method" ∷ "get" ∷ "set" ∷ [])) ∷ flag (codes "computed") ∷ flag (codes "static") ∷ []
tests Kind.PropertyDefinition = flag (codes "computed") ∷ flag (codes "static") ∷ []
tests Kind.BindingProperty = flag (codes "computed") ∷ flag (codes "shorthand") ∷ []
tests Kind.AssignmentTargetProperty = flag (codes "computed") ∷ flag (codes "shorthand") ∷ []
tests Kind.ObjectProperty = word (map codes ("init" ∷ "get" ∷ "set" ∷ [])) ∷ flag (codes "method") ∷ flag (codes "shorthand") ∷ flag (codes "computed") ∷ []
tests Kind.ArrowFunctionExpression = flag (codes "async") ∷ []
tests Kind.YieldExpression = flag (codes "*") ∷ []
tests Kind.CallExpression = flag (codes "?.") ∷ []
tests Kind.StaticMemberExpression = flag (codes "?.") ∷ []
tests Kind.ComputedMemberExpression = flag (codes "?.") ∷ []
tests Kind.PrivateFieldExpression = flag (codes "?.") ∷ []
tests k = operator_tests k

-- each of the texts from the one numbered n on passes its test
abbrev pub pass_from : ℕ → List (Text → Bool) → List Text → Bool
pass_from n [] xs = true
pass_from n (test ∷ more_tests) xs = test (text_at n xs) && pass_from (suc n) more_tests xs

abbrev pub pass : List (Text → Bool) → List Text → Bool
pass ps xs = nat_eq (length xs) (length ps) && pass_from 0 ps xs

-- a program has no text or its hashbang
abbrev pub is_head : List Text → Bool
is_head xs = pass [] xs || pass (is_hashbang ∷ []) xs

abbrev pub has_texts : Kind → List Text → Bool
has_texts Kind.Program texts = is_head texts
has_texts k texts = pass (tests k) texts
