-- What is printed of each kind of node, in order: a row of pieces. Blanks stand as they are shown; a reader takes any gaps.
use Rattle.std.specs.Prelude.{ℕ, zero, suc, List, [], ◌∷◌, ◌++◌, Bool, true, false, not, ◌&&◌, ◌||◌, if◌then◌else◌, nat_eq, nat_lt, codes}
use Rattle.js_term.specs.Term.{Text, is_text, Term, absent, list, node, Terms, none, more, first, items, flag}
use Rattle.js_term.specs.declared.kind.Kind.{Kind}
use Rattle.js_term.specs.Scope.{kid}
use Rattle.js_syntax.specs.Parts.{is_node, is_present, is_set_at, first_is, text_at, text_of, texts_of}
use Rattle.js_syntax.specs.Edges.{is_word_operator}
use Rattle.js_syntax.specs.Printable.{same}

pub data Piece : Type 0 where
  -- a text as it stands
  say : Text → Piece
  -- the part numbered so
  part : ℕ → Piece
  -- the items of the list numbered so, with a separator between: all, only so many at the front, all but so many
  each : Text → ℕ → Piece
  heads : ℕ → Text → ℕ → Piece
  past : ℕ → Text → ℕ → Piece
  -- the texts of a template, with its expressions in `${` and `}` between (13.2.8)
  woven : ℕ → ℕ → Piece

-- ---- small parts of rows

abbrev pub when : Bool → List Piece → List Piece
when true ps = ps
when false ps = []

abbrev pub comma : Text
comma = codes ", "

abbrev pub blank : Text
blank = codes " "

abbrev pub line : Text
line = codes "\n"

-- whether a list has something in it
abbrev pub has_items : Term → Bool
has_items (list (more t ts)) = true
has_items t = false

-- a word for the flag numbered so, where it is set
abbrev pub set : ℕ → List Text → Text → Text
set n texts word = flag (is_set_at n texts) word

-- a word before or behind a part that is there
abbrev pub there : Term → Text → Text
there t word = flag (is_present t) word

-- `{}` round nothing, `{ ` and ` }` round something
abbrev pub braces : Bool → List Piece → List Piece
braces true ps = say (codes "{ ") ∷ (ps ++ say (codes " }") ∷ [])
braces false ps = say (codes "{") ∷ (ps ++ say (codes "}") ∷ [])

abbrev pub block : ℕ → Terms → List Piece
block n ts = braces (has_items (kid n ts)) (each blank n ∷ [])

-- strings stand in single quotes (12.9.4)
abbrev pub escaped : ℕ → Text
escaped c = if nat_eq c 92 then codes "\\\\" else if nat_eq c 39 then codes "\\'" else if nat_eq c 10 then codes "\\n" else if nat_eq c 13 then codes "\\r" else c ∷ []

abbrev pub all_escaped : Text → Text
all_escaped [] = []
all_escaped (c ∷ cs) = escaped c ++ all_escaped cs

abbrev pub quoted : Text → Text
quoted value = 39 ∷ (all_escaped value ++ 39 ∷ [])

-- the line of a hashbang (12.5)
abbrev pub hashbang_line : List Text → Text
hashbang_line [] = []
hashbang_line (x ∷ xs) = codes "#!" ++ (x ++ line)

-- whether an argument begins with the sign before it (13.5)
abbrev pub is_sign_of : Text → Kind → List Text → Bool
is_sign_of op Kind.UnaryExpression (x ∷ xs) = is_text x op
is_sign_of op Kind.UpdateExpression (x ∷ xs) = is_text x (op ++ op) && is_set_at 0 xs
is_sign_of op k texts = false

abbrev pub meets : Text → Term → Bool
meets op (node k texts ts) = is_sign_of op k texts
meets op t = false

-- whether the last item is a hole, behind which a comma stands (13.2.4)
abbrev pub is_hole : Term → Bool
is_hole absent = true
is_hole t = false

abbrev pub ends_in_hole : Terms → Bool
ends_in_hole none = false
ends_in_hole (more t none) = is_hole t
ends_in_hole (more t ts) = ends_in_hole ts

-- items, and a rest behind them (14.3.3)
abbrev pub rested : Terms → List Piece
rested ts = each comma 0 ∷ say (flag (has_items (kid 0 ts)) (there (kid 1 ts) comma)) ∷ part 1 ∷ []

abbrev pub ends_open : Terms → Bool
ends_open ts = not (is_present (kid 1 ts)) && ends_in_hole (items (kid 0 ts))

-- a key, in brackets where it is computed
abbrev pub key : Bool → List Piece
key computed = say (flag computed (codes "[")) ∷ part 0 ∷ say (flag computed (codes "]")) ∷ []

-- the words before the key of a method (15.4): those of its kind, or the flags of its function
abbrev pub method_words : Text → Term → Text
method_words kind f = if is_text kind (codes "get") then codes "get " else if is_text kind (codes "set") then codes "set " else set 0 (texts_of f) (codes "async ") ++ set 1 (texts_of f) (codes "*")

-- whether a property of an object has a function that is printed as a method (13.2.5)
abbrev pub is_method : List Text → Bool
is_method texts = is_set_at 1 texts || not (first_is (codes "init") texts)

-- a method's function without its flags
abbrev pub method_row : List Piece
method_row = part 1 ∷ say blank ∷ part 2 ∷ []

-- key: value, or one name where the flag of shorthand is set; a default goes with the value
abbrev pub pair : Bool → Bool → List Piece
pair computed shorthand = if shorthand then part 1 ∷ [] else key computed ++ (say (codes ": ") ∷ part 1 ∷ [])

-- a part, or a part with a default
abbrev pub defaulted : Terms → List Piece
defaulted ts = part 0 ∷ when (is_present (kid 1 ts)) (say (codes " = ") ∷ part 1 ∷ [])

-- whether the two names of a specifier are one (16.2.2, 16.2.3)
abbrev pub are_one : Term → Term → Bool
are_one a b = same (is_node Kind.StringLiteral a) (is_node Kind.StringLiteral b) && is_text (text_of a) (text_of b)

abbrev pub specifier : Terms → List Piece
specifier ts = part 0 ∷ when (not (are_one (kid 0 ts) (kid 1 ts))) (say (codes " as ") ∷ part 1 ∷ [])

-- The specifiers before the braces: a default one and a namespace (16.2.2).
abbrev pub outside : Terms → ℕ
outside none = 0
outside (more t ts) = if is_node Kind.ImportSpecifier t then 0 else suc (outside ts)

abbrev pub has_named : Terms → Bool
has_named none = false
has_named (more t ts) = is_node Kind.ImportSpecifier t || has_named ts

abbrev pub named : ℕ → Bool → List Piece
named zero some = braces some (past 0 comma 0 ∷ [])
named (suc n) some = when some (say comma ∷ braces true (past (suc n) comma 0 ∷ []))

abbrev pub import_clause : Term → List Piece
import_clause (list ts) = heads (outside ts) comma 0 ∷ (named (outside ts) (has_named ts) ++ (say (codes " from ") ∷ []))
import_clause t = []

-- ---- rows

-- ECMAScript 14. A declaration in the head of a `for` has no semicolon.
abbrev pub statement_row : Bool → Kind → List Text → Terms → List Piece
statement_row i Kind.BlockStatement texts ts = block 0 ts
statement_row i Kind.BreakStatement texts ts = say (codes "break") ∷ say (there (kid 0 ts) blank) ∷ part 0 ∷ say (codes ";") ∷ []
statement_row i Kind.ContinueStatement texts ts = say (codes "continue") ∷ say (there (kid 0 ts) blank) ∷ part 0 ∷ say (codes ";") ∷ []
statement_row i Kind.DebuggerStatement texts ts = say (codes "debugger;") ∷ []
statement_row i Kind.DoWhileStatement texts ts = say (codes "do ") ∷ part 0 ∷ say (codes " while (") ∷ part 1 ∷ say (codes ");") ∷ []
statement_row i Kind.EmptyStatement texts ts = say (codes ";") ∷ []
statement_row i Kind.ExpressionStatement texts ts = part 0 ∷ say (codes ";") ∷ []
statement_row i Kind.ForInStatement texts ts = say (codes "for (") ∷ part 0 ∷ say (codes " in ") ∷ part 1 ∷ say (codes ") ") ∷ part 2 ∷ []
statement_row i Kind.ForOfStatement texts ts = say (codes "for ") ∷ say (set 0 texts (codes "await ")) ∷ say (codes "(") ∷ part 0 ∷ say (codes " of ") ∷ part 1 ∷ say (codes ") ") ∷ part 2 ∷ []
statement_row i Kind.ForStatement texts ts = say (codes "for (") ∷ part 0 ∷ say (codes "; ") ∷ part 1 ∷ say (codes "; ") ∷ part 2 ∷ say (codes ") ") ∷ part 3 ∷ []
statement_row i Kind.IfStatement texts ts = say (codes "if (") ∷ part 0 ∷ say (codes ") ") ∷ part 1 ∷ say (there (kid 2 ts) (codes " else ")) ∷ part 2 ∷ []
statement_row i Kind.LabeledStatement texts ts = part 0 ∷ say (codes ": ") ∷ part 1 ∷ []
statement_row i Kind.ReturnStatement texts ts = say (codes "return") ∷ say (there (kid 0 ts) blank) ∷ part 0 ∷ say (codes ";") ∷ []
statement_row i Kind.SwitchStatement texts ts = say (codes "switch (") ∷ part 0 ∷ say (codes ") ") ∷ block 1 ts
statement_row i Kind.SwitchCase texts ts = say (if is_present (kid 0 ts) then codes "case " else codes "default") ∷ part 0 ∷ say (codes ":") ∷ say (flag (has_items (kid 1 ts)) blank) ∷ each blank 1 ∷ []
statement_row i Kind.ThrowStatement texts ts = say (codes "throw ") ∷ part 0 ∷ say (codes ";") ∷ []
statement_row i Kind.TryStatement texts ts = say (codes "try ") ∷ part 0 ∷ say (there (kid 1 ts) blank) ∷ part 1 ∷ say (there (kid 2 ts) (codes " finally ")) ∷ part 2 ∷ []
statement_row i Kind.CatchClause texts ts = say (codes "catch ") ∷ say (there (kid 0 ts) (codes "(")) ∷ part 0 ∷ say (there (kid 0 ts) (codes ") ")) ∷ part 1 ∷ []
statement_row i Kind.CatchParameter texts ts = part 0 ∷ []
statement_row i Kind.WhileStatement texts ts = say (codes "while (") ∷ part 0 ∷ say (codes ") ") ∷ part 1 ∷ []
statement_row i Kind.VariableDeclaration texts ts = say (first texts) ∷ say blank ∷ each comma 0 ∷ say (flag i (codes ";")) ∷ []
statement_row i Kind.VariableDeclarator texts ts = defaulted ts
statement_row i k texts ts = say (first texts) ∷ []

-- 16.2, and a module's own lists, a line each
abbrev pub module_row : Bool → Kind → List Text → Terms → List Piece
module_row i Kind.Program texts ts = say (hashbang_line texts) ∷ each line 0 ∷ say (flag (has_items (kid 0 ts)) line) ∷ each line 1 ∷ say (flag (has_items (kid 1 ts)) line) ∷ []
module_row i Kind.Directive texts ts = say (first texts) ∷ say (codes ";") ∷ []
module_row i Kind.ImportDeclaration texts ts = say (codes "import ") ∷ (import_clause (kid 0 ts) ++ (part 1 ∷ say (codes ";") ∷ []))
module_row i Kind.ImportSpecifier texts ts = specifier ts
module_row i Kind.ImportDefaultSpecifier texts ts = part 0 ∷ []
module_row i Kind.ImportNamespaceSpecifier texts ts = say (codes "* as ") ∷ part 0 ∷ []
module_row i Kind.ExportAllDeclaration texts ts = say (codes "export *") ∷ say (there (kid 0 ts) (codes " as ")) ∷ part 0 ∷ say (codes " from ") ∷ part 1 ∷ say (codes ";") ∷ []
module_row i Kind.ExportNamedDeclaration texts ts = say (codes "export ") ∷ (braces (has_items (kid 0 ts)) (each comma 0 ∷ []) ++ (say (codes ";") ∷ []))
module_row i Kind.ExportFromDeclaration texts ts = say (codes "export ") ∷ (braces (has_items (kid 0 ts)) (each comma 0 ∷ []) ++ (say (codes " from ") ∷ part 1 ∷ say (codes ";") ∷ []))
module_row i Kind.ExportSpecifier texts ts = specifier ts
module_row i Kind.ExportDeclaration texts ts = say (codes "export ") ∷ part 0 ∷ []
module_row i Kind.ExportDefaultDeclaration texts ts = say (codes "export default ") ∷ part 0 ∷ say (if is_node Kind.FunctionDeclaration (kid 0 ts) || is_node Kind.ClassDeclaration (kid 0 ts) then [] else codes ";") ∷ []
module_row i k texts ts = statement_row i k texts ts

-- async function* x(ps) { ss } (15.2)
abbrev pub function_parts : List Text → Terms → List Piece
function_parts texts ts = say (set 0 texts (codes "async ")) ∷ say (codes "function") ∷ say (set 1 texts (codes "*")) ∷ say (there (kid 0 ts) blank) ∷ part 0 ∷ part 1 ∷ say blank ∷ part 2 ∷ []

-- class x extends e { es } (15.7)
abbrev pub class_parts : Terms → List Piece
class_parts ts = say (codes "class") ∷ say (there (kid 0 ts) blank) ∷ part 0 ∷ say (there (kid 1 ts) (codes " extends ")) ∷ part 1 ∷ say blank ∷ part 2 ∷ []

-- 15
abbrev pub function_row : Bool → Kind → List Text → Terms → List Piece
function_row i Kind.FunctionDeclaration texts ts = function_parts texts ts
function_row i Kind.FunctionExpression texts ts = function_parts texts ts
function_row i Kind.FormalParameters texts ts = say (codes "(") ∷ (rested ts ++ (say (codes ")") ∷ []))
function_row i Kind.FormalParameter texts ts = defaulted ts
function_row i Kind.FormalParameterRest texts ts = part 0 ∷ []
function_row i Kind.FunctionBody texts ts = braces (has_items (kid 0 ts) || has_items (kid 1 ts)) (each blank 0 ∷ say (flag (has_items (kid 0 ts) && has_items (kid 1 ts)) blank) ∷ each blank 1 ∷ [])
function_row i Kind.ClassDeclaration texts ts = class_parts ts
function_row i Kind.ClassExpression texts ts = class_parts ts
function_row i Kind.ClassBody texts ts = block 0 ts
function_row i Kind.StaticBlock texts ts = say (codes "static ") ∷ block 0 ts
function_row i Kind.MethodDefinition texts ts = say (set 2 texts (codes "static ")) ∷ say (method_words (text_at 0 texts) (kid 1 ts)) ∷ (key (is_set_at 1 texts) ++ (part 1 ∷ []))
function_row i Kind.PropertyDefinition texts ts = say (set 1 texts (codes "static ")) ∷ (key (is_set_at 0 texts) ++ (say (there (kid 1 ts) (codes " = ")) ∷ part 1 ∷ say (codes ";") ∷ []))
function_row i k texts ts = module_row i k texts ts

-- 13.15.5, 14.3.3
abbrev pub pattern_row : Bool → Kind → List Text → Terms → List Piece
pattern_row i Kind.ObjectPattern texts ts = braces (has_items (kid 0 ts) || is_present (kid 1 ts)) (rested ts)
pattern_row i Kind.BindingProperty texts ts = pair (is_set_at 0 texts) (is_set_at 1 texts)
pattern_row i Kind.ArrayPattern texts ts = say (codes "[") ∷ (rested ts ++ (say (flag (ends_open ts) (codes ",")) ∷ say (codes "]") ∷ []))
pattern_row i Kind.AssignmentPattern texts ts = defaulted ts
pattern_row i Kind.BindingRestElement texts ts = say (codes "...") ∷ part 0 ∷ []
pattern_row i Kind.ArrayAssignmentTarget texts ts = say (codes "[") ∷ (rested ts ++ (say (flag (ends_open ts) (codes ",")) ∷ say (codes "]") ∷ []))
pattern_row i Kind.ObjectAssignmentTarget texts ts = braces (has_items (kid 0 ts) || is_present (kid 1 ts)) (rested ts)
pattern_row i Kind.AssignmentTargetProperty texts ts = pair (is_set_at 0 texts) (is_set_at 1 texts)
pattern_row i Kind.AssignmentTargetWithDefault texts ts = defaulted ts
pattern_row i Kind.AssignmentTargetRest texts ts = say (codes "...") ∷ part 0 ∷ []
pattern_row i k texts ts = function_row i k texts ts

-- 13.2
abbrev pub primary_row : Bool → Kind → List Text → Terms → List Piece
primary_row i Kind.PrivateIdentifier texts ts = say (codes "#") ∷ say (first texts) ∷ []
primary_row i Kind.StringLiteral texts ts = say (quoted (first texts)) ∷ []
primary_row i Kind.NullLiteral texts ts = say (codes "null") ∷ []
primary_row i Kind.RegExpLiteral texts ts = say (codes "/") ∷ say (first texts) ∷ say (codes "/") ∷ say (text_at 1 texts) ∷ []
primary_row i Kind.TemplateLiteral texts ts = say (codes "`") ∷ woven 0 1 ∷ say (codes "`") ∷ []
primary_row i Kind.ThisExpression texts ts = say (codes "this") ∷ []
primary_row i Kind.Super texts ts = say (codes "super") ∷ []
primary_row i Kind.ImportMeta texts ts = say (codes "import.meta") ∷ []
primary_row i Kind.NewTarget texts ts = say (codes "new.target") ∷ []
primary_row i Kind.ParenthesizedExpression texts ts = say (codes "(") ∷ part 0 ∷ say (codes ")") ∷ []
primary_row i Kind.ArrayExpression texts ts = say (codes "[") ∷ each comma 0 ∷ say (flag (ends_in_hole (items (kid 0 ts))) (codes ",")) ∷ say (codes "]") ∷ []
primary_row i Kind.SpreadElement texts ts = say (codes "...") ∷ part 0 ∷ []
primary_row i Kind.ObjectExpression texts ts = braces (has_items (kid 0 ts)) (each comma 0 ∷ [])
primary_row i Kind.ObjectProperty texts ts =
    if is_set_at 2 texts then part 1 ∷ [] else say (flag (is_method texts) (method_words (text_at 0 texts) (kid 1 ts))) ∷ (key (is_set_at 3 texts) ++ (say (flag (not (is_method texts)) (codes ": ")) ∷ part 1 ∷ []))
primary_row i k texts ts = pattern_row i k texts ts

-- 13.3 to 13.16
abbrev pub row : Bool → Kind → List Text → Terms → List Piece
row i Kind.SequenceExpression texts ts = each comma 0 ∷ []
row i Kind.AssignmentExpression texts ts = part 0 ∷ say blank ∷ say (first texts) ∷ say blank ∷ part 1 ∷ []
row i Kind.ArrowFunctionExpression texts ts = say (set 0 texts (codes "async ")) ∷ part 0 ∷ say (codes " => ") ∷ part 1 ∷ []
row i Kind.YieldExpression texts ts = say (codes "yield") ∷ say (set 0 texts (codes "*")) ∷ say (there (kid 0 ts) blank) ∷ part 0 ∷ []
row i Kind.ConditionalExpression texts ts = part 0 ∷ say (codes " ? ") ∷ part 1 ∷ say (codes " : ") ∷ part 2 ∷ []
row i Kind.LogicalExpression texts ts = part 0 ∷ say blank ∷ say (first texts) ∷ say blank ∷ part 1 ∷ []
row i Kind.BinaryExpression texts ts = part 0 ∷ say blank ∷ say (first texts) ∷ say blank ∷ part 1 ∷ []
row i Kind.PrivateInExpression texts ts = part 0 ∷ say (codes " in ") ∷ part 1 ∷ []
row i Kind.UnaryExpression texts ts = say (first texts) ∷ say (flag (is_word_operator (first texts) || meets (first texts) (kid 0 ts)) blank) ∷ part 0 ∷ []
row i Kind.AwaitExpression texts ts = say (codes "await ") ∷ part 0 ∷ []
row i Kind.UpdateExpression texts ts = if is_set_at 1 texts then say (first texts) ∷ part 0 ∷ [] else part 0 ∷ say (first texts) ∷ []
row i Kind.ChainExpression texts ts = part 0 ∷ []
row i Kind.CallExpression texts ts = part 0 ∷ say (set 0 texts (codes "?.")) ∷ say (codes "(") ∷ each comma 1 ∷ say (codes ")") ∷ []
row i Kind.ImportExpression texts ts = say (codes "import(") ∷ part 0 ∷ say (there (kid 1 ts) comma) ∷ part 1 ∷ say (codes ")") ∷ []
row i Kind.StaticMemberExpression texts ts = part 0 ∷ say (if is_set_at 0 texts then codes "?." else codes ".") ∷ part 1 ∷ []
row i Kind.ComputedMemberExpression texts ts = part 0 ∷ say (set 0 texts (codes "?.")) ∷ say (codes "[") ∷ part 1 ∷ say (codes "]") ∷ []
row i Kind.PrivateFieldExpression texts ts = part 0 ∷ say (if is_set_at 0 texts then codes "?." else codes ".") ∷ part 1 ∷ []
row i Kind.TaggedTemplateExpression texts ts = part 0 ∷ part 1 ∷ []
row i Kind.NewExpression texts ts = say (codes "new ") ∷ part 0 ∷ say (codes "(") ∷ each comma 1 ∷ say (codes ")") ∷ []
row i k texts ts = primary_row i k texts ts
