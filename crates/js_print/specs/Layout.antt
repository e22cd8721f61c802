-- The layout of a printed module, and where parentheses are put.
use Rattle.std.specs.Prelude.{◌≡◌, ℕ, zero, suc, List, [], ◌∷◌, ◌++◌, Bool, true, false, cond, not, ◌&&◌, ◌||◌, if◌then◌else◌, nat_eq, nat_lt, codes}
use Rattle.js_term.specs.Term.{Text, is_text, Term, absent, list, node, Terms, none, more, first, head, strip}
use Rattle.js_term.specs.declared.kind.Kind.{Kind}
use Rattle.js_term.specs.declared.kind.Kind.TheVariants as Kind
use Rattle.js_term.specs.Lexeme.{whole}
use Rattle.js_term.specs.Spells.{level, is_string_literal, Spells}
use Rattle.js_term.specs.Node.{parenthesized_of}

-- a character of a string as it is printed between single quotes
abbrev pub escaped : ℕ → Text
escaped c = if nat_eq c 92 then codes "\\\\" else if nat_eq c 39 then codes "\\'" else if nat_eq c 10 then codes "\\n" else if nat_eq c 13 then codes "\\r" else c ∷ []

abbrev pub all_escaped : Text → Text
all_escaped [] = []
all_escaped (c ∷ cs) = escaped c ++ all_escaped cs

abbrev pub quoted : Text → Text
quoted value = codes "'" ++ (all_escaped value ++ codes "'")

-- items, each but the first behind a separator
abbrev pub behind : Text → List Text → Text
behind separator [] = []
behind separator (x ∷ xs) = separator ++ (x ++ behind separator xs)

abbrev pub separated : Text → List Text → Text
separated separator [] = []
separated separator (x ∷ xs) = x ++ behind separator xs

abbrev pub commas : List Text → Text
commas = separated (codes ", ")

-- braces round items, with blanks inside them where there are any
abbrev pub braces : Text → List Text → Text
braces separator [] = codes "{}"
braces separator (x ∷ xs) = codes "{ " ++ (separated separator (x ∷ xs) ++ codes " }")

abbrev pub lines : List Text → Text
lines [] = []
lines (x ∷ xs) = x ++ (codes "\n" ++ lines xs)

-- the n-th of some rows of texts, and its first text
abbrev pub row : ℕ → List (List Text) → List Text
row n [] = []
row zero (r ∷ rs) = r
row (suc n) (r ∷ rs) = row n rs

abbrev pub cell : ℕ → List (List Text) → Text
cell n rs = first (row n rs)

-- one name for both, where they are the same and the first is no string
abbrev pub renamed_text : Bool → Text → Text → Text
renamed_text is_string x y = if not is_string && is_text x y then x else x ++ (codes " as " ++ y)

abbrev pub property_laid : List Text → Text → Text → Text
property_laid (form ∷ [] ∷ flags) key value = key ++ (codes ": " ++ value)
property_laid texts key value = key ++ value

-- a node by its texts, its kids, and a row of printed parts for each kid
abbrev pub laid : Kind → List Text → Terms → List (List Text) → Text
laid Kind.Program texts ts rs = lines (row 1 rs)
laid Kind.ImportDeclaration texts ts rs = codes "import { " ++ (commas (row 0 rs) ++ (codes " } from " ++ (cell 1 rs ++ codes ";")))
laid Kind.ImportSpecifier texts ts rs = renamed_text (is_string_literal (head ts)) (cell 0 rs) (cell 1 rs)
laid Kind.ExportDeclaration texts ts rs = codes "export " ++ cell 0 rs
laid Kind.VariableDeclaration texts ts rs = first texts ++ (codes " " ++ (commas (row 0 rs) ++ codes ";"))
laid Kind.VariableDeclarator texts ts rs = cell 0 rs ++ (codes " = " ++ cell 1 rs)
laid Kind.FunctionDeclaration texts ts rs = codes "function " ++ (cell 0 rs ++ (cell 1 rs ++ (codes " " ++ cell 2 rs)))
laid Kind.FunctionExpression texts ts rs = cell 1 rs ++ (codes " " ++ cell 2 rs)
laid Kind.FormalParameters texts ts rs = codes "(" ++ (commas (row 0 rs) ++ codes ")")
laid Kind.FormalParameter texts ts rs = cell 0 rs
laid Kind.FunctionBody texts ts rs = braces (codes " ") (row 1 rs)
laid Kind.ReturnStatement texts ts rs = codes "return " ++ (cell 0 rs ++ codes ";")
laid Kind.ExpressionStatement texts ts rs = cell 0 rs ++ codes ";"
laid Kind.StringLiteral texts ts rs = quoted (first texts)
laid Kind.CallExpression texts ts rs = cell 0 rs ++ (codes "(" ++ (commas (row 1 rs) ++ codes ")"))
laid Kind.StaticMemberExpression texts ts rs = cell 0 rs ++ (codes "." ++ cell 1 rs)
laid Kind.SequenceExpression texts ts rs = commas (row 0 rs)
laid Kind.AwaitExpression texts ts rs = codes "await " ++ cell 0 rs
laid Kind.ArrayExpression texts ts rs = codes "[" ++ (commas (row 0 rs) ++ codes "]")
laid Kind.ObjectExpression texts ts rs = braces (codes ", ") (row 0 rs)
laid Kind.ObjectProperty texts ts rs = property_laid texts (cell 0 rs) (cell 1 rs)
laid Kind.ParenthesizedExpression texts ts rs = codes "(" ++ (cell 0 rs ++ codes ")")
laid k texts ts rs = first texts

abbrev mutual
  -- the printed parts of a term: none of an absent one, one of a node, each of a list
  pub pieces : Term → List Text
  pieces absent = []
  pieces (list ts) = all_pieces ts
  pieces (node k texts ts) = laid k texts ts (rows ts) ∷ []

  pub all_pieces : Terms → List Text
  all_pieces none = []
  all_pieces (more t ts) = pieces t ++ all_pieces ts

  pub rows : Terms → List (List Text)
  rows none = []
  rows (more t ts) = pieces t ∷ rows ts

-- a node without further parentheses
abbrev pub printed : Term → Text
printed t = first (pieces t)

-- Where parentheses are put: round a part whose level is below that of its place, round a number whose member is
-- taken, and round the expression of a statement that would be read otherwise without them.

abbrev pub is_looser : ℕ → Term → Bool
is_looser n t = nat_lt (level t) n

abbrev pub is_number_kind : Kind → Bool
is_number_kind Kind.NumericLiteral = true
is_number_kind k = false

abbrev pub is_number : Term → Bool
is_number (node k texts ts) = is_number_kind k
is_number t = false

-- whether the text of an expression begins with `{` or `function`
abbrev pub leads_by : Kind → Bool → Bool
leads_by Kind.ObjectExpression b = true
leads_by Kind.FunctionDeclaration b = true
leads_by Kind.FunctionExpression b = true
leads_by Kind.CallExpression b = b
leads_by Kind.StaticMemberExpression b = b
leads_by Kind.SequenceExpression b = b
leads_by k b = false

abbrev mutual
  pub leads : Term → Bool
  leads absent = false
  leads (list ts) = leads_first ts
  leads (node k texts ts) = leads_by k (leads_first ts)

  pub leads_first : Terms → Bool
  leads_first none = false
  leads_first (more t ts) = leads t

-- whether the n-th part of a kind is put in parentheses; of a list, each of its items
abbrev pub needs : Kind → ℕ → Term → Bool
needs Kind.ExpressionStatement n t = leads t || is_string_literal t
needs Kind.CallExpression zero t = is_looser 19 t
needs Kind.CallExpression (suc n) t = is_looser 2 t
needs Kind.StaticMemberExpression n t = is_looser 19 t || is_number t
needs Kind.AwaitExpression n t = is_looser 16 t
needs Kind.SequenceExpression n t = is_looser 2 t
needs Kind.ArrayExpression n t = is_looser 2 t
needs Kind.ObjectProperty n t = is_looser 2 t
needs Kind.VariableDeclarator n t = is_looser 2 t
needs k n t = false

abbrev pub in_parentheses : Bool → Term → Term
in_parentheses b t = cond b (parenthesized_of t) t

abbrev mutual
  -- a term with its parentheses, and with those round itself that its place needs
  pub held : (Term → Bool) → Term → Term
  held need absent = absent
  held need (list ts) = list (held_kids (λ n. need) ts)
  held need (node k texts ts) =
      let u = node k texts (held_kids (needs k) ts) in
      in_parentheses (need u) u

  pub held_kids : (ℕ → Term → Bool) → Terms → Terms
  held_kids need none = none
  held_kids need (more t ts) = more (held (need 0) t) (held_kids (λ n. need (suc n)) ts)

abbrev pub no_need : Term → Bool
no_need t = false

abbrev pub wrapped : Term → Term
wrapped = held no_need

-- the text of a module
abbrev pub layout : Term → Text
layout t = printed (wrapped t)

-- an expression at a place of a level
abbrev pub at_level : ℕ → Term → Text
at_level n t = printed (held (is_looser n) t)

-- what stands before an item of a list, by its number
abbrev pub lead : Text → ℕ → Text
lead separator zero = []
lead separator (suc n) = separator

-- what a printed text has to do with the tree that it was printed from: it spells that tree with its parentheses
pub record IsPrinted (t : Term) (text : Text) : Type 0 where
  pub module_written : Term
  pub spelled : Spells whole text module_written
  pub same : strip module_written ≡ strip t
