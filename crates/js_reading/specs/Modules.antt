-- Imports, exports and whole modules (16.2). What reads a part is handed in.
use Rattle.std.specs.Prelude.{ℕ, zero, suc, List, [], ◌∷◌, ◌++◌, length, Option, None, Some, true, ◌&&◌, ◌||◌, if◌then◌else◌, codes}
use Rattle.js_term.specs.Term.{Text, is_text, Term, absent, list, all}
use Rattle.js_term.specs.declared.kind.Kind.{Kind}
use Rattle.js_term.specs.Lexeme.{is_reserved}
use Rattle.js_term.specs.Node.{identifier_of, binding_of, name_of, string_of, specifier_of, export_declaration_of}
use Rattle.js_syntax.specs.Nodes.{of_part, of_parts, of_list, export_specifier_of}
use Rattle.js_syntax.specs.Tokens.{Lexeme, word, string, sign}
use Rattle.js_syntax.specs.Edges.{exports, plain, edge}
use Rattle.js_tokens.specs.Next.{lexeme, after}
use Rattle.js_reading.specs.declared.goal.Goal.{Goal}
use Rattle.js_reading.specs.declared.goal.Goal.TheVariants as goal
use Rattle.js_reading.specs.Reading.{Found, Reading, ◌>>=◌, sees, sees_word, at_end, expect, expect_word, binding, string_token, semicolon, group}
use Rattle.js_reading.specs.Parts.{part}
use Rattle.js_reading.specs.Functions.{directives, function}
use Rattle.js_reading.specs.Literals.{class}
use Rattle.js_reading.specs.Statements.{is_declaring, begins_async_function, inner, variables, function_declaration, class_declaration}

-- a name or a string (ModuleExportName)
pub data Exported : Type 0 where
  called : Text → Exported
  quoted : Text → Exported

abbrev pub exported_tree : Exported → Term
exported_tree (called x) = name_of x
exported_tree (quoted v) = string_of v

abbrev pub exported_by : Option Lexeme → Text → Reading Exported
exported_by (Some (word x)) b = Some (called x, b)
exported_by (Some (string raw v)) b = Some (quoted v, b)
exported_by o b = None

unfoldable pub exported : Text → Reading Exported
exported a = exported_by (lexeme a) (after a)

-- ---- imports

-- behind a name without `as`
abbrev pub imported_same : Exported → Text → Reading Term
imported_same (called x) b = if is_reserved x then None else Some (specifier_of x x, b)
imported_same (quoted v) b = None

unfoldable pub imported : Text → Reading Term
imported a =
    exported a >>= λ m b.
    if sees_word (codes "as") b then (binding (after b) >>= λ x c. Some (of_parts Kind.ImportSpecifier (exported_tree m) (binding_of x), c))
    else imported_same m b

unfoldable pub imports : Text → Reading (List Term)
imports a = expect (codes "{") a >>= λ _ b. group imported (codes "}") b >>= λ found c. expect (codes "}") c >>= λ _ d. Some (found.0, d)

unfoldable pub namespace : Text → Reading Term
namespace a = expect (codes "*") a >>= λ _ b. expect_word (codes "as") b >>= λ _ c. binding c >>= λ x d. Some (of_part Kind.ImportNamespaceSpecifier (binding_of x), d)

abbrev pub default_import : Text → Term
default_import x = of_part Kind.ImportDefaultSpecifier (binding_of x)

-- behind the name of a default import
unfoldable pub behind_default : Text → Text → Reading (List Term)
behind_default x a =
    if sees (codes ",") a then
    (if sees (codes "*") (after a) then (namespace (after a) >>= λ n b. Some (default_import x ∷ n ∷ [], b)) else imports (after a) >>= λ ts b. Some (default_import x ∷ ts, b))
    else Some (default_import x ∷ [], a)

unfoldable pub import_clause : Text → Reading (List Term)
import_clause a =
    if sees (codes "{") a then imports a
    else if sees (codes "*") a then (namespace a >>= λ n b. Some (n ∷ [], b))
    else binding a >>= behind_default

unfoldable pub from_source : Text → Reading Text
from_source a = expect_word (codes "from") a >>= λ _ b. string_token b >>= λ s c. Some (s.1, c)

-- an import by its specifiers and its source
abbrev pub import_of : Term → Text → Term
import_of specifiers source = of_parts Kind.ImportDeclaration specifiers (string_of source)

unfoldable pub bare_import : Text → Reading Term
bare_import a = string_token a >>= λ s b. semicolon plain b >>= λ _ c. Some (import_of absent s.1, c)

unfoldable pub import_from : Text → Reading Term
import_from a = import_clause a >>= λ ts b. from_source b >>= λ source c. semicolon plain c >>= λ _ d. Some (import_of (list (all ts)) source, d)

-- ---- exports

-- a name, and that under which it is exported
abbrev pub Pair : Type 0
Pair = Exported × Exported

unfoldable pub exported_pair : Text → Reading Pair
exported_pair a = exported a >>= λ m b. if sees_word (codes "as") b then (exported (after b) >>= λ e c. Some ((m, e), c)) else Some ((m, m), b)

unfoldable pub pairs : Text → Reading (List Pair)
pairs a = expect (codes "{") a >>= λ _ b. group exported_pair (codes "}") b >>= λ found c. expect (codes "}") c >>= λ _ d. Some (found.0, d)

abbrev pub local_name : Exported → Option Term
local_name (called x) = if is_reserved x then None else Some (identifier_of x)
local_name (quoted v) = Some (string_of v)

abbrev pub local_by : Option Term → Exported → Option Term
local_by None e = None
local_by (Some m) e = Some (export_specifier_of m (exported_tree e))

abbrev pub indirect_specifier : Pair → Term
indirect_specifier p = export_specifier_of (exported_tree p.0) (exported_tree p.1)

abbrev pub local_with : Option Term → Option (List Term) → Option (List Term)
local_with (Some t) (Some ts) = Some (t ∷ ts)
local_with o p = None

abbrev pub local_specifiers : List Pair → Option (List Term)
local_specifiers [] = Some []
local_specifiers (p ∷ ps) = local_with (local_by (local_name p.0) p.1) (local_specifiers ps)

abbrev pub indirect_specifiers : List Pair → List Term
indirect_specifiers [] = []
indirect_specifiers (p ∷ ps) = indirect_specifier p ∷ indirect_specifiers ps

abbrev pub exports_by : Option (List Term) → Text → Reading Term
exports_by None b = None
exports_by (Some ts) b = semicolon exports b >>= λ _ c. Some (of_list Kind.ExportNamedDeclaration (all ts), c)

unfoldable pub export_pairs : Text → Reading Term
export_pairs a =
    pairs a >>= λ ps b.
    if sees_word (codes "from") b then (from_source b >>= λ source c. semicolon plain c >>= λ _ d. Some (of_parts Kind.ExportFromDeclaration (list (all (indirect_specifiers ps))) (string_of source), d))
    else exports_by (local_specifiers ps) b

abbrev pub all_of : Term → Text → Term
all_of m source = of_parts Kind.ExportAllDeclaration m (string_of source)

-- behind `*`: the name under which all is exported, or none
unfoldable pub all_name : Text → Reading Term
all_name a = if sees_word (codes "as") a then (exported (after a) >>= λ m b. Some (exported_tree m, b)) else Some (absent, a)

unfoldable pub export_all : Text → Reading Term
export_all a = all_name a >>= λ m b. from_source b >>= λ source c. semicolon plain c >>= λ _ d. Some (all_of m source, d)

module _ (sub : Goal → Text → Reading Found) where
  unfoldable pub default_expression : Text → Reading Term
  default_expression a = part sub (goal.Expression 2 true) a >>= λ e b. semicolon (edge e) b >>= λ _ c. Some (e, c)

  abbrev pub default_word : Text → Text → Reading Term
  default_word x a =
      if is_text x (codes "function") then function sub Kind.FunctionDeclaration [] (after a)
      else if is_text x (codes "async") && begins_async_function (after a) then function sub Kind.FunctionDeclaration (codes "async") (after (after a))
      else if is_text x (codes "class") then class sub Kind.ClassDeclaration (after a)
      else default_expression a

  abbrev pub default_by : Option Lexeme → Text → Reading Term
  default_by (Some (word x)) a = default_word x a
  default_by o a = default_expression a

  -- behind `default`
  unfoldable pub default : Text → Reading Term
  default a = default_by (lexeme a) a >>= λ d b. Some (of_part Kind.ExportDefaultDeclaration d, b)

  abbrev pub declaration_word : Text → Text → Reading Term
  declaration_word x a =
      if is_declaring x then variables sub x (after a)
      else if is_text x (codes "function") then function_declaration sub [] (after a)
      else if is_text x (codes "async") && begins_async_function (after a) then function_declaration sub (codes "async") (after (after a))
      else if is_text x (codes "class") then class_declaration sub (after a)
      else None

  unfoldable pub exported_declaration : Text → Text → Reading Term
  exported_declaration x a = declaration_word x a >>= λ d b. Some (export_declaration_of d, b)

  abbrev pub export_by : Option Lexeme → Text → Reading Term
  export_by (Some (word x)) a = if is_text x (codes "default") then default (after a) else exported_declaration x a
  export_by (Some (sign s)) a = if is_text s (codes "*") then export_all (after a) else export_pairs a
  export_by o a = None

  -- behind `export`
  unfoldable pub export_item : Text → Reading Term
  export_item a = export_by (lexeme a) a

  abbrev pub import_by : Option Lexeme → Text → Text → Reading Term
  import_by (Some (string raw v)) b a = bare_import b
  import_by o b a = if sees (codes "(") b || sees (codes ".") b then inner sub a else import_from b

  abbrev pub item_by : Option Lexeme → Text → Reading Term
  item_by (Some (word x)) a =
      if is_text x (codes "import") then import_by (lexeme (after a)) (after a) a
      else if is_text x (codes "export") then export_item (after a)
      else inner sub a
  item_by o a = inner sub a

  -- ModuleItem
  unfoldable pub module_item : Text → Reading Term
  module_item a = item_by (lexeme a) a

  unfoldable pub module_items : ℕ → List Term → Text → Reading (List Term)
  module_items zero found a = if at_end a then Some (found, a) else None
  module_items (suc n) found a = if at_end a then Some (found, a) else module_item a >>= λ s b. module_items n (found ++ s ∷ []) b

  -- the directives and the items of a module, behind its hashbang
  unfoldable pub module_body : Text → Reading (List Term × List Term)
  module_body a = directives (suc (length a)) [] a >>= λ ds b. module_items (length b) [] b >>= λ ss c. Some ((ds, ss), c)
