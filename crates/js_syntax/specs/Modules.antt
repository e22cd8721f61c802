-- Which text spells which module, from the imports and exports up (ECMAScript 16.2).
use Rattle.std.specs.Prelude.{◌≡◌, ℕ, List, [], ◌∷◌, ◌++◌, true, false, codes}
use Rattle.js_term.specs.Term.{Text, Term, absent, list, all}
use Rattle.js_term.specs.declared.kind.Kind.TheVariants as Kind
use Rattle.js_term.specs.Lexeme.{is_reserved}
use Rattle.js_term.specs.Node.{identifier_of, binding_of, name_of, string_of, specifier_of, export_declaration_of}
use Rattle.js_syntax.specs.Lexical.{is_hashbang, ends_line}
use Rattle.js_syntax.specs.Nodes.{of_part, of_parts, of_list, export_specifier_of, module_of}
use Rattle.js_syntax.specs.Tokens.{AtEnd, string, Token, Word, Sign}
use Rattle.js_syntax.specs.Edges.{begins_with_definition, begins_with_string, exports, plain, edge}
use Rattle.js_syntax.specs.Spelling.{Semicolon, Stands, FunctionText, ClassText, Statement, Declaration, Directives}

-- ModuleExportName: an identifier name or a string
pub data ExportName : Term → Text → Text → Type 0 where
  name_exported : {x a b : Text} → Word x a b → ExportName (name_of x) a b
  string_exported : {raw v a b : Text} → Token a (string raw v) b → ExportName (string_of v) a b

-- which specifiers stand between braces: of an import, of an export, of an export from another module
pub data Side : Type 0 where
  imported : Side
  local : Side
  indirect : Side

-- m as x, and one name where both are the same (16.2.2, 16.2.3)
pub data Specifier : Side → Term → Text → Text → Type 0 where
  import_renamed : {m : Term} {x a b c d : Text} → is_reserved x ≡ false → ExportName m a b → Word (codes "as") b c → Word x c d → Specifier imported (of_parts Kind.ImportSpecifier m (binding_of x)) a d
  import_same : {x a b : Text} → is_reserved x ≡ false → Word x a b → Specifier imported (specifier_of x x) a b
  export_renamed : {x a b c d : Text} {m : Term} → is_reserved x ≡ false → Word x a b → Word (codes "as") b c → ExportName m c d → Specifier local (export_specifier_of (identifier_of x) m) a d
  export_same : {x a b : Text} → is_reserved x ≡ false → Word x a b → Specifier local (export_specifier_of (identifier_of x) (name_of x)) a b
  -- a string, which names no declaration of this module: module trees have none
  string_renamed : {raw v a b c d : Text} {m : Term} → Token a (string raw v) b → Word (codes "as") b c → ExportName m c d → Specifier local (export_specifier_of (string_of v) m) a d
  string_same : {raw v a b : Text} → Token a (string raw v) b → Specifier local (export_specifier_of (string_of v) (string_of v)) a b
  indirect_renamed : {m e : Term} {a b c d : Text} → ExportName m a b → Word (codes "as") b c → ExportName e c d → Specifier indirect (export_specifier_of m e) a d
  indirect_same : {m : Term} {a b : Text} → ExportName m a b → Specifier indirect (export_specifier_of m m) a b

-- with commas between, of which one may stand behind the last
pub data Specifiers : Side → List Term → Text → Text → Type 0 where
  no_specifiers : {s : Side} {a : Text} → Specifiers s [] a a
  last_specifier : {s : Side} {t : Term} {a b : Text} → Specifier s t a b → Specifiers s (t ∷ []) a b
  and_specifier : {s : Side} {t : Term} {ts : List Term} {a b c d : Text} → Specifier s t a b → Sign (codes ",") b c → Specifiers s ts c d → Specifiers s (t ∷ ts) a d

-- { ss }
pub data Braced : Side → List Term → Text → Text → Type 0 where
  braced : {s : Side} {ts : List Term} {a b c d : Text} → Sign (codes "{") a b → Specifiers s ts b c → Sign (codes "}") c d → Braced s ts a d

-- * as x
pub data Namespace : Term → Text → Text → Type 0 where
  namespace : {x a b c d : Text} → is_reserved x ≡ false → Sign (codes "*") a b → Word (codes "as") b c → Word x c d → Namespace (of_part Kind.ImportNamespaceSpecifier (binding_of x)) a d

-- ImportClause (16.2.2)
pub data ImportClause : List Term → Text → Text → Type 0 where
  default_clause : {x a b : Text} → is_reserved x ≡ false → Word x a b → ImportClause (of_part Kind.ImportDefaultSpecifier (binding_of x) ∷ []) a b
  namespace_clause : {n : Term} {a b : Text} → Namespace n a b → ImportClause (n ∷ []) a b
  braced_clause : {ts : List Term} {a b : Text} → Braced imported ts a b → ImportClause ts a b
  default_namespace : {x a b c d : Text} {n : Term} → is_reserved x ≡ false → Word x a b → Sign (codes ",") b c → Namespace n c d → ImportClause (of_part Kind.ImportDefaultSpecifier (binding_of x) ∷ n ∷ []) a d
  default_braced : {x a b c d : Text} {ts : List Term} → is_reserved x ≡ false → Word x a b → Sign (codes ",") b c → Braced imported ts c d → ImportClause (of_part Kind.ImportDefaultSpecifier (binding_of x) ∷ ts) a d

-- from 'source'
pub data From : Text → Text → Text → Type 0 where
  from : {raw source a b c : Text} → Word (codes "from") a b → Token b (string raw source) c → From source a c

-- what an `export default` exports (16.2.3): a function or a class, with or without a name, or an expression
pub data Default : Term → Text → Text → Type 0 where
  default_function : {f : Term} {a b : Text} → FunctionText Kind.FunctionDeclaration f a b → Default f a b
  default_class : {c : Term} {a b : Text} → ClassText Kind.ClassDeclaration c a b → Default c a b
  default_expression : {n : ℕ} {e : Term} {a b c : Text} → begins_with_definition e ≡ false → Stands true n e a b → Semicolon (edge e) b c → Default e a c

-- ModuleItem (16.2)
pub data ModuleItem : Term → Text → Text → Type 0 where
  statement : {s : Term} {a b : Text} → Statement s a b → ModuleItem s a b
  -- import 'source';
  bare_import : {raw source a b c d : Text} → Word (codes "import") a b → Token b (string raw source) c → Semicolon plain c d → ModuleItem (of_parts Kind.ImportDeclaration absent (string_of source)) a d
  -- import .. from 'source';
  import_from : {ts : List Term} {source a b c d e : Text} → Word (codes "import") a b → ImportClause ts b c → From source c d → Semicolon plain d e → ModuleItem (of_parts Kind.ImportDeclaration (list (all ts)) (string_of source)) a e
  -- export * from 'source'; and with a name
  export_all : {source a b c d e : Text} → Word (codes "export") a b → Sign (codes "*") b c → From source c d → Semicolon plain d e → ModuleItem (of_parts Kind.ExportAllDeclaration absent (string_of source)) a e
  export_all_as : {m : Term} {source a b c d e f g : Text} → Word (codes "export") a b → Sign (codes "*") b c → Word (codes "as") c d → ExportName m d e → From source e f → Semicolon plain f g → ModuleItem (of_parts Kind.ExportAllDeclaration m (string_of source)) a g
  -- export { .. }; and from another module
  export_named : {ts : List Term} {a b c d : Text} → Word (codes "export") a b → Braced local ts b c → Semicolon exports c d → ModuleItem (of_list Kind.ExportNamedDeclaration (all ts)) a d
  export_from : {ts : List Term} {source a b c d e : Text} → Word (codes "export") a b → Braced indirect ts b c → From source c d → Semicolon plain d e → ModuleItem (of_parts Kind.ExportFromDeclaration (list (all ts)) (string_of source)) a e
  export_declaration : {d : Term} {a b c : Text} → Word (codes "export") a b → Declaration d b c → ModuleItem (export_declaration_of d) a c
  export_default : {d : Term} {a b c e : Text} → Word (codes "export") a b → Word (codes "default") b c → Default d c e → ModuleItem (of_part Kind.ExportDefaultDeclaration d) a e

pub data ModuleItems : List Term → Text → Text → Type 0 where
  no_more_items : {a : Text} → ModuleItems [] a a
  next_item : {s : Term} {ss : List Term} {a b c : Text} → ModuleItem s a b → ModuleItems ss b c → ModuleItems (s ∷ ss) a c

-- `#!` and the rest of the line, at the very front (12.5)
pub data Hashbang : List Text → Text → Text → Type 0 where
  no_hashbang : {a : Text} → Hashbang [] a a
  hashbang : {x a : Text} → is_hashbang x ≡ true → ends_line a ≡ true → Hashbang (x ∷ []) (35 ∷ 33 ∷ (x ++ a)) a

-- The whole text spells the module. The first statement behind the directives is no string token alone.
pub data Spells : Text → Term → Type 0 where
  spells : {hs : List Text} {ds ss : List Term} {a b c d : Text} → begins_with_string ss ≡ false → Hashbang hs a b → Directives ds b c → ModuleItems ss c d → AtEnd d → Spells a (module_of hs ds ss)
