-- What a module asks for, hands out and does (ECMAScript 16.2: ImportEntries, ExportEntries).
use Rattle.std.specs.Prelude.{List, [], ◌∷◌, ◌++◌, Option, None, Some, Bool, false}
use Rattle.js_term.specs.Term.{Text, Term, list, node, Terms, none, more, append, items, kids_of, text_of}
use Rattle.js_term.specs.Scope.{Role, role, Env, declared_all, kid, module_env}
use Rattle.js_term.specs.Form.{items_of}
use Rattle.module_model.specs.Resolved.{resolved, resolved_each}
use Rattle.js_term.specs.Node.{identifier_of}

-- One module that is asked for: the imported names, or none where the whole is asked for. `star` says that all
-- that it exports is handed on.
pub record Request : Type 0 where
  pub source : Text
  pub names : Option (List Text)
  pub star : Bool

pub record Module : Type 0 where
  pub hashbang : List Text
  pub directives : Terms
  pub requests : List Request
  pub exports : List (Text × Term)
  pub statements : Terms

abbrev pub hashbang_of : Term → List Text
hashbang_of (node k texts ts) = texts
hashbang_of t = []

abbrev pub directives_of : Term → Terms
directives_of t = items (kid 0 (kids_of t))

-- the name that a specifier imports is its first part
abbrev pub imported_by : Terms → List Text
imported_by none = []
imported_by (more t ts) = text_of (kid 0 (kids_of t)) ∷ imported_by ts

abbrev pub imported_names : Term → Option (List Text)
imported_names (list ts) = Some (imported_by ts)
imported_names t = None

-- the requests that a statement makes
abbrev pub asks : Role → Terms → List Request
asks Role.imports ts = record { source = text_of (kid 1 ts); names = imported_names (kid 0 ts); star = false } ∷ []
asks r ts = []

abbrev pub asked : Term → List Request
asked (node k texts ts) = asks (role k) ts
asked t = []

-- the names that a statement exports: those that its declaration declares
abbrev pub hands_out : Role → Terms → List Text
hands_out Role.exports_declaration ts = declared_all ts
hands_out r ts = []

abbrev pub handed_out : Term → List Text
handed_out (node k texts ts) = hands_out (role k) ts
handed_out t = []

-- what stays of a statement: nothing of an import, the declaration of an export
abbrev pub keeps : Role → Term → Terms
keeps Role.imports t = none
keeps Role.exports_declaration t = kids_of t
keeps r t = more t none

abbrev pub kept : Term → Terms
kept (node k texts ts) = keeps (role k) (node k texts ts)
kept t = more t none

abbrev pub requests : Terms → List Request
requests none = []
requests (more t ts) = asked t ++ requests ts

abbrev pub all_handed_out : Terms → List Text
all_handed_out none = []
all_handed_out (more t ts) = handed_out t ++ all_handed_out ts

abbrev pub all_kept : Terms → Terms
all_kept none = none
all_kept (more t ts) = append (kept t) (all_kept ts)

-- an export and its target, which is read at the root of the module
abbrev pub exports_of : Env → List Text → List (Text × Term)
exports_of env [] = []
exports_of env (x ∷ xs) = (x, resolved env (identifier_of x)) ∷ exports_of env xs

abbrev pub meaning : Term → Module
meaning t =
    let ts = items_of t in
    let env = module_env ts in
    record { hashbang = hashbang_of t; directives = directives_of t; requests = requests ts; exports = exports_of env (all_handed_out ts); statements = resolved_each env (all_kept ts) }

abbrev pub sources_of : List Request → List Text
sources_of [] = []
sources_of (r ∷ rs) = r.source ∷ sources_of rs
