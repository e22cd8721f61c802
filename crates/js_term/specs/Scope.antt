-- What a scope declares, and what a name stands for.
-- ECMAScript 8.2 (BoundNames, LexicallyDeclaredNames, VarDeclaredNames), 9.1 (environments), 10.2.11 (the
-- environment of a function call) and 9.1.2.1 (GetIdentifierReference).
use Rattle.std.specs.Prelude.{ℕ, zero, suc, List, [], ◌∷◌, ◌++◌, length, Option, None, Some, Bool, true, false, cond, codes}
use Rattle.js_term.specs.Term.{Text, is_text, Term, absent, list, node, Terms, none, more, first, rest, items, kids_of, text_of}
use Rattle.js_term.specs.declared.kind.Kind.{Kind}
use Rattle.js_term.specs.declared.kind.Kind.TheVariants as Kind

-- The part that a kind plays in scoping. A new kind of an old part adds one row to `role`.
pub data Role : Type 0 where
  -- a name that is looked up, and one that is bound
  reference : Role
  bound : Role
  -- what a reference may become differs where it is called
  calls : Role
  member : Role
  -- functions open a scope; the name of a declaration is declared outside
  function_value : Role
  function_named : Role
  -- what declares: by all of its kids, or by its first kid alone
  all_kids : Role
  first_kid : Role
  -- what stands at the root of a module alone
  imports : Role
  exports_declaration : Role
  other : Role

abbrev pub role : Kind → Role
role Kind.Identifier = Role.reference
role Kind.BindingIdentifier = Role.bound
role Kind.CallExpression = Role.calls
role Kind.StaticMemberExpression = Role.member
role Kind.FunctionExpression = Role.function_value
role Kind.FunctionDeclaration = Role.function_named
role Kind.FunctionBody = Role.all_kids
role Kind.VariableDeclaration = Role.all_kids
role Kind.VariableDeclarator = Role.first_kid
role Kind.FormalParameters = Role.all_kids
role Kind.FormalParameter = Role.first_kid
role Kind.ImportDeclaration = Role.imports
role Kind.ExportDeclaration = Role.exports_declaration
role k = Role.other

-- What a node declares in the scope round it: by its role, its texts, what all of its kids declare, and what
-- the first one declares. What an import binds stands with the requests, below.
abbrev pub declares : Role → List Text → List Text → List Text → List Text
declares Role.bound texts every one = first texts ∷ []
declares Role.all_kids texts every one = every
declares Role.exports_declaration texts every one = every
declares Role.first_kid texts every one = one
declares Role.function_named texts every one = one
declares r texts every one = []

abbrev mutual
  pub declared : Term → List Text
  declared absent = []
  declared (list ts) = declared_all ts
  declared (node k texts ts) = declares (role k) texts (declared_all ts) (declared_first ts)

  pub declared_all : Terms → List Text
  declared_all none = []
  declared_all (more t ts) = declared t ++ declared_all ts

  pub declared_first : Terms → List Text
  declared_first none = []
  declared_first (more t ts) = declared t

-- A name stands for what a declaration here names, for the arguments object of a call, or for a request: its
-- namespace, or one name that it exports.
pub data Entry : Type 0 where
  here : Entry
  arguments_object : Entry
  imported : ℕ → Option Text → Entry

abbrev pub Scope : Type 0
Scope = List (Text × Entry)

-- the scopes round a place, innermost first
abbrev pub Env : Type 0
Env = List Scope

abbrev pub plainly : List Text → Scope
plainly [] = []
plainly (x ∷ xs) = (x, here) ∷ plainly xs

-- a function that is no arrow binds `arguments`, where it declares no such name
abbrev pub call_scope : List Text → Scope
call_scope xs = plainly xs ++ (codes "arguments", arguments_object) ∷ []

abbrev pub kid : ℕ → Terms → Term
kid n none = absent
kid zero (more t ts) = t
kid (suc n) (more t ts) = kid n ts

-- The kids of a function are its name, its parameters and its body. The name of a function expression is
-- declared inside. Parameters see the name and the parameters; the body sees its own names too.
abbrev pub parameter_names : Bool → Terms → List Text
parameter_names true ts = declared (kid 0 ts) ++ declared (kid 1 ts)
parameter_names false ts = declared (kid 1 ts)

abbrev pub body_names : Bool → Terms → List Text
body_names true ts = declared_all ts
body_names false ts = declared_all (rest ts)

abbrev pub function_env : Bool → Env → Terms → ℕ → Env
function_env is_value env ts zero = env
function_env is_value env ts (suc zero) = call_scope (parameter_names is_value ts) ∷ env
function_env is_value env ts (suc (suc n)) = call_scope (body_names is_value ts) ∷ env

-- the scopes round the n-th kid of a node
abbrev pub inner : Role → Env → Terms → ℕ → Env
inner Role.function_value env ts n = function_env true env ts n
inner Role.function_named env ts n = function_env false env ts n
inner r env ts n = env

-- what a name stands for; a number of `local` and `arguments_of` is the scopes outside the one that answers
pub data Answer : Type 0 where
  import_of : ℕ → Option Text → Answer
  local : ℕ → Text → Answer
  arguments_of : ℕ → Answer
  global : Text → Answer

abbrev pub entry_of : Scope → Text → Option Entry
entry_of [] x = None
entry_of (e ∷ s) x = cond (is_text e.0 x) (Some e.1) (entry_of s x)

abbrev pub meant : ℕ → Text → Entry → Answer
meant d x here = local d x
meant d x arguments_object = arguments_of d
meant d x (imported j k) = import_of j k

abbrev pub found : Option Entry → ℕ → Text → Answer → Answer
found None d x a = a
found (Some e) d x a = meant d x e

-- the first scope that has the name answers
abbrev pub resolve : Env → Text → Answer
resolve [] x = global x
resolve (s ∷ env) x = found (entry_of s x) (length env) x (resolve env x)

-- The scope of a module: what its imports bring in, each with the number of its request, and what its
-- statements declare (ECMAScript 16.2.1.7.3.1, InitializeEnvironment).

-- one specifier: its kids are the name that is imported and the name here
abbrev pub bound_by : ℕ → Terms → Scope
bound_by j none = []
bound_by j (more t ts) = (text_of (kid 1 (kids_of t)), imported j (Some (text_of (kid 0 (kids_of t))))) ∷ bound_by j ts

abbrev pub brings : ℕ → Role → Terms → Scope
brings j Role.imports ts = bound_by j (items (kid 0 ts))
brings j r ts = []

abbrev pub brought : ℕ → Term → Scope
brought j (node k texts ts) = brings j (role k) ts
brought j t = []

abbrev pub is_request : Role → Bool
is_request Role.imports = true
is_request r = false

-- the number of the next request behind a statement
abbrev pub past : Term → ℕ → ℕ
past (node k texts ts) j = cond (is_request (role k)) (suc j) j
past t j = j

abbrev pub all_brought : ℕ → Terms → Scope
all_brought j none = []
all_brought j (more t ts) = brought j t ++ all_brought (past t j) ts

abbrev pub module_scope : Terms → Scope
module_scope ts = all_brought 0 ts ++ plainly (declared_all ts)

abbrev pub module_env : Terms → Env
module_env ts = module_scope ts ∷ []

abbrev pub names_in : Scope → List Text
names_in [] = []
names_in (e ∷ s) = e.0 ∷ names_in s
