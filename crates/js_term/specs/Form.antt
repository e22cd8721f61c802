-- Which trees are printable, and which are small: tables of what may stand at a place, of the places of each
-- kind's parts, and of the texts of each kind.
use Rattle.std.specs.Prelude.{List, [], ◌∷◌, take, Bool, true, false, not, ◌&&◌, codes}
use Rattle.js_term.specs.Term.{Text, is_text, Term, absent, list, node, Terms, none, more, kids_of, items}
use Rattle.js_term.specs.declared.kind.Kind.{Kind}
use Rattle.js_term.specs.declared.kind.Kind.TheVariants as Kind
use Rattle.js_term.specs.Lexeme.{is_word, is_decimal, is_reserved, is_one_of}
use Rattle.js_term.specs.Scope.{Role, role, kid, body_names, module_scope, names_in}

-- what a place asks for
pub data Sort : Type 0 where
  program : Sort
  item : Sort
  statement : Sort
  declaration : Sort
  declarator : Sort
  specifier : Sort
  parameters : Sort
  parameter : Sort
  function_body : Sort
  binding : Sort
  name : Sort
  source : Sort
  expression : Sort
  -- the expression of a statement
  effect : Sort
  property : Sort
  -- the function of a method
  method : Sort

-- A place for one part, for an absent part, for a list, for a list of one or more, of just one, of two or more,
-- of none. Nothing stands nowhere.
pub data Place : Type 0 where
  one : Sort → Place
  nothing : Place
  many : Sort → Place
  some : Sort → Place
  single : Sort → Place
  several : Sort → Place
  empty : Place
  nowhere : Place

abbrev pub takes_absent : Place → Bool
takes_absent nothing = true
takes_absent p = false

abbrev pub takes_list : Place → Terms → Bool
takes_list (many s) ts = true
takes_list (some s) (more t ts) = true
takes_list (single s) (more t none) = true
takes_list (several s) (more t (more u ts)) = true
takes_list empty none = true
takes_list p ts = false

-- the place of each item of a list
abbrev pub item_place : Place → Place
item_place (many s) = one s
item_place (some s) = one s
item_place (single s) = one s
item_place (several s) = one s
item_place p = nowhere

abbrev pub first_place : List Place → Place
first_place [] = nowhere
first_place (p ∷ ps) = p

abbrev pub later_places : List Place → List Place
later_places [] = []
later_places (p ∷ ps) = ps

abbrev pub no_places : List Place → Bool
no_places [] = true
no_places (p ∷ ps) = false

-- which kinds stand at a sort, which texts a kind has, and at which places its parts stand
module _ (stands : Sort → Kind → Bool) (allows : Kind → List Text → Bool) (places : Kind → List Text → List Place) where
  abbrev pub takes_kind : Place → Kind → Bool
  takes_kind (one s) k = stands s k
  takes_kind p k = false

  abbrev mutual
    pub fits : Place → Term → Bool
    fits p absent = takes_absent p
    fits p (list ts) = takes_list p ts && fits_each (item_place p) ts
    fits p (node k texts ts) = takes_kind p k && (allows k texts && fits_places (places k texts) ts)

    pub fits_each : Place → Terms → Bool
    fits_each p none = true
    fits_each p (more t ts) = fits p t && fits_each p ts

    pub fits_places : List Place → Terms → Bool
    fits_places ps none = no_places ps
    fits_places ps (more t ts) = fits (first_place ps) t && fits_places (later_places ps) ts

abbrev pub is_declaration : Kind → Bool
is_declaration Kind.VariableDeclaration = true
is_declaration Kind.FunctionDeclaration = true
is_declaration k = false

-- the expressions of small modules
abbrev pub is_small_expression : Kind → Bool
is_small_expression Kind.Identifier = true
is_small_expression Kind.StringLiteral = true
is_small_expression Kind.NumericLiteral = true
is_small_expression Kind.CallExpression = true
is_small_expression Kind.StaticMemberExpression = true
is_small_expression k = false

-- and those of the runner's forms beside them
abbrev pub is_written_expression : Kind → Bool
is_written_expression Kind.SequenceExpression = true
is_written_expression Kind.AwaitExpression = true
is_written_expression Kind.ArrayExpression = true
is_written_expression Kind.ObjectExpression = true
is_written_expression Kind.BooleanLiteral = true
is_written_expression k = is_small_expression k

-- what has but one kind
abbrev pub stands_alone : Sort → Kind → Bool
stands_alone Sort.program Kind.Program = true
stands_alone Sort.declarator Kind.VariableDeclarator = true
stands_alone Sort.specifier Kind.ImportSpecifier = true
stands_alone Sort.parameters Kind.FormalParameters = true
stands_alone Sort.parameter Kind.FormalParameter = true
stands_alone Sort.function_body Kind.FunctionBody = true
stands_alone Sort.binding Kind.BindingIdentifier = true
stands_alone Sort.name Kind.IdentifierName = true
stands_alone Sort.source Kind.StringLiteral = true
stands_alone Sort.property Kind.ObjectProperty = true
stands_alone Sort.method Kind.FunctionExpression = true
stands_alone s k = false

abbrev pub is_item : Kind → Bool
is_item Kind.ImportDeclaration = true
is_item Kind.ExportDeclaration = true
is_item Kind.ExpressionStatement = true
is_item k = is_declaration k

abbrev pub is_statement : Kind → Bool
is_statement Kind.ReturnStatement = true
is_statement Kind.ExpressionStatement = true
is_statement k = is_declaration k

abbrev pub is_no_string : Kind → Bool
is_no_string Kind.StringLiteral = false
is_no_string k = true

abbrev pub stands_small : Sort → Kind → Bool
stands_small Sort.item k = is_item k
stands_small Sort.statement k = is_statement k
stands_small Sort.declaration k = is_declaration k
stands_small Sort.expression k = is_small_expression k
stands_small Sort.effect k = is_small_expression k && is_no_string k
stands_small s k = stands_alone s k

abbrev pub stands_printable : Sort → Kind → Bool
stands_printable Sort.item k = is_item k
stands_printable Sort.statement k = is_statement k
stands_printable Sort.declaration k = is_declaration k
stands_printable Sort.expression k = is_written_expression k
stands_printable Sort.effect k = is_written_expression k
stands_printable s k = stands_alone s k

-- the parts of each kind, in the order in which they stand in a text
abbrev pub property_places : List Text → List Place
property_places (kind ∷ [] ∷ more_texts) = one Sort.name ∷ one Sort.expression ∷ []
property_places texts = one Sort.name ∷ one Sort.method ∷ []

-- a directive is not a form of small modules, nor of the runner's
abbrev pub places : Kind → List Text → List Place
places Kind.Program texts = empty ∷ many Sort.item ∷ []
places Kind.ImportDeclaration texts = some Sort.specifier ∷ one Sort.source ∷ []
places Kind.ImportSpecifier texts = one Sort.name ∷ one Sort.binding ∷ []
places Kind.ExportDeclaration texts = one Sort.declaration ∷ []
places Kind.VariableDeclaration texts = single Sort.declarator ∷ []
places Kind.VariableDeclarator texts = one Sort.binding ∷ one Sort.expression ∷ []
places Kind.FunctionDeclaration texts = one Sort.binding ∷ one Sort.parameters ∷ one Sort.function_body ∷ []
places Kind.FunctionExpression texts = nothing ∷ one Sort.parameters ∷ one Sort.function_body ∷ []
places Kind.FormalParameters texts = many Sort.parameter ∷ nothing ∷ []
places Kind.FormalParameter texts = one Sort.binding ∷ nothing ∷ []
places Kind.FunctionBody texts = empty ∷ many Sort.statement ∷ []
places Kind.ReturnStatement texts = one Sort.expression ∷ []
places Kind.ExpressionStatement texts = one Sort.effect ∷ []
places Kind.CallExpression texts = one Sort.expression ∷ many Sort.expression ∷ []
places Kind.StaticMemberExpression texts = one Sort.expression ∷ one Sort.name ∷ []
places Kind.SequenceExpression texts = several Sort.expression ∷ []
places Kind.AwaitExpression texts = one Sort.expression ∷ []
places Kind.ArrayExpression texts = many Sort.expression ∷ []
places Kind.ObjectExpression texts = many Sort.property ∷ []
places Kind.ObjectProperty texts = property_places texts
places k texts = []

abbrev pub no_texts : List Text → Bool
no_texts [] = true
no_texts texts = false

-- one text, which passes a test
abbrev pub one_text : (Text → Bool) → List Text → Bool
one_text test (x ∷ []) = test x
one_text test texts = false

abbrev pub is_binding_name : Text → Bool
is_binding_name x = is_word x && not (is_reserved x)

abbrev pub is_off : Text → Bool
is_off [] = true
is_off x = false

-- two flags, neither of them set
abbrev pub two_flags : List Text → Bool
two_flags ([] ∷ [] ∷ []) = true
two_flags texts = false

abbrev pub is_property : List Text → Bool
is_property (form ∷ mark ∷ flags) = is_text form (codes "init") && (is_one_of mark ([] ∷ codes "method" ∷ []) && two_flags flags)
is_property texts = false

abbrev pub is_truth : Text → Bool
is_truth x = is_one_of x (codes "true" ∷ codes "false" ∷ [])

-- the texts of a kind, where a name passes one test and a name that is bound another
abbrev pub allows : (Text → Bool) → (Text → Bool) → Kind → List Text → Bool
allows refers binds Kind.Identifier texts = one_text refers texts
allows refers binds Kind.BindingIdentifier texts = one_text binds texts
allows refers binds Kind.IdentifierName texts = one_text is_word texts
allows refers binds Kind.StringLiteral texts = one_text (λ x. true) texts
allows refers binds Kind.NumericLiteral texts = one_text is_decimal texts
allows refers binds Kind.BooleanLiteral texts = one_text is_truth texts
allows refers binds Kind.VariableDeclaration texts = one_text (λ x. is_text x (codes "const")) texts
allows refers binds Kind.FunctionDeclaration texts = two_flags texts
allows refers binds Kind.FunctionExpression texts = two_flags texts
allows refers binds Kind.CallExpression texts = one_text is_off texts
allows refers binds Kind.StaticMemberExpression texts = one_text is_off texts
allows refers binds Kind.ObjectProperty texts = is_property texts
allows refers binds k texts = no_texts texts

-- A tree that the printer writes. Parentheses are not among its kinds: the printer puts them where they are due.
abbrev pub is_printable : Term → Bool
is_printable = fits stands_printable (allows is_binding_name is_binding_name) places (one Sort.program)

-- The names of small modules. The runner's own names begin as `is_marked` says, and its getters need `Object`.
abbrev pub is_marked : Text → Bool
is_marked x = is_text (take 11 x) (codes "__vite_ssr_")

abbrev pub is_small_name : Text → Bool
is_small_name x = is_binding_name x && (not (is_marked x) && not (is_text x (codes "Object")))

abbrev pub is_small_binding : Text → Bool
is_small_binding x = is_small_name x && not (is_one_of x (codes "arguments" ∷ codes "eval" ∷ []))

abbrev pub has_small_form : Term → Bool
has_small_form = fits stands_small (allows is_small_name is_small_binding) places (one Sort.program)

abbrev pub is_distinct : List Text → Bool
is_distinct [] = true
is_distinct (x ∷ xs) = not (is_one_of x xs) && is_distinct xs

-- No scope declares a name twice (ECMAScript 15.2.1, 16.2.1.1). Names of the module's scope stand apart, since
-- what an import brings in is a matter of its place among the requests.
abbrev pub is_distinct_inside : Role → Terms → Bool
is_distinct_inside Role.function_named ts = is_distinct (body_names false ts)
is_distinct_inside Role.function_value ts = is_distinct (body_names true ts)
is_distinct_inside r ts = true

abbrev mutual
  pub has_distinct_scopes : Term → Bool
  has_distinct_scopes absent = true
  has_distinct_scopes (list ts) = have_distinct_scopes ts
  has_distinct_scopes (node k texts ts) = is_distinct_inside (role k) ts && have_distinct_scopes ts

  pub have_distinct_scopes : Terms → Bool
  have_distinct_scopes none = true
  have_distinct_scopes (more t ts) = has_distinct_scopes t && have_distinct_scopes ts

-- the statements of a module
abbrev pub items_of : Term → Terms
items_of t = items (kid 1 (kids_of t))

abbrev pub has_distinct_names : Term → Bool
has_distinct_names t = is_distinct (names_in (module_scope (items_of t))) && has_distinct_scopes t

-- A small module: one that the runner takes.
abbrev pub is_small : Term → Bool
is_small t = has_small_form t && has_distinct_names t
