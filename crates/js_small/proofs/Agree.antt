-- One recursion for form and names says what the two of the definition say, for a function and for a module.
use Rattle.std.proofs.Common.{◌≡◌, refl, sym, ap, ◌∙◌, List, [], ◌∷◌, ◌++◌, Bool, true, false, ◌&&◌, map, codes}
use Rattle.std.specs.Prelude.{option_map}
use mathlib.Core.Bool.{true≢false}
use Rattle.js_term.specs.Term.{Term, absent, list, node, Terms, none, more, two, all, maybe, flag}
use Rattle.js_term.specs.declared.kind.Kind.TheVariants as Kind
use Rattle.js_term.specs.Scope.{role, body_names, module_scope, names_in}
use Rattle.js_term.specs.Form.{Sort, Place, one, nowhere, empty, stands_small, places, fits, fits_each, fits_places, takes_kind, takes_list, takes_absent, item_place, first_place, later_places, no_places, no_texts, is_distinct, is_distinct_inside, has_distinct_scopes, have_distinct_scopes, is_small}
use Rattle.small_tree.specs.TermOf.{function_word, function_term, binding_term, parameters_term, parameter_term, body_term, directive_term, statement_term, program_term, hashbang_texts}
use Rattle.small_tree.specs.declared.function.Directive.{Directive}
use Rattle.small_tree.specs.declared.function.Function.{Function}
use Rattle.small_tree.specs.declared.function.FunctionKind.{FunctionKind}
use Rattle.small_tree.specs.declared.function.FunctionKind.TheVariants as function_kind
use Rattle.small_tree.specs.declared.module.Program.{Program}
use Rattle.small_tree.specs.declared.statement.Statement.{Statement}
use Rattle.small_tree.specs.declared.statement.Statement.TheVariants as statement
use Rattle.small_tree.proofs.Levels.{function_parts, s_ExpressionStatement, s_ReturnStatement, s_VariableDeclaration, s_FunctionDeclaration, s_ImportDeclaration, s_ExportDeclaration}
use Rattle.js_small.specs.Small.{allowed, small_at, small_each, small_places, small_head, small_front}
use Rattle.js_small.specs.Names.{parameter_names, declared_names, imported_names}
use Rattle.js_small.proofs.Declares.{function_declares, module_names}
use Rattle.js_small.proofs.Distinct.{and_assoc}
use Rattle.js_small.proofs.Single.{all_named, statement_short, item_short}

and_true : (a : Bool) → a ≡ (a && true)
and_true true = refl
and_true false = refl

and_comm : (a b : Bool) → (a && b) ≡ (b && a)
and_comm true b = and_true b
and_comm false true = refl
and_comm false false = refl

and_swap : (a b c d : Bool) → ((a && b) && (c && d)) ≡ ((a && c) && (b && d))
and_swap false b c d = refl
and_swap true true c d = refl
and_swap true false true d = refl
and_swap true false false d = refl

of_node : (t a p d n : Bool) → (t && (a && ((p && d) && n))) ≡ ((t && (a && p)) && (n && d))
of_node false a p d n = refl
of_node true false p d n = refl
of_node true true false d n = refl
of_node true true true d n = and_comm d n

mutual
  small_is : (p : Place) (t : Term) → small_at p t ≡ (fits stands_small allowed places p t && has_distinct_scopes t)
  small_is p absent = and_true (takes_absent p)
  small_is p (list ts) =
      rw (small_each_is (item_place p) ts) (sym (and_assoc (takes_list p ts) (fits_each stands_small allowed places (item_place p) ts) (have_distinct_scopes ts)))
  small_is p (node k texts ts) =
      rw (small_places_is (places k texts) ts) (of_node (takes_kind stands_small allowed places p k) (allowed k texts) (fits_places stands_small allowed places (places k texts) ts) (have_distinct_scopes ts) (is_distinct_inside (role k) ts))

  small_each_is : (p : Place) (ts : Terms) → small_each p ts ≡ (fits_each stands_small allowed places p ts && have_distinct_scopes ts)
  small_each_is p none = refl
  small_each_is p (more t ts) =
      rw (small_is p t, small_each_is p ts) (and_swap (fits stands_small allowed places p t) (has_distinct_scopes t) (fits_each stands_small allowed places p ts) (have_distinct_scopes ts))

  small_places_is : (ps : List Place) (ts : Terms) → small_places ps ts ≡ (fits_places stands_small allowed places ps ts && have_distinct_scopes ts)
  small_places_is ps none = and_true (no_places ps)
  small_places_is ps (more t ts) =
      rw (small_is (first_place ps) t, small_places_is (later_places ps) ts)
      (and_swap (fits stands_small allowed places (first_place ps) t) (has_distinct_scopes t) (fits_places stands_small allowed places (later_places ps) ts) (have_distinct_scopes ts))

none_stand : (ds : List Directive) → takes_list empty (all (map directive_term ds)) ≡ true → small_each nowhere (all (map directive_term ds)) ≡ true
none_stand [] h = refl
none_stand (d ∷ ds) h = absurd (true≢false (sym h))

-- functions

last_two : (s n m : Bool) → (s ≡ true → n ≡ m) → ((((s && true) && true) && true) && n) ≡ (s && m)
last_two true n m h = h refl
last_two false n m h = refl

of_function : (f i q d e s n m : Bool) → (d ≡ true → e ≡ true) → (s ≡ true → n ≡ m) → (f && ((i && (((q && true) && true) && ((((d && e) && (s && true)) && true) && true))) && n)) ≡ ((f && (i && (q && d))) && (s && m))
of_function false i q d e s n m g h = refl
of_function true false q d e s n m g h = refl
of_function true true false d e s n m g h = refl
of_function true true true false e s n m g h = refl
of_function true true true true e s n m g h = rw (g refl) (last_two s n m h)

function_by : (n : Function) (k : FunctionKind) → n.kind ≡ k → small_at (one Sort.declaration) (function_term n) ≡ (small_head n && (small_each (one Sort.statement) (all (map statement_term n.body.statements)) && is_distinct (parameter_names n.params.items ++ declared_names n.body.statements)))
function_by n function_kind.FunctionExpression e = rw (function_parts n, e) refl
function_by n function_kind.FunctionDeclaration e = rw (function_parts n, e) (of_function
    (allowed Kind.FunctionDeclaration (flag n.is_async (codes "async") ∷ flag n.is_generator (codes "*") ∷ []))
    (small_at (one Sort.binding) (maybe (option_map binding_term n.id)))
    (small_each (one Sort.parameter) (all (map parameter_term n.params.items)))
    (takes_list empty (all (map directive_term n.body.directives)))
    (small_each nowhere (all (map directive_term n.body.directives)))
    (small_each (one Sort.statement) (all (map statement_term n.body.statements)))
    (is_distinct (body_names false (more (maybe (option_map binding_term n.id)) (two (parameters_term n.params) (body_term statement_term n.body)))))
    (is_distinct (parameter_names n.params.items ++ declared_names n.body.statements))
    (none_stand n.body.directives) (λ h. ap is_distinct (function_declares n (maybe (option_map binding_term n.id)) ∙ ap (λ xs. parameter_names n.params.items ++ xs) (sym (all_named (one Sort.statement) statement_short n.body.statements h)))))

pub function_small : (n : Function) → small_at (one Sort.declaration) (function_term n) ≡ (small_head n && (small_each (one Sort.statement) (all (map statement_term n.body.statements)) && is_distinct (parameter_names n.params.items ++ declared_names n.body.statements)))
function_small n = function_by n n.kind refl

statement_word : (k : FunctionKind) → stands_small Sort.statement (function_word k) ≡ stands_small Sort.declaration (function_word k)
statement_word function_kind.FunctionDeclaration = refl
statement_word function_kind.FunctionExpression = refl

item_word : (k : FunctionKind) → stands_small Sort.item (function_word k) ≡ stands_small Sort.declaration (function_word k)
item_word function_kind.FunctionDeclaration = refl
item_word function_kind.FunctionExpression = refl

pub statement_function : (n : Function) → small_at (one Sort.statement) (statement_term (statement.FunctionDeclaration n)) ≡ small_at (one Sort.declaration) (function_term n)
statement_function n = rw (s_FunctionDeclaration n, function_parts n, statement_word n.kind) refl

pub item_function : (n : Function) → small_at (one Sort.item) (statement_term (statement.FunctionDeclaration n)) ≡ small_at (one Sort.declaration) (function_term n)
item_function n = rw (s_FunctionDeclaration n, function_parts n, item_word n.kind) refl

pub ruleset statements = (statement_function, item_function, s_ExpressionStatement, s_ReturnStatement, s_VariableDeclaration, s_ImportDeclaration, s_ExportDeclaration)

-- modules

around : (f n c : Bool) → (f && (n && c)) ≡ ((f && c) && n)
around false n c = refl
around true n c = and_comm n c

last_one : (s n m : Bool) → (s ≡ true → n ≡ m) → (((s && true) && true) && n) ≡ (s && m)
last_one true n m h = h refl
last_one false n m h = refl

of_module : (h d e s n m : Bool) → (d ≡ true → e ≡ true) → (s ≡ true → n ≡ m) → ((h && (((d && e) && (s && true)) && true)) && n) ≡ ((h && d) && (s && m))
of_module false d e s n m g k = refl
of_module true false e s n m g k = refl
of_module true true e s n m g k = rw (g refl) (last_one s n m k)

-- the names of the module's scope, where its statements are small
scope_names : (ss : List Statement) → small_each (one Sort.item) (all (map statement_term ss)) ≡ true → is_distinct (names_in (module_scope (all (map statement_term ss)))) ≡ is_distinct (imported_names ss ++ declared_names ss)
scope_names ss h = ap is_distinct (module_names ss ∙ ap (λ xs. imported_names ss ++ xs) (sym (all_named (one Sort.item) item_short ss h)))

pub module_small : (n : Program) → is_small (program_term n) ≡ (small_front n && (small_each (one Sort.item) (all (map statement_term n.body)) && is_distinct (imported_names n.body ++ declared_names n.body)))
module_small n =
    around (fits stands_small allowed places (one Sort.program) (program_term n)) (is_distinct (names_in (module_scope (all (map statement_term n.body))))) (has_distinct_scopes (program_term n))
    ∙ ap (λ b. b && is_distinct (names_in (module_scope (all (map statement_term n.body))))) (sym (small_is (one Sort.program) (program_term n)))
    ∙ of_module (no_texts (hashbang_texts n.hashbang)) (takes_list empty (all (map directive_term n.directives))) (small_each nowhere (all (map directive_term n.directives))) (small_each (one Sort.item) (all (map statement_term n.body))) _ _ (none_stand n.directives) (scope_names n.body)
