-- Module trees: printable trees that meet the six rules below, which are early errors of ECMAScript. Other early
-- errors are not checked.
use Rattle.std.specs.Prelude.{ℕ, suc, List, [], ◌∷◌, ◌++◌, Bool, true, false, cond, not, ◌&&◌, ◌||◌, length, nat_eq, nat_le, codes}
use Rattle.js_term.specs.Term.{Text, Term, absent, node, Terms, none, more}
use Rattle.js_term.specs.declared.kind.Kind.{Kind}
use Rattle.js_term.specs.Scope.{kid}
use Rattle.js_term.specs.Lexeme.{is_one_of}
use Rattle.js_syntax.specs.Everywhere.{at_each_node, first_then, first_two_then}
use Rattle.js_term.specs.Kinds.{is_among}
use Rattle.js_syntax.specs.Parts.{parts_of, texts_of, text_of, text_at, first_is, is_set_at, is_node, is_present, count, count_if}
use Rattle.js_syntax.specs.Sorts.{Sort}
use Rattle.js_syntax.specs.Super.{has_super_at_home}
use Rattle.js_syntax.specs.Printable.{is_printable_at}

-- Rule 1 (16.2.3.1). What an `export` without a source exports is named by an identifier. The context says whether
-- specifiers of such an `export` stand at a place. The rest of 16.2 is of printable trees: imports and exports stand
-- in the module's own list, a namespace specifier is last, behind at most a default one, and exported declarations
-- have names.
abbrev pub exports_inside : Bool → Kind → List Text → Terms → ℕ → Bool
exports_inside b Kind.ExportNamedDeclaration texts ts n = true
exports_inside b k texts ts n = false

abbrev pub allows_export : Bool → Kind → List Text → Terms → Bool
allows_export b k texts ts = not b || is_node Kind.Identifier (kid 0 ts)

abbrev pub exports_identifiers : Term → Bool
exports_identifiers = at_each_node exports_inside allows_export false

-- Rule 2. Of the functions, arrows, field initializers and static blocks round a node the innermost one decides:
-- `await` and `for await` stand in the body of an async function or arrow, or where there is none round them
-- (15.8.1, 16.2.1); `yield` stands in the body of a generator (15.5.1); `return` in the body of a function or
-- arrow (14.10); `new.target` in non-arrow functions, field initializers, static blocks, and arrows there
-- (13.3.1.1).
pub record Leave : Type 0 where
  pub awaits : Bool
  pub yields : Bool
  pub returns : Bool
  pub has_target : Bool

abbrev pub module_leave : Leave
module_leave = record { awaits = true; yields = false; returns = false; has_target = false }

-- parameters, field initializers and static blocks
abbrev pub no_leave : Bool → Leave
no_leave has_target = record { awaits = false; yields = false; returns = false; has_target = has_target }

abbrev pub body_leave : Bool → Bool → Bool → Leave
body_leave is_async is_generator has_target = record { awaits = is_async; yields = is_generator; returns = true; has_target = has_target }

-- the kids of a function are its name, its parameters and its body
abbrev pub function_leave : List Text → ℕ → Leave
function_leave texts (suc (suc n)) = body_leave (is_set_at 0 texts) (is_set_at 1 texts) true
function_leave texts n = no_leave true

abbrev pub leave_inside : Leave → Kind → List Text → Terms → ℕ → Leave
leave_inside l Kind.FunctionDeclaration texts ts n = function_leave texts n
leave_inside l Kind.FunctionExpression texts ts n = function_leave texts n
leave_inside l Kind.ArrowFunctionExpression texts ts n = first_then (no_leave l.has_target) (body_leave (is_set_at 0 texts) false l.has_target) n
leave_inside l Kind.PropertyDefinition texts ts n = first_then l (no_leave true) n
leave_inside l Kind.StaticBlock texts ts n = no_leave true
leave_inside l k texts ts n = l

abbrev pub allows_leave : Leave → Kind → List Text → Terms → Bool
allows_leave l Kind.AwaitExpression texts ts = l.awaits
allows_leave l Kind.ForOfStatement texts ts = l.awaits || not (is_set_at 0 texts)
allows_leave l Kind.YieldExpression texts ts = l.yields
allows_leave l Kind.ReturnStatement texts ts = l.returns
allows_leave l Kind.NewTarget texts ts = l.has_target
allows_leave l k texts ts = true

abbrev pub has_leave_in : Leave → Term → Bool
has_leave_in = at_each_node leave_inside allows_leave

abbrev pub has_leave : Term → Bool
has_leave = has_leave_in module_leave

-- Rule 3 (13.3.7, 15.4.1, 15.7.1) is `has_super_at_home`, which printable trees meet.

-- Rule 4 (14.8.1, 14.9.1, 14.13.1). `break` and `continue` name an enclosing label of their function (of a loop for
-- `continue`) or stand in a loop (`break` also in a switch); nested labels differ. Functions, arrows and static
-- blocks begin anew.
pub record Jumps : Type 0 where
  -- the labels round a place, and those of loops among them
  pub labels : List Text
  pub loops : List Text
  pub breaks : Bool
  pub continues : Bool

abbrev pub no_jumps : Jumps
no_jumps = record { labels = []; loops = []; breaks = false; continues = false }

-- whether the statement is a loop, behind labels or not
abbrev mutual
  pub is_loop : Term → Bool
  is_loop (node Kind.DoWhileStatement texts ts) = true
  is_loop (node Kind.WhileStatement texts ts) = true
  is_loop (node Kind.ForStatement texts ts) = true
  is_loop (node Kind.ForInStatement texts ts) = true
  is_loop (node Kind.ForOfStatement texts ts) = true
  is_loop (node Kind.LabeledStatement texts ts) = second_is_loop ts
  is_loop t = false

  pub second_is_loop : Terms → Bool
  second_is_loop (more t (more u ts)) = is_loop u
  second_is_loop ts = false

abbrev pub with_label : Jumps → Text → Bool → Jumps
with_label j x of_loop = record { labels = x ∷ j.labels; loops = cond of_loop (x ∷ j.loops) j.loops; breaks = j.breaks; continues = j.continues }

abbrev pub in_loop : Jumps → Jumps
in_loop j = record { labels = j.labels; loops = j.loops; breaks = true; continues = true }

abbrev pub in_switch : Jumps → Jumps
in_switch j = record { labels = j.labels; loops = j.loops; breaks = true; continues = j.continues }

abbrev pub jumps_inside : Jumps → Kind → List Text → Terms → ℕ → Jumps
jumps_inside j Kind.FunctionDeclaration texts ts n = no_jumps
jumps_inside j Kind.FunctionExpression texts ts n = no_jumps
jumps_inside j Kind.ArrowFunctionExpression texts ts n = no_jumps
jumps_inside j Kind.StaticBlock texts ts n = no_jumps
jumps_inside j Kind.LabeledStatement texts ts n = with_label j (text_of (kid 0 ts)) (second_is_loop ts)
jumps_inside j Kind.DoWhileStatement texts ts n = in_loop j
jumps_inside j Kind.WhileStatement texts ts n = in_loop j
jumps_inside j Kind.ForStatement texts ts n = in_loop j
jumps_inside j Kind.ForInStatement texts ts n = in_loop j
jumps_inside j Kind.ForOfStatement texts ts n = in_loop j
jumps_inside j Kind.SwitchStatement texts ts n = in_switch j
jumps_inside j k texts ts n = j

-- the kid of a jump is its label
abbrev pub names_one : Term → Bool → List Text → Bool
names_one absent plain labels = plain
names_one t plain labels = is_one_of (text_of t) labels

abbrev pub allows_jump : Jumps → Kind → List Text → Terms → Bool
allows_jump j Kind.BreakStatement texts ts = names_one (kid 0 ts) j.breaks j.labels
allows_jump j Kind.ContinueStatement texts ts = names_one (kid 0 ts) j.continues j.loops
allows_jump j Kind.LabeledStatement texts ts = not (is_one_of (text_of (kid 0 ts)) j.labels)
allows_jump j k texts ts = true

abbrev pub has_jumps : Term → Bool
has_jumps = at_each_node jumps_inside allows_jump no_jumps

-- Rule 5. No binding and no simple target is `arguments` or `eval` (13.1.1, 13.15.1). The context says whether a
-- target stands at a place.
abbrev pub is_strict_name : List Text → Bool
is_strict_name texts = not (first_is (codes "arguments") texts || first_is (codes "eval") texts)

abbrev pub target_inside : Bool → Kind → List Text → Terms → ℕ → Bool
target_inside b Kind.AssignmentExpression texts ts n = first_then true false n
target_inside b Kind.UpdateExpression texts ts n = true
target_inside b Kind.ForInStatement texts ts n = first_then true false n
target_inside b Kind.ForOfStatement texts ts n = first_then true false n
target_inside b Kind.ArrayAssignmentTarget texts ts n = true
target_inside b Kind.AssignmentTargetProperty texts ts n = first_then false true n
target_inside b Kind.AssignmentTargetWithDefault texts ts n = first_then true false n
target_inside b Kind.AssignmentTargetRest texts ts n = true
target_inside b k texts ts n = false

abbrev pub allows_name : Bool → Kind → List Text → Terms → Bool
allows_name b Kind.BindingIdentifier texts ts = is_strict_name texts
allows_name b Kind.Identifier texts ts = not b || is_strict_name texts
allows_name b k texts ts = true

abbrev pub has_strict_names : Term → Bool
has_strict_names = at_each_node target_inside allows_name false

-- No `arguments` of its own in field initializers and static blocks (15.7.1): those of functions inside are theirs.
-- The context says whether a place has no `arguments`.
abbrev pub arguments_inside : Bool → Kind → List Text → Terms → ℕ → Bool
arguments_inside b Kind.FunctionDeclaration texts ts n = false
arguments_inside b Kind.FunctionExpression texts ts n = false
arguments_inside b Kind.PropertyDefinition texts ts n = first_then b true n
arguments_inside b Kind.StaticBlock texts ts n = true
arguments_inside b k texts ts n = b

abbrev pub allows_arguments : Bool → Kind → List Text → Terms → Bool
allows_arguments b Kind.Identifier texts ts = not (b && first_is (codes "arguments") texts)
allows_arguments b k texts ts = true

abbrev pub has_arguments : Term → Bool
has_arguments = at_each_node arguments_inside allows_arguments false

-- Private names are declared by an enclosing class (15.7.1, 16.2.1.1). The context has the names that each class
-- round a place declares: those of the keys of its elements. A class is round its body, keys in brackets too, and not
-- round its heritage (15.7.14).
abbrev pub private_name : Term → List Text
private_name t = cond (is_node Kind.PrivateIdentifier t) (text_of t ∷ []) []

abbrev pub private_names : Terms → List Text
private_names none = []
private_names (more t ts) = private_name (kid 0 (parts_of t)) ++ private_names ts

-- a class's kids are its name, its heritage and its body, whose one kid is the list of elements
abbrev pub declared_by : Terms → List Text
declared_by ts = private_names (parts_of (kid 0 (parts_of (kid 2 ts))))

abbrev pub classes_inside : List (List Text) → Kind → List Text → Terms → ℕ → List (List Text)
classes_inside xss Kind.ClassDeclaration texts ts n = first_two_then xss (declared_by ts ∷ xss) n
classes_inside xss Kind.ClassExpression texts ts n = first_two_then xss (declared_by ts ∷ xss) n
classes_inside xss k texts ts n = xss

abbrev pub is_declared : Text → List (List Text) → Bool
is_declared x [] = false
is_declared x (xs ∷ xss) = is_one_of x xs || is_declared x xss

abbrev pub allows_private : List (List Text) → Kind → List Text → Terms → Bool
allows_private xss Kind.PrivateIdentifier texts ts = is_declared (text_at 0 texts) xss
allows_private xss k texts ts = true

abbrev pub has_private_names : Term → Bool
has_private_names = at_each_node classes_inside allows_private []

-- Rule 6. Getters have no, setters one parameter (15.4); a class has at most one constructor (15.7.1). A `for await`
-- declaration has one declarator without initializer (14.7.5), as each of `for .. in` and `for .. of` in printable
-- trees.
abbrev pub parameters_of_function : Term → Terms
parameters_of_function t = parts_of (kid 1 (parts_of t))

abbrev pub has_parameters : ℕ → Term → Bool
has_parameters n t = nat_eq (count (parts_of (kid 0 (parameters_of_function t)))) n && not (is_present (kid 1 (parameters_of_function t)))

-- the second kid of a method or a property is its function
abbrev pub is_accessor : List Text → Terms → Bool
is_accessor texts ts = (not (first_is (codes "get") texts) || has_parameters 0 (kid 1 ts)) && (not (first_is (codes "set") texts) || has_parameters 1 (kid 1 ts))

abbrev pub is_constructor : Term → Bool
is_constructor t = is_node Kind.MethodDefinition t && first_is (codes "constructor") (texts_of t)

-- `const` declarators and patterns outside the heads of `for .. in` and `for .. of` have an initializer (14.3.1.1,
-- 14.3.3). The context says which declarators of a declaration have one.
pub data Initializers : Type 0 where
  of_all : Initializers
  of_patterns : Initializers
  -- a place in a head, or one where no declarator stands
  of_none : Initializers
  in_head : Initializers

abbrev pub declaration_asks : Initializers → List Text → Initializers
declaration_asks in_head texts = of_none
declaration_asks i texts = cond (first_is (codes "const") texts) of_all of_patterns

abbrev pub initializers_inside : Initializers → Kind → List Text → Terms → ℕ → Initializers
initializers_inside i Kind.ForInStatement texts ts n = first_then in_head of_none n
initializers_inside i Kind.ForOfStatement texts ts n = first_then in_head of_none n
initializers_inside i Kind.VariableDeclaration texts ts n = declaration_asks i texts
initializers_inside i k texts ts n = of_none

-- the kids of a declarator are its pattern and its initializer
abbrev pub is_initialized : Initializers → Terms → Bool
is_initialized of_all ts = is_present (kid 1 ts)
is_initialized of_patterns ts = is_node Kind.BindingIdentifier (kid 0 ts) || is_present (kid 1 ts)
is_initialized i ts = true

abbrev pub allows_part : Initializers → Kind → List Text → Terms → Bool
allows_part i Kind.VariableDeclarator texts ts = is_initialized i ts
allows_part i Kind.MethodDefinition texts ts = is_accessor texts ts
allows_part i Kind.ObjectProperty texts ts = is_accessor texts ts
allows_part i Kind.ClassBody texts ts = nat_le (count_if is_constructor (parts_of (kid 0 ts))) 1
allows_part i k texts ts = true

abbrev pub has_parts : Term → Bool
has_parts = at_each_node initializers_inside allows_part of_none

-- A name has 1 to 65535 bytes.
abbrev pub names : List Kind
names = Kind.BindingIdentifier ∷ Kind.Identifier ∷ Kind.IdentifierName ∷ Kind.PrivateIdentifier ∷ Kind.LabelIdentifier ∷ []

abbrev pub allows_length : Unit {0} → Kind → List Text → Terms → Bool
allows_length u k texts ts = not (is_among k names) || nat_le (length (text_at 0 texts)) 65535

abbrev pub the_same : Unit {0} → Kind → List Text → Terms → ℕ → Unit {0}
the_same u k texts ts n = u

abbrev pub has_short_names : Term → Bool
has_short_names = at_each_node the_same allows_length tt

-- the six rules
abbrev pub meets_rules : Term → Bool
meets_rules t = exports_identifiers t && has_leave t && has_super_at_home t && has_jumps t && has_strict_names t && has_arguments t && has_private_names t && has_parts t

-- a tree that may stand at a place of this sort at module level
abbrev pub is_sound_at : Sort → Term → Bool
is_sound_at s t = is_printable_at s t && meets_rules t && has_short_names t

abbrev pub is_module_tree : Term → Bool
is_module_tree = is_sound_at (Sort.only Kind.Program)

-- an expression that may stand as a value at module level
abbrev pub is_module_value : Term → Bool
is_module_value = is_sound_at Sort.expression
