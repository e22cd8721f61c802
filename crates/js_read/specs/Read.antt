-- Reading as a function: what a text has at its front, and the rest. A number that is given to it is the depth that
-- is still allowed, so that it finds exactly the trees that are no deeper.
use Rattle.std.specs.Prelude.{ℕ, zero, suc, ◌+◌, List, [], ◌∷◌, ◌++◌, length, Option, None, Some, Bool, true, ◌||◌, if◌then◌else◌, nat_le, codes}
use Rattle.std.specs.List.{list_all}
use Rattle.js_term.specs.Term.{Text, Term, all, depth}
use Rattle.js_term.specs.Lexeme.{Lexeme, word, number, string, left_brace, right_brace, left_paren, right_paren, comma, semicolon, dot, equals, is_blank, is_reserved, same_line}
use Rattle.js_term.specs.Node.{identifier_of, string_of, number_of, call_of, member_of, function_of, const_of, return_of, statement_of, specifier_of, import_declaration_of, export_declaration_of, program_of}
use Rattle.js_term.specs.Spells.{is_string_literal}
use Rattle.js_lex.specs.Next.{lexeme, after, sees}

abbrev pub Reading : Type 0 → Type 0
Reading A = Option (A × Text)

infixl 10 ◌>>=◌
abbrev pub ◌>>=◌ : {A B : Type 0} → Reading A → (A → Text → Reading B) → Reading B
None >>= f = None
(Some p) >>= f = f p.0 p.1

-- ---- tokens

unfoldable pub expect : Lexeme → Text → Reading (Unit {0})
expect l a = if sees l a then Some (tt, after a) else None

abbrev pub name_by : Option Lexeme → Text → Reading Text
name_by (Some (word x)) b = Some (x, b)
name_by o b = None

-- a name that is looked up nowhere: any word
unfoldable pub name : Text → Reading Text
name a = name_by (lexeme a) (after a)

abbrev pub unreserved : Text → Text → Reading Text
unreserved x b = if is_reserved x then None else Some (x, b)

unfoldable pub binding : Text → Reading Text
binding a = name a >>= unreserved

abbrev pub source_by : Option Lexeme → Text → Reading Text
source_by (Some (string v)) b = Some (v, b)
source_by o b = None

unfoldable pub source : Text → Reading Text
source a = source_by (lexeme a) (after a)

-- the semicolon behind what was read
abbrev pub closed : Term → Text → Reading Term
closed t a = expect semicolon a >>= λ _ b. Some (t, b)

-- one or more, with commas between
module _ {A : Type 0} (part : Text → Reading A) where
  unfoldable pub separated : ℕ → List A → Text → Reading (List A)
  separated zero found a = None
  separated (suc n) found a = part a >>= λ x b. if sees comma b then separated n (found ++ x ∷ []) (after b) else Some (found ++ x ∷ [], b)

  -- or none, where what closes them follows at once
  abbrev pub separated_until : Lexeme → Text → Reading (List A)
  separated_until end a = if sees end a then Some ([], a) else separated (length a) [] a

-- ---- expressions

abbrev pub within : ℕ → Term → Reading Term → Reading Term
within limit e found = if nat_le (depth e) limit then found else None

abbrev pub primary_by : Option Lexeme → Text → Reading Term
primary_by (Some (word x)) b = if is_reserved x then None else Some (identifier_of x, b)
primary_by (Some (number x)) b = Some (number_of x, b)
primary_by (Some (string v)) b = Some (string_of v, b)
primary_by o b = None

unfoldable pub primary : Text → Reading Term
primary a = primary_by (lexeme a) (after a)

-- whether an expression goes on behind what was read of it
abbrev pub goes_on : Text → Bool
goes_on a = sees left_paren a || sees dot a

unfoldable pub member : Term → Text → Reading Term
member object a = name a >>= λ x b. Some (member_of object x, b)

unfoldable pub call : (Text → Reading Term) → Term → Text → Reading Term
call part callee a = separated_until part right_paren a >>= λ es b. expect right_paren b >>= λ _ c. Some (call_of callee (all es), c)

-- parts have the depth `limit`, and `part` reads one
module _ (limit : ℕ) (part : Text → Reading Term) where
  unfoldable pub extended : Term → Text → Reading Term
  extended left a = within limit left (if sees left_paren a then call part left (after a) else member left (after a))

  unfoldable pub climb : ℕ → Term → Text → Reading Term
  climb zero left a = Some (left, a)
  climb (suc n) left a = if goes_on a then extended left a >>= climb n else Some (left, a)

  unfoldable pub whole : Text → Reading Term
  whole a = primary a >>= λ e b. climb (length b) e b

-- an expression
unfoldable pub read : ℕ → Text → Reading Term
read zero a = None
read (suc limit) a = whole limit (read limit) a

-- ---- statements

-- with their parentheses
unfoldable pub parameters : Text → Reading (List Text)
parameters a = expect left_paren a >>= λ _ b. separated_until binding right_paren b >>= λ xs c. expect right_paren c >>= λ _ d. Some (xs, d)

-- whether a function with these parameters is no deeper than `limit` and two more, as far as they go
abbrev pub fits : ℕ → List Text → Bool
fits limit [] = true
fits limit (x ∷ xs) = nat_le 2 limit

-- whether a declaration begins
abbrev pub declares : Text → Bool
declares a = sees (word (codes "const")) a || sees (word (codes "function")) a

-- The statements of a body have the depth `limit`, and `part` reads one; what is read has two levels more.
module _ (limit : ℕ) (part : Text → Reading Term) where
  unfoldable pub statements : ℕ → List Term → Text → Reading (List Term)
  statements zero found a = None
  statements (suc n) found a = if sees right_brace a then Some (found, a) else (part a >>= λ s b. statements n (found ++ s ∷ []) b)

  unfoldable pub body : Text → Reading (List Term)
  body a = expect left_brace a >>= λ _ b. statements (length b) [] b >>= λ ss c. expect right_brace c >>= λ _ d. Some (ss, d)

  -- behind `function`
  unfoldable pub function : Text → Reading Term
  function a =
      binding a >>= λ x b. parameters b >>= λ xs c. body c >>= λ ss d.
      if fits limit xs then Some (function_of x xs (all ss), d) else None

  -- behind `const`
  unfoldable pub constant : Text → Reading Term
  constant a = binding a >>= λ x b. expect equals b >>= λ _ c. read limit c >>= λ e d. closed (const_of x e) d

  unfoldable pub declaration : Text → Reading Term
  declaration a = if sees (word (codes "const")) a then constant (after a) else function (after a)

  -- behind `return`
  unfoldable pub returned : Text → Reading Term
  returned a = if same_line a then (read (limit + 1) a >>= λ e b. closed (return_of e) b) else None

  unfoldable pub effect : Text → Reading Term
  effect a = read (limit + 1) a >>= λ e b. if is_string_literal e then None else closed (statement_of e) b

  unfoldable pub either : Text → Reading Term
  either a = if declares a then declaration a else if sees (word (codes "return")) a then returned (after a) else effect a

unfoldable pub statement : ℕ → Text → Reading Term
statement zero a = None
statement (suc zero) a = None
statement (suc (suc limit)) a = either limit (statement limit) a

-- ---- modules

unfoldable pub renamed : Text → Text → Reading Term
renamed x a = binding a >>= λ y b. Some (specifier_of x y, b)

unfoldable pub unrenamed : Text → Text → Reading Term
unrenamed x a = if is_reserved x then None else Some (specifier_of x x, a)

unfoldable pub specifier : Text → Reading Term
specifier a = name a >>= λ x b. if sees (word (codes "as")) b then renamed x (after b) else unrenamed x b

unfoldable pub specifiers : Text → Reading (List Term)
specifiers a = separated_until specifier right_brace a

-- behind `import`
unfoldable pub imported : Text → Reading Term
imported a =
    expect left_brace a >>= λ _ b. specifiers b >>= λ ss c. expect right_brace c >>= λ _ d. expect (word (codes "from")) d >>= λ _ e.
    source e >>= λ v f. closed (import_declaration_of (all ss) v) f

-- behind `export`
unfoldable pub exported : ℕ → Text → Reading Term
exported limit a = if declares a then (declaration limit (statement limit) a >>= λ d b. Some (export_declaration_of d, b)) else None

-- an item, of the depth `limit` and three more
unfoldable pub item : ℕ → Text → Reading Term
item limit a =
    if sees (word (codes "import")) a then imported (after a)
    else if sees (word (codes "export")) a then exported limit (after a)
    else statement (limit + 3) a

unfoldable pub items : ℕ → ℕ → List Term → Text → Reading (List Term)
items limit zero found a = if list_all is_blank a then Some (found, a) else None
items limit (suc n) found a = if list_all is_blank a then Some (found, a) else (item limit a >>= λ s b. items limit n (found ++ s ∷ []) b)

abbrev pub program_by : Reading (List Term) → Option Term
program_by None = None
program_by (Some p) = Some (program_of (all p.0))

-- the tree of a whole text, of a depth of at most 512
unfoldable pub read_of : Text → Option Term
read_of a = program_by (items 508 (length a) [] a)
