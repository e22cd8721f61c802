-- Functions (15.1 to 15.6, 15.8). What reads a part is handed in.
use Rattle.std.specs.Prelude.{ℕ, zero, suc, List, [], ◌∷◌, ◌++◌, length, Option, None, Some, Bool, true, false, not, ◌&&◌, if◌then◌else◌, codes}
use Rattle.js_term.specs.Term.{Text, Term, absent}
use Rattle.js_term.specs.declared.kind.Kind.{Kind}
use Rattle.js_term.specs.Lexeme.{is_reserved}
use Rattle.js_term.specs.Node.{binding_of}
use Rattle.js_syntax.specs.Nodes.{of_text, of_part, rested, parameter_of, function_node, body_node}
use Rattle.js_syntax.specs.Tokens.{Lexeme, word, string}
use Rattle.js_syntax.specs.Edges.{full}
use Rattle.js_tokens.specs.Next.{lexeme, after}
use Rattle.js_reading.specs.declared.goal.Goal.{Goal}
use Rattle.js_reading.specs.declared.goal.Goal.TheVariants as goal
use Rattle.js_reading.specs.Reading.{Found, Reading, ◌>>=◌, either, sees, expect, semicolon}
use Rattle.js_reading.specs.Parts.{part}

-- the mark of a generator, or none
unfoldable pub star : Text → Reading Text
star a = if sees (codes "*") a then Some (codes "*", after a) else Some ([], a)

-- the name of a function or a class, or none
abbrev pub naming_by : Option Lexeme → Text → Reading Term
naming_by (Some (word x)) a = if is_reserved x then Some (absent, a) else Some (binding_of x, after a)
naming_by o a = Some (absent, a)

unfoldable pub naming : Text → Reading Term
naming a = naming_by (lexeme a) a

-- the parameters of a function: its patterns, the rest or none, and whether a comma stands behind
pub record Parameters : Type 0 where
  pub items : List Term
  pub rest : Term
  pub comma : Bool

abbrev pub no_rest : List Term → Bool → Parameters
no_rest ps comma = record { items = ps; rest = absent; comma = comma }

abbrev pub rest_last : List Term → Term → Parameters
rest_last ps p = record { items = ps; rest = of_part Kind.FormalParameterRest (of_part Kind.BindingRestElement p); comma = false }

-- ---- directives (11.2.1)

-- a string token that a semicolon ends, and what is left behind it
abbrev pub directive_by : Option Lexeme → Text → Reading Text
directive_by (Some (string raw v)) b = semicolon full b >>= λ _ c. Some (raw, c)
directive_by o b = None

unfoldable pub directives : ℕ → List Term → Text → Reading (List Term)
directives zero found a = None
directives (suc n) found a = either (directive_by (lexeme a) (after a)) (Some (found, a)) (λ raw b. directives n (found ++ of_text Kind.Directive raw ∷ []) b)

module _ (sub : Goal → Text → Reading Found) where
  unfoldable pub bound : Text → Reading Term
  bound a = sub goal.Pattern a >>= λ f b. Some (f.tree, b)

  -- = e, or nothing
  unfoldable pub initializer : Bool → Text → Reading Term
  initializer i a = if sees (codes "=") a then part sub (goal.Expression 2 i) (after a) else Some (absent, a)

  unfoldable pub parameter : Text → Reading Term
  parameter a = bound a >>= λ p b. initializer true b >>= λ e c. Some (parameter_of p e, c)

  unfoldable pub parameter_items : ℕ → List Term → Text → Reading Parameters
  parameter_items zero found a = None
  parameter_items (suc n) found a =
      if sees (codes "...") a then (bound (after a) >>= λ p b. Some (rest_last found p, b))
      else (parameter a >>= λ p b.
      if sees (codes ",") b then (if sees (codes ")") (after b) then Some (no_rest (found ++ p ∷ []) true, after b) else parameter_items n (found ++ p ∷ []) (after b))
      else Some (no_rest (found ++ p ∷ []) false, b))

  unfoldable pub parameter_list : Text → Reading Parameters
  parameter_list a = if sees (codes ")") a then Some (no_rest [] false, a) else parameter_items (length a) [] a

  -- the flag allows a comma behind the last
  unfoldable pub parameters : Bool → Text → Reading Term
  parameters t a =
      expect (codes "(") a >>= λ _ b. parameter_list b >>= λ found c. expect (codes ")") c >>= λ _ d.
      if found.comma && not t then None else Some (rested Kind.FormalParameters found.items found.rest, d)

  -- ---- bodies (15.2.1)

  unfoldable pub statements : ℕ → List Term → Text → Reading (List Term)
  statements zero found a = None
  statements (suc n) found a = if sees (codes "}") a then Some (found, a) else (sub goal.Statement a >>= λ f b. statements n (found ++ f.tree ∷ []) b)

  -- statements up to the brace that closes them, and that brace
  unfoldable pub enclosed : Text → Reading (List Term)
  enclosed a = statements (length a) [] a >>= λ ss b. expect (codes "}") b >>= λ _ c. Some (ss, c)

  unfoldable pub body : Text → Reading Term
  body a = expect (codes "{") a >>= λ _ b. directives (suc (length b)) [] b >>= λ ds c. enclosed c >>= λ ss d. Some (body_node ds ss, d)

  -- behind `function`
  unfoldable pub function : Kind → Text → Text → Reading Term
  function k async a = star a >>= λ s b. naming b >>= λ id c. parameters true c >>= λ ps d. body d >>= λ t e. Some (function_node k async s id ps t, e)

  -- the function of a method (15.4)
  unfoldable pub method_function : Bool → Text → Text → Text → Reading Term
  method_function t async s a = parameters t a >>= λ ps b. body b >>= λ body c. Some (function_node Kind.FunctionExpression async s absent ps body, c)
