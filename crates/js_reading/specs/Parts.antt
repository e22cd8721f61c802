-- Expressions in a list, arguments, keys, and templates. What reads a part is handed in.
use Rattle.std.specs.Prelude.{ℕ, zero, suc, List, [], ◌∷◌, ◌++◌, length, Option, None, Some, Bool, true, false, not, ◌||◌, if◌then◌else◌, codes}
use Rattle.js_term.specs.Term.{Text, is_text, Term, absent}
use Rattle.js_term.specs.declared.kind.Kind.{Kind}
use Rattle.js_term.specs.Node.{name_of, string_of, number_of}
use Rattle.js_syntax.specs.Lexical.{has_sound_escapes}
use Rattle.js_syntax.specs.Nodes.{of_text, of_part, private_of}
use Rattle.js_syntax.specs.Tokens.{Lexeme, word, private_name, number, big_integer, string, no_substitution, template_head, template_middle, template_tail, sign}
use Rattle.js_tokens.specs.Next.{Cut, lexeme, after, next_tail}
use Rattle.js_reading.specs.declared.goal.Goal.{Goal}
use Rattle.js_reading.specs.declared.goal.Goal.TheVariants as goal
use Rattle.js_reading.specs.Reading.{Found, closed, Reading, ◌>>=◌, sees, expect, separated, group, joined, trees}

-- an expression is no cover
abbrev pub settled : Found → Text → Reading Term
settled f b = if f.cover then None else Some (f.tree, b)

abbrev pub uncovered : Found → Text → Reading Found
uncovered f b = if f.cover then None else Some (f, b)

abbrev pub spread_of : Found → Found
spread_of f = record { tree = of_part Kind.SpreadElement f.tree; level = 0; cover = f.cover; barred = f.barred }

-- a key, and whether it stands in brackets
abbrev pub Key : Type 0
Key = Bool × Term

abbrev pub quasi : Text → Term
quasi raw = of_text Kind.TemplateElement raw

-- a template without a tag has sound escapes (13.2.8)
abbrev pub is_allowed : Bool → Text → Bool
is_allowed sound raw = not sound || has_sound_escapes raw

-- the texts and the expressions of a template
abbrev pub Quasis : Type 0
Quasis = List Term × List Term

-- what stands behind a substitution: whether another one follows, and the text up to there
abbrev pub quasi_by : Bool → Cut → Reading (Bool × Text)
quasi_by sound (Some (template_tail raw, b)) = if is_allowed sound raw then Some ((false, raw), b) else None
quasi_by sound (Some (template_middle raw, b)) = if is_allowed sound raw then Some ((true, raw), b) else None
quasi_by sound o = None

module _ (sub : Goal → Text → Reading Found) where
  unfoldable pub part : Goal → Text → Reading Term
  part g a = sub g a >>= settled

  -- one expression, or several with commas between (13.16)
  unfoldable pub expression : Bool → Text → Reading Term
  expression i a = separated (part (goal.Expression 2 i)) (length a) [] a >>= λ es b. Some (joined es, b)

  -- ...e
  unfoldable pub spread : Text → Reading Found
  spread a = sub (goal.Expression 2 true) a >>= λ f b. Some (spread_of f, b)

  -- what stands in parentheses: an expression, or what may become a parameter
  unfoldable pub item : Text → Reading Found
  item a = if sees (codes "...") a then spread (after a) else sub (goal.Expression 2 true) a

  -- an element of an array, or an elision
  unfoldable pub element : Text → Reading Found
  element a = if sees (codes ",") a then Some (closed absent 0, a) else item a

  unfoldable pub argument : Text → Reading Found
  argument a = item a >>= uncovered

  -- behind `(` (13.3)
  unfoldable pub arguments : Text → Reading (List Term)
  arguments a = group argument (codes ")") a >>= λ found b. expect (codes ")") b >>= λ _ c. Some (trees found.0, c)

  -- behind `[`
  unfoldable pub computed_key : Text → Reading Key
  computed_key a = part (goal.Expression 2 true) a >>= λ e b. expect (codes "]") b >>= λ _ c. Some ((true, e), c)

  abbrev pub key_by : Option Lexeme → Text → Reading Key
  key_by (Some (word x)) b = Some ((false, name_of x), b)
  key_by (Some (string raw v)) b = Some ((false, string_of v), b)
  key_by (Some (number raw)) b = Some ((false, number_of raw), b)
  key_by (Some (big_integer raw)) b = Some ((false, of_text Kind.BigIntLiteral raw), b)
  key_by (Some (sign s)) b = if is_text s (codes "[") then computed_key b else None
  key_by o b = None

  -- the key of a property (13.2.5)
  unfoldable pub key : Text → Reading Key
  key a = key_by (lexeme a) (after a)

  -- the key of a class element (15.7), which may be private
  abbrev pub member_key_by : Option Lexeme → Text → Reading Key
  member_key_by (Some (private_name x)) b = Some ((false, private_of x), b)
  member_key_by o b = key_by o b

  unfoldable pub member_key : Text → Reading Key
  member_key a = member_key_by (lexeme a) (after a)

  -- ---- templates (13.2.8)

  unfoldable pub template_rest : Bool → ℕ → Quasis → Text → Reading Quasis
  template_rest sound zero found a = None
  template_rest sound (suc n) found a =
      quasi_by sound (next_tail a) >>= λ q b.
      if q.0 then (expression true b >>= λ e c. template_rest sound n (found.0 ++ quasi q.1 ∷ [], found.1 ++ e ∷ []) c)
      else Some ((found.0 ++ quasi q.1 ∷ [], found.1), b)

  -- behind the token that opens one
  abbrev pub template_by : Bool → Option Lexeme → Text → Reading Quasis
  template_by sound (Some (no_substitution raw)) b = if is_allowed sound raw then Some ((quasi raw ∷ [], []), b) else None
  template_by sound (Some (template_head raw)) b = if is_allowed sound raw then (expression true b >>= λ e c. template_rest sound (length c) (quasi raw ∷ [], e ∷ []) c) else None
  template_by sound o b = None
