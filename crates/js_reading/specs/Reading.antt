-- Reading as a function: what it answers, the tokens at the front of a text, the semicolon, and lists.
use Rattle.std.specs.Prelude.{ℕ, zero, suc, List, [], ◌∷◌, ◌++◌, map, length, Option, None, Some, Bool, true, false, not, ◌&&◌, ◌||◌, if◌then◌else◌, codes}
use Rattle.js_term.specs.Term.{Text, is_text, Term, all}
use Rattle.js_term.specs.Lexeme.{is_reserved}
use Rattle.js_term.specs.Node.{sequence_of}
use Rattle.js_syntax.specs.Tokens.{Lexeme, word, string, sign}
use Rattle.js_syntax.specs.Edges.{Edge, goes_on_with, begins_key}
use Rattle.js_tokens.specs.Gaps.{front, is_same_line, is_at_end}
use Rattle.js_tokens.specs.Next.{lexeme, after}

-- What is found at the front of a text: a tree, and the level of an expression. It may be a cover, which stands for an
-- assignment pattern alone since a shorthand in it has an initializer (13.2.5.1), or be barred from standing for a
-- pattern, since a comma stands behind a spread in it (13.15.5, 14.3.3).
pub record Found : Type 0 where
  pub tree : Term
  pub level : ℕ
  pub cover : Bool
  pub barred : Bool

-- an expression that is neither
abbrev pub closed : Term → ℕ → Found
closed t n = record { tree = t; level = n; cover = false; barred = false }

-- what is read, and what is left
abbrev pub Reading : Type 0 → Type 0
Reading A = Option (A × Text)

infixl 10 ◌>>=◌
abbrev pub ◌>>=◌ : {A B : Type 0} → Reading A → (A → Text → Reading B) → Reading B
None >>= f = None
(Some p) >>= f = f p.0 p.1

-- what is read, or else the other answer
abbrev pub either : {A B : Type 0} → Reading A → B → (A → Text → B) → B
either None x f = x
either (Some p) x f = f p.0 p.1

-- ---- tokens

abbrev pub is_sign : Text → Option Lexeme → Bool
is_sign s (Some (sign t)) = is_text t s
is_sign s o = false

abbrev pub is_word : Text → Option Lexeme → Bool
is_word x (Some (word y)) = is_text y x
is_word x o = false

unfoldable pub sees : Text → Text → Bool
sees s a = is_sign s (lexeme a)

unfoldable pub sees_word : Text → Text → Bool
sees_word x a = is_word x (lexeme a)

unfoldable pub same_line : Text → Bool
same_line a = is_same_line (front a)

unfoldable pub at_end : Text → Bool
at_end a = is_at_end (front a)

unfoldable pub expect : Text → Text → Reading (Unit {0})
expect s a = if sees s a then Some (tt, after a) else None

unfoldable pub expect_word : Text → Text → Reading (Unit {0})
expect_word x a = if sees_word x a then Some (tt, after a) else None

abbrev pub name_by : Option Lexeme → Text → Reading Text
name_by (Some (word x)) b = Some (x, b)
name_by o b = None

unfoldable pub name : Text → Reading Text
name a = name_by (lexeme a) (after a)

abbrev pub unreserved : Text → Text → Reading Text
unreserved x b = if is_reserved x then None else Some (x, b)

unfoldable pub binding : Text → Reading Text
binding a = name a >>= unreserved

abbrev pub string_by : Option Lexeme → Text → Reading (Text × Text)
string_by (Some (string raw v)) b = Some ((raw, v), b)
string_by o b = None

-- a string as it is written, and its value
unfoldable pub string_token : Text → Reading (Text × Text)
string_token a = string_by (lexeme a) (after a)

abbrev pub begins_key_by : Option Lexeme → Bool
begins_key_by None = false
begins_key_by (Some l) = begins_key l

unfoldable pub begins_key_at : Text → Bool
begins_key_at a = begins_key_by (lexeme a)

-- the arrow of a function, on the same line (15.3)
unfoldable pub arrow_here : Text → Bool
arrow_here a = sees (codes "=>") a && same_line a

-- ---- the semicolon, written or left out (12.10)

abbrev pub goes_on_at : Edge → Option Lexeme → Bool
goes_on_at e None = true
goes_on_at e (Some l) = goes_on_with e l

unfoldable pub left_out : Edge → Text → Bool
left_out e a = sees (codes "}") a || at_end a || (not (same_line a) && not (goes_on_at e (lexeme a)))

unfoldable pub semicolon : Edge → Text → Reading (Unit {0})
semicolon e a = if sees (codes ";") a then Some (tt, after a) else if left_out e a then Some (tt, a) else None

-- behind the parenthesis of `do s while (e)`
abbrev pub do_end_by : Option Lexeme → Bool → Text → Reading (Unit {0})
do_end_by None end a = if end then Some (tt, a) else None
do_end_by (Some l) end a = Some (tt, a)

unfoldable pub do_end : Text → Reading (Unit {0})
do_end a = if sees (codes ";") a then Some (tt, after a) else do_end_by (lexeme a) (at_end a) a

-- ---- lists

module _ {A : Type 0} (item : Text → Reading A) where
  -- one or more, with commas between
  unfoldable pub separated : ℕ → List A → Text → Reading (List A)
  separated zero found a = None
  separated (suc n) found a = item a >>= λ x b. if sees (codes ",") b then separated n (found ++ x ∷ []) (after b) else Some (found ++ x ∷ [], b)

  -- and whether a comma stands behind, before the sign that closes
  unfoldable pub items : Text → ℕ → List A → Text → Reading (List A × Bool)
  items close zero found a = None
  items close (suc n) found a =
      item a >>= λ x b.
      if sees (codes ",") b then (if sees close (after b) then Some ((found ++ x ∷ [], true), after b) else items close n (found ++ x ∷ []) (after b))
      else Some ((found ++ x ∷ [], false), b)

  -- none, or such a list
  unfoldable pub group : Text → Text → Reading (List A × Bool)
  group close a = if sees close a then Some (([], false), a) else items close (length a) [] a

-- one expression, or several as a sequence
abbrev pub joined : List Term → Term
joined (e ∷ []) = e
joined es = sequence_of (all es)

-- ---- what was found, as the items of a literal

abbrev pub tree_in : Found → Term
tree_in f = f.tree

abbrev pub trees : List Found → List Term
trees fs = map tree_in fs

abbrev pub any_cover : List Found → Bool
any_cover [] = false
any_cover (f ∷ fs) = f.cover || any_cover fs

abbrev pub any_barred : List Found → Bool
any_barred [] = false
any_barred (f ∷ fs) = f.barred || any_barred fs
