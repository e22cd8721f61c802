-- A syntax tree as it is compared: kinds, texts and kids, without spans and ids.
use Rattle.std.specs.Prelude.{ℕ, suc, max, List, [], ◌∷◌, Option, None, Some, Bool, true, false, nat_eq}
use Rattle.std.specs.Cmp.Lexicographic.{pointwise}
use Rattle.js_term.specs.declared.kind.Kind.{Kind}
use Rattle.js_term.specs.declared.kind.Kind.TheVariants as Kind

-- the bytes of a text, in UTF-8
abbrev pub Text : Type 0
Text = List ℕ

abbrev pub is_text : Text → Text → Bool
is_text = pointwise nat_eq

mutual
  -- a part that is not there, a list of parts, or a node with its texts and its kids
  pub data Term : Type 0 where
    absent : Term
    list : Terms → Term
    node : Kind → List Text → Terms → Term

  pub data Terms : Type 0 where
    none : Terms
    more : Term → Terms → Terms

-- a list is no level of its own
abbrev mutual
  pub depth : Term → ℕ
  depth absent = 0
  depth (list ts) = depths ts
  depth (node k texts ts) = suc (depths ts)

  pub depths : Terms → ℕ
  depths none = 0
  depths (more t ts) = max (depth t) (depths ts)

abbrev pub unwrapped : Kind → List Text → Terms → Term
unwrapped Kind.ParenthesizedExpression texts (more t ts) = t
unwrapped k texts ts = node k texts ts

-- the tree without its parentheses
abbrev mutual
  pub strip : Term → Term
  strip absent = absent
  strip (list ts) = list (strip_all ts)
  strip (node k texts ts) = unwrapped k texts (strip_all ts)

  pub strip_all : Terms → Terms
  strip_all none = none
  strip_all (more t ts) = more (strip t) (strip_all ts)

abbrev pub one : Term → Terms
one t = more t none

abbrev pub two : Term → Term → Terms
two t u = more t (more u none)

abbrev pub append : Terms → Terms → Terms
append none us = us
append (more t ts) us = more t (append ts us)

-- a list of terms as kids
abbrev pub all : List Term → Terms
all [] = none
all (t ∷ ts) = more t (all ts)

abbrev pub maybe : Option Term → Term
maybe None = absent
maybe (Some t) = t

-- a flag among the texts: its word, or nothing
abbrev pub flag : Bool → Text → Text
flag true word = word
flag false word = []

-- the parts of a term
abbrev pub kids_of : Term → Terms
kids_of (node k texts ts) = ts
kids_of t = none

abbrev pub items : Term → Terms
items (list ts) = ts
items t = none

abbrev pub head : Terms → Term
head none = absent
head (more t ts) = t

abbrev pub rest : Terms → Terms
rest none = none
rest (more t ts) = ts

abbrev pub first : List Text → Text
first [] = []
first (x ∷ xs) = x

abbrev pub text_of : Term → Text
text_of (node k texts ts) = first texts
text_of t = []
