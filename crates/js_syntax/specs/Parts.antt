-- The parts and texts of a term, and questions about them.
use Rattle.std.specs.Prelude.{ℕ, zero, suc, List, [], ◌∷◌, Bool, true, false, cond, ◌&&◌}
use Rattle.js_term.specs.Term.{Text, is_text, Term, absent, list, node, Terms, none, more}
use Rattle.js_term.specs.declared.kind.Kind.{Kind}
use Rattle.js_term.specs.Kinds.{is_kind}

-- the kids of a node, or the items of a list
abbrev pub parts_of : Term → Terms
parts_of absent = none
parts_of (list ts) = ts
parts_of (node k texts ts) = ts

abbrev pub texts_of : Term → List Text
texts_of (node k texts ts) = texts
texts_of t = []

-- the text numbered n
abbrev pub text_at : ℕ → List Text → Text
text_at n [] = []
text_at zero (x ∷ xs) = x
text_at (suc n) (x ∷ xs) = text_at n xs

abbrev pub first_is : Text → List Text → Bool
first_is w texts = is_text (text_at 0 texts) w

abbrev pub text_of : Term → Text
text_of t = text_at 0 (texts_of t)

-- a flag among the texts is set where it is its word and not the empty text
abbrev pub is_set : Text → Bool
is_set [] = false
is_set (c ∷ cs) = true

abbrev pub is_set_at : ℕ → List Text → Bool
is_set_at n texts = is_set (text_at n texts)

abbrev pub is_node : Kind → Term → Bool
is_node k (node j texts ts) = is_kind j k
is_node k t = false

abbrev pub is_present : Term → Bool
is_present absent = false
is_present t = true

abbrev pub count : Terms → ℕ
count none = 0
count (more t ts) = suc (count ts)

abbrev pub count_if : (Term → Bool) → Terms → ℕ
count_if p none = 0
count_if p (more t ts) = cond (p t) (suc (count_if p ts)) (count_if p ts)

abbrev pub each : (Term → Bool) → Terms → Bool
each p none = true
each p (more t ts) = p t && each p ts
