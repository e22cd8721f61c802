-- The text of a tree: rows with the parts in their places, in parentheses where their places need them; and the tree with
-- those parentheses.
use Rattle.std.specs.Prelude.{ℕ, zero, suc, List, [], ◌∷◌, ◌++◌, take, drop, Bool, true, false, ◌||◌, if◌then◌else◌, codes}
use Rattle.js_term.specs.Term.{Text, Term, absent, list, node, Terms, none, more, all}
use Rattle.js_term.specs.declared.kind.Kind.{Kind}
use Rattle.js_term.specs.Node.{parenthesized_of}
use Rattle.print_layout.specs.Rows.{Piece, say, part, each, heads, past, woven, row, method_row, is_method}
use Rattle.print_layout.specs.Needs.{needs, never, inside, is_held}

-- the text of a part, and those of the items of a list
pub record Printed : Type 0 where
  pub whole : Text
  pub items : List Text

abbrev pub nothing : Printed
nothing = record { whole = []; items = [] }

abbrev pub part_at : ℕ → List Printed → Printed
part_at n [] = nothing
part_at zero (r ∷ rs) = r
part_at (suc n) (r ∷ rs) = part_at n rs

-- items, with a separator between
abbrev mutual
  pub separated : Text → List Text → Text
  separated separator [] = []
  separated separator (x ∷ xs) = x ++ behind separator xs

  pub behind : Text → List Text → Text
  behind separator [] = []
  behind separator (x ∷ xs) = separator ++ (x ++ behind separator xs)

-- the texts of a template, with expressions between (13.2.8)
abbrev pub template : List Text → List Text → Text
template [] es = []
template (q ∷ qs) [] = q
template (q ∷ qs) (e ∷ es) = q ++ (codes "${" ++ (e ++ (codes "}" ++ template qs es)))

abbrev pub spread : List Piece → List Printed → Text
spread [] rs = []
spread (say x ∷ ps) rs = x ++ spread ps rs
spread (part n ∷ ps) rs = (part_at n rs).whole ++ spread ps rs
spread (each separator n ∷ ps) rs = separated separator (part_at n rs).items ++ spread ps rs
spread (heads m separator n ∷ ps) rs = separated separator (take m (part_at n rs).items) ++ spread ps rs
spread (past m separator n ∷ ps) rs = separated separator (drop m (part_at n rs).items) ++ spread ps rs
spread (woven m n ∷ ps) rs = template (part_at m rs).items (part_at n rs).items ++ spread ps rs

abbrev pub in_parentheses : Bool → Text → Text
in_parentheses true x = 40 ∷ (x ++ 41 ∷ [])
in_parentheses false x = x

-- whether the part numbered so is the function of a method, which stands without its flags (15.4)
abbrev pub is_method_part : Kind → List Text → ℕ → Bool
is_method_part Kind.MethodDefinition texts (suc n) = true
is_method_part Kind.ObjectProperty texts (suc n) = is_method texts
is_method_part k texts n = false

abbrev mutual
  -- the text of a part, by whether a bare `in` may stand there and when its place needs parentheses
  pub text : Bool → (Term → Bool) → Term → Text
  text i need absent = []
  text i need (list ts) = []
  text i need (node k texts ts) =
      let held = is_held i need k texts ts in
      in_parentheses held (spread (row (i || held) k texts ts) (rows (i || held) k texts 0 ts))

  -- the parts of a node, from the one numbered n on
  pub rows : Bool → Kind → List Text → ℕ → Terms → List Printed
  rows i k texts n none = []
  rows i k texts n (more t ts) = record { whole = if is_method_part k texts n then method_text t else text (inside i k n) (needs k texts n) t; items = items_text (inside i k n) (needs k texts n) t } ∷ rows i k texts (suc n) ts

  pub method_text : Term → Text
  method_text (node k texts ts) = spread method_row (rows true k texts 0 ts)
  method_text t = []

  pub items_text : Bool → (Term → Bool) → Term → List Text
  items_text i need (list ts) = each_text i need ts
  items_text i need t = []

  pub each_text : Bool → (Term → Bool) → Terms → List Text
  each_text i need none = []
  each_text i need (more t ts) = text i need t ∷ each_text i need ts

abbrev pub put : Bool → Term → Term
put true t = parenthesized_of t
put false t = t

abbrev mutual
  -- a part with its parentheses
  pub wrapped : Bool → (Term → Bool) → Term → Term
  wrapped i need absent = absent
  wrapped i need (list ts) = list (all (each_wrapped i need ts))
  wrapped i need (node k texts ts) =
      let held = is_held i need k texts ts in
      put held (node k texts (wrapped_kids (i || held) k texts 0 ts))

  pub wrapped_kids : Bool → Kind → List Text → ℕ → Terms → Terms
  wrapped_kids i k texts n none = none
  wrapped_kids i k texts n (more t ts) = more (wrapped (inside i k n) (needs k texts n) t) (wrapped_kids i k texts (suc n) ts)

  pub each_wrapped : Bool → (Term → Bool) → Terms → List Term
  each_wrapped i need none = []
  each_wrapped i need (more t ts) = wrapped i need t ∷ each_wrapped i need ts

-- the text of a module, and the tree that it spells
abbrev pub module_text : Term → Text
module_text t = text true never t

abbrev pub module_tree : Term → Term
module_tree t = wrapped true never t
