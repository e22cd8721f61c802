-- The layout before a rest: the same text as a function of what stands behind it, so that no text is put together twice.
use Rattle.std.proofs.Common.{◌≡◌, refl, ap, ◌∙◌, ℕ, suc, zero, List, [], ◌∷◌, ◌++◌, append_assoc, Bool, true, false, ◌||◌, if◌then◌else◌, take, drop}
use Rattle.js_term.specs.Term.{Text, Term, absent, list, node, Terms, none, more}
use Rattle.js_term.specs.declared.kind.Kind.{Kind}
use Rattle.print_layout.specs.Rows.{Piece, say, part, each, heads, past, woven, row, method_row}
use Rattle.print_layout.specs.Needs.{needs, inside, is_held}
use Rattle.print_layout.specs.Layout.{Printed, part_at, separated, behind, template, spread, in_parentheses, is_method_part, text, rows, method_text, items_text, each_text}

abbrev pub To : Type 0
To = Text → Text

-- a part, and the items of a list
pub record Written : Type 0 where
  pub whole : To
  pub items : List To

abbrev pub silent : To
silent rest = rest

abbrev pub unwritten : Written
unwritten = record { whole = silent; items = [] }

abbrev pub at_to : ℕ → List Written → Written
at_to n [] = unwritten
at_to zero (w ∷ ws) = w
at_to (suc n) (w ∷ ws) = at_to n ws

abbrev pub behind_to : Text → List To → To
behind_to separator [] rest = rest
behind_to separator (f ∷ fs) rest = separator ++ f (behind_to separator fs rest)

abbrev pub separated_to : Text → List To → To
separated_to separator [] rest = rest
separated_to separator (f ∷ fs) rest = f (behind_to separator fs rest)

abbrev pub template_to : List To → List To → To
template_to [] es rest = rest
template_to (q ∷ qs) [] rest = q rest
template_to (q ∷ qs) (e ∷ es) rest = q (36 ∷ 123 ∷ e (125 ∷ template_to qs es rest))

abbrev pub spread_to : List Piece → List Written → To
spread_to [] ws rest = rest
spread_to (say x ∷ ps) ws rest = x ++ spread_to ps ws rest
spread_to (part n ∷ ps) ws rest = (at_to n ws).whole (spread_to ps ws rest)
spread_to (each separator n ∷ ps) ws rest = separated_to separator (at_to n ws).items (spread_to ps ws rest)
spread_to (heads m separator n ∷ ps) ws rest = separated_to separator (take m (at_to n ws).items) (spread_to ps ws rest)
spread_to (past m separator n ∷ ps) ws rest = separated_to separator (drop m (at_to n ws).items) (spread_to ps ws rest)
spread_to (woven m n ∷ ps) ws rest = template_to (at_to m ws).items (at_to n ws).items (spread_to ps ws rest)

abbrev pub held_to : Bool → To → To
held_to true f rest = 40 ∷ f (41 ∷ rest)
held_to false f rest = f rest

abbrev mutual
  pub to : Bool → (Term → Bool) → Term → To
  to i need absent rest = rest
  to i need (list ts) rest = rest
  to i need (node k texts ts) rest =
      let held = is_held i need k texts ts in
      held_to held (spread_to (row (i || held) k texts ts) (rows_to (i || held) k texts 0 ts)) rest

  pub rows_to : Bool → Kind → List Text → ℕ → Terms → List Written
  rows_to i k texts n none = []
  rows_to i k texts n (more t ts) = record { whole = if is_method_part k texts n then method_to t else to (inside i k n) (needs k texts n) t; items = items_to (inside i k n) (needs k texts n) t } ∷ rows_to i k texts (suc n) ts

  pub method_to : Term → To
  method_to (node k texts ts) rest = spread_to method_row (rows_to true k texts 0 ts) rest
  method_to t rest = rest

  pub items_to : Bool → (Term → Bool) → Term → List To
  items_to i need (list ts) = each_to i need ts
  items_to i need t = []

  pub each_to : Bool → (Term → Bool) → Terms → List To
  each_to i need none = []
  each_to i need (more t ts) = to i need t ∷ each_to i need ts

-- ---- the two are one text

abbrev Same : Text → To → Type 0
Same x f = (rest : Text) → x ++ rest ≡ f rest

abbrev EachSame : List Text → List To → Type 0
EachSame [] [] = Unit {0}
EachSame (x ∷ xs) (f ∷ fs) = Same x f × EachSame xs fs
EachSame xs fs = ⊥

abbrev PartSame : Printed → Written → Type 0
PartSame p w = Same p.whole w.whole × EachSame p.items w.items

abbrev PartsSame : List Printed → List Written → Type 0
PartsSame [] [] = Unit {0}
PartsSame (p ∷ ps) (w ∷ ws) = PartSame p w × PartsSame ps ws
PartsSame ps ws = ⊥

at_same : (n : ℕ) (rs : List Printed) (ws : List Written) → PartsSame rs ws → PartSame (part_at n rs) (at_to n ws)
at_same n [] [] e = (λ rest. refl, tt)
at_same n [] (w ∷ ws) e = absurd e
at_same n (r ∷ rs) [] e = absurd e
at_same zero (r ∷ rs) (w ∷ ws) e = e.0
at_same (suc n) (r ∷ rs) (w ∷ ws) e = at_same n rs ws e.1

behind_same : (separator : Text) (xs : List Text) (fs : List To) → EachSame xs fs → Same (behind separator xs) (behind_to separator fs)
behind_same separator [] [] e rest = refl
behind_same separator [] (f ∷ fs) e rest = absurd e
behind_same separator (x ∷ xs) [] e rest = absurd e
behind_same separator (x ∷ xs) (f ∷ fs) e rest =
    append_assoc separator (x ++ behind separator xs) rest ∙ ap (λ z. separator ++ z) (append_assoc x (behind separator xs) rest ∙ e.0 (behind separator xs ++ rest) ∙ ap f (behind_same separator xs fs e.1 rest))

separated_same : (separator : Text) (xs : List Text) (fs : List To) → EachSame xs fs → Same (separated separator xs) (separated_to separator fs)
separated_same separator [] [] e rest = refl
separated_same separator [] (f ∷ fs) e rest = absurd e
separated_same separator (x ∷ xs) [] e rest = absurd e
separated_same separator (x ∷ xs) (f ∷ fs) e rest = append_assoc x (behind separator xs) rest ∙ e.0 (behind separator xs ++ rest) ∙ ap f (behind_same separator xs fs e.1 rest)

take_same : (m : ℕ) (xs : List Text) (fs : List To) → EachSame xs fs → EachSame (take m xs) (take m fs)
take_same zero xs fs e = tt
take_same (suc m) [] [] e = tt
take_same (suc m) [] (f ∷ fs) e = absurd e
take_same (suc m) (x ∷ xs) [] e = absurd e
take_same (suc m) (x ∷ xs) (f ∷ fs) e = (e.0, take_same m xs fs e.1)

drop_same : (m : ℕ) (xs : List Text) (fs : List To) → EachSame xs fs → EachSame (drop m xs) (drop m fs)
drop_same zero xs fs e = e
drop_same (suc m) [] [] e = tt
drop_same (suc m) [] (f ∷ fs) e = absurd e
drop_same (suc m) (x ∷ xs) [] e = absurd e
drop_same (suc m) (x ∷ xs) (f ∷ fs) e = drop_same m xs fs e.1

template_same : (qs es : List Text) (ps fs : List To) → EachSame qs ps → EachSame es fs → Same (template qs es) (template_to ps fs)
template_same [] es [] fs q e rest = refl
template_same [] es (p ∷ ps) fs q e rest = absurd q
template_same (x ∷ qs) es [] fs q e rest = absurd q
template_same (x ∷ qs) [] (p ∷ ps) [] q e rest = q.0 rest
template_same (x ∷ qs) [] (p ∷ ps) (f ∷ fs) q e rest = absurd e
template_same (x ∷ qs) (y ∷ es) (p ∷ ps) [] q e rest = absurd e
template_same (x ∷ qs) (y ∷ es) (p ∷ ps) (f ∷ fs) q e rest =
    let tail : Text = template qs es in
    append_assoc x (36 ∷ 123 ∷ (y ++ 125 ∷ tail)) rest ∙ q.0 (36 ∷ 123 ∷ ((y ++ 125 ∷ tail) ++ rest)) ∙ ap (λ z. p (36 ∷ 123 ∷ z)) (append_assoc y (125 ∷ tail) rest ∙ e.0 (125 ∷ (tail ++ rest)) ∙ ap (λ z. f (125 ∷ z)) (template_same qs es ps fs q.1 e.1 rest))

front_same : (x y : Text) (f : To) (rest : Text) (z : Text) → Same x f → y ++ rest ≡ z → (x ++ y) ++ rest ≡ f z
front_same x y f rest z e h = append_assoc x y rest ∙ e (y ++ rest) ∙ ap f h

spread_same : (ps : List Piece) (rs : List Printed) (ws : List Written) → PartsSame rs ws → Same (spread ps rs) (spread_to ps ws)
spread_same [] rs ws e rest = refl
spread_same (say x ∷ ps) rs ws e rest = append_assoc x (spread ps rs) rest ∙ ap (λ z. x ++ z) (spread_same ps rs ws e rest)
spread_same (part n ∷ ps) rs ws e rest = front_same (part_at n rs).whole (spread ps rs) (at_to n ws).whole rest _ (at_same n rs ws e).0 (spread_same ps rs ws e rest)
spread_same (each separator n ∷ ps) rs ws e rest =
    front_same _ (spread ps rs) (separated_to separator (at_to n ws).items) rest _ (separated_same separator (part_at n rs).items (at_to n ws).items (at_same n rs ws e).1) (spread_same ps rs ws e rest)
spread_same (heads m separator n ∷ ps) rs ws e rest =
    front_same _ (spread ps rs) (separated_to separator (take m (at_to n ws).items)) rest _ (separated_same separator _ _ (take_same m (part_at n rs).items (at_to n ws).items (at_same n rs ws e).1)) (spread_same ps rs ws e rest)
spread_same (past m separator n ∷ ps) rs ws e rest =
    front_same _ (spread ps rs) (separated_to separator (drop m (at_to n ws).items)) rest _ (separated_same separator _ _ (drop_same m (part_at n rs).items (at_to n ws).items (at_same n rs ws e).1)) (spread_same ps rs ws e rest)
spread_same (woven m n ∷ ps) rs ws e rest =
    front_same _ (spread ps rs) (template_to (at_to m ws).items (at_to n ws).items) rest _ (template_same (part_at m rs).items (part_at n rs).items (at_to m ws).items (at_to n ws).items (at_same m rs ws e).1 (at_same n rs ws e).1) (spread_same ps rs ws e rest)

held_same : (b : Bool) (x : Text) (f : To) → Same x f → Same (in_parentheses b x) (held_to b f)
held_same true x f e rest = ap (λ z. 40 ∷ z) (append_assoc x (41 ∷ []) rest ∙ e (41 ∷ rest))
held_same false x f e rest = e rest

if_same : (b : Bool) (x y : Text) (f g : To) → Same x f → Same y g → Same (if b then x else y) (if b then f else g)
if_same true x y f g h k = h
if_same false x y f g h k = k

mutual
  pub text_same : (i : Bool) (need : Term → Bool) (t : Term) → Same (text i need t) (to i need t)
  text_same i need absent rest = refl
  text_same i need (list ts) rest = refl
  text_same i need (node k texts ts) rest =
      let held = is_held i need k texts ts in
      held_same held _ (spread_to (row (i || held) k texts ts) (rows_to (i || held) k texts 0 ts)) (spread_same (row (i || held) k texts ts) _ _ (rows_same (i || held) k texts 0 ts)) rest

  rows_same : (i : Bool) (k : Kind) (texts : List Text) (n : ℕ) (ts : Terms) → PartsSame (rows i k texts n ts) (rows_to i k texts n ts)
  rows_same i k texts n none = tt
  rows_same i k texts n (more t ts) =
      ((if_same (is_method_part k texts n) (method_text t) (text (inside i k n) (needs k texts n) t) (method_to t) (to (inside i k n) (needs k texts n) t) (method_same t) (text_same (inside i k n) (needs k texts n) t), items_same (inside i k n) (needs k texts n) t), rows_same i k texts (suc n) ts)

  method_same : (t : Term) → Same (method_text t) (method_to t)
  method_same absent rest = refl
  method_same (list ts) rest = refl
  method_same (node k texts ts) rest = spread_same method_row _ _ (rows_same true k texts 0 ts) rest

  items_same : (i : Bool) (need : Term → Bool) (t : Term) → EachSame (items_text i need t) (items_to i need t)
  items_same i need absent = tt
  items_same i need (list ts) = each_same i need ts
  items_same i need (node k texts ts) = tt

  each_same : (i : Bool) (need : Term → Bool) (ts : Terms) → EachSame (each_text i need ts) (each_to i need ts)
  each_same i need none = tt
  each_same i need (more t ts) = (text_same i need t, each_same i need ts)
