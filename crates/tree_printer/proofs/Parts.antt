-- The parts of a node, as they are printed.
use Rattle.std.proofs.Common.{◌≡◌, refl, sym, ap, ◌∙◌, ℕ, zero, suc, ◌+◌, ◌<◌, ◌≤◌, List, [], ◌∷◌, take, drop, get_or, length, map, Bool, true, false, not, ◌&&◌, ◌||◌, if◌then◌else◌, Option, None, Some, slice_get, arith}
use Rattle.std.proofs.lemmas.List.{take-map, drop-map}
use denote.Param.Weighed.{most}
use Rattle.js_term.specs.Term.{Text, Term, absent, list, node, Terms, all}
use Rattle.js_term.specs.declared.kind.Kind.{Kind}
use Rattle.js_tree.specs.TermOf.{by_form, term}
use Rattle.js_tree.specs.Parts.{kids, top}
use Rattle.js_tree.specs.declared.node.Form.{Form}
use Rattle.js_tree.specs.declared.node.Form.TheVariants as form
use Rattle.js_tree.specs.declared.node.Node.{Node, size-Node}
use Rattle.js_tree.proofs.TermOf.{term_is, term_of_node, term_of_list}
use Rattle.js_tree.proofs.PartLaws.{kids_are_smaller, kid_is_smaller}
use Rattle.print_layout.specs.Needs.{inside, needs, is_in}
use Rattle.print_layout.specs.Layout.{Printed, nothing, part_at, text, rows, spread, in_parentheses, is_method_part, method_text, items_text, each_text, separated, template}
use Rattle.tree_printer.specs.Printed.{shown, row_as, parts, item_text, by_list, listed}

-- ---- the part numbered so

abbrev printed_at : Bool → Kind → List Text → ℕ → Term → Printed
printed_at i kind texts n t = record { whole = if is_method_part kind texts n then method_text t else text (inside i kind n) (needs kind texts n) t; items = items_text (inside i kind n) (needs kind texts n) t }

there : {A : Type 0} (f : A → Term) (i : Bool) (kind : Kind) (texts : List Text) (m k j : ℕ) (xs : List A) (x : A) → j ≡ k + m → slice_get xs k ≡ Some x → part_at k (rows i kind texts m (all (map f xs))) ≡ printed_at i kind texts j (f x)
there f i kind texts m k j [] x e h = absurd (cc)
there f i kind texts m zero j (y ∷ xs) x e h =
    let same : m ≡ j = omega arith in
    let first : y ≡ x = cc in
    ap (λ n. printed_at i kind texts n (f y)) same ∙ ap (λ z. printed_at i kind texts j (f z)) first
there f i kind texts m (suc k) j (y ∷ xs) x e h = there f i kind texts (suc m) k j xs x (omega arith) h

not_there : {A : Type 0} (f : A → Term) (i : Bool) (kind : Kind) (texts : List Text) (m k : ℕ) (xs : List A) → slice_get xs k ≡ None → part_at k (rows i kind texts m (all (map f xs))) ≡ nothing
not_there f i kind texts m k [] h = refl
not_there f i kind texts m zero (y ∷ xs) h = absurd (cc)
not_there f i kind texts m (suc k) (y ∷ xs) h = not_there f i kind texts (suc m) k xs h

part_is : (i : Bool) (kind : Kind) (n : Node) (k : ℕ) (x : Node) → slice_get (kids n) k ≡ Some x → part_at k (parts i kind n) ≡ printed_at i kind (top n).texts k (term x)
part_is i kind n k x h = there term i kind (top n).texts 0 k k (kids n) x (omega arith) h

pub part_is_not : (i : Bool) (kind : Kind) (n : Node) (k : ℕ) → slice_get (kids n) k ≡ None → part_at k (parts i kind n) ≡ nothing
part_is_not i kind n k h = not_there term i kind (top n).texts 0 k (kids n) h

pub held_text : (j : Bool) (need : Term → Bool) (t : Term) → text j (λ u. need t) t ≡ text j need t
held_text j need absent = refl
held_text j need (list ts) = refl
held_text j need (node k texts ts) = refl

shown_by : (m : Bool) (j : Bool) (need : Term → Bool) (t : Term) → shown m j (need t) t ≡ (if m then method_text t else text j need t)
shown_by true j need t = refl
shown_by false j need t = held_text j need t

pub shown_part : (i : Bool) (kind : Kind) (n : Node) (k : ℕ) (x : Node) (m a b : Bool) → slice_get (kids n) k ≡ Some x → m ≡ is_method_part kind (top n).texts k → a ≡ inside i kind k → b ≡ needs kind (top n).texts k (term x) → shown m a b (term x) ≡ (part_at k (parts i kind n)).whole
shown_part i kind n k x m a b h em ea eb =
    ap (λ z. shown z a b (term x)) em ∙ (ap (λ z. shown (is_method_part kind (top n).texts k) z b (term x)) ea ∙ (ap (λ z. shown (is_method_part kind (top n).texts k) (inside i kind k) z (term x)) eb
    ∙ (shown_by (is_method_part kind (top n).texts k) (inside i kind k) (needs kind (top n).texts k) (term x) ∙ sym (ap (λ p. p.whole) (part_is i kind n k x h)))))

pub shown_item : (i : Bool) (kind : Kind) (n : Node) (k : ℕ) (x : Node) (a b : Bool) → a ≡ inside i kind k → b ≡ needs kind (top n).texts k (term x) → shown false a b (term x) ≡ item_text i kind n k x
shown_item i kind n k x a b ea eb =
    ap (λ z. shown false z b (term x)) ea ∙ (ap (λ z. shown false (inside i kind k) z (term x)) eb ∙ held_text (inside i kind k) (needs kind (top n).texts k) (term x))

-- ---- the items of a list

each_of : {A : Type 0} (f : A → Term) (j : Bool) (need : Term → Bool) (xs : List A) → each_text j need (all (map f xs)) ≡ map (λ x. text j need (f x)) xs
each_of f j need [] = refl
each_of f j need (x ∷ xs) = ap (λ z. text j need (f x) ∷ z) (each_of f j need xs)

items_of : (j : Bool) (need : Term → Bool) (x : Node) (f : Form) → (top x).form ≡ f → items_text j need (term x) ≡ map (λ y. text j need (term y)) (by_list f (kids x))
items_of j need x form.Absent e = ap (items_text j need) (term_is x ∙ ap (λ (g : Form). by_form g (top x).texts (all (map term (kids x)))) e)
items_of j need x form.List e = ap (items_text j need) (term_of_list x e) ∙ each_of term j need (kids x)
items_of j need x (form.Node kind) e = ap (items_text j need) (term_of_node x kind e)

pub items_are : (i : Bool) (kind : Kind) (n : Node) (k : ℕ) (p : Option Node) → slice_get (kids n) k ≡ p → (part_at k (parts i kind n)).items ≡ map (item_text i kind n k) (listed p)
items_are i kind n k None h = ap (λ r. r.items) (part_is_not i kind n k h)
items_are i kind n k (Some x) h = ap (λ r. r.items) (part_is i kind n k x h) ∙ items_of (inside i kind k) (needs kind (top n).texts k) x (top x).form refl

pub each_listed : (i : Bool) (kind : Kind) (n : Node) (k : ℕ) (separator : Text) (xs : List Node) → xs ≡ listed (slice_get (kids n) k) → separated separator (map (item_text i kind n k) xs) ≡ separated separator (part_at k (parts i kind n)).items
each_listed i kind n k separator xs e = ap (λ ys. separated separator (map (item_text i kind n k) ys)) e ∙ sym (ap (separated separator) (items_are i kind n k (slice_get (kids n) k) refl))

pub heads_listed : (i : Bool) (kind : Kind) (n : Node) (k m : ℕ) (separator : Text) (xs ys : List Node) → xs ≡ listed (slice_get (kids n) k) → ys ≡ take m xs → separated separator (map (item_text i kind n k) ys) ≡ separated separator (take m (part_at k (parts i kind n)).items)
heads_listed i kind n k m separator xs ys e d =
    ap (λ zs. separated separator (map (item_text i kind n k) zs)) (d ∙ ap (take m) e) ∙ sym (ap (λ zs. separated separator (take m zs)) (items_are i kind n k (slice_get (kids n) k) refl) ∙ ap (separated separator) (take-map (item_text i kind n k) m (listed (slice_get (kids n) k))))

pub past_listed : (i : Bool) (kind : Kind) (n : Node) (k m : ℕ) (separator : Text) (xs ys : List Node) → xs ≡ listed (slice_get (kids n) k) → ys ≡ drop m xs → separated separator (map (item_text i kind n k) ys) ≡ separated separator (drop m (part_at k (parts i kind n)).items)
past_listed i kind n k m separator xs ys e d =
    ap (λ zs. separated separator (map (item_text i kind n k) zs)) (d ∙ ap (drop m) e) ∙ sym (ap (λ zs. separated separator (drop m zs)) (items_are i kind n k (slice_get (kids n) k) refl) ∙ ap (separated separator) (drop-map (item_text i kind n k) m (listed (slice_get (kids n) k))))

pub woven_listed : (i : Bool) (kind : Kind) (n : Node) (m k : ℕ) (xs ys : List Node) → xs ≡ listed (slice_get (kids n) m) → ys ≡ listed (slice_get (kids n) k) → template (map (item_text i kind n m) xs) (map (item_text i kind n k) ys) ≡ template (part_at m (parts i kind n)).items (part_at k (parts i kind n)).items
woven_listed i kind n m k xs ys e d =
    ap (λ zs. template zs (map (item_text i kind n k) ys)) (ap (map (item_text i kind n m)) e ∙ sym (items_are i kind n m (slice_get (kids n) m) refl))
    ∙ ap (template (part_at m (parts i kind n)).items) (ap (map (item_text i kind n k)) d ∙ sym (items_are i kind n k (slice_get (kids n) k) refl))

-- ---- a node

pub shown_held : (m i held : Bool) (kind : Kind) (texts : List Text) (ts : Terms) →
    let p = not m && (held || (not i && is_in kind texts)) in
    let b = m || (i || p) in
    in_parentheses p (spread (row_as m b kind texts ts) (rows b kind texts 0 ts)) ≡ shown m i held (node kind texts ts)
shown_held true i held kind texts ts = refl
shown_held false i held kind texts ts = refl

pub shown_node : (m i held p b : Bool) (n : Node) (kind : Kind) → (top n).form ≡ form.Node kind → p ≡ (not m && (held || (not i && is_in kind (top n).texts))) → b ≡ (m || (i || p)) →
    in_parentheses p (spread (row_as m b kind (top n).texts (all (map term (kids n)))) (parts b kind n)) ≡ shown m i held (term n)
shown_node m i held p b n kind e ep eb =
    ap (λ z. in_parentheses p (spread (row_as m z kind (top n).texts (all (map term (kids n)))) (parts z kind n))) eb
    ∙ (ap (λ z. in_parentheses z (spread (row_as m (m || (i || z)) kind (top n).texts (all (map term (kids n)))) (parts (m || (i || z)) kind n))) ep
    ∙ (shown_held m i held kind (top n).texts (all (map term (kids n))) ∙ sym (ap (shown m i held) (term_of_node n kind e))))

no_text : (m i held : Bool) → shown m i held absent ≡ []
no_text true i held = refl
no_text false i held = refl

pub shown_absent : (m i held : Bool) (n : Node) → (top n).form ≡ form.Absent → shown m i held (term n) ≡ []
shown_absent m i held n e = ap (shown m i held) (term_is n ∙ ap (λ (f : Form). by_form f (top n).texts (all (map term (kids n)))) e) ∙ no_text m i held

no_list : (m i held : Bool) (ts : Terms) → shown m i held (list ts) ≡ []
no_list true i held ts = refl
no_list false i held ts = refl

pub shown_list : (m i held : Bool) (n : Node) → (top n).form ≡ form.List → shown m i held (term n) ≡ []
shown_list m i held n e = ap (shown m i held) (term_of_list n e) ∙ no_list m i held (all (map term (kids n)))

-- ---- what is smaller

pub listed_within : (n : Node) (k : ℕ) (p : Option Node) → slice_get (kids n) k ≡ p → most size-Node (listed p) + 1 ≤ size-Node n
listed_within n k None h = omega (arith, kids_are_smaller n)
listed_within n k (Some x) h = by (top x).form
  where
    by : (f : Form) → most size-Node (by_list f (kids x)) + 1 ≤ size-Node n
    by form.Absent = omega (arith, kids_are_smaller n)
    by form.List = omega (arith, kids_are_smaller x, kid_is_smaller n k x h)
    by (form.Node kind) = omega (arith, kids_are_smaller n)

pub heads_within : (m : ℕ) (xs : List Node) → most size-Node (take m xs) ≤ most size-Node xs
heads_within zero xs = omega arith
heads_within (suc m) [] = omega arith
heads_within (suc m) (x ∷ xs) = omega (arith, heads_within m xs)

pub past_within : (m : ℕ) (xs : List Node) → most size-Node (drop m xs) ≤ most size-Node xs
past_within zero xs = omega arith
past_within (suc m) [] = omega arith
past_within (suc m) (x ∷ xs) = omega (arith, past_within m xs)

pub item_within : (xs : List Node) (j : ℕ) (x : Node) → j < length xs → x ≡ get_or xs j x → size-Node x ≤ most size-Node xs
item_within [] j x h e = absurd (omega arith)
item_within (y ∷ xs) zero x h e = let d = ap size-Node e in omega arith
item_within (y ∷ xs) (suc j) x h e = omega (arith, item_within xs j x (omega arith) e)

pub listed_falls : (n : Node) (k : ℕ) (xs : List Node) → xs ≡ listed (slice_get (kids n) k) → most size-Node xs + 1 ≤ size-Node n
listed_falls n k xs e = omega (arith, ap (most size-Node) e, listed_within n k (slice_get (kids n) k) refl)
