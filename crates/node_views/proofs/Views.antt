-- The term of a node that has so many parts, by its parts.
use Rattle.std.proofs.Common.{◌≡◌, refl, ap, ◌∙◌, length, List, [], ◌∷◌, map, get_or, arith}
use Rattle.js_term.specs.Term.{node, Terms, more, one, two, all}
use Rattle.js_term.specs.declared.kind.Kind.{Kind}
use Rattle.js_tree.specs.declared.node.Form.TheVariants as form
use Rattle.js_tree.specs.declared.node.Node.{Node}
use Rattle.js_tree.specs.Parts.{hole, kids, top}
use Rattle.js_tree.specs.TermOf.{term}
use Rattle.js_tree.proofs.TermOf.{term_of_node}
use Rattle.node_views.specs.Views.{IsOf, part_at}

parts_of_one : (xs : List Node) → length xs ≡ 1 → all (map term xs) ≡ one (term (get_or xs 0 hole))
parts_of_one [] e = absurd (omega arith)
parts_of_one (x ∷ []) e = refl
parts_of_one (x ∷ y ∷ xs) e = absurd (omega arith)

parts_of_two : (xs : List Node) → length xs ≡ 2 → all (map term xs) ≡ two (term (get_or xs 0 hole)) (term (get_or xs 1 hole))
parts_of_two [] e = absurd (omega arith)
parts_of_two (x ∷ []) e = absurd (omega arith)
parts_of_two (x ∷ y ∷ []) e = refl
parts_of_two (x ∷ y ∷ z ∷ xs) e = absurd (omega arith)

parts_of_three : (xs : List Node) → length xs ≡ 3 → all (map term xs) ≡ more (term (get_or xs 0 hole)) (two (term (get_or xs 1 hole)) (term (get_or xs 2 hole)))
parts_of_three [] e = absurd (omega arith)
parts_of_three (x ∷ []) e = absurd (omega arith)
parts_of_three (x ∷ y ∷ []) e = absurd (omega arith)
parts_of_three (x ∷ y ∷ z ∷ []) e = refl
parts_of_three (x ∷ y ∷ z ∷ w ∷ xs) e = absurd (omega arith)

by_kind : (n : Node) (k : Kind) (ts : Terms) → (top n).form ≡ form.Node k → all (map term (kids n)) ≡ ts → term n ≡ node k (top n).texts ts
by_kind n k ts e d = term_of_node n k e ∙ ap (λ (us : Terms). node k (top n).texts us) d

pub term_of_one : (k : Kind) (n : Node) → IsOf k 1 n → term n ≡ node k (top n).texts (one (term (part_at 0 n)))
term_of_one k n h = by_kind n k _ h.of_kind (parts_of_one (kids n) h.of_count)

pub term_of_two : (k : Kind) (n : Node) → IsOf k 2 n → term n ≡ node k (top n).texts (two (term (part_at 0 n)) (term (part_at 1 n)))
term_of_two k n h = by_kind n k _ h.of_kind (parts_of_two (kids n) h.of_count)

pub term_of_three : (k : Kind) (n : Node) → IsOf k 3 n → term n ≡ node k (top n).texts (more (term (part_at 0 n)) (two (term (part_at 1 n)) (term (part_at 2 n))))
term_of_three k n h = by_kind n k _ h.of_kind (parts_of_three (kids n) h.of_count)
