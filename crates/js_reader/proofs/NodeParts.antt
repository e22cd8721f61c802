-- The parts of a node as those of its term.
use Rattle.std.proofs.Common.{◌≡◌, ℕ, zero, suc, ◌<◌, refl, List, [], ◌∷◌, map, arith}
use Rattle.std.specs.Prelude.{option_map, slice_get}
use Rattle.js_term.specs.Term.{Term, Terms, none, more, head, maybe, all}
use Rattle.js_term.specs.Scope.{kid}
use Rattle.js_syntax.specs.Printable.{ends_open, kid_ends_open}
use Rattle.js_tree.specs.declared.node.Node.{Node, size-Node}
use Rattle.js_tree.proofs.PartLaws.{kids_are_smaller}

pub kid_all_map : {A : Type 0} (f : A → Term) (xs : List A) (n : ℕ) → kid n (all (map f xs)) ≡ maybe (option_map f (slice_get xs n))
kid_all_map f [] n = refl
kid_all_map f (x ∷ xs) zero = refl
kid_all_map f (x ∷ xs) (suc n) = kid_all_map f xs n

pub head_is_kid : (ts : Terms) → head ts ≡ kid 0 ts
head_is_kid none = refl
head_is_kid (more t ts) = refl

pub kid_open : (n : ℕ) (ts : Terms) → kid_ends_open n ts ≡ ends_open (kid n ts)
kid_open n none = refl
kid_open zero (more t ts) = refl
kid_open (suc n) (more t ts) = kid_open n ts

pub has_size : (n : Node) → 0 < size-Node n
has_size n = omega (arith, kids_are_smaller n)
