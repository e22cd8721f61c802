-- Lists of nodes, one more item at a time.
use Rattle.std.proofs.Common.{◌≡◌, refl, sym, ℕ, List, [], ◌∷◌, ◌++◌, map, take, length, ◌<◌, ◌+◌, get_or, add-one, append_assoc}
use Rattle.std.proofs.Math.Seq.{take-suc}
use Rattle.std.proofs.lemmas.List.{map-append, append-nil}
use Rattle.js_term.specs.Term.{Text, Term, all}
use Rattle.js_term.specs.Scope.{declared, declared_all}

pub one_more : {A B C : Type 0} (f : A → C) (g : B → C) (xs : List B) (ys : List A) (i : ℕ) (y : A) (d : B) → map f ys ≡ map g (take i xs) → i < length xs → f y ≡ g (get_or xs i d) → map f (ys ++ y ∷ []) ≡ map g (take (i + 1) xs)
one_more f g xs ys i y d p h e = rw (add-one, take-suc xs i d h, map-append f ys (y ∷ []), map-append g (take i xs) (get_or xs i d ∷ []), p, e) refl

declared_all_append : (ts : List Term) (t : Term) → declared_all (all (ts ++ t ∷ [])) ≡ declared_all (all ts) ++ declared t
declared_all_append [] t = append-nil (declared t)
declared_all_append (u ∷ ts) t = rw (declared_all_append ts t) (sym (append_assoc (declared u) (declared_all (all ts)) (declared t)))

-- names that are declared, one more item
pub names_more : {A : Type 0} (f : A → Term) (xs : List A) (out start : List Text) (i : ℕ) (d : A) → out ≡ start ++ declared_all (all (map f (take i xs))) → i < length xs → out ++ declared (f (get_or xs i d)) ≡ start ++ declared_all (all (map f (take (i + 1) xs)))
names_more f xs out start i d p h = rw (add-one, take-suc xs i d h, map-append f (take i xs) (get_or xs i d ∷ []), declared_all_append (map f (take i xs)) (f (get_or xs i d)), p) (append_assoc start (declared_all (all (map f (take i xs)))) (declared (f (get_or xs i d))))
