-- A recursion on a count of turns, beside a loop that counts up; and what one more item does to a list.
use Rattle.std.proofs.Common.{◌≡◌, ℕ, suc, ◌+◌, ◌-◌, ◌<◌, ◌≤◌, max, List, [], ◌∷◌, ◌++◌, map, ap, refl, ◌∙◌, arith}
use Rattle.js_term.specs.Term.{Term, depth, depths, all}

pub one_more : {X : Type 0} {x : X} (f : ℕ → X) (n at : ℕ) → at < n → x ≡ f (n - at) → x ≡ f (suc (n - (at + 1)))
one_more f n at below e = let turn : n - at ≡ suc (n - (at + 1)) = omega arith in e ∙ ap f turn

pub no_more : {X : Type 0} {x : X} (f : ℕ → X) (n at : ℕ) → n ≤ at → x ≡ f (n - at) → x ≡ f 0
no_more f n at done e = let none : n - at ≡ 0 = omega arith in e ∙ ap f none

pub deeper : {X : Type 0} (f : ℕ → X) (n : ℕ) → 0 < n → f n ≡ f (suc (n - 1))
deeper f n some = let e : n ≡ suc (n - 1) = omega arith in ap f e

pub depths_snoc : (ts : List Term) (u : Term) → depths (all (ts ++ u ∷ [])) ≡ max (depth u) (depths (all ts))
depths_snoc [] u = omega arith
depths_snoc (x ∷ ts) u = let h = depths_snoc ts u in omega arith

pub map_snoc : {A B : Type 0} (f : A → B) (xs : List A) (x : A) → map f (xs ++ x ∷ []) ≡ map f xs ++ f x ∷ []
map_snoc f [] x = refl
map_snoc f (y ∷ xs) x = ap (λ ys. f y ∷ ys) (map_snoc f xs x)

pub two_deeper : {X : Type 0} (f : ℕ → X) (n : ℕ) → 2 ≤ n → f n ≡ f (suc (suc (n - 2)))
two_deeper f n some = let e : n ≡ suc (suc (n - 2)) = omega arith in ap f e
