-- The text numbered n.
use Rattle.std.proofs.Common.{◌≡◌, ◌<◌, ◌≤◌, ℕ, zero, suc, refl, List, [], ◌∷◌, map, length, get_or, ap, arith}
use Rattle.js_term.specs.Term.{Text}
use Rattle.js_syntax.specs.Parts.{text_at}

pub text_in : {A : Type 0} (f : A → Text) (xs : List A) (k : ℕ) (x : A) → k < length xs → x ≡ get_or xs k x → f x ≡ text_at k (map f xs)
text_in f [] k x h e = absurd (omega arith)
text_in f (y ∷ xs) zero x h e = ap f e
text_in f (y ∷ xs) (suc k) x h e = text_in f xs k x (omega arith) e

pub text_out : {A : Type 0} (f : A → Text) (xs : List A) (k : ℕ) → length xs ≤ k → [] ≡ text_at k (map f xs)
text_out f [] k h = refl
text_out f (y ∷ xs) zero h = absurd (omega arith)
text_out f (y ∷ xs) (suc k) h = text_out f xs k (omega arith)
