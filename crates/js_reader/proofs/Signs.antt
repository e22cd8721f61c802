-- A text is one of a list where it is one of a part of it.
use Rattle.std.proofs.Common.{◌≡◌, ℕ, zero, suc, refl, ap, ◌∙◌, List, [], ◌∷◌, Bool, true, false, ◌||◌, take, drop}
use Rattle.js_term.specs.Term.{Text, is_text}
use Rattle.js_term.specs.Lexeme.{is_one_of}
use Rattle.js_syntax.specs.Edges.{operator_signs}

or_assoc : (p q r : Bool) → (p || (q || r)) ≡ ((p || q) || r)
or_assoc true q r = refl
or_assoc false q r = refl

in_parts : (n : ℕ) (x : Text) (ys : List Text) → is_one_of x ys ≡ (is_one_of x (take n ys) || is_one_of x (drop n ys))
in_parts zero x ys = refl
in_parts (suc n) x [] = refl
in_parts (suc n) x (y ∷ ys) = ap (λ b. is_text x y || b) (in_parts n x ys) ∙ or_assoc (is_text x y) (is_one_of x (take n ys)) (is_one_of x (drop n ys))

pub operator_signs_in_parts : (x : Text) → is_one_of x operator_signs ≡ (is_one_of x (take 23 operator_signs) || is_one_of x (drop 23 operator_signs))
operator_signs_in_parts x = in_parts 23 x operator_signs
