-- A text that is another one twice.
use Rattle.std.proofs.Common.{◌≡◌, refl, ap, ◌∙◌, [], ◌∷◌, ◌++◌, length, take, drop, Bool, true, false, ◌&&◌, nat_eq}
use Rattle.js_term.specs.Term.{Text, is_text}

both_first : (a b c : Bool) → (a && (b && c)) ≡ ((a && b) && c)
both_first true b c = refl
both_first false b c = refl

pub text_append : (x a b : Text) → is_text x (a ++ b) ≡ (is_text (take (length a) x) a && is_text (drop (length a) x) b)
text_append x [] b = refl
text_append [] (c ∷ a) b = refl
text_append (d ∷ x) (c ∷ a) b = ap (λ r. nat_eq d c && r) (text_append x a b) ∙ both_first (nat_eq d c) (is_text (take (length a) x) a) (is_text (drop (length a) x) b)
