-- What the elements of a class declare, one after the other.
use Rattle.std.proofs.Common.{◌≡◌, refl, ap, ◌∙◌, sym, ℕ, suc, ◌+◌, ◌<◌, ◌≤◌, List, [], ◌∷◌, ◌++◌, Bool, true, false, ◌||◌, add-one}
use Rattle.js_term.specs.Term.{Text, is_text, Terms}
use Rattle.js_term.specs.Lexeme.{is_one_of}
use Rattle.js_term.specs.Scope.{kid}
use Rattle.js_syntax.specs.Parts.{count, parts_of}
use Rattle.js_syntax.specs.ModuleTree.{private_name, private_names}
use Rattle.js_rules.specs.Seen.{from}
use Rattle.js_rules.proofs.Parts.{from_step, from_past}

or_assoc : (a b c : Bool) → (a || b) || c ≡ a || (b || c)
or_assoc true b c = refl
or_assoc false b c = refl

one_of_append : (x : Text) (xs ys : List Text) → is_one_of x (xs ++ ys) ≡ is_one_of x xs || is_one_of x ys
one_of_append x [] ys = refl
one_of_append x (y ∷ xs) ys = ap (λ b. is_text x y || b) (one_of_append x xs ys) ∙ sym (or_assoc (is_text x y) (is_one_of x xs) (is_one_of x ys))

step : (x : Text) (n : ℕ) (ts : Terms) → n < count ts → is_one_of x (private_names (from n ts)) ≡ is_one_of x (private_name (kid 0 (parts_of (kid n ts)))) || is_one_of x (private_names (from (suc n) ts))
step x n ts h = ap (λ us. is_one_of x (private_names us)) (from_step n ts h) ∙ one_of_append x (private_name (kid 0 (parts_of (kid n ts)))) (private_names (from (suc n) ts))

pub names_found : (x : Text) (n : ℕ) (ts : Terms) (w c : Bool) → n < count ts → c ≡ is_one_of x (private_name (kid 0 (parts_of (kid n ts)))) → is_one_of x (private_names (from n ts)) ≡ w → c ≡ true → w ≡ true
names_found x n ts w c h is left right = sym left ∙ (step x n ts h ∙ ap (λ b. b || is_one_of x (private_names (from (suc n) ts))) (sym is ∙ right))

pub names_next : (x : Text) (n : ℕ) (ts : Terms) (w c : Bool) → n < count ts → c ≡ is_one_of x (private_name (kid 0 (parts_of (kid n ts)))) → is_one_of x (private_names (from n ts)) ≡ w → c ≡ false → is_one_of x (private_names (from (n + 1) ts)) ≡ w
names_next x n ts w c h is left wrong = rw add-one (sym (ap (λ b. b || is_one_of x (private_names (from (suc n) ts))) (sym is ∙ wrong)) ∙ (sym (step x n ts h) ∙ left))

pub names_end : (x : Text) (n : ℕ) (ts : Terms) (w : Bool) → count ts ≤ n → is_one_of x (private_names (from n ts)) ≡ w → w ≡ false
names_end x n ts w h left = sym left ∙ ap (λ us. is_one_of x (private_names us)) (from_past n ts h)
