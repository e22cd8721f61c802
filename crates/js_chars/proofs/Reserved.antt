-- A word is compared with the reserved words of about its length alone.
use Rattle.std.proofs.Common.{◌≡◌, refl, sym, ◌∙◌, ap, ℕ, ◌≤◌, ◌<◌, List, [], ◌∷◌, Bool, true, false, ◌&&◌, ◌||◌, length, filter, nat_le, le-leb, arith, cond}
use Rattle.std.proofs.lemmas.Bool.Decides.{nat_tests}
use Rattle.std.proofs.lemmas.Bool.{and_parts}
use Rattle.std.specs.List.{list_all}
use Rattle.std.specs.Cmp.Lexicographic.{bytes_decides}
use Rattle.js_term.specs.Term.{Text, is_text}
use Rattle.js_term.specs.Lexeme.{reserved, is_one_of, is_reserved}
use Rattle.js_chars.specs.Names.{reserved_within}

text_same : (x y : Text) → is_text x y ≡ true → x ≡ y
text_same x y e = (bytes_decides x y).0 e

abbrev keeps : ℕ → ℕ → Text → Bool
keeps least most x = nat_le least (length x) && nat_le (length x) most

abbrev among : ℕ → ℕ → Text → List Text → Bool
among least most x ys = is_one_of x (filter (keeps least most) ys)

module _ (least most : ℕ) (x : Text) where
  kept_front : (y : Text) (ys : List Text) (k : Bool) → keeps least most y ≡ k → filter (keeps least most) (y ∷ ys) ≡ cond k (y ∷ filter (keeps least most) ys) (filter (keeps least most) ys)
  kept_front y ys k e = ap (λ b. cond b (y ∷ filter (keeps least most) ys) (filter (keeps least most) ys)) e

  kept_next : keeps least most x ≡ true → (y : Text) (ys : List Text) → among least most x ys ≡ is_one_of x ys → (b : Bool) → is_text x y ≡ b → (k : Bool) → keeps least most y ≡ k → among least most x (y ∷ ys) ≡ is_one_of x (y ∷ ys)
  kept_next h y ys rest b e true k = ap (λ ws. is_one_of x ws) (kept_front y ys true k) ∙ ap (λ r. is_text x y || r) rest
  kept_next h y ys rest false e false k = ap (λ ws. is_one_of x ws) (kept_front y ys false k) ∙ rest ∙ sym (ap (λ b. b || is_one_of x ys) e)
  kept_next h y ys rest true e false k = let same = text_same x y e in absurd (cc)

  kept_among : keeps least most x ≡ true → (ys : List Text) → among least most x ys ≡ is_one_of x ys
  kept_among h [] = refl
  kept_among h (y ∷ ys) = kept_next h y ys (kept_among h ys) (is_text x y) refl (keeps least most y) refl

  none_next : keeps least most x ≡ false → (y : Text) (ys : List Text) → keeps least most y ≡ true → is_one_of x ys ≡ false → (b : Bool) → is_text x y ≡ b → is_one_of x (y ∷ ys) ≡ false
  none_next h y ys k rest true e = let same = text_same x y e in absurd (cc)
  none_next h y ys k rest false e = rw e rest

  none_among : keeps least most x ≡ false → (ys : List Text) → list_all (keeps least most) ys ≡ true → is_one_of x ys ≡ false
  none_among h [] k = refl
  none_among h (y ∷ ys) k =
      let parts = and_parts (keeps least most y) (list_all (keeps least most) ys) k in
      none_next h y ys parts.0 (none_among h ys parts.1) (is_text x y) refl

pub within : (least most : ℕ) (x : Text) → least ≤ length x → length x ≤ most → is_one_of x (reserved_within least most) ≡ is_reserved x
within least most x low high = kept_among least most x (rw (le-leb least (length x) low, le-leb (length x) most high) refl) reserved

pub shorter : (x : Text) → length x < 2 → is_reserved x ≡ false
shorter x h = none_among 2 10 x (grind (arith, nat_tests)) reserved refl

pub longer : (x : Text) → 10 < length x → is_reserved x ≡ false
longer x h = none_among 2 10 x (grind (arith, nat_tests)) reserved refl
