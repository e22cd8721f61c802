-- A set of the names that were passed.
use Rattle.std.proofs.Common.{◌≡◌, ℕ, suc, ◌+◌, ◌<◌, length, get_or, drop, add-one, drop-cons, refl, sym, ◌∙◌, ap, List, [], ◌∷◌, Bool, true, false, not, ◌&&◌, ◌||◌}
use Rattle.std.specs.BTreeSet.{BTreeSet, Updates}
use Rattle.std.specs.Cmp.Lexicographic.{slice_cmp, same_text, texts_ties, nat_list_eq_equiv}
use Rattle.std.specs.Ordering.{nat_cmp}
use Rattle.js_term.specs.Term.{Text, is_text}
use Rattle.js_small.specs.Seen.{has}
use Rattle.js_term.specs.Lexeme.{is_one_of}
use Rattle.js_term.specs.Form.{is_distinct}

-- whether names differ from each other and from the names that are known
abbrev pub are_new : (Text → Bool) → List Text → Bool
are_new known [] = true
are_new known (x ∷ xs) = not (known x || is_one_of x xs) && are_new known xs

pub none_known : (known : Text → Bool) → ((x : Text) → known x ≡ false) → (xs : List Text) → are_new known xs ≡ is_distinct xs
none_known known none [] = refl
none_known known none (x ∷ xs) = rw (none x, none_known known none xs) refl

text_flips : (x y : Text) → is_text x y ≡ is_text y x
text_flips x y = nat_list_eq_equiv.symm x y

bools : (k o n t m : Bool) → (not ((t || k) || o) && (n && not m)) ≡ ((not (k || o) && n) && not (t || m))
bools k o n true false = step k o n
  where
    step : (k o n : Bool) → false ≡ ((not (k || o) && n) && false)
    step k o n = elim (not (k || o) && n) as (λ b. false ≡ (b && false)) [ true ↦ refl | false ↦ refl ]
bools k o n true true = step k o n
  where
    step : (k o n : Bool) → false ≡ ((not (k || o) && n) && false)
    step k o n = elim (not (k || o) && n) as (λ b. false ≡ (b && false)) [ true ↦ refl | false ↦ refl ]
bools true o n false m = refl
bools false true n false m = refl
bools false false true false m = refl
bools false false false false m = refl

-- one name more is known
known_more : (known more : Text → Bool) (y : Text) → ((x : Text) → more x ≡ (is_text x y || known x)) → (xs : List Text) → are_new more xs ≡ (are_new known xs && not (is_one_of y xs))
known_more known more y grown [] = refl
known_more known more y grown (x ∷ xs) =
    rw (grown x, known_more known more y grown xs, text_flips x y) (bools (known x) (is_one_of x xs) (are_new known xs) (is_text y x) (is_one_of y xs))

pub passed : (known more : Text → Bool) (y : Text) → ((x : Text) → more x ≡ (is_text x y || known x)) → (xs : List Text) → are_new known (y ∷ xs) ≡ (not (known y) && are_new more xs)
passed known more y grown xs = rw (known_more known more y grown xs) (turned (known y) (is_one_of y xs) (are_new known xs))
  where
    turned : (k o n : Bool) → (not (k || o) && n) ≡ (not k && (n && not o))
    turned true o n = refl
    turned false true true = refl
    turned false true false = refl
    turned false false true = refl
    turned false false false = refl

-- a set of texts after an insertion
pub set_grown : (s n : BTreeSet Text) (y : Text) → Updates (slice_cmp nat_cmp) s n y true → (x : Text) → has n x ≡ (is_text x y || has s x)
set_grown s n y u x = by (is_text x y) refl
  where
    by : (b : Bool) → is_text x y ≡ b → has n x ≡ (b || has s x)
    by true e = ap (has n) (same_text x y (sym e)) ∙ u.1
    by false e = u.2 x (sym (text_flips x y ∙ texts_ties y x) ∙ e)

pub next_known : (known more : Text → Bool) (xs : List Text) (i : ℕ) (y : Text) → i < length xs → y ≡ get_or xs i y → ((x : Text) → more x ≡ (is_text x y || known x)) → not (known y) ≡ true → are_new known (drop i xs) ≡ are_new more (drop (i + 1) xs)
next_known known more xs i y h is grown fresh =
    ap (are_new known) (drop-cons xs i y h ∙ ap (λ z. z ∷ drop (suc i) xs) (sym is))
    ∙ passed known more y grown (drop (suc i) xs)
    ∙ ap (λ b. b && are_new more (drop (suc i) xs)) fresh
    ∙ rw add-one refl
