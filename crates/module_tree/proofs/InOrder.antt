-- Letters in the order of the alphabet are flags, each once.
use Rattle.std.proofs.Common.{◌≡◌, ℕ, refl, ap, subst, [], ◌∷◌, Bool, true, false, not, ◌&&◌, ◌||◌, cond, nat_eq}
use Rattle.std.specs.List.{list_all, filter}
use Rattle.std.specs.Cmp.Lexicographic.{bytes_decides}
use Rattle.std.proofs.lemmas.Bool.{and_parts, and_from}
use Rattle.js_term.specs.Term.{Text, is_text}
use Rattle.js_syntax.specs.Lexical.{has_byte, flag_letters, are_distinct, is_regexp_flags}
use Rattle.module_tree.specs.FlagLetters.{are_flags_among}

text_same : (x y : Text) → is_text x y ≡ true → x ≡ y
text_same x y e = (bytes_decides x y).0 e

-- what passes a filter
kept : (q : ℕ → Bool) (b : Bool) (c : ℕ) (xs : Text) → q c ≡ true → list_all q xs ≡ true → list_all q (cond b (c ∷ xs) xs) ≡ true
kept q true c xs e f = and_from (q c) (list_all q xs) e f
kept q false c xs e f = f

all_filter : (q p : ℕ → Bool) (xs : Text) → list_all q xs ≡ true → list_all q (filter p xs) ≡ true
all_filter q p [] e = refl
all_filter q p (c ∷ xs) e =
    let h = and_parts (q c) (list_all q xs) e in
    kept q (p c) c (filter p xs) h.0 (all_filter q p xs h.1)

still_absent : (b : Bool) (c d : ℕ) (xs ys : Text) → has_byte (d ∷ xs) c ≡ false → has_byte ys c ≡ false → has_byte (cond b (d ∷ ys) ys) c ≡ false
still_absent true c d xs ys e f = elim (nat_eq c d) as (λ v. (v || has_byte xs c) ≡ false → (v || has_byte ys c) ≡ false) [ true ↦ λ h. h | false ↦ λ h. f ] e
still_absent false c d xs ys e f = f

tail_absent : (b : Bool) (y : Bool) → (b || y) ≡ false → y ≡ false
tail_absent true y e = cc
tail_absent false y e = e

absent_filter : (p : ℕ → Bool) (c : ℕ) (xs : Text) → has_byte xs c ≡ false → has_byte (filter p xs) c ≡ false
absent_filter p c [] e = refl
absent_filter p c (d ∷ xs) e = still_absent (p d) c d xs (filter p xs) e (absent_filter p c xs (tail_absent (nat_eq c d) (has_byte xs c) e))

is_no : (b : Bool) → not b ≡ true → b ≡ false
is_no true e = cc
is_no false e = refl

still_distinct : (b : Bool) (c : ℕ) (ys : Text) → has_byte ys c ≡ false → are_distinct ys ≡ true → are_distinct (cond b (c ∷ ys) ys) ≡ true
still_distinct true c ys e f = and_from (not (has_byte ys c)) (are_distinct ys) (ap not e) f
still_distinct false c ys e f = f

distinct_filter : (p : ℕ → Bool) (xs : Text) → are_distinct xs ≡ true → are_distinct (filter p xs) ≡ true
distinct_filter p [] e = refl
distinct_filter p (c ∷ xs) e =
    let h = and_parts (not (has_byte xs c)) (are_distinct xs) e in
    still_distinct (p c) c (filter p xs) (absent_filter p c xs (is_no (has_byte xs c) h.0)) (distinct_filter p xs h.1)

joined : (l d v o : Bool) → (o ≡ true → l ≡ true) → (o ≡ true → d ≡ true) → ((l && (d && v)) && o) ≡ (o && v)
joined true true true true f g = refl
joined true true false true f g = refl
joined false d v true f g = cc (f refl)
joined true false v true f g = cc (g refl)
joined true true true false f g = refl
joined true true false false f g = refl
joined true false v false f g = refl
joined false d v false f g = refl

pub flags_in_order : (letters x : Text) → list_all (has_byte letters) letters ≡ true → are_distinct letters ≡ true → are_flags_among letters x ≡ (is_text (filter (has_byte x) letters) x && not (has_byte x 117 && has_byte x 118))
unfolding are_flags_among
flags_in_order letters x all distinct =
    joined (list_all (has_byte letters) x) (are_distinct x) (not (has_byte x 117 && has_byte x 118)) (is_text (filter (has_byte x) letters) x)
    (λ (e : is_text (filter (has_byte x) letters) x ≡ true). subst (λ (y : Text). list_all (has_byte letters) y ≡ true) (text_same (filter (has_byte x) letters) x e) (all_filter (has_byte letters) (has_byte x) letters all))
    (λ (e : is_text (filter (has_byte x) letters) x ≡ true). subst (λ (y : Text). are_distinct y ≡ true) (text_same (filter (has_byte x) letters) x e) (distinct_filter (has_byte x) letters distinct))

pub flags_among : (x : Text) → are_flags_among flag_letters x ≡ is_regexp_flags x
unfolding are_flags_among
flags_among x = refl
