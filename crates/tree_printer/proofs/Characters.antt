-- The characters of a string are escaped byte by byte.
use Rattle.std.proofs.Common.{◌≡◌, refl, sym, ◌∙◌, ap, ℕ, ◌+◌, ◌/◌, ◌≤◌, List, [], ◌∷◌, ◌++◌, Bool, true, false, cond, nat_eq, nat_lt, arith, append_assoc}
use Rattle.std.proofs.lemmas.Bool.{eqb-true, ltb-true, ltb-false, le-ltb}
use Rattle.std.proofs.lemmas.Str.{encode_ascii, encodes-append}
use Rattle.js_term.specs.Term.{Text}
use lib.Utf8.{encode, encodes, next}
use Rattle.std.proofs.lemmas.List.{append-nil}
use Rattle.print_layout.specs.Rows.{escaped, all_escaped}

no_equal : (c d : ℕ) → (c ≡ d → ⊥) → nat_eq c d ≡ false
no_equal c d f = by (nat_eq c d) refl
  where
    by : (b : Bool) → nat_eq c d ≡ b → b ≡ false
    by true e = absurd (f (eqb-true c d e))
    by false e = refl

as_it_is : (c : ℕ) → (c ≡ 92 → ⊥) → (c ≡ 39 → ⊥) → (c ≡ 10 → ⊥) → (c ≡ 13 → ⊥) → escaped c ≡ c ∷ []
as_it_is c p q r s = rw (no_equal c 92 p, no_equal c 39 q, no_equal c 10 r, no_equal c 13 s) refl

wide : (c : ℕ) → 128 ≤ c → escaped c ≡ c ∷ []
wide c h = as_it_is c (λ e. omega arith) (λ e. omega arith) (λ e. omega arith) (λ e. omega arith)

two_wide : (a b : ℕ) → 128 ≤ a → 128 ≤ b → all_escaped (a ∷ b ∷ []) ≡ a ∷ b ∷ []
two_wide a b p q = rw (wide a p, wide b q) refl

three_wide : (a b c : ℕ) → 128 ≤ a → 128 ≤ b → 128 ≤ c → all_escaped (a ∷ b ∷ c ∷ []) ≡ a ∷ b ∷ c ∷ []
three_wide a b c p q r = rw (wide a p, wide b q, wide c r) refl

four_wide : (a b c d : ℕ) → 128 ≤ a → 128 ≤ b → 128 ≤ c → 128 ≤ d → all_escaped (a ∷ b ∷ c ∷ d ∷ []) ≡ a ∷ b ∷ c ∷ d ∷ []
four_wide a b c d p q r s = rw (wide a p, wide b q, wide c r, wide d s) refl

pub wide_character : (c : ℕ) → 128 ≤ c → all_escaped (encode c) ≡ encode c
unfolding encode
wide_character c h = rw (le-ltb c 128 h) (by (nat_lt c 2048) (nat_lt c 65536))
  where
    by : (p q : Bool) → let t = cond p ((192 + c / 64) ∷ next c ∷ []) (cond q ((224 + c / 4096) ∷ next (c / 64) ∷ next c ∷ []) ((240 + c / 262144) ∷ next (c / 4096) ∷ next (c / 64) ∷ next c ∷ [])) in all_escaped t ≡ t
    by true q = two_wide (192 + c / 64) (next c) (omega arith) (omega arith)
    by false true = three_wide (224 + c / 4096) (next (c / 64)) (next c) (omega arith) (omega arith) (omega arith)
    by false false = four_wide (240 + c / 262144) (next (c / 4096)) (next (c / 64)) (next c) (omega arith) (omega arith) (omega arith) (omega arith)

pub plain_character : (c : ℕ) → (c ≡ 92 → ⊥) → (c ≡ 39 → ⊥) → (c ≡ 10 → ⊥) → (c ≡ 13 → ⊥) → all_escaped (encode c) ≡ encode c
plain_character c p q r s = by (nat_lt c 128) refl
  where
    by : (b : Bool) → nat_lt c 128 ≡ b → all_escaped (encode c) ≡ encode c
    by true e = rw (encode_ascii c (ltb-true c 128 e), as_it_is c p q r s) refl
    by false e = wide_character c (ltb-false c 128 e)

pub all_escaped-append : (xs ys : Text) → all_escaped (xs ++ ys) ≡ all_escaped xs ++ all_escaped ys
all_escaped-append [] ys = refl
all_escaped-append (x ∷ xs) ys = ap (λ l. escaped x ++ l) (all_escaped-append xs ys) ∙ sym (append_assoc (escaped x) (all_escaped xs) (all_escaped ys))

pub one_character_more : (out new start ys : List ℕ) (c : ℕ) → out ≡ start ++ 39 ∷ all_escaped (encodes ys) → new ≡ out ++ all_escaped (encode c) → new ≡ start ++ 39 ∷ all_escaped (encodes (ys ++ c ∷ []))
one_character_more out new start ys c p q =
    q ∙ ap (λ x. x ++ all_escaped (encode c)) p ∙ append_assoc start (39 ∷ all_escaped (encodes ys)) (all_escaped (encode c))
    ∙ ap (λ x. start ++ 39 ∷ x) (sym (all_escaped-append (encodes ys) (encode c)) ∙ ap all_escaped (ap (λ x. encodes ys ++ x) (sym (append-nil (encode c))) ∙ sym (encodes-append ys (c ∷ []))))
