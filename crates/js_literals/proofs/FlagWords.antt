-- The flags by their letters: what is tried at each choice of letters holds.
use Rattle.std.proofs.Common.{◌≡◌, refl, ℕ, zero, suc, Bool, true, false, ◌&&◌, if◌then◌else◌, List, [], ◌∷◌, length, ap, ◌∙◌, arith}
use Rattle.std.specs.Prelude.{bit_or}
use Rattle.std.proofs.lemmas.Bool.{and_parts}
use Rattle.js_term.specs.Term.{Text, is_text}
use Rattle.js_syntax.specs.Lexical.{has_byte, flag_letters, in_order}
use Rattle.js_syntax.proofs.Fronts.{same_text}
use Rattle.js_tree.specs.Words.{flags_word}
use Rattle.js_chars.specs.declared.flags.RegExpFlags.{RegExpFlags}

-- what is true of each list of so many choices
abbrev at_each : ℕ → (List Bool → Bool) → Bool
at_each zero p = p []
at_each (suc n) p = at_each n (λ bs. p (true ∷ bs)) && at_each n (λ bs. p (false ∷ bs))

at_one : (n : ℕ) (p : List Bool → Bool) → at_each n p ≡ true → (bs : List Bool) → length bs ≡ n → p bs ≡ true
at_one zero p h [] e = h
at_one zero p h (b ∷ bs) e = absurd (omega (arith, e))
at_one (suc n) p h [] e = absurd (omega (arith, e))
at_one (suc n) p h (true ∷ bs) e = at_one n (λ cs. p (true ∷ cs)) (and_parts (at_each n (λ cs. p (true ∷ cs))) (at_each n (λ cs. p (false ∷ cs))) h).0 bs (omega (arith, e))
at_one (suc n) p h (false ∷ bs) e = at_one n (λ cs. p (false ∷ cs)) (and_parts (at_each n (λ cs. p (true ∷ cs))) (at_each n (λ cs. p (false ∷ cs))) h).1 bs (omega (arith, e))

abbrev bit : Bool → ℕ → ℕ
bit b n = if b then n else 0

abbrev number : List Bool → ℕ
number (d ∷ g ∷ i ∷ m ∷ s ∷ u ∷ v ∷ y ∷ []) = bit_or (bit_or (bit_or (bit_or (bit_or (bit_or (bit_or (bit d 1) (bit g 2)) (bit i 4)) (bit m 8)) (bit s 16)) (bit u 32)) (bit v 64)) (bit y 128)
number bs = 0

abbrev chosen : List Bool → Text → Text
chosen (b ∷ bs) (c ∷ cs) = if b then c ∷ chosen bs cs else chosen bs cs
chosen bs cs = []

abbrev set_of : ℕ → RegExpFlags
set_of n = record { 0 = n }

words : (bs : List Bool) → length bs ≡ 8 → flags_word (set_of (number bs)) ≡ chosen bs flag_letters
words bs e = same_text _ _ (at_one 8 (λ bs. is_text (flags_word (set_of (number bs))) (chosen bs flag_letters)) refl bs e)

abbrev choices : Text → List Bool
choices x = has_byte x 100 ∷ has_byte x 103 ∷ has_byte x 105 ∷ has_byte x 109 ∷ has_byte x 115 ∷ has_byte x 117 ∷ has_byte x 118 ∷ has_byte x 121 ∷ []

pub in_order_is : (x : Text) (flags : RegExpFlags) → flags.0 ≡ number (choices x) → flags_word flags ≡ in_order x
in_order_is x flags e = ap (λ n. flags_word (set_of n)) e ∙ words (choices x) refl
