-- The flags of a regular expression, by their letters: what is tried at each choice of letters holds.
use Rattle.std.proofs.Common.{◌≡◌, refl, arith, ◌∙◌, sym, ap, ℕ, zero, suc, List, [], ◌∷◌, ◌++◌, length, true, false}
use Rattle.std.specs.Prelude.{Bool, not, ◌&&◌, ◌||◌, codes, nat_eq, bit_and}
use Rattle.std.proofs.lemmas.Bool.{and_parts}
use Rattle.js_term.specs.Term.{Text, flag}
use Rattle.js_syntax.specs.Parts.{is_set}
use Rattle.js_syntax.specs.Lexical.{is_regexp_flags}
use Rattle.js_syntax.specs.Texts as texts
use Rattle.js_tree.specs.Words.{flags_word}
use Rattle.js_chars.specs.declared.flags.RegExpFlags.{RegExpFlags}

-- what is true of each list of so many choices
abbrev at_each : ℕ → (List Bool → Bool) → Bool
at_each zero p = p []
at_each (suc n) p = at_each n (λ bs. p (true ∷ bs)) && at_each n (λ bs. p (false ∷ bs))

at_one : (n : ℕ) (p : List Bool → Bool) → at_each n p ≡ true → (bs : List Bool) → length bs ≡ n → p bs ≡ true
at_one zero p h [] e = h
at_one zero p h (b ∷ bs) e = absurd (omega (arith, e))
at_one (suc n) p h [] e = absurd (omega (arith, e))
at_one (suc n) p h (true ∷ bs) e = at_one n (λ cs. p (true ∷ cs)) (and_parts (at_each n (λ cs. p (true ∷ cs))) (at_each n (λ cs. p (false ∷ cs))) h).0 bs (omega (arith, e))
at_one (suc n) p h (false ∷ bs) e = at_one n (λ cs. p (false ∷ cs)) (and_parts (at_each n (λ cs. p (true ∷ cs))) (at_each n (λ cs. p (false ∷ cs))) h).1 bs (omega (arith, e))

abbrev agree : Bool → Bool → Bool
agree true b = b
agree false b = not b

agreed : (a b : Bool) → agree a b ≡ true → a ≡ b
agreed true true h = refl
agreed true false h = absurd (cc)
agreed false true h = absurd (cc)
agreed false false h = refl

abbrev bits : RegExpFlags → List Bool
bits x = nat_eq (bit_and x.0 1) 1 ∷ nat_eq (bit_and x.0 2) 2 ∷ nat_eq (bit_and x.0 4) 4 ∷ nat_eq (bit_and x.0 8) 8 ∷ nat_eq (bit_and x.0 16) 16 ∷ nat_eq (bit_and x.0 32) 32 ∷ nat_eq (bit_and x.0 64) 64 ∷ nat_eq (bit_and x.0 128) 128 ∷ []

abbrev word_of : List Bool → Text
word_of (d ∷ g ∷ i ∷ m ∷ s ∷ u ∷ v ∷ y ∷ []) = flag d (codes "d") ++ flag g (codes "g") ++ flag i (codes "i") ++ flag m (codes "m") ++ flag s (codes "s") ++ flag u (codes "u") ++ flag v (codes "v") ++ flag y (codes "y")
word_of bs = []

abbrev one_at : ℕ → List Bool → Bool
one_at n [] = false
one_at zero (b ∷ bs) = b
one_at (suc n) (b ∷ bs) = one_at n bs

abbrev any : List Bool → Bool
any [] = false
any (b ∷ []) = b
any (b ∷ c ∷ bs) = b || any (c ∷ bs)

at_flags : (f g : List Bool → Bool) → at_each 8 (λ bs. agree (f bs) (g bs)) ≡ true → (x : RegExpFlags) → f (bits x) ≡ g (bits x)
at_flags f g h x = agreed (f (bits x)) (g (bits x)) (at_one 8 (λ bs. agree (f bs) (g bs)) h (bits x) refl)

-- not both `u` and `v`
pub sound_flags : (x : RegExpFlags) → is_regexp_flags (flags_word x) ≡ not (nat_eq (bit_and x.0 32) 32 && nat_eq (bit_and x.0 64) 64)
sound_flags = at_flags (λ bs. is_regexp_flags (word_of bs)) (λ bs. not (one_at 5 bs && one_at 6 bs)) refl

pub set_flags : (x : RegExpFlags) → is_set (flags_word x) ≡ (nat_eq (bit_and x.0 1) 1 || (nat_eq (bit_and x.0 2) 2 || (nat_eq (bit_and x.0 4) 4 || (nat_eq (bit_and x.0 8) 8 || (nat_eq (bit_and x.0 16) 16 || (nat_eq (bit_and x.0 32) 32 || (nat_eq (bit_and x.0 64) 64 || (nat_eq (bit_and x.0 128) 128))))))))
set_flags = at_flags (λ bs. is_set (word_of bs)) any refl

empty : (x : Text) → is_set x ≡ false → x ≡ []
empty [] h = refl
empty (c ∷ cs) h = absurd (cc)

pub no_flags : (x : RegExpFlags) → is_set (flags_word x) ≡ false → flags_word x ≡ []
no_flags x h = empty (flags_word x) h

-- flags that are set are no flag of another node
abbrev is_flag : Text → Bool
is_flag x = texts.flag (codes "*") x || (texts.flag (codes "static") x || (texts.flag (codes "shorthand") x || texts.flag (codes "prefix") x))

pub no_word : (x : RegExpFlags) → (is_set (flags_word x) && is_flag (flags_word x)) ≡ false
no_word = at_flags (λ bs. is_set (word_of bs) && is_flag (word_of bs)) (λ bs. false) refl
