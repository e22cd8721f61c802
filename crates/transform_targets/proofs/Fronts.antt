-- Where a text may be cut: behind the ASCII bytes at its front, and before the blanks at its end.
use Rattle.std.proofs.Common.{◌≡◌, ℕ, zero, suc, ◌+◌, ◌-◌, ◌<◌, ◌≤◌, List, length, get_or, Bool, true, refl, arith, add-one}
use Rattle.std.proofs.lemmas.List.{get_or-reverse, length-reverse}
use Rattle.std.proofs.lemmas.List.Sums.{prefix_len-le-length, prefix_len_passes, suffix_len-le-length}
use Rattle.std.proofs.lemmas.Str.{IsCharBoundary-start, IsCharBoundary-after_ascii, IsCharBoundary-before_ascii, IsCharBoundary-end}
use Rattle.std.specs.List.{prefix_len, suffix_len}
use Rattle.std.specs.Prelude.{reverse}
use Rattle.std.specs.Str.{IsUtf8, IsCharBoundary}
use Rattle.transform_targets.specs.Words.{is_blank, is_letter}

blank_is_ascii : (byte : ℕ) → is_blank byte ≡ true → byte < 128
blank_is_ascii byte h = grind arith

letter_is_ascii : (byte : ℕ) → is_letter byte ≡ true → byte < 128
letter_is_ascii byte h = grind arith

behind_ascii : (p : ℕ → Bool) → ((byte : ℕ) → p byte ≡ true → byte < 128) → (text : List ℕ) (n : ℕ)
    → n ≡ prefix_len p text → IsUtf8 text → IsCharBoundary text n
behind_ascii p ascii text zero e u = IsCharBoundary-start text u
behind_ascii p ascii text (suc n) e u =
    let at_most : prefix_len p text ≤ length text = prefix_len-le-length p text in
    let within : n < length text = omega arith in
    let passes : p (get_or text n 0) ≡ true = prefix_len_passes p text n 0 (omega arith) in
    rw (← add-one n) (IsCharBoundary-after_ascii text n u within (ascii _ passes))

pub behind_blanks : (text : List ℕ) → IsUtf8 text → IsCharBoundary text (prefix_len is_blank text)
behind_blanks text u = behind_ascii is_blank blank_is_ascii text (prefix_len is_blank text) refl u

pub behind_letters : (text : List ℕ) → IsUtf8 text → IsCharBoundary text (prefix_len is_letter text)
behind_letters text u = behind_ascii is_letter letter_is_ascii text (prefix_len is_letter text) refl u

before_last_blanks : (text : List ℕ) (n : ℕ) → n ≡ suffix_len is_blank text → IsCharBoundary text (length text - n)
before_last_blanks text zero e =
    let whole : length text - 0 ≡ length text = omega arith in
    rw whole (IsCharBoundary-end text)
before_last_blanks text (suc n) e =
    let at_most : suffix_len is_blank text ≤ length text = suffix_len-le-length is_blank text in
    let within : n < length text = omega arith in
    let passes : is_blank (get_or (reverse text) n 0) ≡ true =
    prefix_len_passes is_blank (reverse text) n 0 (omega arith) in
    let blank : is_blank (get_or text (length text - 1 - n) 0) ≡ true =
    rw (get_or-reverse text n 0 within) at passes in
    let place : length text - 1 - n ≡ length text - suc n = omega arith in
    let there : is_blank (get_or text (length text - suc n) 0) ≡ true = rw place at blank in
    IsCharBoundary-before_ascii text (length text - suc n) (omega arith) (blank_is_ascii _ there)

pub before_blanks : (text : List ℕ) → IsCharBoundary text (length text - suffix_len is_blank text)
before_blanks text = before_last_blanks text (suffix_len is_blank text) refl
