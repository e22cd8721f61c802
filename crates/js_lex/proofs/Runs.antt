-- Runs of bytes: where they end, and that they are found.
use Rattle.std.proofs.Common.{◌≡◌, ℕ, zero, suc, ◌+◌, ◌<◌, ◌≤◌, Bool, true, false, not, List, [], ◌∷◌, ◌++◌, length, IsUtf8, refl, sym, subst, inl, inr, arith, add-one}
use Rattle.std.proofs.lemmas.Bool.{cases_lt, and_parts}
use Rattle.std.proofs.lemmas.Bool.Decides.{nat_tests}
use Rattle.std.proofs.lemmas.List.Sums.{prefix_len-le-length, prefix_len_passes, prefix_len_stops}
use Rattle.std.proofs.lemmas.Str.{IsCharBoundary-start, IsCharBoundary-end, IsCharBoundary-before_ascii, IsCharBoundary-after_ascii}
use Rattle.std.proofs.lemmas.List.{take-append-drop, length-drop}
use Rattle.std.proofs.Math.Seq.{take-append_seam, drop-append_seam}
use Rattle.std.specs.List.{prefix_len, list_all}
use Rattle.std.specs.Str.{IsCharBoundary}
use Rattle.js_term.specs.Term.{Text}
use Rattle.js_term.specs.Lexeme.{is_blank, is_part, is_digit, is_plain, not_next, front}
use Rattle.js_lex.specs.Next.{run, behind}
use Rattle.js_lex.specs.Classes.{passes}
use Rattle.js_lex.specs.declared.bytes.Class.{Class}
use Rattle.js_lex.specs.declared.bytes.Class.TheVariants as class
use Rattle.js_lex.specs.declared.bytes.Quote.TheVariants as quote

after_ascii_run : (p : ℕ → Bool) (bs : List ℕ) (n : ℕ) → prefix_len p bs ≡ n → IsUtf8 bs → ((c : ℕ) → p c ≡ true → c < 128) → IsCharBoundary bs n
after_ascii_run p bs zero e utf8 ascii = IsCharBoundary-start bs utf8
after_ascii_run p bs (suc k) e utf8 ascii =
    rw (← add-one) (IsCharBoundary-after_ascii bs k utf8 (omega (arith, prefix_len-le-length p bs)) (ascii _ (prefix_len_passes p bs k 0 (omega arith))))

-- a run of ASCII bytes ends where a character does
ascii_run : (p : ℕ → Bool) (bs : List ℕ) → IsUtf8 bs → ((c : ℕ) → p c ≡ true → c < 128) → IsCharBoundary bs (prefix_len p bs)
ascii_run p bs = after_ascii_run p bs _ refl

-- and so does a run that only an ASCII byte stops
wide_run : (p : ℕ → Bool) (bs : List ℕ) → ((c : ℕ) → p c ≡ false → c < 128) → IsCharBoundary bs (prefix_len p bs)
wide_run p bs ascii =
    elim (cases_lt (prefix_len p bs) (length bs)) [
      | inl within ↦ IsCharBoundary-before_ascii bs _ within (ascii _ (prefix_len_stops p bs 0 within))
      | inr past ↦ subst (IsCharBoundary bs) (omega (arith, prefix_len-le-length p bs)) (IsCharBoundary-end bs)
    ]

pub IsCharBoundary-run : (of : Class) (bs : List ℕ) → IsUtf8 bs → IsCharBoundary bs (prefix_len (passes of) bs)
IsCharBoundary-run class.Blank bs utf8 = ascii_run is_blank bs utf8 (λ c e. grind (arith, nat_tests))
IsCharBoundary-run class.Part bs utf8 = ascii_run is_part bs utf8 (λ c e. grind (arith, nat_tests))
IsCharBoundary-run class.Digit bs utf8 = ascii_run is_digit bs utf8 (λ c e. grind (arith, nat_tests))
IsCharBoundary-run (class.Plain quote.Single) bs utf8 = wide_run (is_plain 39) bs (λ c e. grind (arith, nat_tests))
IsCharBoundary-run (class.Plain quote.Double) bs utf8 = wide_run (is_plain 34) bs (λ c e. grind (arith, nat_tests))

pub run_behind : (p : ℕ → Bool) (text : Text) → text ≡ run p text ++ behind p text
run_behind p text = sym (take-append-drop (prefix_len p text) text)

run_passes_more : (p : ℕ → Bool) (c : ℕ) (cs : Text) → list_all p (run p cs) ≡ true → (b : Bool) → p c ≡ b → list_all p (run p (c ∷ cs)) ≡ true
run_passes_more p c cs h true e = let one : 1 + prefix_len p cs ≡ suc (prefix_len p cs) = omega arith in rw (e, one, e) h
run_passes_more p c cs h false e = rw e refl

-- all of a run passes
pub run_passes : (p : ℕ → Bool) (text : Text) → list_all p (run p text) ≡ true
run_passes p [] = refl
run_passes p (c ∷ cs) = run_passes_more p c cs (run_passes p cs) (p c) refl

behind_stops_more : (p : ℕ → Bool) (c : ℕ) (cs : Text) → not_next p (behind p cs) ≡ true → (b : Bool) → p c ≡ b → not_next p (behind p (c ∷ cs)) ≡ true
behind_stops_more p c cs h true e = let one : 1 + prefix_len p cs ≡ suc (prefix_len p cs) = omega arith in rw (e, one) h
behind_stops_more p c cs h false e = rw (e, e)

-- and what is behind does not begin with what passes
pub behind_stops : (p : ℕ → Bool) (text : Text) → not_next p (behind p text) ≡ true
behind_stops p [] = refl
behind_stops p (c ∷ cs) = behind_stops_more p c cs (behind_stops p cs) (p c) refl

pub prefix_len-run : (p : ℕ → Bool) (s rest : Text) → list_all p s ≡ true → not_next p rest ≡ true → prefix_len p (s ++ rest) ≡ length s
prefix_len-run p [] [] all stops = refl
prefix_len-run p [] (c ∷ rest) all stops = go (p c) refl stops
  where
    go : (b : Bool) → p c ≡ b → not b ≡ true → prefix_len p (c ∷ rest) ≡ 0
    go true e h = absurd (cc)
    go false e h = rw e
prefix_len-run p (c ∷ s) rest all stops =
    let (here, more) = and_parts (p c) (list_all p s) all in
    rw here (omega (arith, prefix_len-run p s rest more stops))

pub run_found : (p : ℕ → Bool) (s rest : Text) → list_all p s ≡ true → not_next p rest ≡ true → run p (s ++ rest) ≡ s
run_found p s rest all stops = rw (prefix_len-run p s rest all stops) (take-append_seam s rest)

pub behind_found : (p : ℕ → Bool) (s rest : Text) → list_all p s ≡ true → not_next p rest ≡ true → behind p (s ++ rest) ≡ rest
behind_found p s rest all stops = rw (prefix_len-run p s rest all stops) (drop-append_seam s rest)

front_behind_more : (c : ℕ) (cs : Text) → front cs ≡ behind is_blank cs → (b : Bool) → is_blank c ≡ b → front (c ∷ cs) ≡ behind is_blank (c ∷ cs)
front_behind_more c cs h true e = let one : 1 + prefix_len is_blank cs ≡ suc (prefix_len is_blank cs) = omega arith in rw (e, one) h
front_behind_more c cs h false e = rw e

-- the front of a text is what is behind its blanks
pub front_behind : (text : Text) → front text ≡ behind is_blank text
front_behind [] = refl
front_behind (c ∷ cs) = front_behind_more c cs (front_behind cs) (is_blank c) refl

pub front_within : (text : Text) → length (front text) ≤ length text
front_within text = rw (front_behind text) (omega (arith, length-drop (prefix_len is_blank text) text))
