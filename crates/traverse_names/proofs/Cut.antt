-- Where a name may be cut, behind its leading underscores and before the digits at its end, and what these digits are.
use Rattle.std.proofs.Common.{◌≡◌, ◌≢◌, ℕ, ◌+◌, ◌-◌, ◌^◌, ◌<◌, ◌≤◌, true, false, eqb, List, [], ◌∷◌, length, get_or, None, Err, arith, subst, sym, ◌∙◌, zero, suc}
use Rattle.std.specs.Char.{is_ascii_digit}
use Rattle.std.specs.Int.{IsInRange}
use Rattle.std.specs.List.{suffix_len}
use Rattle.std.specs.Str.{IsUtf8, IsCharBoundary}
use Rattle.std.specs.Str.Parse.{ParsesUnsigned, digits_value}
use Rattle.std.proofs.lemmas.Bool.Decides.{nat_tests}
use Rattle.std.proofs.lemmas.List.Sums.{prefix_len_is, prefix_len_passes, prefix_len-le-length, suffix_len_is}
use Rattle.std.proofs.lemmas.Str.{IsCharBoundary-start, IsCharBoundary-after_ascii}
use Rattle.std.proofs.lemmas.Str.Parse.{IsNumeralModel, numerals_by_value, tells_by_index, parse_gives}
use Rattle.traverse_names.specs.Uid.{underscores, digits_start, postfix_of, as_postfix}

pub count_is : (bs : List ℕ) (n : ℕ) → n ≤ length bs → ((k : ℕ) → k < n → get_or bs k 0 ≡ 95) → (n < length bs → get_or bs n 0 ≢ 95) → n ≡ underscores bs
count_is bs n within passed stops =
    sym (prefix_len_is (λ c. eqb c 95) bs n 0 within (λ k h. let e = passed k h in grind (arith, nat_tests)) (λ h. let ne = stops h in grind (arith, nat_tests)))

pub digits_start_is : (bs : List ℕ) (n : ℕ) → n ≤ length bs → ((k : ℕ) → n ≤ k → k < length bs → IsInRange 48 57 (get_or bs k 0)) → (0 < n → is_ascii_digit (get_or bs (n - 1) 0) ≡ false) → n ≡ digits_start bs
digits_start_is bs n within passed stops =
    let s : suffix_len is_ascii_digit bs ≡ length bs - n = suffix_len_is is_ascii_digit bs n 0 within (λ k h l. let e = passed k h l in grind (arith, nat_tests)) stops in
    omega arith

before : (bs : List ℕ) (n : ℕ) → IsUtf8 bs → n ≤ length bs → ((k : ℕ) → k < n → get_or bs k 0 ≡ 95) → IsCharBoundary bs n
before bs zero u within passed = IsCharBoundary-start bs u
before bs (suc n) u within passed =
    let e : n + 1 ≡ suc n = omega arith in
    let last : n < suc n = omega arith in
    let is : get_or bs n 0 ≡ 95 = passed n last in
    subst (IsCharBoundary bs) e (IsCharBoundary-after_ascii bs n u (omega arith) (omega arith))

pub behind_underscores : (bs : List ℕ) (n : ℕ) → IsUtf8 bs → n ≡ underscores bs → IsCharBoundary bs n
behind_underscores bs n u e =
    let within : underscores bs ≤ length bs = prefix_len-le-length (λ c. eqb c 95) bs in
    before bs n u (omega arith) (λ k h. let p : eqb (get_or bs k 0) 95 ≡ true = prefix_len_passes (λ c. eqb c 95) bs k 0 (omega arith) in grind (arith, nat_tests))

pub before_digits : (bs : List ℕ) (n : ℕ) → n ≤ length bs → ((k : ℕ) → n ≤ k → k < length bs → IsInRange 48 57 (get_or bs k 0)) → IsCharBoundary bs n
before_digits bs n within passed = (within, λ l high. let r = passed n (omega arith) l in absurd (omega arith))

abbrev pub AllAt : List ℕ → Type 0
AllAt ds = (i : ℕ) → i < length ds → IsInRange 48 57 (get_or ds i 0)

pub by_index : IsNumeralModel AllAt (digits_value 10)
by_index = numerals_by_value AllAt tells_by_index

as_postfix_large : (n : ℕ) → 2 ^ 32 ≤ n → as_postfix n ≡ None
as_postfix_large n h = grind (arith, nat_tests)

pub postfix_at : (bs : List ℕ) → 0 < length bs → get_or bs 0 0 ≢ 48 → postfix_of bs ≡ as_postfix (digits_value 10 bs)
postfix_at [] nonempty first = absurd (omega arith)
postfix_at (c ∷ cs) nonempty first = grind (arith, nat_tests)

pub unread : {E : Type 0} (bs : List ℕ) (e : E) → AllAt bs → 0 < length bs → get_or bs 0 0 ≢ 48 → ParsesUnsigned {E = E} 32 10 bs (Err e) → None ≡ postfix_of bs
unread bs e digits nonempty first parsed =
    let large : digits_value 10 bs < 2 ^ 32 → ⊥ = λ small. let ok = parse_gives by_index 32 bs (Err e) parsed digits nonempty small in cc in
    sym (postfix_at bs nonempty first ∙ as_postfix_large (digits_value 10 bs) (omega arith))

pub few_underscores : (bs : List ℕ) → underscores bs ≤ length bs
few_underscores bs = prefix_len-le-length (λ c. eqb c 95) bs
