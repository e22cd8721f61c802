-- A name counts in one way, and the definition by parts finds it.
use Rattle.std.proofs.Common.{◌≡◌, ◌↔◌, ℕ, ◌+◌, ◌-◌, ◌<◌, ◌≤◌, Bool, true, false, eqb, ltb, leb, ◌&&◌, cond, [], ◌∷◌, ◌++◌, length, take, drop, replicate, reverse, get_or, Option, None, Some, arith, subst, sym, refl, ap, ◌∙◌, zero, suc}
use Rattle.std.specs.Char.{is_ascii_digit}
use Rattle.std.specs.Fmt.{decimal}
use Rattle.std.specs.List.{suffix_len}
use Rattle.std.specs.Option.{unwrap_or}
use Rattle.std.specs.Str.Parse.{digits_value}
use Rattle.std.proofs.lemmas.Bool.{false≢true}
use Rattle.std.proofs.lemmas.Bool.Decides.{nat_tests}
use Rattle.std.proofs.lemmas.Fmt.{digits_decimal, digits_value-decimal, decimal_nonempty, first_decimal, decimal-digits_value}
use Rattle.std.proofs.lemmas.List.{take_at, drop_at, get_or_append_left, get_or-append_right, get_or-reverse, length-append, length-reverse, length-drop, length-replicate, take-append-drop, get_or-drop}
use Rattle.std.proofs.lemmas.List.Sums.{prefix_len_passes, prefix_len_stops, suffix_len-le-length, suffix_len-take_no}
use Rattle.traverse_names.specs.Uid.{Text, Pair, IsBase, Counts, name_of, postfix_text, underscores, digits_start, base_of, digits_of, postfix_of, as_postfix, with_postfix, counted, largest}
use Rattle.traverse_names.proofs.Cut.{AllAt, by_index, digits_start_is, postfix_at}

-- ---- what counts is found
underscores-replicate : (n : ℕ) (rest : Text) → underscores rest ≡ 0 → underscores (replicate n 95 ++ rest) ≡ n
underscores-replicate zero rest none = none
underscores-replicate (suc n) rest none = let e = underscores-replicate n rest none in omega arith

underscores-digits : (ds : Text) → AllAt ds → underscores ds ≡ 0
underscores-digits [] all = refl
underscores-digits (d ∷ ds) all = let first = all 0 (omega arith) in grind (arith, nat_tests)

underscores-base : (base ds : Text) → underscores base ≡ 0 → AllAt ds → underscores (base ++ ds) ≡ 0
underscores-base [] ds none all = underscores-digits ds all
underscores-base (c ∷ cs) ds none all =
    elim (eqb c 95) as (λ b. cond b (1 + underscores cs) 0 ≡ 0 → cond b (1 + underscores (cs ++ ds)) 0 ≡ 0) [ true ↦ λ e. absurd (omega arith) | false ↦ λ e. refl ] none

last_of_base : (base : Text) → suffix_len is_ascii_digit base ≡ 0 → 0 < length base → is_ascii_digit (get_or base (length base - 1) 0) ≡ false
last_of_base base none some =
    let stops : is_ascii_digit (get_or (reverse base) (suffix_len is_ascii_digit base) 0) ≡ false = prefix_len_stops is_ascii_digit (reverse base) 0 (omega (arith, length-reverse {A = ℕ})) in
    let at : get_or (reverse base) 0 0 ≡ get_or base (length base - 1 - 0) 0 = get_or-reverse base 0 0 some in
    let same : length base - 1 - 0 ≡ length base - 1 = omega arith in
    ap is_ascii_digit (sym (ap (λ k. get_or (reverse base) k 0) none ∙ at ∙ ap (λ k. get_or base k 0) same)) ∙ stops

digits_start-base : (base ds : Text) → IsBase base → AllAt ds → digits_start (base ++ ds) ≡ length base
digits_start-base base ds is all =
    let long = length-append base ds in
    sym (digits_start_is (base ++ ds) (length base) (omega arith)
    (λ k from below. rw (get_or-append_right base ds (length base) k 0 refl from) (all (k - length base) (omega arith)))
    (λ some. ap is_ascii_digit (get_or_append_left base ds 0 (length base - 1) (omega arith)) ∙ last_of_base base is.1 some))

postfix_digits : (n : ℕ) → n ≤ largest → AllAt (postfix_text n)
postfix_digits n small =
    elim (eqb n 1) as (λ b. AllAt (cond b [] (decimal n))) [ true ↦ λ i below. absurd (omega arith) | false ↦ digits_decimal by_index n (omega arith) ]

postfix_of-decimal : (n : ℕ) → 1 < n → n ≤ largest → postfix_of (decimal n) ≡ Some n
postfix_of-decimal n from to =
    let first = first_decimal n (omega arith) (omega arith) in
    let some = decimal_nonempty n (omega arith) in
    postfix_at (decimal n) some (omega arith) ∙ ap as_postfix (digits_value-decimal by_index n (omega arith)) ∙ grind (arith, nat_tests)

postfix_of-text : (n : ℕ) → 1 ≤ n → n ≤ largest → postfix_of (postfix_text n) ≡ Some n
postfix_of-text n from to =
    elim (eqb n 1) as (λ b. eqb n 1 ≡ b → postfix_of (cond b [] (decimal n)) ≡ Some n) [
      | true ↦ λ e. grind (arith, nat_tests)
      | false ↦ λ e. postfix_of-decimal n (grind (arith, nat_tests)) to
    ] refl

counted-parts : (name base : Text) (count n : ℕ) → 1 ≤ count → underscores name ≡ count → base_of name ≡ base → postfix_of (digits_of name) ≡ Some n → counted name ≡ Some (base, (count, n))
counted-parts name base count n some u b d =
    ap (λ k. cond (eqb k 0) None (with_postfix (base_of name) k (postfix_of (digits_of name)))) u
    ∙ ap (λ x. cond (eqb count 0) None (with_postfix x count (postfix_of (digits_of name)))) b
    ∙ ap (λ o. cond (eqb count 0) None (with_postfix base count o)) d
    ∙ grind (arith, nat_tests)

pub counted_from_Counts : (name base : Text) (pair : Pair) → Counts name base pair → counted name ≡ Some (base, pair)
counted_from_Counts name base pair h =
    let ds = postfix_text pair.1 in
    let all : AllAt ds = postfix_digits pair.1 h.numbered.1 in
    let count : underscores (name_of base pair) ≡ pair.0 = underscores-replicate pair.0 (base ++ ds) (underscores-base base ds h.is_base.0 all) in
    let behind : drop (underscores (name_of base pair)) (name_of base pair) ≡ base ++ ds = drop_at (replicate pair.0 95) (base ++ ds) _ (length-replicate pair.0 95 ∙ sym count) in
    let start : digits_start (base ++ ds) ≡ length base = digits_start-base base ds h.is_base all in
    let is : base_of (name_of base pair) ≡ base = ap (λ rest. take (digits_start rest) rest) behind ∙ take_at base ds _ (sym start) in
    let digits : digits_of (name_of base pair) ≡ ds = ap (λ rest. drop (digits_start rest) rest) behind ∙ drop_at base ds _ (sym start) in
    ap counted h.spelled ∙ counted-parts (name_of base pair) base pair.0 pair.1 h.underscored count is (ap postfix_of digits ∙ postfix_of-text pair.1 h.numbered.0 h.numbered.1)

-- ---- what is found counts
replicate-underscores : (name : Text) → replicate (underscores name) 95 ++ drop (underscores name) name ≡ name
replicate-underscores [] = refl
replicate-underscores (c ∷ cs) =
    elim (eqb c 95) as (λ b. eqb c 95 ≡ b → replicate (cond b (1 + underscores cs) 0) 95 ++ drop (cond b (1 + underscores cs) 0) (c ∷ cs) ≡ c ∷ cs) [
      | true ↦ λ e.
          let more : suc (underscores cs) ≡ 1 + underscores cs = omega arith in
          let same : 95 ≡ c = grind (arith, nat_tests) in
          let rest = replicate-underscores cs in
          subst (λ n. replicate n 95 ++ drop n (c ∷ cs) ≡ c ∷ cs) more cc
      | false ↦ λ e. refl
    ] refl

none_behind : (name : Text) → underscores (drop (underscores name) name) ≡ 0
none_behind [] = refl
none_behind (c ∷ cs) =
    elim (eqb c 95) as (λ b. eqb c 95 ≡ b → underscores (drop (cond b (1 + underscores cs) 0) (c ∷ cs)) ≡ 0) [
      | true ↦ λ e.
          let more : suc (underscores cs) ≡ 1 + underscores cs = omega arith in
          subst (λ n. underscores (drop n (c ∷ cs)) ≡ 0) more (none_behind cs)
      | false ↦ λ e. ap (λ b. cond b (1 + underscores cs) 0) e
    ] refl

none_in_front : (n : ℕ) (rest : Text) → underscores rest ≡ 0 → underscores (take n rest) ≡ 0
none_in_front zero rest none = refl
none_in_front (suc n) [] none = refl
none_in_front (suc n) (c ∷ cs) none =
    elim (eqb c 95) as (λ b. cond b (1 + underscores cs) 0 ≡ 0 → cond b (1 + underscores (take n cs)) 0 ≡ 0) [ true ↦ λ e. absurd (omega arith) | false ↦ λ e. refl ] none

digit_at : (rest : Text) (k : ℕ) → digits_start rest ≤ k → k < length rest → is_ascii_digit (get_or rest k 0) ≡ true
digit_at rest k from below =
    let place : length rest - 1 - (length rest - 1 - k) ≡ k = omega arith in
    let at : get_or (reverse rest) (length rest - 1 - k) 0 ≡ get_or rest (length rest - 1 - (length rest - 1 - k)) 0 = get_or-reverse rest (length rest - 1 - k) 0 (omega arith) in
    ap is_ascii_digit (sym (at ∙ ap (λ j. get_or rest j 0) place)) ∙ prefix_len_passes is_ascii_digit (reverse rest) (length rest - 1 - k) 0 (omega arith)

no_digit_before : (rest : Text) → 0 < digits_start rest → is_ascii_digit (get_or rest (digits_start rest - 1) 0) ≡ false
no_digit_before rest some =
    let count = suffix_len is_ascii_digit rest in
    let place : length rest - 1 - count ≡ digits_start rest - 1 = omega arith in
    let stops : is_ascii_digit (get_or (reverse rest) count 0) ≡ false = prefix_len_stops is_ascii_digit (reverse rest) 0 (omega (arith, length-reverse {A = ℕ})) in
    ap is_ascii_digit (sym (get_or-reverse rest count 0 (omega arith) ∙ ap (λ k. get_or rest k 0) place)) ∙ stops

no_digit_last : (n : ℕ) (rest : Text) → n ≡ digits_start rest → suffix_len is_ascii_digit (take n rest) ≡ 0
no_digit_last zero rest is = refl
no_digit_last (suc n) rest is =
    let within = suffix_len-le-length is_ascii_digit rest in
    let stop : is_ascii_digit (get_or rest (suc n - 1) 0) ≡ false = ap (λ k. is_ascii_digit (get_or rest (k - 1) 0)) is ∙ no_digit_before rest (omega arith) in
    suffix_len-take_no is_ascii_digit rest (suc n) 0 (omega arith) (omega arith) stop

pub base_is : (name : Text) → IsBase (base_of name)
base_is name =
    let rest = drop (underscores name) name in
    (none_in_front (digits_start rest) rest (none_behind name), no_digit_last (digits_start rest) rest refl)

all_digits : (name : Text) → AllAt (digits_of name)
all_digits name i below =
    let rest = drop (underscores name) name in
    let within = suffix_len-le-length is_ascii_digit rest in
    let long = length-drop (digits_start rest) rest in
    let digit = digit_at rest (digits_start rest + i) (omega arith) (omega arith) in
    rw (get_or-drop (digits_start rest) rest i 0) (grind (arith, nat_tests))

as_postfix_is : (v n : ℕ) → as_postfix v ≡ Some n → (v ≡ n) × (1 < v) × (v ≤ largest)
as_postfix_is v n e =
    elim (ltb 1 v && leb v largest) as (λ b. (ltb 1 v && leb v largest) ≡ b → cond b (Some v) None ≡ Some n → (v ≡ n) × (1 < v) × (v ≤ largest)) [
      | true ↦ λ t h. (cc, grind (arith, nat_tests), grind (arith, nat_tests))
      | false ↦ λ t h. cc
    ] refl e

text_from_postfix : (ds : Text) (n : ℕ) → AllAt ds → postfix_of ds ≡ Some n → (postfix_text n ≡ ds) × (1 ≤ n) × (n ≤ largest)
text_from_postfix [] n all e = let same : 1 ≡ n = cc in (ap postfix_text (sym same), omega arith, omega arith)
text_from_postfix (c ∷ cs) n all e =
    elim (eqb c 48) as (λ b. eqb c 48 ≡ b → cond b None (as_postfix (digits_value 10 (c ∷ cs))) ≡ Some n → (postfix_text n ≡ c ∷ cs) × (1 ≤ n) × (n ≤ largest)) [
      | true ↦ λ t h. cc
      | false ↦ λ t h.
          let is : (digits_value 10 (c ∷ cs) ≡ n) × (1 < digits_value 10 (c ∷ cs)) × (digits_value 10 (c ∷ cs) ≤ largest) = as_postfix_is (digits_value 10 (c ∷ cs)) n h in
          let first : c ≡ 48 → length (c ∷ cs) ≡ 1 = λ z. absurd (false≢true (sym t ∙ ap (λ x. eqb x 48) z)) in
          let text : decimal (digits_value 10 (c ∷ cs)) ≡ c ∷ cs = decimal-digits_value by_index (c ∷ cs) all (omega arith) first (omega arith) in
          let more : eqb n 1 ≡ false = grind (arith, nat_tests) in
          (ap (λ b. cond b [] (decimal n)) more ∙ ap decimal (sym is.0) ∙ text, omega arith, omega arith)
    ] refl e

parts_of : (b : Bool) (base : Text) (count : ℕ) (o : Option ℕ) (found : Text) (pair : Pair) → cond b None (with_postfix base count o) ≡ Some (found, pair) → (b ≡ false) × (base ≡ found) × (count ≡ pair.0) × (o ≡ Some pair.1)
parts_of true base count o found pair e = cc
parts_of false base count None found pair e = cc
parts_of false base count (Some n) found pair e =
    let same : ◌≡◌ {A = Text × Pair} (base, (count, n)) (found, pair) = ap (λ o. unwrap_or o (base, (count, n))) e in
    (refl, ap (λ x. x.0) same, ap (λ x. x.1.0) same, ap (λ x. Some x.1.1) same)

pub Counts_from_counted : (name base : Text) (pair : Pair) → counted name ≡ Some (base, pair) → Counts name base pair
Counts_from_counted name base pair e =
    let rest = drop (underscores name) name in
    let parts = parts_of _ _ _ _ base pair e in
    let digits = text_from_postfix (digits_of name) pair.1 (all_digits name) parts.3 in
    record {
      is_base = subst IsBase parts.1 (base_is name);
      underscored = grind (arith, nat_tests);
      numbered = (digits.1, digits.2);
      spelled =
          sym (replicate-underscores name) ∙ ap (λ x. replicate (underscores name) 95 ++ x) (sym (take-append-drop (digits_start rest) rest))
          ∙ ap (λ k. replicate k 95 ++ (base_of name ++ digits_of name)) parts.2
          ∙ ap (λ x. replicate pair.0 95 ++ (x ++ digits_of name)) parts.1
          ∙ ap (λ x. replicate pair.0 95 ++ (base ++ x)) (sym digits.0);
    }

pub counted_law : (name base : Text) (pair : Pair) → (counted name ≡ Some (base, pair)) ↔ Counts name base pair
counted_law name base pair = (Counts_from_counted name base pair, counted_from_Counts name base pair)
