-- `_` before a text turned into an identifier name is an identifier name; such a text takes no more bytes.
use Rattle.std.proofs.Common.{◌≡◌, ℕ, ◌+◌, ◌-◌, ◌<◌, ◌≤◌, Bool, true, false, leb, ltb, eqb, cond, ◌&&◌, ◌||◌, List, [], ◌∷◌, ◌++◌, length, arith, refl, sym, ap, ◌∙◌}
use Rattle.std.specs.Prelude.{codes}
use Rattle.std.specs.Char.{to_ascii_uppercase, encode_utf8, is_ascii_alphanumeric, len_utf8}
use Rattle.std.specs.List.{list_all, fold}
use Rattle.std.specs.Str.{encode_utf8_all}
use Rattle.std.proofs.lemmas.Bool.{false≢true}
use Rattle.std.proofs.lemmas.Bool.Decides.{nat_tests}
use Rattle.std.proofs.lemmas.List.{length-append}
use Rattle.std.proofs.lemmas.Str.{length-encode, len_utf8_bounds, len_utf8_ascii, encodes-append}
use Rattle.unicode_ident.specs.Ident.{is_xid_start, is_xid_continue}
use Rattle.unicode_ident.proofs.IdentLemmas.{is_xid_start-is_xid_continue, is_xid_continue-ascii}
use Rattle.js_chars.specs.Names.{is_identifier_start, is_identifier_part, is_identifier_name}
use Rattle.traverse_names.specs.Identifier.{kept_parts, kept_characters, or_underscore, identifier_of, size, fitting, without_underscores, joined, finished, name_of_parts}

-- ---- parts
or_last : (a b : Bool) → ((a || b) || true) ≡ true
or_last true b = refl
or_last false true = refl
or_last false false = refl

part_from : (a b c d e : Bool) → a ≡ true → ((((a || b) || c) || d) || e) ≡ true
part_from a b c d e h = ap (λ x. (((x || b) || c) || d) || e) h

either : (a b s : Bool) → (s ≡ true → a ≡ true) → (c d e : Bool) → ((s || c) || d) ≡ true → ((((a || c) || d) || b) || e) ≡ true
either true b s f c d e h = refl
either false b true f c d e h = absurd (false≢true (f refl))
either false b false f true d e h = refl
either false b false f false true e h = refl
either false b false f false false e h = cc

pub start_is_part : (c : ℕ) → is_identifier_start c ≡ true → is_identifier_part c ≡ true
start_is_part c h =
    either (is_xid_continue c) (eqb c 0x200C) (is_xid_start c) (is_xid_start-is_xid_continue c) (eqb c 0x24) (eqb c 0x5F) (eqb c 0x200D) h

upper_letter : (c : ℕ) → 97 ≤ c → c < 123 → is_identifier_part (c - 32) ≡ true
upper_letter c from to =
    let word : (is_ascii_alphanumeric (c - 32) || eqb (c - 32) 95) ≡ true = grind (arith, nat_tests) in
    part_from (is_xid_continue (c - 32)) (eqb (c - 32) 0x24) (eqb (c - 32) 0x5F) (eqb (c - 32) 0x200C) (eqb (c - 32) 0x200D) (is_xid_continue-ascii (c - 32) (omega arith) ∙ word)

upper_is_part : (c : ℕ) → is_identifier_part c ≡ true → is_identifier_part (to_ascii_uppercase c) ≡ true
upper_is_part c h =
    elim (ltb c 97) as (λ b. ltb c 97 ≡ b → is_identifier_part (cond b c (cond (ltb c 123) (c - 32) c)) ≡ true) [
      | true ↦ λ e. h
      | false ↦ λ e.
          elim (ltb c 123) as (λ b. ltb c 123 ≡ b → is_identifier_part (cond b (c - 32) c) ≡ true) [
            | true ↦ λ f. upper_letter c (grind (arith, nat_tests)) (grind (arith, nat_tests))
            | false ↦ λ f. h
          ] refl
    ] refl

both : (a b : Bool) → a ≡ true → b ≡ true → (a && b) ≡ true
both true true e f = refl
both true false e f = f
both false b e f = e

first_of_both : (a b : Bool) → (a && b) ≡ true → a ≡ true
first_of_both true b e = refl
first_of_both false b e = e

second_of_both : (a b : Bool) → (a && b) ≡ true → b ≡ true
second_of_both true b e = e
second_of_both false b e = cc

chosen : (dropped : Bool) (c : ℕ) → is_identifier_part c ≡ true → is_identifier_part (cond dropped (to_ascii_uppercase c) c) ≡ true
chosen true c e = upper_is_part c e
chosen false c e = e

kept_are_parts : (dropped : Bool) (cs : List ℕ) → list_all is_identifier_part (kept_parts dropped cs) ≡ true
kept_are_parts dropped [] = refl
kept_are_parts dropped (c ∷ cs) =
    elim (is_identifier_part c) as (λ b. is_identifier_part c ≡ b → list_all is_identifier_part (cond b (cond dropped (to_ascii_uppercase c) c ∷ kept_parts false cs) (kept_parts true cs)) ≡ true) [
      | true ↦ λ e. both _ _ (chosen dropped c e) (kept_are_parts false cs)
      | false ↦ λ e. kept_are_parts true cs
    ] refl

characters_are_parts : (cs : List ℕ) → list_all is_identifier_part (kept_characters cs) ≡ true
characters_are_parts [] = refl
characters_are_parts (c ∷ cs) =
    elim (is_identifier_start c) as (λ b. is_identifier_start c ≡ b → list_all is_identifier_part (cond b (c ∷ kept_parts false cs) (kept_parts true cs)) ≡ true) [
      | true ↦ λ e. both _ _ (start_is_part c e) (kept_are_parts false cs)
      | false ↦ λ e. kept_are_parts true cs
    ] refl

underscore_is_start : is_identifier_start 95 ≡ true
underscore_is_start = or_last (is_xid_start 95) false

underscore_is_part : is_identifier_part 95 ≡ true
underscore_is_part = start_is_part 95 underscore_is_start

name_is_parts : (cs : List ℕ) → is_identifier_name cs ≡ true → list_all is_identifier_part cs ≡ true
name_is_parts [] e = refl
name_is_parts (c ∷ cs) e = both _ _ (start_is_part c (first_of_both _ _ e)) (second_of_both _ _ e)

or_underscore_is_parts : (cs : List ℕ) → list_all is_identifier_part cs ≡ true → list_all is_identifier_part (or_underscore cs) ≡ true
or_underscore_is_parts [] e = both _ _ underscore_is_part refl
or_underscore_is_parts (c ∷ cs) e = e

identifier_is_parts : (cs : List ℕ) → list_all is_identifier_part (identifier_of cs) ≡ true
identifier_is_parts cs =
    elim (is_identifier_name cs) as (λ b. is_identifier_name cs ≡ b → list_all is_identifier_part (cond b cs (or_underscore (kept_characters cs))) ≡ true) [
      | true ↦ λ e. name_is_parts cs e
      | false ↦ λ e. or_underscore_is_parts (kept_characters cs) (characters_are_parts cs)
    ] refl

pub underscore_before_parts : (cs : List ℕ) → list_all is_identifier_part cs ≡ true → is_identifier_name (95 ∷ cs) ≡ true
underscore_before_parts cs e = both _ _ underscore_is_start e

pub underscore_before_identifier : (cs : List ℕ) → is_identifier_name (95 ∷ identifier_of cs) ≡ true
underscore_before_identifier cs = underscore_before_parts (identifier_of cs) (identifier_is_parts cs)

pub identifier_stays : (cs : List ℕ) → is_identifier_name cs ≡ true → identifier_of cs ≡ cs
identifier_stays cs e = ap (λ b. cond b cs (or_underscore (kept_characters cs))) e

-- ---- sizes
size-cons : (c : ℕ) (cs : List ℕ) → size (c ∷ cs) ≡ len_utf8 c + size cs
size-cons c cs = length-append (encode_utf8 c) (encode_utf8_all cs) ∙ ap (λ n. n + size cs) (length-encode c)

size-append : (xs ys : List ℕ) → size (xs ++ ys) ≡ size xs + size ys
size-append xs ys = ap length (encodes-append xs ys) ∙ length-append (encode_utf8_all xs) (encode_utf8_all ys)

size_some : (cs : List ℕ) → 0 < length cs → 1 ≤ size cs
size_some [] some = absurd (omega arith)
size_some (c ∷ cs) some = let long = size-cons c cs in let least = (len_utf8_bounds c).0 in omega arith

upper_size : (c : ℕ) → len_utf8 (to_ascii_uppercase c) ≡ len_utf8 c
upper_size c =
    elim (ltb c 97) as (λ b. ltb c 97 ≡ b → len_utf8 (cond b c (cond (ltb c 123) (c - 32) c)) ≡ len_utf8 c) [
      | true ↦ λ e. refl
      | false ↦ λ e.
          elim (ltb c 123) as (λ b. ltb c 123 ≡ b → len_utf8 (cond b (c - 32) c) ≡ len_utf8 c) [
            | true ↦ λ f. let small : c < 123 = grind (arith, nat_tests) in len_utf8_ascii (c - 32) (omega arith) ∙ sym (len_utf8_ascii c (omega arith))
            | false ↦ λ f. refl
          ] refl
    ] refl

chosen_size : (dropped : Bool) (c : ℕ) → len_utf8 (cond dropped (to_ascii_uppercase c) c) ≡ len_utf8 c
chosen_size true c = upper_size c
chosen_size false c = refl

kept_size : (dropped : Bool) (cs : List ℕ) → size (kept_parts dropped cs) ≤ size cs
kept_size dropped [] = omega arith
kept_size dropped (c ∷ cs) =
    let whole = size-cons c cs in
    elim (is_identifier_part c) as (λ b. size (cond b (cond dropped (to_ascii_uppercase c) c ∷ kept_parts false cs) (kept_parts true cs)) ≤ size (c ∷ cs)) [
      | true ↦ let long = size-cons (cond dropped (to_ascii_uppercase c) c) (kept_parts false cs) in let same = chosen_size dropped c in let rest = kept_size false cs in omega arith
      | false ↦ let rest = kept_size true cs in omega arith
    ]

characters_size : (cs : List ℕ) → size (kept_characters cs) ≤ size cs
characters_size [] = omega arith
characters_size (c ∷ cs) =
    let whole = size-cons c cs in
    elim (is_identifier_start c) as (λ b. size (cond b (c ∷ kept_parts false cs) (kept_parts true cs)) ≤ size (c ∷ cs)) [
      | true ↦ let long = size-cons c (kept_parts false cs) in let rest = kept_size false cs in omega arith
      | false ↦ let rest = kept_size true cs in omega arith
    ]

or_underscore_short : (cs : List ℕ) → size cs ≤ 20 → (1 ≤ size (or_underscore cs)) × (size (or_underscore cs) ≤ 20)
or_underscore_short [] short = let one = size-cons 95 [] in let byte = len_utf8_ascii 95 (omega arith) in let none : size [] ≡ 0 = refl in (omega arith, omega arith)
or_underscore_short (c ∷ cs) short = (size_some (c ∷ cs) (omega arith), short)

identifier_short : (cs : List ℕ) → 0 < length cs → size cs ≤ 20 → (1 ≤ size (identifier_of cs)) × (size (identifier_of cs) ≤ 20)
identifier_short cs some short =
    elim (is_identifier_name cs) as (λ b. (1 ≤ size (cond b cs (or_underscore (kept_characters cs)))) × (size (cond b cs (or_underscore (kept_characters cs))) ≤ 20)) [
      | true ↦ (size_some cs some, short)
      | false ↦ let kept = characters_size cs in or_underscore_short (kept_characters cs) (omega arith)
    ]

fitting_size : (room : ℕ) (cs : List ℕ) → size (fitting room cs) ≤ room
fitting_size room [] = omega arith
fitting_size room (c ∷ cs) =
    elim (leb (len_utf8 c) room) as (λ b. leb (len_utf8 c) room ≡ b → size (cond b (c ∷ fitting (room - len_utf8 c) cs) []) ≤ room) [
      | true ↦ λ e.
          let within : len_utf8 c ≤ room = grind (arith, nat_tests) in
          let long = size-cons c (fitting (room - len_utf8 c) cs) in
          let rest = fitting_size (room - len_utf8 c) cs in
          omega arith
      | false ↦ λ e. omega arith
    ] refl

dollar_short : (name part : List ℕ) → size name < 20 → size (name ++ (36 ∷ fitting (20 - (size name + 1)) part)) ≤ 20
dollar_short name part short =
    let front = size-append name (36 ∷ fitting (20 - (size name + 1)) part) in
    let long = size-cons 36 (fitting (20 - (size name + 1)) part) in
    let byte = len_utf8_ascii 36 (omega arith) in
    let rest = fitting_size (20 - (size name + 1)) part in
    omega arith

letter_is_part : (c : ℕ) → c < 128 → is_ascii_alphanumeric c ≡ true → is_identifier_part c ≡ true
letter_is_part c ascii letter =
    part_from (is_xid_continue c) (eqb c 0x24) (eqb c 0x5F) (eqb c 0x200C) (eqb c 0x200D) (is_xid_continue-ascii c ascii ∙ ap (λ b. b || eqb c 95) letter)

ref_is_parts : list_all is_identifier_part (codes "ref") ≡ true
ref_is_parts = both _ _ (letter_is_part 114 (omega arith) refl) (both _ _ (letter_is_part 101 (omega arith) refl) (both _ _ (letter_is_part 102 (omega arith) refl) refl))

ref_short : (1 ≤ size (codes "ref")) × (size (codes "ref") ≤ 20)
ref_short =
    let r = size-cons 114 (101 ∷ 102 ∷ []) in let e = size-cons 101 (102 ∷ []) in let f = size-cons 102 [] in
    let none : size [] ≡ 0 = refl in
    let r1 = len_utf8_ascii 114 (omega arith) in let e1 = len_utf8_ascii 101 (omega arith) in let f1 = len_utf8_ascii 102 (omega arith) in
    (omega arith, omega arith)

joined_short : (name part : List ℕ) → size name ≤ 20 → size (joined name part) ≤ 20
joined_short [] part short = fitting_size 20 (without_underscores part)
joined_short (c ∷ cs) part short =
    elim (ltb (size (c ∷ cs)) 20) as (λ b. ltb (size (c ∷ cs)) 20 ≡ b → size (cond b ((c ∷ cs) ++ (36 ∷ fitting (20 - (size (c ∷ cs) + 1)) part)) (c ∷ cs)) ≤ 20) [
      | true ↦ λ e. dollar_short (c ∷ cs) part (grind (arith, nat_tests))
      | false ↦ λ e. short
    ] refl

fold_short : (name : List ℕ) (parts : List (List ℕ)) → size name ≤ 20 → size (fold joined name parts) ≤ 20
fold_short name [] short = short
fold_short name (part ∷ parts) short = fold_short (joined name part) parts (joined_short name part short)

finished_short : (cs : List ℕ) → size cs ≤ 20 → (1 ≤ size (finished cs)) × (size (finished cs) ≤ 20) × (is_identifier_name (95 ∷ finished cs) ≡ true)
finished_short [] short = (ref_short.0, ref_short.1, underscore_before_parts (codes "ref") ref_is_parts)
finished_short (c ∷ cs) short =
    let is = identifier_short (c ∷ cs) (omega arith) short in
    (is.0, is.1, underscore_before_identifier (c ∷ cs))

pub name_of_parts_short : (parts : List (List ℕ)) → (1 ≤ size (name_of_parts parts)) × (size (name_of_parts parts) ≤ 20) × (is_identifier_name (95 ∷ name_of_parts parts) ≡ true)
name_of_parts_short parts = finished_short (fold joined [] parts) (fold_short [] parts (omega arith))
