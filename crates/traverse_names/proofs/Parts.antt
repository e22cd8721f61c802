-- The steps of the loops that keep characters.
use Rattle.std.proofs.Common.{◌≡◌, ℕ, ◌+◌, ◌-◌, ◌<◌, ◌≤◌, Bool, true, false, not, leb, ltb, cond, map, List, [], ◌∷◌, ◌++◌, length, drop, get_or, arith, refl, sym, ap, ◌∙◌}
use Rattle.std.specs.Char.{to_ascii_uppercase, len_utf8}
use Rattle.std.specs.List.{fold}
use Rattle.std.specs.Str.{chars}
use Rattle.std.proofs.lemmas.Bool.Decides.{nat_tests}
use Rattle.std.proofs.lemmas.List.{append-nil, append_assoc, at_drop_more, at_drop_all}
use Rattle.js_chars.specs.Names.{is_identifier_start, is_identifier_part, is_identifier_name}
use Rattle.traverse_names.specs.Identifier.{kept_parts, kept_characters, or_underscore, identifier_of, size, fitting, joined, finished}

abbrev pub IsNext : List ℕ → ℕ → ℕ → Type 0
IsNext cs n c = (n < length cs) × (c ≡ get_or cs n c)

kept_by : Bool → Bool → ℕ → List ℕ → List ℕ
kept_by is dropped c rest = cond is (cond dropped (to_ascii_uppercase c) c ∷ kept_parts false rest) (kept_parts true rest)

kept_parts_at : (dropped : Bool) (cs : List ℕ) (n c : ℕ) → IsNext cs n c → kept_parts dropped (drop n cs) ≡ kept_by (is_identifier_part c) dropped c (drop (n + 1) cs)
unfolding kept_by
kept_parts_at dropped cs n c t =
    at_drop_more (kept_parts dropped) cs n c t.0 ∙ ap (λ x. kept_by (is_identifier_part x) dropped x (drop (n + 1) cs)) (sym t.1)

pub part_kept : (dropped : Bool) (cs before after all : List ℕ) (n m c : ℕ) (is : Bool) → IsNext cs n c → is ≡ is_identifier_part c → is ≡ true → m ≡ n + 1 → after ≡ before ++ cond dropped (to_ascii_uppercase c) c ∷ [] → before ++ kept_parts dropped (drop n cs) ≡ all → after ++ kept_parts (not is) (drop m cs) ≡ all
unfolding kept_by
part_kept dropped cs before after all n m c is t part holds next e done =
    ap (λ k. after ++ kept_parts (not is) (drop k cs)) next
    ∙ ap (λ b. after ++ kept_parts (not b) (drop (n + 1) cs)) holds
    ∙ ap (λ x. x ++ kept_parts false (drop (n + 1) cs)) e
    ∙ append_assoc before (cond dropped (to_ascii_uppercase c) c ∷ []) (kept_parts false (drop (n + 1) cs))
    ∙ ap (λ x. before ++ x) (sym (kept_parts_at dropped cs n c t ∙ ap (λ b. kept_by b dropped c (drop (n + 1) cs)) (sym part ∙ holds)))
    ∙ done

pub part_dropped : (dropped : Bool) (cs before after all : List ℕ) (n m c : ℕ) (is : Bool) → IsNext cs n c → is ≡ is_identifier_part c → is ≡ false → m ≡ n + 1 → after ≡ before → before ++ kept_parts dropped (drop n cs) ≡ all → after ++ kept_parts (not is) (drop m cs) ≡ all
unfolding kept_by
part_dropped dropped cs before after all n m c is t part fails next e done =
    ap (λ k. after ++ kept_parts (not is) (drop k cs)) next
    ∙ ap (λ b. after ++ kept_parts (not b) (drop (n + 1) cs)) fails
    ∙ ap (λ x. x ++ kept_parts true (drop (n + 1) cs)) e
    ∙ ap (λ x. before ++ x) (sym (kept_parts_at dropped cs n c t ∙ ap (λ b. kept_by b dropped c (drop (n + 1) cs)) (sym part ∙ fails)))
    ∙ done

pub all_kept : (dropped : Bool) (cs before all : List ℕ) (n : ℕ) → n ≡ length cs → before ++ kept_parts dropped (drop n cs) ≡ all → before ≡ all
all_kept dropped cs before all n e done =
    sym (append-nil before) ∙ ap (λ x. before ++ x) (sym (at_drop_all (kept_parts dropped) cs n (omega arith))) ∙ done

-- ---- the first character, and a text of which nothing is kept
abbrev from_first : Bool → ℕ → List ℕ → List ℕ
from_first starts first rest = cond starts (first ∷ kept_parts false rest) (kept_parts true rest)

pub first_kept : (old after new cs rest : List ℕ) (first : ℕ) → cs ≡ first ∷ rest → true ≡ is_identifier_start first → after ≡ old ++ first ∷ [] → new ≡ after ++ kept_parts false rest → new ≡ old ++ kept_characters cs
first_kept old after new cs rest first e is pushed done =
    done ∙ ap (λ x. x ++ kept_parts false rest) pushed ∙ append_assoc old (first ∷ []) (kept_parts false rest)
    ∙ ap (λ b. old ++ from_first b first rest) is
    ∙ ap (λ x. old ++ kept_characters x) (sym e)

pub first_dropped : (old new cs rest : List ℕ) (first : ℕ) → cs ≡ first ∷ rest → false ≡ is_identifier_start first → new ≡ old ++ kept_parts true rest → new ≡ old ++ kept_characters cs
first_dropped old new cs rest first e is done =
    done ∙ ap (λ b. old ++ from_first b first rest) is ∙ ap (λ x. old ++ kept_characters x) (sym e)

pub none_kept : (old cs : List ℕ) → cs ≡ [] → old ≡ old ++ kept_characters cs
none_kept old cs e = sym (append-nil old) ∙ ap (λ x. old ++ kept_characters x) (sym e)

pub identifier_kept : (cs : List ℕ) → true ≡ is_identifier_name cs → cs ≡ identifier_of cs
identifier_kept cs is = ap (λ b. cond b cs (or_underscore (kept_characters cs))) is

some_kept : (kept : List ℕ) → 0 < length kept → or_underscore kept ≡ kept
some_kept [] some = absurd (omega arith)
some_kept (c ∷ cs) some = refl

pub identifier_made : (cs kept : List ℕ) → false ≡ is_identifier_name cs → kept ≡ kept_characters cs → 0 < length kept → kept ≡ identifier_of cs
identifier_made cs kept is e some =
    sym (some_kept kept some) ∙ ap or_underscore e ∙ ap (λ b. cond b cs (or_underscore (kept_characters cs))) is

pub underscore_made : (cs kept : List ℕ) → false ≡ is_identifier_name cs → kept ≡ kept_characters cs → kept ≡ [] → 95 ∷ [] ≡ identifier_of cs
underscore_made cs kept is e none =
    ap or_underscore (sym none ∙ e) ∙ ap (λ b. cond b cs (or_underscore (kept_characters cs))) is

-- ---- characters that fit
fitting_at : (room : ℕ) (cs : List ℕ) (n c : ℕ) → IsNext cs n c → fitting room (drop n cs) ≡ cond (leb (len_utf8 c) room) (c ∷ fitting (room - len_utf8 c) (drop (n + 1) cs)) []
fitting_at room cs n c t =
    at_drop_more (fitting room) cs n c t.0 ∙ ap (λ x. cond (leb (len_utf8 x) room) (x ∷ fitting (room - len_utf8 x) (drop (n + 1) cs)) []) (sym t.1)

fits : (size room : ℕ) → size ≤ room → leb size room ≡ true
fits size room h = grind (arith, nat_tests)

fits_not : (size room : ℕ) → room < size → leb size room ≡ false
fits_not size room h = grind (arith, nat_tests)

pub fitted : (cs before after all : List ℕ) (n m c taken now : ℕ) → IsNext cs n c → taken + len_utf8 c ≤ 20 → now ≡ taken + len_utf8 c → m ≡ n + 1 → after ≡ before ++ c ∷ [] → before ++ fitting (20 - taken) (drop n cs) ≡ all → after ++ fitting (20 - now) (drop m cs) ≡ all
fitted cs before after all n m c taken now t small size next e done =
    let room : 20 - now ≡ 20 - taken - len_utf8 c = omega arith in
    ap (λ k. after ++ fitting (20 - now) (drop k cs)) next
    ∙ ap (λ r. after ++ fitting r (drop (n + 1) cs)) room
    ∙ ap (λ x. x ++ fitting (20 - taken - len_utf8 c) (drop (n + 1) cs)) e
    ∙ append_assoc before (c ∷ []) (fitting (20 - taken - len_utf8 c) (drop (n + 1) cs))
    ∙ ap (λ x. before ++ x) (sym (fitting_at (20 - taken) cs n c t ∙ ap (λ b. cond b (c ∷ fitting (20 - taken - len_utf8 c) (drop (n + 1) cs)) []) (fits (len_utf8 c) (20 - taken) (omega arith))))
    ∙ done

pub fitted_no_more : (cs before all : List ℕ) (n c taken : ℕ) → IsNext cs n c → taken ≤ 20 → 20 < taken + len_utf8 c → before ++ fitting (20 - taken) (drop n cs) ≡ all → before ≡ all
fitted_no_more cs before all n c taken t within large done =
    sym (append-nil before)
    ∙ ap (λ x. before ++ x) (sym (fitting_at (20 - taken) cs n c t ∙ ap (λ b. cond b (c ∷ fitting (20 - taken - len_utf8 c) (drop (n + 1) cs)) []) (fits_not (len_utf8 c) (20 - taken) (omega arith))))
    ∙ done

pub all_fitted : (cs before all : List ℕ) (n room : ℕ) → n ≡ length cs → before ++ fitting room (drop n cs) ≡ all → before ≡ all
all_fitted cs before all n room e done =
    sym (append-nil before) ∙ ap (λ x. before ++ x) (sym (at_drop_all (fitting room) cs n (omega arith))) ∙ done

below : (a b : ℕ) → a < b → ltb a b ≡ true
below a b h = grind (arith, nat_tests)

below_not : (a b : ℕ) → b ≤ a → ltb a b ≡ false
below_not a b h = grind (arith, nat_tests)

pub joined_more : (old part : List ℕ) → 0 < length old → size old < 20 → joined old part ≡ old ++ (36 ∷ fitting (20 - (size old + 1)) part)
joined_more [] part some small = absurd (omega arith)
joined_more (c ∷ cs) part some small = ap (λ b. cond b ((c ∷ cs) ++ (36 ∷ fitting (20 - (size (c ∷ cs) + 1)) part)) (c ∷ cs)) (below (size (c ∷ cs)) 20 small)

pub joined_full : (old part : List ℕ) → 0 < length old → 20 ≤ size old → joined old part ≡ old
joined_full [] part some full = absurd (omega arith)
joined_full (c ∷ cs) part some full = ap (λ b. cond b ((c ∷ cs) ++ (36 ∷ fitting (20 - (size (c ∷ cs) + 1)) part)) (c ∷ cs)) (below_not (size (c ∷ cs)) 20 full)

pub finished_some : (cs : List ℕ) → 0 < length cs → identifier_of cs ≡ finished cs
finished_some [] some = absurd (omega arith)
finished_some (c ∷ cs) some = refl

pub joined_push : (name : List ℕ) (parts : List (List ℕ)) (part : List ℕ) → fold joined name (map chars (parts ++ part ∷ [])) ≡ joined (fold joined name (map chars parts)) (chars part)
joined_push name [] part = refl
joined_push name (first ∷ parts) part = joined_push (joined name (chars first)) parts part
