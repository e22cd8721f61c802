-- The function of the name at the front is the relation of the grammar.
use Rattle.std.proofs.Common.{◌≡◌, refl, ℕ, ◌≤◌, Bool, true, false, ◌&&◌, ◌||◌, if◌then◌else◌, List, [], ◌∷◌, ◌++◌, length, take, drop, sym, ap, subst, ◌∙◌, arith}
use Rattle.std.specs.List.{list_all}
use Rattle.std.specs.Str.{chars, IsUtf8, is_utf8}
use Rattle.std.proofs.lemmas.Bool.{and_parts, false≢true}
use Rattle.std.proofs.lemmas.List.{length-append}
use Rattle.std.proofs.lemmas.Str.{chars-encodes, encodes-append, IsUtf8-from_is_utf8, is_utf8-from_IsUtf8, encodes-chars, scalars-chars, chars-append, IsCharBoundary-from_take, IsUtf8-drop}
use Rattle.std.proofs.Math.Seq.{take-append_seam, drop-append_seam}
use Rattle.std.proofs.lemmas.Str.{chars_past_char, IsCharBoundary-start, IsCharBoundary-after_ascii, chars-nil}
use Rattle.std.specs.Str.{IsCharBoundary}
use Rattle.std.proofs.lemmas.List.Sums.{prefix_len-le-length, prefix_len_passes}
use Rattle.js_syntax.proofs.Unicode.{chars_ascii, start-ascii}
use Rattle.std.proofs.lemmas.Bool.{ltb-true, lt-ltb}
use Rattle.std.proofs.lemmas.Bool.Decides.{nat_tests}
use Rattle.std.proofs.Common.{zero, suc, ◌+◌, ◌<◌, get_or, add-one}
use Rattle.std.specs.List.{prefix_len}
use Rattle.js_term.specs.Lexeme.{is_part, is_start}
use lib.Utf8.{scalars, encodes, encode}
use Rattle.std.specs.Prelude.{nat_eq, nat_lt}
use Rattle.unicode_ident.specs.Ident.{is_xid_start, is_xid_continue}
use Rattle.unicode_ident.proofs.IdentLemmas.{is_xid_start-is_xid_continue}
use Rattle.js_term.specs.Term.{Text}
use Rattle.js_chars.specs.Names.{is_identifier_start, is_identifier_part, is_identifier_name}
use Rattle.js_syntax.specs.Lexical.{first_passes, is_name, begins_part}
use Rattle.js_syntax.proofs.Unicode.{names_agree}
use Rattle.js_tokens.specs.Names.{parts, behind_parts, name_run, behind_name, begins_name}

-- ---- texts in UTF-8

pub behind_utf8 : (x rest : Text) → IsUtf8 x → IsUtf8 (x ++ rest) → IsUtf8 rest
behind_utf8 x rest u v =
    let front : take (length x) (x ++ rest) ≡ x = take-append_seam x rest in
    let within : length x ≤ length (x ++ rest) = simp length-append (omega arith) in
    let cut = IsCharBoundary-from_take (x ++ rest) (length x) v within (subst IsUtf8 (sym front) u) in
    subst IsUtf8 (drop-append_seam x rest) (IsUtf8-drop (x ++ rest) (length x) v cut)

-- ---- lists of characters

parts_whole : (cs : List ℕ) → parts cs ++ behind_parts cs ≡ cs
parts_whole [] = refl
parts_whole (c ∷ cs) = go (is_identifier_part c) (parts_whole cs)
  where
    go : (b : Bool) → parts cs ++ behind_parts cs ≡ cs → (if b then c ∷ parts cs else []) ++ (if b then behind_parts cs else c ∷ cs) ≡ c ∷ cs
    go true e = ap (λ z. c ∷ z) e
    go false e = refl

parts_pass : (cs : List ℕ) → list_all is_identifier_part (parts cs) ≡ true
parts_pass [] = refl
parts_pass (c ∷ cs) = go (is_identifier_part c) refl (parts_pass cs)
  where
    go : (b : Bool) → is_identifier_part c ≡ b → list_all is_identifier_part (parts cs) ≡ true → list_all is_identifier_part (if b then c ∷ parts cs else []) ≡ true
    go true is e = rw is e
    go false is e = refl

behind_stops : (cs : List ℕ) → first_passes is_identifier_part (behind_parts cs) ≡ false
behind_stops [] = refl
behind_stops (c ∷ cs) = go (is_identifier_part c) refl (behind_stops cs)
  where
    go : (b : Bool) → is_identifier_part c ≡ b → first_passes is_identifier_part (behind_parts cs) ≡ false → first_passes is_identifier_part (if b then behind_parts cs else c ∷ cs) ≡ false
    go true is e = e
    go false is e = is

parts_of : (xs cs : List ℕ) → list_all is_identifier_part xs ≡ true → first_passes is_identifier_part cs ≡ false → (parts (xs ++ cs) ≡ xs) × (behind_parts (xs ++ cs) ≡ cs)
parts_of [] [] all stops = (refl, refl)
parts_of [] (c ∷ cs) all stops = (rw stops refl, rw stops refl)
parts_of (x ∷ xs) cs all stops =
    let both = and_parts (is_identifier_part x) (list_all is_identifier_part xs) all in
    let one = both.0 in
    let more = parts_of xs cs both.1 stops in
    (rw one (ap (λ z. x ∷ z) more.0), rw one more.1)

scalars_parts : (xs ys : List ℕ) → scalars (xs ++ ys) ≡ true → (scalars xs ≡ true) × (scalars ys ≡ true)
scalars_parts [] ys e = (refl, e)
scalars_parts (x ∷ xs) ys e =
    let both = and_parts _ (scalars (xs ++ ys)) e in
    let one = both.0 in
    let more = scalars_parts xs ys both.1 in
    (rw one more.0, more.1)

-- ---- what is found stands there

pub record IsName (x text rest : Text) : Type 0 where
  pub whole : text ≡ x ++ rest
  pub named : is_name x ≡ true
  pub stops : begins_part rest ≡ false

pub name_whole : (text : Text) → IsUtf8 text → text ≡ name_run text ++ behind_name text
unfolding name_run behind_name
name_whole text u = sym (encodes-chars text u) ∙ ap encodes (sym (parts_whole (chars text))) ∙ encodes-append (parts (chars text)) (behind_parts (chars text))

start_is_part : (c : ℕ) → is_identifier_start c ≡ true → is_identifier_part c ≡ true
start_is_part c e = go (is_xid_start c) (nat_eq c 0x24) (nat_eq c 0x5F) (is_xid_continue c) (nat_eq c 0x200C) (nat_eq c 0x200D) (is_xid_start-is_xid_continue c) e
  where
    go : (a p q d u v : Bool) → (a ≡ true → d ≡ true) → (a || p || q) ≡ true → (d || p || q || u || v) ≡ true
    go true p q d u v f e = let h = f refl in rw h refl
    go false true q true u v f e = refl
    go false true q false u v f e = refl
    go false false true true u v f e = refl
    go false false true false u v f e = refl
    go false false false d u v f e = absurd (false≢true e)

pub name_start : (x : Text) → begins_name x ≡ first_passes is_identifier_start (chars x)
name_start [] = sym (ap (first_passes is_identifier_start) chars-nil)
name_start (c ∷ cs) = go (nat_lt c 128) refl
  where
    go : (b : Bool) → nat_lt c 128 ≡ b → (if b then is_start c else first_passes is_identifier_start (chars (c ∷ cs))) ≡ first_passes is_identifier_start (chars (c ∷ cs))
    go true e = sym (ap (first_passes is_identifier_start) (chars_ascii c cs e) ∙ start-ascii c (ltb-true c 128 e))
    go false e = refl

pub name_found : (text : Text) → IsUtf8 text → begins_name text ≡ true → IsName (name_run text) text (behind_name text)
unfolding name_run behind_name
name_found text u begun =
    let cs = chars text in
    let halves = scalars_parts (parts cs) (behind_parts cs) (ap scalars (parts_whole cs) ∙ scalars-chars text u) in
    let front = chars-encodes (parts cs) halves.0 in
    let back = chars-encodes (behind_parts cs) halves.1 in
    let utf8 : IsUtf8 (encodes (parts cs)) = (parts cs, (halves.0, refl)) in
    record {
      whole = name_whole text u;
      named = names_agree.a_name (name_run text) ∙ ap (λ b. b && is_identifier_name (chars (name_run text))) (is_utf8-from_IsUtf8 (name_run text) utf8) ∙ ap is_identifier_name front ∙ name_of cs (sym (name_start text) ∙ begun);
      stops = names_agree.a_part (behind_name text) ∙ ap (first_passes is_identifier_part) back ∙ behind_stops cs;
    }
  where
    name_of : (cs : List ℕ) → first_passes is_identifier_start cs ≡ true → is_identifier_name (parts cs) ≡ true
    name_of [] e = absurd (false≢true e)
    name_of (c ∷ cs) e = let part = start_is_part c e in rw (part, e) (parts_pass cs)

-- ---- what stands there is found

pub name_there : (x rest : Text) → IsUtf8 (x ++ rest) → is_name x ≡ true → begins_part rest ≡ false → (begins_name (x ++ rest) ≡ true) × (name_run (x ++ rest) ≡ x) × (behind_name (x ++ rest) ≡ rest)
unfolding name_run behind_name
name_there x rest u named stops =
    let both = and_parts (is_utf8 x) (is_identifier_name (chars x)) (sym (names_agree.a_name x) ∙ named) in
    let utf8 = IsUtf8-from_is_utf8 x both.0 in
    let more = behind_utf8 x rest utf8 u in
    let cs = chars-append x rest utf8 in
    let split = parts_of (chars x) (chars rest) (all_parts (chars x) both.1) (sym (names_agree.a_part rest) ∙ stops) in
    (name_start (x ++ rest) ∙ ap (first_passes is_identifier_start) cs ∙ first_of (chars x) (chars rest) both.1, ap (λ z. encodes (parts z)) cs ∙ ap encodes split.0 ∙ encodes-chars x utf8, ap (λ z. encodes (behind_parts z)) cs ∙ ap encodes split.1 ∙ encodes-chars rest more)
  where
    all_parts : (cs : List ℕ) → is_identifier_name cs ≡ true → list_all is_identifier_part cs ≡ true
    all_parts [] e = absurd (false≢true e)
    all_parts (c ∷ cs) e = let both = and_parts (is_identifier_start c) (list_all is_identifier_part cs) e in let part = start_is_part c both.0 in rw part both.1

    first_of : (cs ds : List ℕ) → is_identifier_name cs ≡ true → first_passes is_identifier_start (cs ++ ds) ≡ true
    first_of [] ds e = absurd (false≢true e)
    first_of (c ∷ cs) ds e = (and_parts (is_identifier_start c) (list_all is_identifier_part cs) e).0

-- ---- for the code

pub append_cancel : (x y z : Text) → x ++ z ≡ y ++ z → x ≡ y
append_cancel x y z e =
    let long : length x ≡ length y = omega (arith, length-append x z, length-append y z, ap length e) in
    sym (take-append_seam x z) ∙ ap (λ n. take n (x ++ z)) long ∙ ap (take (length y)) e ∙ take-append_seam y z

pub name_is_split : (text x rest : Text) → IsUtf8 text → text ≡ x ++ rest → rest ≡ behind_name text → x ≡ name_run text
name_is_split text x rest u is e = append_cancel x (name_run text) rest (sym is ∙ name_whole text u ∙ ap (λ z. name_run text ++ z) (sym e))

-- what is behind a character of the name
pub behind_character : (text rest : Text) (c : ℕ) → IsUtf8 text → text ≡ encode c ++ rest → is_identifier_part c ≡ true → behind_name text ≡ behind_name rest
unfolding behind_name
behind_character text rest c u is part = ap (λ z. encodes (behind_parts z)) (chars_past_char text rest c u is) ∙ (rw part refl)

pub stops_character : (text rest : Text) (c : ℕ) → IsUtf8 text → text ≡ encode c ++ rest → is_identifier_part c ≡ false → text ≡ behind_name text
unfolding behind_name
stops_character text rest c u is other =
    let cs = chars_past_char text rest c u is in
    sym (ap (λ z. encodes (behind_parts z)) cs ∙ (rw other (ap encodes (sym cs))) ∙ encodes-chars text u)

part_below : (c : ℕ) → is_part c ≡ true → nat_lt c 128 ≡ true
part_below c e = grind (arith, nat_tests)

part_agrees : (c : ℕ) → nat_lt c 128 ≡ true → is_part c ≡ is_identifier_part c
part_agrees c e =
    let begun : begins_part (c ∷ []) ≡ is_part c = rw e refl in
    sym begun ∙ names_agree.a_part (c ∷ []) ∙ ap (first_passes is_identifier_part) (chars_ascii c [] e)

pub behind_byte : (c : ℕ) (cs : Text) → is_part c ≡ true → behind_name (c ∷ cs) ≡ behind_name cs
unfolding behind_name
behind_byte c cs e =
    let below = part_below c e in
    let part : is_identifier_part c ≡ true = sym (part_agrees c below) ∙ e in
    ap (λ z. encodes (behind_parts z)) (chars_ascii c cs below) ∙ (rw part refl)

-- and behind a run of ASCII
pub behind_ascii : (text : Text) → behind_name text ≡ behind_name (drop (prefix_len is_part text) text)
behind_ascii [] = refl
behind_ascii (c ∷ cs) = go (is_part c) refl (behind_ascii cs)
  where
    go : (b : Bool) → is_part c ≡ b → behind_name cs ≡ behind_name (drop (prefix_len is_part cs) cs) → behind_name (c ∷ cs) ≡ behind_name (drop (prefix_len is_part (c ∷ cs)) (c ∷ cs))
    go true is e = let one : 1 + prefix_len is_part cs ≡ suc (prefix_len is_part cs) = omega arith in behind_byte c cs is ∙ (rw (is, one) e)
    go false is e = rw is refl

-- which ends at a character
ascii_cut : (bs : Text) (n : ℕ) → prefix_len is_part bs ≡ n → IsUtf8 bs → IsCharBoundary bs n
ascii_cut bs zero e u = IsCharBoundary-start bs u
ascii_cut bs (suc k) e u = rw (← add-one) (IsCharBoundary-after_ascii bs k u (omega (arith, prefix_len-le-length is_part bs)) (ltb-true _ _ (part_below _ (prefix_len_passes is_part bs k 0 (omega arith)))))

pub ascii_boundary : (bs : Text) → IsUtf8 bs → IsCharBoundary bs (prefix_len is_part bs)
ascii_boundary bs u = ascii_cut bs (prefix_len is_part bs) refl u

-- where no character beyond ASCII follows, it is the name
pub stops_ascii : (text : Text) → IsUtf8 text → get_or text 0 0 < 128 → is_part (get_or text 0 0) ≡ false → behind_name text ≡ text
unfolding behind_name
stops_ascii [] u below other = ap (λ z. encodes (behind_parts z)) chars-nil
stops_ascii (c ∷ cs) u below other =
    let asc = lt-ltb c 128 below in
    let no : is_identifier_part c ≡ false = sym (part_agrees c asc) ∙ other in
    ap (λ z. encodes (behind_parts z)) (chars_ascii c cs asc) ∙ (rw no (ap encodes (sym (chars_ascii c cs asc)))) ∙ encodes-chars (c ∷ cs) u

-- at the end of the run
pub behind_run_stops : (bs : Text) → is_part (get_or (drop (prefix_len is_part bs) bs) 0 0) ≡ false
behind_run_stops [] = refl
behind_run_stops (c ∷ cs) = go (is_part c) refl (behind_run_stops cs)
  where
    go : (b : Bool) → is_part c ≡ b → is_part (get_or (drop (prefix_len is_part cs) cs) 0 0) ≡ false → is_part (get_or (drop (prefix_len is_part (c ∷ cs)) (c ∷ cs)) 0 0) ≡ false
    go true is e = let one : 1 + prefix_len is_part cs ≡ suc (prefix_len is_part cs) = omega arith in rw (is, one) e
    go false is e = rw (is, is) refl

pub run_ends : (text : Text) → IsUtf8 text → get_or (drop (prefix_len is_part text) text) 0 0 < 128 → drop (prefix_len is_part text) text ≡ behind_name text
run_ends text u below =
    let rest = drop (prefix_len is_part text) text in
    sym (stops_ascii rest (IsUtf8-drop text (prefix_len is_part text) u (ascii_boundary text u)) below (behind_run_stops text)) ∙ sym (behind_ascii text)

pub behind_end : (text : Text) → length text ≡ 0 → text ≡ behind_name text
unfolding behind_name
behind_end [] e = sym (ap (λ z. encodes (behind_parts z)) chars-nil)
behind_end (c ∷ cs) e = absurd (omega arith)

pub run_at_byte : (text rest : Text) → IsUtf8 text → rest ≡ drop (prefix_len is_part text) text → get_or rest 0 0 < 128 → rest ≡ behind_name text
run_at_byte text rest u is below = is ∙ run_ends text u (subst (λ z. get_or z 0 0 < 128) is below)

first_of_none : (rest : Text) → length rest < 1 → get_or rest 0 0 < 128
first_of_none [] h = omega arith
first_of_none (c ∷ cs) h = absurd (omega arith)

pub run_at_end : (text rest : Text) → IsUtf8 text → rest ≡ drop (prefix_len is_part text) text → length rest < 1 → rest ≡ behind_name text
run_at_end text rest u is none = run_at_byte text rest u is (first_of_none rest none)

pub behind_name_utf8 : (text : Text) → IsUtf8 text → IsUtf8 (behind_name text)
unfolding behind_name
behind_name_utf8 text u =
    let cs = chars text in
    let halves = scalars_parts (parts cs) (behind_parts cs) (ap scalars (parts_whole cs) ∙ scalars-chars text u) in
    (behind_parts cs, (halves.1, refl))

pub behind_name_stops : (text : Text) → IsUtf8 text → begins_part (behind_name text) ≡ false
unfolding behind_name
behind_name_stops text u =
    let cs = chars text in
    let halves = scalars_parts (parts cs) (behind_parts cs) (ap scalars (parts_whole cs) ∙ scalars-chars text u) in
    names_agree.a_part (encodes (behind_parts cs)) ∙ ap (first_passes is_identifier_part) (chars-encodes (behind_parts cs) halves.1) ∙ behind_stops cs

-- where no name goes on, nothing is passed
pub behind_name_none : (r : Text) → IsUtf8 r → begins_part r ≡ false → behind_name r ≡ r
unfolding behind_name
behind_name_none r u e = ap encodes (none (chars r) (sym (names_agree.a_part r) ∙ e)) ∙ encodes-chars r u
  where
    none : (cs : List ℕ) → first_passes is_identifier_part cs ≡ false → behind_parts cs ≡ cs
    none [] e = refl
    none (c ∷ cs) e = rw e refl
