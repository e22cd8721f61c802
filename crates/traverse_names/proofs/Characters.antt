-- The characters of a text that grows by one character.
use Rattle.std.proofs.Common.{◌≡◌, ℕ, ◌<◌, ◌≢◌, ◌+◌, true, false, eqb, cond, get_or, suc, List, [], ◌∷◌, ◌++◌, length, drop, arith, refl, sym, ap, ◌∙◌, subst}
use Rattle.std.specs.Prelude.{codes}
use Rattle.std.specs.Char.{encode_utf8}
use Rattle.std.specs.Str.{IsUtf8, IsCharBoundary, chars, encode_utf8_all}
use Rattle.std.specs.List.{prefix_len}
use Rattle.std.proofs.lemmas.List.{nil_from_length, append-nil, take_at, drop_at, length-append}
use Rattle.std.proofs.lemmas.Str.{chars-append, chars_past_char, chars-nil, encodes-chars, IsUtf8-drop, IsUtf8-past_char, IsCharBoundary-from_take, encode_ascii, byte_from_char}
use Rattle.std.proofs.lemmas.Bool.Decides.{nat_tests}
use Rattle.traverse_names.specs.Identifier.{size, without_underscores}
use Rattle.traverse_names.specs.Uid.{underscores}

utf8_rest : (bs ds : List ℕ) → IsUtf8 bs → IsUtf8 (bs ++ ds) → IsUtf8 ds
utf8_rest bs ds front whole =
    let cut : IsCharBoundary (bs ++ ds) (length bs) = IsCharBoundary-from_take (bs ++ ds) (length bs) whole (omega (arith, length-append bs ds)) (subst IsUtf8 (sym (take_at bs ds (length bs) refl)) front) in
    subst IsUtf8 (drop_at bs ds (length bs) refl) (IsUtf8-drop (bs ++ ds) (length bs) whole cut)

chars-encode : (c : ℕ) → IsUtf8 (encode_utf8 c) → chars (encode_utf8 c) ≡ c ∷ []
chars-encode c u = chars_past_char (encode_utf8 c) [] c u (sym (append-nil (encode_utf8 c))) ∙ ap (λ cs. c ∷ cs) chars-nil

pub chars_push : (bs new : List ℕ) (c : ℕ) → IsUtf8 bs → IsUtf8 new → new ≡ bs ++ encode_utf8 c → chars new ≡ chars bs ++ c ∷ []
chars_push bs new c u v e =
    ap chars e ∙ chars-append bs (encode_utf8 c) u ∙ ap (λ x. chars bs ++ x) (chars-encode c (utf8_rest bs (encode_utf8 c) u (subst IsUtf8 e v)))

pub size-chars : (bs : List ℕ) → IsUtf8 bs → size (chars bs) ≡ length bs
size-chars bs u = ap length (encodes-chars bs u)

pub no_bytes : (bs : List ℕ) → IsUtf8 bs → chars bs ≡ [] → length bs ≡ 0
no_bytes bs u e = sym (size-chars bs u) ∙ ap size e

pub no_chars : (bs : List ℕ) → length bs ≡ 0 → chars bs ≡ []
no_chars [] e = chars-nil
no_chars (b ∷ bs) e = absurd (omega arith)

pub some_chars : (bs : List ℕ) → IsUtf8 bs → 0 < length bs → 0 < length (chars bs)
some_chars bs u some =
    let empty : length (chars bs) ≡ 0 → ⊥ = λ z. let none = no_bytes bs u (nil_from_length (chars bs) z) in omega arith in
    omega arith

pub chars-underscore : chars (95 ∷ []) ≡ 95 ∷ []
unfolding chars
chars-underscore = refl

pub chars-ref : chars (codes "ref") ≡ codes "ref"
unfolding chars
chars-ref = refl

-- ---- leading underscores, as bytes and as characters
skip_one : (cs : List ℕ) → without_underscores (95 ∷ cs) ≡ without_underscores cs
skip_one cs =
    let n = prefix_len (λ c. eqb c 95) cs in
    let more : 1 + n ≡ suc n = omega arith in
    ap (λ k. drop k (95 ∷ cs)) more

skip_none : (cs bs : List ℕ) → encode_utf8_all cs ≡ bs → get_or bs 0 0 ≢ 95 → without_underscores cs ≡ cs
skip_none [] bs e other = refl
skip_none (c ∷ cs) bs e other =
    elim (eqb c 95) as (λ b. eqb c 95 ≡ b → drop (cond b (1 + prefix_len (λ d. eqb d 95) cs) 0) (c ∷ cs) ≡ c ∷ cs) [
      | true ↦ λ t.
          let is : c ≡ 95 = grind (arith, nat_tests) in
          let byte : get_or bs 0 0 ≡ c = byte_from_char bs (encode_utf8_all cs) c (sym e) (omega arith) in
          absurd (other (byte ∙ is))
      | false ↦ λ t. refl
    ] refl

pub chars_behind : (bs : List ℕ) → IsUtf8 bs → chars (drop (underscores bs) bs) ≡ without_underscores (chars bs)
chars_behind [] u = chars-nil ∙ sym (ap without_underscores chars-nil)
chars_behind (b ∷ bs) u =
    elim (eqb b 95) as (λ v. eqb b 95 ≡ v → chars (drop (cond v (1 + underscores bs) 0) (b ∷ bs)) ≡ without_underscores (chars (b ∷ bs))) [
      | true ↦ λ t.
          let is : b ≡ 95 = grind (arith, nat_tests) in
          let front : b ∷ bs ≡ encode_utf8 95 ++ bs = ap (λ x. x ∷ bs) is ∙ sym (ap (λ x. x ++ bs) (encode_ascii 95 (omega arith))) in
          let more : 1 + underscores bs ≡ suc (underscores bs) = omega arith in
          ap (λ k. chars (drop k (b ∷ bs))) more ∙ chars_behind bs (IsUtf8-past_char (b ∷ bs) bs 95 u front)
          ∙ sym (ap without_underscores (chars_past_char (b ∷ bs) bs 95 u front) ∙ skip_one (chars bs))
      | false ↦ λ t.
          let other : b ≢ 95 = grind (arith, nat_tests) in
          sym (skip_none (chars (b ∷ bs)) (b ∷ bs) (encodes-chars (b ∷ bs) u) other)
    ] refl
