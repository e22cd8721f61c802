-- A text may be cut behind an escape.
use Rattle.std.proofs.Common.{◌≡◌, refl, ℕ, ◌+◌, ◌*◌, ◌≤◌, ◌<◌, Bool, true, false, not, ◌&&◌, ◌||◌, if◌then◌else◌, [], ◌∷◌, ◌++◌, length, Option, Some, None, ap, sym, subst, ◌∙◌, append_assoc, arith}
use Rattle.std.specs.Prelude.{nat_eq, nat_lt}
use Rattle.std.specs.Str.{IsUtf8}
use Rattle.std.proofs.lemmas.List.{length-append}
use Rattle.std.proofs.lemmas.Bool.{ltb-true, eqb-true}
use Rattle.std.proofs.lemmas.Bool.Decides.{nat_tests}
use Rattle.js_term.specs.Term.{Text}
use Rattle.js_term.specs.Lexeme.{is_digit}
use Rattle.js_syntax.specs.Lexical.{is_ascii, is_hex, hex_value, hex_two, hex_four, hex_pair, is_lead_surrogate, is_trail_surrogate, joined_pair, single_escape, escape_value, no_digit, begins_any, line_ends}
use Rattle.js_lexical.specs.Cursors.{with_rest, two_digits, four_digits, braced_digits}
use Rattle.js_literals.specs.Escapes.{Reading, Unescaped, character, joined, surrogate_pair, paired, unicode, line_feed, separator, unescaped}
use Rattle.js_tokens.specs.Gaps.{long_ends}
use Rattle.js_tokens.specs.Lexemes.{IsCut}
use Rattle.js_tokens.proofs.Cuts.{ascii_cut}
use Rattle.js_tokens.proofs.Beginnings.{front_is, one_sub}
use Rattle.js_tokens.proofs.NameLaws.{behind_utf8}
use Rattle.js_tokens.proofs.TokenLaws.{end_utf8}

-- ---- a byte of ASCII stands in front of what is left

record IsBehind (text rest : Text) : Type 0 where
  front : Text
  last : ℕ
  is : text ≡ front ++ last ∷ rest
  ascii : last < 128

further : (c : ℕ) (text rest : Text) → IsBehind text rest → IsBehind (c ∷ text) rest
further c text rest h = record { front = c ∷ h.front; last = h.last; is = ap (λ z. c ∷ z) h.is; ascii = h.ascii }

at_once : (c : ℕ) (rest : Text) → c < 128 → IsBehind (c ∷ rest) rest
at_once c rest h = record { front = []; last = c; is = refl; ascii = h }

hex_ascii : (c : ℕ) → is_hex c ≡ true → c < 128
hex_ascii c h = grind (arith, nat_tests)

hex_two_last : (a b n : ℕ) → hex_two a b ≡ Some n → b < 128
hex_two_last a b n e = go (is_hex a) (is_hex b) refl e
  where
    go : (p q : Bool) → is_hex b ≡ q → (if p && q then Some (hex_value a * 16 + hex_value b) else None) ≡ Some n → b < 128
    go true true h e = hex_ascii b h
    go true false h e = absurd (cc)
    go false q h e = absurd (cc)

hex_four_last : (a b c d n : ℕ) → hex_four a b c d ≡ Some n → d < 128
hex_four_last a b c d n e = go (hex_two a b) (hex_two c d) refl e
  where
    go : (p q : Option ℕ) → hex_two c d ≡ q → hex_pair p q ≡ Some n → d < 128
    go (Some x) (Some y) h e = hex_two_last c d y h
    go (Some x) None h e = absurd (cc)
    go None (Some y) h e = absurd (cc)
    go None None h e = absurd (cc)

second : {A : Type 0} (a : A) (s : Text) (p : A × Text) → ◌≡◌ {A = Option (A × Text)} (Some (a, s)) (Some p) → s ≡ p.1
second {A} a s p e = let same : ◌≡◌ {A = A × Text} (a, s) p = cc in ap (λ (q : A × Text). q.1) same

two_behind : (s : Text) (p : ℕ × Text) → two_digits s ≡ Some p → IsBehind s p.1
two_behind [] p e = absurd (cc)
two_behind (a ∷ []) p e = absurd (cc)
two_behind (a ∷ b ∷ s) p e = go (hex_two a b) refl e
  where
    go : (h : Option ℕ) → hex_two a b ≡ h → with_rest h s ≡ Some p → IsBehind (a ∷ b ∷ s) p.1
    go None i e = absurd (cc)
    go (Some n) i e = subst (IsBehind (a ∷ b ∷ s)) (second n s p e) (further a _ s (at_once b s (hex_two_last a b n i)))

four_behind : (s : Text) (p : ℕ × Text) → four_digits s ≡ Some p → IsBehind s p.1
four_behind [] p e = absurd (cc)
four_behind (a ∷ []) p e = absurd (cc)
four_behind (a ∷ b ∷ []) p e = absurd (cc)
four_behind (a ∷ b ∷ c ∷ []) p e = absurd (cc)
four_behind (a ∷ b ∷ c ∷ d ∷ s) p e = go (hex_four a b c d) refl e
  where
    go : (h : Option ℕ) → hex_four a b c d ≡ h → with_rest h s ≡ Some p → IsBehind (a ∷ b ∷ c ∷ d ∷ s) p.1
    go None i e = absurd (cc)
    go (Some n) i e = subst (IsBehind (a ∷ b ∷ c ∷ d ∷ s)) (second n s p e) (further a _ s (further b _ s (further c _ s (at_once d s (hex_four_last a b c d n i)))))

joined_behind : (s : Text) (lead : ℕ) (p : ℕ × Text) → joined lead (four_digits s) ≡ Some p → IsBehind s p.1
joined_behind s lead p e = go (four_digits s) refl e
  where
    trail : (q : ℕ × Text) (b : Bool) → IsBehind s q.1 → ◌≡◌ {A = Reading} (if b then Some (joined_pair lead q.0, q.1) else None) (Some p) → IsBehind s p.1
    trail q true h e = subst (IsBehind s) (second (joined_pair lead q.0) q.1 p e) h
    trail q false h e = absurd (cc)

    go : (r : Reading) → four_digits s ≡ r → joined lead r ≡ Some p → IsBehind s p.1
    go None i e = absurd (cc)
    go (Some q) i e = trail q (is_trail_surrogate q.0) (four_behind s q i) e

pair_behind : (lead : ℕ) (s : Text) (p : ℕ × Text) → surrogate_pair lead s ≡ Some p → IsBehind s p.1
pair_behind lead [] p e = absurd (cc)
pair_behind lead (k ∷ []) p e = absurd (cc)
pair_behind lead (k ∷ u ∷ s) p e = go (nat_eq k 92 && nat_eq u 117) e
  where
    go : (b : Bool) → (if b then joined lead (four_digits s) else None) ≡ Some p → IsBehind (k ∷ u ∷ s) p.1
    go true e = further k _ _ (further u _ _ (joined_behind s lead p e))
    go false e = absurd (cc)

after : (text middle rest : Text) → IsBehind text middle → IsBehind middle rest → IsBehind text rest
after text middle rest h k = record {
  front = h.front ++ (h.last ∷ k.front);
  last = k.last;
  is = h.is ∙ ap (λ z. h.front ++ h.last ∷ z) k.is ∙ sym (append_assoc h.front (h.last ∷ k.front) (k.last ∷ rest));
  ascii = k.ascii;
}

paired_behind : (s : Text) (p : ℕ × Text) → paired (four_digits s) ≡ Some p → IsBehind s p.1
paired_behind s p e = go (four_digits s) refl e
  where
    lead : (q : ℕ × Text) (b : Bool) → IsBehind s q.1 → ◌≡◌ {A = Reading} (if b then surrogate_pair q.0 q.1 else Some (q.0, q.1)) (Some p) → IsBehind s p.1
    lead q true h e = after s q.1 p.1 h (pair_behind q.0 q.1 p e)
    lead q false h e = subst (IsBehind s) (second q.0 q.1 p e) h

    go : (r : Reading) → four_digits s ≡ r → paired r ≡ Some p → IsBehind s p.1
    go None i e = absurd (cc)
    go (Some q) i e = lead q (is_lead_surrogate q.0) (four_behind s q i) e

brace_behind : (some : Bool) (n : ℕ) (s : Text) (p : ℕ × Text) → braced_digits some n s ≡ Some p → IsBehind s p.1
brace_behind some n [] p e = absurd (cc)
brace_behind some n (c ∷ s) p e = go (nat_eq c 125) some (is_hex c && not (nat_lt 0x10FFFF (n * 16 + hex_value c))) refl e (brace_behind true (n * 16 + hex_value c) s p)
  where
    go : (ends some digit : Bool) → nat_eq c 125 ≡ ends → ◌≡◌ {A = Reading} (if ends then (if some then Some (n, s) else None) else if digit then braced_digits true (n * 16 + hex_value c) s else None) (Some p) → (braced_digits true (n * 16 + hex_value c) s ≡ Some p → IsBehind s p.1) → IsBehind (c ∷ s) p.1
    go true true digit i e more = let is = eqb-true c 125 i in subst (IsBehind (c ∷ s)) (second n s p e) (at_once c s (omega arith))
    go true false digit i e more = absurd (cc)
    go false some true i e more = further c s p.1 (more e)
    go false some false i e more = absurd (cc)

unicode_behind : (s : Text) (p : ℕ × Text) → unicode s ≡ Some p → IsBehind s p.1
unicode_behind [] p e = absurd (cc)
unicode_behind (a ∷ s) p e = go (nat_eq a 123) e
  where
    go : (b : Bool) → (if b then braced_digits false 0 s else paired (four_digits (a ∷ s))) ≡ Some p → IsBehind (a ∷ s) p.1
    go true e = further a s p.1 (brace_behind false 0 s p e)
    go false e = paired_behind (a ∷ s) p e

character_behind : (s : Text) (r : Reading) (p : Option ℕ × Text) → ((q : ℕ × Text) → r ≡ Some q → IsBehind s q.1) → character r ≡ Some p → IsBehind s p.1
character_behind s None p h e = absurd (cc)
character_behind s (Some q) p h e = go (is_lead_surrogate q.0 || (is_trail_surrogate q.0 || nat_lt 0x10FFFF q.0)) e
  where
    go : (b : Bool) → ◌≡◌ {A = Unescaped} (if b then None else Some (Some q.0, q.1)) (Some p) → IsBehind s p.1
    go true e = absurd (cc)
    go false e = subst (IsBehind s) (second {A = Option ℕ} (Some q.0) q.1 p e) (h q refl)

-- ---- the escapes

cases : {P : Type 0} (b : Bool) (x y : Unescaped) (p : Option ℕ × Text) → (if b then x else y) ≡ Some p → (b ≡ true → x ≡ Some p → P) → (b ≡ false → y ≡ Some p → P) → P
cases true x y p e f g = f refl e
cases false x y p e f g = g refl e

behind_cut : (text rest : Text) → IsUtf8 text → IsBehind text rest → IsCut text rest
behind_cut text rest u h = ascii_cut text h.front h.last rest u h.is h.ascii

feed_behind : (c : ℕ) (s : Text) → c < 128 → IsBehind (c ∷ s) (line_feed s)
feed_behind c [] h = at_once c [] h
feed_behind c (d ∷ s) h = go (nat_eq d 10) refl
  where
    go : (b : Bool) → nat_eq d 10 ≡ b → IsBehind (c ∷ d ∷ s) (if b then s else d ∷ s)
    go true i = let is = eqb-true d 10 i in further c _ s (at_once d s (omega arith))
    go false i = at_once c (d ∷ s) h

is_separator : (e : ℕ) (s : Text) → nat_eq e 10 ≡ false → nat_eq e 13 ≡ false → begins_any line_ends (e ∷ s) ≡ true → begins_any long_ends (e ∷ s) ≡ true
is_separator e s n o h =
    let feed : nat_eq 10 e ≡ false = grind (arith, nat_tests) in
    let return : nat_eq 13 e ≡ false = grind (arith, nat_tests) in
    rw feed at (rw return at h)

separator_cut : (e : ℕ) (s : Text) (p : Option ℕ × Text) → IsUtf8 (e ∷ s) → nat_eq e 10 ≡ false → nat_eq e 13 ≡ false → begins_any line_ends (e ∷ s) ≡ true → separator s ≡ Some p → IsCut (e ∷ s) p.1
separator_cut e [] p u n o h i = absurd (cc)
separator_cut e (a ∷ []) p u n o h i = absurd (cc)
separator_cut e (a ∷ b ∷ s) p u n o h i =
    let front = front_is long_ends (e ∷ a ∷ b ∷ []) s refl (is_separator e (a ∷ b ∷ s) n o h) in
    subst (IsCut (e ∷ a ∷ b ∷ s)) (second {A = Option ℕ} None s p i) (record { front = e ∷ a ∷ b ∷ []; is = refl; utf8 = behind_utf8 (e ∷ a ∷ b ∷ []) s (end_utf8 (e ∷ a ∷ b ∷ []) (one_sub long_ends line_ends (e ∷ a ∷ b ∷ []) refl front)) u })

pub escape_cut : (s : Text) (p : Option ℕ × Text) → IsUtf8 s → unescaped s ≡ Some p → IsCut s p.1
escape_cut [] p u e = absurd (cc)
escape_cut (c ∷ s) p u e =
    cases (nat_eq c 117) _ _ p e (λ h f. behind_cut _ _ u (further c s p.1 (character_behind s (unicode s) p (unicode_behind s) f))) (λ n0 e.
    cases (nat_eq c 120) _ _ p e (λ h f. behind_cut _ _ u (further c s p.1 (character_behind s (two_digits s) p (two_behind s) f))) (λ n1 e.
    cases (is_digit c) _ _ p e (λ h f. behind_cut _ _ u (zero c s p (nat_eq c 48 && no_digit s) (digit_ascii c h) f)) (λ n2 e.
    cases (nat_eq c 10) _ _ p e (λ h f. behind_cut _ _ u (subst (IsBehind (c ∷ s)) (second {A = Option ℕ} None s p f) (at_once c s (one_ascii c 10 h (omega arith))))) (λ n3 e.
    cases (nat_eq c 13) _ _ p e (λ h f. behind_cut _ _ u (subst (IsBehind (c ∷ s)) (second {A = Option ℕ} None (line_feed s) p f) (feed_behind c s (one_ascii c 13 h (omega arith))))) (λ n4 e.
    cases (begins_any line_ends (c ∷ s)) _ _ p e (λ h f. separator_cut c s p u n3 n4 h f) (λ n5 e.
    cases (is_ascii c) _ _ p e (λ h f. behind_cut _ _ u (subst (IsBehind (c ∷ s)) (second {A = Option ℕ} (Some (escape_value (single_escape c) c)) s p f) (at_once c s (ltb-true c 128 h))))
    (λ n6 e. subst (IsCut (c ∷ s)) (second {A = Option ℕ} None (c ∷ s) p e) (record { front = []; is = refl; utf8 = u }))))))))
  where
    digit_ascii : (c : ℕ) → is_digit c ≡ true → c < 128
    digit_ascii c h = grind (arith, nat_tests)

    one_ascii : (c d : ℕ) → nat_eq c d ≡ true → d < 128 → c < 128
    one_ascii c d h k = let is = eqb-true c d h in omega arith

    zero : (c : ℕ) (s : Text) (p : Option ℕ × Text) (b : Bool) → c < 128 → ◌≡◌ {A = Unescaped} (if b then Some (Some 0, s) else None) (Some p) → IsBehind (c ∷ s) p.1
    zero c s p true h e = subst (IsBehind (c ∷ s)) (second {A = Option ℕ} (Some 0) s p e) (at_once c s h)
    zero c s p false h e = absurd (cc)

pub cut_within : (text rest : Text) → IsCut text rest → length rest ≤ length text
cut_within text rest h = omega (arith, ap length h.is, length-append h.front rest)
