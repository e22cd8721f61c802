-- What a small module has between quotes has the same value in the whole language.
use Rattle.std.proofs.Common.{◌≡◌, refl, ap, ◌∙◌, ℕ, ◌∷◌, Bool, true, false, nat_eq, if◌then◌else◌, Some, None, arith}
use Rattle.std.proofs.lemmas.Bool.{eqb-true}
use Rattle.std.proofs.lemmas.Bool.Decides.{nat_tests}
use Rattle.js_term.specs.Term.{Text}
use Rattle.js_term.specs.Lexeme.{Manner, Characters, no_more, plain, escape, is_plain, unescaped}
use Rattle.js_syntax.specs.Lexical.{decoded, escaped, with_byte}

plain_not_escape : (quote c : ℕ) → is_plain quote c ≡ true → nat_eq c 92 ≡ false
plain_not_escape quote c h = grind (arith, nat_tests)

decoded_plain : (quote c : ℕ) (s value : Text) → is_plain quote c ≡ true → decoded quote s ≡ Some value → decoded quote (c ∷ s) ≡ Some (c ∷ value)
decoded_plain quote c s value h d = go (nat_eq c 92) (is_plain quote c) (plain_not_escape quote c h) h
  where
    go : (b p : Bool) → b ≡ false → p ≡ true → (if b then escaped quote s else if p then with_byte c (decoded quote s) else None) ≡ Some (c ∷ value)
    go true p e f = absurd (cc)
    go false false e f = absurd (cc)
    go false true e f = ap (with_byte c) d

-- each of the four escapes
escaped_is : (quote e c : ℕ) (s : Text) → unescaped e ≡ Some c → escaped quote (e ∷ s) ≡ with_byte c (decoded quote s)
escaped_is quote e c s = go (nat_eq e 92) (nat_eq e 39) (nat_eq e 110) (nat_eq e 114) refl refl refl refl
  where
    at : (d v : ℕ) → nat_eq e d ≡ true → Some v ≡ Some c → escaped quote (d ∷ s) ≡ with_byte v (decoded quote s) → escaped quote (e ∷ s) ≡ with_byte c (decoded quote s)
    at d v same value there =
        let is : v ≡ c = cc in
        ap (λ (x : ℕ). escaped quote (x ∷ s)) (eqb-true e d same) ∙ there ∙ ap (λ (x : ℕ). with_byte x (decoded quote s)) is

    go : (p q r t : Bool) → nat_eq e 92 ≡ p → nat_eq e 39 ≡ q → nat_eq e 110 ≡ r → nat_eq e 114 ≡ t → (if p then Some 92 else if q then Some 39 else if r then Some 10 else if t then Some 13 else None) ≡ Some c → escaped quote (e ∷ s) ≡ with_byte c (decoded quote s)
    go true q r t ep eq er et h = at 92 92 ep h refl
    go false true r t ep eq er et h = at 39 39 eq h refl
    go false false true t ep eq er et h = at 110 10 er h refl
    go false false false true ep eq er et h = at 114 13 et h refl
    go false false false false ep eq er et h = absurd (cc)

pub characters_decoded : {m : Manner} {quote : ℕ} {value spelled : Text} → Characters m quote value spelled → decoded quote spelled ≡ Some value
characters_decoded no_more = refl
characters_decoded {quote} (plain {c} {value} {spelled} h cs) = decoded_plain quote c spelled value h (characters_decoded cs)
characters_decoded {quote} (escape {c} {e} {value} {spelled} w h cs) = escaped_is quote e c spelled h ∙ ap (with_byte c) (characters_decoded cs)
