-- The raw value of a template, a line at a time.
use Rattle.std.proofs.Common.{◌≡◌, ◌≢◌, refl, Bool, true, false, not, if◌then◌else◌, [], ◌∷◌, ◌++◌, ap, sym, ◌∙◌, append_assoc}
use Rattle.std.specs.Prelude.{nat_eq}
use Rattle.std.specs.List.{list_all}
use Rattle.std.proofs.lemmas.Bool.{and_parts, false≢true, eqb-true}
use Rattle.std.proofs.lemmas.List.{append-nil}
use Rattle.js_term.specs.Term.{Text}
use Rattle.js_syntax.specs.Lexical.{is_no_return, normal_lines, behind_cr}
use Rattle.js_literals.specs.Escapes.{line_feed}
use Rattle.js_literals.specs.Values.{IsSplit}

behind_is : (s : Text) → behind_cr s ≡ normal_lines (line_feed s)
behind_is [] = refl
behind_is (c ∷ s) = go (nat_eq c 10)
  where
    go : (b : Bool) → (if b then normal_lines s else normal_lines (c ∷ s)) ≡ normal_lines (if b then s else c ∷ s)
    go true = refl
    go false = refl

same_lines : (x rest : Text) → list_all is_no_return x ≡ true → normal_lines (x ++ rest) ≡ x ++ normal_lines rest
same_lines [] rest e = refl
same_lines (c ∷ x) rest e = go (nat_eq c 13) (and_parts (is_no_return c) _ e) (same_lines x rest)
  where
    go : (b : Bool) → (not b ≡ true) × (list_all is_no_return x ≡ true) → (list_all is_no_return x ≡ true → normal_lines (x ++ rest) ≡ x ++ normal_lines rest) → (if b then 10 ∷ behind_cr (x ++ rest) else c ∷ normal_lines (x ++ rest)) ≡ c ∷ (x ++ normal_lines rest)
    go true h f = absurd (false≢true h.0)
    go false h f = ap (λ z. c ∷ z) (f h.1)

pub plain_lines : (x : Text) → list_all is_no_return x ≡ true → x ≡ normal_lines x
plain_lines x e = sym (ap normal_lines (sym (append-nil x)) ∙ same_lines x [] e ∙ append-nil x)

-- what is done of the raw value, and what is left of the characters
abbrev pub Normal : Text → Text → Text → Type 0
Normal whole done text = normal_lines whole ≡ done ++ normal_lines text

pub line_done : (whole done text line behind after : Text) → Normal whole done text → IsSplit 13 text line behind → after ≡ (done ++ line) ++ 10 ∷ [] → Normal whole after (line_feed behind)
line_done whole done text line behind after n s a =
    n ∙ ap (λ z. done ++ normal_lines z) s.is ∙ ap (λ z. done ++ z) (same_lines line (13 ∷ behind) s.others ∙ ap (λ z. line ++ 10 ∷ z) (behind_is behind))
    ∙ sym (append_assoc done line (10 ∷ normal_lines (line_feed behind)))
    ∙ sym (append_assoc (done ++ line) (10 ∷ []) (normal_lines (line_feed behind)))
    ∙ ap (λ z. z ++ normal_lines (line_feed behind)) (sym a)

pub lines_done : (whole done text after : Text) → Normal whole done text → list_all is_no_return text ≡ true → after ≡ done ++ text → after ≡ normal_lines whole
lines_done whole done text after n e a = a ∙ ap (λ z. done ++ z) (plain_lines text e) ∙ sym n

pub no_feed : (text : Text) → ((rest : Text) → text ≢ 10 ∷ rest) → text ≡ line_feed text
no_feed [] h = refl
no_feed (c ∷ s) h = go (nat_eq c 10) refl
  where
    go : (b : Bool) → nat_eq c 10 ≡ b → c ∷ s ≡ (if b then s else c ∷ s)
    go true e = absurd (h s (ap (λ z. z ∷ s) (eqb-true c 10 e)))
    go false e = refl
