-- Tokens at the front of printed texts.
use Rattle.std.proofs.Common.{◌≡◌, refl, sym, ap, ℕ, [], ◌∷◌, ◌++◌, Bool, true, false, nat_eq, Some}
use Rattle.std.proofs.lemmas.Bool.{eqb-true}
use Rattle.js_term.specs.Term.{Text}
use Rattle.js_term.specs.Lexeme.{Token, Lexeme, word, number, string, sign, whole, is_name, is_number, is_string, is_mark, Characters, no_more, plain, escape, is_word, is_decimal, is_sign, is_plain, is_blank, not_next, goes_on, goes_on_number}
use Rattle.js_print.specs.Layout.{escaped, all_escaped, quoted}

pub word_token : (x rest : Text) → is_word x ≡ true → not_next goes_on rest ≡ true → Token whole (x ++ rest) (word x) rest
word_token x rest w n = record { gap = []; spelled = x; whole_is = refl; blank = refl; is_spelled = is_name w n }

pub number_token : (x rest : Text) → is_decimal x ≡ true → not_next goes_on_number rest ≡ true → Token whole (x ++ rest) (number x) rest
number_token x rest w n = record { gap = []; spelled = x; whole_is = refl; blank = refl; is_spelled = is_number w n }

pub sign_token : (c : ℕ) (rest : Text) → is_sign c ≡ true → Token whole (c ∷ rest) (sign c) rest
sign_token c rest w = record { gap = []; spelled = c ∷ []; whole_is = refl; blank = refl; is_spelled = is_mark w }

-- a blank or a line end before a token
pub behind_gap : (c : ℕ) → is_blank c ≡ true → {a b : Text} {l : Lexeme} → Token whole a l b → Token whole (c ∷ a) l b
behind_gap c h t = record { gap = c ∷ t.gap; spelled = t.spelled; whole_is = ap (λ s. c ∷ s) t.whole_is; blank = rw (h, t.blank) refl; is_spelled = t.is_spelled }

equal : (c d : ℕ) → nat_eq c d ≡ true → c ≡ d
equal c d e = eqb-true c d e

abbrev Spelled : Text → Text → Type 0
Spelled = Characters whole 39

one_more : (c : ℕ) (value spelled : Text) → Spelled value spelled → Spelled (c ∷ value) (escaped c ++ spelled)
one_more c value spelled r = by (nat_eq c 92) refl (nat_eq c 39) refl (nat_eq c 10) refl (nat_eq c 13) refl
  where
    by : (p : Bool) → nat_eq c 92 ≡ p → (q : Bool) → nat_eq c 39 ≡ q → (s : Bool) → nat_eq c 10 ≡ s → (t : Bool) → nat_eq c 13 ≡ t → Spelled (c ∷ value) (escaped c ++ spelled)
    by true e q f s g t h = rw e (escape {e = 92} refl (ap Some (sym (equal c 92 e))) r)
    by false e true f s g t h = rw (e, f) (escape {e = 39} refl (ap Some (sym (equal c 39 f))) r)
    by false e false f true g t h = rw (e, f, g) (escape {e = 110} refl (ap Some (sym (equal c 10 g))) r)
    by false e false f false g true h = rw (e, f, g, h) (escape {e = 114} refl (ap Some (sym (equal c 13 h))) r)
    by false e false f false g false h = let p : is_plain 39 c ≡ true = rw (e, f, g, h) refl in rw (e, f, g, h) (plain {c = c} p r)

pub characters : (value : Text) → Spelled value (all_escaped value)
characters [] = no_more
characters (c ∷ cs) = one_more c cs (all_escaped cs) (characters cs)

pub string_token : (value rest : Text) → Token whole (quoted value ++ rest) (string value) rest
string_token value rest = record { gap = []; spelled = 39 ∷ (all_escaped value ++ 39 ∷ []); whole_is = refl; blank = refl; is_spelled = is_string {quote = 39} refl (characters value) }
