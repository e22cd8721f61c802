-- What each answer of a reading meets.
use Rattle.std.proofs.Common.{◌≡◌, Bool, true, false, not, ◌||◌, if◌then◌else◌, [], ◌∷◌, Option, Some, None, refl, sym, subst, ◌∙◌, ap, codes}
use Rattle.std.specs.Str.{IsUtf8}
use Rattle.std.proofs.lemmas.Bool.{false≢true, and_parts}
use Rattle.js_term.specs.Term.{Text}
use Rattle.js_term.specs.Lexeme.{is_reserved}
use Rattle.js_syntax.specs.Tokens.{Lexeme, word, private_name, number, big_integer, string, no_substitution, template_head, sign, regexp, template_middle, template_tail, Front, Token, Word, Sign, SameLine, AtEnd}
use Rattle.js_syntax.specs.Edges.{Edge, is_sign_among}
use Rattle.js_syntax.specs.Spelling as spell
use Rattle.js_syntax.specs.Spelling.{Semicolon, DoEnd}
use Rattle.js_syntax.proofs.Fronts.{same_text}
use Rattle.js_tokens.specs.Gaps.{gap, is_same_line}
use Rattle.js_tokens.specs.Next.{Cut, lexeme, after, next, lexeme_in, rest_in}
use Rattle.js_tokens.proofs.TokenLaws.{token_found}
use Rattle.js_tokens.proofs.GapLaws.{front_there, same_line_found, at_end_found}
use Rattle.js_reading.specs.Reading.{Reading, ◌>>=◌, is_sign, is_word, sees, sees_word, same_line, at_end, expect, expect_word, name_by, name, binding, string_by, string_token, goes_on_at, left_out, semicolon, do_end_by, do_end}
use Rattle.js_reading.proofs.Utf8.{next_utf8}

-- what is read meets P, and UTF-8 is left
pub record Each {A : Type 0} (P : A → Text → Type 0) (r : Reading A) : Type 0 where
  pub holds : (x : A) (b : Text) → r ≡ Some (x, b) → P x b
  pub utf8 : (x : A) (b : Text) → r ≡ Some (x, b) → IsUtf8 b

pub each_none : {A : Type 0} {P : A → Text → Type 0} → Each P None
each_none = record { holds = λ x b h. absurd (cc); utf8 = λ x b h. absurd (cc) }

pub each_some : {A : Type 0} {P : A → Text → Type 0} (x : A) (b : Text) → IsUtf8 b → P x b → Each P (Some (x, b))
each_some {A = A} {P = P} x b u h = record {
  holds = λ y c e. let pair : ◌≡◌ {A = A × Text} (x, b) (y, c) = cc in subst (λ (p : A × Text). P p.0 p.1) pair h;
  utf8 = λ y c e. let pair : ◌≡◌ {A = A × Text} (x, b) (y, c) = cc in subst (λ (p : A × Text). IsUtf8 p.1) pair u;
}

pub each_bind : {A B : Type 0} {P : A → Text → Type 0} {Q : B → Text → Type 0} {r : Reading A} (f : A → Text → Reading B) →
    Each P r → ((x : A) (b : Text) → IsUtf8 b → P x b → Each Q (f x b)) → Each Q (r >>= f)
each_bind {r = None} f each rest = each_none
each_bind {r = Some p} f each rest = rest p.0 p.1 (each.utf8 p.0 p.1 refl) (each.holds p.0 p.1 refl)

pub each_weaker : {A : Type 0} {P Q : A → Text → Type 0} {r : Reading A} → Each P r → ((x : A) (b : Text) → P x b → Q x b) → Each Q r
each_weaker each f = record { holds = λ x b h. f x b (each.holds x b h); utf8 = λ x b h. each.utf8 x b h }

pub each_if : {A : Type 0} {P : A → Text → Type 0} (b : Bool) (x y : Reading A) → (b ≡ true → Each P x) → (b ≡ false → Each P y) → Each P (if b then x else y)
each_if true x y h h' = h refl
each_if false x y h h' = h' refl

-- ---- truths

pub not_true : (b : Bool) → not b ≡ true → b ≡ false
not_true true h = absurd (cc)
not_true false h = refl

pub not_false : (b : Bool) → not b ≡ false → b ≡ true
not_false true h = refl
not_false false h = absurd (cc)

pub or_cases : {P : Type 0} (b c : Bool) → (b || c) ≡ true → (b ≡ true → P) → (c ≡ true → P) → P
or_cases true c h f g = f refl
or_cases false c h f g = g h

pub or_both : (b c : Bool) → (b || c) ≡ false → (b ≡ false) × (c ≡ false)
or_both true c h = absurd (cc)
or_both false c h = (refl, h)

-- ---- tokens

-- the token at the front, and what it leaves
pub record There (a : Text) (l : Lexeme) : Type 0 where
  pub token : Token a l (after a)
  pub utf8 : IsUtf8 (after a)

pub there : (a : Text) → IsUtf8 a → (l : Lexeme) → lexeme a ≡ Some l → There a l
unfolding lexeme after
there a u l e = record { token = go (next a) refl e; utf8 = left (next a) refl }
  where
    go : (c : Cut) → next a ≡ c → lexeme_in c ≡ Some l → Token a l (rest_in a c)
    go None is e = absurd (cc)
    go (Some p) is e = let same : p.0 ≡ l = cc in subst (λ (k : Lexeme). Token a k p.1) same (token_found a u p.0 p.1 is)

    left : (c : Cut) → next a ≡ c → IsUtf8 (rest_in a c)
    left None is = u
    left (Some p) is = next_utf8 a u p.0 p.1 is

pub sign_is : (s : Text) (o : Option Lexeme) → is_sign s o ≡ true → o ≡ Some (sign s)
sign_is s None e = absurd (cc)
sign_is s (Some (sign t)) e = ap (λ (z : Text). Some (sign z)) (same_text t s e)
sign_is s (Some (word x)) e = absurd (cc)
sign_is s (Some (private_name x)) e = absurd (cc)
sign_is s (Some (number x)) e = absurd (cc)
sign_is s (Some (big_integer x)) e = absurd (cc)
sign_is s (Some (string x v)) e = absurd (cc)
sign_is s (Some (regexp x v)) e = absurd (cc)
sign_is s (Some (no_substitution x)) e = absurd (cc)
sign_is s (Some (template_head x)) e = absurd (cc)
sign_is s (Some (template_middle x)) e = absurd (cc)
sign_is s (Some (template_tail x)) e = absurd (cc)

pub word_is : (x : Text) (o : Option Lexeme) → is_word x o ≡ true → o ≡ Some (word x)
word_is x None e = absurd (cc)
word_is x (Some (word y)) e = ap (λ (z : Text). Some (word z)) (same_text y x e)
word_is x (Some (sign y)) e = absurd (cc)
word_is x (Some (private_name y)) e = absurd (cc)
word_is x (Some (number y)) e = absurd (cc)
word_is x (Some (big_integer y)) e = absurd (cc)
word_is x (Some (string y v)) e = absurd (cc)
word_is x (Some (regexp y v)) e = absurd (cc)
word_is x (Some (no_substitution y)) e = absurd (cc)
word_is x (Some (template_head y)) e = absurd (cc)
word_is x (Some (template_middle y)) e = absurd (cc)
word_is x (Some (template_tail y)) e = absurd (cc)

-- what is said of the token at the front, and not of this one
pub no_sign_by : (p : Option Lexeme → Bool) (s a : Text) → p (lexeme a) ≡ true → p (Some (sign s)) ≡ false → sees s a ≡ false
unfolding sees
no_sign_by p s a h other = go (is_sign s (lexeme a)) refl
  where
    go : (b : Bool) → is_sign s (lexeme a) ≡ b → is_sign s (lexeme a) ≡ false
    go false e = e
    go true e = absurd (false≢true (sym other ∙ sym (ap p (sign_is s (lexeme a) e)) ∙ h))

pub no_word_by : (p : Option Lexeme → Bool) (x a : Text) → p (lexeme a) ≡ true → p (Some (word x)) ≡ false → sees_word x a ≡ false
unfolding sees_word
no_word_by p x a h other = go (is_word x (lexeme a)) refl
  where
    go : (b : Bool) → is_word x (lexeme a) ≡ b → is_word x (lexeme a) ≡ false
    go false e = e
    go true e = absurd (false≢true (sym other ∙ sym (ap p (word_is x (lexeme a) e)) ∙ h))

pub seen : (s a : Text) → IsUtf8 a → sees s a ≡ true → There a (sign s)
unfolding sees
seen s a u e = there a u (sign s) (sign_is s (lexeme a) e)

pub seen_word : (x a : Text) → IsUtf8 a → sees_word x a ≡ true → There a (word x)
unfolding sees_word
seen_word x a u e = there a u (word x) (word_is x (lexeme a) e)

pub on_same_line : (a : Text) → same_line a ≡ true → SameLine a
unfolding same_line
on_same_line a e = same_line_found a e

pub is_end : (a : Text) → at_end a ≡ true → AtEnd a
unfolding at_end
is_end a e = at_end_found a e

pub expect_each : (s a : Text) → IsUtf8 a → Each (λ (_ : Unit {0}) b. Sign s a b) (expect s a)
unfolding expect
expect_each s a u = each_if (sees s a) _ _ (λ is. let t = seen s a u is in each_some tt (after a) t.utf8 t.token) (λ _. each_none)

pub expect_word_each : (x a : Text) → IsUtf8 a → Each (λ (_ : Unit {0}) b. Word x a b) (expect_word x a)
unfolding expect_word
expect_word_each x a u = each_if (sees_word x a) _ _ (λ is. let t = seen_word x a u is in each_some tt (after a) t.utf8 t.token) (λ _. each_none)

pub name_each : (a : Text) → IsUtf8 a → Each (λ x b. Word x a b) (name a)
unfolding name
name_each a u = go (lexeme a) refl
  where
    go : (o : Option Lexeme) → lexeme a ≡ o → Each (λ x b. Word x a b) (name_by o (after a))
    go (Some (word x)) is = let t = there a u (word x) is in each_some x (after a) t.utf8 t.token
    go None is = each_none
    go (Some (sign y)) is = each_none
    go (Some (private_name y)) is = each_none
    go (Some (number y)) is = each_none
    go (Some (big_integer y)) is = each_none
    go (Some (string y v)) is = each_none
    go (Some (regexp y v)) is = each_none
    go (Some (no_substitution y)) is = each_none
    go (Some (template_head y)) is = each_none
    go (Some (template_middle y)) is = each_none
    go (Some (template_tail y)) is = each_none

pub binding_each : (a : Text) → IsUtf8 a → Each (λ x b. (is_reserved x ≡ false) × Word x a b) (binding a)
unfolding binding
binding_each a u = each_bind _ (name_each a u) (λ x b v tok. each_if (is_reserved x) _ _ (λ _. each_none) (λ free. each_some x b v (free, tok)))

pub string_each : (a : Text) → IsUtf8 a → Each (λ x b. Token a (string x.0 x.1) b) (string_token a)
unfolding string_token
string_each a u = go (lexeme a) refl
  where
    go : (o : Option Lexeme) → lexeme a ≡ o → Each (λ x b. Token a (string x.0 x.1) b) (string_by o (after a))
    go (Some (string raw v)) is = let t = there a u (string raw v) is in each_some (raw, v) (after a) t.utf8 t.token
    go None is = each_none
    go (Some (word y)) is = each_none
    go (Some (sign y)) is = each_none
    go (Some (private_name y)) is = each_none
    go (Some (number y)) is = each_none
    go (Some (big_integer y)) is = each_none
    go (Some (regexp y v)) is = each_none
    go (Some (no_substitution y)) is = each_none
    go (Some (template_head y)) is = each_none
    go (Some (template_middle y)) is = each_none
    go (Some (template_tail y)) is = each_none

-- ---- the semicolon

-- a token that is not this sign
pub not_sign : (s : Text) (l : Lexeme) → is_sign s (Some l) ≡ false → is_sign_among (s ∷ []) l ≡ false
not_sign s (sign t) e = rw e refl
not_sign s (word x) e = refl
not_sign s (private_name x) e = refl
not_sign s (number x) e = refl
not_sign s (big_integer x) e = refl
not_sign s (string x v) e = refl
not_sign s (regexp x v) e = refl
not_sign s (no_substitution x) e = refl
not_sign s (template_head x) e = refl
not_sign s (template_middle x) e = refl
not_sign s (template_tail x) e = refl

-- a line end stands in front of the token that is there
broken : {a b : Text} {l : Lexeme} (t : Token a l b) → same_line a ≡ false → t.line ≡ true
unfolding same_line
broken {a} t e = go t.line refl
  where
    go : (k : Bool) → t.line ≡ k → t.line ≡ true
    go true is = is
    go false is = absurd (let f : gap false a ≡ Some (false, t.middle) = front_there (subst (λ (k : Bool). Front k a t.middle) is t.front) in let yes' = ap is_same_line f in cc)

behind_line : (e : Edge) (a : Text) → IsUtf8 a → sees (codes ";") a ≡ false → same_line a ≡ false → goes_on_at e (lexeme a) ≡ false → Semicolon e a a
unfolding sees
behind_line e a u other line stops = go (lexeme a) refl other stops
  where
    go : (o : Option Lexeme) → lexeme a ≡ o → is_sign (codes ";") o ≡ false → goes_on_at e o ≡ false → Semicolon e a a
    go None is other stops = absurd (cc)
    go (Some l) is other stops =
        let t = there a u l is in
        let tok = t.token in
        spell.behind_line (subst (λ (k : Bool). Front k a tok.middle) (broken tok line) tok.front) tok.lexed (not_sign (codes ";") l other) stops

pub semicolon_each : (e : Edge) (a : Text) → IsUtf8 a → Each (λ (_ : Unit {0}) b. Semicolon e a b) (semicolon e a)
unfolding semicolon left_out
semicolon_each e a u =
    each_if (sees (codes ";") a) _ _ (λ is. let t = seen (codes ";") a u is in each_some tt (after a) t.utf8 (spell.written t.token)) (λ other.
    each_if _ _ _
    (λ h. each_some tt a u (or_cases (sees (codes "}") a || at_end a) _ h
    (λ h. or_cases (sees (codes "}") a) (at_end a) h (λ is. let t = seen (codes "}") a u is in spell.before_brace t.token) (λ is. spell.at_end (is_end a is)))
    (λ h. let (line, stops) = and_parts (not (same_line a)) (not (goes_on_at e (lexeme a))) h in behind_line e a u other (not_true _ line) (not_true _ stops))))
    (λ _. each_none))

pub do_end_each : (a : Text) → IsUtf8 a → Each (λ (_ : Unit {0}) b. DoEnd a b) (do_end a)
unfolding do_end sees
do_end_each a u =
    each_if (is_sign (codes ";") (lexeme a)) _ _ (λ is. let t = there a u (sign (codes ";")) (sign_is (codes ";") (lexeme a) is) in each_some tt (after a) t.utf8 (spell.do_written t.token)) (λ other. go (lexeme a) refl other)
  where
    go : (o : Option Lexeme) → lexeme a ≡ o → is_sign (codes ";") o ≡ false → Each (λ (_ : Unit {0}) b. DoEnd a b) (do_end_by o (at_end a) a)
    go None is other = each_if (at_end a) _ _ (λ h. each_some tt a u (spell.do_at_end (is_end a h))) (λ _. each_none)
    go (Some l) is other = let t = there a u l is in each_some tt a u (spell.do_left_out t.token (not_sign (codes ";") l other))
