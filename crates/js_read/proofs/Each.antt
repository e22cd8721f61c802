-- What each answer of a reading meets.
use Rattle.std.proofs.Common.{◌≡◌, ℕ, zero, suc, Bool, true, false, if◌then◌else◌, List, [], ◌∷◌, ◌++◌, length, Some, None, refl, subst, ◌∙◌, append_assoc}
use Rattle.js_term.specs.Term.{Text}
use Rattle.js_term.specs.Lexeme.{narrow, Lexeme, Token, comma}
use Rattle.js_lex.specs.Next.{sees, after}
use Rattle.js_lex.proofs.Laws.{seen}
use Rattle.js_read.specs.Read.{Reading, ◌>>=◌, expect, separated, separated_until}

pub record Each {A : Type 0} (P : A → Text → Type 0) (r : Reading A) : Type 0 where
  pub holds : (x : A) (b : Text) → r ≡ Some (x, b) → P x b

pub each_none : {A : Type 0} {P : A → Text → Type 0} → Each P None
each_none = record { holds = λ x b h. absurd (cc) }

pub each_some : {A : Type 0} {P : A → Text → Type 0} (x : A) (b : Text) → P x b → Each P (Some (x, b))
each_some {A = A} {P = P} x b h = record { holds = λ y c e. let pair : ◌≡◌ {A = A × Text} (x, b) (y, c) = cc in subst (λ (p : A × Text). P p.0 p.1) pair h }

pub each_bind : {A B : Type 0} {P : A → Text → Type 0} {Q : B → Text → Type 0} {r : Reading A} (f : A → Text → Reading B) →
    Each P r → ((x : A) (b : Text) → P x b → Each Q (f x b)) → Each Q (r >>= f)
each_bind {r = None} f each rest = each_none
each_bind {r = Some p} f each rest = rest p.0 p.1 (each.holds p.0 p.1 refl)

pub each_weaker : {A : Type 0} {P Q : A → Text → Type 0} {r : Reading A} → Each P r → ((x : A) (b : Text) → P x b → Q x b) → Each Q r
each_weaker each f = record { holds = λ x b h. f x b (each.holds x b h) }

pub each_if : {A : Type 0} {P : A → Text → Type 0} (b : Bool) (x y : Reading A) → (b ≡ true → Each P x) → (b ≡ false → Each P y) → Each P (if b then x else y)
each_if true x y h h' = h refl
each_if false x y h h' = h' refl

-- a token that is expected stands there
pub expect_each : (l : Lexeme) (a : Text) → Each (λ (_ : Unit {0}) b. Token narrow a l b) (expect l a)
unfolding expect
expect_each l a = each_if (sees l a) _ _ (λ is. each_some tt (after a) (seen l a is)) (λ _. each_none)

-- one or more, with commas between
pub data Chain {A : Type 0} (P : A → Text → Text → Type 0) : List A → Text → Text → Type 0 where
  one : {x : A} {a b : Text} → P x a b → Chain P (x ∷ []) a b
  next : {x y : A} {xs : List A} {a b c d : Text} → P x a b → Token narrow b comma c → Chain P (y ∷ xs) c d → Chain P (x ∷ y ∷ xs) a d

-- or none
pub data Chains {A : Type 0} (P : A → Text → Text → Type 0) : List A → Text → Text → Type 0 where
  nothing : {a : Text} → Chains P [] a a
  some : {xs : List A} {a b : Text} → Chain P xs a b → Chains P xs a b

pub record GivesChain {A : Type 0} (P : A → Text → Text → Type 0) (found xs : List A) (a b : Text) : Type 0 where
  pub new : List A
  pub whole : xs ≡ found ++ new
  pub chain : Chain P new a b

module _ {A : Type 0} (P : A → Text → Text → Type 0) where
  longer : (x : A) (xs : List A) (a b c d : Text) → P x a b → Token narrow b comma c → Chain P xs c d → Chain P (x ∷ xs) a d
  longer x xs a b c d p tok (one q) = next p tok (one q)
  longer x xs a b c d p tok (next q tok' rest) = next p tok (next q tok' rest)

  pub separated_each : (part : Text → Reading A) → ((a : Text) → Each (λ x b. P x a b) (part a)) → (n : ℕ) (found : List A) (a : Text) → Each (λ xs b. GivesChain P found xs a b) (separated part n found a)
  unfolding separated
  separated_each part each zero found a = each_none
  separated_each part each (suc n) found a = each_bind _ (each a) (λ x b p.
      each_if (sees comma b) _ _
      (λ is. each_weaker (separated_each part each n (found ++ x ∷ []) (after b)) (λ xs d rest. record {
        new = x ∷ rest.new;
        whole = rest.whole ∙ append_assoc found (x ∷ []) rest.new;
        chain = longer x rest.new a b (after b) d p (seen comma b is) rest.chain;
      }))
      (λ _. each_some _ _ (record { new = x ∷ []; whole = refl; chain = one p })))

  pub until_each : (part : Text → Reading A) → ((a : Text) → Each (λ x b. P x a b) (part a)) → (end : Lexeme) (a : Text) → Each (λ xs b. Chains P xs a b) (separated_until part end a)
  until_each part each end a = each_if (sees end a) _ _
      (λ _. each_some _ _ nothing)
      (λ _. each_weaker (separated_each part each (length a) [] a) (λ xs b x. some (rw (x.whole) x.chain)))
