-- Tests and what follows from their answers.
use Rattle.std.proofs.Common.{◌≡◌, ℕ, suc, ◌+◌, ◌-◌, Bool, true, false, not, ◌&&◌, ◌||◌, if◌then◌else◌, nat_eq, refl, ap, arith}
use Rattle.std.proofs.lemmas.Bool.{ne_eqb}
use Rattle.unicode_ident.proofs.Computing.{unicode_ident}
use Rattle.js_chars.specs.Names.{is_identifier_start, is_identifier_part}

pub not_true : (b : Bool) → not b ≡ true → b ≡ false
not_true true h = cc
not_true false h = refl

pub left_of : (a b : Bool) → a && b ≡ true → a ≡ true
left_of true b h = refl
left_of false b h = cc

pub right_of : (a b : Bool) → a && b ≡ true → b ≡ true
right_of true b h = h
right_of false b h = cc

pub both : {a b : Bool} → a ≡ true → b ≡ true → a && b ≡ true
both {a = true} p q = q
both {a = false} p q = cc

pub all_false : (a b c d : Bool) → a ≡ false → b ≡ false → c ≡ false → d ≡ false → (not a && not b && not c && not d) ≡ true
all_false a b c d p q r s = rw (p, q, r, s) refl

pub none_of : (a b c : Bool) → a ≡ false → b ≡ false → c ≡ false → (not a && not b && not c) ≡ true
none_of a b c p q r = rw (p, q, r) refl

pub neither : (a b : Bool) → a ≡ false → b ≡ false → (a || b) ≡ false
neither true b p q = cc
neither false b p q = q

pub never : (b : Bool) → b && false ≡ false
never true = refl
never false = refl

pub when_true : {A : Type 0} (b : Bool) (x y : A) → b ≡ true → (if b then x else y) ≡ x
when_true true x y h = refl
when_true false x y h = cc

pub when_false : {A : Type 0} (b : Bool) (x y : A) → b ≡ false → (if b then x else y) ≡ y
when_false true x y h = cc
when_false false x y h = refl

pub either_way : {A : Type 0} (b : Bool) (x : A) → (if b then x else x) ≡ x
either_way true x = refl
either_way false x = refl

-- a number that passes a test is none that does not
pub apart : (test : ℕ → Bool) (c d : ℕ) → test c ≡ true → test d ≡ false → nat_eq c d ≡ false
apart test c d p q = ne_eqb c d (λ e. let same = ap test e in cc)

pub positive : (n : ℕ) → nat_eq (n + 1) 0 ≡ false
positive n = ne_eqb (n + 1) 0 (λ e. omega (arith, e))

pub less_one : (n : ℕ) → n + 1 - 1 ≡ n
less_one n = omega arith

pub suc_less_one : (n : ℕ) → suc n - 1 ≡ n
suc_less_one n = omega arith

-- `>` is no part of a name, `=` and `!` do not begin one
pub greater_ends : is_identifier_part 62 ≡ false
unfolding unicode_ident
greater_ends = refl

pub equals_begins_none : is_identifier_start 61 ≡ false
unfolding unicode_ident
equals_begins_none = refl

pub bang_begins_none : is_identifier_start 33 ≡ false
unfolding unicode_ident
bang_begins_none = refl
