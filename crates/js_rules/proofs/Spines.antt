-- Functions that go down by one kid, over the kid itself.
use Rattle.std.proofs.Common.{◌≡◌, refl, ℕ, zero, suc}
use Rattle.js_term.specs.Term.{Text, Terms, none, more}
use Rattle.js_term.specs.Scope.{kid}
use Rattle.js_syntax.specs.Printable.{has_link, first_has_link, ends_open, kid_ends_open, is_value_of, is_first_value_of}

pub first_link : (ts : Terms) → first_has_link ts ≡ has_link (kid 0 ts)
first_link none = refl
first_link (more t ts) = refl

pub kid_open : (n : ℕ) (ts : Terms) → kid_ends_open n ts ≡ ends_open (kid n ts)
kid_open n none = refl
kid_open zero (more t ts) = refl
kid_open (suc n) (more t ts) = kid_open n ts

pub first_value : (x : Text) (ts : Terms) → is_first_value_of x ts ≡ is_value_of x (kid 0 ts)
first_value x none = refl
first_value x (more t ts) = refl
