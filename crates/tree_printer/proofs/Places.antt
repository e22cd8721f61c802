-- Places behind the first.
use Rattle.std.proofs.Common.{◌≡◌, ◌-◌, ℕ, zero, suc, refl, ap, arith, List, ◌||◌}
use Rattle.js_term.specs.Term.{Text, Term}
use Rattle.js_term.specs.declared.kind.Kind.{Kind}
use Rattle.print_layout.specs.Needs.{least, is_looser, is_fronted, needs}

pub later : (k : Kind) (texts : List Text) (n : ℕ) → (n ≡ 0 → ⊥) → least k texts (suc (n - 1)) ≡ least k texts n
later k texts zero h = absurd (h refl)
later k texts (suc n) h = let e : suc n - 1 ≡ n = omega arith in ap (λ m. least k texts (suc m)) e

pub later_needs : (k : Kind) (texts : List Text) (n : ℕ) (t : Term) → (n ≡ 0 → ⊥) → needs k texts n t ≡ (is_fronted k n t || is_looser (least k texts n) t)
later_needs k texts zero t h = absurd (h refl)
later_needs k texts (suc n) t h = refl
