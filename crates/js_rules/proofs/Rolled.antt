-- A node that is put before the others round a place.
use denote.Ref.{Bor}
use Rattle.std.proofs.Common.{◌≡◌, refl, ◌∷◌, Option, None, Some}
use Rattle.js_term.specs.Term.{Term}
use Rattle.js_rules.specs.OuterSeen.{outer_terms, terms_of}
use Rattle.js_rules.specs.declared.outer.Outer.{Outer}
use Rattle.js_rules.specs.declared.outer.Outer.TheViews.{roll-Outer}

pub rolled : {V : Type 0} (term : V → Term) (view : V) (outer : Option (Bor (Outer V))) → outer_terms term (roll-Outer V (record { view = view; outer = outer })) ≡ term view ∷ terms_of term outer
unfolding roll-Outer denote.Hole.Carrier.roll
rolled term view None = refl
rolled term view (Some r) = refl
