-- What a function of the code that turns trees says of the function over terms that it follows.
use Rattle.std.specs.Prelude.{◌≡◌, List, [], ◌∷◌, Option, None, Some, Result, Ok, Err}
use Rattle.js_reader.specs.declared.fault.Halt.{Halt}
use Rattle.js_reader.specs.declared.fault.Halt.TheVariants as halt

-- what is made, as it is seen; or that nothing is. Want of memory tells nothing
abbrev pub Becomes : {X A : Type 0} → (X → A) → Option A → Result X Halt → Type 0
Becomes view outcome (Ok x) = outcome ≡ Some (view x)
Becomes view outcome (Err halt.Unread) = outcome ≡ None
Becomes view outcome (Err halt.NoMemory) = Unit {0}

-- Where a list has so many.
abbrev pub sole : {A : Type 0} → List A → Option A
sole (x ∷ []) = Some x
sole xs = None

abbrev pub both : {A : Type 0} → List A → Option (A × A)
both (x ∷ y ∷ []) = Some (x, y)
both xs = None
