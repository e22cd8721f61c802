-- What a function of the code that reads says of the function over texts that it follows.
use Rattle.std.specs.Prelude.{◌≡◌, ℕ, Result, Ok, Err, None, Some}
use Rattle.std.specs.declared.alloc.Global.{Global}
use denote.Ref.{MutBor}
use Rattle.js_term.specs.Term.{Text}
use Rattle.js_tree.specs.TermOf.{term}
use Rattle.js_reading.specs.declared.goal.Goal.{Goal}
use Rattle.js_reading.specs.Reading.{Found, Reading}
use Rattle.js_reading.specs.Read.{read}
use Rattle.js_reader.specs.declared.fault.Halt.{Halt}
use Rattle.js_reader.specs.declared.fault.Halt.TheVariants as halt
use Rattle.js_reader.specs.declared.found.Found as code

-- want of memory tells nothing
abbrev pub Fails : {A : Type 0} → Halt → Reading A → Type 0
Fails halt.NoMemory outcome = Unit {0}
Fails halt.Unread outcome = outcome ≡ None

-- What was found, as it is seen, and the text that is left; or why there is nothing.
abbrev pub Reads : {X A : Type 0} → (X → A) → Reading A → Result X Halt → Text → Type 0
Reads view outcome (Ok x) rest = outcome ≡ Some (view x, rest)
Reads view outcome (Err e) rest = Fails e outcome

abbrev pub found_of : code.Found → Found
found_of f = record { tree = term f.node; level = f.level; cover = f.cover; barred = f.barred }

-- A function value that reads parts, down to a depth.
pub record Nests (depth : ℕ) (pre : Global → MutBor Text → ℕ → Goal → Type 0)
    (post : Global → MutBor Text → ℕ → Goal → Result code.Found Halt → MutBor Text → Type 0) : Type 0 where
  pub callable : (alloc : Global) (old : MutBor Text) (g : Goal) → pre alloc old depth g
  pub reads : (alloc : Global) (old new : MutBor Text) (g : Goal) (r : Result code.Found Halt) → post alloc old depth g r new → Reads found_of (read depth g old.now) r new.now
