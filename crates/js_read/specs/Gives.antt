-- What a function that reads ensures.
use Rattle.std.specs.Prelude.{◌≡◌, ◌≤◌, ℕ, Result, Ok, Err, Option, None, Some, true}
use Rattle.js_term.specs.Term.{Text, Term, depth}
use Rattle.js_term.specs.Lexeme.{narrow}
use Rattle.js_term.specs.Spells.{Spells}
use Rattle.js_term.specs.Form.{is_small}
use Rattle.js_read.specs.declared.fault.Halt.{Halt}
use Rattle.js_read.specs.declared.fault.Halt.TheVariants as halt
use Rattle.js_read.specs.declared.fault.ReadFault.{ReadFault}
use Rattle.js_read.specs.declared.fault.ReadFault.TheVariants as fault
use Rattle.js_read.specs.Read.{Reading}

abbrev pub Fails : {A : Type 0} → Halt → Reading A → Type 0
Fails halt.NoMemory outcome = Unit {0}
Fails halt.Unread outcome = outcome ≡ None

-- the outcome, unless memory runs out
abbrev pub Reads : {X A : Type 0} → (X → A) → Reading A → Result X Halt → Text → Type 0
Reads view outcome (Ok x) rest = outcome ≡ Some (view x, rest)
Reads view outcome (Err e) rest = Fails e outcome

-- the same for a whole text
abbrev pub FailsWhole : {A : Type 0} → ReadFault → Option A → Type 0
FailsWhole fault.NoMemory outcome = Unit {0}
FailsWhole (fault.Unread at) outcome = outcome ≡ None

abbrev pub Gives : {X A : Type 0} → (X → A) → Option A → Result X ReadFault → Type 0
Gives view outcome (Ok x) = outcome ≡ Some (view x)
Gives view outcome (Err e) = FailsWhole e outcome

-- where an error says that reading stopped
abbrev pub StopsBy : ℕ → ReadFault → Type 0
StopsBy n fault.NoMemory = Unit {0}
StopsBy n (fault.Unread at) = at ≤ n

-- What an error says of the text: where it is not for want of memory, the text spells no small module of a depth of
-- at most 512.
abbrev pub Refuses : Text → ReadFault → Type 0
Refuses text fault.NoMemory = Unit {0}
Refuses text (fault.Unread at) = (t : Term) → Spells narrow text t → is_small t ≡ true → depth t ≤ 512 → ⊥
