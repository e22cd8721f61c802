-- The knot: what is read of a whole module is spelled.
use Rattle.std.proofs.Common.{◌≡◌, ℕ, zero, suc, List, Some}
use Rattle.std.specs.Str.{IsUtf8}
use Rattle.js_term.specs.Term.{Text, Term}
use Rattle.js_syntax.specs.Nodes.{module_of}
use Rattle.js_syntax.specs.Modules.{Hashbang, Spells}
use Rattle.js_syntax.specs.Modules as module'
use Rattle.js_reading.specs.declared.goal.Goal.{Goal}
use Rattle.js_reading.specs.declared.goal.Goal.TheVariants as goal
use Rattle.js_reading.specs.Reading.{Found, closed, Reading}
use Rattle.js_reading.specs.Read.{step, read, read_body}
use Rattle.js_reading.specs.Laws.{Sound}
use Rattle.js_reading.proofs.Each.{Each, each_none, each_some, each_bind}
use Rattle.js_reading.proofs.SoundParts.{Good, Fits}
use Rattle.js_reading.proofs.SoundClimb.{level_each, callee_each}
use Rattle.js_reading.proofs.SoundStatements.{pattern_each, statement_each}
use Rattle.js_reading.proofs.SoundModules.{body_each}

step_each : (sub : Goal → Text → Reading Found) → Good sub → (g : Goal) (a : Text) → IsUtf8 a → Each (Fits g a) (step sub g a)
step_each sub good (goal.Expression least i) a u = level_each sub good i least a u
step_each sub good (goal.Callee i) a u = callee_each sub good i a u
step_each sub good goal.Pattern a u = each_bind _ (pattern_each sub good a u) (λ p b v x. each_some (closed p 0) b v x)
step_each sub good goal.Statement a u = each_bind _ (statement_each sub good a u) (λ s b v x. each_some (closed s 0) b v x)

-- what is read as a goal is of that goal
pub read_each : (n : ℕ) (g : Goal) (a : Text) → IsUtf8 a → Each (Fits g a) (read n g a)
unfolding read
read_each zero g a u = each_none
read_each (suc n) g a u = step_each (read n) (λ h b v. read_each n h b v) g a u

-- what is read behind the hashbang is spelled with it
pub read_sound : (hs : List Text) (ds ss : List Term) (a b c : Text) → IsUtf8 b → Hashbang hs a b → read_body b ≡ Some ((ds, ss), c) → Spells a (module_of hs ds ss)
unfolding read_body
read_sound hs ds ss a b c u bang e = let x = (body_each (read 511) (λ g d v. read_each 511 g d v) b u).holds (ds, ss) c e in module'.spells x.free bang x.directives x.items x.end

pub sound : Sound
sound = record { spelled = read_sound }
