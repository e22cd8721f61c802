-- The knot: each goal by its production, and a whole module behind its hashbang (16.2).
use Rattle.std.specs.Prelude.{ℕ, zero, suc, List, None}
use Rattle.js_term.specs.Term.{Text, Term}
use Rattle.js_reading.specs.declared.goal.Goal.{Goal}
use Rattle.js_reading.specs.declared.goal.Goal.TheVariants as goal
use Rattle.js_reading.specs.Reading.{Found, Reading, ◌>>=◌}
use Rattle.js_reading.specs.Expressions.{at, at_level, callee}
use Rattle.js_reading.specs.Statements.{pattern, statement}
use Rattle.js_reading.specs.Modules.{module_body}

abbrev pub step : (Goal → Text → Reading Found) → Goal → Text → Reading Found
step sub (goal.Expression least i) a = at_level sub i least a
step sub (goal.Callee i) a = callee sub i a
step sub goal.Pattern a = pattern sub a >>= at 0
step sub goal.Statement a = statement sub a >>= at 0

-- The number bounds how deep parts stand in parts.
unfoldable pub read : ℕ → Goal → Text → Reading Found
read zero g a = None
read (suc n) g a = step (read n) g a

-- A module whose tree has a depth of 512 at most has parts that are no deeper than this.
unfoldable pub read_body : Text → Reading (List Term × List Term)
read_body a = module_body (read 511) a
