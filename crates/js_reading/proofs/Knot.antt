-- What is spelled is read, at every depth.
use Rattle.std.proofs.Common.{ℕ, zero, suc, Bool, arith}
use Rattle.std.specs.Str.{IsUtf8}
use Rattle.js_term.specs.Term.{Text, Term, depth}
use Rattle.js_term.specs.declared.kind.Kind.{Kind}
use Rattle.js_syntax.specs.Spelling.{Stands, Statement, FunctionText, ClassText}
use Rattle.js_reading.proofs.Listings.{StandsRead}
use Rattle.js_reading.proofs.Claims.{IsReadFunction, IsReadClass}
use Rattle.js_reading.proofs.StatementStarts.{IsReadStatement}
use Rattle.js_reading.proofs.Below.{Fits, Small, Below}
use Rattle.js_reading.proofs.FunctionsBelow.{function_below, class_below}
use Rattle.js_reading.proofs.Completing.{stands_at, target_at, pattern_at}
use Rattle.js_reading.proofs.StatementsAt.{statement_at}

none_below : {A : Type 0} {t : Term} → Small 0 t → A
none_below f = absurd (let h = f.depth_is in omega arith)

fits_at : {t : Term} {d : ℕ} → Small (suc d) t → Fits d t
fits_at f = record { depth_is = let h = f.depth_is in omega arith }

below : (d : ℕ) → Below d
below zero = record { stands = λ s u f. none_below f; target = λ t u f. none_below f; pattern = λ p u f. none_below f; statement = λ s u f. none_below f }
below (suc d) = record {
  stands = λ s u f. stands_at (below d) s u (fits_at f);
  target = λ t u f. target_at (below d) t u (fits_at f);
  pattern = λ p u f. pattern_at (below d) p u (fits_at f);
  statement = λ s u f. statement_at (below d) s u (fits_at f);
}

itself : (t : Term) → Fits (depth t) t
itself t = record { depth_is = omega arith }

pub stands_read : {i : Bool} {n : ℕ} {e : Term} {a b : Text} → Stands i n e a b → IsUtf8 a → StandsRead i n e a b
stands_read {e = e} s u = stands_at (below (depth e)) s u (itself e)

pub statement_read : {s : Term} {a b : Text} → Statement s a b → IsUtf8 a → IsReadStatement s a b
statement_read {s} x u = statement_at (below (depth s)) x u (itself s)

pub function_read : {k : Kind} {f : Term} {a b : Text} → FunctionText k f a b → IsUtf8 a → IsReadFunction k f a b
function_read {f = f} x u = function_below (below (depth f)) x u (itself f)

pub class_read : {k : Kind} {c : Term} {a b : Text} → ClassText k c a b → IsUtf8 a → IsReadClass k c a b
class_read {c = c} x u = class_below (below (depth c)) x u (itself c)
