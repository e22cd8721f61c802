-- Lists of statements that stand in a text are read, from what is read below.
use Rattle.std.proofs.Common.{ℕ, List}
use Rattle.std.specs.Str.{IsUtf8}
use Rattle.js_term.specs.Term.{Text, Term, all}
use Rattle.js_syntax.specs.Spelling as spell
use Rattle.js_syntax.specs.Spelling.{Statements}
use Rattle.js_reading.proofs.Claims.{IsReadStatements}
use Rattle.js_reading.proofs.StatementsThere.{StatementsFollow, no_statements_read, next_statement_read}
use Rattle.js_reading.proofs.Below.{Smalls, Below, head_in, tail_in}

module _ {d : ℕ} (below : Below d) where
  pub statements_follow : {ss : List Term} {a b : Text} → Statements ss a b → IsUtf8 a → Smalls d (all ss) → StatementsFollow ss a b
  statements_follow spell.no_statements u f = no_statements_read u
  statements_follow (spell.next_statement s rest) u f = let r = below.statement s u (head_in f) in next_statement_read r (statements_follow rest r.utf8 (tail_in f))

  pub statements_below : {ss : List Term} {a b : Text} → Statements ss a b → IsUtf8 a → Smalls d (all ss) → IsReadStatements ss a b
  statements_below ss u f = let r = statements_follow ss u f in r.read
