-- Names that are bound, as patterns that stand in a text, are read.
use Rattle.std.proofs.Common.{◌≡◌, ℕ, false, Some, arith, codes}
use Rattle.js_term.specs.Term.{Text}
use Rattle.js_term.specs.Lexeme.{is_reserved}
use Rattle.js_term.specs.Node.{binding_of}
use Rattle.js_syntax.specs.Tokens.{word}
use Rattle.js_reading.specs.Statements.{pattern}
use Rattle.js_reading.specs.Read.{read}
use Rattle.js_reading.proofs.TokensThere.{Seen, sees_by, binding_read}
use Rattle.js_reading.proofs.Claims.{IsReadPattern}

name_there : {x a b : Text} → is_reserved x ≡ false → Seen (word x) a b → (limit : ℕ) → pattern (read limit) a ≡ Some (binding_of x, b)
unfolding pattern
name_there free tok limit = rw (sees_by (codes "{") tok, sees_by (codes "[") tok, binding_read free tok)

pub binding_pattern_read : {x a b : Text} → is_reserved x ≡ false → Seen (word x) a b → IsReadPattern (binding_of x) a b
binding_pattern_read free tok = record { utf8 = tok.utf8; shorter = tok.shorter; deep = omega arith; reads = λ limit fits. name_there free tok limit }
