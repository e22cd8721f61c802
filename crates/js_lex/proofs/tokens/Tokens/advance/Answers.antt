use Rattle.std.proofs.Common.{ap, ◌∙◌, sym, arith}
use Rattle.js_lex.specs.Classes.{cut_of}
use Rattle.js_lex.proofs.Laws.{next_found, next_shorter}
use Rattle.js_lex.proofs.tokens.Tokens.advance.Goals as goal

pub cursor-requires : goal.cursor-requires
cursor-requires c =
    let t = c.in-Some.token in
    let shorter = next_shorter c.self.inside.rest.now _ t.rest.now (next_found c.self.inside.rest.now _ t.rest.now (sym c.self.invariant.1.1 ∙ ap cut_of c.in-Some.is)) in
    omega (arith, c.self.invariant.0)
