use Rattle.std.proofs.Common.{◌∙◌, ap}
use Rattle.js_term.specs.Lexeme as spec
use Rattle.js_lex.proofs.Runs.{front_within}
use Rattle.js_lex.proofs.tokens.Tokens.ahead.Goals as goal

pub returns : goal.returns
returns c = rw (c.self.invariant.1.0 ∙ ap spec.front c.self.view_is) (front_within c.args.self.now)
