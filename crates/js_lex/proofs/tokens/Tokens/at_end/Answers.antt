use Rattle.std.proofs.Common.{◌∙◌, length, ap}
use Rattle.std.specs.List.{list_all}
use Rattle.js_term.specs.Lexeme.{is_blank}
use Rattle.js_lex.proofs.Laws.{ends}
use Rattle.js_lex.proofs.tokens.Tokens.at_end.Goals as goal

pub returns : goal.returns
returns c = c.is_empty.ensures ∙ ends c.self.inside.rest.now (length c.self.inside.ahead.now) (ap length c.self.invariant.1.0) ∙ ap (list_all is_blank) c.self.view_is
