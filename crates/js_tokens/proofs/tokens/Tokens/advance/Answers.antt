use Rattle.std.proofs.Common.{◌∙◌, sym, ap}
use Rattle.js_tokens.specs.Lexemes.{cut_of}
use Rattle.js_tokens.proofs.LookLaws.{token_within}
use Rattle.js_tokens.proofs.tokens.Tokens.advance.Goals as goal

pub cursor-requires : goal.cursor-requires
cursor-requires c =
    let inside = c.self.invariant.1 in
    token_within c.self.inside.whole c.self.inside.rest.now _ _ c.self.invariant.0 inside.utf8 (sym (ap cut_of c.in-Some.is) ∙ inside.token_is)
