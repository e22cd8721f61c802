use Rattle.std.proofs.Common.{◌≤◌, ◌∙◌, length, sym, ap, subst}
use Rattle.js_tokens.specs.Lexemes.{cut_of}
use Rattle.js_tokens.proofs.LookLaws.{ahead_within, token_within}
use Rattle.js_tokens.proofs.tokens.Tokens.span.Goals as goal

pub offset-requires : goal.offset-requires
offset-requires c =
    let inside = c.self.invariant.1 in
    subst (λ z. length z ≤ c.self.inside.whole) (sym inside.ahead_is) (ahead_within c.self.inside.whole c.self.inside.rest.now c.self.invariant.0)

pub offset-requires-2 : goal.offset-requires-2
offset-requires-2 c =
    let inside = c.self.invariant.1 in
    token_within c.self.inside.whole c.self.inside.rest.now _ _ c.self.invariant.0 inside.utf8 (sym (ap cut_of c.in_ok-token.was) ∙ inside.token_is)
