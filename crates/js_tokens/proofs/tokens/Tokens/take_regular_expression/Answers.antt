use Rattle.std.proofs.Common.{◌∙◌}
use Rattle.js_tokens.proofs.LookLaws.{regexp_ahead, regexp_within}
use Rattle.js_tokens.proofs.tokens.Tokens.take_regular_expression.Goals as goal

pub cursor-requires : goal.cursor-requires
cursor-requires c =
    let inside = c.self.invariant.1 in
    regexp_within c.self.inside.whole c.self.inside.rest.now _ _ c.self.invariant.0 inside.utf8 (c.in_ok-regexp.ensures ∙ regexp_ahead inside)
