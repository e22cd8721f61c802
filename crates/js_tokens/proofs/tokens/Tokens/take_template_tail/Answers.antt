use Rattle.std.proofs.Common.{◌∙◌}
use Rattle.js_tokens.proofs.LookLaws.{tail_ahead, tail_within}
use Rattle.js_tokens.proofs.tokens.Tokens.take_template_tail.Goals as goal

pub cursor-requires : goal.cursor-requires
cursor-requires c =
    let inside = c.self.invariant.1 in
    tail_within c.self.inside.whole c.self.inside.rest.now _ _ c.self.invariant.0 inside.utf8 (c.in_ok-tail.ensures ∙ tail_ahead inside)
