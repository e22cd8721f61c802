use Rattle.std.proofs.Common.{◌≤◌, length, sym, subst}
use Rattle.js_tokens.proofs.LookLaws.{ahead_within}
use Rattle.js_tokens.proofs.tokens.Tokens.start.Goals as goal

pub offset-requires : goal.offset-requires
offset-requires c =
    let inside = c.self.invariant.1 in
    subst (λ z. length z ≤ c.self.inside.whole) (sym inside.ahead_is) (ahead_within c.self.inside.whole c.self.inside.rest.now c.self.invariant.0)
