use Rattle.js_read.proofs.Trees.{effect_seen}
use Rattle.js_read.proofs.nodes.effect.Goals as goal

pub returns : goal.returns
returns c = effect_seen _ c.args.expression c.in_ok-expression.ensures
