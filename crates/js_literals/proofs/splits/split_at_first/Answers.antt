use Rattle.js_literals.proofs.Others.{split_is}
use Rattle.js_literals.proofs.splits.split_at_first.Goals as goal

pub returns : goal.returns
returns c = split_is c.args.character c.args.text.now c.split_once.result c.split_once.ensures.cases c.requires
