use Rattle.transform_targets.proofs.Cuts.{cut_once}
use Rattle.transform_targets.proofs.words.cut_at.Goals as goal

pub returns : goal.returns
returns c = cut_once c.args.separator c.args.text.now c.split_once.result c.split_once.ensures.cases c.requires
