use Rattle.module_tree.proofs.Numbered.{text_in, text_out}
use Rattle.module_tree.proofs.texts.text_at.Goals as goal

pub returns-in-Some : goal.returns-in-Some
returns-in-Some c = text_in (λ x. x.now) c.args.texts.now c.args.n c.in-Some.text.now c.in-Some.ensures.lookup.3.0 c.in-Some.ensures.lookup.1

pub returns-in-None : goal.returns-in-None
returns-in-None c = text_out (λ x. x.now) c.args.texts.now c.args.n c.in-None.ensures.lookup.3
