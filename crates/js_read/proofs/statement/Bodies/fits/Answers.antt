use Rattle.std.proofs.lemmas.Bool.{false≢true}
use Rattle.js_read.proofs.Trees.{fits_some, no_names}
use Rattle.js_read.specs.Nests.{parameter_names}
use Rattle.js_read.proofs.statement.Bodies.fits.Goals as goal

pub returns-else-is_empty : goal.returns-else-is_empty
returns-else-is_empty g c = fits_some c.args.self.now.depth (parameter_names c.args.params.now) (λ h. false≢true (c.if-is_empty.ensures.1 (no_names c.args.params.now.items h)))
