use Rattle.prepare_core.specs.Names.{names_env}
use Rattle.prepare_core.proofs.Asked.{import_kept}
use Rattle.prepare_core.proofs.kept.push_kept.Goals as goal

pub returns-in-Some-clause-terms : goal.returns-in-Some-clause-terms
returns-in-Some-clause-terms c = import_kept (names_env c.args.imports.now c.args.scopes.now) _ c.args.s.now c.in-Some.field-0.now c.in-Some.ensures
