use Rattle.serde_json.specs.View.{view}
use Rattle.babel_options.proofs.Levels.{suite_read}
use Rattle.babel_options.proofs.read_options.suite_level.Goals as goal

pub returns-clause-made : goal.returns-clause-made
returns-clause-made c =
    suite_read (λ v. view v.now) c.args.suite _ _ _ _ _ _ c.in_ok-suite.ensures.made c.in_ok-category.ensures.made
    c.is_some-has_suite.ensures c.beside_suite.ensures c.both.ensures
