use Rattle.babel_options.proofs.Levels.{merged_read}
use Rattle.babel_options.proofs.Refusals.{no_error}
use Rattle.babel_options.proofs.read_options.merge_levels.Goals as goal

pub returns-clause-made : goal.returns-clause-made
returns-clause-made c = record {
  sound = no_error _ _ c.in_ok-task.ensures.sound c.in_ok-suite.ensures.sound;
  read = merged_read _ _ _ _ _ _ _ _ c.in_ok-task.ensures.made c.in_ok-suite.ensures.made c.none.ensures
      c.both.ensures c.unwrap_or-level.ensures c.in_ok-options.ensures;
}
