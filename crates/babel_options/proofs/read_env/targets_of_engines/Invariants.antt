use Rattle.std.proofs.Common.{◌≡◌, Some}
use Rattle.serde_json.specs.View.{members_view}
use Rattle.babel_options.specs.Env as spec
use Rattle.transform_targets.specs.Targets.{no_targets}
use Rattle.babel_options.proofs.read_env.targets_of_engines.Given as goal

abbrev pub invariant-loop-name : goal.invariant-loop-name
invariant-loop-name l =
    spec.with_engines (Some l.targets) (members_view l.name-iterator)
    ≡ spec.with_engines (Some no_targets) (members_view l.fn.members.entries)
