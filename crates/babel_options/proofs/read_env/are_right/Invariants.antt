use Rattle.std.proofs.Common.{◌≡◌}
use Rattle.serde_json.specs.View.{members_view}
use Rattle.babel_options.specs.Env as spec
use Rattle.babel_options.proofs.read_env.are_right.Given as goal

abbrev pub invariant-loop-name : goal.invariant-loop-name
invariant-loop-name l =
    spec.are_right (members_view l.name-iterator) ≡ spec.are_right (members_view l.fn.members.entries)
