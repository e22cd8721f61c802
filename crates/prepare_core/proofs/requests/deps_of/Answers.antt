use Rattle.std.proofs.lemmas.Result.{IfOk-weaker}
use Rattle.prepare_core.proofs.Deps.{deps_made}
use Rattle.prepare_core.proofs.requests.deps_of.Goals as goal

pub returns : goal.returns
returns c =
    let h = rw c.in_ok-sources.ensures at c.in_ok-set.ensures in
    IfOk-weaker c.sorted.result _ _ (λ it e. deps_made _ it.items c.in_ok-set.set h e) c.sorted.ensures
