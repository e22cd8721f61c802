use Rattle.std.proofs.lemmas.Result.{on_ok_weaker}
use Rattle.module_model.specs.Run.{written}
use Rattle.module_model.specs.Shape.{getter}
use Rattle.prepare_core.specs.Names.{root_env}
use Rattle.prepare_core.proofs.Asked.{item_added}
use Rattle.prepare_core.proofs.exports.push_getter.Goals as goal

pub returns : goal.returns
returns c =
    let t = rw c.in_ok-clone.ensures.cases at c.in_ok-target.ensures in
    let g = rw (t, c.in_ok-clone-2.ensures.cases) at c.in_ok-getter.ensures in
    on_ok_weaker c.push.result (λ p. item_added c.args.out.now c.push.new.self c.in_ok-getter.field-0 (getter c.args.name.now (written (root_env c.args.imports.now) c.args.name.now)) p g) c.push.ensures.ok
