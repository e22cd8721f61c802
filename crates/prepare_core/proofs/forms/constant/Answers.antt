use Rattle.std.proofs.Common.{refl}
use Rattle.prepare_core.proofs.Nodes.{const_made}
use Rattle.prepare_core.proofs.forms.constant.Goals as goal

pub returns : goal.returns
returns c =
    let s = rw (c.in_ok-declarations.ensures, c.in_ok-init.ensures) at c.in_ok-push.ensures.ok in
    const_made _ _ _ c.args.value refl s refl refl
