use Rattle.std.proofs.Common.{sym, ◌∙◌}
use Rattle.prepare_core.proofs.Look.{looked_up}
use Rattle.prepare_core.proofs.scopes.find_import.Goals as goal

pub returns-else-is_hidden : goal.returns-else-is_hidden
returns-else-is_hidden c =
    looked_up c.args.imports.now c.args.scopes.now c.args.name.now (λ i. i.now) c.get.result c.get.ensures.value (sym c.is_hidden.ensures ∙ c.if-is_hidden.false)
