use Rattle.std.proofs.Common.{sym, ◌∙◌}
use Rattle.prepare_core.proofs.Brought.{brought_twice, brought_new}
use Rattle.prepare_core.proofs.imports.add_specifier.Goals as goal

pub returns-then-contains_key : goal.returns-then-contains_key
returns-then-contains_key c =
    brought_twice c.args.imports.now.entries c.args.one.now.local.name _ (sym c.contains_key.ensures ∙ c.if-contains_key.true)

pub returns : goal.returns
returns c =
    brought_new c.args.imports.now.entries c.insert.new.self.entries c.args.one.now.local.name _ c.in_ok-clone.field-0 _
    (sym c.contains_key.ensures ∙ c.if-contains_key.false) c.in_ok-clone.ensures.cases (c.in_ok-name.ensures.cases ∙ c.exported_name.ensures) c.in_ok-insert.ensures.updates.0
