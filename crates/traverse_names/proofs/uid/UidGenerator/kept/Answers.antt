use Rattle.std.proofs.Common.{sym, ap, ◌∙◌}
use Rattle.std.specs.FinMap as map
use Rattle.std.specs.Option.{option_map}
use Rattle.std.specs.Rc.{rc_str_bytes}
use Rattle.traverse_names.specs.Kept.{pair_of}
use Rattle.traverse_names.proofs.Entries.{get-kept}
use Rattle.traverse_names.proofs.uid.UidGenerator.kept.Goals as goal

pub returns : goal.returns
returns c =
    ap (option_map pair_of) (c.copied.ensures ∙ c.get.ensures.value)
    ∙ sym (get-kept rc_str_bytes c.self.inside.names.entries c.args.base.now)
    ∙ ap (λ m. map.get m c.args.base.now) c.self.view_is
