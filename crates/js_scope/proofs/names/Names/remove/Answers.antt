use Rattle.std.proofs.Common.{ap, ◌∙◌}
use Rattle.std.specs.Map.{remove_entry}
use Rattle.std.specs.Rc.{rc_str_bytes}
use Rattle.js_term.specs.Term.{is_text}
use Rattle.js_scope.specs.Keyed.{by_text}
use Rattle.js_scope.proofs.Keyed.{removed}
use Rattle.js_scope.proofs.names.Names.remove.Goals as goal

pub returns : goal.returns
returns c =
    ap (by_text rc_str_bytes) c.shift_remove.ensures.entries
    ∙ removed rc_str_bytes c.self.inside.map.entries c.args.name.now
    ∙ ap (remove_entry (is_text c.args.name.now)) c.self.view_is
