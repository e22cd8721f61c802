use Rattle.std.proofs.Common.{ap, ◌∙◌}
use Rattle.std.specs.Map.{lookup}
use Rattle.std.specs.Rc.{rc_str_bytes}
use Rattle.js_term.specs.Term.{is_text}
use Rattle.js_scope.proofs.Keyed.{looked_up}
use Rattle.js_scope.proofs.names.Names.get.Goals as goal

pub returns : goal.returns
returns c =
    c.copied.ensures ∙ c.get.ensures.value
    ∙ looked_up rc_str_bytes c.self.inside.map.entries c.args.name.now
    ∙ ap (lookup (is_text c.args.name.now)) c.self.view_is
