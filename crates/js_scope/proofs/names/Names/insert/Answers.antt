use Rattle.std.proofs.Common.{ap, ◌∙◌}
use Rattle.std.specs.Rc.{rc_str_bytes}
use Rattle.indexmap.specs.IndexMap.{insert_entry}
use Rattle.js_term.specs.Term.{is_text}
use Rattle.js_scope.specs.Keyed.{by_text}
use Rattle.js_scope.proofs.Keyed.{inserted}
use Rattle.js_scope.proofs.names.Names.insert.Goals as goal
use Rattle.js_scope.proofs.names.Names.insert.Goals.{in-Ok, in-Err}

pub returns-clause-set : goal.returns-clause-set
returns-clause-set c =
    elim c.match-insert.branch [
      | in-Ok w ↦ rw w.result-is (ap (by_text rc_str_bytes) w.in-Ok.ensures.entries
          ∙ inserted rc_str_bytes c.self.inside.map.entries c.into_rc.result c.args.symbol
          ∙ ap (λ es. insert_entry is_text es (rc_str_bytes c.into_rc.result) c.args.symbol) c.self.view_is
          ∙ ap (λ x. insert_entry is_text c.args.self.now x c.args.symbol) c.into_rc.ensures)
      | in-Err w ↦ rw w.result-is tt
    ]
