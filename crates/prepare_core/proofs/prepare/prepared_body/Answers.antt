use Rattle.std.proofs.Common.{map}
use Rattle.js_term.specs.Term.{all}
use Rattle.small_tree.specs.TermOf.{statement_term}
use Rattle.prepare_core.proofs.Whole.{items_written}
use Rattle.prepare_core.proofs.prepare.prepared_body.Goals as goal

pub returns : goal.returns
returns c =
    let imports = rw c.as_slice.ensures at c.in_ok-imports.ensures in
    let getters = rw (c.new-out.ensures, c.as_slice-2.ensures) at c.in_ok-push_getters.ensures in
    let requests = rw c.as_slice-3.ensures at c.in_ok-push_requests.ensures in
    items_written (all (map statement_term c.args.body)) c.in_ok-imports.imports.entries (all (map statement_term c.push_getters.new.out)) (all (map statement_term c.push_requests.new.out)) (all (map statement_term c.push_all_kept.new.out))
    imports c.requires getters requests c.in_ok-push_all_kept.ensures
