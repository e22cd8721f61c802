use Rattle.std.proofs.Common.{◌≡◌, [], ◌∷◌, ◌++◌, sym, ap, ◌∙◌, Some, None}
use Rattle.std.specs.Map.{lookup, set_value}
use Rattle.std.specs.Rc.{rc_str_bytes}
use Rattle.indexmap.specs.IndexMap.{insert_entry}
use Rattle.js_term.specs.Term.{is_text}
use Rattle.js_scope.specs.Keyed.{by_text}
use Rattle.js_scope.specs.Unresolved.{listed}
use Rattle.js_scope.proofs.Keyed.{looked_up, inserted, valued, kept}
use Rattle.js_scope.proofs.Listing.{on_ok, on_err, listed_more, listed_first}
use Rattle.js_scope.proofs.unresolved.Unresolved.add.Goals as goal

pub returns-in-Some-clause-listed : goal.returns-in-Some-clause-listed
returns-in-Some-clause-listed c =
    let x = c.as_str.result.now in
    let es = c.self.inside.map.entries in
    let there : lookup (is_text x) (by_text rc_str_bytes es) ≡ Some c.in-Some.list.now = sym (looked_up rc_str_bytes es x) ∙ sym c.in-Some.ensures.value in
    on_ok c.push.result (λ h. ap (by_text rc_str_bytes) (c.get_mut.follows.holds c.push.new.self).0
    ∙ valued rc_str_bytes es x c.push.new.self
    ∙ listed_more _ _ x c.args.reference c.in-Some.list.now c.push.new.self c.self.view_is there h
    ∙ ap (λ y. listed c.args.self.now y c.args.reference) c.as_str.ensures) c.push.ensures.ok

pub returns-in-Some-clause-unchanged : goal.returns-in-Some-clause-unchanged
returns-in-Some-clause-unchanged c =
    let x = c.as_str.result.now in
    let es = c.self.inside.map.entries in
    let there : lookup (is_text x) (by_text rc_str_bytes es) ≡ Some c.in-Some.list.now = sym (looked_up rc_str_bytes es x) ∙ sym c.in-Some.ensures.value in
    on_err c.push.result (λ h. ap (by_text rc_str_bytes) (c.get_mut.follows.holds c.push.new.self).0
    ∙ valued rc_str_bytes es x c.push.new.self
    ∙ ap (set_value (is_text x) (by_text rc_str_bytes es)) h
    ∙ kept (is_text x) c.in-Some.list.now (by_text rc_str_bytes es) there
    ∙ c.self.view_is) c.push.ensures.err

pub returns-in-Ok-clause-listed : goal.returns-in-Ok-clause-listed
returns-in-Ok-clause-listed c =
    let x = c.as_str.result.now in
    let es = c.self.inside.map.entries in
    let new = c.push-2.new.self in
    let absent : lookup (is_text x) (by_text rc_str_bytes es) ≡ None = sym (looked_up rc_str_bytes es x) ∙ sym c.in_default.ensures.value in
    ap (by_text rc_str_bytes) c.in-Ok.ensures.entries
    ∙ inserted rc_str_bytes c.get_mut.follows.lender-at-none.entries c.into_rc.result new
    ∙ ap (λ m. insert_entry is_text (by_text rc_str_bytes m.entries) (rc_str_bytes c.into_rc.result) new) c.get_mut.follows.holds-at-none
    ∙ ap (λ y. insert_entry is_text (by_text rc_str_bytes es) y new) (c.into_rc.ensures ∙ sym c.as_str.ensures)
    ∙ listed_first _ _ x c.args.reference new c.self.view_is absent (c.in_ok-push.ensures.ok ∙ ap (λ l. l ++ c.args.reference ∷ []) c.new-list.ensures)
    ∙ ap (λ y. listed c.args.self.now y c.args.reference) c.as_str.ensures
