use Rattle.std.proofs.Common.{◌≡◌, sym, ap, ◌∙◌, Some, None, rules}
use Rattle.std.specs.Map.{lookup, remove_entry}
use Rattle.std.specs.Rc.{rc_str_bytes}
use Rattle.js_term.specs.Term.{is_text}
use Rattle.js_scope.specs.Keyed.{by_text}
use Rattle.js_scope.proofs.Keyed.{looked_up, removed, valued, removed_valued}
use Rattle.js_scope.proofs.Listing.{unlisted_none, unlisted_last, unlisted_more}
use Rattle.js_scope.proofs.unresolved.Unresolved.delete.Goals as goal
use Rattle.js_scope.proofs.unresolved.Unresolved.delete.Goals.{in-Some-1, in-None-1}

pub returns-in_default : goal.returns-in_default
returns-in_default c =
    let es = c.self.inside.map.entries in
    let absent : lookup (is_text c.args.name.now) (by_text rc_str_bytes es) ≡ None = sym (looked_up rc_str_bytes es c.args.name.now) ∙ sym c.in_default.ensures.value in
    ap (λ m. by_text rc_str_bytes m.entries) c.get_mut.follows.holds-at-none ∙ unlisted_none _ _ c.args.name.now c.args.reference c.self.view_is absent

pub returns-then-is_empty : goal.returns-then-is_empty
returns-then-is_empty c =
    let es = c.self.inside.map.entries in
    let x = c.args.name.now in
    let new = c.remove_reference.new.list in
    let there : lookup (is_text x) (by_text rc_str_bytes es) ≡ Some c.in-Some.list.now = sym (looked_up rc_str_bytes es x) ∙ sym c.in-Some.ensures.value in
    let done : by_text rc_str_bytes c.shift_remove.new.self.entries ≡ _ =
    ap (by_text rc_str_bytes) c.shift_remove.ensures.entries
    ∙ removed rc_str_bytes (c.get_mut.follows.lender new).entries x
    ∙ ap (λ l. remove_entry (is_text x) (by_text rc_str_bytes l)) (c.get_mut.follows.holds new).0
    ∙ ap (remove_entry (is_text x)) (valued rc_str_bytes es x new)
    ∙ removed_valued (is_text x) new (by_text rc_str_bytes es)
    ∙ unlisted_last _ _ x c.args.reference c.in-Some.list.now new c.self.view_is there c.remove_reference.ensures (search (rules, c.is_empty.ensures, c.if-is_empty.true)) in
    elim c.match-shift_remove.branch [
      | in-Some-1 w ↦ w.self-is ∙ done
      | in-None-1 w ↦ w.self-is ∙ done
    ]

pub returns-else-is_empty : goal.returns-else-is_empty
returns-else-is_empty c =
    let es = c.self.inside.map.entries in
    let x = c.args.name.now in
    let new = c.remove_reference.new.list in
    let there : lookup (is_text x) (by_text rc_str_bytes es) ≡ Some c.in-Some.list.now = sym (looked_up rc_str_bytes es x) ∙ sym c.in-Some.ensures.value in
    ap (by_text rc_str_bytes) (c.get_mut.follows.holds new).0
    ∙ valued rc_str_bytes es x new
    ∙ unlisted_more _ _ x c.args.reference c.in-Some.list.now new c.self.view_is there c.remove_reference.ensures (λ e. search (rules, c.is_empty.ensures, c.if-is_empty.false, e))
