use Rattle.std.proofs.Common.{sym, ap, ◌∙◌}
use Rattle.std.specs.FinMap as map
use Rattle.std.specs.Rc.{rc_str_bytes}
use Rattle.traverse_names.specs.Kept.{kept, pair_of}
use Rattle.traverse_names.proofs.Entries.{kept-insert, kept-set_value}
use Rattle.traverse_names.proofs.uid.UidGenerator.put.Goals as goal

pub returns-in-Some-clause-kept : goal.returns-in-Some-clause-kept
returns-in-Some-clause-kept c =
    ap (kept rc_str_bytes) (c.get_mut.follows.holds c.args.pair).0
    ∙ kept-set_value rc_str_bytes c.self.inside.names.entries c.args.base.now c.in-Some.kept.now c.args.pair (sym c.in-Some.ensures.value)
    ∙ ap (λ m. map.insert m c.args.base.now (pair_of c.args.pair)) c.self.view_is

pub returns-clause-kept : goal.returns-clause-kept
returns-clause-kept c =
    let pair = pair_of c.args.pair in
    let key = rc_str_bytes c.in_ok-key.key in
    ap (kept rc_str_bytes) c.in_ok-insert.ensures.entries
    ∙ kept-insert rc_str_bytes c.get_mut.follows.lender-at-none.entries c.in_ok-key.key c.args.pair
    ∙ ap (λ m. map.insert (kept rc_str_bytes m.entries) key pair) c.get_mut.follows.holds-at-none
    ∙ ap (λ m. map.insert m key pair) c.self.view_is
    ∙ ap (λ text. map.insert c.args.self.now text pair) c.in_ok-key.ensures.ok
