use Rattle.std.proofs.Common.{◌≡◌, slice_get, None, sym, ◌∙◌, ap, refl, arith, add-one}
use Rattle.std.specs.Prelude.{option_map}
use Rattle.js_tree.specs.Parts.{kids, with_kid}
use Rattle.js_tree.proofs.PartLaws.{kid_is_smaller, later_kids, with_kid_twice}
use Rattle.js_tree.specs.Tree.{tree_of}
use Rattle.tree_rewrite.proofs.Lists.{past, within_same}
use Rattle.tree_rewrite.proofs.Turning.{on_ok, put, turning_none, turning_more, turning_end}
use Rattle.tree_rewrite.proofs.rewrite.+rewrite_tree.Goals as goal

pub returns-in-Ok-Some : goal.returns-in-Ok-Some
returns-in-Ok-Some g t c =
    let z = c.before-2.new.self in
    let e : (option_map tree_of c.in-Ok-Some.field-0, z) ≡ g.R.Rewrite.before c.args.rules.now c.args.place (tree_of c.args.node.now) = c.in-Ok-Some.ensures in
    ap (λ n. (tree_of n, z)) c.set.ensures ∙ put g.R.Rewrite.before g.R.Rewrite.inside g.R.Rewrite.after c.args.place c.args.rules.now z c.args.node.now (tree_of c.in-Ok-Some.put)
    (sym e ∙ ap (λ o. (option_map tree_of o, z)) c.in-Ok-Some.field-0-is)

pub loop-k-init : goal.loop-k-init
loop-k-init g t c = record { done = turning_none g.R.Rewrite.before g.R.Rewrite.inside g.R.Rewrite.after c.args.place c.before-2.new.self c.args.node.now; later = λ j h. refl; counted = c.kid_count-count.ensures }

pub replace_kid-kid-requires : goal.replace_kid-kid-requires
replace_kid-kid-requires g t c = within_same (kids c.loop-k.node) (kids c.args.node.now) c.loop-k.k (c.loop-k.invariant.later c.loop-k.k (omega arith)) (omega arith)

pub rewrite_tree-outcome-requires : goal.rewrite_tree-outcome-requires
rewrite_tree-outcome-requires g t c κs lives =
    let lighter = kid_is_smaller c.args.node.now c.loop-k.k c.replace_kid-kid.result (sym (c.loop-k.invariant.later c.loop-k.k (omega arith)) ∙ c.replace_kid-kid.ensures.given) in
    (omega (arith, lighter), (lives.0, (lives.1.0, lives.1.1)))

pub loop-k-preserved : goal.loop-k-preserved
loop-k-preserved g t c =
    let before = c.loop-k.invariant in
    let y = c.rewrite_tree-outcome.new.node in
    let putting : c.put_kid.new.self ≡ with_kid c.loop-k.node c.loop-k.k y =
    c.put_kid.ensures ∙ ap (λ n. with_kid n c.loop-k.k y) c.replace_kid-kid.ensures.kept ∙ with_kid_twice c.loop-k.node c.absent.result y c.loop-k.k in
    let more = turning_more g.R.Rewrite.before g.R.Rewrite.inside g.R.Rewrite.after c.args.place c.before-2.new.self c.loop-k.rules c.rewrite_tree-outcome.new.rules c.args.node.now c.loop-k.node y
    c.replace_kid-kid.result c.inside-inner.result c.loop-k.k before.done c.replace_kid-kid.ensures.given c.inside-inner.ensures c.in_default.ensures in
    record {
      done = rw (add-one, putting) more;
      later = λ j h. ap (λ n. slice_get (kids n) j) putting ∙ later_kids c.loop-k.node y c.loop-k.k j (omega arith) ∙ before.later j (omega arith);
      counted = before.counted;
    }

pub returns : goal.returns
returns g t c =
    let before = c.loop-k.invariant in
    let z = c.before-2.new.self in
    let end : slice_get (kids c.loop-k.node) c.loop-k.k ≡ None = before.later c.loop-k.k (omega arith) ∙ past _ c.loop-k.k (omega arith) in
    let e : (option_map tree_of c.in-Ok-None.field-0, z) ≡ g.R.Rewrite.before c.args.rules.now c.args.place (tree_of c.args.node.now) = c.in-Ok-None.ensures in
    on_ok c.after.result (λ x. x ∙ turning_end g.R.Rewrite.before g.R.Rewrite.inside g.R.Rewrite.after c.args.place c.args.rules.now z c.loop-k.rules c.args.node.now c.loop-k.node c.loop-k.k
    before.done end (sym e ∙ ap (λ o. (option_map tree_of o, z)) c.in-Ok-None.field-0-is)) c.after.ensures
