use Rattle.std.proofs.Common.{◌≡◌, Some, None, slice_get, sym, ◌∙◌, ap, arith, add-one}
use Rattle.js_tree.specs.Parts.{kids}
use Rattle.js_tree.proofs.PartLaws.{kid_is_smaller}
use Rattle.tree_rewrite.proofs.Lists.{got, past}
use Rattle.tree_rewrite.proofs.Turning.{on_ok}
use Rattle.tree_rewrite.proofs.Seeing.{part_seen, all_seen}
use Rattle.tree_rewrite.proofs.visit.+visit_tree.Goals as goal

pub visit_tree-requires : goal.visit_tree-requires
unfolding kids
visit_tree-requires g t c κs lives =
    let here : slice_get (kids c.args.node.now) c.loop-k.k ≡ Some c.index-parts-k.result =
    ap (λ l. slice_get l c.loop-k.k) (sym c.kids-parts.ensures) ∙ got c.kids-parts.result.now c.loop-k.k c.index-parts-k.result c.loop-k-test.true c.index-parts-k.is in
    let lighter = kid_is_smaller c.args.node.now c.loop-k.k c.index-parts-k.result here in
    (omega (arith, lighter), lives)

pub loop-k-preserved : goal.loop-k-preserved
unfolding kids
loop-k-preserved g t c =
    let here : slice_get (kids c.args.node.now) c.loop-k.k ≡ Some c.index-parts-k.result =
    ap (λ l. slice_get l c.loop-k.k) (sym c.kids-parts.ensures) ∙ got c.kids-parts.result.now c.loop-k.k c.index-parts-k.result c.loop-k-test.true c.index-parts-k.is in
    let more = part_seen g.V.Visit.enter g.V.Visit.inside g.V.Visit.leave c.args.place c.args.rules.now c.loop-k.rules c.visit_tree.new.rules c.args.node.now c.index-parts-k.result
    c.inside-inner.result c.loop-k.k c.loop-k.invariant here c.inside-inner.ensures c.in_default-visit_tree.ensures in
    rw add-one more

pub returns : goal.returns
unfolding kids
returns g t c =
    let end : slice_get (kids c.args.node.now) c.loop-k.k ≡ None = ap (λ l. slice_get l c.loop-k.k) (sym c.kids-parts.ensures) ∙ past c.kids-parts.result.now c.loop-k.k c.loop-k-test.false in
    on_ok c.leave.result
    (λ e. e ∙ all_seen g.V.Visit.enter g.V.Visit.inside g.V.Visit.leave c.args.place c.args.rules.now c.loop-k.rules c.args.node.now c.loop-k.k c.loop-k.invariant end)
    c.leave.ensures
