use Rattle.std.proofs.Common.{rules, ◌≡◌, ◌<◌, sym, ◌∙◌, arith, refl}
use Rattle.js_syntax.specs.Parts.{count, parts_of}
use Rattle.js_rules.specs.Seen.{size}
use Rattle.js_rules.proofs.Parts.{part_is_smaller, fails, goes_on, ends, of_list, of_node}
use Rattle.js_rules.proofs.walk.+everywhere.Goals as goal

pub everywhere-requires : goal.everywhere-requires
everywhere-requires g t c κs within = let smaller : size (g.V.View.term c.part.result) < size (g.V.View.term c.args.view) = part_is_smaller _ _ c.loop-n.n (search rules) c.part.ensures in search rules

pub everywhere-requires-in-loop-n-2 : goal.everywhere-requires-in-loop-n-2
everywhere-requires-in-loop-n-2 g t c κs within = let smaller : size (g.V.View.term c.part-in-loop-n-2.result) < size (g.V.View.term c.args.view) = part_is_smaller _ _ c.loop-n-2.n (search rules) c.part-in-loop-n-2.ensures in search rules

pub returns-then-not-everywhere : goal.returns-then-not-everywhere
returns-then-not-everywhere g t c = let within : c.loop-n.n < count (parts_of (g.V.View.term c.args.view)) = omega (arith, c.count-n-end.ensures) in sym (of_list _ _ _ _ _ _ _ _ _ _ c.in-List.ensures c.item-inner.ensures (sym c.allows_list.ensures ∙ c.if-not-allows_list.false) (fails _ _ _ _ _ _ _ _ _ _ within c.part.ensures refl c.loop-n.invariant (sym c.everywhere.ensures ∙ c.if-not-everywhere.true)))

pub loop-n-preserved : goal.loop-n-preserved
loop-n-preserved g t c = let within : c.loop-n.n < count (parts_of (g.V.View.term c.args.view)) = omega (arith, c.count-n-end.ensures) in goes_on _ _ _ _ _ _ _ _ _ _ within c.part.ensures refl c.loop-n.invariant (sym c.everywhere.ensures ∙ c.if-not-everywhere.false)

pub returns-then-not-everywhere-2 : goal.returns-then-not-everywhere-2
returns-then-not-everywhere-2 g t c = let within : c.loop-n-2.n < count (parts_of (g.V.View.term c.args.view)) = omega (arith, c.count-n-end-in-Node.ensures) in sym (of_node _ _ _ _ _ _ _ _ _ _ _ c.in-Node.ensures (sym c.allows.ensures ∙ c.if-not-allows.false) (fails _ _ _ _ _ _ _ _ _ _ within c.part-in-loop-n-2.ensures c.inside-inner.ensures c.loop-n-2.invariant (sym c.everywhere-in-loop-n-2.ensures ∙ c.if-not-everywhere-2.true)))

pub loop-n-2-preserved : goal.loop-n-2-preserved
loop-n-2-preserved g t c = let within : c.loop-n-2.n < count (parts_of (g.V.View.term c.args.view)) = omega (arith, c.count-n-end-in-Node.ensures) in goes_on _ _ _ _ _ _ _ _ _ _ within c.part-in-loop-n-2.ensures c.inside-inner.ensures c.loop-n-2.invariant (sym c.everywhere-in-loop-n-2.ensures ∙ c.if-not-everywhere-2.false)

pub returns-after-loop-n : goal.returns-after-loop-n
returns-after-loop-n g t c = let all : c.loop-n.n ≡ count (parts_of (g.V.View.term c.args.view)) = omega (arith, c.count-n-end.ensures) in sym (of_list _ _ _ _ _ _ _ _ _ _ c.in-List.ensures c.item-inner.ensures (sym c.allows_list.ensures ∙ c.if-not-allows_list.false) (ends _ _ _ _ _ _ _ _ all c.loop-n.invariant))

pub returns-after-loop-n-2 : goal.returns-after-loop-n-2
returns-after-loop-n-2 g t c = let all : c.loop-n-2.n ≡ count (parts_of (g.V.View.term c.args.view)) = omega (arith, c.count-n-end-in-Node.ensures) in sym (of_node _ _ _ _ _ _ _ _ _ _ _ c.in-Node.ensures (sym c.allows.ensures ∙ c.if-not-allows.false) (ends _ _ _ _ _ _ _ _ all c.loop-n-2.invariant))
