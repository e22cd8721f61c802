use Rattle.std.proofs.Common.{◌≡◌, ◌<◌, sym, ap, ◌∙◌, arith, nat_le}
use Rattle.js_term.specs.Scope.{kid}
use Rattle.js_syntax.specs.Parts.{count, parts_of}
use Rattle.js_syntax.specs.ModuleTree.{is_constructor}
use Rattle.js_rules.proofs.Parts.{count_next, count_all}
use Rattle.js_rules.proofs.initializers.has_one_constructor.Goals as goal

pub loop-n-preserved : goal.loop-n-preserved
loop-n-preserved g c =
    let within : c.loop-n.n < count (parts_of (g.V.View.term c.args.elements.now)) = omega (arith, c.count-n-end.ensures) in
    let is : c.is_constructor.result ≡ is_constructor (kid c.loop-n.n (parts_of (g.V.View.term c.args.elements.now))) = c.is_constructor.ensures ∙ ap is_constructor c.part.ensures in
    (rw c.one_if-number.ensures.value (count_next is_constructor _ _ _ _ within is c.loop-n.invariant.0), omega (arith, c.one_if-number.ensures.one_at_most))

pub returns : goal.returns
returns g c =
    let all : c.loop-n.n ≡ count (parts_of (g.V.View.term c.args.elements.now)) = omega (arith, c.count-n-end.ensures) in
    sym (ap (λ m. nat_le m 1) (count_all is_constructor _ _ _ all c.loop-n.invariant.0))
