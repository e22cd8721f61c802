use Rattle.std.proofs.Common.{◌≡◌, ◌<◌, sym, ap, ◌∙◌, arith, nat_le}
use Rattle.js_term.specs.Scope.{kid}
use Rattle.js_syntax.specs.Parts.{count, parts_of}
use Rattle.js_syntax.specs.Printable.{is_default}
use Rattle.js_rules.proofs.Parts.{count_next, count_all}
use Rattle.js_rules.proofs.sentences.has_one_default.Goals as goal

pub loop-n-preserved : goal.loop-n-preserved
loop-n-preserved g c =
    let within : c.loop-n.n < count (parts_of (g.V.View.term c.args.cases.now)) = omega (arith, c.count-n-end.ensures) in
    let is : c.is_default.result ≡ is_default (kid c.loop-n.n (parts_of (g.V.View.term c.args.cases.now))) = c.is_default.ensures ∙ ap is_default c.part.ensures in
    (rw c.one_if-number.ensures.value (count_next is_default _ _ _ _ within is c.loop-n.invariant.0), omega (arith, c.one_if-number.ensures.one_at_most))

pub returns : goal.returns
returns g c =
    let all : c.loop-n.n ≡ count (parts_of (g.V.View.term c.args.cases.now)) = omega (arith, c.count-n-end.ensures) in
    sym (ap (λ m. nat_le m 1) (count_all is_default _ _ _ all c.loop-n.invariant.0))
