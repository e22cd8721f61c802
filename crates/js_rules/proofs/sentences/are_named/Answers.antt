use Rattle.std.proofs.Common.{◌≡◌, ◌<◌, ◌≤◌, sym, ap, ◌∙◌, arith}
use Rattle.js_term.specs.declared.kind.Kind.TheVariants.{ImportSpecifier}
use Rattle.js_term.specs.Scope.{kid}
use Rattle.js_syntax.specs.Parts.{count, parts_of, is_node}
use Rattle.js_rules.proofs.Parts.{each_fails, each_next, each_ends}
use Rattle.js_rules.proofs.sentences.are_named.Goals as goal

pub returns-then-not-is : goal.returns-then-not-is
returns-then-not-is g c =
    let within : c.loop-n.n < count (parts_of (g.V.View.term c.args.specifiers.now)) = omega (arith, c.count-n-end.ensures) in
    let is : c.is.result ≡ is_node ImportSpecifier (kid c.loop-n.n (parts_of (g.V.View.term c.args.specifiers.now))) = c.is.ensures ∙ ap (is_node ImportSpecifier) c.part.ensures in
    sym (each_fails _ _ _ _ _ within is c.loop-n.invariant c.if-not-is.true)

pub loop-n-preserved : goal.loop-n-preserved
loop-n-preserved g c =
    let within : c.loop-n.n < count (parts_of (g.V.View.term c.args.specifiers.now)) = omega (arith, c.count-n-end.ensures) in
    let is : c.is.result ≡ is_node ImportSpecifier (kid c.loop-n.n (parts_of (g.V.View.term c.args.specifiers.now))) = c.is.ensures ∙ ap (is_node ImportSpecifier) c.part.ensures in
    each_next _ _ _ _ _ within is c.loop-n.invariant c.if-not-is.false

pub returns : goal.returns
returns g c =
    let past : count (parts_of (g.V.View.term c.args.specifiers.now)) ≤ c.loop-n.n = omega (arith, c.count-n-end.ensures) in
    sym (each_ends _ _ _ _ past c.loop-n.invariant)
