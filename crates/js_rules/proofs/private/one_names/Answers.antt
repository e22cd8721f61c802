use Rattle.std.proofs.Common.{◌≡◌, ◌<◌, ◌≤◌, sym, ap, ◌∙◌, arith}
use Rattle.js_term.specs.Lexeme.{is_one_of}
use Rattle.js_term.specs.Term.{Term}
use Rattle.js_term.specs.Scope.{kid}
use Rattle.js_syntax.specs.Parts.{count, parts_of}
use Rattle.js_syntax.specs.ModuleTree.{private_name}
use Rattle.js_rules.proofs.Declared.{names_found, names_next, names_end}
use Rattle.js_rules.proofs.private.one_names.Goals as goal

pub returns-then-names : goal.returns-then-names
returns-then-names g c =
    let within : c.loop-n.n < count (parts_of (g.V.View.term c.args.elements.now)) = omega (arith, c.count-n-end.ensures) in
    let is : c.names.result ≡ is_one_of c.args.name.now (private_name (kid 0 (parts_of (kid c.loop-n.n (parts_of (g.V.View.term c.args.elements.now)))))) = c.names.ensures ∙ ap (λ (t : Term). is_one_of c.args.name.now (private_name (kid 0 (parts_of t)))) c.part.ensures in
    sym (names_found _ _ _ _ _ within is c.loop-n.invariant c.if-names.true)

pub loop-n-preserved : goal.loop-n-preserved
loop-n-preserved g c =
    let within : c.loop-n.n < count (parts_of (g.V.View.term c.args.elements.now)) = omega (arith, c.count-n-end.ensures) in
    let is : c.names.result ≡ is_one_of c.args.name.now (private_name (kid 0 (parts_of (kid c.loop-n.n (parts_of (g.V.View.term c.args.elements.now)))))) = c.names.ensures ∙ ap (λ (t : Term). is_one_of c.args.name.now (private_name (kid 0 (parts_of t)))) c.part.ensures in
    names_next _ _ _ _ _ within is c.loop-n.invariant c.if-names.false

pub returns : goal.returns
returns g c =
    let past : count (parts_of (g.V.View.term c.args.elements.now)) ≤ c.loop-n.n = omega (arith, c.count-n-end.ensures) in
    sym (names_end _ _ _ _ past c.loop-n.invariant)
