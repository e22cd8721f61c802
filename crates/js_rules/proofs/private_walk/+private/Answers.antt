use Rattle.std.proofs.Common.{rules, ◌≡◌, ◌<◌, ◌+◌, ◌*◌, true, true≢false, List, sym, ap, ◌∙◌, arith}
use Rattle.js_term.specs.Term.{Text, Term}
use Rattle.js_term.specs.declared.kind.Kind.TheVariants as Kind
use Rattle.js_term.specs.Kinds.{is_kind}
use Rattle.js_syntax.specs.Parts.{count, parts_of, texts_of, text_at}
use Rattle.js_syntax.specs.ModuleTree.{is_declared}
use Rattle.js_rules.specs.OuterSeen.{declared_names, terms_of, parts_have_private_names}
use Rattle.js_rules.proofs.Rolled.{rolled}
use Rattle.js_rules.specs.Seen.{size}
use Rattle.js_rules.proofs.Parts.{part_is_smaller}
use Rattle.js_rules.proofs.Privates.{of_list, of_class, of_other, part_fails, part_holds, parts_end}
use Rattle.js_rules.proofs.private_walk.+private.Goals as goal
use Rattle.js_rules.proofs.private_walk.+private.Goals.{has_private_names-else-is_kind-via-then-is_kind+else-not-is_declared, has_private_names-else-is_kind-via-else-is_kind}

pub parts_have_private_names-has_private_names-requires : goal.parts_have_private_names-has_private_names-requires
parts_have_private_names-has_private_names-requires g t c κs within =
    let smaller : size (g.V.View.term c.part.result) < size (g.V.View.term c.args.view) = part_is_smaller _ _ c.loop-n.n (search rules) c.part.ensures in
    let falls : 2 * size (g.V.View.term c.part.result) + 1 < 2 * size (g.V.View.term c.args.view) = omega arith in
    search rules

pub parts_have_private_names-returns-then-not-has_private_names : goal.parts_have_private_names-returns-then-not-has_private_names
parts_have_private_names-returns-then-not-has_private_names g t c =
    let within : c.loop-n.n < count (parts_of (g.V.View.term c.args.view)) = omega (arith, c.count-n-end.ensures) in
    part_fails _ _ _ _ _ _ within c.part.ensures c.classes_round.ensures c.loop-n.invariant (sym c.has_private_names.ensures ∙ c.if-not-has_private_names.true)

pub parts_have_private_names-loop-n-preserved : goal.parts_have_private_names-loop-n-preserved
parts_have_private_names-loop-n-preserved g t c =
    let within : c.loop-n.n < count (parts_of (g.V.View.term c.args.view)) = omega (arith, c.count-n-end.ensures) in
    part_holds _ _ _ _ _ _ within c.part.ensures c.classes_round.ensures c.loop-n.invariant (sym c.has_private_names.ensures ∙ c.if-not-has_private_names.false)

pub parts_have_private_names-returns : goal.parts_have_private_names-returns
parts_have_private_names-returns g t c =
    let all : c.loop-n.n ≡ count (parts_of (g.V.View.term c.args.view)) = omega (arith, c.count-n-end.ensures) in
    parts_end _ _ _ _ all c.loop-n.invariant

pub has_private_names-returns-in-List : goal.has_private_names-returns-in-List
has_private_names-returns-in-List g t c = of_list _ _ _ _ c.in-List.ensures c.parts_have_private_names.ensures

pub has_private_names-returns-then-is_class : goal.has_private_names-returns-then-is_class
has_private_names-returns-then-is_class g t c =
    let names = declared_names (terms_of g.V.View.term c.args.classes) in
    let declared : is_kind c.in-Node.kind Kind.PrivateIdentifier ≡ true → is_declared (text_at 0 (texts_of (g.V.View.term c.args.view))) names ≡ true = elim c.else-is_kind.branch [ has_private_names-else-is_kind-via-then-is_kind+else-not-is_declared w ↦ λ h. sym (ap (λ (x : Text). is_declared x names) w.text.ensures) ∙ (sym w.is_declared.ensures ∙ w.if-not-is_declared.false) | has_private_names-else-is_kind-via-else-is_kind w ↦ λ h. absurd (true≢false (sym h ∙ sym c.is_kind.ensures ∙ w.if-is_kind.false)) ] in
    c.parts_have_private_names-then-is_class.ensures ∙ (ap (λ (us : List Term). parts_have_private_names names (declared_names us) (parts_of (g.V.View.term c.args.view))) (rolled g.V.View.term c.args.view c.args.classes) ∙ sym (of_class names _ _ _ _ c.in-Node.ensures declared (sym c.is_class.ensures ∙ c.if-is_class.true)))

pub has_private_names-returns-else-is_class : goal.has_private_names-returns-else-is_class
has_private_names-returns-else-is_class g t c =
    let names = declared_names (terms_of g.V.View.term c.args.classes) in
    let declared : is_kind c.in-Node.kind Kind.PrivateIdentifier ≡ true → is_declared (text_at 0 (texts_of (g.V.View.term c.args.view))) names ≡ true = elim c.else-is_kind.branch [ has_private_names-else-is_kind-via-then-is_kind+else-not-is_declared w ↦ λ h. sym (ap (λ (x : Text). is_declared x names) w.text.ensures) ∙ (sym w.is_declared.ensures ∙ w.if-not-is_declared.false) | has_private_names-else-is_kind-via-else-is_kind w ↦ λ h. absurd (true≢false (sym h ∙ sym c.is_kind.ensures ∙ w.if-is_kind.false)) ] in
    c.parts_have_private_names-else-is_class.ensures ∙ sym (of_other names _ _ _ _ c.in-Node.ensures declared (sym c.is_class.ensures ∙ c.if-is_class.false))
