use Rattle.std.proofs.Common.{rules, ◌<◌, sym, subst, ap, ◌∙◌, refl, arith, length}
use Rattle.std.specs.Prelude.{◌∷◌, []}
use Rattle.std.specs.Fn.{CalledAt}
use Rattle.std.specs.List.{FoldsTo}
use Rattle.js_tree.specs.Parts.{kids}
use Rattle.js_tree.specs.BoundNames.{CallableAtEach, names, all_names}
use denote.Param.Weighed.{most}
use Rattle.js_tree.specs.declared.node.Node.{size-Node, size_is-Node}
use Rattle.js_tree.proofs.PartLaws.{kid_is_smaller}
use Rattle.js_tree.proofs.Names.{item_fits, names_when, flat_names, kid_there, kid_missing, called_more, called_all, callable_item, callable_later}
use Rattle.js_tree.proofs.+names.Goals as goal

pub node::Node::bound_names-returns-in-Name : goal.node::Node::bound_names-returns-in-Name
node::Node::bound_names-returns-in-Name g t c =
    let here = names_when c.args.self.now _ _ _ c.form.ensures c.binding_at.ensures c.in-Name.is in
    let called : FoldsTo (λ p n q. CalledAt g.F.FnMut p n tt q) c.args.f.now (c.args.self.now ∷ []) c.f.new.self = (c.f.new.self, record { shown = _; shows = refl; called = c.f.ensures }, refl) in
    subst (λ ns. FoldsTo (λ p n q. CalledAt g.F.FnMut p n tt q) c.args.f.now ns c.f.new.self) (sym here) called

pub node::Node::bound_names-returns-in-Kids : goal.node::Node::bound_names-returns-in-Kids
unfolding kids
node::Node::bound_names-returns-in-Kids g t c =
    let here = names_when c.args.self.now _ _ _ c.form.ensures c.binding_at.ensures c.in-Kids.is ∙ flat_names (kids c.args.self.now) in
    subst (λ ns. FoldsTo (λ p n q. CalledAt g.F.FnMut p n tt q) c.args.f.now ns c.each_name.new.f) (ap all_names c.as_slice.ensures ∙ sym here) c.each_name.ensures

pub node::Node::bound_names-returns-in-Some : goal.node::Node::bound_names-returns-in-Some
unfolding kids
node::Node::bound_names-returns-in-Some g t c =
    let here = names_when c.args.self.now _ _ _ c.form.ensures c.binding_at.ensures c.in-Kid.is in
    let there = kid_there (kids c.args.self.now) c.in-Kid.at c.in-Some.kid.now c.in-Some.ensures.value in
    subst (λ ns. FoldsTo (λ p n q. CalledAt g.F.FnMut p n tt q) c.args.f.now ns c.bound_names.new.f) (sym (here ∙ there)) c.bound_names.ensures

pub node::Node::bound_names-returns-in_default : goal.node::Node::bound_names-returns-in_default
unfolding kids
node::Node::bound_names-returns-in_default g t c =
    let here = names_when c.args.self.now _ _ _ c.form.ensures c.binding_at.ensures c.in-Kid.is in
    let missing = kid_missing (kids c.args.self.now) c.in-Kid.at c.in_default.ensures.value in
    subst (λ ns. FoldsTo (λ p n q. CalledAt g.F.FnMut p n tt q) c.args.f.now ns c.args.f.now) (sym (here ∙ missing)) refl

pub node::Node::bound_names-returns-in-Nothing : goal.node::Node::bound_names-returns-in-Nothing
node::Node::bound_names-returns-in-Nothing g t c =
    let here = names_when c.args.self.now _ _ _ c.form.ensures c.binding_at.ensures c.in-Nothing.is in
    subst (λ ns. FoldsTo (λ p n q. CalledAt g.F.FnMut p n tt q) c.args.f.now ns c.args.f.now) (sym here) refl

pub node::Node::bound_names-f-requires : goal.node::Node::bound_names-f-requires
node::Node::bound_names-f-requires g t c =
    let here = names_when c.args.self.now _ _ _ c.form.ensures c.binding_at.ensures c.in-Name.is in
    let ready = subst (CallableAtEach g.F.FnMut c.args.f.now) here c.requires in
    ready.0 c.args.self refl

pub node::Node::bound_names-each_name-requires : goal.node::Node::bound_names-each_name-requires
unfolding kids
node::Node::bound_names-each_name-requires g t c κs within =
    let here = names_when c.args.self.now _ _ _ c.form.ensures c.binding_at.ensures c.in-Kids.is ∙ flat_names (kids c.args.self.now) in
    (omega (arith, size_is-Node c.args.self.now, ap (most size-Node) c.as_slice.ensures), (search rules, subst (CallableAtEach g.F.FnMut c.args.f.now) (here ∙ sym (ap all_names c.as_slice.ensures)) c.requires))

pub node::Node::bound_names-bound_names-requires : goal.node::Node::bound_names-bound_names-requires
unfolding kids
node::Node::bound_names-bound_names-requires g t c κs within =
    let here = names_when c.args.self.now _ _ _ c.form.ensures c.binding_at.ensures c.in-Kid.is in
    let there = kid_there (kids c.args.self.now) c.in-Kid.at c.in-Some.kid.now c.in-Some.ensures.value in
    (omega (arith, kid_is_smaller c.args.self.now c.in-Kid.at c.in-Some.kid.now (sym c.in-Some.ensures.value)), (search rules, subst (CallableAtEach g.F.FnMut c.args.f.now) (here ∙ there) c.requires))

pub binding::each_name-bound_names-requires : goal.binding::each_name-bound_names-requires
binding::each_name-bound_names-requires g t c κs within =
    let lt : c.loop-part.part-index < length c.args.parts.now = omega arith in
    (omega (arith, item_fits c.args.parts.now c.loop-part.part-index _ c.part-item.result lt c.part-item.is), (search rules, callable_item g.F.FnMut names c.args.parts.now c.loop-part.part-index c.part-item.result _ lt c.part-item.is c.loop-part.invariant.callable))

pub binding::each_name-loop-part-preserved : goal.binding::each_name-loop-part-preserved
binding::each_name-loop-part-preserved g t c =
    let lt : c.loop-part.part-index < length c.args.parts.now = omega arith in
    record {
      callable = callable_later g.F.FnMut names c.args.parts.now c.loop-part.part-index c.part-item.result _ _ lt c.part-item.is c.loop-part.invariant.callable c.bound_names.ensures;
      called = called_more _ names _ _ c.part-item.result _ _ _ lt c.loop-part.invariant.called (subst (λ n. FoldsTo (λ p n q. CalledAt g.F.FnMut p n tt q) c.loop-part.f (names n) c.bound_names.new.f) c.part-item.is c.bound_names.ensures);
    }

pub binding::each_name-returns : goal.binding::each_name-returns
binding::each_name-returns g t c = called_all _ names c.args.parts.now c.loop-part.part-index _ _ (omega arith) c.loop-part.invariant.called
