use Rattle.std.proofs.Common.{arith, ◌∙◌, refl, sym, ap, map, length}
use Rattle.std.specs.Vec.Iter.{into_iter_items}
use Rattle.js_term.specs.Term.{all}
use Rattle.small_tree.specs.TermOf.{statement_term}
use Rattle.prepare_core.specs.Names.{root_env}
use Rattle.prepare_core.proofs.Asked.{append_none, kept_turn}
use Rattle.std.proofs.lemmas.List.{nil_from_length}
use Rattle.prepare_core.proofs.kept.push_all_kept.Goals as goal

pub loop-one-init : goal.loop-one-init
loop-one-init c =
    let gives = c.into_iter-one-iterator.ensures.into_iter_gives in
    record {
      same = c.new-scopes.ensures;
      len = gives.1 ∙ c.into_vec-one-items.result.ok.0 ∙ sym (ap length gives.0);
      terms = rw (gives.0, c.into_vec-one-items.ensures) refl;
    }

pub loop-one-preserved : goal.loop-one-preserved
loop-one-preserved c =
    let steps = c.in-Some.ensures.steps in
    record {
      same = c.in_ok-push_kept.ensures.scopes ∙ c.loop-one.invariant.same;
      len = omega (arith, steps.1, c.loop-one.invariant.len, ap length steps.0);
      terms = kept_turn (root_env c.args.imports.now) c.in-Some.one (into_iter_items c.next.new.self) c.loop-one.out c.push_kept.new.out _ (rw steps.0 at c.loop-one.invariant.terms) (rw c.loop-one.invariant.same at c.in_ok-push_kept.ensures.terms);
    }

pub returns : goal.returns
returns c =
    let none = nil_from_length (into_iter_items c.loop-one.one-iterator) (omega (arith, c.loop-one.invariant.len, c.in-None.ensures.steps.0)) in
    sym (append_none (all (map statement_term c.loop-one.out))) ∙ (rw none at c.loop-one.invariant.terms)
