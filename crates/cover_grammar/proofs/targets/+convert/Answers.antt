use Rattle.std.proofs.Common.{rules, ◌≡◌, sym, ap, ◌∙◌, arith, Some}
use Rattle.std.specs.Prelude.{slice_get}
use Rattle.js_tree.specs.Parts.{kids}
use Rattle.js_tree.specs.TermOf.{term}
use Rattle.cover_grammar.specs.declared.targets.Step.TheVariants as step
use Rattle.std.proofs.Common.{map}
use Rattle.js_term.specs.Term.{all}
use Rattle.js_tree.proofs.PartLaws.{kid_is_smaller}
use Rattle.cover_grammar.specs.Converted.{targets}
use Rattle.std.proofs.Common.{◌++◌, ◌∷◌, [], add-one}
use Rattle.js_term.specs.declared.kind.Kind.{Kind}
use Rattle.js_syntax.specs.Nodes.{of_part}
use Rattle.js_tree.proofs.TermOf.{term_hole}
use Rattle.js_tree.proofs.PartLaws.{later_kids}
use Rattle.cover_grammar.specs.Becomes.{sole}
use Rattle.cover_grammar.specs.Converted.{become, item_becomes, rest_becomes}
use Rattle.cover_grammar.proofs.Converting.{step_here, item_here, item_next, none_left, rest_left, rest_made, map_more, most_list, same_there, within_list}
use Rattle.cover_grammar.proofs.Parting.{second_smaller, sole_smaller, list_smaller}
use Rattle.cover_grammar.proofs.targets.+convert.Goals as goal

pub convert-returns-in-Keep : goal.convert-returns-in-Keep
convert-returns-in-Keep t c = step_here _ _ _ _ step.Keep c.form.ensures c.step_of.ensures c.in-Keep.is

pub convert-returns-in-Refuse : goal.convert-returns-in-Refuse
convert-returns-in-Refuse t c = step_here _ _ _ _ step.Refuse c.form.ensures c.step_of.ensures c.in-Refuse.is

pub convert-returns-in-Default : goal.convert-returns-in-Default
convert-returns-in-Default t c =
    let here = step_here c.args.becoming c.args.node _ _ step.Default c.form.ensures c.step_of.ensures c.in-Default.is in
    rw here c.with_default.ensures

pub convert-returns-in_err-key-in-Pair : goal.convert-returns-in_err-key-in-Pair
convert-returns-in_err-key-in-Pair t c =
    let here = step_here c.args.becoming c.args.node _ _ step.Pair c.form.ensures c.step_of.ensures c.in-Pair.is in
    rw here (search rules)

pub convert-returns-in_err-target-in-Pair : goal.convert-returns-in_err-target-in-Pair
convert-returns-in_err-target-in-Pair t c =
    let here = step_here c.args.becoming c.args.node _ _ step.Pair c.form.ensures c.step_of.ensures c.in-Pair.is in
    rw here (search rules)

pub convert-returns-in_ok-of_two-in-Pair : goal.convert-returns-in_ok-of_two-in-Pair
convert-returns-in_ok-of_two-in-Pair t c =
    let here = step_here c.args.becoming c.args.node _ _ step.Pair c.form.ensures c.step_of.ensures c.in-Pair.is in
    rw here (search rules)

pub convert-returns-in_err-list-in-Items : goal.convert-returns-in_err-list-in-Items
convert-returns-in_err-list-in-Items t c =
    let here = step_here c.args.becoming c.args.node _ _ (step.Items c.in-Items.literal) c.form.ensures c.step_of.ensures c.in-Items.is in
    rw here (search rules)

pub convert-returns-in_err-items-in-Items : goal.convert-returns-in_err-items-in-Items
convert-returns-in_err-items-in-Items t c =
    let here = step_here c.args.becoming c.args.node _ _ (step.Items c.in-Items.literal) c.form.ensures c.step_of.ensures c.in-Items.is in
    rw here (search rules)

pub convert-returns-in_ok-of_two-in-Items : goal.convert-returns-in_ok-of_two-in-Items
convert-returns-in_ok-of_two-in-Items t c =
    let here = step_here c.args.becoming c.args.node _ _ (step.Items c.in-Items.literal) c.form.ensures c.step_of.ensures c.in-Items.is in
    rw here (search rules)

pub convert-convert-requires : goal.convert-convert-requires
convert-convert-requires t c = (omega (arith, second_smaller c.args.node c.in_ok-key-in-Pair.key c.in_ok-key-in-Pair.value c.in_ok-key-in-Pair.ensures), tt)

pub convert-gather-requires : goal.convert-gather-requires
convert-gather-requires t c = (omega (arith, list_smaller c.args.node c.in_ok-list-in-Items.list c.in_ok-list-in-Items.ensures), tt)

pub gather-replace_kid-item-requires : goal.gather-replace_kid-item-requires
gather-replace_kid-item-requires t c =
    same_there (kids c.loop-k.list) (kids c.args.list) c.loop-k.k (c.loop-k.invariant.later c.loop-k.k (omega arith)) (within_list c.args.list c.loop-k.k (omega arith))

pub gather-convert-requires : goal.gather-convert-requires
gather-convert-requires t c =
    (omega (arith, kid_is_smaller c.args.list c.loop-k.k c.replace_kid-item.result (sym (c.loop-k.invariant.later c.loop-k.k (omega arith)) ∙ c.replace_kid-item.ensures.given)), tt)

pub gather-returns-in_err-target : goal.gather-returns-in_err-target
gather-returns-in_err-target t c =
    let here = item_here c.args.literal (kids c.args.list) c.loop-k.k c.replace_kid-item.result (map term c.loop-k.items) (targets c.args.literal (all (map term (kids c.args.list)))) (omega arith) (sym (c.loop-k.invariant.later c.loop-k.k (omega arith)) ∙ c.replace_kid-item.ensures.given) c.loop-k.invariant.done in
    rw here (search rules)

pub gather-loop-k-preserved : goal.gather-loop-k-preserved
gather-loop-k-preserved t c =
    let given : slice_get (kids c.args.list) c.loop-k.k ≡ Some c.replace_kid-item.result = sym (c.loop-k.invariant.later c.loop-k.k (omega arith)) ∙ c.replace_kid-item.ensures.given in
    let becomes : become (item_becomes c.args.literal) (term c.replace_kid-item.result) ≡ Some (term c.in_ok-target.target) = ap (λ b. become b (term c.replace_kid-item.result)) (sym c.item.ensures) ∙ c.in_ok-target.ensures in
    let next = item_next c.args.literal (kids c.args.list) c.loop-k.k c.replace_kid-item.result (map term c.loop-k.items) (term c.in_ok-target.target) (targets c.args.literal (all (map term (kids c.args.list)))) (omega arith) given c.loop-k.invariant.done becomes in
    let pushed : map term c.push.new.self ≡ map term c.loop-k.items ++ term c.in_ok-target.target ∷ [] = ap (map term) c.in_ok-push.ensures.ok ∙ map_more c.loop-k.items c.in_ok-target.target in
    record {
      done = rw (add-one, pushed) next;
      later = λ j h. ap (λ n. slice_get (kids n) j) c.replace_kid-item.ensures.kept ∙ later_kids c.loop-k.list c.absent.result c.loop-k.k j (omega arith) ∙ c.loop-k.invariant.later j (omega arith);
    }

pub gather-returns-then-plain-count : goal.gather-returns-then-plain-count
gather-returns-then-plain-count t c =
    let whole = none_left c.args.literal (kids c.args.list) c.loop-k.k (map term c.loop-k.items) (targets c.args.literal (all (map term (kids c.args.list)))) (omega arith) (omega arith) c.loop-k.invariant.done in
    whole ∙ ap (λ r. Some (map term c.loop-k.items, r)) (sym (ap term c.absent-rest.ensures ∙ term_hole))

pub gather-replace_kid-spread-requires : goal.gather-replace_kid-spread-requires
gather-replace_kid-spread-requires t c =
    let most = most_list c.args.list in
    same_there (kids c.loop-k.list) (kids c.args.list) c.plain_count-plain.result (c.loop-k.invariant.later c.plain_count-plain.result (omega arith)) (omega arith)

pub gather-returns-in_err-argument : goal.gather-returns-in_err-argument
gather-returns-in_err-argument t c =
    let at : c.loop-k.k ≡ c.plain_count-plain.result = omega arith in
    let given : slice_get (kids c.args.list) c.loop-k.k ≡ Some c.replace_kid-spread.result = sym (c.loop-k.invariant.later c.loop-k.k (omega arith)) ∙ ap (slice_get (kids c.loop-k.list)) at ∙ c.replace_kid-spread.ensures.given in
    let here = rest_left c.args.literal (kids c.args.list) c.loop-k.k c.replace_kid-spread.result (map term c.loop-k.items) (targets c.args.literal (all (map term (kids c.args.list)))) (omega arith) given c.loop-k.invariant.done in
    rw here (search rules)

pub gather-convert-requires-2 : goal.gather-convert-requires-2
gather-convert-requires-2 t c =
    let inner = sole_smaller c.replace_kid-spread.result c.in_ok-argument.argument c.in_ok-argument.ensures in
    let outer = kid_is_smaller c.args.list c.plain_count-plain.result c.replace_kid-spread.result (sym (c.loop-k.invariant.later c.plain_count-plain.result (omega arith)) ∙ c.replace_kid-spread.ensures.given) in
    (omega (arith, inner, outer), tt)

pub gather-returns-in_err-target-2 : goal.gather-returns-in_err-target-2
gather-returns-in_err-target-2 t c =
    let at : c.loop-k.k ≡ c.plain_count-plain.result = omega arith in
    let given : slice_get (kids c.args.list) c.loop-k.k ≡ Some c.replace_kid-spread.result = sym (c.loop-k.invariant.later c.loop-k.k (omega arith)) ∙ ap (slice_get (kids c.loop-k.list)) at ∙ c.replace_kid-spread.ensures.given in
    let here = rest_left c.args.literal (kids c.args.list) c.loop-k.k c.replace_kid-spread.result (map term c.loop-k.items) (targets c.args.literal (all (map term (kids c.args.list)))) (omega arith) given c.loop-k.invariant.done in
    rw here (search rules)

pub gather-returns : goal.gather-returns
gather-returns t c =
    let at : c.loop-k.k ≡ c.plain_count-plain.result = omega arith in
    let given : slice_get (kids c.args.list) c.loop-k.k ≡ Some c.replace_kid-spread.result = sym (c.loop-k.invariant.later c.loop-k.k (omega arith)) ∙ ap (slice_get (kids c.loop-k.list)) at ∙ c.replace_kid-spread.ensures.given in
    let here = rest_left c.args.literal (kids c.args.list) c.loop-k.k c.replace_kid-spread.result (map term c.loop-k.items) (targets c.args.literal (all (map term (kids c.args.list)))) (omega arith) given c.loop-k.invariant.done in
    let argument : sole (kids c.replace_kid-spread.result) ≡ Some c.in_ok-argument.argument = c.in_ok-argument.ensures in
    let becomes : become (rest_becomes c.args.literal) (term c.in_ok-argument.argument) ≡ Some (term c.in_ok-target-2.target) = ap (λ b. become b (term c.in_ok-argument.argument)) (sym c.rest.ensures) ∙ c.in_ok-target-2.ensures in
    let made : term c.in_ok-rest.rest ≡ of_part Kind.AssignmentTargetRest (term c.in_ok-target-2.target) = c.in_ok-rest.ensures.seen in
    here ∙ rest_made c.args.literal c.replace_kid-spread.result c.in_ok-argument.argument (map term c.loop-k.items) (term c.in_ok-target-2.target) (term c.in_ok-rest.rest) argument becomes made
