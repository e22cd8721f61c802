use Rattle.std.proofs.Common.{rules, ◌≡◌, ◌++◌, ◌∷◌, [], map, add-one, sym, ap, ◌∙◌, arith, Some}
use Rattle.std.specs.Prelude.{slice_get}
use Rattle.js_tree.specs.Parts.{kids}
use Rattle.js_tree.specs.TermOf.{term}
use Rattle.js_tree.proofs.PartLaws.{kid_is_smaller, later_kids}
use Rattle.cover_grammar.specs.Bound.{bind, each_as}
use Rattle.cover_grammar.specs.declared.patterns.Turn.TheVariants as turn
use Rattle.cover_grammar.proofs.Converting.{map_more}
use Rattle.cover_grammar.proofs.Binds.{turn_here, each_here, each_next}
use Rattle.cover_grammar.proofs.Parting.{sole_smaller, first_smaller, second_smaller, listed_of}
use Rattle.cover_grammar.proofs.patterns.+bind.Goals as goal

pub bind-returns-in-Keep : goal.bind-returns-in-Keep
bind-returns-in-Keep t c = turn_here _ _ _ _ turn.Keep c.form.ensures c.turn_of.ensures c.in-Keep.is

pub bind-returns-in-Refuse : goal.bind-returns-in-Refuse
bind-returns-in-Refuse t c = turn_here _ _ _ _ turn.Refuse c.form.ensures c.turn_of.ensures c.in-Refuse.is

pub bind-returns-in-Name : goal.bind-returns-in-Name
bind-returns-in-Name t c =
    let here = turn_here c.args.binding c.args.node _ _ (turn.Name) c.form.ensures c.turn_of.ensures c.in-Name.is in
    rw here c.to_name.ensures

pub bind-returns-in_err-target-in-Default : goal.bind-returns-in_err-target-in-Default
bind-returns-in_err-target-in-Default t c =
    let here = turn_here c.args.binding c.args.node _ _ (turn.Default) c.form.ensures c.turn_of.ensures c.in-Default.is in
    rw here (search rules)

pub bind-returns-in_err-pattern-in-Default : goal.bind-returns-in_err-pattern-in-Default
bind-returns-in_err-pattern-in-Default t c =
    let here = turn_here c.args.binding c.args.node _ _ (turn.Default) c.form.ensures c.turn_of.ensures c.in-Default.is in
    rw here (search rules)

pub bind-returns-in_ok-of_two-in-Default : goal.bind-returns-in_ok-of_two-in-Default
bind-returns-in_ok-of_two-in-Default t c =
    let here = turn_here c.args.binding c.args.node _ _ (turn.Default) c.form.ensures c.turn_of.ensures c.in-Default.is in
    rw here (search rules)

pub bind-returns-in_err-key-in-Pair : goal.bind-returns-in_err-key-in-Pair
bind-returns-in_err-key-in-Pair t c =
    let here = turn_here c.args.binding c.args.node _ _ (turn.Pair) c.form.ensures c.turn_of.ensures c.in-Pair.is in
    rw here (search rules)

pub bind-returns-in_err-pattern-in-Pair : goal.bind-returns-in_err-pattern-in-Pair
bind-returns-in_err-pattern-in-Pair t c =
    let here = turn_here c.args.binding c.args.node _ _ (turn.Pair) c.form.ensures c.turn_of.ensures c.in-Pair.is in
    rw here (search rules)

pub bind-returns-in_ok-of_two-in-Pair : goal.bind-returns-in_ok-of_two-in-Pair
bind-returns-in_ok-of_two-in-Pair t c =
    let here = turn_here c.args.binding c.args.node _ _ (turn.Pair) c.form.ensures c.turn_of.ensures c.in-Pair.is in
    rw here (search rules)

pub bind-returns-in_err-target-in-Rest : goal.bind-returns-in_err-target-in-Rest
bind-returns-in_err-target-in-Rest t c =
    let here = turn_here c.args.binding c.args.node _ _ (turn.Rest c.in-Rest.inner) c.form.ensures c.turn_of.ensures c.in-Rest.is in
    rw here (search rules)

pub bind-returns-in_err-pattern-in-Rest : goal.bind-returns-in_err-pattern-in-Rest
bind-returns-in_err-pattern-in-Rest t c =
    let here = turn_here c.args.binding c.args.node _ _ (turn.Rest c.in-Rest.inner) c.form.ensures c.turn_of.ensures c.in-Rest.is in
    rw here (search rules)

pub bind-returns-in_ok-of_one-in-Rest : goal.bind-returns-in_ok-of_one-in-Rest
bind-returns-in_ok-of_one-in-Rest t c =
    let here = turn_here c.args.binding c.args.node _ _ (turn.Rest c.in-Rest.inner) c.form.ensures c.turn_of.ensures c.in-Rest.is in
    rw here (search rules)

pub bind-returns-in_err-list-in-Pattern : goal.bind-returns-in_err-list-in-Pattern
bind-returns-in_err-list-in-Pattern t c =
    let here = turn_here c.args.binding c.args.node _ _ (turn.Pattern c.in-Pattern.items) c.form.ensures c.turn_of.ensures c.in-Pattern.is in
    rw here (search rules)

pub bind-returns-in_err-patterns-in-Pattern : goal.bind-returns-in_err-patterns-in-Pattern
bind-returns-in_err-patterns-in-Pattern t c =
    let here = turn_here c.args.binding c.args.node _ _ (turn.Pattern c.in-Pattern.items) c.form.ensures c.turn_of.ensures c.in-Pattern.is in
    rw here (search rules)

pub bind-returns-in_err-rest-in-Pattern : goal.bind-returns-in_err-rest-in-Pattern
bind-returns-in_err-rest-in-Pattern t c =
    let here = turn_here c.args.binding c.args.node _ _ (turn.Pattern c.in-Pattern.items) c.form.ensures c.turn_of.ensures c.in-Pattern.is in
    rw here (search rules)

pub bind-returns-in_ok-of_two-in-Pattern : goal.bind-returns-in_ok-of_two-in-Pattern
bind-returns-in_ok-of_two-in-Pattern t c =
    let here = turn_here c.args.binding c.args.node _ _ (turn.Pattern c.in-Pattern.items) c.form.ensures c.turn_of.ensures c.in-Pattern.is in
    rw here (search rules)

pub bind-bind-requires : goal.bind-bind-requires
bind-bind-requires t c = (omega (arith, first_smaller c.args.node c.in_ok-target-in-Default.target c.in_ok-target-in-Default.value c.in_ok-target-in-Default.ensures), tt)

pub bind-bind-requires-in-Pair : goal.bind-bind-requires-in-Pair
bind-bind-requires-in-Pair t c = (omega (arith, second_smaller c.args.node c.in_ok-key-in-Pair.key c.in_ok-key-in-Pair.value c.in_ok-key-in-Pair.ensures), tt)

pub bind-bind-requires-in-Rest : goal.bind-bind-requires-in-Rest
bind-bind-requires-in-Rest t c = (omega (arith, sole_smaller c.args.node c.in_ok-target-in-Rest.target c.in_ok-target-in-Rest.ensures), tt)

pub bind-bind_all-requires : goal.bind-bind_all-requires
bind-bind_all-requires t c = (omega (arith, first_smaller c.args.node c.in_ok-list-in-Pattern.list c.in_ok-list-in-Pattern.rest (listed_of _ _ c.in_ok-list-in-Pattern.ensures)), tt)

pub bind-bind-requires-in-Pattern : goal.bind-bind-requires-in-Pattern
bind-bind-requires-in-Pattern t c = (omega (arith, second_smaller c.args.node c.in_ok-list-in-Pattern.list c.in_ok-list-in-Pattern.rest (listed_of _ _ c.in_ok-list-in-Pattern.ensures)), tt)

pub bind_all-bind-requires : goal.bind_all-bind-requires
bind_all-bind-requires t c =
    let given : slice_get (kids c.args.list) c.loop-k.k ≡ Some c.replace_kid-item.result = sym (c.loop-k.invariant.later c.loop-k.k (omega arith)) ∙ c.replace_kid-item.ensures.given in
    (omega (arith, kid_is_smaller c.args.list c.loop-k.k c.replace_kid-item.result given), tt)

pub bind_all-returns-in_err-pattern : goal.bind_all-returns-in_err-pattern
bind_all-returns-in_err-pattern t c =
    let given : slice_get (kids c.args.list) c.loop-k.k ≡ Some c.replace_kid-item.result = sym (c.loop-k.invariant.later c.loop-k.k (omega arith)) ∙ c.replace_kid-item.ensures.given in
    let here = each_here (bind c.args.binding) (kids c.args.list) c.loop-k.k c.replace_kid-item.result (map term c.loop-k.patterns) (each_as (bind c.args.binding) (map term (kids c.args.list))) given c.loop-k.invariant.done in
    rw here (search rules)

pub bind_all-loop-k-preserved : goal.bind_all-loop-k-preserved
bind_all-loop-k-preserved t c =
    let given : slice_get (kids c.args.list) c.loop-k.k ≡ Some c.replace_kid-item.result = sym (c.loop-k.invariant.later c.loop-k.k (omega arith)) ∙ c.replace_kid-item.ensures.given in
    let next = each_next (bind c.args.binding) (kids c.args.list) c.loop-k.k c.replace_kid-item.result (map term c.loop-k.patterns) (term c.in_ok-pattern.pattern) (each_as (bind c.args.binding) (map term (kids c.args.list))) given c.loop-k.invariant.done c.in_ok-pattern.ensures in
    let pushed : map term c.push.new.self ≡ map term c.loop-k.patterns ++ term c.in_ok-pattern.pattern ∷ [] = ap (map term) c.in_ok-push.ensures.ok ∙ map_more c.loop-k.patterns c.in_ok-pattern.pattern in
    record {
      done = rw (add-one, pushed) next;
      later = λ j h. ap (λ n. slice_get (kids n) j) c.replace_kid-item.ensures.kept ∙ later_kids c.loop-k.list c.absent.result c.loop-k.k j (omega arith) ∙ c.loop-k.invariant.later j (omega arith);
    }
