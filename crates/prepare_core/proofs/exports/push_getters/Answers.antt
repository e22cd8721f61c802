use Rattle.std.proofs.Common.{sym, arith, map}
use Rattle.js_term.specs.Term.{all}
use Rattle.small_tree.specs.TermOf.{statement_term}
use Rattle.prepare_core.specs.Names.{root_env}
use Rattle.prepare_core.proofs.Asked.{append_none, getters_next}
use Rattle.prepare_core.proofs.exports.push_getters.Goals as goal

pub loop-one-init : goal.loop-one-init
loop-one-init c = sym (append_none (all (map statement_term c.args.out.now)))

pub loop-one-preserved : goal.loop-one-preserved
loop-one-preserved c =
    getters_next (root_env c.args.imports.now) c.as_slice-one-items.result.now c.loop-one.out c.push_getter.new.out (all (map statement_term c.args.out.now)) c.loop-one.one-index c.one-item.result c.one-item.result (omega arith) c.one-item.is c.loop-one.invariant c.in_ok-push_getter.ensures
