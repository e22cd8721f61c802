use Rattle.std.proofs.Common.{◌≡◌, take, map}
use Rattle.js_term.specs.Term.{all, append}
use Rattle.small_tree.specs.TermOf.{statement_term}
use Rattle.module_model.specs.Run.{getters}
use Rattle.prepare_core.specs.Names.{root_env}
use Rattle.prepare_core.proofs.exports.push_getters.Given as goal

abbrev pub invariant-loop-one : goal.invariant-loop-one
invariant-loop-one l = all (map statement_term l.out) ≡ append (all (map statement_term l.fn.out)) (getters (root_env l.imports) (take l.one-index l.one-items))
