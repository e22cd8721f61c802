use Rattle.std.proofs.Common.{◌≡◌, take, map}
use Rattle.js_term.specs.Term.{all}
use Rattle.small_tree.specs.TermOf.{statement_term}
use Rattle.module_model.specs.Meaning.{all_handed_out}
use Rattle.prepare_core.proofs.exports.exported.Given as goal

abbrev pub invariant-loop-one : goal.invariant-loop-one
invariant-loop-one l = l.out ≡ all_handed_out (all (map statement_term (take l.one-index l.body)))
