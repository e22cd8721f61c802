use Rattle.std.proofs.Common.{◌≡◌, take, map, length}
use Rattle.js_term.specs.Scope.{all_brought}
use Rattle.js_term.specs.Term.{all}
use Rattle.small_tree.specs.TermOf.{statement_term}
use Rattle.module_model.specs.Meaning.{requests}
use Rattle.prepare_core.specs.Names.{HasImports}
use Rattle.prepare_core.proofs.imports.imports_of.Given as goal

abbrev pub invariant-loop-one : goal.invariant-loop-one
invariant-loop-one l = record {
  names : HasImports (all_brought 0 (all (map statement_term (take l.one-index l.body)))) l.imports.entries;
  number : l.request ≡ length (requests (all (map statement_term (take l.one-index l.body))));
}
