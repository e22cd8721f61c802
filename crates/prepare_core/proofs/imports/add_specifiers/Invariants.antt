use Rattle.std.proofs.Common.{◌++◌, take, map}
use Rattle.js_term.specs.Scope.{bound_by}
use Rattle.js_term.specs.Term.{all}
use Rattle.small_tree.specs.TermOf.{specifier_term}
use Rattle.prepare_core.specs.Names.{HasImports, brought_in}
use Rattle.prepare_core.proofs.imports.add_specifiers.Given as goal

abbrev pub invariant-loop-one : goal.invariant-loop-one
invariant-loop-one l = HasImports (brought_in l.fn.imports.entries ++ bound_by l.request (all (map specifier_term (take l.one-index l.items)))) l.imports.entries
