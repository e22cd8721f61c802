use Rattle.std.proofs.Common.{◌∙◌, ap, refl}
use Rattle.small_tree.specs.TermOf.{declaration_term}
use Rattle.small_tree.specs.declared.function.Function.{Function}
use Rattle.small_tree.specs.declared.module.Declaration.TheVariants as declaration
use Rattle.js_read.proofs.Trees.{function_seen}
use Rattle.js_read.proofs.nodes.function.Goals as goal

pub returns : goal.returns
returns c = ap (λ (f : Function). declaration_term (declaration.FunctionDeclaration f)) c.in_ok-new.ensures ∙ function_seen _ c.args.id refl refl refl refl c.requires
