use Rattle.std.proofs.Common.{◌∙◌}
use Rattle.std.proofs.lemmas.Result.{on_ok_weaker}
use Rattle.small_tree.specs.TermOf.{statement_term}
use Rattle.prepare_core.specs.Names.{names_env}
use Rattle.prepare_core.proofs.Asked.{other_kept, export_kept}
use Rattle.prepare_core.proofs.kept.push_other.Goals as goal

pub returns-in_ok-rewrite_statement-in-None-clause-terms : goal.returns-in_ok-rewrite_statement-in-None-clause-terms
returns-in_ok-rewrite_statement-in-None-clause-terms c =
    on_ok_weaker c.push.result
    (λ p. other_kept (names_env c.args.imports.now c.args.scopes.now) c.args.out.now c.push.new.self c.in_ok-rewrite_statement-in-None.field-0 (statement_term c.args.s.now) c.requires c.in-None.ensures p c.in_ok-rewrite_statement-in-None.ensures.term)
    c.push.ensures.ok

pub returns-in_ok-made-in-Some-clause-terms : goal.returns-in_ok-made-in-Some-clause-terms
returns-in_ok-made-in-Some-clause-terms c =
    on_ok_weaker c.push-in-Some.result
    (λ p. export_kept (names_env c.args.imports.now c.args.scopes.now) c.args.out.now c.push-in-Some.new.self c.args.s.now c.declaration_statement.result c.in-Some.n.now c.in-Some.ensures p (c.declaration_statement.ensures ∙ c.in_ok-made-in-Some.ensures.term))
    c.push-in-Some.ensures.ok
