use Rattle.std.proofs.Common.{◌≡◌, take, map}
use Rattle.small_tree.specs.TermOf.{expression_term, statement_term, declarator_term, property_term}
use Rattle.prepare_core.specs.Carried.{carried}
use Rattle.prepare_core.specs.Names.{names_env}
use Rattle.prepare_core.proofs.walk.+rewrite.Given as goal

abbrev pub invariant-rewrite_each-loop-one : goal.invariant-rewrite_each-loop-one
invariant-rewrite_each-loop-one l = record {
  same : l.scopes ≡ l.fn.scopes;
  terms : map expression_term l.out ≡ map (λ e. carried (names_env l.imports l.fn.scopes) (expression_term e)) (take l.one-index l.items);
}

abbrev pub invariant-rewrite_properties-loop-one : goal.invariant-rewrite_properties-loop-one
invariant-rewrite_properties-loop-one l = record {
  same : l.scopes ≡ l.fn.scopes;
  terms : map (property_term expression_term) l.out ≡ map (λ p. carried (names_env l.imports l.fn.scopes) (property_term expression_term p)) (take l.one-index l.items);
}

abbrev pub invariant-rewrite_function-loop-one : goal.invariant-rewrite_function-loop-one
invariant-rewrite_function-loop-one l = record {
  same : l.scopes ≡ l.initial.scopes;
  terms : map statement_term l.out ≡ map (λ s. carried (names_env l.imports l.initial.scopes) (statement_term s)) (take l.one-index l.one-items);
}

abbrev pub invariant-rewrite_declarators-loop-one : goal.invariant-rewrite_declarators-loop-one
invariant-rewrite_declarators-loop-one l = record {
  same : l.scopes ≡ l.fn.scopes;
  terms : map declarator_term l.out ≡ map (λ d. carried (names_env l.imports l.fn.scopes) (declarator_term d)) (take l.one-index l.items);
}
