-- The terms of the nodes that the reader makes.
use Rattle.std.proofs.Common.{◌≡◌, ◌≢◌, ℕ, nat_le, false, List, [], ◌∷◌, ◌++◌, Some, map, refl, ◌∙◌}
use Rattle.js_term.specs.Term.{Text, Term, all, two, node}
use Rattle.js_term.specs.declared.kind.Kind.TheVariants as Kind
use Rattle.js_term.specs.Node.{call_of, member_of, const_of, binding_of, named, function_of, return_of, statement_of, import_declaration_of}
use Rattle.small_tree.specs.TermOf.{expression_term, declaration_term, statement_term, declarator_term, parameter_term, specifier_term}
use Rattle.small_tree.proofs.Levels.{e_CallExpression, e_StaticMemberExpression, d_VariableDeclaration, d_FunctionDeclaration, s_ReturnStatement, s_ExpressionStatement, s_ImportDeclaration, declarator_parts, function_parts}
use Rattle.small_tree.specs.declared.expression.Expression.{Expression}
use Rattle.small_tree.specs.declared.expression.Expression.TheVariants as expression
use Rattle.small_tree.specs.declared.expression.CallExpression.{CallExpression}
use Rattle.small_tree.specs.declared.expression.StaticMemberExpression.{StaticMemberExpression}
use Rattle.small_tree.specs.declared.id.BindingIdentifier.{BindingIdentifier}
use Rattle.small_tree.specs.declared.function.BindingPattern.{BindingPattern}
use Rattle.small_tree.specs.declared.function.BindingPattern.TheVariants as pattern
use Rattle.small_tree.specs.declared.function.FormalParameter.{FormalParameter}
use Rattle.small_tree.specs.declared.function.Function.{Function}
use Rattle.small_tree.specs.declared.function.FunctionKind.TheVariants as function
use Rattle.small_tree.specs.declared.statement.VariableDeclarator.{VariableDeclarator}
use Rattle.small_tree.specs.declared.statement.VariableDeclaration.{VariableDeclaration}
use Rattle.small_tree.specs.declared.statement.VariableDeclarationKind.TheVariants as kind
use Rattle.small_tree.specs.declared.statement.ReturnStatement.{ReturnStatement}
use Rattle.small_tree.specs.declared.statement.ExpressionStatement.{ExpressionStatement}
use Rattle.small_tree.specs.declared.statement.Statement.TheVariants as statement
use Rattle.small_tree.specs.declared.module.Declaration.TheVariants as declaration
use Rattle.small_tree.specs.declared.module.ImportDeclaration.{ImportDeclaration}
use Rattle.small_tree.specs.declared.module.ImportSpecifier.{ImportSpecifier}
use Rattle.js_read.specs.Read.{fits}
use Rattle.js_read.specs.Nests.{parameter_name, parameter_names, statements_of}

pub member_seen : (n : StaticMemberExpression Expression) (o : Expression) → n.object ≡ o → n.optional ≡ false → expression_term (expression.StaticMemberExpression n) ≡ member_of (expression_term o) n.property.name
member_seen n o e f = e_StaticMemberExpression n ∙ rw (e, f) refl

pub call_seen : (n : CallExpression Expression) (f : Expression) → n.callee ≡ f → n.optional ≡ false → expression_term (expression.CallExpression n) ≡ call_of (expression_term f) (all (map expression_term n.arguments))
call_seen n f e o = e_CallExpression n ∙ rw (e, o) refl

map_one : {A : Type 0} (f : A → Term) (xs : List A) (x : A) → xs ≡ [] ++ x ∷ [] → map f xs ≡ f x ∷ []
map_one f xs x e = rw e refl

pub declarator_seen : (n : VariableDeclarator) (id : BindingIdentifier) (init : Expression) → n.id ≡ pattern.BindingIdentifier id → n.init ≡ Some init →
    declarator_term n ≡ node Kind.VariableDeclarator [] (two (binding_of id.name) (expression_term init))
declarator_seen n id init e e' = declarator_parts n ∙ rw (e, e') refl

pub constant_seen : (n : VariableDeclaration VariableDeclarator) (d : VariableDeclarator) (id : BindingIdentifier) (init : Expression) → n.kind ≡ kind.Const → n.declarations ≡ [] ++ d ∷ [] →
    d.id ≡ pattern.BindingIdentifier id → d.init ≡ Some init → declaration_term (declaration.VariableDeclaration n) ≡ const_of id.name (expression_term init)
constant_seen n d id init k e e' e'' = d_VariableDeclaration n ∙ rw (k, e, declarator_seen d id init e' e'') refl

named_seen : (ns : List (FormalParameter BindingPattern)) → all (map parameter_term ns) ≡ named (map parameter_name ns)
named_seen [] = refl
named_seen (n ∷ ns) = parameter_seen n n.pattern refl (named_seen ns)
  where
    parameter_seen : (n : FormalParameter BindingPattern) (p : BindingPattern) → n.pattern ≡ p → all (map parameter_term ns) ≡ named (map parameter_name ns) →
        all (map parameter_term (n ∷ ns)) ≡ named (map parameter_name (n ∷ ns))
    parameter_seen n (pattern.BindingIdentifier b) e rest = rw (e, rest) refl

pub function_seen : (n : Function) (id : BindingIdentifier) → n.kind ≡ function.FunctionDeclaration → n.id ≡ Some id → n.is_async ≡ false → n.is_generator ≡ false → n.body.directives ≡ [] →
    declaration_term (declaration.FunctionDeclaration n) ≡ function_of id.name (parameter_names n.params) (all (statements_of n.body))
function_seen n id e1 e2 e3 e4 e5 = d_FunctionDeclaration n ∙ function_parts n ∙ rw (e1, e2, e3, e4, e5, named_seen n.params.items) refl

pub return_seen : (n : ReturnStatement Expression) (e : Expression) → n.argument ≡ Some e → statement_term (statement.ReturnStatement n) ≡ return_of (expression_term e)
return_seen n e is = s_ReturnStatement n ∙ rw is refl

pub effect_seen : (n : ExpressionStatement Expression) (e : Expression) → n.expression ≡ e → statement_term (statement.ExpressionStatement n) ≡ statement_of (expression_term e)
effect_seen n e is = s_ExpressionStatement n ∙ rw is refl

pub import_seen : (n : ImportDeclaration) (ns : List ImportSpecifier) → n.specifiers ≡ Some ns → statement_term (statement.ImportDeclaration n) ≡ import_declaration_of (all (map specifier_term ns)) n.source.value
import_seen n ns is = s_ImportDeclaration n ∙ rw is refl

pub fits_some : (limit : ℕ) (xs : List Text) → xs ≢ [] → nat_le 2 limit ≡ fits limit xs
fits_some limit [] h = absurd (h refl)
fits_some limit (x ∷ xs) h = refl

pub no_names : (ns : List (FormalParameter BindingPattern)) → map parameter_name ns ≡ [] → ns ≡ []
no_names [] h = refl
no_names (n ∷ ns) h = absurd (cc)
