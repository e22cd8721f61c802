-- The text of each statement, by the texts of its parts.
use Rattle.std.proofs.Common.{◌≡◌, refl, sym, ◌∙◌, ap, List, [], ◌∷◌, ◌++◌, map, Option, None, Some, Bool, false, ◌||◌, append_assoc}
use Rattle.std.specs.Prelude.{codes, option_map}
use Rattle.js_term.specs.Term.{Text, Term, absent, list, node, more, one, two, all, maybe, flag}
use Rattle.js_term.specs.declared.kind.Kind.TheVariants as Kind
use Rattle.js_term.specs.Spells.{is_string_literal}
use Rattle.small_tree.specs.TermOf.{expression_term, declaration_term, statement_term, function_term, declarator_term, parameter_term, parameters_term, binding_term, pattern_term, body_term, function_word, variable_word, specifier_term, program_term}
use Rattle.small_tree.proofs.Levels.{d_VariableDeclaration, d_FunctionDeclaration, s_ExpressionStatement, s_ReturnStatement, s_VariableDeclaration, s_FunctionDeclaration, s_ImportDeclaration, s_ExportDeclaration, function_parts, declarator_parts}
use Rattle.small_tree.specs.declared.expression.Expression.{Expression}
use Rattle.small_tree.specs.declared.module.Declaration.{Declaration}
use Rattle.small_tree.specs.declared.module.Declaration.TheVariants as declaration
use Rattle.small_tree.specs.declared.statement.Statement.{Statement}
use Rattle.small_tree.specs.declared.statement.Statement.TheVariants as statement
use Rattle.small_tree.specs.declared.statement.ExpressionStatement.{ExpressionStatement}
use Rattle.small_tree.specs.declared.statement.ReturnStatement.{ReturnStatement}
use Rattle.small_tree.specs.declared.statement.VariableDeclaration.{VariableDeclaration}
use Rattle.small_tree.specs.declared.statement.VariableDeclarator.{VariableDeclarator}
use Rattle.small_tree.specs.declared.module.ImportDeclaration.{ImportDeclaration}
use Rattle.small_tree.specs.declared.module.ImportSpecifier.{ImportSpecifier}
use Rattle.small_tree.specs.declared.module.ModuleExportName.TheVariants as export_name
use Rattle.small_tree.specs.declared.id.IdentifierName.{IdentifierName}
use Rattle.small_tree.specs.declared.id.IdentifierReference.{IdentifierReference}
use Rattle.small_tree.specs.declared.module.ExportDeclaration.{ExportDeclaration}
use Rattle.small_tree.specs.declared.module.Program.{Program}
use Rattle.small_tree.specs.declared.function.Function.{Function}
use Rattle.small_tree.specs.declared.function.FunctionBody.{FunctionBody}
use Rattle.small_tree.specs.declared.function.FunctionKind.{FunctionKind}
use Rattle.small_tree.specs.declared.function.FunctionKind.TheVariants as function_kind
use Rattle.small_tree.specs.declared.function.BindingPattern.{BindingPattern}
use Rattle.small_tree.specs.declared.function.BindingPattern.TheVariants as binding_pattern
use Rattle.small_tree.specs.declared.function.FormalParameter.{FormalParameter}
use Rattle.small_tree.specs.declared.function.FormalParameters.{FormalParameters}
use Rattle.small_tree.specs.declared.id.BindingIdentifier.{BindingIdentifier}
use Rattle.small_tree.specs.declared.expression.StringLiteral.{StringLiteral}
use Rattle.js_print.specs.Layout.{pieces, printed, commas, braces, lines, quoted, renamed_text, is_looser, leads, no_need, held, layout}
use Rattle.js_print.specs.Parts.{id_text, function_start, imported_text}
use Rattle.js_print.proofs.Rows.{one_text, needs_parentheses, held_expression, pieces_each, statements_pieces}

-- functions

abbrev pub pattern_text : BindingPattern → Text
pattern_text q = one_text (pattern_term q)

abbrev pub parameter_name : FormalParameter BindingPattern → Text
parameter_name p = pattern_text p.pattern

abbrev pub parameters_text : List (FormalParameter BindingPattern) → Text
parameters_text ps = codes "(" ++ (commas (map parameter_name ps) ++ codes ")")

abbrev pub statements_text : List Statement → Text
statements_text ss = braces (codes " ") (map (λ s. one_text (statement_term s)) ss)

pattern_piece : (p : FormalParameter BindingPattern) → pieces (held no_need (parameter_term p)) ≡ printed (held no_need (parameter_term p)) ∷ []
pattern_piece p = refl

parameter_is : (p : FormalParameter BindingPattern) → one_text (parameter_term p) ≡ parameter_name p
parameter_is p = pattern_first p.pattern
  where
    pattern_first : (q : BindingPattern) → one_text (node Kind.FormalParameter [] (two (pattern_term q) absent)) ≡ pattern_text q
    pattern_first (binding_pattern.BindingIdentifier n) = refl

map_same : {A : Type 0} (F G : A → Text) → ((a : A) → F a ≡ G a) → (xs : List A) → map F xs ≡ map G xs
map_same F G e [] = refl
map_same F G e (x ∷ xs) = λ i. e x i ∷ map_same F G e xs i

parameters_is : (ps : FormalParameters BindingPattern) → one_text (parameters_term ps) ≡ parameters_text ps.items
parameters_is ps = ap (λ xs. codes "(" ++ (commas xs ++ codes ")")) (pieces_each parameter_term no_need pattern_piece ps.items ∙ map_same (λ p. one_text (parameter_term p)) parameter_name parameter_is ps.items)

body_is : (b : FunctionBody Statement) → one_text (body_term statement_term b) ≡ statements_text b.statements
body_is b = ap (braces (codes " ")) (statements_pieces b.statements)

id_is : (o : Option BindingIdentifier) → printed (held no_need (maybe (option_map binding_term o))) ≡ id_text o
id_is None = refl
id_is (Some n) = refl

abbrev pub function_text : Function → Text
function_text n = function_start n.kind n.id ++ (parameters_text n.params.items ++ (codes " " ++ statements_text n.body.statements))

function_by : (k : FunctionKind) (texts : List Text) (o : Option BindingIdentifier) (ps : FormalParameters BindingPattern) (b : FunctionBody Statement) → one_text (node (function_word k) texts (more (maybe (option_map binding_term o)) (two (parameters_term ps) (body_term statement_term b)))) ≡ function_start k o ++ (parameters_text ps.items ++ (codes " " ++ statements_text b.statements))
function_by function_kind.FunctionDeclaration texts o ps b = λ i. codes "function " ++ (id_is o i ++ (parameters_is ps i ++ (codes " " ++ body_is b i)))
function_by function_kind.FunctionExpression texts o ps b = λ i. parameters_is ps i ++ (codes " " ++ body_is b i)

pub r_Function : (n : Function) → one_text (function_term n) ≡ function_text n
r_Function n = ap one_text (function_parts n) ∙ function_by n.kind (flag n.is_async (codes "async") ∷ flag n.is_generator (codes "*") ∷ []) n.id n.params n.body

-- a function, once its parts are printed
pub function_printed : (n : Function) (old a b c new : Text) → a ≡ old ++ function_start n.kind n.id → b ≡ a ++ parameters_text n.params.items → c ≡ b ++ codes " " → new ≡ c ++ statements_text n.body.statements → new ≡ old ++ one_text (function_term n)
function_printed n old a b c new p q r s =
    let start : Text = function_start n.kind n.id in
    let ps : Text = parameters_text n.params.items in
    let ss : Text = statements_text n.body.statements in
    s ∙ ap (λ z. z ++ ss) (r ∙ ap (λ z. z ++ codes " ") (q ∙ ap (λ z. z ++ ps) p))
    ∙ append_assoc ((old ++ start) ++ ps) (codes " ") ss ∙ append_assoc (old ++ start) ps (codes " " ++ ss) ∙ append_assoc old start (ps ++ (codes " " ++ ss))
    ∙ ap (λ z. old ++ z) (sym (r_Function n))

-- declarations

abbrev pub declarator_text : VariableDeclarator → Text
declarator_text d = one_text (declarator_term d)

pub r_declarator_none : (d : VariableDeclarator) → d.init ≡ None → declarator_text d ≡ pattern_text d.id ++ (codes " = " ++ [])
r_declarator_none d h = ap one_text (declarator_parts d) ∙ rw h (ap (λ x. x ++ (codes " = " ++ [])) (declared d.id))
  where
    declared : (q : BindingPattern) → printed (held (is_looser 2) (pattern_term q)) ≡ pattern_text q
    declared (binding_pattern.BindingIdentifier n) = refl

pub r_declarator_some : (d : VariableDeclarator) (e : Expression) → d.init ≡ Some e → declarator_text d ≡ pattern_text d.id ++ (codes " = " ++ needs_parentheses (is_looser 2) e)
r_declarator_some d e h = ap one_text (declarator_parts d) ∙ rw h (λ i. declared d.id i ++ (codes " = " ++ printed (held_expression (is_looser 2) e i)))
  where
    declared : (q : BindingPattern) → printed (held (is_looser 2) (pattern_term q)) ≡ pattern_text q
    declared (binding_pattern.BindingIdentifier n) = refl

declarator_piece : (d : VariableDeclarator) → pieces (held no_need (declarator_term d)) ≡ printed (held no_need (declarator_term d)) ∷ []
declarator_piece d = rw (declarator_parts d) refl

abbrev pub variables_text : VariableDeclaration VariableDeclarator → Text
variables_text n = variable_word n.kind ++ (codes " " ++ (commas (map declarator_text n.declarations) ++ codes ";"))

variables_is : (n : VariableDeclaration VariableDeclarator) → one_text (node Kind.VariableDeclaration (variable_word n.kind ∷ []) (one (list (all (map declarator_term n.declarations))))) ≡ variables_text n
variables_is n = ap (λ xs. variable_word n.kind ++ (codes " " ++ (commas xs ++ codes ";"))) (pieces_each declarator_term no_need declarator_piece n.declarations)

pub r_d_VariableDeclaration : (n : VariableDeclaration VariableDeclarator) → one_text (declaration_term (declaration.VariableDeclaration n)) ≡ variables_text n
r_d_VariableDeclaration n = ap one_text (d_VariableDeclaration n) ∙ variables_is n

pub r_d_FunctionDeclaration : (n : Function) → one_text (declaration_term (declaration.FunctionDeclaration n)) ≡ one_text (function_term n)
r_d_FunctionDeclaration n = ap one_text (d_FunctionDeclaration n)

-- statements

pub r_VariableDeclaration : (n : VariableDeclaration VariableDeclarator) → one_text (statement_term (statement.VariableDeclaration n)) ≡ variables_text n
r_VariableDeclaration n = ap one_text (s_VariableDeclaration n) ∙ variables_is n

pub r_FunctionDeclaration : (n : Function) → one_text (statement_term (statement.FunctionDeclaration n)) ≡ one_text (function_term n)
r_FunctionDeclaration n = ap one_text (s_FunctionDeclaration n)

abbrev pub reads_otherwise : Term → Bool
reads_otherwise t = leads t || is_string_literal t

pub r_ExpressionStatement : (n : ExpressionStatement Expression) → one_text (statement_term (statement.ExpressionStatement n)) ≡ needs_parentheses reads_otherwise n.expression ++ codes ";"
r_ExpressionStatement n = ap one_text (s_ExpressionStatement n) ∙ ap (λ t. printed t ++ codes ";") (held_expression reads_otherwise n.expression)

pub r_return_none : (n : ReturnStatement Expression) → n.argument ≡ None → one_text (statement_term (statement.ReturnStatement n)) ≡ codes "return ;"
r_return_none n h = ap one_text (s_ReturnStatement n) ∙ rw h refl

pub r_return_some : (n : ReturnStatement Expression) (e : Expression) → n.argument ≡ Some e → one_text (statement_term (statement.ReturnStatement n)) ≡ codes "return " ++ (one_text (expression_term e) ++ codes ";")
r_return_some n e h = ap one_text (s_ReturnStatement n) ∙ rw h refl

pub r_ExportDeclaration : (n : ExportDeclaration Declaration) → one_text (statement_term (statement.ExportDeclaration n)) ≡ codes "export " ++ one_text (declaration_term n.declaration)
r_ExportDeclaration n = ap one_text (s_ExportDeclaration n)

pub r_specifier_name : (n : ImportSpecifier) (m : IdentifierName) → n.imported ≡ export_name.IdentifierName m → one_text (specifier_term n) ≡ renamed_text false m.name n.local.name
r_specifier_name n m h = rw h refl

pub r_specifier_reference : (n : ImportSpecifier) (m : IdentifierReference) → n.imported ≡ export_name.IdentifierReference m → one_text (specifier_term n) ≡ renamed_text false m.name n.local.name
r_specifier_reference n m h = rw h refl

pub r_specifier_string : (n : ImportSpecifier) (m : StringLiteral) → n.imported ≡ export_name.StringLiteral m → one_text (specifier_term n) ≡ quoted m.value ++ (codes " as " ++ n.local.name)
r_specifier_string n m h = rw h refl

import_by : (n : ImportDeclaration) (o : Option (List ImportSpecifier)) → n.specifiers ≡ o → one_text (statement_term (statement.ImportDeclaration n)) ≡ codes "import { " ++ (imported_text o ++ (codes " } from " ++ (quoted n.source.value ++ codes ";")))
import_by n None h = ap one_text (s_ImportDeclaration n) ∙ rw h refl
import_by n (Some ss) h = ap one_text (s_ImportDeclaration n) ∙ rw h (ap (λ xs. codes "import { " ++ (commas xs ++ (codes " } from " ++ (quoted n.source.value ++ codes ";")))) (pieces_each specifier_term no_need (λ s. refl) ss))

-- an import, once its parts are printed
pub import_printed : (n : ImportDeclaration) (old a b c d new : Text) → a ≡ old ++ codes "import { " → b ≡ a ++ imported_text n.specifiers → c ≡ b ++ codes " } from " → d ≡ c ++ quoted n.source.value → new ≡ d ++ codes ";" → new ≡ old ++ one_text (statement_term (statement.ImportDeclaration n))
import_printed n old a b c d new p q r s t =
    let is : Text = imported_text n.specifiers in
    let source : Text = quoted n.source.value in
    t ∙ ap (λ z. z ++ codes ";") (s ∙ ap (λ z. z ++ source) (r ∙ ap (λ z. z ++ codes " } from ") (q ∙ ap (λ z. z ++ is) p)))
    ∙ append_assoc (((old ++ codes "import { ") ++ is) ++ codes " } from ") source (codes ";")
    ∙ append_assoc ((old ++ codes "import { ") ++ is) (codes " } from ") (source ++ codes ";")
    ∙ append_assoc (old ++ codes "import { ") is (codes " } from " ++ (source ++ codes ";"))
    ∙ append_assoc old (codes "import { ") (is ++ (codes " } from " ++ (source ++ codes ";")))
    ∙ ap (λ z. old ++ z) (sym (import_by n n.specifiers refl))

-- a module

pub r_Program : (n : Program) → layout (program_term n) ≡ lines (map (λ s. one_text (statement_term s)) n.body)
r_Program n = ap lines (statements_pieces n.body)
