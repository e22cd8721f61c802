-- The node of each kind by its parts, in the order in which they stand in a text.
use Rattle.std.specs.Prelude.{List, [], ◌∷◌, Bool, true, false, codes}
use Rattle.js_term.specs.Term.{Text, Term, absent, list, node, Terms, none, more, one, two}
use Rattle.js_term.specs.declared.kind.Kind.TheVariants as Kind

abbrev pub identifier_of : Text → Term
identifier_of x = node Kind.Identifier (x ∷ []) none

abbrev pub binding_of : Text → Term
binding_of x = node Kind.BindingIdentifier (x ∷ []) none

abbrev pub name_of : Text → Term
name_of x = node Kind.IdentifierName (x ∷ []) none

abbrev pub string_of : Text → Term
string_of value = node Kind.StringLiteral (value ∷ []) none

abbrev pub number_of : Text → Term
number_of raw = node Kind.NumericLiteral (raw ∷ []) none

abbrev pub truth : Bool → Text
truth true = codes "true"
truth false = codes "false"

abbrev pub boolean_of : Bool → Term
boolean_of b = node Kind.BooleanLiteral (truth b ∷ []) none

-- f(ts)
abbrev pub call_of : Term → Terms → Term
call_of f ts = node Kind.CallExpression ([] ∷ []) (two f (list ts))

-- t.x
abbrev pub member_of : Term → Text → Term
member_of t x = node Kind.StaticMemberExpression ([] ∷ []) (two t (name_of x))

abbrev pub sequence_of : Terms → Term
sequence_of ts = node Kind.SequenceExpression [] (one (list ts))

abbrev pub await_of : Term → Term
await_of t = node Kind.AwaitExpression [] (one t)

abbrev pub array_of : Terms → Term
array_of ts = node Kind.ArrayExpression [] (one (list ts))

abbrev pub object_of : Terms → Term
object_of ts = node Kind.ObjectExpression [] (one (list ts))

abbrev pub parenthesized_of : Term → Term
parenthesized_of t = node Kind.ParenthesizedExpression [] (one t)

-- The texts of a property: its kind, and the flags method, shorthand and computed.
-- x: t
abbrev pub property_of : Text → Term → Term
property_of x t = node Kind.ObjectProperty (codes "init" ∷ [] ∷ [] ∷ [] ∷ []) (two (name_of x) t)

abbrev pub named : List Text → Terms
named [] = none
named (x ∷ xs) = more (node Kind.FormalParameter [] (two (binding_of x) absent)) (named xs)

-- parameters that are plain names, and no rest parameter
abbrev pub parameters_of : List Text → Term
parameters_of xs = node Kind.FormalParameters [] (two (list (named xs)) absent)

-- statements, behind no directive
abbrev pub body_of : Terms → Term
body_of ts = node Kind.FunctionBody [] (two (list none) (list ts))

-- The texts of a function: the flags async and generator.
-- function x(xs) { ts }
abbrev pub function_of : Text → List Text → Terms → Term
function_of x xs ts = node Kind.FunctionDeclaration ([] ∷ [] ∷ []) (more (binding_of x) (two (parameters_of xs) (body_of ts)))

-- the function of a method
abbrev pub method_of : List Text → Terms → Term
method_of xs ts = node Kind.FunctionExpression ([] ∷ [] ∷ []) (more absent (two (parameters_of xs) (body_of ts)))

-- x(xs) { ts }
abbrev pub method_property_of : Text → List Text → Terms → Term
method_property_of x xs ts = node Kind.ObjectProperty (codes "init" ∷ codes "method" ∷ [] ∷ [] ∷ []) (two (name_of x) (method_of xs ts))

-- const x = t;
abbrev pub const_of : Text → Term → Term
const_of x t = node Kind.VariableDeclaration (codes "const" ∷ []) (one (list (one (node Kind.VariableDeclarator [] (two (binding_of x) t)))))

-- return t;
abbrev pub return_of : Term → Term
return_of t = node Kind.ReturnStatement [] (one t)

-- t;
abbrev pub statement_of : Term → Term
statement_of t = node Kind.ExpressionStatement [] (one t)

-- x as y
abbrev pub specifier_of : Text → Text → Term
specifier_of x y = node Kind.ImportSpecifier [] (two (name_of x) (binding_of y))

-- import { ts } from 'source';
abbrev pub import_declaration_of : Terms → Text → Term
import_declaration_of ts source = node Kind.ImportDeclaration [] (two (list ts) (string_of source))

-- export t
abbrev pub export_declaration_of : Term → Term
export_declaration_of t = node Kind.ExportDeclaration [] (one t)

-- a module without a hashbang and without directives
abbrev pub program_of : Terms → Term
program_of ts = node Kind.Program [] (two (list none) (list ts))
