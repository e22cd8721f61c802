-- Small programs for the examples: the nodes that they are made of, each beside what it is written as.
use Rattle.std.specs.Prelude.{List, [], ◌∷◌, codes}
use Rattle.js_term.specs.Term.{Text, Term, absent, list, node, none, more, one, two, all}
use Rattle.js_term.specs.declared.kind.Kind.{Kind}
use Rattle.js_term.specs.Node.{identifier_of, binding_of, name_of, string_of, statement_of, program_of, body_of}

-- names

abbrev pub a : Text
a = codes "a"

abbrev pub b : Text
b = codes "b"

abbrev pub f : Text
f = codes "f"

abbrev pub the_arguments : Text
the_arguments = codes "arguments"

-- statements

abbrev pub program : List Term → Term
program ts = program_of (all ts)

-- x;
abbrev pub say : Text → Term
say x = statement_of (identifier_of x)

-- one declaration of a pattern, by var, let or const, with a value or none
abbrev pub declare : Text → Term → Term → Term
declare word pattern value = node Kind.VariableDeclaration (word ∷ []) (one (list (one (node Kind.VariableDeclarator [] (two pattern value)))))

-- var x
abbrev pub var : Text → Term
var x = declare (codes "var") (binding_of x) absent

-- let x
abbrev pub lets : Text → Term
lets x = declare (codes "let") (binding_of x) absent

-- { ts }
abbrev pub block : List Term → Term
block ts = node Kind.BlockStatement [] (one (list (all ts)))

-- for (left of right) s
abbrev pub for_of : Term → Term → Term → Term
for_of left right s = node Kind.ForOfStatement ([] ∷ []) (more left (two right s))

-- for (init; ; ) s
abbrev pub for_from : Term → Term → Term
for_from init s = node Kind.ForStatement [] (more init (more absent (two absent s)))

-- case test: ts
abbrev pub case : Term → List Term → Term
case test ts = node Kind.SwitchCase [] (two test (list (all ts)))

-- switch (t) { cases }
abbrev pub switch : Term → List Term → Term
switch t cases = node Kind.SwitchStatement [] (two t (list (all cases)))

-- x: s
abbrev pub labeled : Text → Term → Term
labeled x s = node Kind.LabeledStatement [] (two (node Kind.LabelIdentifier (x ∷ []) none) s)

-- try {} catch (pattern) { ts }
abbrev pub caught : Term → List Term → Term
caught pattern ts = node Kind.TryStatement [] (more (block []) (two (node Kind.CatchClause [] (two (node Kind.CatchParameter [] (one pattern)) (block ts))) absent))

-- [patterns]
abbrev pub array_pattern : List Term → Term
array_pattern ts = node Kind.ArrayPattern [] (two (list (all ts)) absent)

-- functions

-- x = value, as a parameter
abbrev pub parameter : Text → Term → Term
parameter x value = node Kind.FormalParameter [] (two (binding_of x) value)

-- (a)
abbrev pub parameter_a : List Term
parameter_a = parameter a absent ∷ []

abbrev pub function_of : Kind → Term → List Term → List Term → Term
function_of k id ps ts = node k ([] ∷ [] ∷ []) (more id (two (node Kind.FormalParameters [] (two (list (all ps)) absent)) (body_of (all ts))))

-- function x(ps) { ts }
abbrev pub function : Text → List Term → List Term → Term
function x ps ts = function_of Kind.FunctionDeclaration (binding_of x) ps ts

-- (function f(ps) { ts });
abbrev pub function_f : List Term → List Term → Term
function_f ps ts = statement_of (function_of Kind.FunctionExpression (binding_of f) ps ts)

-- (ps) => t
abbrev pub arrow : List Term → Term → Term
arrow ps t = node Kind.ArrowFunctionExpression ([] ∷ []) (two (node Kind.FormalParameters [] (two (list (all ps)) absent)) t)

-- classes

abbrev pub class_of : Kind → Term → Term → List Term → Term
class_of k id heritage es = node k [] (more id (two heritage (node Kind.ClassBody [] (one (list (all es))))))

-- class a { es }
abbrev pub class_a : List Term → Term
class_a es = class_of Kind.ClassDeclaration (binding_of a) absent es

-- [key] = value
abbrev pub field : Term → Term → Term
field key value = node Kind.PropertyDefinition (codes "computed" ∷ [] ∷ []) (two key value)

-- static { ts }
abbrev pub static_block : List Term → Term
static_block ts = node Kind.StaticBlock [] (one (list (all ts)))

-- key() { ts }
abbrev pub method : Term → List Term → Term
method key ts = node Kind.MethodDefinition (codes "method" ∷ codes "computed" ∷ [] ∷ []) (two key (function_of Kind.FunctionExpression absent [] ts))

-- modules

-- import { specifiers } from 'm'
abbrev pub import : List Term → Term
import specifiers = node Kind.ImportDeclaration [] (two (list (all specifiers)) (string_of (codes "m")))

-- x, * as x, x as y
abbrev pub default_as : Text → Term
default_as x = node Kind.ImportDefaultSpecifier [] (one (binding_of x))

abbrev pub namespace_as : Text → Term
namespace_as x = node Kind.ImportNamespaceSpecifier [] (one (binding_of x))

abbrev pub named_as : Text → Text → Term
named_as x y = node Kind.ImportSpecifier [] (two (name_of x) (binding_of y))

-- export * as x from 'm'
abbrev pub export_all_as : Text → Term
export_all_as x = node Kind.ExportAllDeclaration [] (two (name_of x) (string_of (codes "m")))

-- export { x } from 'm'
abbrev pub export_from : Text → Term
export_from x = node Kind.ExportFromDeclaration [] (two (list (one (node Kind.ExportSpecifier [] (two (name_of x) (name_of x))))) (string_of (codes "m")))

-- export { x }
abbrev pub export_named : Text → Term
export_named x = node Kind.ExportNamedDeclaration [] (one (list (one (node Kind.ExportSpecifier [] (two (identifier_of x) (name_of x))))))

-- export t
abbrev pub exported : Term → Term
exported t = node Kind.ExportDeclaration [] (one t)

-- export default t
abbrev pub exported_default : Term → Term
exported_default t = node Kind.ExportDefaultDeclaration [] (one t)
